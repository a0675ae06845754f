pub mod LineLemmas
pub mod FieldLemmas
pub mod HeadLemmas
pub mod Stability
pub mod ReplyLemmas
pub mod TargetLemmas
pub mod FixedLemmas
