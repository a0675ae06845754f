pub mod Boxed
pub mod BoxedFalls
pub mod BoxedLeft
pub mod BoxedParts
