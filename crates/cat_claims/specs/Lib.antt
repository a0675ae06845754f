pub mod Change
pub mod Claimed
pub mod Reheld
pub mod Renewed
pub mod Touched
pub mod Waiting
