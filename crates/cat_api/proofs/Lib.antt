pub mod Said
pub mod Serving
pub mod Lacking
pub mod Always
pub mod Brevity
pub mod Shown
