pub mod Apart
pub mod CutWalk
pub mod Examples
pub mod ExtentRows
pub mod Pushed
pub mod Ranges
pub mod Spelled
