pub mod Built
pub mod Spelled
pub mod Cursor
pub mod Fits
pub mod Met
pub mod Parse
pub mod Named
