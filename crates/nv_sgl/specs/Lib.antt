pub mod Chain
pub mod Cursor
pub mod Parse
