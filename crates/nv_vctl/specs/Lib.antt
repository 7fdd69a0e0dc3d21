pub mod Inside
pub mod Next
pub mod Vctl
