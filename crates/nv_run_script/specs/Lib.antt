pub mod RunTasks
pub mod RunScript
pub mod RunRows
