pub mod Administering
pub mod DataStructure
pub mod Effect
pub mod Event
pub mod Identify
pub mod PageBuffer
