pub mod Bounce
