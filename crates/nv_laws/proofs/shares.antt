pub mod OneArea
