pub mod Growing
pub mod Decimals
pub mod HexLanes
