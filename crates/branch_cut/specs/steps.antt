pub mod Fixed
pub mod Lows
