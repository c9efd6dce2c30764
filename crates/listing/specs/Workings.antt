pub mod Units
pub mod Writers
