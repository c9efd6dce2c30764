pub mod Years
pub mod Places
pub mod Stretches
pub mod Weights
