pub mod Keeping
pub mod Places
pub mod Rotating
pub mod Turning
