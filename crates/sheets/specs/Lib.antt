pub mod Bytes
pub mod Layout
pub mod Reading
pub mod Report
pub mod Sheets
pub mod Steps
