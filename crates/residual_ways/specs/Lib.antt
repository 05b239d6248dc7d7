pub mod Layout
pub mod Rooms
pub mod Steps
pub mod Ways
