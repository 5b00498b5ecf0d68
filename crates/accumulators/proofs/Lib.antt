pub mod Rings
pub mod Aggregates
pub mod States
