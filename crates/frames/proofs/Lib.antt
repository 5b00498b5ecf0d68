pub mod Previous
pub mod Partitions
