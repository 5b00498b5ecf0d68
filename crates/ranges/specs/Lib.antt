pub mod Scans
pub mod Ranges
pub mod WindowFrames
pub mod RangeFrames
pub mod Fronts
pub mod Moves
pub mod Aims
