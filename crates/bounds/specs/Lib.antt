pub mod Bounds
pub mod PeerBounds
pub mod Reasons
pub mod Orders
