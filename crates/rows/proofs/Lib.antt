pub mod Lists
pub mod RowLists
pub mod Gathers
