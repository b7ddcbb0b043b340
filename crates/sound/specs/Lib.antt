pub mod Keys
pub mod Tree
pub mod Fit
pub mod Sorted
pub mod Pass
pub mod Found
pub mod AnyDirectory
