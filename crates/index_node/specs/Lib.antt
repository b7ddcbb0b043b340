pub mod Bytes
pub mod Node
