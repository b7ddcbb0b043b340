pub mod Text
pub mod Front
