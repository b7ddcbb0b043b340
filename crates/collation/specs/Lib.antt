pub mod Names
pub mod Kind
