pub mod Words
pub mod Back
pub mod Named
pub mod Places
pub mod Run
