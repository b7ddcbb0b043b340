pub mod Contents
pub mod Format
pub mod Written
