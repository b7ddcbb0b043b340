pub mod Cases
pub mod Fixture
pub mod Lent
pub mod Numbers
