pub mod FrontLemmas
pub mod TextLemmas
