pub mod BitsLemmas
pub mod NumberLemmas
