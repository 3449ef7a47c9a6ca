-- Laws that ghost members cite.
pub mod Growing
pub mod Carrying
pub mod Longer
pub mod NodeLaws
pub mod LeafLaws
pub mod Stepping
pub mod Each
pub mod StoredLaws
pub mod GatheredLaws
