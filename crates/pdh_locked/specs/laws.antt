-- Laws that ghost members cite.
pub mod LockedLaws
pub mod GatheredLaws
