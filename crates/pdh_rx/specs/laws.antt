-- Laws that ghost members and the crates above cite.
pub mod Growth
pub mod NodeLaws
pub mod TailLaws
