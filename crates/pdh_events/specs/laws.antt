-- The proofs of laws that other crates' ghost members cite.
pub mod KeepingLaws
pub mod ActsLaws
pub mod QuietLaws
