-- The proofs of the laws that ghost members give. They stand here, since a ghost member cites only `specs/`.
pub mod E2Laws
pub mod E3Laws
pub mod E4Laws
