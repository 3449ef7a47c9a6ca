-- The proofs of the laws that ghost members give. They stand here, since a ghost member cites only `specs/`.
pub mod InRoom
pub mod WaitingLaws
