pub mod CrcLaws
pub mod OctetLaws
pub mod WordLaws
pub mod PackingLaws
