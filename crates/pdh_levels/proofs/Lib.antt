pub mod NodeOrder
pub mod LevelLaws
pub mod LeafLaws
pub mod DelayLaws
pub mod Worked
