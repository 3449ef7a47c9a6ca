pub mod ShareLaws
pub mod WindowLaws
pub mod SignalTests
pub mod TurnShares
pub mod FollowsLaws
pub mod PushLaws
