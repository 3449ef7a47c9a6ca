pub mod EachEvent
pub mod TopEvents
pub mod SentTold
pub mod SaidLaws
pub mod KnownFrames
