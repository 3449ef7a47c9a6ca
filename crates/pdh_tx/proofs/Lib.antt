pub mod Firsts
pub mod Moving
pub mod Lists
mod LeafSteps
pub mod TributarySteps
pub mod Gaining
pub mod Advancing
pub mod Storing
pub mod Telling
mod SlipSteps
mod Slips
pub mod Readouts
mod ArrivalSteps
mod Arriving
mod FrameStarts
mod Reading
pub mod BitSteps
pub mod Parity
pub mod Saying
pub mod SenderSteps
pub mod NodeSteps
mod Fills
pub mod Opening
mod Feeding
pub mod Passing
pub mod BatchSlots
pub mod Gathered
pub mod GatheredPieces
pub mod Gathering
pub mod GatherSlots
pub mod PassingAll
mod OnePasses
pub mod Clearing
pub mod Overhead
pub mod PieceSteps
mod Begun
pub mod NodePieces
pub mod MakingAll
pub mod MakingAhead
pub mod GatheredBits
mod LeafPieces
mod QuietStores
mod QuietSlots
