pub mod SessionComes
pub mod SessionWatched
