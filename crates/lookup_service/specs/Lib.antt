pub mod replies
pub mod chains
pub mod link
pub mod workers
pub mod States
pub mod Sessions
pub mod Requests
