pub mod Replies
pub mod Settled
