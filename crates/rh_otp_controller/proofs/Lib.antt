pub mod Replies
mod Rows
