pub mod Tickets
pub mod Numbers
pub mod Operations
