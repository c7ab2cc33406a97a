pub mod Firsts
pub mod Leads
pub mod Sums
