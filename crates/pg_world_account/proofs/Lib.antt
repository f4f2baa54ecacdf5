mod Accounts
pub mod Compared
mod CopiedRows
mod LastEntries
mod NamedGroups
mod OneEntry
mod Rowed
mod Tallies
