pub mod Retried
pub mod Survived
