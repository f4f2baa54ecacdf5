pub mod Forms
pub mod Keywords
pub mod Printing
pub mod Rows
pub mod Words
