mod Alone
mod Started
