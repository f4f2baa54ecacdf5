mod Adds
mod Apart
mod Drawing
mod Landing
mod Penned
mod Pieces
mod Worlds
