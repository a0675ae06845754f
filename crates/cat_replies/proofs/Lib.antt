mod Pieces
mod Waiting
