mod Ruled
mod Served
