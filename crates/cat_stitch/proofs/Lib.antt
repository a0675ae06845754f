mod Digits
mod Shown
mod Ids
