mod Telling
mod Running
mod Writing
