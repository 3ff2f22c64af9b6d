mod Sound
mod Staying
