pub mod Numbered
pub mod Scene
pub mod Painting
pub mod InStep
