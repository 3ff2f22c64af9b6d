pub mod Text
pub mod Colour
pub mod DepthArea
pub mod EdgeAnswers
pub mod Contours
pub mod Soundings
