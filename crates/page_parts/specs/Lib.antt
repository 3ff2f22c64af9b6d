pub mod Reader
pub mod Numbers
pub mod Texts
pub mod Lists
pub mod Pointers
pub mod RelatedObjects
pub mod Coordinates
pub mod Attributes
