pub mod PanelKeys
pub mod PanelEntries
pub mod Scenes
