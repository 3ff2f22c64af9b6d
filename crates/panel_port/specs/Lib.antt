pub mod PanelKey
pub mod Panel
pub mod Shown
pub mod MemoryPanel
pub mod CountingPanel
pub mod FailingPanel
