pub mod Unread
pub mod Inventories
pub mod PatternNames
pub mod Playbooks
pub mod Every
