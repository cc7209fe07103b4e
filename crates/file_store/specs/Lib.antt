pub mod Files
pub mod Folder
