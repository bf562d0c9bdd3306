pub mod Lists
pub mod Buffer
pub mod Bytes
pub mod Calls
pub mod Unique
