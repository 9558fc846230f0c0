pub mod Apart
pub mod Canonical
pub mod Flags
pub mod Instances
pub mod Lists
pub mod Sizes
pub mod ThereAndBack
