pub mod Canonical
pub mod Finite
pub mod Instances
pub mod Passing
pub mod ThereAndBack
