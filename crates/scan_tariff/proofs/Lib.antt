pub mod Cents
pub mod Instances
pub mod Sizes
pub mod Theorems
