pub mod Error
pub mod Layout
