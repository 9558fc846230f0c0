pub mod Boxes
pub mod Filters
pub mod Intervals
pub mod Layouts
pub mod Records
pub mod Tariff
pub mod Within
pub mod Wkb
