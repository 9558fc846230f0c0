pub mod Error
pub mod Tariff
pub mod Within
