-- Whoever is blamed is at fault.
pub mod Refusing
pub mod Blamed
