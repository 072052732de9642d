pub mod Results
pub mod Bytes
pub mod Words
pub mod Numbers
pub mod Values
pub mod Forms
pub mod Lines
pub mod laws
