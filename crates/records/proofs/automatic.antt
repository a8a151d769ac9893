pub mod Cases
pub mod Characters
pub mod Derivation
pub mod Dots
pub mod JarNames
pub mod Parts
