-- The definitions that the contracts cite. What a reader must believe: Pool, Entry, Attribute, ClassFile. Forms of the code:
-- Table, Measure, Output, Packages, Walk, Reader. Cases: examples.
pub mod Attribute
pub mod Cases
pub mod ClassFile
pub mod Entry
pub mod Measure
pub mod Output
pub mod Packages
pub mod Pool
pub mod Reader
pub mod Table
pub mod Walk
