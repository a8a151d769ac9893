-- The definitions that the contracts cite, a file for each file of src/.
pub mod Automatic
pub mod Bytes
pub mod Descriptor
pub mod Error
pub mod Finder
pub mod Jar
pub mod Keys
pub mod Name
pub mod Order
pub mod Output
pub mod Record
pub mod Request
pub mod Set
pub mod Sorted
-- What a struct's parts say.
pub mod Before
pub mod Modules
-- The places of a set: the theorems speak of them, and no contract.
pub mod Places
-- Examples that the ten cases name.
pub mod Cases
