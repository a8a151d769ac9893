-- What document 01 says of resolution, over the decoded set and request of the crate `records`, then over bytes.
pub mod Lists
pub mod Loop
pub mod Owner
pub mod Resolution
pub mod Reach
pub mod Reads
pub mod Closed
pub mod Row
pub mod Graph
pub mod Configuration
pub mod Positions
pub mod Observed
pub mod Resolve
pub mod SameResolution
pub mod Hidden
pub mod Composed
pub mod Absent
pub mod Cause
pub mod PackageOwner
pub mod Cases
-- A search by names that calls itself. proofs/Visit shows that it finds what transitive requirements reach.
pub mod Visit
-- The forms that the code follows, and what private functions promise. proofs/ shows that they say the same.
pub mod Short
pub mod Resolver
pub mod Hash
pub mod Filter
pub mod Lookup
pub mod ModuleTable
pub mod Table
pub mod Known
pub mod Sources
pub mod Runs
pub mod Readability
pub mod Configure
