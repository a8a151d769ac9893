-- Laws that belong to no one file of the code.
pub mod ReadNames
pub mod Names
pub mod Verdicts
pub mod Demand3
pub mod Visible
pub mod Agree
pub mod Cases
pub mod PlaceCases
pub mod RuleCases
pub mod StaticCases
