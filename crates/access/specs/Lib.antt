-- The definitions: verdicts, those of the former pair, and the graph of reads over any configuration, demand 3, the ten cases, those
-- of places, those of the other rules and those of static requirements.
pub mod Access
pub mod FormerPair
pub mod CanRead
pub mod ReadGraph
pub mod Demand3
pub mod Visible
pub mod Agree
pub mod Cases
pub mod PlaceCases
pub mod Form
pub mod RuleCases
pub mod StaticCases
-- The forms that the code follows.
pub mod Members
pub mod Question
pub mod GraphSteps
