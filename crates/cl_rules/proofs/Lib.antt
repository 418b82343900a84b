mod Rising
mod Placing
mod Walk
mod Judged
mod FormWalk
mod ComputedBreaks
mod ComputedBounds
mod ComputedRows
mod ComputedLater
mod ComputedCalls
mod Accepting
mod PlacedTest
mod ComputedFirsts
mod TextForms
mod FormRulesOnce
mod OneUnordered
mod OneFirst
pub mod BoundStops
pub mod Matches
