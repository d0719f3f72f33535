-- What is spelled under the writer's type is read under the reader's: steps and leaves, the weaker relation that the induction goes over,
-- the parts of a structure in both representations, and the induction itself
pub mod Steps
pub mod Leaves
pub mod Agreement
pub mod Agreement1
pub mod InOrder
pub mod Nonempty
pub mod Nonempty1
pub mod Cases
pub mod Cases1
pub mod Headers
pub mod Headers1
pub mod AnyOrder
pub mod AnyOrderWhole
pub mod Law
pub mod Law1
pub mod Self
-- what is assignable keeps that relation
pub mod Rules
pub mod Rules1
pub mod Widen
-- the fixed spelling is a spelling
pub mod FixedPieces
pub mod FixedPieces1
pub mod FixedLaw
pub mod FixedLaw1
pub mod SizeLaw
-- the first failure and the relation
pub mod Same
pub mod Labels
pub mod Judge
pub mod TopJudge
-- keys come through, and key octets tell them apart
pub mod KeySort
pub mod KeyAt
pub mod KeyLaw
pub mod KeyKept
pub mod KeyTop
pub mod KeyTypes
pub mod KeySame
pub mod KeyInstances
-- what is projected and read has the reader's type
pub mod GatherTyped
pub mod ProjectTyped
pub mod ProjectLaw
pub mod Gives
pub mod ReadParts
pub mod ReadParams
pub mod ReadLaw
pub mod ReadLaw1
-- what a reading costs: nodes, and octets of keys
pub mod Costs
pub mod PartCosts
pub mod NodesBuilt
pub mod NodesParts
pub mod NodesMembers
pub mod NodesSteps
pub mod NodesParams
pub mod NodesLaw
pub mod NodesLaw1
pub mod KeyRoom
pub mod KeyCosts
pub mod KeyCosts1
pub mod KeyLength
-- the laws: with the premises that each part asks for, of bodies and samples, and of valid types
pub mod Statements
pub mod SampleLaw
pub mod Crossing
pub mod Theorems
