mod NamedAt
mod InheritedParts
mod Measuring
mod Lightened
mod Numbering
mod Keeping
mod StructureClear
mod ValidBy
mod Stood
mod Outlined
mod TextLoops
pub mod Beginnings
