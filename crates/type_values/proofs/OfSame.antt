pub mod SideBySide
pub mod OfKind
