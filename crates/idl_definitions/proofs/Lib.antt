pub mod DefinitionLoops
pub mod MakeSteps
pub mod LiteralNames
pub mod LabelForms
