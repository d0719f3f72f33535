pub mod FromRules
