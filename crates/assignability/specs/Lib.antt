pub mod Views
pub mod Met
