pub mod TypeNodes
