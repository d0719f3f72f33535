-- the next counted member
pub mod Least
pub mod From
pub mod Members
-- where keys end
pub mod Stays
pub mod Tops
-- what is written
pub mod Chained
pub mod PackedSlots
pub mod Whole
pub mod Unpacked
-- hashes
pub mod Padded
