pub mod BaseTrees
pub mod KeyLists
pub mod Rising
