pub mod GapLists
