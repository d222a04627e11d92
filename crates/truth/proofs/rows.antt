-- Laws of rows: the words of a set of nodes, and loops over the nodes of a row.
pub mod RowLaws
pub mod RowSets
pub mod RowWalks
pub mod RowEnds
pub mod RowMembers
