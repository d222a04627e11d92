-- Laws of the first start node outside a row.
pub mod BreakNodes
