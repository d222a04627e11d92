-- Laws of marks of nodes.
pub mod MarkedRows
pub mod NotedMarks
