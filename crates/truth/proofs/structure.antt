-- Laws of the machine's structure in rows: loops over nodes and chains, and edges backwards.
pub mod NodeLoops
pub mod ChainRows
pub mod EdgesBack
pub mod EdgesAdded
pub mod TargetRows
