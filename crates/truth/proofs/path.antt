-- Laws of the path call: its questions, the list for a line, what is made, what is written.
pub mod PathTable
pub mod SameLists
pub mod ShownLines
pub mod PathLines
pub mod PathMade
pub mod WrittenLists
pub mod ShownPaths
