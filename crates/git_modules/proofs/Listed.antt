-- The submodules of a file: their names, the values that Git uses, and of how many each path is.
pub mod UseLemmas
pub mod NameLemmas
pub mod PathLemmas
