-- Components of a path: cut, borrowed, returned, compared.
pub mod CutComponentLemmas
pub mod ComponentLemmas
