-- A counter: what it does, its words and laws, and how its lines are written and its sums printed.
pub mod Counter
pub mod Laws
pub mod Language
