-- The min-plus semiring, of which `MinInt` has the elements that fit in a word.
pub use Rattle.trop_theory.specs.MinPlus.{lesser, min_plus, min_ring}
