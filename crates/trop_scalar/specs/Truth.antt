-- The Boolean semiring, whose elements `Flag` has.
pub use Rattle.trop_theory.specs.TruthValues.{truth_ring, truth_number, truth_numbering}
