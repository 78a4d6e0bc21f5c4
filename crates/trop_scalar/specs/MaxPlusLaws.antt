-- The laws of the max-plus semiring.
pub use Rattle.trop_theory.proofs.MaxPlusLaws.{max_laws, max_number_laws, max_numeric_laws}
