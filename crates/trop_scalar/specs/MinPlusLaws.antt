-- The laws of the min-plus semiring.
pub use Rattle.trop_theory.proofs.MinPlusLaws.{min_laws, min_number_laws, min_numeric_laws}
