-- The laws of the Boolean semiring.
pub use Rattle.trop_theory.proofs.TruthValueLaws.{truth_laws, truth_number_laws}
