-- A claim that a value proves is true of its states.
use Rattle.std.proofs.Common.{◌≡◌, ◌/◌, ◌∙◌, ℕ, false, ap, sym, subst}
use Rattle.std.specs.Prelude.{All}
use Rattle.trop_theory.specs.Semiring.{Semiring, SemiringLaws}
use Rattle.trop_theory.specs.Numbers.{Numbering, NumericLaws}
use Rattle.prog_theory.specs.Fits.{FitsTerm}
use Rattle.cone_domain.specs.Values.{Value}
use Rattle.mixed_theory.specs.Halves.{variables}
use Rattle.mixed_theory.specs.Mixed.{mixed, IsProvedBy}
use Rattle.mixed_theory.proofs.Twins.{half_of_double}
use Rattle.mixed_theory.proofs.Claims.{proved_true}
use Rattle.mixed_theory.proofs.Inclusion.{IsMixedOn}
use Rattle.dom_family.specs.Claims.{ClaimLaws}

-- a value on so many variables
pub variables_are : {V : Type 0} (R : Semiring V) (d : ℕ) (v : Value V) → IsMixedOn R d v → variables v ≡ d
variables_are R d v on = ap (λ n. n / 2) on.1 ∙ half_of_double d

module _ {V : Type 0} {R : Semiring V} {N : Numbering V} (laws : SemiringLaws R) (numbers : NumericLaws R N false)
    (d : ℕ) where
  pub claim_laws : ClaimLaws (mixed R N) d (IsMixedOn R d) (λ claim. Unit {0}) (IsProvedBy R N)
  claim_laws = record {
    true_of = λ claim v on words here proved s has.
        let same = sym (variables_are R d v on) in
        proved_true laws numbers claim v on.0 here.sides
        (subst (λ n. All (FitsTerm n) claim.left.terms) same here.left)
        (subst (λ n. All (FitsTerm n) claim.right.terms) same here.right) proved s has;
  }
