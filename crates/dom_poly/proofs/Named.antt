-- The same cone by the names of its parts.
use Rattle.std.proofs.Common.{◌≡◌, ℕ, suc, Bool, List, sym, subst, subst₂, arith}
use Rattle.std.specs.Prelude.{◌↔◌, IsTrue}
use Rattle.trop_theory.specs.Semiring.{Semiring}
use Rattle.trop_theory.specs.Combinations.{IsCombination}
use Rattle.trop_poly.specs.Cones.{Cone, InCone}
use Rattle.trop_poly.proofs.Kept.{cone_is}
use Rattle.prog_theory.specs.Edges.{Op, Skips, Sets, Havocs, Guards}
use Rattle.prog_theory.specs.Fits.{FitsOp}
use Rattle.prog_theory.specs.Statements.{Claim}
use Rattle.trop_theory.specs.Numbers.{Numbering}
use Rattle.cone_reports.specs.Readings.{IsProvenOn}
use Rattle.cone_domain.specs.Operations.{IsIncluded}
use Rattle.cone_domain.specs.Polyhedra.{IsProvenBy}
use Rattle.dom_core.specs.Claims.{FitsClaim}
use Rattle.cone_claims.specs.Terms.{IsClaimOn}
use Rattle.cone_domain.specs.Values.{Value, cone_of}
use Rattle.dom_poly.specs.Views.{IsOpIn}

module _ {V : Type 0} (v : Value V) (cone : Cone V) (width : cone.n ≡ suc v.vars) (same : cone.rows ≡ v.rows) where
  -- the cone with the parts of the value
  pub cone_as : record { n = suc v.vars; rows = v.rows } ≡ cone
  cone_as = cone_is (suc v.vars) v.rows cone (sym width) (sym same)

  pub op_in : (op : Op) → FitsOp v.vars op → IsOpIn cone.n op
  op_in Skips f = tt
  op_in (Sets x t) f = let a = f.0.0 in let b = f.0.1 in let d = f.1 in ((a, omega arith), omega arith)
  op_in (Havocs x) f = let a = f.0 in let b = f.1 in (a, omega arith)
  op_in (Guards l r) f = let a = f.0 in let b = f.1 in (omega arith, omega arith)

  pub claim_on : (claim : Claim) → FitsClaim v.vars claim → IsClaimOn cone.n claim
  claim_on claim f = (
    λ k d l. (let b = f.left k d l in omega arith, f.left_numbers k d l),
    λ k d l. (let b = f.right k d l in omega arith, f.right_numbers k d l),
  )

module _ {V : Type 0} (R : Semiring V) (b : Bool) where
  pub included_as : (v other : Value V) (cone second : Cone V) → cone.n ≡ suc v.vars → cone.rows ≡ v.rows →
      second.n ≡ suc other.vars → second.rows ≡ other.rows →
      IsTrue b ↔ ((x : List V) → InCone R cone x → InCone R second x) → IsTrue b ↔ IsIncluded R v other
  included_as v other cone second width same second_width second_same h =
      subst (λ (k : Cone V). IsTrue b ↔ ((x : List V) → InCone R k x → cone_of R other x))
      (sym (cone_as v cone width same))
      (subst (λ (k : Cone V). IsTrue b ↔ ((x : List V) → InCone R cone x → InCone R k x))
      (sym (cone_as other second second_width second_same)) h)

  pub proven_as : (N : Numbering V) (reversed : Bool) (claim : Claim) (v : Value V) (n : ℕ) (rows : List (List V)) →
      n ≡ suc v.vars → rows ≡ v.rows → IsTrue b ↔ IsProvenOn R N reversed n (IsCombination R n rows) claim →
      IsTrue b ↔ IsProvenBy R N reversed claim v
  proven_as N reversed claim v n rows width same h =
      subst₂ (λ m l. IsTrue b ↔ IsProvenOn R N reversed m (IsCombination R m l) claim) width same h
