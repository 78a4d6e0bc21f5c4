-- The values that the operations give are doubled again.
use Rattle.std.proofs.Common.{◌≡◌, ◌≤◌, ◌*◌, ℕ, suc, false, sym, ap, ◌∙◌, subst, arith}
use Rattle.std.specs.Prelude.{◌↔◌, Bool, IsTrue, Result, Ok, Err, IfOk}
use Rattle.trop_theory.specs.Semiring.{Semiring, SemiringLaws}
use Rattle.trop_theory.specs.Numbers.{Numbering, NumericLaws}
use Rattle.trop_theory.specs.Combinations.{IsCombination}
use Rattle.prog_theory.specs.Edges.{Op}
use Rattle.prog_theory.specs.Statements.{Claim}
use Rattle.dom_theory.specs.Relations.{Apply, Join, Widen}
use Rattle.dom_core.specs.declared.error.DomErr.{DomErr}
use Rattle.dom_core.specs.declared.error.DomErr.TheVariants.{Limit, Range, NoMemory}
use Rattle.dom_core.specs.Answers.{IsAnswer, IsMade}
use Rattle.dom_core.specs.Claims.{FitsClaim}
use Rattle.cone_domain.specs.Values.{Value, cone_of}
use Rattle.cone_domain.specs.Polyhedra.{nothing, polyhedra}
use Rattle.mixed_theory.specs.Halves.{second_half, variables}
use Rattle.mixed_theory.specs.Claims.{IsProvedOn}
use Rattle.mixed_theory.specs.Mixed.{mixed, IsProvedBy}
use Rattle.mixed_theory.proofs.Laws.{half_vars}
use Rattle.mixed_claims.specs.Terms.{IsClaimOf}
use Rattle.dom_mixed.specs.Doubled.{IsDoubled}

-- a value on twice as many
pub doubled_by : {V : Type 0} (d : ℕ) (v : Value V) → v.vars ≡ 2 * d → d ≤ 31 → IsDoubled v
doubled_by d v e l = record { twice = omega (arith, e); few = omega (arith, e, l) }

pub doubled_as : {V : Type 0} (v w : Value V) → IsDoubled v → w.vars ≡ v.vars → IsDoubled w
doubled_as v w h e = record { twice = omega (arith, e, h.twice); few = omega (arith, e, h.few) }

-- two doubled values on as many variables have as many coordinates
pub same_coordinates : {V : Type 0} (v w : Value V) → IsDoubled v → IsDoubled w → variables v ≡ variables w
    → v.vars ≡ w.vars
same_coordinates v w h k e = h.twice ∙ ap (λ d. 2 * d) e ∙ sym k.twice

pub made_doubled : {V : Type 0} (x : Value V) (made : Result (Value V) DomErr) → IsDoubled x → IsMade x made
    → IfOk made IsDoubled
made_doubled x (Ok y) h e = subst IsDoubled (sym e) h
made_doubled x (Err err) h e = tt

module _ {V : Type 0} (R : Semiring V) (N : Numbering V) where
  pub joined_doubled : (v other : Value V) (made : Result (Value V) DomErr) → IsDoubled v
      → IsAnswer (polyhedra R N false) (Join v other) made → IfOk made IsDoubled
  joined_doubled v other (Ok w) h a = doubled_as v w h a.1.gives.vars_are
  joined_doubled v other (Err err) h a = tt

  pub widened_doubled : (v next : Value V) (made : Result (Value V) DomErr) → IsDoubled v
      → IsAnswer (polyhedra R N false) (Widen v next) made → IfOk made IsDoubled
  widened_doubled v next (Ok w) h a = doubled_as v w h a.1.vars_are
  widened_doubled v next (Err err) h a = tt

  -- joins and widenings answer as those of polyhedra
  pub joined_answer : (v other : Value V) (made : Result (Value V) DomErr)
      → IsAnswer (polyhedra R N false) (Join v other) made → IsAnswer (mixed R N) (Join v other) made
  joined_answer v other (Ok w) a = a
  joined_answer v other (Err (Limit at)) a = a
  joined_answer v other (Err (Range at)) a = a
  joined_answer v other (Err NoMemory) a = a

  pub widened_answer : (v next : Value V) (made : Result (Value V) DomErr)
      → IsAnswer (polyhedra R N false) (Widen v next) made → IsAnswer (mixed R N) (Widen v next) made
  widened_answer v next (Ok w) a = a
  widened_answer v next (Err (Limit at)) a = a
  widened_answer v next (Err (Range at)) a = a
  widened_answer v next (Err NoMemory) a = a

module _ {V : Type 0} {R : Semiring V} {N : Numbering V} (laws : SemiringLaws R) (numbers : NumericLaws R N false) where
  pub image_doubled : (op : Op) (v : Value V) (made : Result (Value V) DomErr) → IsDoubled v
      → IsAnswer (mixed R N) (Apply op v) made → IfOk made IsDoubled
  image_doubled op v (Ok w) h a = doubled_as v w h
      (half_vars laws numbers (second_half (variables v) op) a.1.between w a.1.second ∙ a.1.first.gives.vars_are)
  image_doubled op v (Err err) h a = tt

-- a value is the one without states as a doubled one exactly where it is it as a polyhedron
pub nothing_doubled : {V : Type 0} (v : Value V) (b : Bool) → IsDoubled v → (IsTrue b ↔ (v ≡ nothing v.vars))
    → IsTrue b ↔ (v ≡ nothing (2 * variables v))
nothing_doubled v b h k = subst (λ n. IsTrue b ↔ (v ≡ nothing n)) h.twice k

pub not_nothing : {V : Type 0} (v : Value V) → IsDoubled v → (v ≡ nothing (2 * variables v) → ⊥) → v ≡ nothing v.vars
    → ⊥
not_nothing v h more e = more (e ∙ ap nothing h.twice)

-- the terms of a claim
pub claim_of_it : (d : ℕ) (claim : Claim) → FitsClaim d claim → IsClaimOf d claim
claim_of_it d claim h = (
  λ k t l. (h.left k t l, h.left_numbers k t l),
  λ k t l. (h.right k t l, h.right_numbers k t l),
)

pub proved_as : {V : Type 0} (R : Semiring V) (N : Numbering V) (claim : Claim) (v : Value V) (b : Bool) (d n : ℕ)
    (rows : _) → d ≡ variables v → n ≡ suc v.vars → rows ≡ v.rows
    → IsTrue b ↔ IsProvedOn R N d n (IsCombination R n rows) claim → IsTrue b ↔ IsProvedBy R N claim v
proved_as R N claim v b d n rows ed en er h =
    subst (λ d. IsTrue b ↔ IsProvedOn R N d (suc v.vars) (cone_of R v) claim) ed
    (subst (λ n. IsTrue b ↔ IsProvedOn R N d n (IsCombination R n v.rows) claim) en
    (subst (λ rows. IsTrue b ↔ IsProvedOn R N d n (IsCombination R n rows) claim) er h))
