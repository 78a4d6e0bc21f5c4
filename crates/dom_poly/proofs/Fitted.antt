-- Values of sets, and why there is none.
use Rattle.std.proofs.Common.{◌≡◌, ◌≤◌, ℕ, suc, Bool, List, refl, sym, ap, ◌∙◌, subst, arith}
use Rattle.std.specs.Prelude.{Result, Ok, Err, IfOk, IfErr}
use Rattle.trop_theory.specs.Semiring.{Semiring, SemiringLaws}
use Rattle.trop_theory.specs.Vectors.{rows_size}
use Rattle.trop_theory.specs.Numbers.{Numbering}
use Rattle.trop_theory.specs.Canonical.{IsCanonical}
use Rattle.trop_theory.proofs.Distinct.{within_limit}
use Rattle.trop_theory.proofs.Unique.{IsCanonical-unique}
use Rattle.trop_cones.specs.Sets.{InJoin}
use Rattle.trop_cones.specs.Represents.{Represents}
use Rattle.trop_poly.specs.Cones.{Cone, InCone}
use Rattle.trop_poly.specs.Refusals.{IsConeRefusal}
use Rattle.trop_poly.specs.declared.error.PolyErr.{PolyErr}
use Rattle.trop_poly.specs.declared.error.PolyErr.TheVariants as cones
use Rattle.prog_theory.specs.Edges.{Op}
use Rattle.prog_theory.specs.Fits.{FitsOp}
use Rattle.dom_core.specs.declared.error.At.TheVariants as ats
use Rattle.dom_core.specs.declared.error.DomErr.{DomErr}
use Rattle.dom_core.specs.declared.error.DomErr.TheVariants.{Limit, Range, NoMemory}
use Rattle.dom_core.specs.Views.{at_of}
use Rattle.dom_core.specs.Answers.{IsAnswer}
use Rattle.dom_theory.specs.Relations.{Apply, Join, Cause, OverLimit, OutOfRange}
use Rattle.cone_reports.specs.Images.{InImage}
use Rattle.cone_domain.specs.Values.{Value, coordinates, cone_of, IsValue}
use Rattle.cone_domain.specs.Refused.{most_value, IsRefusedFor}
use Rattle.cone_domain.specs.Polyhedra.{polyhedra}
use Rattle.dom_poly.specs.Answers.{IsConeFor, IsFittedFrom, IsValueFor}
use Rattle.dom_poly.proofs.Named.{cone_as}

module _ {V : Type 0} (R : Semiring V) where
  -- what an operation on cones answers
  pub cone_for : (n k : ℕ) (vectors : List V → Type 0) (result : Result (Cone V) PolyErr) →
      IfOk result (λ cone. cone.n ≡ n) → IfOk result (λ cone. Represents R n vectors cone.rows) →
      IfErr result (IsConeRefusal R k vectors) → IsConeFor R n vectors result
  cone_for n k vectors (Ok cone) width h e = (width, h)
  cone_for n k vectors (Err (cones.Rows j)) width h e = e.1
  cone_for n k vectors (Err (cones.Polar i j)) width h e = e
  cone_for n k vectors (Err cones.NoMemory) width h e = tt

module _ {V : Type 0} {R : Semiring V} (laws : SemiringLaws R) where
  -- a cone that is within the limit and whose numbers are small is refused for no cause
  pub never : (n : ℕ) (vectors : List V → Type 0) (rows : List (List V)) → Represents R n vectors rows →
      rows_size R rows ≤ most_value → (cause : Cause) → IsRefusedFor R vectors cause → ⊥
  never n vectors rows h small OverLimit r = within_limit R vectors rows h.canonical h.within r
  never n vectors rows h small OutOfRange r =
      let same : r.rows ≡ rows = IsCanonical-unique laws vectors vectors r.rows rows (λ x. (λ c. c, λ c. c)) r.canonical
      h.canonical in
      let large = r.large in
      absurd (omega (arith, ap (rows_size R) same))

  pub value_for : (vars : ℕ) (vectors : List V → Type 0) (made : Result (Cone V) PolyErr)
      (result : Result (Value V) DomErr) → IsConeFor R (suc vars) vectors made → IsFittedFrom R made result →
      IsValueFor R vars vectors result
  value_for vars vectors (Ok cone) (Ok v) h f = (
    record {
      vars_are = ap (λ (w : Value V). w.vars) f.0 ∙ (let e = h.0 in omega arith);
      rows_are = subst (IsCanonical R vectors) (sym (ap (λ (w : Value V). w.rows) f.0)) h.1.canonical;
      no_list = ap (λ (w : Value V). w.kept) f.0;
    },
    never (suc vars) vectors cone.rows h.1 f.1,
  )
  value_for vars vectors (Ok cone) (Err (Range ats.Whole)) h f =
      (refl, record { rows = cone.rows; canonical = h.1.canonical; few = h.1.within; large = f })
  value_for vars vectors (Ok cone) (Err (Range (ats.Polar i k))) h f = absurd f
  value_for vars vectors (Ok cone) (Err (Range (ats.Kept k))) h f = absurd f
  value_for vars vectors (Ok cone) (Err (Limit at)) h f = absurd f
  value_for vars vectors (Ok cone) (Err NoMemory) h f = absurd f
  value_for vars vectors (Err (cones.Rows k)) result h f = subst (IsValueFor R vars vectors) (sym f) (refl, h)
  value_for vars vectors (Err (cones.Polar i k)) result h f = absurd h
  value_for vars vectors (Err cones.NoMemory) result h f = subst (IsValueFor R vars vectors) (sym f) tt

module _ {V : Type 0} (R : Semiring V) (N : Numbering V) (reversed : Bool) where
  image_answer : (op : Op) (v : Value V) (result : Result (Value V) DomErr) → IsValue R v → FitsOp v.vars op →
      IsValueFor R v.vars (InImage R N reversed (coordinates v) op (cone_of R v)) result →
      IsAnswer (polyhedra R N reversed) (Apply op v) result
  image_answer op v (Ok w) value fits h = (
    λ cause at r. h.1 cause r.1,
    record { value = value; fits = fits; gives = h.0 },
  )
  image_answer op v (Err (Limit at)) value fits h = (ap at_of h.0, h.1)
  image_answer op v (Err (Range at)) value fits h = (ap at_of h.0, h.1)
  image_answer op v (Err NoMemory) value fits h = tt

  join_answer : (v other : Value V) (result : Result (Value V) DomErr) → IsValue R v → IsValue R other →
      v.vars ≡ other.vars → IsValueFor R v.vars (InJoin R (cone_of R v) (cone_of R other)) result →
      IsAnswer (polyhedra R N reversed) (Join v other) result
  join_answer v other (Ok w) value other_value same h = (
    λ cause at r. h.1 cause r.1,
    record { value = value; other_value = other_value; same_vars = same; gives = h.0 },
  )
  join_answer v other (Err (Limit at)) value other_value same h = (ap at_of h.0, h.1)
  join_answer v other (Err (Range at)) value other_value same h = (ap at_of h.0, h.1)
  join_answer v other (Err NoMemory) value other_value same h = tt

module _ {V : Type 0} {R : Semiring V} (laws : SemiringLaws R) (N : Numbering V) (reversed : Bool) where
  -- the image of the cone of a value, as an answer
  pub image_answered : (op : Op) (v : Value V) (cone : Cone V) (made : Result (Cone V) PolyErr)
      (result : Result (Value V) DomErr) → cone.n ≡ suc v.vars → cone.rows ≡ v.rows → IsValue R v → FitsOp v.vars op →
      IsConeFor R cone.n (InImage R N reversed cone.n op (InCone R cone)) made → IsFittedFrom R made result →
      IsAnswer (polyhedra R N reversed) (Apply op v) result
  image_answered op v cone made result width same value fits h f =
      image_answer R N reversed op v result value fits
      (value_for laws v.vars (InImage R N reversed (coordinates v) op (cone_of R v)) made result
      (subst (λ (k : Cone V). IsConeFor R k.n (InImage R N reversed k.n op (InCone R k)) made)
      (sym (cone_as v cone width same)) h) f)

  -- the join of the cones of two values, as an answer
  pub join_answered : (v other : Value V) (cone second : Cone V) (made : Result (Cone V) PolyErr)
      (result : Result (Value V) DomErr) → cone.n ≡ suc v.vars → cone.rows ≡ v.rows → second.n ≡ suc other.vars →
      second.rows ≡ other.rows → IsValue R v → IsValue R other → v.vars ≡ other.vars →
      IsConeFor R cone.n (InJoin R (InCone R cone) (InCone R second)) made → IsFittedFrom R made result →
      IsAnswer (polyhedra R N reversed) (Join v other) result
  join_answered v other cone second made result width same second_width second_same value other_value vars h f =
      join_answer R N reversed v other result value other_value vars
      (value_for laws v.vars (InJoin R (cone_of R v) (cone_of R other)) made result
      (subst (λ (k : Cone V). IsConeFor R k.n (InJoin R (InCone R k) (cone_of R other)) made)
      (sym (cone_as v cone width same))
      (subst (λ (k : Cone V). IsConeFor R cone.n (InJoin R (InCone R cone) (InCone R k)) made)
      (sym (cone_as other second second_width second_same)) h)) f)
