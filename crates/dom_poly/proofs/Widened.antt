-- The widening as an answer.
use Rattle.std.proofs.Common.{◌≡◌, ◌≤◌, ℕ, Bool, List, refl, sym, ap, subst, arith}
use Rattle.std.specs.Prelude.{Result, Ok, Err}
use Rattle.trop_theory.specs.Semiring.{Semiring, SemiringLaws}
use Rattle.trop_theory.specs.Vectors.{rows_size}
use Rattle.trop_theory.specs.Numbers.{Numbering}
use Rattle.trop_theory.specs.Inequalities.{Inequality, Solves}
use Rattle.trop_theory.specs.Canonical.{IsCanonical}
use Rattle.trop_theory.proofs.Unique.{IsCanonical-unique}
use Rattle.trop_cones.specs.RowStops.{IsRowsStop}
use Rattle.trop_cones.specs.Represents.{Represents}
use Rattle.trop_row.specs.Lists.{InequalityList}
use Rattle.trop_poly.specs.Cones.{Cone}
use Rattle.trop_poly.specs.Refusals.{IsSystemRefusal}
use Rattle.trop_poly.specs.declared.error.PolyErr.{PolyErr}
use Rattle.trop_poly.specs.declared.error.PolyErr.TheVariants as cones
use Rattle.dom_core.specs.declared.error.At.TheVariants as ats
use Rattle.dom_core.specs.declared.error.DomErr.{DomErr}
use Rattle.dom_core.specs.declared.error.DomErr.TheVariants.{Limit, Range, NoMemory}
use Rattle.dom_core.specs.Answers.{IsAnswer}
use Rattle.dom_theory.specs.Refusals.{At, Whole, Polar, Kept}
use Rattle.dom_theory.specs.Relations.{Widen, Cause, OverLimit, OutOfRange}
use Rattle.cone_domain.specs.Values.{Value, coordinates, IsValue}
use Rattle.cone_domain.specs.Operations.{IsIncluded}
use Rattle.cone_domain.specs.Refused.{most_value, IsListRefused, IsPartRefused}
use Rattle.cone_domain.specs.Polyhedra.{polyhedra}
use Rattle.cone_domain.proofs.Answers.{kept_unique}
use Rattle.dom_poly.specs.Answers.{at_part}
use Rattle.dom_poly.specs.Lists.{IsKept, IsKeptFor, IsListed, IsSolvedFor}

module _ {V : Type 0} {R : Semiring V} (laws : SemiringLaws R) where
  solved_free : (n : ℕ) (list : List (Inequality V)) (rows : List (List V)) → Represents R n (Solves R n list) rows →
      rows_size R rows ≤ most_value → ((k : ℕ) → IsRowsStop R n list k → ⊥) → (cause : Cause) (k : ℕ) →
      IsListRefused R n list cause k → ⊥
  solved_free n list rows h small none OverLimit k r = none k r
  solved_free n list rows h small none OutOfRange k r =
      let t = r.2 in
      let same : t.rows ≡ rows = IsCanonical-unique laws (Solves R n list) (Solves R n list) t.rows rows
      (λ x. (λ c. c, λ c. c)) t.canonical h.canonical in
      let large = t.large in
      absurd (omega (arith, ap (rows_size R) same))

  -- the cone of the solutions of a list, with the list
  pub solved_for : (list : InequalityList V) (cone : Cone V) (result : Result (Value V) DomErr) → cone.n ≡ list.n →
      1 ≤ list.n → Represents R list.n (Solves R list.n list.inequalities) cone.rows →
      ((k : ℕ) → IsRowsStop R list.n list.inequalities k → ⊥) → IsListed R cone list result →
      IsSolvedFor R list.n list.inequalities result
  solved_for list cone (Ok v) width least h none f = record {
    width = let e = ap (λ (w : Value V). w.vars) f.0 in omega arith;
    rows = subst (IsCanonical R (Solves R list.n list.inequalities)) (sym (ap (λ (w : Value V). w.rows) f.0))
        h.canonical;
    kept = ap (λ (w : Value V). w.kept) f.0;
    free = solved_free list.n list.inequalities cone.rows h f.1 none;
  }
  solved_for list cone (Err (Range (ats.Kept k))) width least h none f =
      (f.0, none, record { rows = cone.rows; canonical = h.canonical; few = h.within; large = f.1 })
  solved_for list cone (Err (Range ats.Whole)) width least h none f = absurd f
  solved_for list cone (Err (Range (ats.Polar i k))) width least h none f = absurd f
  solved_for list cone (Err (Limit at)) width least h none f = absurd f
  solved_for list cone (Err NoMemory) width least h none f = absurd f

  -- the solutions are refused
  pub solved_refused : (n : ℕ) (list : List (Inequality V)) (err : PolyErr) → IsSystemRefusal R n list err →
      IsSolvedFor R n list (Err (at_part err))
  solved_refused n list (cones.Rows k) h = h
  solved_refused n list (cones.Polar i k) h = absurd h
  solved_refused n list cones.NoMemory h = tt

module _ {V : Type 0} {R : Semiring V} (laws : SemiringLaws R) (N : Numbering V) (reversed : Bool)
    (v next : Value V) where
  widening_free : (list : InequalityList V) → IsKept R v next list →
      ((cause : Cause) (k : ℕ) → IsListRefused R (coordinates v) list.inequalities cause k → ⊥) → (cause : Cause)
      (at : At) → IsPartRefused R v next cause at → ⊥
  widening_free list kept free cause Whole r = r
  widening_free list kept free cause (Polar i j) r = kept.unstopped r.1 i j r.2
  widening_free list kept free cause (Kept j) r =
      free cause j (subst (λ l. IsListRefused R (coordinates v) l cause j)
      (kept_unique laws v next r.list list.inequalities r.is_kept kept.kept) r.refused)

  widened_by : IsValue R v → IsValue R next → v.vars ≡ next.vars → (IsIncluded R next v → ⊥) →
      (list : InequalityList V) (result : Result (Value V) DomErr) → IsKept R v next list →
      IsSolvedFor R (coordinates v) list.inequalities result →
      IsAnswer (polyhedra R N reversed) (Widen v next) result
  widened_by value next_value vars leaves list (Ok w) kept s = (
    widening_free list kept s.free,
    record {
      value = value;
      next_value = next_value;
      same_vars = vars;
      leaves = leaves;
      list = list.inequalities;
      is_kept = kept.kept;
      few = kept.few;
      vars_are = let e = s.width in omega arith;
      rows_are = s.rows;
      kept_are = s.kept;
    },
  )
  widened_by value next_value vars leaves list (Err (Limit (ats.Kept k))) kept s =
      record { unstopped = kept.unstopped; list = list.inequalities; is_kept = kept.kept; refused = s }
  widened_by value next_value vars leaves list (Err (Limit ats.Whole)) kept s = absurd s
  widened_by value next_value vars leaves list (Err (Limit (ats.Polar i k))) kept s = absurd s
  widened_by value next_value vars leaves list (Err (Range (ats.Kept k))) kept s =
      record { unstopped = kept.unstopped; list = list.inequalities; is_kept = kept.kept; refused = s }
  widened_by value next_value vars leaves list (Err (Range ats.Whole)) kept s = absurd s
  widened_by value next_value vars leaves list (Err (Range (ats.Polar i k))) kept s = absurd s
  widened_by value next_value vars leaves list (Err NoMemory) kept s = tt

  -- the solutions of the kept list
  pub widened_answer : IsValue R v → IsValue R next → v.vars ≡ next.vars → (IsIncluded R next v → ⊥) →
      (list : InequalityList V) (result : Result (Value V) DomErr) → IsKept R v next list →
      IsSolvedFor R list.n list.inequalities result → IsAnswer (polyhedra R N reversed) (Widen v next) result
  widened_answer value next_value vars leaves list result kept s =
      widened_by value next_value vars leaves list result kept
      (subst (λ n. IsSolvedFor R n list.inequalities result) kept.width s)

  -- the list with which the widening begins is refused
  pub widened_refused : (err : PolyErr) → IsKeptFor R v next (Err err) →
      IsAnswer (polyhedra R N reversed) (Widen v next) (Err (at_part err))
  widened_refused (cones.Rows k) h = absurd h
  widened_refused (cones.Polar i k) h = (refl, h.0, h.1)
  widened_refused cones.NoMemory h = tt
