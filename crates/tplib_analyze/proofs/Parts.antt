-- What is made of the values of points.
use Rattle.std.proofs.Common.{◌≡◌, ◌≤◌, ◌<◌, ◌-◌, ◌*◌, ◌∙◌, ℕ, suc, true, List, [], ◌∷◌, length, take, get_or, inl, inr, refl, sym, ap, subst, arith}
use Rattle.std.specs.Prelude.{All}
use Rattle.std.specs.List.{AllZip}
use Rattle.std.proofs.lemmas.List.{length-take, get_or-take, get_or_default}
use lib.Seq.{take_all}
use Rattle.std.proofs.lemmas.List.Elements.{All-nil}
use Rattle.trop_theory.specs.Semiring.{Semiring, SemiringLaws}
use Rattle.trop_theory.specs.Numbers.{Numbering, NumberLaws}
use Rattle.trop_theory.specs.Vectors.{rows_size, AreWide}
use Rattle.trop_theory.specs.Inequalities.{IsIn, system_size}
use Rattle.trop_theory.specs.Combinations.{IsCombination}
use Rattle.trop_theory.specs.Canonical.{row_limit}
use Rattle.trop_theory.specs.Normal.{IsNormal}
use Rattle.trop_theory.proofs.Combinations.{IsCombination-length}
use Rattle.trop_duality.specs.External.{IsExternal}
use Rattle.trop_duality.specs.PolarStops.{IsPolarStop}
use Rattle.trop_duality.proofs.Bipolar.{IsIn-external}
use Rattle.cone_domain.specs.Values.{Value, coordinates}
use Rattle.dom_poly.proofs.Kept.{external_small}
use Rattle.trop_poly.specs.Cones.{Cone, InCone}
use Rattle.report_texts.specs.Lines.{has_finite, Each}
use Rattle.report_texts.proofs.NormalRows.{finite_normal}
use Rattle.report_value.specs.declared.parts.PointPart.{PointPart}
use Rattle.report_value.specs.Views.{part_of}
use Rattle.report_value.specs.Kept.{IsPointKept}
use Rattle.tplib_reply.specs.declared.stop.Stop.TheVariants as stops
use Rattle.tplib_reply.specs.declared.refusal.Refusal.{Refusal}
use Rattle.tplib_reply.specs.declared.refusal.Refusal.TheVariants as refusals
use Rattle.tplib_analyze.specs.Stops.{IsListStop}
use Rattle.tplib_analyze.specs.Defined.{IsPrintedFor}
use Rattle.tplib_analyze.specs.Parts.{IsKeptValue, IsPointMade, IsPartRefusal, IsFirstStop, IsPartsRefusal}
use Rattle.dom_family.proofs.Zips.{AllZip-some}

-- no external list of no rows stops
empty_unstopped : {V : Type 0} (R : Semiring V) (v : Value V) → v.rows ≡ [] → (i k : ℕ) → IsListStop R v i k → ⊥
empty_unstopped R v none i k stop =
    let l = ap length none in
    omega (arith, l, stop.pair.some, stop.pair.within)

module _ {V Store : Type 0} {R : Semiring V} (v : Value V) (p : PointPart V Store) (kept : IsKeptValue R v)
    (n : ℕ) (width : n ≡ coordinates v) (rows_width : p.rows.n ≡ n) (rows_are : p.rows.rows ≡ v.rows)
    (invs_width : p.invs.n ≡ n) where
  -- a point without rows
  pub made_empty : v.rows ≡ [] → p.invs.inequalities ≡ [] → IsPointMade R v p
  made_empty none printed = record {
    rows_width = rows_width ∙ width;
    invs_width = invs_width ∙ width;
    made = record {
      kept = kept;
      rows_are = rows_are;
      printed = inl (rows_are ∙ none, printed);
      printed_few = let l = ap length printed in omega (arith, l);
      printed_wide = subst (All (IsIn (coordinates v))) (sym printed) (All-nil (IsIn (coordinates v)));
      printed_small = let l = ap (system_size R) printed in omega (arith, l);
      unstopped = empty_unstopped R v none;
    };
  }

  -- a point with rows
  pub made_listed : SemiringLaws R → (v.rows ≡ [] → ⊥) → n ≤ 64 →
      IsExternal R n (IsCombination R n v.rows) p.invs.inequalities → length p.invs.inequalities ≤ row_limit →
      system_size R p.invs.inequalities ≤ 4 * rows_size R v.rows * (n - 1) →
      ((i k : ℕ) → IsPolarStop R n v.rows i k → ⊥) → IsPointMade R v p
  made_listed laws some most external few small unstopped =
      let c = coordinates v in
      let here : IsExternal R c (IsCombination R c v.rows) p.invs.inequalities =
      subst (λ m. IsExternal R m (IsCombination R m v.rows) p.invs.inequalities) width external in
      record {
        rows_width = rows_width ∙ width;
        invs_width = invs_width ∙ width;
        made = record {
          kept = kept;
          rows_are = rows_are;
          printed = inr (λ e. some (sym rows_are ∙ e), here);
          printed_few = few;
          printed_wide = IsIn-external laws c (IsCombination R c v.rows)
              (λ x h. IsCombination-length laws c v.rows x kept.value.wide h) p.invs.inequalities here;
          printed_small = let s = external_small (system_size R p.invs.inequalities) (rows_size R v.rows) n kept.small
              most
              small in omega (arith, s);
          unstopped = subst (λ m. (i k : ℕ) → IsPolarStop R m v.rows i k → ⊥) width unstopped;
        };
      }

-- a point with rows, by its cone in the code
pub made_external : {V Store : Type 0} {R : Semiring V} → SemiringLaws R → (v : Value V) (p : PointPart V Store) (cone
    : Cone V) →
    IsKeptValue R v → cone.n ≡ coordinates v → cone.rows ≡ v.rows → (cone.rows ≡ [] → ⊥) → cone.n ≤ 64 →
    p.rows.n ≡ cone.n → p.rows.rows ≡ cone.rows → p.invs.n ≡ cone.n →
    IsExternal R cone.n (InCone R cone) p.invs.inequalities → length p.invs.inequalities ≤ row_limit →
    system_size R p.invs.inequalities ≤ 4 * rows_size R cone.rows * (cone.n - 1) →
    ((i k : ℕ) → IsPolarStop R cone.n cone.rows i k → ⊥) → IsPointMade R v p
made_external {V} {Store} {R} laws v p cone kept width same some most rows_width rows_are invs_width external few
    small free =
    made_listed v p kept cone.n width rows_width (rows_are ∙ same) invs_width laws (λ e. some (same ∙ e)) most
    (subst (λ (g : List (List V)). IsExternal R cone.n (IsCombination R cone.n g) p.invs.inequalities) same external)
    few
    (subst (λ (g : List (List V)). system_size R p.invs.inequalities ≤ 4 * rows_size R g * (cone.n - 1)) same small)
    (subst (λ (g : List (List V)). (i k : ℕ) → IsPolarStop R cone.n g i k → ⊥) same free)

pub nil_rows : {A : Type 0} (xs : List A) → length xs ≡ 0 → xs ≡ []
nil_rows [] e = refl
nil_rows (x ∷ xs) e = absurd (omega arith)

-- what a report keeps of a point
module _ {V Store : Type 0} {R : Semiring V} {N : Numbering V} (laws : SemiringLaws R) (numbers : NumberLaws R N)
    (v : Value V) (p : PointPart V Store) where
  pub point_kept : (n : ℕ) → coordinates v ≡ n → IsPointMade R v p → IsPointKept R N n p
  point_kept n width h =
      let few = ap length h.made.rows_are in
      let normal = subst (All (IsNormal R)) (sym h.made.rows_are) h.made.kept.value.canonical.normal in
      let size = ap (rows_size R) h.made.rows_are in
      record {
        rows_width = h.rows_width ∙ width;
        invs_width = h.invs_width ∙ width;
        part = record {
          lines = record {
            finite = each_finite p.rows.rows normal;
            rows_few = omega (arith, few, h.made.kept.few);
            printed_few = h.made.printed_few;
            none = without h.made.printed;
          };
          normal = normal;
          wide = subst (λ m. AreWide m p.rows.rows) width
              (subst (AreWide (coordinates v)) (sym h.made.rows_are) h.made.kept.value.wide);
          small = omega (arith, size, h.made.kept.small);
          printed_wide = subst (λ m. All (IsIn m) p.invs.inequalities) width h.made.printed_wide;
          printed_small = h.made.printed_small;
        };
      }
    where
      each_finite : (rows : List (List V)) → All (IsNormal R) rows →
          Each (λ x. has_finite N x ≡ true) rows
      each_finite [] normal = tt
      each_finite (x ∷ rows) normal = (
        finite_normal R N laws numbers x (normal 0 x (omega arith)),
        each_finite rows (λ k d l. normal (suc k) d (omega arith)),
      )

      without : IsPrintedFor R v (part_of p) → p.rows.rows ≡ [] → p.invs.inequalities ≡ []
      without (inl both) none = both.1
      without (inr both) none = absurd (both.0 none)

-- ---- the points one after another

module _ {V Store : Type 0} (R : Semiring V) (values : List (Value V)) (made : List (PointPart V Store)) (q : ℕ)
    (inside : q < length values) (before : AllZip (IsPointMade R) (take q values) made) where
  none_before : (none : Value V) (o : ℕ) → o < q → (j l : ℕ) → IsListStop R (get_or values o none) j l → ⊥
  none_before none o below j l stop =
      let t = length-take q values in
      let h = AllZip-some (IsPointMade R) (take q values) made o none before (omega (arith, t)) in
      h.1.made.unstopped j l (subst (λ (w : Value V). IsListStop R w j l) (sym (get_or-take q values o none below))
      stop)

  -- the list of a point stops, and those of the points before do not
  pub parts_stopped : (v : Value V) → v ≡ get_or values q v → (refusal : Refusal) → IsPartRefusal R v q refusal →
      IsPartsRefusal R values refusal
  parts_stopped v is (refusals.Limit (stops.PointPolar p i k)) h = λ none.
      let here : v ≡ get_or values q none = is ∙ get_or_default values q v none inside in
      subst (λ m. IsFirstStop R values none m i k) (sym h.0) (record {
        inside = inside;
        here = subst (λ (w : Value V). IsListStop R w i k) here h.1;
        before = none_before none;
      })
  parts_stopped v is (refusals.Limit (stops.Rows k)) h = absurd h
  parts_stopped v is (refusals.Limit (stops.Polar i k)) h = absurd h
  parts_stopped v is (refusals.Limit (stops.Lean k j)) h = absurd h
  parts_stopped v is (refusals.Limit (stops.At place)) h = absurd h
  parts_stopped v is (refusals.Text fault) h = absurd h
  parts_stopped v is (refusals.Range stop) h = absurd h
  parts_stopped v is refusals.NoMemory h = tt

-- all of them
pub AllZip-all : {A B : Type 0} (P : A → B → Type 0) (xs : List A) (ys : List B) (q : ℕ) → q ≡ length xs →
    AllZip P (take q xs) ys → AllZip P xs ys
AllZip-all P xs ys q e h = subst (λ z. AllZip P z ys) (take_all q xs (omega (arith, e))) h
