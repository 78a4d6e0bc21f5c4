-- The lists of operations: how wide they are and how large their numbers.
-- Index: assigned_wide, assigned_small, mapped_few, forgotten_wide, forgotten_small, forgotten_few, guard_small,
-- number_small, size_read, kept_list, dropped_list, list_wide, inside.
use Rattle.std.proofs.Common.{◌≡◌, ◌<◌, ◌≤◌, ◌+◌, ◌-◌, inl, inr, ⊎_elim, ℕ, zero, suc, Bool, true, false, List, [], ◌∷◌, ◌++◌, Some, length, map, set, get_or, refl, sym, ap, ◌∙◌, subst, arith}
use Rattle.std.specs.Prelude.{All, slice_get}
use Rattle.std.proofs.lemmas.List.{length-set, length-append}
use Rattle.std.proofs.lemmas.Option.{get_or_from_slice_get, slice_get_within}
use Rattle.std.proofs.lemmas.List.Elements.{All-map, All-append, All-cons, All-nil}
use Rattle.trop_theory.specs.Semiring.{Semiring, SemiringLaws}
use Rattle.trop_theory.specs.Vectors.{entry, bottom, row_size, rows_size, AreWide}
use Rattle.trop_theory.specs.Numbers.{Numbering, NumericLaws}
use Rattle.trop_theory.specs.Combinations.{IsCombination}
use Rattle.trop_theory.specs.Inequalities.{Inequality, inequality_size, system_size}
use Rattle.trop_row.proofs.Sizes.{rows_size-append}
use Rattle.trop_cones.specs.Sets.{assigned}
use Rattle.trop_cones.proofs.Sizes.{rows_size-each, All-rows_size, row_size-assigned, row_size-cleared, row_size-set, row_size-bottom}
use Rattle.prog_theory.specs.States.{Term}
use Rattle.prog_theory.specs.Edges.{Op}
use Rattle.prog_theory.specs.Fits.{FitsOp}
use Rattle.prog_theory.specs.Within.{IsNumberWithin}
use Rattle.trop_cones.proofs.Generated.{IsUnit-set}
use Rattle.cone_reports.specs.Sides.{term_side, guard_inequality}
use Rattle.cone_reports.specs.Images.{HasPoint, InImage}
use Rattle.cone_reports.specs.EdgeLists.{AreNormalised, unit_row, IsMovedList, IsEdgeList}
use Rattle.cone_reports.proofs.Normalised.{normalised_wide}
use Rattle.cone_reports.proofs.MovedLists.{moved_by}
use Rattle.cone_reports.proofs.EdgeLists.{point_from_row, no_point_from_rows, finite_decided, edge_list_wide, image_within_by_list}
use Rattle.prog_check.proofs.NormalLists.{normalised_few, normalised_small}

module _ {V : Type 0} {R : Semiring V} (laws : SemiringLaws R) where
  -- ---- an assignment
  pub assigned_wide : (n i from : ℕ) (c : V) (rows outs : List (List V)) → AreWide n rows
      → AreNormalised R (map (assigned R i from c) rows) outs → AreWide n outs
  assigned_wide n i from c rows outs w h =
      normalised_wide laws n (map (assigned R i from c) rows) outs
      (All-map (λ g. length g ≡ n) (assigned R i from c) rows
      (λ k d l. length-set (get_or rows k d) i (R.times c (entry R (get_or rows k d) from)) ∙ w k d l)) h

  pub assigned_small : (i from : ℕ) (c : V) (rows outs : List (List V)) (m : ℕ) → rows_size R rows + R.size c ≤ m
      → AreNormalised R (map (assigned R i from c) rows) outs → rows_size R outs ≤ m + m
  assigned_small i from c rows outs m small h =
      normalised_small laws (map (assigned R i from c) rows) outs m
      (rows_size-each laws (map (assigned R i from c) rows) m
      (All-map (λ g. row_size R g ≤ m) (assigned R i from c) rows
      (λ k d l. omega (
        arith,
        row_size-assigned laws (get_or rows k d) i from c,
        All-rows_size laws rows (rows_size R rows) (omega arith) k d l,
        small,
      )))) h

  pub mapped_few : (f : List V → List V) (rows outs : List (List V)) → AreNormalised R (map f rows) outs
      → length outs ≤ length rows
  mapped_few f rows outs h = omega (arith, normalised_few laws (map f rows) outs h, length-mapped f rows)
    where
      length-mapped : (f : List V → List V) (xs : List (List V)) → length (map f xs) ≡ length xs
      length-mapped f [] = refl
      length-mapped f (x ∷ xs) = ap suc (length-mapped f xs)

  -- ---- a coordinate that takes any number
  cleared_wide : (n i : ℕ) (rows front : List (List V)) → AreWide n rows
      → AreNormalised R (map (λ g. set g i R.zero) rows) front → AreWide n front
  cleared_wide n i rows front w h =
      normalised_wide laws n (map (λ g. set g i R.zero) rows) front
      (All-map (λ g. length g ≡ n) (λ g. set g i R.zero) rows
      (λ k d l. length-set (get_or rows k d) i R.zero ∙ w k d l)) h

  cleared_small : (i : ℕ) (rows front : List (List V)) (m : ℕ) → rows_size R rows ≤ m
      → AreNormalised R (map (λ g. set g i R.zero) rows) front → rows_size R front ≤ m + m
  cleared_small i rows front m small h =
      normalised_small laws (map (λ g. set g i R.zero) rows) front m
      (rows_size-each laws (map (λ g. set g i R.zero) rows) m
      (All-map (λ g. row_size R g ≤ m) (λ g. set g i R.zero) rows
      (λ k d l. omega (arith, row_size-cleared laws (get_or rows k d) i, All-rows_size laws rows m small k d l)))) h

  pub forgotten_wide : (n i : ℕ) (rows front outs : List (List V)) → i < n → AreWide n rows
      → AreNormalised R (map (λ g. set g i R.zero) rows) front → outs ≡ front ++ unit_row R n i ∷ [] → AreWide n outs
  forgotten_wide n i rows front outs l w h e =
      subst (AreWide n) (sym e) (All-append (λ g. length g ≡ n) front (unit_row R n i ∷ [])
      (cleared_wide n i rows front w h)
      (All-cons (λ g. length g ≡ n) (unit_row R n i) [] (IsUnit-set R n i l).wide (All-nil (λ g. length g ≡ n))))

  pub forgotten_small : (n i : ℕ) (rows front outs : List (List V)) (m : ℕ) → rows_size R rows ≤ m
      → AreNormalised R (map (λ g. set g i R.zero) rows) front → outs ≡ front ++ unit_row R n i ∷ []
      → rows_size R outs ≤ m + m
  forgotten_small n i rows front outs m small h e =
      subst (λ l. rows_size R l ≤ m + m) (sym e)
      (rows_size-append R front (unit_row R n i ∷ []) (m + m) (cleared_small i rows front m small h)
      (omega (
        arith,
        row_size-set laws (bottom R n) i R.one (m + m) (row_size-bottom laws n (m + m))
            (omega (arith, laws.size_one)),
      )))

  pub forgotten_few : (n i : ℕ) (rows front outs : List (List V))
      → AreNormalised R (map (λ g. set g i R.zero) rows) front
      → outs ≡ front ++ unit_row R n i ∷ [] → length outs ≤ length rows + 1
  forgotten_few n i rows front outs h e = omega (
    arith,
    ap length e,
    length-append front (unit_row R n i ∷ []),
    mapped_few (λ g. set g i R.zero) rows front h,
  )

-- ---- the numbers of a guard and of an assignment
module _ {V : Type 0} {R : Semiring V} {N : Numbering V} {reversed : Bool} (laws : SemiringLaws R)
    (numbers : NumericLaws R N reversed) (n m : ℕ) where
  term_small : (t : Term) → IsNumberWithin m t → row_size R (term_side R N n t) ≤ m
  term_small t h = row_size-set laws (bottom R n) t.coord (N.of t.add) m (row_size-bottom laws n m)
      (omega (arith, numbers.size (N.of t.add) t.add (numbers.to-of t.add), h))

  guard_small_by : (b : Bool) (l r : Term) → IsNumberWithin m l → IsNumberWithin m r
      → inequality_size R (guard_inequality R N b n l r) ≤ m
  guard_small_by false l r h k = omega (arith, term_small l h, term_small r k)
  guard_small_by true l r h k = omega (arith, term_small l h, term_small r k)

  pub guard_small : (l r : Term) (p : Inequality V) → IsNumberWithin m l → IsNumberWithin m r
      → p ≡ guard_inequality R N reversed n l r → inequality_size R p ≤ m
  guard_small l r p h k e = subst (λ q. inequality_size R q ≤ m) (sym e) (guard_small_by reversed l r h k)

  pub number_small : (t : Term) → IsNumberWithin m t → R.size (N.of t.add) ≤ m
  number_small t h = omega (arith, numbers.size (N.of t.add) t.add (numbers.to-of t.add), h)

-- ---- the inequalities of a list
size_at : {V : Type 0} (R : Semiring V) (system : List (Inequality V)) (k : ℕ) (d : Inequality V) → k < length system
    → inequality_size R (get_or system k d) ≤ system_size R system
size_at R [] k d l = absurd (omega arith)
size_at R (p ∷ system) zero d l = omega arith
size_at R (p ∷ system) (suc k) d l = omega (arith, size_at R system k d (omega arith))

pub size_read : {V : Type 0} (R : Semiring V) (system : List (Inequality V)) (k : ℕ) (p : Inequality V)
    → slice_get system k ≡ Some p → inequality_size R p ≤ system_size R system
size_read R system k p e = omega (
  arith,
  ap (inequality_size R) (get_or_from_slice_get system k p p e),
  size_at R system k p (slice_get_within system k p e),
)

-- ---- the list of an edge
module _ {V : Type 0} {R : Semiring V} {N : Numbering V} {reversed : Bool} (laws : SemiringLaws R)
    (numbers : NumericLaws R N reversed) where
  kept_by : (vars : ℕ) (op : Op) (rows moved : List (List V)) → FitsOp vars op → AreWide (suc vars) rows
      → IsMovedList R N reversed (suc vars) op rows moved → HasPoint R (IsCombination R (suc vars) moved)
      → IsEdgeList R N reversed (suc vars) op rows moved
  kept_by vars op rows moved f w h p =
      let m = moved_by laws numbers vars op f rows moved w h in (
        moved,
        h,
        inl (
          ⊎_elim (λ some. some) (λ none. absurd (no_point_from_rows laws numbers vars moved m.wide none p))
              (finite_decided laws numbers vars moved),
          refl,
        ),
      )

  dropped_by : (vars : ℕ) (op : Op) (rows moved : List (List V)) → FitsOp vars op → AreWide (suc vars) rows
      → IsMovedList R N reversed (suc vars) op rows moved → (HasPoint R (IsCombination R (suc vars) moved) → ⊥)
      → IsEdgeList R N reversed (suc vars) op rows []
  dropped_by vars op rows moved f w h none =
      let m = moved_by laws numbers vars op f rows moved w h in
      (moved, h, inr ((λ some. none (point_from_row laws numbers vars moved m.wide some)), refl))

  one_less : (n : ℕ) → 1 ≤ n → n ≡ suc (n - 1)
  one_less n l = omega arith

  pub kept_list : (n : ℕ) → 1 ≤ n → (op : Op) (rows moved : List (List V)) → FitsOp (n - 1) op → AreWide n rows
      → IsMovedList R N reversed n op rows moved → HasPoint R (IsCombination R n moved)
      → IsEdgeList R N reversed n op rows moved
  kept_list n l op rows moved f w h p =
      let e = one_less n l in
      subst (λ k. IsEdgeList R N reversed k op rows moved) (sym e)
      (kept_by (n - 1) op rows moved f (subst (λ k. AreWide k rows) e w)
      (subst (λ k. IsMovedList R N reversed k op rows moved) e h)
      (subst (λ k. HasPoint R (IsCombination R k moved)) e p))

  pub dropped_list : (n : ℕ) → 1 ≤ n → (op : Op) (rows moved outs : List (List V)) → FitsOp (n - 1) op → AreWide n rows
      → IsMovedList R N reversed n op rows moved → (HasPoint R (IsCombination R n moved) → ⊥) → outs ≡ []
      → IsEdgeList R N reversed n op rows outs
  dropped_list n l op rows moved outs f w h none is =
      let e = one_less n l in
      subst (IsEdgeList R N reversed n op rows) (sym is)
      (subst (λ k. IsEdgeList R N reversed k op rows []) (sym e)
      (dropped_by (n - 1) op rows moved f (subst (λ k. AreWide k rows) e w)
      (subst (λ k. IsMovedList R N reversed k op rows moved) e h)
      (λ p. none (subst (λ k. HasPoint R (IsCombination R k moved)) (sym e) p))))

  -- ---- the image of the source, and the target
  list_wide_by : (vars : ℕ) (op : Op) (rows list : List (List V)) → FitsOp vars op → AreWide (suc vars) rows
      → IsEdgeList R N reversed (suc vars) op rows list → AreWide (suc vars) list
  list_wide_by vars op rows list f w h = edge_list_wide laws numbers vars op f rows list w h

  pub list_wide : (n : ℕ) → 1 ≤ n → (op : Op) (rows list : List (List V)) → FitsOp (n - 1) op → AreWide n rows
      → IsEdgeList R N reversed n op rows list → AreWide n list
  list_wide n l op rows list f w h =
      let e = one_less n l in
      subst (λ k. AreWide k list) (sym e)
      (list_wide_by (n - 1) op rows list f (subst (λ k. AreWide k rows) e w)
      (subst (λ k. IsEdgeList R N reversed k op rows list) e h))

  inside_by : (vars : ℕ) (op : Op) (rows list target : List (List V)) → FitsOp vars op → AreWide (suc vars) rows
      → AreWide (suc vars) target → IsEdgeList R N reversed (suc vars) op rows list
      → All (IsCombination R (suc vars) target) list
      → (x : List V) → InImage R N reversed (suc vars) op (IsCombination R (suc vars) rows) x
      → IsCombination R (suc vars) target x
  inside_by vars op rows list target f w t h all =
      (image_within_by_list laws numbers vars op f rows list target w t h).1 all

  -- each row of the list is a combination of the target's rows
  pub inside : (n : ℕ) → 1 ≤ n → (op : Op) (rows list target : List (List V)) → FitsOp (n - 1) op → AreWide n rows
      → AreWide n target → IsEdgeList R N reversed n op rows list → All (IsCombination R n target) list
      → (x : List V) → InImage R N reversed n op (IsCombination R n rows) x → IsCombination R n target x
  inside n l op rows list target f w t h all =
      let e = one_less n l in
      subst (λ k. (x : List V) → InImage R N reversed k op (IsCombination R k rows) x → IsCombination R k target x)
      (sym e)
      (inside_by (n - 1) op rows list target f (subst (λ k. AreWide k rows) e w) (subst (λ k. AreWide k target) e t)
      (subst (λ k. IsEdgeList R N reversed k op rows list) e h)
      (subst (λ k. All (IsCombination R k target) list) e all))
