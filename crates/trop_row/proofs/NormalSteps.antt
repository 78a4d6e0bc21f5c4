-- Collecting rows in normal form.
use Rattle.std.proofs.Common.{⊎_elim, ◌≡◌, ◌≢◌, ◌<◌, ◌≤◌, ◌+◌, ◌^◌, ◌++◌, ℕ, List, [], ◌∷◌, length, take, get_or, sym, ap, ◌∙◌, arith, subst}
use Rattle.std.specs.Prelude.{All}
use Rattle.std.proofs.lemmas.List.{take_more, length-map, length_push}
use Rattle.std.proofs.lemmas.Bool.{cases_lt}
use Rattle.std.proofs.lemmas.List.Elements.{All-push, All-take}
use Rattle.trop_theory.specs.Semiring.{Semiring, SemiringLaws}
use Rattle.trop_theory.specs.Vectors.{entry, bottom, row_size, AreWide, rows_size}
use Rattle.trop_theory.specs.Normal.{IsNormal, Normalises}
use Rattle.trop_theory.specs.Combinations.{SameCone}
use Rattle.trop_theory.proofs.Order.{undo_times, factor_finite, times_one}
use Rattle.trop_theory.proofs.Rows.{entry-scaled}
use Rattle.trop_theory.proofs.Sizes.{size-entry}
use Rattle.trop_theory.proofs.SameCones.{SameCone-push, SameCone-skip, row_size-scaled}
use Rattle.trop_row.specs.Reduction.{AreReducible}
use Rattle.trop_row.proofs.Sizes.{rows_size-read, rows_size-append}

-- rows in normal form with the same combinations
pub record AreNormalised {V : Type 0} (R : Semiring V) (n : ℕ) (rows out : List (List V)) : Type 0 where
  pub wide : AreWide n out
  pub normal : All (IsNormal R) out
  pub sizes : rows_size R out ≤ 2 ^ 60
  pub fewer : length out ≤ length rows
  pub same : SameCone R n rows out

module _ {V : Type 0} {R : Semiring V} (laws : SemiringLaws R) where
  -- the factor is the inverse of an entry
  pub size_normalised : (g h : List V) → Normalises R g h → row_size R h ≤ row_size R g + row_size R g
  size_normalised g h m =
      let i = m.normal.first in
      let at : R.times m.factor (entry R g i) ≡ R.one = sym (ap (λ v. entry R v i) m.multiple ∙
      entry-scaled laws m.factor g i) ∙ m.normal.is_one in
      let f : entry R g i ≢ R.zero = factor_finite laws m.factor (entry R g i) R.one at laws.one_finite in
      let is : m.factor ≡ R.inverse (entry R g i) = undo_times laws (entry R g i) m.factor R.one f at ∙
      laws.one_neutral (R.inverse (entry R g i)) in
      let within : i < length g = subst (λ k. i < k) (ap length m.multiple ∙ length-map g (R.times m.factor))
      m.normal.within in
      omega (
        arith,
        ap (row_size R) m.multiple,
        row_size-scaled laws m.factor g,
        ap R.size is,
        laws.size_inverse
            (entry R g i) f,
        size-entry R g i R.zero within,
      )

  -- a normal form of a row in normal form is no larger: the factor is the inverse of the one
  size_normal : (g h : List V) → IsNormal R g → Normalises R g h → row_size R h ≤ row_size R g
  size_normal g h k m =
      omega (
        arith,
        ap (row_size R) m.multiple,
        row_size-scaled laws m.factor g,
        ap R.size is,
        laws.size_inverse
            (entry R g i) f,
        ap R.size here,
        laws.size_one,
      )
    where
      i : ℕ
      i = m.normal.first

      at : (j : ℕ) → entry R h j ≡ R.times m.factor (entry R g j)
      at j = ap (λ v. entry R v j) m.multiple ∙ entry-scaled laws m.factor g j

      reached : R.times m.factor (entry R g m.normal.first) ≡ R.one
      reached = sym (at m.normal.first) ∙ m.normal.is_one

      f : entry R g m.normal.first ≢ R.zero
      f = factor_finite laws m.factor (entry R g m.normal.first) R.one reached laws.one_finite

      -- the first finite entry of the row is the first finite entry of its multiple
      same : m.normal.first ≡ k.first
      same = ⊎_elim
          (λ l. absurd (f (k.before m.normal.first l)))
          (λ q. ⊎_elim
          (λ l. absurd (m.finite (sym (times_one laws m.factor) ∙ ap (R.times m.factor) (sym k.is_one) ∙
          sym (at k.first) ∙ m.normal.before k.first l)))
          (λ p. omega arith)
          (cases_lt k.first m.normal.first))
          (cases_lt m.normal.first k.first)

      here : entry R g m.normal.first ≡ R.one
      here = ap (entry R g) same ∙ k.is_one

      is : m.factor ≡ R.inverse (entry R g m.normal.first)
      is = undo_times laws (entry R g m.normal.first) m.factor R.one f reached ∙
          laws.one_neutral (R.inverse (entry R g m.normal.first))

  pub size_reducible : (rows : List (List V)) → AreReducible R rows → rows_size R rows ≤ 2 ^ 60
  size_reducible rows h = ⊎_elim (λ p. omega (arith, p)) (λ q. q.0) h

  -- a normal form of a row of the list
  size_normalised_row : (rows : List (List V)) (i : ℕ) (g h : List V) → AreReducible R rows → i < length rows →
      g ≡ get_or rows i g → Normalises R g h → row_size R h ≤ 2 ^ 60
  size_normalised_row rows i g h small l e m =
      let at : row_size R g ≤ rows_size R rows = rows_size-read R rows i g e l in
      ⊎_elim
      (λ p. omega (arith, p, at, size_normalised g h m))
      (λ q. omega (arith, q.0, at, size_normal g h (subst (IsNormal R) (sym e) (q.1 i g l)) m))
      small

  pub normal_push : (n : ℕ) (rows out : List (List V)) (i : ℕ) (g h : List V) → AreNormalised R n (take i rows) out →
      i < length rows → AreWide n rows → AreReducible R rows → g ≡ get_or rows i g → Normalises R g h →
      AreNormalised R n (take (i + 1) rows) (out ++ h ∷ [])
  normal_push n rows out i g h k l w s e m =
      let more : take (i + 1) rows ≡ take i rows ++ g ∷ [] = take_more rows i g l ∙
      ap (λ v. take i rows ++ v ∷ []) (sym e) in
      let eg : length g ≡ n = ap length e ∙ w i g l in
      let eh : length h ≡ n = ap length m.multiple ∙ length-map g (R.times m.factor) ∙ eg in
      record {
        wide = All-push (λ row. length row ≡ n) out h k.wide eh;
        normal = All-push (IsNormal R) out h k.normal m.normal;
        sizes = rows_size-append R out (h ∷ []) (2 ^ 60) k.sizes
            (omega (arith, size_normalised_row rows i g h s l e m));
        fewer = omega (arith, length_push out h, ap length more, length_push (take i rows) g, k.fewer);
        same = subst (λ v. SameCone R n v (out ++ h ∷ [])) (sym more)
            (SameCone-push laws n (take i rows) out g h (All-take (λ row. length row ≡ n) i rows w) k.wide eg k.same m);
      }

  pub normal_skip : (n : ℕ) (rows out : List (List V)) (i : ℕ) (g : List V) → AreNormalised R n (take i rows) out →
      i < length rows → AreWide n rows → g ≡ get_or rows i g → g ≡ bottom R (length g) →
      AreNormalised R n (take (i + 1) rows) out
  normal_skip n rows out i g k l w e b =
      let more : take (i + 1) rows ≡ take i rows ++ g ∷ [] = take_more rows i g l ∙
      ap (λ v. take i rows ++ v ∷ []) (sym e) in
      let eg : length g ≡ n = ap length e ∙ w i g l in
      record {
        wide = k.wide;
        normal = k.normal;
        sizes = k.sizes;
        fewer = omega (arith, ap length more, length_push (take i rows) g, k.fewer);
        same = subst (λ v. SameCone R n v out) (sym more) (SameCone-skip laws n (take i rows) out g
            (All-take (λ row. length row ≡ n) i rows w) k.wide eg k.same b);
      }
