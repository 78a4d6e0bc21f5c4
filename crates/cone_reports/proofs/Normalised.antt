-- Rows in normal form, bottom left out, have the combinations of the rows.
use Rattle.std.proofs.Common.{◌≡◌, ◌≢◌, ⊎_elim, ℕ, List, length, get_or, sym, ap, ◌∙◌, subst}
use Rattle.std.specs.Prelude.{All, Contains}
use Rattle.std.proofs.lemmas.List.{length-map}
use Rattle.std.proofs.lemmas.List.Elements.{All-contains, Contains-get_or}
use Rattle.trop_theory.specs.Semiring.{Semiring, SemiringLaws}
use Rattle.trop_theory.specs.Vectors.{entry, scaled, bottom}
use Rattle.trop_theory.specs.Normal.{Normalises}
use Rattle.trop_theory.specs.Combinations.{IsCombination, SameCone}
use Rattle.trop_theory.proofs.Rows.{scaled-bottom, entry-bottom}
use Rattle.trop_theory.proofs.Combinations.{IsCombination-bottom, IsCombination-scaled}
use Rattle.trop_theory.proofs.SameCones.{IsCombination-contained}
use Rattle.trop_theory.proofs.Generation.{bottom_or_normal, undo_normal}
use Rattle.trop_theory.proofs.StepLists.{Contains-chosen, from_chosen}
use Rattle.plain_lemmas.proofs.Lists.{there_in_zip, back_in_zip}
use Rattle.cone_reports.specs.EdgeLists.{AreNormalised}

module _ {V : Type 0} {R : Semiring V} (laws : SemiringLaws R) where
  -- a vector with a normal form is not bottom
  pub normalised_not_bottom : (x y : List V) → Normalises R x y → x ≢ bottom R (length x)
  normalised_not_bottom x y m e =
      laws.one_finite (sym m.normal.is_one ∙ ap (λ v. entry R v m.normal.first)
      (m.multiple ∙ ap (scaled R m.factor) e ∙ scaled-bottom laws m.factor (length x))
      ∙ entry-bottom R (length x) m.normal.first)

module _ {V : Type 0} {R : Semiring V} (laws : SemiringLaws R) (n : ℕ) (rows others : List (List V))
    (w : All (λ g. length g ≡ n) rows) (h : AreNormalised R rows others) where
  in_rows : (y : List V) → Contains others y → (x : List V) × Contains rows x × Normalises R x y
  in_rows y c =
      let r = back_in_zip (Normalises R) h.finite others h.each y c in
      (r.0, (from_chosen (λ x. x ≢ bottom R (length x)) rows h.finite h.chosen r.0 r.1).0, r.2)

  pub normalised_wide : All (λ g. length g ≡ n) others
  normalised_wide k d l =
      let r = in_rows (get_or others k d) (Contains-get_or others k d l) in
      ap length r.2.multiple ∙ length-map r.0 (R.times r.2.factor) ∙ All-contains (λ g. length g ≡ n) rows r.0 w r.1

  there : (x : List V) → Contains rows x → IsCombination R n others x
  there x c = ⊎_elim
      (λ e. subst (IsCombination R n others) (sym (e ∙ ap (bottom R) (All-contains (λ g. length g ≡ n) rows x w c)))
      (IsCombination-bottom laws n others normalised_wide))
      (λ m.
      let f = Contains-chosen (λ x. x ≢ bottom R (length x)) rows h.finite h.chosen x c
      (normalised_not_bottom laws x m.0 m.1) in
      let r = there_in_zip (Normalises R) h.finite others h.each x f in
      subst (IsCombination R n others) (undo_normal laws x r.0 r.2)
      (IsCombination-scaled laws n others (R.inverse r.2.factor) r.0
      (IsCombination-contained laws n others r.0 normalised_wide r.1)))
      (bottom_or_normal laws x)

  back : (y : List V) → Contains others y → IsCombination R n rows y
  back y c =
      let r = in_rows y c in
      subst (IsCombination R n rows) (sym r.2.multiple)
      (IsCombination-scaled laws n rows r.2.factor r.0 (IsCombination-contained laws n rows r.0 w r.1))

  pub normalised_same : SameCone R n rows others
  normalised_same = record {
    there = λ k d l. there (get_or rows k d) (Contains-get_or rows k d l);
    back = λ k d l. back (get_or others k d) (Contains-get_or others k d l);
  }
