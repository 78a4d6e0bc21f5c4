-- Lists without repeats: how long they can be.
use Rattle.std.proofs.Common.{◌≡◌, ◌≢◌, ◌<◌, ◌≤◌, ◌+◌, ◌-◌, ℕ, suc, List, [], ◌∷◌, ◌++◌, length, ⊎_elim, sym, ap, ◌∙◌, refl, arith, subst, get_or}
use Rattle.std.specs.Prelude.{All, AllPairs, Contains, remove}
use Rattle.std.proofs.lemmas.Bool.{cases_lt}
use Rattle.std.proofs.lemmas.List.{get_or_default, length-append, get_or_append_left, get_or-append-add}
use Rattle.std.proofs.lemmas.List.Edits.{get_or-remove_below, get_or-remove_above, length-remove}
use Rattle.std.proofs.lemmas.List.Elements.{Contains-get_or, All-contains, All-append}
use Rattle.trop_theory.specs.Semiring.{Semiring}
use Rattle.trop_theory.specs.Canonical.{RowBelow, IsCanonical, IsOverLimit, row_limit}
use Rattle.plain_lemmas.proofs.Distinct.{AreDistinct, distinct_append, no_longer}

module _ {V : Type 0} (R : Semiring V) where
  pub row_below_itself : (x : List V) → RowBelow R x x → ⊥
  row_below_itself [] h = h
  row_below_itself (a ∷ x) h = ⊎_elim (λ p. p.1 refl) (λ q. row_below_itself x q.1) h

  pub ascending_distinct : (rows : List (List V)) → AllPairs (RowBelow R) rows → AreDistinct rows
  ascending_distinct rows h i j d lt l e = row_below_itself (get_or rows j d)
      (subst (λ r. RowBelow R r (get_or rows j d)) e (h i j d lt l))

  -- a canonical list within the limit excludes a cone above it
  pub within_limit : (cone : List V → Type 0) (rows : List (List V)) → IsCanonical R cone rows →
      length rows ≤ row_limit → IsOverLimit R cone → ⊥
  within_limit cone rows h l over =
      let most = no_longer over.rows rows (ascending_distinct over.rows over.ascending)
      (λ k d lt. h.complete (get_or over.rows k d) (over.normal k d lt) (over.extreme k d lt)) in
      let many = over.many in
      omega arith

  -- a longer one shows that it is above
  pub above_limit : (cone : List V → Type 0) (rows : List (List V)) → IsCanonical R cone rows →
      row_limit < length rows → IsOverLimit R cone
  above_limit cone rows h l = record {
    rows = rows;
    ascending = h.ascending;
    normal = h.normal;
    extreme =
        h.extreme;
    many = l;
  }

  -- rows that are new and rows that stood before are together no more than the whole list
  pub fresh_and_kept : (old next fresh kept : List (List V)) → AllPairs (RowBelow R) fresh → All (Contains next) fresh →
      All (λ x. Contains old x → ⊥) fresh → AllPairs (RowBelow R) kept → All (Contains next) kept →
      All (Contains old) kept → length fresh + length kept ≤ length next
  fresh_and_kept old next fresh kept fa fn fo ka kn ko =
      let both = no_longer (fresh ++ kept) next
      (distinct_append fresh kept (ascending_distinct fresh fa) (ascending_distinct kept ka)
      (λ x f k. All-contains (λ x. Contains old x → ⊥) fresh x fo f (All-contains (Contains old) kept x ko k)))
      (All-append (Contains next) fresh kept fn kn) in
      omega (arith, length-append fresh kept)
