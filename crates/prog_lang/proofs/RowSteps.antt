-- What a loop keeps that reads the entries of a row.
use Rattle.std.proofs.Common.{◌≡◌, ◌≤◌, ◌^◌, ℕ, ℤ, List, [], ◌∷◌, ◌++◌, length, Result, Ok, Err, refl, sym, ap, subst, ◌∙◌}
use Rattle.trop_text.specs.declared.fault.FaultKind.{FaultKind}
use Rattle.trop_grammar.specs.Reading.{Reading, Miss, go_on, read_then, gives}
use Rattle.shape_grammar.proofs.Loops.{IsOnWay, way_begins, way_ends, way_goes_on, way_fails}
use Rattle.prog_texts.specs.Words.{Counted, skipped}
use Rattle.prog_texts.specs.Rows.{comma, next_entry_at}
use Rattle.prog_reading.specs.Gives.{IsBegun, NoneBegins}
use Rattle.prog_lang.specs.RowParts.{row_rule_of, entry_at, entries_at}
use Rattle.prog_lang.specs.declared.rows.RowRule.{RowRule}

module _ (R : RowRule) where
  abbrev pub IsRowing : List ℤ → List Counted → Reading Counted FaultKind (List ℤ) → Type 0
  IsRowing xs ts read = IsOnWay skipped (λ (xs : List ℤ). comma (row_rule_of R)) (next_entry_at (2 ^ 40)) xs ts read

  pub rowing_first : (xs : List ℤ) (x : ℤ) (ts : List Counted) → xs ≡ x ∷ [] → IsRowing xs ts (entries_at R x ts)
  rowing_first xs x ts e =
      subst (λ z. IsRowing z ts (entries_at R x ts)) (sym e)
      (way_begins skipped (λ (xs : List ℤ). comma (row_rule_of R)) (next_entry_at (2 ^ 40)) (x ∷ []) ts)

  pub rowing_done : (xs : List ℤ) (ts : List Counted) (read : Reading Counted FaultKind (List ℤ)) →
      IsRowing xs ts read → NoneBegins (comma (row_rule_of R)) ts → read ≡ Ok (xs, ts)
  rowing_done xs ts read w h =
      way_ends skipped (λ (xs : List ℤ). comma (row_rule_of R)) (next_entry_at (2 ^ 40)) xs ts read w h

  entry_ok : (xs : List ℤ) (y : ℤ) (us rest : List Counted) → entry_at us ≡ Ok (y, rest) →
      next_entry_at (2 ^ 40) xs tt us ≡ Ok (xs ++ y ∷ [], rest)
  unfolding next_entry_at read_then gives
  entry_ok xs y us rest e = ap (λ z. go_on z (λ y. gives (xs ++ y ∷ []))) e

  entry_err : (xs : List ℤ) (us : List Counted) (miss : Miss Counted FaultKind) → entry_at us ≡ Err miss →
      next_entry_at (2 ^ 40) xs tt us ≡ Err miss
  unfolding next_entry_at read_then
  entry_err xs us miss e = ap (λ z. go_on z (λ y. gives (xs ++ y ∷ []))) e

  pub rowing_next : (xs zs : List ℤ) (ts : List Counted) (read : Reading Counted FaultKind (List ℤ)) (us : List Counted)
      (y : ℤ) (rest : List Counted) → IsRowing xs ts read → IsBegun (comma (row_rule_of R)) ts tt us →
      entry_at us ≡ Ok (y, rest) → length rest ≤ length us → zs ≡ xs ++ y ∷ [] → IsRowing zs rest read
  rowing_next xs zs ts read us y rest w i e le k =
      subst (λ z. IsRowing z rest read) (sym k)
      (way_goes_on skipped (λ (xs : List ℤ). comma (row_rule_of R)) (next_entry_at (2 ^ 40)) xs ts read i.token us tt
      (xs ++ y ∷ []) rest w i.whole i.is (entry_ok xs y us rest e) le)

  pub rowing_fails : (xs : List ℤ) (ts : List Counted) (read : Reading Counted FaultKind (List ℤ)) (us : List Counted)
      (miss : Miss Counted FaultKind) → IsRowing xs ts read → IsBegun (comma (row_rule_of R)) ts tt us →
      entry_at us ≡ Err miss → read ≡ Err miss
  rowing_fails xs ts read us miss w i e =
      way_fails skipped (λ (xs : List ℤ). comma (row_rule_of R)) (next_entry_at (2 ^ 40)) xs ts read i.token us tt miss
      w i.whole i.is (entry_err xs us miss e)
