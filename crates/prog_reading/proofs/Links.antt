-- What a loop keeps that reads a chain of conditions link by link.
use Rattle.std.proofs.Common.{◌≡◌, ◌≤◌, ℕ, List, length, Result, Ok, Err, refl, sym, ap, subst, ◌∙◌}
use Rattle.trop_text.specs.declared.fault.FaultKind.{FaultKind}
use Rattle.trop_grammar.specs.Reading.{Reading, Miss, go_on, read_then, gives}
use Rattle.shape_grammar.specs.Steps.{many_past}
use Rattle.shape_grammar.proofs.Loops.{IsOnWay, way_begins, way_ends, way_goes_on, way_fails}
use Rattle.prog_theory.specs.Conditions.{Cond}
use Rattle.prog_texts.specs.Words.{Counted, skipped}
use Rattle.prog_texts.specs.Judges.{goes_on}
use Rattle.prog_texts.specs.Conditions.{link_at, chain_at}
use Rattle.prog_reading.specs.Gives.{IsBegun, NoneBegins}

module _ (word : List ℕ) (join : Cond → Cond → Cond) (r : List Counted → Reading Counted FaultKind Cond) where
  abbrev pub IsLinked : Cond → List Counted → Reading Counted FaultKind Cond → Type 0
  IsLinked x ts read = IsOnWay skipped (λ (x : Cond). goes_on word) (link_at join r) x ts read

  abbrev more : Cond → List Counted → Reading Counted FaultKind Cond
  more = many_past skipped (λ (x : Cond). goes_on word) (link_at join r)

  pub linked_start : (ts : List Counted) (x : Cond) (rest : List Counted) → r ts ≡ Ok (x, rest) →
      IsLinked x rest (chain_at word join r ts)
  unfolding chain_at read_then
  linked_start ts x rest e = subst (λ z. IsLinked x rest z) (sym (ap (λ z. go_on z more) e))
      (way_begins skipped (λ (x : Cond). goes_on word) (link_at join r) x rest)

  pub linked_fails_first : (ts : List Counted) (miss : Miss Counted FaultKind) → r ts ≡ Err miss →
      chain_at word join r ts ≡ Err miss
  unfolding chain_at read_then
  linked_fails_first ts miss e = ap (λ z. go_on z more) e

  pub linked_done : (x : Cond) (ts : List Counted) (read : Reading Counted FaultKind Cond) → IsLinked x ts read →
      NoneBegins (goes_on word) ts → read ≡ Ok (x, ts)
  linked_done x ts read w h = way_ends skipped (λ (x : Cond). goes_on word) (link_at join r) x ts read w h

  link_ok : (x y : Cond) (us rest : List Counted) → r us ≡ Ok (y, rest) → link_at join r x tt us ≡ Ok (join x y, rest)
  unfolding link_at read_then gives
  link_ok x y us rest e = ap (λ z. go_on z (λ y. gives (join x y))) e

  link_err : (x : Cond) (us : List Counted) (miss : Miss Counted FaultKind) → r us ≡ Err miss →
      link_at join r x tt us ≡ Err miss
  unfolding link_at read_then
  link_err x us miss e = ap (λ z. go_on z (λ y. gives (join x y))) e

  pub linked_more : (x : Cond) (ts : List Counted) (read : Reading Counted FaultKind Cond) (us : List Counted)
      (y : Cond) (rest : List Counted) → IsLinked x ts read → IsBegun (goes_on word) ts tt us → r us ≡ Ok (y, rest) →
      length rest ≤ length us → IsLinked (join x y) rest read
  linked_more x ts read us y rest w i e le = way_goes_on skipped (λ (x : Cond). goes_on word)
      (link_at join r) x ts read i.token us tt (join x y) rest w i.whole i.is (link_ok x y us rest e) le

  pub linked_fails : (x : Cond) (ts : List Counted) (read : Reading Counted FaultKind Cond) (us : List Counted)
      (miss : Miss Counted FaultKind) → IsLinked x ts read → IsBegun (goes_on word) ts tt us → r us ≡ Err miss →
      read ≡ Err miss
  linked_fails x ts read us miss w i e = way_fails skipped (λ (x : Cond). goes_on word)
      (link_at join r) x ts read i.token us tt miss w i.whole i.is (link_err x us miss e)
