-- What a loop keeps that reads a list of terms, and what a reader of sides follows.
use Rattle.std.proofs.Common.{◌≡◌, ◌≤◌, ◌<◌, ℕ, List, [], ◌∷◌, ◌++◌, length, length-append, arith, codes, Result, Ok, Err, refl, sym, ap, subst, ◌∙◌}
use Rattle.trop_text.specs.declared.fault.FaultKind.{FaultKind}
use Rattle.trop_grammar.specs.Reading.{Reading, Miss, go_on, read_then, gives}
use Rattle.shape_grammar.specs.Steps.{many_past}
use Rattle.shape_grammar.proofs.Loops.{IsOnWay, way_begins, way_ends, way_goes_on, way_fails}
use Rattle.prog_theory.specs.States.{Term}
use Rattle.prog_theory.specs.Limits.{program_limits}
use Rattle.prog_theory.specs.Statements.{SideWord, One, Greatest, Least}
use Rattle.prog_theory.specs.Within.{IsSide}
use Rattle.prog_texts.specs.Words.{Counted, skipped}
use Rattle.prog_texts.specs.Judges.{goes_on}
use Rattle.prog_texts.specs.Operands.{operand_at}
use Rattle.prog_texts.specs.Claims.{next_term_at, terms_from}
use Rattle.prog_reading.specs.Gives.{IsBegun, NoneBegins}
use Rattle.prog_reading.specs.SideParts.{IsSum}

module _ (names : List (List ℕ)) where
  abbrev pub IsListed : List Term → List Counted → Reading Counted FaultKind (List Term) → Type 0
  IsListed xs ts read = IsOnWay skipped (λ (xs : List Term). goes_on (codes ","))
      (next_term_at program_limits names) xs ts read

  pub listed_start : (x : Term) (ts : List Counted) → IsListed (x ∷ []) ts (terms_from program_limits names x ts)
  unfolding terms_from
  listed_start x ts = way_begins skipped (λ (xs : List Term). goes_on (codes ",")) (next_term_at program_limits names)
      (x ∷ []) ts

  pub listed_done : (xs : List Term) (ts : List Counted) (read : Reading Counted FaultKind (List Term)) →
      IsListed xs ts read → NoneBegins (goes_on (codes ",")) ts → read ≡ Ok (xs, ts)
  listed_done xs ts read w h = way_ends skipped (λ (xs : List Term). goes_on (codes ","))
      (next_term_at program_limits names) xs ts read w h

  term_ok : (xs : List Term) (y : Term) (us rest : List Counted) → operand_at program_limits names us ≡ Ok (y, rest) →
      next_term_at program_limits names xs tt us ≡ Ok (xs ++ y ∷ [], rest)
  unfolding next_term_at read_then gives
  term_ok xs y us rest e = ap (λ z. go_on z (λ y. gives (xs ++ y ∷ []))) e

  term_err : (xs : List Term) (us : List Counted) (miss : Miss Counted FaultKind) →
      operand_at program_limits names us ≡ Err miss → next_term_at program_limits names xs tt us ≡ Err miss
  unfolding next_term_at read_then
  term_err xs us miss e = ap (λ z. go_on z (λ y. gives (xs ++ y ∷ []))) e

  pub listed_more : (xs : List Term) (ts : List Counted) (read : Reading Counted FaultKind (List Term))
      (us : List Counted) (y : Term) (rest : List Counted) → IsListed xs ts read →
      IsBegun (goes_on (codes ",")) ts tt us → operand_at program_limits names us ≡ Ok (y, rest) →
      length rest ≤ length us → IsListed (xs ++ y ∷ []) rest read
  listed_more xs ts read us y rest w i e le = way_goes_on skipped (λ (xs : List Term). goes_on (codes ","))
      (next_term_at program_limits names) xs ts read i.token us tt (xs ++ y ∷ []) rest w i.whole i.is
      (term_ok xs y us rest e) le

  pub listed_fails : (xs : List Term) (ts : List Counted) (read : Reading Counted FaultKind (List Term))
      (us : List Counted) (miss : Miss Counted FaultKind) → IsListed xs ts read →
      IsBegun (goes_on (codes ",")) ts tt us → operand_at program_limits names us ≡ Err miss → read ≡ Err miss
  listed_fails xs ts read us miss w i e = way_fails skipped (λ (xs : List Term). goes_on (codes ","))
      (next_term_at program_limits names) xs ts read i.token us tt miss w i.whole i.is (term_err xs us miss e)

  pub listed_first : (xs : List Term) (x : Term) (ts : List Counted) → xs ≡ x ∷ [] →
      IsListed xs ts (terms_from program_limits names x ts)
  listed_first xs x ts e = subst (λ z. IsListed z ts (terms_from program_limits names x ts)) (sym e) (listed_start x ts)

  pub listed_next : (xs zs : List Term) (ts : List Counted) (read : Reading Counted FaultKind (List Term))
      (us : List Counted) (y : Term) (rest : List Counted) → IsListed xs ts read →
      IsBegun (goes_on (codes ",")) ts tt us → operand_at program_limits names us ≡ Ok (y, rest) →
      length rest ≤ length us → zs ≡ xs ++ y ∷ [] → IsListed zs rest read
  listed_next xs zs ts read us y rest w i e le k =
      subst (λ z. IsListed z rest read) (sym k) (listed_more xs ts read us y rest w i e le)

pub first_some : (xs : List Term) (x : Term) → xs ≡ x ∷ [] → 0 < length xs
first_some xs x e = let k = ap length e in omega (arith, k)

pub next_some : (xs zs : List Term) (y : Term) → zs ≡ xs ++ y ∷ [] → 0 < length zs
next_some xs zs y e = let k = ap length e in omega (arith, k, length-append xs (y ∷ []))

-- a side of a word and some terms
pub sum_side : (word : SideWord) (xs : List Term) → IsSum word → 0 < length xs → IsSide word xs
sum_side One xs s h = absurd s
sum_side Greatest xs s h = h
sum_side Least xs s h = h
