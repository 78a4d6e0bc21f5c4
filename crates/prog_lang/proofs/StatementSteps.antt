-- What readers of blocks and of statements follow.
use Rattle.std.proofs.Common.{◌≡◌, ◌≤◌, ◌<◌, ◌-◌, ℕ, zero, suc, Bool, true, false, Option, List, length, codes, Result, Ok, Err, refl, sym, ap, subst, ◌∙◌, arith, nat_lt}
use Rattle.std.proofs.lemmas.Bool.Decides.{nat_tests}
use Rattle.trop_text.specs.declared.fault.FaultKind.{FaultKind}
use Rattle.trop_text.specs.declared.fault.FaultKind.TheVariants.{Syntax}
use Rattle.trop_grammar.specs.Reading.{Reading, Miss, go_on, read_then, gives}
use Rattle.shape_grammar.specs.Steps.{token_past, maybe_past, many_past}
use Rattle.shape_grammar.proofs.Loops.{maybe_left, maybe_begun, IsOnWay, way_begins, way_ends, way_wrong, way_goes_on, way_fails}
use Rattle.prog_theory.specs.Limits.{program_limits}
use Rattle.prog_theory.specs.Statements.{Stmt, Block}
use Rattle.prog_theory.specs.Statements as tree
use Rattle.prog_theory.specs.Blocks.{and_then}
use Rattle.prog_texts.specs.AssertRule.{AssertRule}
use Rattle.prog_texts.specs.Words.{Counted, skipped}
use Rattle.prog_texts.specs.Judges.{goes_on}
use Rattle.prog_texts.specs.Operands.{said_at}
use Rattle.prog_texts.specs.Statements.{Verb, Asks, Loops, Sets, verb, block_sign, block_at, statement_rest, one_more_at, statements_at}
use Rattle.prog_reading.specs.Left.{left}
use Rattle.prog_reading.specs.Gives.{Fails, IsBegun, IsBad, NoneBegins, Begins}
use Rattle.prog_lang.specs.Verbs.{verb_of}
use Rattle.prog_lang.specs.ReadParts.{inside, closed_at, block_in, second_at, set_at, branch_at, loop_at, rest_at}
use Rattle.prog_reading.specs.declared.read_err.ReadErr.{ReadErr}
use Rattle.prog_reading.specs.declared.read_err.ReadErr.TheVariants as errors
use Rattle.prog_reading.proofs.Follow.{fails_is}

has_room : (d : ℕ) → nat_lt 0 (suc d) ≡ true
has_room d = grind (arith, nat_tests)

module _ (rule : AssertRule) (names : List (List ℕ)) where
  -- ---- blocks

  abbrev sign_at : ℕ → List Counted → Reading Counted FaultKind (Unit {0})
  sign_at d ts = token_past skipped Syntax (block_sign (nat_lt 0 d)) ts

  abbrev close : Block → List Counted → Reading Counted FaultKind Block
  close xs = read_then (said_at (codes "}")) (λ v. gives xs)

  inside_same : (d : ℕ) → 0 < d → inside rule names d ≡ statements_at program_limits rule names (d - 1)
  inside_same zero h = absurd (omega arith)
  inside_same (suc d) h = let e : suc d - 1 ≡ d = omega arith in ap (statements_at program_limits rule names) (sym e)

  pub block_fails : (d : ℕ) (ts : List Counted) (miss : Miss Counted FaultKind) → sign_at d ts ≡ Err miss →
      block_in rule names d ts ≡ Err miss
  unfolding block_at read_then
  block_fails d ts miss e = ap (λ z. go_on z (λ u us. go_on (inside rule names d us) close)) e

  pub block_goes : (d : ℕ) (ts us : List Counted) → 0 < d → sign_at d ts ≡ Ok (tt, us) →
      block_in rule names d ts ≡ closed_at rule names (d - 1) us
  unfolding block_at read_then
  block_goes d ts us h e =
      ap (λ z. go_on z (λ u us. go_on (inside rule names d us) close)) e
      ∙ ap (λ z. go_on (z us) close) (inside_same d h)

  pub second_goes : (d : ℕ) (ts us : List Counted) → IsBegun (goes_on (codes "else")) ts tt us →
      second_at rule names d ts ≡ block_in rule names d us
  second_goes d ts us h =
      maybe_begun skipped (goes_on (codes "else")) tree.Empty (λ u. block_in rule names d) ts h.token us tt h.whole h.is

  pub second_none : (d : ℕ) (ts : List Counted) → NoneBegins (goes_on (codes "else")) ts →
      second_at rule names d ts ≡ Ok (tree.Empty, ts)
  second_none d ts h = maybe_left skipped (goes_on (codes "else")) tree.Empty (λ u. block_in rule names d) ts h

  -- ---- statements

  abbrev judge : Block → Counted → Option (Result Verb FaultKind)
  judge xs = verb program_limits names

  abbrev step : ℕ → Block → Verb → List Counted → Reading Counted FaultKind Block
  step d = one_more_at program_limits rule names d (nat_lt 0 d) (inside rule names d)

  statements_is : (d : ℕ) (ts : List Counted) →
      statements_at program_limits rule names d ts ≡ many_past skipped judge (step d) tree.Empty ts
  unfolding statements_at
  statements_is zero ts = refl
  statements_is (suc d) ts =
      ap (λ b. many_past skipped judge
      (one_more_at program_limits rule names (suc d) b (statements_at program_limits rule names d)) tree.Empty ts)
      (sym (has_room d))

  -- what the loop over statements keeps
  abbrev pub IsAhead : ℕ → Block → List Counted → Reading Counted FaultKind Block → Type 0
  IsAhead d xs ts read = IsOnWay skipped judge (step d) xs ts read

  pub ahead_start : (d : ℕ) (ts : List Counted) → IsAhead d tree.Empty ts (statements_at program_limits rule names d ts)
  ahead_start d ts = subst (λ z. IsAhead d tree.Empty ts z) (sym (statements_is d ts))
      (way_begins skipped judge (step d) tree.Empty ts)

  pub ahead_done : (d : ℕ) (xs : Block) (ts : List Counted) (read : Reading Counted FaultKind Block) →
      IsAhead d xs ts read → NoneBegins (verb program_limits names) ts → read ≡ Ok (xs, ts)
  ahead_done d xs ts read w h = way_ends skipped judge (step d) xs ts read w h

  abbrev missed : FaultKind → List Counted → Reading Counted FaultKind Block
  missed what us = Err (record { what = what; rest = us })

  pub ahead_wrong : (d : ℕ) (e : ReadErr) (xs : Block) (ts : List Counted) (read : Reading Counted FaultKind Block) →
      IsAhead d xs ts read → Begins verb_of (verb program_limits names) ts (Err e) → Fails e read
  ahead_wrong d errors.NoMemory xs ts read w h = tt
  ahead_wrong d (errors.Wrong what at) xs ts read w h =
      fails_is what at read (way_wrong skipped judge (step d) xs ts read h.token h.behind what w h.whole h.is
      ∙ ap (missed what) (sym h.here))

  step_ok : (d : ℕ) (xs : Block) (v : Verb) (us : List Counted) (x : Stmt) (rest : List Counted) →
      rest_at rule names d v us ≡ Ok (x, rest) → step d xs v us ≡ Ok (and_then xs x, rest)
  unfolding one_more_at read_then gives
  step_ok d xs v us x rest e = ap (λ z. go_on z (λ x. gives (and_then xs x))) e

  step_err : (d : ℕ) (xs : Block) (v : Verb) (us : List Counted) (miss : Miss Counted FaultKind) →
      rest_at rule names d v us ≡ Err miss → step d xs v us ≡ Err miss
  unfolding one_more_at read_then
  step_err d xs v us miss e = ap (λ z. go_on z (λ x. gives (and_then xs x))) e

  pub ahead_more : (d : ℕ) (xs : Block) (ts : List Counted) (read : Reading Counted FaultKind Block) (v : Verb)
      (us : List Counted) (x : Stmt) (rest : List Counted) → IsAhead d xs ts read →
      IsBegun (verb program_limits names) ts v us → rest_at rule names d v us ≡ Ok (x, rest) → length rest ≤ length us →
      IsAhead d (and_then xs x) rest read
  ahead_more d xs ts read v us x rest w i e le =
      way_goes_on skipped judge (step d) xs ts read i.token us v (and_then xs x) rest w i.whole i.is
      (step_ok d xs v us x rest e) le

  pub ahead_fails : (d : ℕ) (xs : Block) (ts : List Counted) (read : Reading Counted FaultKind Block) (v : Verb)
      (us : List Counted) (miss : Miss Counted FaultKind) → IsAhead d xs ts read →
      IsBegun (verb program_limits names) ts v us → rest_at rule names d v us ≡ Err miss → read ≡ Err miss
  ahead_fails d xs ts read v us miss w i e =
      way_fails skipped judge (step d) xs ts read i.token us v miss w i.whole i.is (step_err d xs v us miss e)

  pub ahead_first : (d : ℕ) (xs : Block) (ts : List Counted) → xs ≡ tree.Empty →
      IsAhead d xs ts (statements_at program_limits rule names d ts)
  ahead_first d xs ts e =
      subst (λ z. IsAhead d z ts (statements_at program_limits rule names d ts)) (sym e) (ahead_start d ts)

  pub ahead_next : (d : ℕ) (xs zs : Block) (ts : List Counted) (read : Reading Counted FaultKind Block) (v : Verb)
      (us : List Counted) (x : Stmt) (rest : List Counted) → IsAhead d xs ts read →
      IsBegun (verb program_limits names) ts v us → rest_at rule names d v us ≡ Ok (x, rest) → length rest ≤ length us →
      zs ≡ and_then xs x → IsAhead d zs rest read
  ahead_next d xs zs ts read v us x rest w i e le k =
      subst (λ z. IsAhead d z rest read) (sym k) (ahead_more d xs ts read v us x rest w i e le)

  pub rest_asks : (d : ℕ) (ts : List Counted) → rest_at rule names d Asks ts ≡ branch_at rule names d ts
  unfolding statement_rest
  rest_asks d ts = refl

  pub rest_loops : (d : ℕ) (ts : List Counted) → rest_at rule names d Loops ts ≡ loop_at rule names d ts
  unfolding statement_rest
  rest_loops d ts = refl

  pub rest_sets : (d i : ℕ) (ts : List Counted) → rest_at rule names d (Sets i) ts ≡ set_at names i ts
  unfolding statement_rest
  rest_sets d i ts = refl
