-- Readings that go on with the next part, and stop with its fault.
use Rattle.std.proofs.Common.{◌≡◌, List, Ok, Err, ap, ◌∙◌}
use Rattle.std.specs.Prelude.{ℤ, codes}
use Rattle.trop_text.specs.declared.fault.FaultKind.{FaultKind}
use Rattle.trop_text.specs.declared.fault.FaultKind.TheVariants.{Syntax}
use Rattle.trop_grammar.specs.Reading.{Reading, Miss, go_on, read_then, gives}
use Rattle.shape_grammar.specs.Steps.{token_past}
use Rattle.prog_theory.specs.Limits.{program_limits}
use Rattle.prog_theory.specs.Named.{Named}
use Rattle.prog_texts.specs.AssertRule.{AssertRule}
use Rattle.prog_texts.specs.Words.{Counted, skipped}
use Rattle.prog_texts.specs.Judges.{ended}
use Rattle.prog_texts.specs.RowRule.{one_each, any_number}
use Rattle.prog_texts.specs.Operands.{said_at}
use Rattle.prog_texts.specs.Rows.{row_at}
use Rattle.prog_texts.specs.Traces.{trace_file_at}
use Rattle.prog_texts.specs.Programs.{closed, program_at, whole_program_at}
use Rattle.prog_texts.specs.Parts.{part_at, before_closing, kept}

module _ {A B : Type 0} where
  -- a reading with a value goes on, and one with a fault stops
  pub goes_on : (r : List Counted → Reading Counted FaultKind A) (s : A → List Counted → Reading Counted FaultKind B)
      (ts us : List Counted) (x : A) → r ts ≡ Ok (x, us) → read_then r s ts ≡ s x us
  unfolding read_then
  goes_on r s ts us x e = ap (λ z. go_on z s) e

  pub stops : (r : List Counted → Reading Counted FaultKind A) (s : A → List Counted → Reading Counted FaultKind B)
      (ts : List Counted) (miss : Miss Counted FaultKind) → r ts ≡ Err miss → read_then r s ts ≡ Err miss
  unfolding read_then
  stops r s ts miss e = ap (λ z. go_on z s) e

module _ (rule : AssertRule) where
  pub part_stops : (ts us : List Counted) (p : Named) (miss : Miss Counted FaultKind) →
      program_at program_limits rule ts ≡ Ok (p, us) → token_past skipped Syntax closed us ≡ Err miss →
      part_at program_limits rule ts ≡ Err miss
  unfolding part_at before_closing
  part_stops ts us p miss e k =
      goes_on (program_at program_limits rule) before_closing ts us p e ∙ ap (λ z. kept z p us) k

  pub whole_stops : (ts us : List Counted) (p : Named) (miss : Miss Counted FaultKind) →
      program_at program_limits rule ts ≡ Ok (p, us) → token_past skipped Syntax ended us ≡ Err miss →
      whole_program_at program_limits rule ts ≡ Err miss
  unfolding whole_program_at
  whole_stops ts us p miss e k =
      goes_on (program_at program_limits rule) _ ts us p e ∙ stops (token_past skipped Syntax ended) _ us miss k

  pub trace_stops : (ts t u v w x : List Counted) (p : Named) (start choices : List ℤ) (miss : Miss Counted FaultKind) →
      program_at program_limits rule ts ≡ Ok (p, t) → said_at (codes "start") t ≡ Ok (tt, u) →
      row_at one_each program_limits.entry u ≡ Ok (start, v) → said_at (codes "choices") v ≡ Ok (tt, w) →
      row_at any_number program_limits.entry w ≡ Ok (choices, x) → token_past skipped Syntax ended x ≡ Err miss →
      trace_file_at program_limits rule ts ≡ Err miss
  unfolding trace_file_at
  trace_stops ts t u v w x p start choices miss read said row says rows missed =
      goes_on (program_at program_limits rule) _ ts t p read
      ∙ goes_on (said_at (codes "start")) _ t u tt said
      ∙ goes_on (row_at one_each program_limits.entry) _ u v start row
      ∙ goes_on (said_at (codes "choices")) _ v w tt says
      ∙ goes_on (row_at any_number program_limits.entry) _ w x choices rows
      ∙ stops (token_past skipped Syntax ended) _ x miss missed
