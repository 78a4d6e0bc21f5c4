-- The program of a report, by its pieces with what stands before each.
use Rattle.std.proofs.Common.{◌≡◌, List, Ok, Err, sym, ap, subst, ◌∙◌}
use Rattle.trop_grammar.specs.Reading.{Reading}
use Rattle.trop_text.specs.Tokens.{Tok}
use Rattle.trop_text.specs.Pieces.{Piece, pieces_from, pieces_left}
use Rattle.trop_text.specs.declared.fault.FaultKind.{FaultKind}
use Rattle.trop_reading.specs.declared.read_err.ReadErr.{ReadErr}
use Rattle.trop_reading.specs.Gives.{Fails}
use Rattle.prog_theory.specs.Named.{Named}
use Rattle.prog_texts.specs.AssertRule.{AssertRule}
use Rattle.prog_texts.specs.Words.{Counted, counted, nothing_before}
use Rattle.prog_reading.specs.declared.at.At.{At}
use Rattle.prog_reading.specs.declared.read_err.ReadErr.{ReadErr as ProgramErr}
use Rattle.prog_reading.specs.declared.read_err.ReadErr.TheVariants as programs
use Rattle.prog_reading.specs.Left.{left, before_of}
use Rattle.prog_reading.specs.Gives as counted_gives
use Rattle.report_texts.specs.ProgramParts.{part_pieces, plain, ended_at, uncounted, program_part_at}
use Rattle.report_texts.proofs.ProgramLaws.{plain_counted}
use Rattle.report_reading.specs.Parts.{IsPlain}

-- the pieces with which the reader of a program begins
pub begun_is : (ts : List Piece) (begun : List Counted) (tokens read : List Tok) →
    begun ≡ counted nothing_before (pieces_from read 0) → read ≡ tokens → ts ≡ pieces_from tokens 0 →
    begun ≡ part_pieces ts
begun_is ts begun tokens read e k h =
    e ∙ ap (λ (z : List Tok). part_pieces (pieces_from z 0)) k ∙ ap part_pieces (sym h)

module _ (rule : AssertRule) (ts : List Piece) (begun : List Counted) (same : begun ≡ part_pieces ts) where
  abbrev read : List Counted → Reading Piece FaultKind Named
  read us = uncounted (ended_at rule us)

  from_begun : program_part_at rule ts ≡ uncounted (ended_at rule begun)
  unfolding program_part_at
  from_begun = ap read (sym same)

  pub part_found : (p : Named) (at : At) → ended_at rule begun ≡ Ok (p, left at) →
      program_part_at rule ts ≡ Ok (p, pieces_left at.pieces)
  part_found p at e = from_begun ∙ ap uncounted e
      ∙ ap (λ (z : List Piece). Ok (p, z)) (plain_counted (before_of at.before) (pieces_left at.pieces))

  failed : (e : ProgramErr) (told : ReadErr) (v : Reading Counted FaultKind Named) → counted_gives.Fails e v →
      IsPlain e told → Fails told (uncounted v)
  failed programs.NoMemory told v f k = subst (λ z. Fails {A = Named} z (uncounted v)) (sym k) tt
  failed (programs.Wrong what at) told (Ok x) f k = absurd f
  failed (programs.Wrong what at) told (Err miss) f k =
      subst (λ z. Fails {A = Named} z (uncounted {A = Named} (Err miss))) (sym k) (
        f.0,
        sym (plain_counted (before_of at.before) (pieces_left at.pieces)) ∙ ap plain f.1,
      )

  pub part_failed : (e : ProgramErr) (told : ReadErr) → counted_gives.Fails e (ended_at rule begun) → IsPlain e told →
      Fails told (program_part_at rule ts)
  part_failed e told f k = subst (Fails told) (sym from_begun) (failed e told (ended_at rule begun) f k)
