-- A program with too many variables for a mode is none that the mode takes: mixed_apart.
use Rattle.std.proofs.Common.{◌≡◌, ◌<◌, ◌≤◌, inl, inr, ℕ, List, [], Result, Ok, Err, length, sym, ap, ◌∙◌, subst, arith}
use Rattle.trop_grammar.specs.Reading.{Reading}
use Rattle.trop_text.specs.declared.fault.Fault.{Fault}
use Rattle.trop_text.specs.declared.fault.FaultKind.{FaultKind}
use Rattle.prog_theory.specs.Limits.{program_limits}
use Rattle.prog_theory.specs.Named.{Named}
use Rattle.prog_texts.specs.AssertRule.{Either}
use Rattle.prog_texts.specs.Words.{Counted, program_pieces}
use Rattle.prog_texts.specs.Programs.{IsWholeProgram}
use Rattle.prog_texts.proofs.ProgramLaws.{whole_program_only}
use Rattle.tplib_mixed.specs.Fault.{most_variables}
use Rattle.tplib_mixed.specs.Mixed.{mixed_meaning}

abbrev read_ok : Named × List Counted → Reading Counted FaultKind Named
read_ok p = Ok p

same_program : (x y : Named) (us vs : List Counted) → read_ok (x, us) ≡ read_ok (y, vs) → x ≡ y
same_program x y us vs e = let p : (x, us) ≡ (y, vs) = cc in ap (λ (z : Named × List Counted). z.0) p

-- pieces spell one program at most
program_unique : (ts : List Counted) (x y : Named) → IsWholeProgram program_limits Either ts x →
    IsWholeProgram program_limits Either ts y → x ≡ y
program_unique ts x y h k = same_program x y [] []
    (sym (whole_program_only program_limits Either ts x h) ∙ whole_program_only program_limits Either ts y k)

too_wide : (ts : List Counted) (x y : Named) → IsWholeProgram program_limits Either ts x →
    IsWholeProgram program_limits Either ts y → most_variables < length x.names → length y.names ≤ most_variables → ⊥
too_wide ts x y h k many few = let e : length x.names ≡ length y.names =
    ap (λ (z : Named). length z.names) (program_unique ts x y h k) in omega (arith, e, many, few)

pub mixed_apart : (delay narrow : ℕ) (bytes : List ℕ) (fault : Fault) (said : Named) →
    (mixed_meaning delay narrow).faulty bytes fault → (mixed_meaning delay narrow).spells bytes said → ⊥
mixed_apart delay narrow bytes fault said (inl h) s = h.first.spelled said s.0
mixed_apart delay narrow bytes fault said (inr h) s =
    too_wide (program_pieces bytes) h.program said h.spelled s.0 h.many s.1
