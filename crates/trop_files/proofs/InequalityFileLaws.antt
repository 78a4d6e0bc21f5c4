-- Files of inequalities are read right.
use Rattle.std.proofs.Common.{◌≡◌, ℕ, Bool, true, List, codes, refl}
use Rattle.trop_theory.specs.Semiring.{Semiring}
use Rattle.trop_theory.specs.Numbers.{Numbering}
use Rattle.trop_grammar.specs.Reads.{Reads, Anything}
use Rattle.trop_grammar.proofs.Ends.{EndsWith, EndsWith-listed}
use Rattle.trop_grammar.proofs.ListLaws.{Reads-list, parts_of}
use Rattle.trop_text.specs.Pieces.{Piece, InputEnd}
use Rattle.trop_text.specs.declared.fault.FaultKind.TheVariants.{Syntax}
use Rattle.trop_spelling.specs.declared.ring_kind.RingKind.{RingKind}
use Rattle.trop_reading.specs.Words.{is_input_end}
use Rattle.trop_files.specs.Generators.{greatest_number}
use Rattle.trop_spelling.specs.Inequalities.{side_start, IsInequalityRest, inequality_rest_at}
use Rattle.trop_files.specs.InequalityFiles.{past_inequalities, next_inequality, no_inequality, most_inequalities, AreInequalities, inequalities_at, AreInequalitiesOf, inequality_file, SpellsInequalities, inequalities_of_at, inequality_file_at}
use Rattle.trop_files.proofs.FileLaws.{Reads-file, EndsWith-file}
use Rattle.trop_reading.proofs.Samples.{IsInputEnd, only_at_end}
use Rattle.trop_spelling.proofs.InequalityLaws.{inequality_rest_reads}

pub inequalities_reads : {V : Type 0} (kind : RingKind) (R : Semiring V) (N : Numbering V) (names : List (List ℕ))
    (ends : Piece → Bool) (end : Piece) → ends end ≡ true →
    Reads Anything (inequalities_at kind R N names ends) (AreInequalities kind R N names ends)
unfolding inequalities_at
inequalities_reads kind R N names ends end e =
    Reads-list Syntax (next_inequality kind R N names ends)
    (λ before. inequality_rest_at kind R N greatest_number names) (λ before. no_inequality kind ends)
    (λ before. IsInequalityRest kind R N greatest_number names)
    (parts_of ends (λ before. side_start kind R N greatest_number names) (past_inequalities kind)
    (λ before. inequality_rest_at kind R N greatest_number names)
    (λ before. IsInequalityRest kind R N greatest_number names) end e
    (λ before. inequality_rest_reads R N greatest_number names kind))
    most_inequalities

pub inequality_file_reads : Reads Anything inequality_file_at SpellsInequalities
inequality_file_reads = Reads-file inequalities_of_at AreInequalitiesOf inequality_file (codes "ineqs") refl
    (λ h V kind R N. inequalities_reads kind R N h.names is_input_end InputEnd refl)

inequalities_end : {V : Type 0} (kind : RingKind) (R : Semiring V) (N : Numbering V) (names : List (List ℕ)) →
    EndsWith IsInputEnd (AreInequalities kind R N names is_input_end)
inequalities_end kind R N names = EndsWith-listed (λ before t h. only_at_end (is_input_end t)
    (side_start kind R N greatest_number names t) h)

pub inequality_file_ends : EndsWith IsInputEnd SpellsInequalities
inequality_file_ends = EndsWith-file (codes "ineqs") AreInequalitiesOf inequality_file
    (λ h V kind R N. inequalities_end kind R N h.names)
