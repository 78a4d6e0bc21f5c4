-- Files of a vector with inequalities are read right.
use Rattle.std.proofs.Common.{◌≡◌, ◌+◌, ℕ, List, codes, length, Ok, refl}
use Rattle.trop_theory.specs.Semiring.{Semiring}
use Rattle.trop_theory.specs.Numbers.{Numbering}
use Rattle.trop_grammar.specs.Reading.{token_at}
use Rattle.trop_grammar.specs.Grammar.{One}
use Rattle.trop_grammar.specs.Reads.{Reads, Anything}
use Rattle.trop_grammar.specs.Lists.{Passes}
use Rattle.trop_grammar.proofs.Ends.{EndsWith, EndsWith-one, EndsWith-then, EndsWith-gives}
use Rattle.trop_grammar.proofs.Laws.{Reads-then, Reads-gives}
use Rattle.trop_grammar.proofs.ListLaws.{Reads-judged}
use Rattle.trop_text.specs.Pieces.{Piece, Token, LineEnd, InputEnd}
use Rattle.trop_text.specs.declared.fault.FaultKind.TheVariants.{Syntax}
use Rattle.trop_files.specs.declared.list_end.ListEnd.TheVariants.{At as AtWord}
use Rattle.trop_files.specs.ListEnds.{ends}
use Rattle.trop_spelling.specs.declared.ring_kind.RingKind.{RingKind}
use Rattle.trop_reading.specs.Words.{input_end}
use Rattle.trop_files.specs.Generators.{greatest_number}
use Rattle.trop_files.specs.AtFiles.{IsAt, at_body_at, IsAtOf, at_file, SpellsAt, at_of_at, at_file_at}
use Rattle.trop_reading.proofs.Samples.{sample, line_end_reads, IsInputEnd}
use Rattle.trop_spelling.proofs.ElementLaws.{row_reads}
use Rattle.trop_files.proofs.FileLaws.{Reads-file, EndsWith-file}
use Rattle.trop_files.proofs.InequalityFileLaws.{inequalities_reads}

pub input_end_reads : Reads Anything (token_at Syntax input_end) (One (Passes input_end))
input_end_reads = Reads-judged Syntax input_end InputEnd tt refl

is_end : (p : Piece) (u : Unit {0}) → input_end p ≡ Ok u → IsInputEnd p
is_end InputEnd u e = refl
is_end (Token t) u e = absurd cc
is_end (LineEnd line) u e = absurd cc

at_reads : {V : Type 0} (kind : RingKind) (R : Semiring V) (N : Numbering V) (names : List (List ℕ)) →
    Reads Anything (at_body_at kind R N names) (IsAt kind R N names)
unfolding at_body_at
at_reads kind R N names =
    Reads-then (inequalities_reads kind R N names (ends AtWord) (sample (codes "at")) refl)
    (λ xs. Reads-then (row_reads R N greatest_number kind (length names + 1)) (λ row.
    Reads-then line_end_reads (λ u. Reads-then input_end_reads
    (λ v. Reads-gives (record { inequalities = xs; row = row })))))

pub at_file_reads : Reads Anything at_file_at SpellsAt
at_file_reads = Reads-file at_of_at IsAtOf at_file (codes "at") refl (λ h V kind R N. at_reads kind R N h.names)

at_ends : {V : Type 0} (kind : RingKind) (R : Semiring V) (N : Numbering V) (names : List (List ℕ)) →
    EndsWith IsInputEnd (IsAt kind R N names)
at_ends kind R N names = EndsWith-then (λ xs. EndsWith-then
    (λ row. EndsWith-then (λ u. EndsWith-gives (EndsWith-one is_end))))

pub at_file_ends : EndsWith IsInputEnd SpellsAt
at_file_ends = EndsWith-file (codes "at") IsAtOf at_file (λ h V kind R N. at_ends kind R N h.names)
