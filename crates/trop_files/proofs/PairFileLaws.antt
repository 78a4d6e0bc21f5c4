-- Files of two lists of generators are read right.
use Rattle.std.proofs.Common.{ℕ, codes, length, refl}
use Rattle.trop_theory.specs.Semiring.{Semiring}
use Rattle.trop_theory.specs.Numbers.{Numbering}
use Rattle.trop_grammar.specs.Reads.{Reads, Anything}
use Rattle.trop_grammar.proofs.Ends.{EndsWith, EndsWith-then, EndsWith-gives}
use Rattle.trop_grammar.proofs.Laws.{Reads-then, Reads-gives}
use Rattle.trop_text.specs.Pieces.{InputEnd}
use Rattle.trop_files.specs.declared.list_end.ListEnd.TheVariants.{And, Input}
use Rattle.trop_files.specs.ListEnds.{ends}
use Rattle.trop_spelling.specs.declared.ring_kind.RingKind.{RingKind}
use Rattle.trop_files.specs.PairFiles.{AreTwo, two_at, AreTwoOf, two_file, SpellsTwo, two_of_at, two_file_at}
use Rattle.trop_reading.proofs.Samples.{sample, line_end_reads, IsInputEnd}
use Rattle.trop_files.proofs.FileLaws.{generators_reads, generators_end, Reads-file, EndsWith-file}

two_reads : {V : Type 0} (kind : RingKind) (R : Semiring V) (N : Numbering V) (vars : ℕ) →
    Reads Anything (two_at kind R N vars) (AreTwo kind R N vars)
unfolding two_at
two_reads kind R N vars =
    Reads-then (generators_reads kind R N vars (ends And) (sample (codes "and")) refl)
    (λ left. Reads-then line_end_reads (λ u.
    Reads-then (generators_reads kind R N vars (ends Input) InputEnd refl)
    (λ right. Reads-gives (record { left = left; right = right }))))

pub two_file_reads : Reads Anything two_file_at SpellsTwo
two_file_reads = Reads-file two_of_at AreTwoOf two_file (codes "pair") refl
    (λ h V kind R N. two_reads kind R N (length h.names))

two_ends : {V : Type 0} (kind : RingKind) (R : Semiring V) (N : Numbering V) (vars : ℕ) →
    EndsWith IsInputEnd (AreTwo kind R N vars)
two_ends kind R N vars = EndsWith-then (λ left. EndsWith-then (λ u. EndsWith-gives (generators_end kind R N vars)))

pub two_file_ends : EndsWith IsInputEnd SpellsTwo
two_file_ends = EndsWith-file (codes "pair") AreTwoOf two_file (λ h V kind R N. two_ends kind R N (length h.names))
