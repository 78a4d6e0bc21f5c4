-- Rows that end their line are read right.
use Rattle.std.proofs.Common.{ℕ}
use Rattle.trop_theory.specs.Semiring.{Semiring}
use Rattle.trop_theory.specs.Numbers.{Numbering}
use Rattle.trop_grammar.specs.Reads.{Reads, Anything}
use Rattle.trop_grammar.proofs.Laws.{Reads-then, Reads-gives}
use Rattle.trop_spelling.specs.declared.ring_kind.RingKind.{RingKind}
use Rattle.trop_spelling.specs.Parts.{IsRowLine, row_line_at}
use Rattle.trop_spelling.proofs.ElementLaws.{row_reads}
use Rattle.trop_reading.proofs.Samples.{line_end_reads}

pub row_line_reads : {V : Type 0} (R : Semiring V) (N : Numbering V) (bound : ℕ) (kind : RingKind) (len : ℕ) →
    Reads Anything (row_line_at kind R N bound len) (IsRowLine kind R N bound len)
unfolding row_line_at
row_line_reads R N bound kind len = Reads-then (row_reads R N bound kind len)
    (λ row. Reads-then line_end_reads (λ u. Reads-gives row))
