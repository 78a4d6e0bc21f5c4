-- Elements and rows are read right.
use Rattle.std.proofs.Common.{◌≡◌, ◌≤◌, ℕ, zero, suc, List, [], ◌∷◌, ◌++◌, codes, Option, Some, None, Result, Ok, refl, pos, neg_ℤ, arith}
use Rattle.std.proofs.lemmas.Bool.{le-leb}
use Rattle.trop_theory.specs.Semiring.{Semiring}
use Rattle.trop_theory.specs.Numbers.{Numbering}
use Rattle.trop_grammar.specs.Reads.{Reads, Anything}
use Rattle.trop_grammar.proofs.Laws.{Reads-then, Reads-gives, Reads-repeat}
use Rattle.trop_grammar.proofs.ListLaws.{Reads-judged}
use Rattle.trop_text.specs.Pieces.{Piece}
use Rattle.trop_text.specs.declared.fault.FaultKind.{FaultKind}
use Rattle.trop_text.specs.declared.fault.FaultKind.TheVariants.{Syntax}
use Rattle.trop_spelling.specs.declared.ring_kind.RingKind.{RingKind}
use Rattle.trop_spelling.specs.declared.ring_kind.RingKind.TheVariants.{Max as MaxKind, Min as MinKind, Bool as BoolKind}
use Rattle.trop_reading.specs.Words.{number}
use Rattle.trop_spelling.specs.Elements.{max_start, max_behind, min_start, min_behind, truth, Behind, IsElement, behind_at, element_at, IsNextEntry, IsRow, next_entry_at, row_at}
use Rattle.trop_reading.proofs.Samples.{nought, said_reads, sample}

module _ {V : Type 0} (R : Semiring V) (N : Numbering V) (bound : ℕ) where
  behind_reads : (behind : Piece → Result V FaultKind) (p : Piece) (x : V) → behind p ≡ Ok x → (o : Option V) →
      Reads Anything (behind_at behind o) (Behind behind o)
  unfolding behind_at
  behind_reads behind p x e (Some y) = Reads-gives y
  behind_reads behind p x e None = Reads-judged Syntax behind p x e

  pub nought_fits : min_behind N bound nought ≡ Ok (N.of (neg_ℤ (pos 0)))
  unfolding number
  nought_fits = let h : 0 ≤ bound = omega arith in rw (le-leb 0 bound h) refl

  pub element_reads : (kind : RingKind) → Reads Anything (element_at kind R N bound) (IsElement kind R N bound)
  unfolding element_at IsElement
  element_reads MaxKind = Reads-then (Reads-judged Syntax (max_start N bound) (sample (codes "-")) None refl)
      (behind_reads (max_behind R N bound) (sample (codes "oo")) R.zero refl)
  element_reads MinKind = Reads-then (Reads-judged Syntax (min_start R N bound) (sample (codes "-")) None refl)
      (behind_reads (min_behind N bound) nought (N.of (neg_ℤ (pos 0))) nought_fits)
  element_reads BoolKind = Reads-judged Syntax (truth R) (sample (codes "true")) R.one refl

  next_entry_reads : (kind : RingKind) (xs : List V) →
      Reads Anything (next_entry_at kind R N bound xs) (IsNextEntry kind R N bound xs)
  unfolding next_entry_at
  next_entry_reads kind xs = Reads-then (said_reads (codes ",") refl)
      (λ u. Reads-then (element_reads kind) (λ x. Reads-gives (xs ++ x ∷ [])))

  pub row_reads : (kind : RingKind) (n : ℕ) → Reads Anything (row_at kind R N bound n) (IsRow kind R N bound n)
  unfolding row_at IsRow
  row_reads kind zero = Reads-then (said_reads (codes "[") refl)
      (λ u. Reads-then (said_reads (codes "]") refl) (λ v. Reads-gives []))
  row_reads kind (suc n) =
      Reads-then (said_reads (codes "[") refl) (λ u. Reads-then (element_reads kind)
      (λ x. Reads-then (Reads-repeat (next_entry_reads kind) n (x ∷ []))
      (λ xs. Reads-then (said_reads (codes "]") refl) (λ v. Reads-gives xs))))
