-- Lists of printable rows with one file are one list.
use Rattle.std.proofs.Common.{◌≡◌, Bool, ℕ, List, [], ◌∷◌, sym, refl, arith}
use Rattle.std.specs.Prelude.{All, codes}
use Rattle.std.proofs.lemmas.List.{append_cancel_left}
use Rattle.std.proofs.lemmas.List.Elements.{All-head, All-tail}
use Rattle.trop_theory.specs.Semiring.{Semiring}
use Rattle.trop_theory.specs.Numbers.{Numbering, NumberLaws}
use Rattle.trop_spelling.specs.declared.ring_kind.RingKind.{RingKind}
use Rattle.trop_spelling.specs.Spelling.{KindLaws}
use Rattle.trop_spelling.specs.Printed.{numbers}
use Rattle.trop_files.specs.PrintedFiles.{generator_line, lines_of, printed_header, printed_gens}
use Rattle.tplib_laws.proofs.Splitting.{split, no_text}
use Rattle.tplib_laws.proofs.Rows.{IsPrintable, line_injective, line_from, cons_equal}

module _ {V : Type 0} {R : Semiring V} {N : Numbering V} (laws : NumberLaws R N) (kind : RingKind) (reversed : Bool)
    (known : KindLaws kind R N reversed) (n : ℕ) where
  abbrev line : List V → List ℕ
  line x = generator_line kind (numbers N x)

  lines_injective : (rows others : List (List V)) → All (IsPrintable R n) rows → All (IsPrintable R n) others →
      lines_of line rows ≡ lines_of line others → rows ≡ others
  lines_injective [] [] h k e = refl
  lines_injective [] (y ∷ others) h k e = absurd (no_text (line y) (lines_of line others) 10 e)
  lines_injective (x ∷ rows) [] h k e = absurd (no_text (line x) (lines_of line rows) 10 (sym e))
  lines_injective (x ∷ rows) (y ∷ others) h k e =
      let hx = All-head (IsPrintable R n) x rows h in
      let ky = All-head (IsPrintable R n) y others k in
      let r = split 32 10 (line x) (line y) (lines_of line rows) (lines_of line others) (omega arith)
      (line_from laws kind reversed known x hx.small) (line_from laws kind reversed known y ky.small) e in
      cons_equal x y rows others (line_injective laws kind reversed known n x y hx ky r.0)
      (lines_injective rows others (All-tail (IsPrintable R n) x rows h) (All-tail (IsPrintable R n) y others k) r.1)

  pub printed_injective : (names : List (List ℕ)) (rows others : List (List V)) → All (IsPrintable R n) rows →
      All (IsPrintable R n) others → printed_gens kind N names rows ≡ printed_gens kind N names others → rows ≡ others
  printed_injective names rows others h k e = lines_injective rows others h k
      (append_cancel_left (printed_header (codes "gens") kind names) (lines_of line rows) (lines_of line others) e)
