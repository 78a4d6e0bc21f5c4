-- Equal texts are equal cones.
use Rattle.std.proofs.Common.{◌≡◌, ◌≤◌, ◌+◌, ◌^◌, Bool, ℕ, List, length, sym, ap, ◌∙◌, arith, subst}
use Rattle.std.specs.Prelude.{All, ◌↔◌}
use Rattle.trop_theory.specs.Semiring.{Semiring, SemiringLaws}
use Rattle.trop_theory.specs.Numbers.{Numbering, NumberLaws}
use Rattle.trop_theory.specs.Vectors.{rows_size, AreWide}
use Rattle.trop_theory.specs.Inequalities.{Inequality, Solves, system_size}
use Rattle.trop_theory.specs.Combinations.{IsCombination}
use Rattle.trop_theory.specs.Canonical.{IsCanonical}
use Rattle.trop_theory.proofs.Unique.{IsCanonical-unique}
use Rattle.trop_spelling.specs.declared.ring_kind.RingKind.{RingKind}
use Rattle.trop_spelling.specs.Spelling.{KindLaws}
use Rattle.trop_files.specs.PrintedFiles.{printed_gens}
use Rattle.tplib_cones.specs.Reduce.{IsReduced}
use Rattle.tplib_cones.specs.Ext.{IsConverted}
use Rattle.tplib_laws.proofs.Rows.{IsPrintable}
use Rattle.tplib_laws.proofs.Files.{printed_injective}
use Rattle.tplib_laws.proofs.Sizes.{solutions_printable, combinations_printable}

-- the text is the file of the canonical list of the cone, which generates it
record IsFileOf {V : Type 0} (kind : RingKind) (R : Semiring V) (N : Numbering V) (names : List (List ℕ))
    (cone : List V → Type 0) (text : List ℕ) : Type 0 where
  pub answer : List (List V)
  pub canonical : IsCanonical R cone answer
  pub generates : (x : List V) → cone x ↔ IsCombination R (length names + 1) answer x
  pub printable : All (IsPrintable R (length names + 1)) answer
  pub printed : text ≡ printed_gens kind N names answer

module _ {V : Type 0} {R : Semiring V} {N : Numbering V} (laws : SemiringLaws R) (numbers : NumberLaws R N)
    (kind : RingKind) (reversed : Bool) (known : KindLaws kind R N reversed) (names : List (List ℕ)) where
  same_cone : (C D : List V → Type 0) (s t : List ℕ) (a : IsFileOf kind R N names C s) (b : IsFileOf kind R N names D t)
      → a.answer ≡ b.answer → (x : List V) → C x ↔ D x
  same_cone C D s t a b e x = (
    λ c. (b.generates x).1 (subst (λ r. IsCombination R (length names + 1) r x) e ((a.generates x).0 c)),
    λ d. (a.generates x).1 (subst (λ r. IsCombination R (length names + 1) r x) (sym e) ((b.generates x).0 d)),
  )

  same_texts : (C D : List V → Type 0) (s t : List ℕ) → IsFileOf kind R N names C s → IsFileOf kind R N names D t →
      (s ≡ t) ↔ ((x : List V) → C x ↔ D x)
  same_texts C D s t a b = (
    λ e. same_cone C D s t a b (printed_injective numbers kind reversed known
        (length names + 1) names a.answer b.answer a.printable b.printable (sym a.printed ∙ e ∙ b.printed)),
    λ same. a.printed ∙ ap (printed_gens kind N names)
        (IsCanonical-unique laws C D a.answer b.answer same a.canonical b.canonical) ∙ sym b.printed,
  )

  file_of_solutions : (system : List (Inequality V)) (s : List ℕ) → length names ≤ 63 → system_size R system ≤ 2 ^ 49 →
      IsConverted kind R N names system s → IsFileOf kind R N names (Solves R (length names + 1) system) s
  file_of_solutions system s few size h = record {
    answer = h.answer;
    canonical = h.canonical;
    generates = h.generates;
    printable = solutions_printable laws (length names + 1) system h.answer (omega arith) size h.canonical;
    printed = h.printed;
  }

  file_of_combinations : (rows : List (List V)) (s : List ℕ) → AreWide (length names + 1) rows →
      rows_size R rows ≤ 2 ^ 59 → IsReduced kind R N names rows s →
      IsFileOf kind R N names (IsCombination R (length names + 1) rows) s
  file_of_combinations rows s wide size h = record {
    answer = h.answer;
    canonical = h.canonical;
    generates = h.generates;
    printable = combinations_printable laws (length names + 1) rows h.answer wide size h.canonical;
    printed = h.printed;
  }

  pub converted_texts : (system other : List (Inequality V)) (s t : List ℕ) → length names ≤ 63 →
      system_size R system ≤ 2 ^ 49 → system_size R other ≤ 2 ^ 49
      → IsConverted kind R N names system s → IsConverted kind R N names other t →
      (s ≡ t) ↔ ((x : List V) → Solves R (length names + 1) system x ↔ Solves R (length names + 1) other x)
  converted_texts system other s t few size bound h k =
      same_texts (Solves R (length names + 1) system) (Solves R (length names + 1) other) s t
      (file_of_solutions system s few size h) (file_of_solutions other t few bound k)

  pub reduced_texts : (rows others : List (List V)) (s t : List ℕ) → AreWide (length names + 1) rows →
      AreWide (length names + 1) others → rows_size R rows ≤ 2 ^ 59 → rows_size R others ≤ 2 ^ 59
      → IsReduced kind R N names rows s → IsReduced kind R N names others t →
      (s ≡ t) ↔ ((x : List V) → IsCombination R (length names + 1) rows x
      ↔ IsCombination R (length names + 1) others x)
  reduced_texts rows others s t wide broad size bound h k =
      same_texts (IsCombination R (length names + 1) rows) (IsCombination R (length names + 1) others) s t
      (file_of_combinations rows s wide size h) (file_of_combinations others t broad bound k)
