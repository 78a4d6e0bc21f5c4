-- The numbers of a program's asserts, from the asserts.
use Rattle.std.proofs.Common.{◌≡◌, ℕ, List, [], ◌∷◌, map, refl, sym, ap, ◌∙◌}
use Rattle.prog_theory.specs.Named.{Named, nameless}
use Rattle.cone_reports.specs.Asserts as theory
use Rattle.prog_asserts.specs.declared.assertion.Assertion.{Assertion}
use Rattle.prog_asserts.specs.Views.{assertions}
use Rattle.report_texts.specs.Reports.{assert_numbers}
use Rattle.report_reading.specs.Asserts.{numbers_in}

numbers-assertions : (xs : List Assertion) → map (λ (a : theory.Assertion). a.number) (assertions xs) ≡ numbers_in xs
numbers-assertions [] = refl
numbers-assertions (x ∷ xs) = ap (λ (z : List ℕ). x.number ∷ z) (numbers-assertions xs)

pub numbers_all : (p : Named) (xs : List Assertion) (numbers : List ℕ) → assertions xs ≡ theory.asserts (nameless p) →
    numbers ≡ numbers_in xs → numbers ≡ assert_numbers p
numbers_all p xs numbers e k =
    k ∙ sym (numbers-assertions xs) ∙ ap (map (λ (a : theory.Assertion). a.number)) e
