-- The numbers by recursion on the program are those of its asserts.
-- Index: numbers_are.
use Rattle.std.proofs.Common.{◌≡◌, ℕ, ◌+◌, List, [], ◌∷◌, ◌++◌, map, refl, sym, ap, ap₂, ◌∙◌, append_assoc}
use Rattle.std.proofs.lemmas.List.{map-append}
use Rattle.prog_theory.specs.Statements.{Stmt, Set, Havoc, Assume, Assert, If, While, Skip, Block, Empty, Then}
use Rattle.prog_theory.specs.Numbering.{count, counts}
use Rattle.prog_theory.specs.Tests.{test, inner}
use Rattle.prog_theory.specs.Named.{Named}
use Rattle.prog_theory.specs.Places.{Place, places, places_of, width, widths, entry}
use Rattle.cone_reports.specs.Asserts.{Assertion, own_asserts, asserts_of}
use Rattle.report_texts.specs.Reports.{assert_numbers}
use Rattle.report_lines.specs.AssertNumbers.{numbers_st, numbers_bl}

asserts_of-append : (xs ys : List Place) → asserts_of (xs ++ ys) ≡ asserts_of xs ++ asserts_of ys
asserts_of-append [] ys = refl
asserts_of-append (l ∷ xs) ys =
    ap (λ (z : List Assertion). own_asserts l.point l.number l.stmt ++ z) (asserts_of-append xs ys)
    ∙ sym (append_assoc (own_asserts l.point l.number l.stmt) (asserts_of xs) (asserts_of ys))

abbrev numbers_of : List Place → List ℕ
numbers_of ls = map (λ (a : Assertion). a.number) (asserts_of ls)

numbers_of-append : (xs ys : List Place) → numbers_of (xs ++ ys) ≡ numbers_of xs ++ numbers_of ys
numbers_of-append xs ys = ap (map (λ (a : Assertion). a.number)) (asserts_of-append xs ys)
    ∙ map-append (λ (a : Assertion). a.number) (asserts_of xs) (asserts_of ys)

mutual
  stmt_numbers : (st : Stmt) (p k next : ℕ) → numbers_of (places p k st next) ≡ numbers_st k st
  stmt_numbers (If c a b) p k next =
      numbers_of-append (places_of (p + 1 + inner (test c)) (k + 1) a next)
      (places_of (p + 1 + inner (test c) + widths a) (k + 1 + counts a) b next)
      ∙ ap₂ (λ (y z : List ℕ). y ++ z) (block_numbers a (p + 1 + inner (test c)) (k + 1) next)
      (block_numbers b (p + 1 + inner (test c) + widths a) (k + 1 + counts a) next)
  stmt_numbers (While c a) p k next = block_numbers a (p + 1 + inner (test c)) (k + 1) p
  stmt_numbers (Set x t) p k next = refl
  stmt_numbers (Havoc x) p k next = refl
  stmt_numbers (Assume c) p k next = refl
  stmt_numbers (Assert c) p k next = refl
  stmt_numbers Skip p k next = refl

  block_numbers : (b : Block) (p k next : ℕ) → numbers_of (places_of p k b next) ≡ numbers_bl k b
  block_numbers Empty p k next = refl
  block_numbers (Then st b) p k next =
      numbers_of-append (places p k st (entry (p + width st) b next)) (places_of (p + width st) (k + count st) b next)
      ∙ ap₂ (λ (y z : List ℕ). y ++ z) (stmt_numbers st p k (entry (p + width st) b next))
      (block_numbers b (p + width st) (k + count st) next)

pub numbers_are : (p : Named) → assert_numbers p ≡ numbers_bl 0 p.body
numbers_are p = block_numbers p.body 0 0 (widths p.body)
