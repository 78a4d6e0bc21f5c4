-- What a reader of a program follows, and what the program keeps.
use Rattle.std.proofs.Common.{◌≡◌, ℕ, List, Ok, sym, ap, ◌∙◌}
use Rattle.trop_text.specs.Pieces.{Piece}
use Rattle.trop_grammar.specs.Reading.{go_on, read_then, gives}
use Rattle.prog_theory.specs.Limits.{program_limits}
use Rattle.prog_theory.specs.Statements.{Block}
use Rattle.prog_theory.specs.Named.{Named}
use Rattle.prog_theory.specs.Within.{IsWithin}
use Rattle.prog_texts.specs.AssertRule.{AssertRule}
use Rattle.prog_texts.specs.Words.{Before, Counted, nothing_before, counted}
use Rattle.prog_texts.specs.Statements.{statements_at}
use Rattle.prog_texts.specs.Programs.{declaration_at, program_at}
use Rattle.prog_texts.proofs.Kept.{program_within}

module _ (rule : AssertRule) where
  abbrev named : List (List ℕ) → Block → Named
  named names xs = record { names = names; body = xs }

  read_so : (ts us vs : List Counted) (names : List (List ℕ)) (body : Block) →
      declaration_at program_limits ts ≡ Ok (names, us) →
      statements_at program_limits rule names 64 us ≡ Ok (body, vs) →
      program_at program_limits rule ts ≡ Ok (named names body, vs)
  unfolding program_at read_then gives
  read_so ts us vs names body e k =
      ap (λ z. go_on z (λ names. read_then (statements_at program_limits rule names program_limits.depth)
      (λ xs. gives (named names xs)))) e ∙ ap (λ z. go_on z (λ xs. gives (named names xs))) k

  -- what is read from the beginning is within the limits
  pub read_within : (b : Before) (ps : List Piece) (us vs : List Counted) (names : List (List ℕ)) (body : Block) →
      b ≡ nothing_before → declaration_at program_limits (counted b ps) ≡ Ok (names, us) →
      statements_at program_limits rule names 64 us ≡ Ok (body, vs) → IsWithin program_limits (named names body)
  read_within b ps us vs names body s e k =
      program_within program_limits rule ps (named names body) vs
      (ap (λ z. program_at program_limits rule (counted z ps)) (sym s) ∙ read_so (counted b ps) us vs names body e k)
