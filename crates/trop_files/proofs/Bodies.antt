-- The lines behind a header, read in its semiring.
use Rattle.std.proofs.Common.{◌≡◌, List, Ok, sym, ap, ◌∙◌}
use Rattle.trop_theory.specs.Semiring.{Semiring}
use Rattle.trop_theory.specs.Numbers.{Numbering}
use Rattle.trop_grammar.specs.Reading.{read_then, go_on, gives}
use Rattle.trop_text.specs.Pieces.{Piece}
use Rattle.trop_reading.specs.declared.read_err.ReadErr.{ReadErr}
use Rattle.trop_reading.specs.Gives.{Fails}
use Rattle.trop_reading.proofs.Loops.{fails_with}
use Rattle.trop_spelling.specs.declared.ring_kind.RingKind.{RingKind}
use Rattle.trop_spelling.specs.Over.{Over, Embedding, IsOneOfThree, Readings, in_kind_at}
use Rattle.trop_spelling.proofs.EachKind.{in_kind-at}
use Rattle.trop_files.specs.Header.{Header}
use Rattle.trop_files.specs.Files.{file_rest_at}

module _ {F : Type 0 → Type 0} {A : Type 0} (read : Header → Readings F)
    (file : Header → Over F → A) {V : Type 0} {kind : RingKind} {R : Semiring V} {N : Numbering V} {over : Embedding V}
    (one : IsOneOfThree V kind R N over) (h : Header) (ts : List Piece) (is : h.ring ≡ kind) where
  -- the rest of the file is what the semiring of the header reads
  rest_is : file_rest_at read file h ts ≡ go_on (go_on (read h V kind R N ts) (λ x. gives (over F x)))
      (λ body. gives (file h body))
  unfolding file_rest_at read_then
  rest_is = ap (λ k. go_on (in_kind_at (read h) k ts) (λ body. gives (file h body))) is
      ∙ ap (λ r. go_on r (λ body. gives (file h body))) (in_kind-at one (read h) ts)

  pub body_gives : (x : F V) (out : A) (rest : List Piece) → out ≡ file h (over F x) →
      read h V kind R N ts ≡ Ok (x, rest) → file_rest_at read file h ts ≡ Ok (out, rest)
  unfolding gives
  body_gives x out rest same e = rest_is ∙ ap (λ r. go_on (go_on r (λ x. gives (over F x)))
      (λ body. gives (file h body))) e ∙ ap (λ v. Ok (v, rest)) (sym same)

  pub body_fails : (e : ReadErr) → Fails e (read h V kind R N ts) → Fails e (file_rest_at read file h ts)
  unfolding gives
  body_fails e fails = fails_with e (read h V kind R N ts) (file_rest_at read file h ts) fails
      (λ miss m. rest_is ∙ ap (λ r. go_on (go_on r (λ x. gives (over F x))) (λ body. gives (file h body))) m)
