-- From what a reader gives to what it promises.
use Rattle.std.proofs.Common.{◌≡◌, ℕ, List, [], ◌∷◌, map, Result, Ok, Err, refl, sym, ap, subst, ◌∙◌}
use Rattle.trop_text.specs.Tokens.{Tok, tokens_of}
use Rattle.trop_text.specs.Pieces.{Piece, pieces_from, pieces_of, pieces_left}
use Rattle.trop_text.specs.Places.{fault_before}
use Rattle.trop_text.specs.declared.fault.FaultKind.{FaultKind}
use Rattle.trop_text.specs.declared.fault.FaultKind.TheVariants.{Syntax}
use Rattle.trop_text.specs.declared.fault.TextErr.{TextErr}
use Rattle.trop_text.specs.declared.fault.TextErr.TheVariants as texts
use Rattle.trop_grammar.specs.Reading.{Reading, Miss}
use Rattle.shape_grammar.specs.Shape.{Shape}
use Rattle.shape_grammar.specs.Faults.{IsFirstFault}
use Rattle.prog_texts.specs.Words.{Before, Counted, behind, counted, nothing_before, program_pieces}
use Rattle.prog_texts.specs.Shapes.{Noun, language}
use Rattle.prog_reading.specs.Left.{left, before_of}
use Rattle.prog_reading.specs.Gives.{Fails}
use Rattle.prog_lang.specs.Outcomes.{Yields, IsPlaced, IsFaultIn, IsRefusalIn}
use Rattle.prog_reading.specs.declared.at.At.{At}
use Rattle.prog_reading.specs.declared.read_err.ReadErr.{ReadErr}
use Rattle.prog_reading.specs.declared.read_err.ReadErr.TheVariants as errors

pub counted_pieces : (b : Before) (ps : List Piece) → map (λ (t : Counted). t.piece) (counted b ps) ≡ ps
unfolding counted
counted_pieces b [] = refl
counted_pieces b (p ∷ ps) =
    ap (λ (z : List Piece). p ∷ z) (counted_pieces (behind (record { piece = p; before = b })) ps)

-- the pieces with which a reader of a whole text begins
pub start_is : (bytes : List ℕ) (ts : List Counted) (toks : List Tok) → toks ≡ tokens_of bytes →
    ts ≡ counted nothing_before (pieces_from toks 0) → ts ≡ program_pieces bytes
start_is bytes ts toks e k = k ∙ ap (λ (z : List Tok). counted nothing_before (pieces_from z 0)) e

module _ {A : Type 0} (R : List Counted → A → Type 0) (shape : Shape Counted Noun) (C : FaultKind → List Counted →
    Counted → Type 0) (read : List Counted → Reading Counted FaultKind A) where
  abbrev missed : FaultKind → List Counted → Reading Counted FaultKind A
  missed what us = Err (record { what = what; rest = us })

  miss_is : (what : FaultKind) (at : At) (v : Reading Counted FaultKind A) → Fails (errors.Wrong what at) v →
      v ≡ missed what (left at)
  miss_is what at (Ok x) h = absurd h
  miss_is what at (Err miss) h = ap (λ z. missed z miss.rest) (sym h.0) ∙ ap (λ z. missed what z) (sym h.1)

  -- a refusal is the first fault
  pub refused : ((ts : List Counted) (miss : Miss Counted FaultKind) → read ts ≡ Err miss →
      IsFirstFault language Syntax R shape C ts miss.what miss.rest)
      → (bytes : List ℕ) (start ts : List Counted) (e : ReadErr) (told : TextErr) → start ≡ ts → Fails e (read start) →
      IsPlaced bytes e told → IsRefusalIn R shape C read bytes ts told
  refused law bytes start ts errors.NoMemory told s h p = subst (λ z. IsRefusalIn R shape C read bytes ts z) (sym p) tt
  refused law bytes start ts (errors.Wrong what at) told s h p =
      let j : read ts ≡ missed what (left at) = ap read (sym s) ∙ miss_is what at (read start) h in
      let one : IsFaultIn R shape C read bytes ts (fault_before bytes what (pieces_left at.pieces)) =
      record {
        kind = what;
        rest = left at;
        is = ap (fault_before bytes what) (sym (counted_pieces (before_of at.before) (pieces_left at.pieces)));
        first = law ts (record { what = what; rest = left at }) j;
        judged = j;
      } in
      subst (λ z. IsRefusalIn R shape C read bytes ts z) (sym p) one

  abbrev value_or : A → Reading Counted FaultKind A → A
  value_or x (Ok p) = p.0
  value_or x (Err miss) = x

  value_is : (x y : A) (us vs : List Counted) (v : Reading Counted FaultKind A) → v ≡ Ok (x, us) → v ≡ Ok (y, vs) →
      x ≡ y
  value_is x y us vs v e k = ap (value_or x) (sym e ∙ k)

  -- what is spelled is the value
  pub yielded : (start ts us vs : List Counted) (x y : A) → start ≡ ts → read start ≡ Ok (x, us) →
      read ts ≡ Ok (y, vs) → x ≡ y
  yielded start ts us vs x y s e k = value_is x y us vs (read ts) (ap read (sym s) ∙ e) k

  -- and not refused
  pub not_refused : {X : Type 0} (view : X → A) (bytes : List ℕ) (start ts vs : List Counted) (y : A) (e : ReadErr)
      (told : TextErr) → start ≡ ts → Fails e (read start) → read ts ≡ Ok (y, vs) → IsPlaced bytes e told →
      Yields view (Err told) y
  not_refused view bytes start ts vs y errors.NoMemory told s h k p = subst (λ z. Yields view (Err z) y) (sym p) tt
  not_refused view bytes start ts vs y (errors.Wrong what at) told s h k p =
      absurd (clash (read ts) (ap read (sym s) ∙ miss_is what at (read start) h) k)
    where
      clash : (v : Reading Counted FaultKind A) → v ≡ missed what (left at) → v ≡ Ok (y, vs) → ⊥
      clash v a b = let z = sym a ∙ b in cc
