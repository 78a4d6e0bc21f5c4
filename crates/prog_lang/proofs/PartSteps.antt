-- What a reader of a part promises.
use Rattle.std.proofs.Common.{◌≡◌, ℕ, Bool, true, false, cond, List, [], ◌∷◌, ◌++◌, map, Result, Ok, Err, refl, sym, ap, subst, ◌∙◌}
use Rattle.trop_text.specs.Tokens.{Tok}
use Rattle.trop_text.specs.Pieces.{Piece, pieces_from, pieces_left, tokens_in, tokens_left}
use Rattle.trop_text.proofs.LineEnds.{tokens_stay}
use Rattle.trop_text.specs.declared.fault.FaultKind.{FaultKind}
use Rattle.trop_text.specs.declared.fault.FaultKind.TheVariants.{Syntax}
use Rattle.trop_grammar.specs.Reading.{Reading, Miss, go_on, read_then, judged, token_at}
use Rattle.shape_grammar.specs.Past.{past}
use Rattle.shape_grammar.specs.Steps.{token_past}
use Rattle.shape_grammar.proofs.Pasts.{past-none}
use Rattle.prog_theory.specs.Limits.{program_limits}
use Rattle.prog_theory.specs.Named.{Named}
use Rattle.prog_texts.specs.AssertRule.{AssertRule}
use Rattle.prog_texts.specs.Words.{Before, Counted, skipped, closes, counted}
use Rattle.prog_texts.specs.Programs.{closed, program_at, IsProgram}
use Rattle.prog_texts.specs.Parts.{kept, before_closing, part_at}
use Rattle.prog_texts.proofs.PartLaws.{part_found, part_only}
use Rattle.prog_reading.specs.Left.{left, before_of}
use Rattle.prog_lang.specs.Outcomes.{IsClosing, IsReadPart, part_pieces}
use Rattle.prog_reading.specs.declared.at.At.{At}
use Rattle.prog_lang.proofs.Outcomes.{counted_pieces}

counted_none : (b : Before) → counted b [] ≡ []
unfolding counted
counted_none b = refl

-- ---- the token that ends it

abbrev Closing : Type 0
Closing = Reading Counted FaultKind (Unit {0})

abbrev none_left : Closing
none_left = Err (record { what = Syntax; rest = [] })

abbrev judged_as : Bool → Counted → List Counted → Closing
judged_as b t us = judged (cond b (Ok tt) (Err Syntax)) t us

not_kept : (v : Closing) (x y : Named × List Counted) → v ≡ none_left → kept v x.0 x.1 ≡ Ok y → ⊥
not_kept v x y e h = let z = ap (λ (w : Closing). kept w x.0 x.1) (sym e) ∙ h in cc

kept_closes : (b : Bool) (t : Counted) (us : List Counted) (x y : Named × List Counted) →
    kept (judged_as b t us) x.0 x.1 ≡ Ok y → b ≡ true
kept_closes true t us x y e = refl
kept_closes false t us x y e = absurd cc

closes_at : (ts p : List Counted) (x y : Named × List Counted) → past skipped ts ≡ p →
    kept (token_past skipped Syntax closed ts) x.0 x.1 ≡ Ok y → IsClosing ts
unfolding token_past token_at
closes_at ts [] x y e h = absurd (not_kept (token_past skipped Syntax closed ts) x y (ap (token_at Syntax closed) e) h)
closes_at ts (t ∷ us) x y e h =
    record {
      token = t;
      behind = us;
      whole = e;
      is = kept_closes (closes t) t us x y (sym (ap (λ z. kept (token_at Syntax closed z) x.0 x.1) e) ∙ h);
    }

same_read : (x y : Named × List Counted) (v : Reading Counted FaultKind (Unit {0})) → kept v x.0 x.1 ≡ Ok y → x.1 ≡ y.1
same_read x y (Ok u) e = let z : (x.0, x.1) ≡ y = cc in ap (λ (w : Named × List Counted). w.1) z
same_read x y (Err miss) e = absurd cc

part_closes : (y : Named × List Counted) (v : Reading Counted FaultKind Named) → go_on v before_closing ≡ Ok y →
    IsClosing y.1
unfolding before_closing
part_closes y (Ok x) e =
    subst IsClosing (same_read x y (token_past skipped Syntax closed x.1) e)
    (closes_at x.1 (past skipped x.1) x y refl e)
part_closes y (Err miss) e = absurd cc

-- ---- the tokens that are left

left_tokens : (b : Bool) (toks : List Tok) (line : ℕ) (p : Piece) (ps : List Piece) →
    cond b [] (pieces_from toks line) ≡ p ∷ ps → tokens_in (cond b [] (pieces_from toks line)) ≡ toks
left_tokens true toks line p ps e = absurd cc
left_tokens false toks line p ps e = tokens_stay toks line

record IsSome (ps : List Piece) : Type 0 where
  first : Piece
  others : List Piece
  whole : ps ≡ first ∷ others

some_piece : (at : At) (ps : List Piece) → pieces_left at.pieces ≡ ps → IsClosing (left at) → IsSome ps
some_piece at [] e h = absurd (clash (sym (past_nothing (left at) none) ∙ h.whole))
  where
    none : left at ≡ []
    none = ap (counted (before_of at.before)) e ∙ counted_none (before_of at.before)

    past_nothing : (ts : List Counted) → ts ≡ [] → past skipped ts ≡ []
    past_nothing ts k = ap (past skipped) k ∙ past-none skipped

    clash : [] ≡ h.token ∷ h.behind → ⊥
    clash k = cc
some_piece at (p ∷ ps) e h = record { first = p; others = ps; whole = refl }

stands_at : (at : At) → IsClosing (left at) → tokens_in (map (λ (t : Counted). t.piece) (left at)) ≡
    tokens_left at.pieces
stands_at at h =
    let s = some_piece at (pieces_left at.pieces) refl h in
    ap tokens_in (counted_pieces (before_of at.before) (pieces_left at.pieces))
    ∙ left_tokens at.pieces.ended (tokens_left at.pieces) at.pieces.line s.first s.others s.whole

-- ---- what is promised

pub part_read_is : (rule : AssertRule) (old : List Tok) (start : List Counted) (p : Named) (at : At) (new : List Tok) →
    start ≡ part_pieces old → part_at program_limits rule start ≡ Ok (p, left at) → new ≡ tokens_left at.pieces →
    IsReadPart rule old p new
unfolding part_at read_then
part_read_is rule old start p at new s e n =
    let read : part_at program_limits rule (part_pieces old) ≡ Ok (p, left at) =
    ap (part_at program_limits rule) (sym s) ∙ e in
    let h = part_found program_limits rule (part_pieces old) p (left at) read in
    let ends = part_closes (p, left at) (program_at program_limits rule start) e in
    record {
      front = h.taken;
      rest = left at;
      whole = h.whole;
      is = h.is;
      ends = ends;
      stands = stands_at at ends
          ∙ sym n;
    }

pub part_spelled : (rule : AssertRule) (old : List Tok) (start front rest : List Counted) (p : Named) →
    start ≡ part_pieces old → part_pieces old ≡ front ++ rest → IsProgram program_limits rule front p → IsClosing rest →
    part_at program_limits rule (part_pieces old) ≡ Ok (p, rest)
part_spelled rule old start front rest p s e h k =
    ap (part_at program_limits rule) e ∙ part_only program_limits rule front rest p k.token k.behind h k.whole k.is
