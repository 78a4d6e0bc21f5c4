-- A text that spells a program has a first token.
use Rattle.std.proofs.Common.{◌≡◌, ◌∙◌, ℕ, List, [], ◌∷◌, ◌++◌, refl, sym, ap, subst}
use Rattle.std.specs.Prelude.{Result, Ok, Err, codes}
use Rattle.trop_text.specs.Tokens.{tokens_of}
use Rattle.trop_text.specs.Pieces.{InputEnd, pieces_from}
use Rattle.trop_text.specs.declared.fault.FaultKind.{FaultKind}
use Rattle.trop_text.specs.declared.fault.FaultKind.TheVariants.{Syntax}
use Rattle.shape_grammar.specs.Past.{past}
use Rattle.shape_grammar.proofs.Pasts.{past-append}
use Rattle.prog_theory.specs.Limits.{program_limits}
use Rattle.prog_theory.specs.Named.{Named}
use Rattle.prog_texts.specs.AssertRule.{AssertRule}
use Rattle.prog_texts.specs.Words.{Counted, skipped, nothing_before, counted, program_pieces}
use Rattle.prog_texts.specs.Judges.{said}
use Rattle.prog_texts.specs.Programs.{IsWholeProgram}

-- the end of an input without tokens
abbrev nothing : Counted
nothing = record { piece = InputEnd; before = nothing_before }

no_pieces : counted nothing_before (pieces_from [] 0) ≡ nothing ∷ []
unfolding counted pieces_from
no_pieces = refl

past_nothing : past skipped (nothing ∷ []) ≡ nothing ∷ []
unfolding past
past_nothing = refl

-- what a text begins with, its first part begins with
begins : (us front back : List Counted) (t : Counted) (ts : List Counted) → us ≡ front ++ back →
    past skipped front ≡ t ∷ ts → past skipped us ≡ t ∷ (ts ++ back)
begins us front back t ts whole first =
    ap (past skipped) whole ∙ past-append skipped front t ts back first

same_head : {A : Type 0} (x y : A) (xs ys : List A) → x ∷ xs ≡ y ∷ ys → x ≡ y
same_head x y xs ys e = cc

not_said : said (codes "vars") nothing ≡ Ok tt → ⊥
not_said e = let f : ◌≡◌ {A = Result (Unit {0}) FaultKind} (Err Syntax) (Ok tt) = e in absurd (cc)

pub some_token : (rule : AssertRule) (bytes : List ℕ) (p : Named) →
    IsWholeProgram program_limits rule (program_pieces bytes) p → tokens_of bytes ≡ [] → ⊥
some_token rule bytes p h none =
    let d = h.first.first in
    let word = d.first in
    let here = begins (program_pieces bytes) h.front h.back _ _ h.whole
    (begins h.front h.first.front h.first.back _ _ h.first.whole
    (begins h.first.front d.front d.back word.token [] d.whole word.whole)) in
    let empty : past skipped (program_pieces bytes) ≡ nothing ∷ [] =
    ap (past skipped) (ap (λ ts. counted nothing_before (pieces_from ts 0)) none ∙ no_pieces) ∙ past_nothing in
    let same : word.token ≡ nothing = same_head word.token nothing _ _ (sym here ∙ empty) in
    not_said (subst (λ (t : Counted). said (codes "vars") t ≡ Ok tt) same word.is)
