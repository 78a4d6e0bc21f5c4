-- Pieces that follow one another, and how many statements and atoms begin among them.
-- Index: IsRun, IsFront, front_of, run_split, ended_keeps, run_past, last_is, sums_is, IsTally, tally_then, tally_none,
-- tally_more, tally_token, tally_statement, tally_atom, IsFresh, IsAsking, fresh_word, asking_word, asking_bracket,
-- atom_begins.
use Rattle.std.proofs.Common.{◌≡◌, ◌≤◌, ◌<◌, ◌+◌, ℕ, Bool, true, false, cond, List, [], ◌∷◌, ◌++◌, codes, refl, sym, ap, subst, ◌∙◌, arith, nat_le, ◌&&◌, ◌||◌}
use Rattle.std.specs.Prelude.{max}
use Rattle.std.specs.Str.{bytes_eq}
use Rattle.std.proofs.lemmas.Bool.Decides.{nat_tests}
use Rattle.std.proofs.lemmas.Slice.Eq.{bytes_eq-Decides}
use Rattle.trop_text.specs.Pieces.{Piece, Token, LineEnd, InputEnd}
use Rattle.shape_grammar.specs.Past.{past}
use Rattle.shape_grammar.proofs.Pasts.{past-none}
use Rattle.prog_theory.specs.Limits.{Limits}
use Rattle.prog_texts.specs.Words.{Before, Counted, text_of, skipped, is_line_end, says, one_more, last_text, is_sum_word, sums_after, is_fresh, is_asking, begins_operand, begins_statement, begins_atom, behind, counted}
use Rattle.prog_texts.specs.Judges.{is_one_too_many, is_atom_too_many}
use Rattle.prog_texts.proofs.Signs.{text_is}

-- each of the pieces has behind it what the next one has before it; b stands before the first, d behind the last
abbrev pub IsRun : Before → List Counted → Before → Type 0
IsRun b [] d = d ≡ b
IsRun b (t ∷ ts) d = (t.before ≡ b) × IsRun (behind t) ts d

-- where the run ends
pub record IsFront (b : Before) (us rest : List Counted) (ps : List Piece) : Type 0 where
  pub end : Before
  pub run : IsRun b us end
  pub left : List Piece
  pub whole : rest ≡ counted end left

heads : (t u : Counted) (ts us : List Counted) → t ∷ ts ≡ u ∷ us → (t ≡ u) × (ts ≡ us)
heads t u ts us e = (cc, cc)

pub front_of : (b : Before) (ps : List Piece) (us rest : List Counted) → counted b ps ≡ us ++ rest →
    IsFront b us rest ps
unfolding counted
front_of b ps [] rest e = record { end = b; run = refl; left = ps; whole = sym e }
front_of b [] (u ∷ us) rest e = absurd cc
front_of b (p ∷ ps) (u ∷ us) rest e =
    let h = heads _ _ _ _ e in
    let k = front_of (behind (record { piece = p; before = b })) ps us rest h.1 in
    record {
      end = k.end;
      run = (
        ap (λ (z : Counted). z.before) (sym h.0),
        subst (λ (z : Counted). IsRun (behind z) us k.end) h.0 k.run,
      );
      left = k.left;
      whole = k.whole;
    }

-- two runs one behind the other
pub run_split : (b d : Before) (us vs : List Counted) → IsRun b (us ++ vs) d →
    (c : Before) × IsRun b us c × IsRun c vs d
run_split b d [] vs h = (b, refl, h)
run_split b d (u ∷ us) vs h = let k = run_split (behind u) d us vs h.1 in (k.0, (h.0, k.1), k.2)

-- ---- a skipped piece changes nothing

and_false : (z : Bool) → (z && false) ≡ false
and_false true = refl
and_false false = refl

abbrev with_names : Before → Bool → Before
with_names b z = record {
  last = b.last;
  sums = b.sums;
  declares = b.declares;
  names = one_more z b.names;
  commas =
      b.commas;
  statements = b.statements;
  atoms = b.atoms;
}

-- the end of a line changes nothing
pub ended_keeps : (line : ℕ) (b : Before) → behind (record { piece = LineEnd line; before = b }) ≡ b
ended_keeps line b = ap (with_names b) (and_false b.declares)

skipped_keeps : (p : Piece) (b : Before) → is_line_end p ≡ true → behind (record { piece = p; before = b }) ≡ b
skipped_keeps (LineEnd line) b e = ended_keeps line b
skipped_keeps (Token t) b e = absurd cc
skipped_keeps InputEnd b e = absurd cc

past_step : (u : Counted) (us : List Counted) → past skipped (u ∷ us) ≡ cond (skipped u) (past skipped us) (u ∷ us)
unfolding past
past_step u us = refl

past_at : (b d : Before) (u : Counted) (us : List Counted) (t : Counted) (vs : List Counted) →
    ((z : Before) → IsRun z us d → past skipped us ≡ t ∷ vs → (t.before ≡ z) × IsRun (behind t) vs d) →
    IsRun b (u ∷ us) d → (z : Bool) → skipped u ≡ z → cond (skipped u) (past skipped us) (u ∷ us) ≡ t ∷ vs →
    (t.before ≡ b) × IsRun (behind t) vs d
past_at b d u us t vs rec h true k q =
    let same : behind u ≡ b = skipped_keeps u.piece u.before k ∙ h.0 in
    rec b (subst (λ (z : Before). IsRun z us d) same h.1) (sym (ap (λ z. cond z (past skipped us) (u ∷ us)) k) ∙ q)
past_at b d u us t vs rec h false k q =
    let m = heads u t us vs (sym (ap (λ z. cond z (past skipped us) (u ∷ us)) k) ∙ q) in (
      ap (λ (z : Counted). z.before) (sym m.0) ∙ h.0,
      subst (λ (z : List Counted). IsRun (behind t) z d) m.1 (subst (λ (z : Counted). IsRun (behind z) us d) m.0 h.1),
    )

-- the first piece that is not skipped
pub run_past : (b d : Before) (us : List Counted) (t : Counted) (vs : List Counted) → IsRun b us d →
    past skipped us ≡ t ∷ vs → (t.before ≡ b) × IsRun (behind t) vs d
run_past b d [] t vs h e = absurd (clash (sym (past-none skipped) ∙ e))
  where
    clash : [] ≡ t ∷ vs → ⊥
    clash k = cc
run_past b d (u ∷ us) t vs h e = past_at b d u us t vs (λ z r k. run_past z d us t vs r k) h (skipped u) refl
    (sym (past_step u us) ∙ e)

-- ---- what stands behind a word

said_piece : (p : Piece) (b : Before) (word : List ℕ) → text_of p ≡ word → bytes_eq [] word ≡ false →
    (last_text b.last p ≡ word) × (sums_after b p ≡ (bytes_eq word (codes "(") && is_sum_word b.last))
said_piece (Token t) b word e k = (e, ap (λ (z : List ℕ). bytes_eq z (codes "(") && is_sum_word b.last) e)
said_piece (LineEnd line) b word e k = absurd (no_both (bytes_eq [] word) k (ap (bytes_eq []) (sym e)))
  where
    no_both : (z : Bool) → z ≡ false → z ≡ bytes_eq [] [] → ⊥
    no_both z p q = let h = sym p ∙ q in cc
said_piece InputEnd b word e k = absurd (no_both (bytes_eq [] word) k (ap (bytes_eq []) (sym e)))
  where
    no_both : (z : Bool) → z ≡ false → z ≡ bytes_eq [] [] → ⊥
    no_both z p q = let h = sym p ∙ q in cc

pub last_is : (word : List ℕ) (t : Counted) → says word t ≡ true → bytes_eq [] word ≡ false → (behind t).last ≡ word
last_is word t e k = (said_piece t.piece t.before word (text_is word t e) k).0

pub sums_is : (word : List ℕ) (t : Counted) → says word t ≡ true → bytes_eq [] word ≡ false →
    (behind t).sums ≡ (bytes_eq word (codes "(") && is_sum_word t.before.last)
sums_is word t e k = (said_piece t.piece t.before word (text_is word t e) k).1

-- ---- tallies

-- behind k more statements and m more atoms, each of which was still allowed
pub record IsTally (L : Limits) (b d : Before) (k m : ℕ) : Type 0 where
  pub statements : b.statements + k ≤ d.statements
  pub few : b.statements + k ≤ max b.statements L.statements
  pub atoms : b.atoms + m ≤ d.atoms
  pub scarce : b.atoms + m ≤ max b.atoms L.atoms

pub tally_then : (L : Limits) (b c d : Before) (k m k' m' : ℕ) → IsTally L b c k m → IsTally L c d k' m' →
    IsTally L b d (k + k') (m + m')
tally_then L b c d k m k' m' h i =
    let h0 = h.statements in let h1 = h.few in let h2 = h.atoms in let h3 = h.scarce in
    let i0 = i.statements in let i1 = i.few in let i2 = i.atoms in let i3 = i.scarce in
    record {
      statements = omega (arith, h0, i0);
      few = omega (arith, h0, h1, i1);
      atoms =
          omega (arith, h2, i2);
      scarce = omega (arith, h2, h3, i3);
    }

one_more-least : (z : Bool) (n : ℕ) → n ≤ one_more z n
one_more-least true n = omega arith
one_more-least false n = omega arith

token_grows : (L : Limits) (t : Counted) → IsTally L t.before (behind t) 0 0
token_grows L t =
    let s = one_more-least (begins_statement t) t.before.statements in
    let a = one_more-least (begins_atom t) t.before.atoms in
    record { statements = omega (arith, s); few = omega arith; atoms = omega (arith, a); scarce = omega arith }

pub tally_none : (L : Limits) (b d : Before) (us : List Counted) → IsRun b us d → IsTally L b d 0 0
tally_none L b d [] h = subst (λ (z : Before). IsTally L b z 0 0) (sym h)
    (record { statements = omega arith; few = omega arith; atoms = omega arith; scarce = omega arith })
tally_none L b d (u ∷ us) h = tally_then L b (behind u) d 0 0 0 0
    (subst (λ (z : Before). IsTally L z (behind u) 0 0) h.0 (token_grows L u)) (tally_none L (behind u) d us h.1)

-- a text that goes on
pub tally_more : (L : Limits) (b c d : Before) (us : List Counted) (k m : ℕ) → IsTally L b c k m → IsRun c us d →
    IsTally L b d k m
tally_more L b c d us k m h r =
    let i = tally_none L c d us r in
    let h0 = h.statements in let h1 = h.few in let h2 = h.atoms in let h3 = h.scarce in let i0 = i.statements in
    let i2 = i.atoms in
    record { statements = omega (arith, h0, i0); few = h1; atoms = omega (arith, h2, i2); scarce = h3 }

pub tally_as : (L : Limits) (b d : Before) (k k' m m' : ℕ) → k ≡ k' → m ≡ m' → IsTally L b d k m → IsTally L b d k' m'
tally_as L b d k k' m m' e q h = subst (λ z. IsTally L b d z m') e (subst (λ z. IsTally L b d k z) q h)

-- a token in front
pub tally_token : (L : Limits) (t : Counted) (d : Before) (k m : ℕ) → IsTally L (behind t) d k m →
    IsTally L t.before d k m
tally_token L t d k m h = tally_as L t.before d (0 + k) k (0 + m) m (omega arith) (omega arith)
    (tally_then L t.before (behind t) d 0 0 k m (token_grows L t) h)

and_right : (p q : Bool) → p ≡ true → (p && q) ≡ false → q ≡ false
and_right true q e h = h
and_right false q e h = absurd cc

under : (a b : ℕ) → nat_le a b ≡ false → b < a
under a b e = grind (arith, nat_tests)

-- a token that begins a statement, which is still allowed
pub tally_statement : (L : Limits) (t : Counted) → begins_statement t ≡ true → is_one_too_many L t ≡ false →
    IsTally L t.before (behind t) 1 0
tally_statement L t e few =
    let m : one_more (begins_statement t) t.before.statements ≡ t.before.statements + 1 =
    ap (λ z. one_more z t.before.statements) e in
    let lt = under L.statements t.before.statements
    (and_right (begins_statement t) (nat_le L.statements t.before.statements) e few) in
    let a = one_more-least (begins_atom t) t.before.atoms in
    record { statements = omega (arith, m); few = omega (arith, lt); atoms = omega (arith, a); scarce = omega arith }

-- a token that begins an atom, which is still allowed
pub tally_atom : (L : Limits) (t : Counted) → begins_atom t ≡ true → is_atom_too_many L t ≡ false →
    IsTally L t.before (behind t) 0 1
tally_atom L t e few =
    let m : one_more (begins_atom t) t.before.atoms ≡ t.before.atoms + 1 = ap (λ z. one_more z t.before.atoms) e in
    let lt = under L.atoms t.before.atoms (and_right (begins_atom t) (nat_le L.atoms t.before.atoms) e few) in
    let s = one_more-least (begins_statement t) t.before.statements in
    record { statements = omega (arith, s); few = omega arith; atoms = omega (arith, m); scarce = omega (arith, lt) }

-- ---- what may follow

-- a statement may begin; a condition may begin
abbrev pub IsFresh : Before → Type 0
IsFresh b = is_fresh b.last ≡ true

pub record IsAsking (b : Before) : Type 0 where
  pub last : is_asking b.last ≡ true
  pub alone : b.sums ≡ false

pub fresh_word : (word : List ℕ) (t : Counted) → says word t ≡ true → bytes_eq [] word ≡ false → is_fresh word ≡ true →
    IsFresh (behind t)
fresh_word word t e k f = ap is_fresh (last_is word t e k) ∙ f

-- a word that is not `(`
pub asking_word : (word : List ℕ) (t : Counted) → says word t ≡ true → bytes_eq [] word ≡ false →
    is_asking word ≡ true → bytes_eq word (codes "(") ≡ false → IsAsking (behind t)
asking_word word t e k a n = record {
  last = ap is_asking (last_is word t e k) ∙ a;
  alone =
      sums_is word t e k ∙ ap (λ z. z && is_sum_word t.before.last) n;
}

no_sum : (last : List ℕ) → is_asking last ≡ true → is_sum_word last ≡ false
no_sum last h = at (is_sum_word last) refl
  where
    text_same : (word : List ℕ) → bytes_eq last word ≡ true → last ≡ word
    text_same word e = (bytes_eq-Decides last word).0 e

    asks : (word : List ℕ) → is_asking word ≡ false → last ≡ word → ⊥
    asks word k e = let p = sym h ∙ ap is_asking e ∙ k in cc

    split : (a b : Bool) → (a || b) ≡ true → (a ≡ true → ⊥) → (b ≡ true → ⊥) → ⊥
    split true b e p q = p refl
    split false b e p q = q e

    at : (z : Bool) → is_sum_word last ≡ z → is_sum_word last ≡ false
    at false e = e
    at true e = absurd (split (bytes_eq last (codes "max")) (bytes_eq last (codes "min")) e
        (λ k. asks (codes "max") refl (text_same (codes "max") k))
        (λ k. asks (codes "min") refl (text_same (codes "min") k)))

-- `(` where a condition may begin
pub asking_bracket : (t : Counted) → says (codes "(") t ≡ true → IsAsking t.before → IsAsking (behind t)
asking_bracket t e h = record {
  last = ap is_asking (last_is (codes "(") t e refl);
  alone =
      sums_is (codes "(") t e refl ∙ no_sum t.before.last h.last;
}

-- the first token of an atom
pub atom_begins : (t : Counted) → (says (codes "?") t || begins_operand t) ≡ true → IsAsking t.before →
    begins_atom t ≡ true
atom_begins t e h = rw (e, h.last, h.alone) refl
