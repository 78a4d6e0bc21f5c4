-- Terms, conditions and claims walk: their tokens stand apart, and as many atoms begin as a condition has.
-- Index: IsQuiet, IsCalm, IsFree, IsSolid, Done, blank_follows, solid_follows, free_follows, name_sound, asked_walks,
-- unasked_walks, cond_walks, claim_walks.
use Rattle.std.proofs.Common.{◌≡◌, ◌≤◌, ◌<◌, ◌+◌, ◌^◌, ℕ, zero, suc, ℤ, pos, negsuc, Bool, true, false, List, [], ◌∷◌, ◌++◌, length, codes, refl, ap, subst, arith, decimal}
use Rattle.std.specs.Prelude.{All, unsigned_abs, ◌&&◌, ◌||◌, ◌==◌, not}
use Rattle.std.proofs.lemmas.Bool.Decides.{nat_tests}
use Rattle.trop_text.specs.Name.{is_word}
use Rattle.trop_text.specs.Names.{AreNames}
use Rattle.trop_text.specs.Tokens.{is_long_sign}
use Rattle.trop_text.proofs.WrittenTokens.{IsShort, IsLong}
use Rattle.trop_reading.proofs.NameWords.{place_at}
use Rattle.prog_theory.specs.States.{Term}
use Rattle.prog_theory.specs.Conditions.{Cmp, Le, Lt, Ge, Gt, Eq, Ne, Cond, Any, Atom, Not, And, Or}
use Rattle.prog_theory.specs.Statements.{Rel, AtMost, AtLeast, Same, SideWord, One, Greatest, Least, Claim}
use Rattle.prog_theory.specs.Nesting.{Level, Loose, Tight, Single, is_single, not_loose}
use Rattle.prog_theory.specs.Fits.{FitsTerm, FitsCond}
use Rattle.prog_theory.specs.Each.{EachTerm}
use Rattle.prog_theory.specs.Within.{IsSide, IsClaim, IsNumberWithin}
use Rattle.prog_theory.specs.Atoms.{cond_atoms}
use Rattle.prog_texts.specs.Words.{Before, one_more, is_fresh, is_asking}
use Rattle.prog_texts.specs.Judges.{coordinate}
use Rattle.prog_texts.specs.Inks.{Ink, Says, Name, Number, Blank, name_text}
use Rattle.prog_texts.specs.Printed.{constant_inks, added_inks, moved_inks, term_inks, cmp_text, bracketed, between, cond_inks, rel_text, more_inks, terms_inks, side_inks, claim_inks}
use Rattle.prog_print.proofs.Walks.{Edge, Apart, Wordy, Open, goes_further, begins_further, edge_of_word, may_follow, IsOpening, IsSound, Walks, walks_more, walks_as, after}
use Rattle.prog_print.proofs.PlainTexts.{name_plain, number_plain, plain_unasked, one_more-most, itself, at_most, chained, plus_none}

-- ---- signs

pub minus_alone : IsShort 45
minus_alone = record { stands = (refl, refl, refl); no_letter = refl; no_digit = refl; short = refl; alone = λ c. refl }

plus_alone : IsShort 43
plus_alone = record { stands = (refl, refl, refl); no_letter = refl; no_digit = refl; short = refl; alone = λ c. refl }

question_alone : IsShort 63
question_alone = record {
  stands = (refl, refl, refl);
  no_letter = refl;
  no_digit = refl;
  short = refl;
  alone = λ c.
      refl;
}

pub open_alone : IsShort 40
open_alone = record { stands = (refl, refl, refl); no_letter = refl; no_digit = refl; short = refl; alone = λ c. refl }

pub close_alone : IsShort 41
close_alone = record { stands = (refl, refl, refl); no_letter = refl; no_digit = refl; short = refl; alone = λ c. refl }

pub comma_alone : IsShort 44
comma_alone = record { stands = (refl, refl, refl); no_letter = refl; no_digit = refl; short = refl; alone = λ c. refl }

no_longer : (b c : ℕ) → goes_further c ≡ false → ((x y : Bool) → (c == 61) ≡ x → (c == 62) ≡ y → (x || y) ≡ false →
    is_long_sign b c ≡ false) → is_long_sign b c ≡ false
no_longer b c h k = k (c == 61) (c == 62) refl refl h

either_true : (y : Bool) → (true || y) ≡ false → ⊥
either_true y e = cc

either_second : (false || true) ≡ false → ⊥
either_second e = cc

bang_opens : IsOpening 33
bang_opens = record {
  stands = (refl, refl, refl);
  no_letter = refl;
  no_digit = refl;
  short = refl;
  alone = λ c h. no_longer 33 c h (by c);
}
  where
    by : (c : ℕ) (x y : Bool) → (c == 61) ≡ x → (c == 62) ≡ y → (x || y) ≡ false → is_long_sign 33 c ≡ false
    by c true y e f h = absurd (either_true y h)
    by c false true e f h = absurd (either_second h)
    by c false false e f h = first_of (simp e, grind (arith, nat_tests))

less_opens : IsOpening 60
less_opens = record {
  stands = (refl, refl, refl);
  no_letter = refl;
  no_digit = refl;
  short = refl;
  alone = λ c h. no_longer 60 c h (by c);
}
  where
    by : (c : ℕ) (x y : Bool) → (c == 61) ≡ x → (c == 62) ≡ y → (x || y) ≡ false → is_long_sign 60 c ≡ false
    by c true y e f h = absurd (either_true y h)
    by c false true e f h = absurd (either_second h)
    by c false false e f h = first_of (simp e, grind (arith, nat_tests))

more_opens : IsOpening 62
more_opens = record {
  stands = (refl, refl, refl);
  no_letter = refl;
  no_digit = refl;
  short = refl;
  alone = λ c h. no_longer 62 c h (by c);
}
  where
    by : (c : ℕ) (x y : Bool) → (c == 61) ≡ x → (c == 62) ≡ y → (x || y) ≡ false → is_long_sign 62 c ≡ false
    by c true y e f h = absurd (either_true y h)
    by c false true e f h = absurd (either_second h)
    by c false false e f h = first_of (simp e, grind (arith, nat_tests))

same_opens : IsOpening 61
same_opens = record {
  stands = (refl, refl, refl);
  no_letter = refl;
  no_digit = refl;
  short = refl;
  alone = λ c h. no_longer 61 c h (by c);
}
  where
    by : (c : ℕ) (x y : Bool) → (c == 61) ≡ x → (c == 62) ≡ y → (x || y) ≡ false → is_long_sign 61 c ≡ false
    by c true y e f h = absurd (either_true y h)
    by c false true e f h = absurd (either_second h)
    by c false false e f h = first_of (simp (e, f), grind (arith, nat_tests))

less_same : IsLong 60 61
less_same = record { stands = (refl, refl, refl); no_letter = refl; no_digit = refl; long = refl }

more_same : IsLong 62 61
more_same = record { stands = (refl, refl, refl); no_letter = refl; no_digit = refl; long = refl }

both_same : IsLong 61 61
both_same = record { stands = (refl, refl, refl); no_letter = refl; no_digit = refl; long = refl }

not_same : IsLong 33 61
not_same = record { stands = (refl, refl, refl); no_letter = refl; no_digit = refl; long = refl }

and_alone : IsLong 38 38
and_alone = record { stands = (refl, refl, refl); no_letter = refl; no_digit = refl; long = refl }

or_alone : IsLong 124 124
or_alone = record { stands = (refl, refl, refl); no_letter = refl; no_digit = refl; long = refl }

-- ---- where texts stand

-- no statement and no atom begins here
pub record IsQuiet (b : Before) : Type 0 where
  pub fresh : is_fresh b.last ≡ false
  pub asking : is_asking b.last ≡ false

-- no statement begins with a name here
abbrev pub IsCalm : Before → Type 0
IsCalm b = is_fresh b.last ≡ false

-- a word may follow; a sign may
abbrev pub IsFree : Edge → Type 0
IsFree Apart = Unit {0}
IsFree Wordy = ⊥
IsFree Open = Unit {0}

abbrev pub IsSolid : Edge → Type 0
IsSolid Apart = Unit {0}
IsSolid Wordy = Unit {0}
IsSolid Open = ⊥

-- no statement more, and at most so many atoms
pub record Done (b : Before) (m : ℕ) (d : Before) (f : Edge) : Type 0 where
  pub quiet : IsQuiet d
  pub solid : IsSolid f
  pub statements : d.statements ≤ b.statements
  pub atoms : d.atoms ≤ b.atoms + m

pub blank_follows : (e : Edge) → may_follow e Blank ≡ true
blank_follows Apart = refl
blank_follows Wordy = refl
blank_follows Open = refl

pub solid_follows : (f : Edge) (w : List ℕ) → IsSolid f → is_word w ≡ false → may_follow f (Says w) ≡ true
solid_follows Apart w h e = refl
solid_follows Wordy w h e = ap not e
solid_follows Open w h e = absurd h

pub free_follows : (e : Edge) (w : List ℕ) → IsFree e → begins_further w ≡ false → may_follow e (Says w) ≡ true
free_follows Apart w h e = refl
free_follows Wordy w h e = absurd h
free_follows Open w h e = ap not e

name_follows : (e : Edge) (i : ℕ) → IsFree e → may_follow e (Name i) ≡ true
name_follows Apart i h = refl
name_follows Wordy i h = absurd h
name_follows Open i h = refl

number_follows : (e : Edge) (n : ℕ) → IsFree e → may_follow e (Number n) ≡ true
number_follows Apart n h = refl
number_follows Wordy n h = absurd h
number_follows Open n h = refl

-- a sign behind which nothing begins
record IsSilent (w : List ℕ) : Type 0 where
  fresh : is_fresh w ≡ false
  asking : is_asking w ≡ false
  statements : (b : Before) → (after b w).statements ≡ b.statements
  atoms : (b : Before) → (after b w).atoms ≡ b.atoms

cmp_silent : (c : Cmp) → IsSilent (cmp_text c)
cmp_silent Le = record { fresh = refl; asking = refl; statements = λ b. refl; atoms = λ b. refl }
cmp_silent Lt = record { fresh = refl; asking = refl; statements = λ b. refl; atoms = λ b. refl }
cmp_silent Ge = record { fresh = refl; asking = refl; statements = λ b. refl; atoms = λ b. refl }
cmp_silent Gt = record { fresh = refl; asking = refl; statements = λ b. refl; atoms = λ b. refl }
cmp_silent Eq = record { fresh = refl; asking = refl; statements = λ b. refl; atoms = λ b. refl }
cmp_silent Ne = record { fresh = refl; asking = refl; statements = λ b. refl; atoms = λ b. refl }

rel_silent : (r : Rel) → IsSilent (rel_text r)
rel_silent AtMost = record { fresh = refl; asking = refl; statements = λ b. refl; atoms = λ b. refl }
rel_silent AtLeast = record { fresh = refl; asking = refl; statements = λ b. refl; atoms = λ b. refl }
rel_silent Same = record { fresh = refl; asking = refl; statements = λ b. refl; atoms = λ b. refl }

module _ (bound : ℕ) (small : bound < 2 ^ 64) (names : List (List ℕ)) (are : AreNames names) where
  abbrev W : Before → Edge → List Ink → (Before → Edge → Type 0) → Type 0
  W b e is P = Walks bound names b e is P

  cmp_sound : (c : Cmp) → IsSound bound names (Says (cmp_text c))
  cmp_sound Le = (less_same, refl)
  cmp_sound Lt = (less_opens, refl)
  cmp_sound Ge = (more_same, refl)
  cmp_sound Gt = (more_opens, refl)
  cmp_sound Eq = (both_same, refl)
  cmp_sound Ne = (not_same, refl)

  rel_sound : (r : Rel) → IsSound bound names (Says (rel_text r))
  rel_sound AtMost = (less_same, refl)
  rel_sound AtLeast = (more_same, refl)
  rel_sound Same = (same_opens, refl)

  -- ---- names and terms

  pub name_sound : (i : ℕ) → 0 < i → i ≤ length names → IsSound bound names (Name i)
  name_sound zero l h = absurd (omega arith)
  name_sound (suc place) l h = (
    are.each place [] (omega arith),
    ap coordinate (place_at names place are (omega arith)),
  )

  -- at most one atom, where one may begin
  record TermDone (b : Before) (d : Before) (f : Edge) : Type 0 where
    quiet : IsQuiet d
    solid : IsSolid f
    statements : d.statements ≤ b.statements
    atoms : d.atoms ≤ one_more (is_asking b.last && not b.sums) b.atoms

  digits_done : (b : Before) (n : ℕ) → n ≤ bound → IsCalm b → TermDone b (after b (decimal n)) Wordy
  digits_done b n h calm =
      let s : n < 2 ^ 64 = omega (arith, h, small) in
      let p = number_plain n s in
      record {
        quiet = record { fresh = p.fresh; asking = p.asking };
        solid = tt;
        statements = p.statements b calm;
        atoms = p.atoms b;
      }

  -- a number behind a sign
  behind_done : (b c : Before) (n : ℕ) → n ≤ bound → IsQuiet c → c.statements ≤ b.statements →
      c.atoms ≤ one_more (is_asking b.last && not b.sums) b.atoms → TermDone b (after c (decimal n)) Wordy
  behind_done b c n h q st at =
      let s : n < 2 ^ 64 = omega (arith, h, small) in
      let p = number_plain n s in
      let st1 = p.statements c q.fresh in
      let at1 = plain_unasked (decimal n) c p q.asking in
      record {
        quiet = record { fresh = p.fresh; asking = p.asking };
        solid = tt;
        statements = chained _ _ _ st1 st;
        atoms = chained _ _ _ at1 at;
      }

  added_walks : (n : ℤ) (b c : Before) → unsigned_abs n ≤ bound → IsQuiet c → c.statements ≤ b.statements →
      c.atoms ≤ one_more (is_asking b.last && not b.sums) b.atoms → W c Wordy (added_inks n) (TermDone b)
  added_walks (pos zero) b c h q st at = record { quiet = q; solid = tt; statements = st; atoms = at }
  added_walks (pos (suc n)) b c h q st at = (
    refl,
    tt,
    (
      refl,
      (plus_alone, refl),
      (
        refl,
        tt,
        (
          refl,
          h,
          behind_done b (after c (codes "+")) (suc n) h (record { fresh = refl; asking = refl }) st at,
        ),
      ),
    ),
  )
  added_walks (negsuc n) b c h q st at = (
    refl,
    tt,
    (
      refl,
      (minus_alone, refl),
      (
        refl,
        tt,
        (
          refl,
          h,
          behind_done b (after c (codes "-")) (suc n) h (record { fresh = refl; asking = refl }) st
              (less (is_asking c.last) (not c.sums) q.asking at),
        ),
      ),
    ),
  )
    where
      less : (y z : Bool) → y ≡ false → c.atoms ≤ one_more (is_asking b.last && not b.sums) b.atoms →
          one_more (y && z) c.atoms ≤ one_more (is_asking b.last && not b.sums) b.atoms
      less false z e k = k
      less true z e k = absurd cc

  constant_walks : (n : ℤ) (b : Before) (e : Edge) → unsigned_abs n ≤ bound → IsCalm b → IsFree e →
      W b e (constant_inks n) (TermDone b)
  constant_walks (pos n) b e h calm free = (number_follows e n free, h, digits_done b n h calm)
  constant_walks (negsuc n) b e h calm free = (
    free_follows e (codes "-") free refl,
    (minus_alone, refl),
    (
      refl,
      h,
      behind_done b (after b (codes "-")) (suc n) h (record { fresh = refl; asking = refl }) (itself b.statements)
          (itself (after b (codes "-")).atoms),
    ),
  )

  moved_walks : (i : ℕ) (n : ℤ) (b : Before) (e : Edge) → i ≤ length names → unsigned_abs n ≤ bound → IsCalm b →
      IsFree e → W b e (moved_inks i n) (TermDone b)
  moved_walks zero n b e l h calm free = constant_walks n b e h calm free
  moved_walks (suc place) n b e l h calm free =
      let s = name_sound (suc place) (omega arith) l in
      let p = name_plain (name_text names (suc place)) s.0 in (
        name_follows e (suc place) free,
        s,
        added_walks n b (after b (name_text names (suc place))) h
            (record { fresh = p.fresh; asking = p.asking }) (p.statements b calm) (p.atoms b),
      )

  term_walks : (t : Term) (b : Before) (e : Edge) → FitsTerm (length names) t → IsNumberWithin bound t → IsCalm b →
      IsFree e → W b e (term_inks t) (TermDone b)
  term_walks t b e l h calm free = moved_walks t.coord t.add b e l h calm free

  -- where an atom may begin, and where none may
  pub asked_walks : (t : Term) (b : Before) (e : Edge) → FitsTerm (length names) t → IsNumberWithin bound t → IsCalm b →
      IsFree e → W b e (term_inks t) (Done b 1)
  asked_walks t b e l h calm free =
      walks_as bound names (Done b 1) (TermDone b) (term_inks t) b e (term_walks t b e l h calm free)
      (λ d f k. record {
        quiet = k.quiet;
        solid = k.solid;
        statements = k.statements;
        atoms = chained _ _ _ k.atoms (one_more-most (is_asking b.last && not b.sums) b.atoms);
      })

  pub unasked_walks : (t : Term) (b : Before) (e : Edge) → FitsTerm (length names) t → IsNumberWithin bound t → IsCalm
      b →
      IsFree e → (is_asking b.last && not b.sums) ≡ false → W b e (term_inks t) (Done b 0)
  unasked_walks t b e l h calm free none =
      walks_as bound names (Done b 0) (TermDone b) (term_inks t) b e (term_walks t b e l h calm free)
      (λ d f k. let at : d.atoms ≤ b.atoms = subst (λ z. d.atoms ≤ one_more z b.atoms) none k.atoms in
      record { quiet = k.quiet; solid = k.solid; statements = k.statements; atoms = plus_none _ _ at })

  -- ---- conditions

  -- one part behind another
  pub done_then : (b c d : Before) (f g : Edge) (m k n : ℕ) → Done b m c f → Done c k d g → m + k ≤ n → Done b n d g
  done_then b c d f g m k n h i l =
      let h0 = h.statements in let h1 = h.atoms in let i0 = i.statements in let i1 = i.atoms in
      record { quiet = i.quiet; solid = i.solid; statements = omega (arith, h0, i0); atoms = omega (arith, h1, i1, l) }

  -- behind a sign that changes no count
  pub done_from : (b c d : Before) (g : Edge) (n : ℕ) → Done c n d g → c.statements ≤ b.statements →
      c.atoms ≤ b.atoms → Done b n d g
  done_from b c d g n i st at =
      let i0 = i.statements in let i1 = i.atoms in
      record { quiet = i.quiet; solid = i.solid; statements = omega (arith, st, i0); atoms = omega (arith, at, i1) }

  atom_walks : (a : Term) (c : Cmp) (x : Term) (b : Before) (e : Edge) → FitsTerm (length names) a →
      FitsTerm (length names) x → IsNumberWithin bound a → IsNumberWithin bound x → IsCalm b → IsFree e →
      W b e (between (term_inks a) (cmp_text c) (term_inks x)) (Done b 1)
  atom_walks a c x b e la lx ha hx calm free =
      let s = cmp_silent c in
      walks_more bound names (Done b 1) (Done b 1) (term_inks a)
      (Blank ∷ Says (cmp_text c) ∷ Blank ∷ term_inks x) b e (asked_walks a b e la ha calm free)
      (λ d f k. let v = after d (cmp_text c) in
      let st = s.statements d in
      let at = s.atoms d in
      let q = walks_as bound names (Done b 1) (Done v 0) (term_inks x) v Apart
      (unasked_walks x v Apart lx hx s.fresh tt (ap (λ z. z && not v.sums) s.asking))
      (λ u g m. done_then b d u f g 1 0 1 k (done_from d v u g 0 m (at_most _ _ st) (at_most _ _ at)) (omega arith)) in
      (blank_follows f, tt, (refl, cmp_sound c, (blank_follows (edge_of_word (cmp_text c)), tt, q))))

  -- two conditions with a sign between them
  pair_walks : (is js : List Ink) (w : List ℕ) (b : Before) (e : Edge) (m k : ℕ) → W b e is (Done b m) →
      IsSound bound names (Says w) → (d : (c : Before) → ((after c w).statements ≡ c.statements) × ((after c w).atoms
      ≡ c.atoms))
      → ((c : Before) → W (after c w) Apart js (Done (after c w) k)) → W b e (between is w js) (Done b (m + k))
  pair_walks is js w b e m k h sound keeps more =
      walks_more bound names (Done b (m + k)) (Done b m) is (Blank ∷ Says w ∷ Blank ∷ js) b e h
      (λ d f i. let v = after d w in
      let st = (keeps d).0 in
      let at = (keeps d).1 in
      let q = walks_as bound names (Done b (m + k)) (Done v k) js v Apart (more d)
      (λ u g l. done_then b d u f g m k (m + k) i (done_from d v u g k l (at_most _ _ st) (at_most _ _ at)) (omega
      arith)) in
      (blank_follows f, tt, (refl, sound, (blank_follows (edge_of_word w), tt, q))))

  bracket_walks : (z : Bool) (is : List Ink) (b : Before) (e : Edge) (m : ℕ) → IsCalm b → IsFree e →
      ((c : Before) (f : Edge) → IsCalm c → IsFree f → W c f is (Done c m)) → W b e (bracketed z is) (Done b m)
  bracket_walks false is b e m calm free inner = inner b e calm free
  bracket_walks true is b e m calm free inner =
      let v = after b (codes "(") in
      let q = walks_more bound names (Done b m) (Done v m) is (Says (codes ")") ∷ []) v Apart (inner v Apart refl tt)
      (λ d f k. let st = k.statements in
      let at = k.atoms in (
        solid_follows f (codes ")") k.solid refl,
        (close_alone, refl),
        record {
          quiet = record { fresh = refl; asking = refl };
          solid = tt;
          statements = st;
          atoms = at;
        },
      )) in
      (free_follows e (codes "(") free refl, (open_alone, refl), q)

  pub cond_walks : (l : Level) (c : Cond) (b : Before) (e : Edge) → FitsCond (length names) c →
      EachTerm (IsNumberWithin bound) c → IsCalm b → IsFree e → W b e (cond_inks l c) (Done b (cond_atoms c))
  cond_walks l Any b e fits within calm free = (
    free_follows e (codes "?") free refl,
    (question_alone, refl),
    record {
      quiet = record { fresh = refl; asking = refl };
      solid = tt;
      statements = itself b.statements;
      atoms = one_more-most (is_asking b.last && not b.sums) b.atoms;
    },
  )
  cond_walks l (Atom a c x) b e fits within calm free =
      atom_walks a c x b e fits.0 fits.1 within.0 within.1 calm free
  cond_walks l (Not c) b e fits within calm free =
      let v = after b (codes "!") in
      let q = walks_as bound names (Done b (cond_atoms c)) (Done v (cond_atoms c)) (cond_inks Single c) v Open
      (cond_walks Single c v Open fits within refl tt)
      (λ d f k. done_from b v d f (cond_atoms c) k (itself b.statements) (itself b.atoms)) in
      (free_follows e (codes "!") free refl, (bang_opens, refl), q)
  cond_walks l (And x y) b e fits within calm free =
      bracket_walks (is_single l) (between (cond_inks Tight x) (codes "&&") (cond_inks Single y)) b e
      (cond_atoms x + cond_atoms y) calm free
      (λ c f cl fr. pair_walks (cond_inks Tight x) (cond_inks Single y) (codes "&&") c f (cond_atoms x) (cond_atoms y)
      (cond_walks Tight x c f fits.0 within.0 cl fr) (and_alone, refl) (λ d. (refl, refl))
      (λ d. cond_walks Single y (after d (codes "&&")) Apart fits.1 within.1 refl tt))
  cond_walks l (Or x y) b e fits within calm free =
      bracket_walks (not_loose l) (between (cond_inks Loose x) (codes "||") (cond_inks Tight y)) b e
      (cond_atoms x + cond_atoms y) calm free
      (λ c f cl fr. pair_walks (cond_inks Loose x) (cond_inks Tight y) (codes "||") c f (cond_atoms x) (cond_atoms y)
      (cond_walks Loose x c f fits.0 within.0 cl fr) (or_alone, refl) (λ d. (refl, refl))
      (λ d. cond_walks Tight y (after d (codes "||")) Apart fits.1 within.1 refl tt))

  -- ---- claims

  abbrev Fit : List Term → Type 0
  Fit ts = All (FitsTerm (length names)) ts

  abbrev Small : List Term → Type 0
  Small ts = All (IsNumberWithin bound) ts

  rest_fits : (P : Term → Type 0) (t : Term) (ts : List Term) → All P (t ∷ ts) → All P ts
  rest_fits P t ts h = λ i d l. h (suc i) d (omega arith)

  first_fits : (P : Term → Type 0) (t : Term) (ts : List Term) → All P (t ∷ ts) → P t
  first_fits P t ts h = h 0 t (omega arith)

  more_walks : (ts : List Term) (b : Before) (f : Edge) → Fit ts → Small ts → IsQuiet b → IsSolid f →
      W b f (more_inks ts) (Done b 0)
  more_walks [] b f fit num q s = record { quiet = q; solid = s; statements = omega arith; atoms = omega arith }
  more_walks (t ∷ ts) b f fit num q s =
      let v = after b (codes ",") in
      let k = walks_more bound names (Done b 0) (Done v 0) (term_inks t) (more_inks ts) v Apart
      (unasked_walks t v Apart (first_fits (FitsTerm (length names)) t ts fit)
      (first_fits (IsNumberWithin bound) t ts num) refl tt refl)
      (λ d g h. walks_as bound names (Done b 0) (Done d 0) (more_inks ts) d g
      (more_walks ts d g (rest_fits (FitsTerm (length names)) t ts fit)
      (rest_fits (IsNumberWithin bound) t ts num) h.quiet h.solid)
      (λ u x m. done_from b v u x 0 (done_then v d u g x 0 0 0 h m (omega arith)) (itself b.statements) (itself
      b.atoms))) in
      (solid_follows f (codes ",") s refl, (comma_alone, refl), (refl, tt, k))

  terms_walks : (ts : List Term) (b : Before) (e : Edge) → 0 < length ts → Fit ts → Small ts → IsCalm b → IsFree e →
      (is_asking b.last && not b.sums) ≡ false → W b e (terms_inks ts) (Done b 0)
  terms_walks [] b e l fit num calm free none = absurd (omega arith)
  terms_walks (t ∷ ts) b e l fit num calm free none =
      walks_more bound names (Done b 0) (Done b 0) (term_inks t) (more_inks ts) b e
      (unasked_walks t b e (first_fits (FitsTerm (length names)) t ts fit)
      (first_fits (IsNumberWithin bound) t ts num) calm free none)
      (λ d g h. walks_as bound names (Done b 0) (Done d 0) (more_inks ts) d g
      (more_walks ts d g (rest_fits (FitsTerm (length names)) t ts fit)
      (rest_fits (IsNumberWithin bound) t ts num) h.quiet h.solid)
      (λ u x m. done_then b d u g x 0 0 0 h m (omega arith)))

  -- the terms in brackets, behind a word
  listed_walks : (ts : List Term) (b c : Before) → 0 < length ts → Fit ts → Small ts → c.statements ≤ b.statements →
      c.atoms ≤ b.atoms → IsCalm c → (is_asking c.last && not c.sums) ≡ false →
      W c Apart (terms_inks ts ++ Says (codes ")") ∷ []) (Done b 0)
  listed_walks ts b c l fit num st at calm none =
      walks_more bound names (Done b 0) (Done c 0) (terms_inks ts) (Says (codes ")") ∷ []) c Apart
      (terms_walks ts c Apart l fit num calm tt none)
      (λ d f k. let st1 = k.statements in
      let at1 = k.atoms in
      let st2 : d.statements ≤ b.statements = omega (arith, st, st1) in
      let at2 : d.atoms ≤ b.atoms + 0 = omega (arith, at, at1) in (
        solid_follows f (codes ")") k.solid refl,
        (close_alone, refl),
        record {
          quiet = record { fresh = refl; asking = refl };
          solid = tt;
          statements = st2;
          atoms = at2;
        },
      ))

  side_walks : (word : SideWord) (ts : List Term) (b : Before) → IsSide word ts → Fit ts → Small ts → IsCalm b →
      (is_asking b.last && not b.sums) ≡ false → W b Apart (side_inks word ts) (Done b 0)
  side_walks One ts b side fit num calm none =
      let one : length ts ≡ 1 = side in
      terms_walks ts b Apart (omega arith) fit num calm tt none
  side_walks Greatest ts b side fit num calm none = (
    refl,
    (refl, refl),
    (
      refl,
      (open_alone, refl),
      listed_walks ts b (after (after b (codes "max")) (codes "(")) side fit num (itself b.statements) (itself
          b.atoms) refl refl,
    ),
  )
  side_walks Least ts b side fit num calm none = (
    refl,
    (refl, refl),
    (
      refl,
      (open_alone, refl),
      listed_walks ts b (after (after b (codes "min")) (codes "(")) side fit num (itself b.statements) (itself
          b.atoms) refl refl,
    ),
  )

  pub claim_walks : (c : Claim) (b : Before) → IsClaim c → Fit c.left.terms → Fit c.right.terms → Small c.left.terms →
      Small c.right.terms → IsCalm b → (is_asking b.last && not b.sums) ≡ false → W b Apart (claim_inks c) (Done b 0)
  claim_walks c b is fl fr nl nr calm none =
      let s = rel_silent c.rel in
      pair_walks (side_inks c.left.word c.left.terms) (side_inks c.right.word c.right.terms) (rel_text c.rel) b Apart
      0 0
      (side_walks c.left.word c.left.terms b is.0 fl nl calm none) (rel_sound c.rel)
      (λ d. (s.statements d, s.atoms d))
      (λ d. side_walks c.right.word c.right.terms (after d (rel_text c.rel)) is.1 fr nr s.fresh
      (ap (λ z. z && not (after d (rel_text c.rel)).sums) s.asking))
