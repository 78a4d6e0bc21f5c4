-- What the first token of a condition, of an operand and of a statement is, from the tests that it passed.
-- Index: Started, IsBegin, begin_is, Firsts, first_is, Verbs, IsVerb, verb_is.
use Rattle.std.proofs.Common.{◌≡◌, ℕ, Bool, true, false, cond, Option, Some, None, Result, Ok, Err, refl, ap, subst, ◌||◌}
use Rattle.trop_text.specs.declared.fault.FaultKind.{FaultKind}
use Rattle.trop_text.specs.declared.fault.FaultKind.TheVariants.{Syntax, TooManyStatements, TooManyAtoms}
use Rattle.prog_texts.specs.Judges.{passed}
use Rattle.prog_texts.specs.Operands.{First, Value, Negative, Variable}
use Rattle.prog_texts.specs.Conditions.{Start, Bang, Bracket, Ask, Compare, opening}
use Rattle.prog_texts.specs.Statements.{Verb, Havocs, Assumes, Asserts, Asks, Loops, Skips, Sets}

-- ---- conditions

-- which test was passed for what a condition begins with, and what its operand was judged to be
abbrev pub Started : Bool → Bool → Result First FaultKind → Start → Type 0
Started bang bracket v Bang = bang ≡ true
Started bang bracket v Bracket = bracket ≡ true
Started bang bracket v Ask = Unit {0}
Started bang bracket v (Compare f) = v ≡ Ok f

-- what begins with an atom: there is room for one
abbrev pub IsAtom : Bool → Bool → Start → Type 0
IsAtom begins many Bang = Unit {0}
IsAtom begins many Bracket = Unit {0}
IsAtom begins many Ask = (begins ≡ true) × (many ≡ false)
IsAtom begins many (Compare f) = (begins ≡ true) × (many ≡ false)

pub record IsBegin (a b c d many : Bool) (v : Result First FaultKind) (s : Start) : Type 0 where
  pub told : Started a b v s
  pub atom : IsAtom (c || d) many s

pub begin_is : (a b c d room many : Bool) (v : Result First FaultKind) (s : Start) →
    cond a (opening room Bang) (cond b (opening room Bracket)
    (cond c (cond many (Err TooManyAtoms) (Ok Ask))
    (cond d (cond many (Err TooManyAtoms) (passed Compare v)) (Err Syntax)))) ≡ Ok s → IsBegin a b c d many v s
begin_is true b c d true many v s e = let k : Bang ≡ s = cc in
    subst (IsBegin true b c d many v) k (record { told = refl; atom = tt })
begin_is true b c d false many v s e = absurd cc
begin_is false true c d true many v s e = let k : Bracket ≡ s = cc in
    subst (IsBegin false true c d many v) k (record { told = refl; atom = tt })
begin_is false true c d false many v s e = absurd cc
begin_is false false true d room true v s e = absurd cc
begin_is false false true d room false v s e = let k : Ask ≡ s = cc in
    subst (IsBegin false false true d false v) k (record { told = tt; atom = (refl, refl) })
begin_is false false false true room true v s e = absurd cc
begin_is false false false true room false (Ok f) s e = let k : Compare f ≡ s = cc in
    subst (IsBegin false false false true false (Ok f)) k (record { told = refl; atom = (refl, refl) })
begin_is false false false true room false (Err w) s e = absurd cc
begin_is false false false false room many v s e = absurd cc

-- ---- operands

-- what the number or the name was judged to be
abbrev pub Firsts : Result ℕ FaultKind → Result ℕ FaultKind → First → Type 0
Firsts v w (Value n) = v ≡ Ok n
Firsts v w Negative = Unit {0}
Firsts v w (Variable i) = w ≡ Ok i

pub first_is : (a b c : Bool) (v w : Result ℕ FaultKind) (f : First) →
    cond a (passed Value v) (cond b (Ok Negative) (cond c (passed Variable w) (Err Syntax))) ≡ Ok f → Firsts v w f
first_is true b c (Ok n) w f e = let k : Value n ≡ f = cc in subst (Firsts (Ok n) w) k refl
first_is true b c (Err what) w f e = absurd cc
first_is false true c v w f e = let k : Negative ≡ f = cc in subst (Firsts v w) k tt
first_is false false true v (Ok i) f e = let k : Variable i ≡ f = cc in subst (Firsts v (Ok i)) k refl
first_is false false true v (Err what) f e = absurd cc
first_is false false false v w f e = absurd cc

-- ---- statements

-- which test was passed for a verb, and what its name was judged to be
abbrev pub Verbs : Bool → Bool → Bool → Result ℕ FaultKind → Verb → Type 0
Verbs assumes asks loops w Havocs = Unit {0}
Verbs assumes asks loops w Assumes = assumes ≡ true
Verbs assumes asks loops w Asserts = Unit {0}
Verbs assumes asks loops w Asks = asks ≡ true
Verbs assumes asks loops w Loops = loops ≡ true
Verbs assumes asks loops w Skips = Unit {0}
Verbs assumes asks loops w (Sets i) = w ≡ Ok i

pub record IsVerb (a b c d e f g many : Bool) (w : Result ℕ FaultKind) (v : Verb) : Type 0 where
  pub allowed : many ≡ false
  pub some : (a || b || c || d || e || f || g) ≡ true
  pub told : Verbs b d e w v

-- one that is let pass, where there is room for it
counted_is : (a b c d e f g many : Bool) (w : Result ℕ FaultKind) (u v : Verb) →
    (a || b || c || d || e || f || g) ≡ true → Verbs b d e w u →
    Some (cond many (Err TooManyStatements) (Ok u)) ≡ Some (Ok v) → IsVerb a b c d e f g many w v
counted_is a b c d e f g true w u v some told h = absurd cc
counted_is a b c d e f g false w u v some told h = let k : u ≡ v = cc in
    record { allowed = refl; some = some; told = subst (Verbs b d e w) k told }

pub verb_is : (a b c d e f g m : Bool) (w : Result ℕ FaultKind) (v : Verb)
    → cond a (Some (cond m (Err TooManyStatements) (Ok Havocs)))
    (cond b (Some (cond m (Err TooManyStatements) (Ok Assumes)))
    (cond c (Some (cond m (Err TooManyStatements) (Ok Asserts)))
    (cond d (Some (cond m (Err TooManyStatements) (Ok Asks)))
    (cond e (Some (cond m (Err TooManyStatements) (Ok Loops)))
    (cond f (Some (cond m (Err TooManyStatements) (Ok Skips)))
    (cond g (Some (cond m (Err TooManyStatements) (passed Sets w))) None)))))) ≡ Some (Ok v) →
    IsVerb a b c d e f g m w v
verb_is true b c d e f g m w v h = counted_is true b c d e f g m w Havocs v refl tt h
verb_is false true c d e f g m w v h = counted_is false true c d e f g m w Assumes v refl refl h
verb_is false false true d e f g m w v h = counted_is false false true d e f g m w Asserts v refl tt h
verb_is false false false true e f g m w v h = counted_is false false false true e f g m w Asks v refl refl h
verb_is false false false false true f g m w v h = counted_is false false false false true f g m w Loops v refl refl h
verb_is false false false false false true g m w v h =
    counted_is false false false false false true g m w Skips v refl tt h
verb_is false false false false false false true m (Ok i) v h =
    counted_is false false false false false false true m (Ok i) (Sets i) v refl refl h
verb_is false false false false false false true true (Err what) v h = absurd cc
verb_is false false false false false false true false (Err what) v h = absurd cc
verb_is false false false false false false false m w v h = absurd cc
