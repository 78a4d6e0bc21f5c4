-- Parts of printed texts: tokens that are what was printed, one part behind another, and operands.
-- Index: other_word, not_of, Then_begun, Then_all, the_empty, a_one, Many_more, IsSplit, split, said_ink, said_then,
-- IsBegun, operand_begun, operand_spelled.
use Rattle.std.proofs.Common.{◌≡◌, ℕ, zero, suc, ℤ, pos, negsuc, Bool, true, false, Option, Some, List, [], ◌∷◌, ◌++◌, codes, Result, Ok, refl, sym, ap, subst, ◌∙◌, append_assoc, ◌||◌}
use Rattle.std.specs.List.{list_all}
use Rattle.std.specs.Str.{bytes_eq}
use Rattle.std.proofs.lemmas.List.{append-nil}
use Rattle.trop_text.specs.Bytes.{is_digit}
use Rattle.trop_text.specs.Name.{is_name}
use Rattle.trop_text.specs.declared.fault.FaultKind.{FaultKind}
use Rattle.trop_grammar.specs.Grammar.{Empty, Then}
use Rattle.shape_grammar.specs.Past.{past}
use Rattle.shape_grammar.specs.Texts.{One, LeftOut, Written, Many, NoMore, OneMore}
use Rattle.shape_grammar.proofs.Pasts.{gap, past-append}
use Rattle.shape_grammar.proofs.TokenLaws.{at_token, token_whole, regroup}
use Rattle.prog_theory.specs.States.{Term}
use Rattle.prog_theory.specs.Limits.{Limits}
use Rattle.prog_texts.specs.Words.{Counted, text, skipped, says, is_digits, is_variable, begins_operand}
use Rattle.prog_texts.specs.Judges.{passed, said, sized, number, known}
use Rattle.prog_texts.specs.Shapes.{language}
use Rattle.prog_texts.specs.Operands.{moved, Plus, Minus, First, Value, Negative, Variable, first, way, IsSaid, IsNumber, IsOperandRest, IsOperand}
use Rattle.prog_texts.specs.Inks.{Ink, Says, Name, Number, Blank, Feed}
use Rattle.prog_texts.specs.Inked.{IsWithin, AreInks}
use Rattle.prog_texts.specs.Printed.{constant_inks, added_inks, moved_inks}
use Rattle.prog_texts.proofs.Signs.{text_is}

-- another token than the word
pub other_word : (a b : List ℕ) (t : Counted) → says a t ≡ true → bytes_eq a b ≡ false → says b t ≡ false
other_word a b t e apart = ap (λ z. bytes_eq z b) (text_is a t e) ∙ apart

no_both : (b : Bool) → b ≡ true → b ≡ false → ⊥
no_both b p r = let h = sym p ∙ r in cc

-- a token of a kind that the word is not of
pub not_of : (test : List ℕ → Bool) (word : List ℕ) (t : Counted) → test word ≡ false → test (text t) ≡ true →
    says word t ≡ false
not_of test word t e k = at (says word t) refl
  where
    at : (b : Bool) → says word t ≡ b → says word t ≡ false
    at false q = q
    at true q = absurd (no_both (test (text t)) k (ap test (text_is word t q) ∙ e))

-- a token, and a text behind it
pub Then_begun : {A B : Type 0} {P : Counted → A → Type 0} {S : A → List Counted → B → Type 0} (us : List Counted)
    (t : Counted) (vs : List Counted) (x : A) (y : B) → past skipped us ≡ t ∷ vs → P t x → S x vs y →
    Then (One skipped P) S us y
Then_begun us t vs x y e h k =
    let g = gap skipped us in
    record {
      front = g.front ++ t ∷ [];
      back = vs;
      value = x;
      whole =
          token_whole language us t vs e g ∙ sym (regroup language g.front t [] vs);
      first =
          record { token = t; whole = at_token language us t vs e g []; is = h };
      second = k;
    }

pub Then_all : {A B : Type 0} {R : List Counted → A → Type 0} {S : A → List Counted → B → Type 0} (us : List Counted)
    (x : A) (y : B) → R us x → S x [] y → Then R S us y
Then_all us x y h k = record { front = us; back = []; value = x; whole = sym (append-nil us); first = h; second = k }

pub the_empty : {A : Type 0} (x : A) (us : List Counted) → us ≡ [] → Empty x us x
the_empty x us e = record { none = e; is = refl }

pub a_one : {A : Type 0} {P : Counted → A → Type 0} (us : List Counted) (t : Counted) (vs : List Counted) (x : A) →
    past skipped us ≡ t ∷ vs → vs ≡ [] → P t x → One skipped P us x
a_one us t vs x e none h = record { token = t; whole = e ∙ ap (λ (z : List Counted). t ∷ z) none; is = h }

-- one step more at the end
pub Many_more : {A V : Type 0} {J : V → Counted → Option (Result A FaultKind)} {S : V → A → List Counted → V → Type 0}
    (x : V) (us : List Counted) (y : V) (ws : List Counted) (t : Counted) (a : A) (vs : List Counted) (z : V)
    → Many skipped J S x us y → past skipped ws ≡ t ∷ vs → J y t ≡ Some (Ok a) → S y a vs z →
    Many skipped J S x (us ++ ws) z
Many_more {J = J} {S = S} x us y ws t a vs z (NoMore none is) e j h =
    subst (λ (q : List Counted). Many skipped J S x (q ++ ws) z) (sym none)
    (OneMore t a vs vs [] z e (subst (λ q. J q t ≡ Some (Ok a)) is j) (sym (append-nil vs))
    (subst (λ q. S q a vs z) is h) (NoMore refl refl))
Many_more x us y ws t a vs z (OneMore u b us' ws' zs z' e' j' whole h' m) e j h =
    OneMore u b (us' ++ ws) ws' (zs ++ ws) z' (past-append skipped us u us' ws e') j'
    (ap (λ (q : List Counted). q ++ ws) whole ∙ append_assoc ws' zs ws) h' (Many_more z' zs y ws t a vs z m e j h)

said_is : (word : List ℕ) (t : Counted) → says word t ≡ true → said word t ≡ Ok tt
said_is word t e = rw e refl

module _ (L : Limits) (names : List (List ℕ)) where
  -- two parts one behind the other
  pub record IsSplit (is js : List Ink) (ts : List Counted) : Type 0 where
    pub front : List Counted
    pub back : List Counted
    pub whole : ts ≡ front ++ back
    pub first : AreInks L names is front
    pub second : AreInks L names js back

  -- the parts behind a token, with the token
  split_behind : (i : Ink) (is js : List Ink) (ts : List Counted) (t : Counted) (rest : List Counted) →
      past skipped ts ≡ t ∷ rest → ((us vs : List Counted) → AreInks L names is us →
      past skipped vs ≡ t ∷ us → AreInks L names (i ∷ is) vs) → IsSplit is js rest → IsSplit (i ∷ is) js ts
  split_behind i is js ts t rest e joined k =
      let g = gap skipped ts in
      record {
        front = g.front ++ t ∷ k.front;
        back = k.back;
        whole =
            token_whole language ts t rest e g ∙ ap (λ (z : List Counted). g.front ++ t ∷ z) k.whole
            ∙ sym (regroup language g.front t k.front k.back);
        first = joined k.front (g.front ++ t ∷ k.front) k.first (at_token language ts t rest e g k.front);
        second = k.second;
      }

  pub split : (is js : List Ink) (ts : List Counted) → AreInks L names (is ++ js) ts → IsSplit is js ts
  split [] js ts h = record { front = []; back = ts; whole = refl; first = refl; second = h }
  split (Blank ∷ is) js ts h = let k = split is js ts h in
      record { front = k.front; back = k.back; whole = k.whole; first = k.first; second = k.second }
  split (Feed ∷ is) js ts h = let k = split is js ts h in
      record { front = k.front; back = k.back; whole = k.whole; first = k.first; second = k.second }
  split (Says w ∷ is) js ts h =
      split_behind (Says w) is js ts h.0 h.1 h.2 (λ us vs k e. (h.0, us, e, h.3, h.4, k)) (split is js h.1 h.5)
  split (Name i ∷ is) js ts h =
      split_behind (Name i) is js ts h.0 h.1 h.2 (λ us vs k e. (h.0, us, e, h.3, h.4, k)) (split is js h.1 h.5)
  split (Number n ∷ is) js ts h =
      split_behind (Number n) is js ts h.0 h.1 h.2 (λ us vs k e. (h.0, us, e, h.3, h.4, k)) (split is js h.1 h.5)

  -- the word, and nothing behind it
  pub said_ink : (word : List ℕ) (us : List Counted) → AreInks L names (Says word ∷ []) us → IsSaid word us tt
  said_ink word us h = a_one us h.0 h.1 tt h.2 h.5 (said_is word h.0 h.4.1)

  -- the word, and a text behind it
  pub said_then : {B : Type 0} {S : Unit {0} → List Counted → B → Type 0} (word : List ℕ) (is : List Ink)
      (us : List Counted) (y : B) → AreInks L names (Says word ∷ is) us →
      ((vs : List Counted) → AreInks L names is vs → S tt vs y) → Then (IsSaid word) S us y
  said_then word is us y h k = Then_begun us h.0 h.1 tt y h.2 (said_is word h.0 h.4.1) (k h.1 h.5)

  number_ink : (n : ℕ) (us : List Counted) → AreInks L names (Number n ∷ []) us → IsNumber L.number us n
  number_ink n us h = a_one us h.0 h.1 n h.2 h.5 h.4.2

  -- ---- operands

  -- the first token of an operand, and the rest of it
  pub record IsBegun (x : Term) (us : List Counted) : Type 0 where
    pub token : Counted
    pub behind : List Counted
    pub whole : past skipped us ≡ token ∷ behind
    pub within : IsWithin L token
    pub begins : begins_operand token ≡ true
    pub other : (word : List ℕ) → is_name word ≡ false → list_all is_digit word ≡ false →
        bytes_eq (codes "-") word ≡ false → says word token ≡ false
    pub start : First
    pub judged : first L names token ≡ Ok start
    pub rest : IsOperandRest L start behind x

  number_sized : (bound n : ℕ) (t : Counted) → is_digits t ≡ true → number bound t ≡ Ok n → sized bound t ≡ Ok n
  number_sized bound n t e k = let h : number bound t ≡ sized bound t = rw e refl in sym h ∙ k

  first_value : (t : Counted) (n : ℕ) → is_digits t ≡ true → number L.number t ≡ Ok n → first L names t ≡ Ok (Value n)
  first_value t n e k = let h = number_sized L.number n t e k in rw e (ap (passed Value) h)

  first_minus : (t : Counted) → is_digits t ≡ false → says (codes "-") t ≡ true → first L names t ≡ Ok Negative
  first_minus t e k = rw (e, k) refl

  first_variable : (t : Counted) (i : ℕ) → is_digits t ≡ false → is_variable t ≡ true → known names t ≡ Ok i →
      first L names t ≡ Ok (Variable i)
  first_variable t i e k h = let m = not_of is_name (codes "-") t refl k in rw (e, m, k) (ap (passed Variable) h)

  or_one : (a b c : Bool) → a ≡ true → (a || b || c) ≡ true
  or_one true b c e = refl
  or_one false b c e = absurd cc

  or_two : (a b c : Bool) → b ≡ true → (a || b || c) ≡ true
  or_two true b c e = refl
  or_two false true c e = refl
  or_two false false c e = absurd cc

  or_three : (a b c : Bool) → c ≡ true → (a || b || c) ≡ true
  or_three true b true e = refl
  or_three false true true e = refl
  or_three false false true e = refl
  or_three a b false e = absurd cc

  constant_begun : (n : ℤ) (us : List Counted) → AreInks L names (constant_inks n) us → IsBegun (moved 0 n) us
  constant_begun (pos n) us h = record {
    token = h.0;
    behind = h.1;
    whole = h.2;
    within = h.3;
    begins = or_one (is_digits h.0) (says (codes "-") h.0) (is_variable h.0) h.4.0;
    other = λ word a b c. not_of (list_all is_digit) word h.0 b h.4.1;
    start = Value n;
    judged = first_value h.0 n h.4.0 h.4.2;
    rest = the_empty (moved 0 (pos n)) h.1 h.5;
  }
  constant_begun (negsuc n) us h = record {
    token = h.0;
    behind = h.1;
    whole = h.2;
    within = h.3;
    begins = or_two (is_digits h.0) (says (codes "-") h.0) (is_variable h.0) h.4.1;
    other = λ word a b c. other_word (codes "-") word h.0 h.4.1 c;
    start = Negative;
    judged = first_minus h.0 h.4.0 h.4.1;
    rest = Then_all h.1 (suc n) (moved 0 (negsuc n)) (number_ink (suc n) h.1 h.5)
        (the_empty (moved 0 (negsuc n)) [] refl);
  }

  way_plus : (t : Counted) → says (codes "+") t ≡ true → way t ≡ Some (Ok Plus)
  way_plus t e = rw e refl

  way_minus : (t : Counted) → says (codes "-") t ≡ true → way t ≡ Some (Ok Minus)
  way_minus t e = let k = other_word (codes "-") (codes "+") t e refl in rw (k, e) refl

  added : (i : ℕ) (n : ℤ) (us : List Counted) → AreInks L names (added_inks n) us →
      IsOperandRest L (Variable i) us (moved i n)
  added i (pos zero) us h = LeftOut h refl
  added i (pos (suc n)) us h = Written h.0 Plus h.1 h.2 (way_plus h.0 h.4.1)
      (Then_all h.1 (suc n) (moved i (pos (suc n))) (number_ink (suc n) h.1 h.5)
      (the_empty (moved i (pos (suc n))) [] refl))
  added i (negsuc n) us h = Written h.0 Minus h.1 h.2 (way_minus h.0 h.4.1)
      (Then_all h.1 (suc n) (moved i (negsuc n)) (number_ink (suc n) h.1 h.5) (the_empty (moved i (negsuc n)) [] refl))

  pub operand_begun : (i : ℕ) (n : ℤ) (us : List Counted) → AreInks L names (moved_inks i n) us → IsBegun (moved i n) us
  operand_begun zero n us h = constant_begun n us h
  operand_begun (suc place) n us h = record {
    token = h.0;
    behind = h.1;
    whole = h.2;
    within = h.3;
    begins = or_three (is_digits h.0) (says (codes "-") h.0) (is_variable h.0) h.4.1;
    other = λ word a b c. not_of is_name word h.0 a h.4.1;
    start = Variable (suc place);
    judged = first_variable h.0 (suc place) h.4.0 h.4.1 h.4.2;
    rest = added (suc place) n h.1 h.5;
  }

  pub operand_spelled : (t : Term) (us : List Counted) → AreInks L names (moved_inks t.coord t.add) us →
      IsOperand L names us t
  operand_spelled t us h = let k = operand_begun t.coord t.add us h in
      Then_begun us k.token k.behind k.start t k.whole k.judged k.rest
