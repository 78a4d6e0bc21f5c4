-- Loops that print: what is printed so far and what is left are the whole.
use Rattle.std.specs.Prelude.{slice_get, slice_index_or, is_some, not, count_by, codes, Option, Some, None, ℤ, Bool, true, false, cond, if◌then◌else◌}
use Rattle.trop_theory.specs.Numbers.{Numbering}
use Rattle.trop_spelling.specs.declared.ring_kind.RingKind.{RingKind}
use Rattle.trop_spelling.specs.Spelling.{element_text, sum_word}
use Rattle.trop_spelling.specs.Printed.{after_commas, comma_list, numbers, terms_from, term_text, shift_text, sum_text}
use Rattle.std.proofs.Common.{◌≡◌, ◌≢◌, ℕ, zero, suc, ◌+◌, ◌<◌, ◌≤◌, List, [], ◌∷◌, ◌++◌, length, get_or, drop, sym, ap, ◌∙◌, refl, append_assoc, arith}
use Rattle.std.proofs.lemmas.List.{append-nil}
use Rattle.std.proofs.lemmas.List.Sums.{sum_by-cons}
use Rattle.std.proofs.Math.Seq.{drop-cons}

-- what is left begins with the item at hand
pub drop_item : {A : Type 0} (xs : List A) (i : ℕ) (x : A) → i < length xs → x ≡ get_or xs i x →
    drop i xs ≡ x ∷ drop (i + 1) xs
drop_item xs i x h e =
    let next : suc i ≡ i + 1 = omega arith in
    drop-cons xs i x h ∙ ap (λ y. y ∷ drop (suc i) xs) (sym e) ∙ ap (λ j. x ∷ drop j xs) next

-- one piece more is printed
pub one_more : (done rest piece more whole : List ℕ) → done ++ rest ≡ whole → rest ≡ piece ++ more →
    (done ++ piece) ++ more ≡ whole
one_more done rest piece more whole h e = append_assoc done piece more ∙ ap (λ r. done ++ r) (sym e) ∙ h

-- nothing is left
pub all_done : (done rest whole : List ℕ) → done ++ rest ≡ whole → rest ≡ [] → done ≡ whole
all_done done rest whole h e = sym (append-nil done) ∙ ap (λ r. done ++ r) (sym e) ∙ h

-- two pieces more are printed
pub two_more : (done first second rest p q more whole : List ℕ) → done ++ rest ≡ whole → rest ≡ p ++ (q ++ more) →
    first ≡ done ++ p → second ≡ first ++ q → second ++ more ≡ whole
two_more done first second rest p q more whole h e f s =
    ap (λ t. t ++ more) (s ∙ ap (λ t. t ++ q) f) ∙ one_more (done ++ p) (q ++ more) q more whole
    (one_more done rest p (q ++ more) whole h e) refl

-- the same, from a look-up
pub drop_found : {A : Type 0} (xs : List A) (i : ℕ) (x : A) → slice_get xs i ≡ Some x → drop i xs ≡ x ∷ drop (i + 1) xs
drop_found [] i x e = absurd (none_some x e)
  where
    none_some : {B : Type 0} (y : B) → None ≡ Some y → ⊥
    none_some y e = cc
drop_found (y ∷ xs) zero x e = ap (λ z. z ∷ xs) (some_same y x e)
  where
    some_same : {B : Type 0} (y x : B) → Some y ≡ Some x → y ≡ x
    some_same y x e = cc
drop_found (y ∷ xs) (suc i) x e = let next : suc i + 1 ≡ suc (i + 1) = omega arith in
    drop_found xs i x e ∙ ap (λ j. x ∷ drop j (y ∷ xs)) (sym next)

-- the texts of terms that are left, where some were printed and where none was
abbrev pub terms_left : Bool → List (List ℕ) → List ℕ
terms_left true = after_commas
terms_left false = comma_list

pub one_term : (started : Bool) (done first second term : List ℕ) (terms : List (List ℕ)) (whole : List ℕ) →
    done ++ terms_left started (term ∷ terms) ≡ whole
    → first ≡ done ++ (if started then codes ", " else []) → second ≡ first ++ term →
    second ++ terms_left true terms ≡ whole
one_term true done first second term terms whole h f s =
    two_more done first second _ (codes ", ") term (after_commas terms) whole h refl f s
one_term false done first second term terms whole h f s =
    ap (λ t. t ++ after_commas terms) (s ∙ ap (λ t. t ++ term) (f ∙ append-nil done))
    ∙ one_more done _ term (after_commas terms) whole h refl

pub none_left : (started : Bool) (done : List ℕ) (terms : List (List ℕ)) (whole : List ℕ) →
    done ++ terms_left started terms ≡ whole → terms ≡ [] → done ≡ whole
none_left true done terms whole h e = all_done done _ whole h (ap after_commas e)
none_left false done terms whole h e = all_done done _ whole h (ap comma_list e)

length_more : (kind : RingKind) (names : List (List ℕ)) (k : ℕ) (number : Option ℤ) (side : List (Option ℤ)) (n : ℕ) →
    length (terms_from kind names (k + 1) side) ≡ n →
    length (terms_from kind names k (number ∷ side)) ≡ cond (is_some number) 1 0 + n
length_more kind names k None side n e = omega arith
length_more kind names k (Some c) side n e = omega arith

-- as many terms as finite coefficients
pub length-terms_from : {V : Type 0} (N : Numbering V) (kind : RingKind) (names : List (List ℕ)) (k : ℕ) (side : List V)
    → length (terms_from kind names k (numbers N side)) ≡ count_by (λ x. is_some (N.to x)) side
length-terms_from N kind names k [] = refl
length-terms_from N kind names k (x ∷ side) =
    length_more kind names k (N.to x) (numbers N side) _ (length-terms_from N kind names (k + 1) side)
    ∙ sym (sum_by-cons (λ y. cond (is_some (N.to y)) 1 0) x side)

-- a side without terms, with one and with more
pub no_term : (kind : RingKind) (terms : List (List ℕ)) → length terms ≡ 0 →
    sum_text kind terms ≡ element_text kind None
no_term kind [] e = refl
no_term kind (t ∷ terms) e = absurd (omega arith)

pub lone_term : (kind : RingKind) (terms : List (List ℕ)) → length terms ≡ 1 → sum_text kind terms ≡ comma_list terms
lone_term kind [] e = absurd (omega arith)
lone_term kind (t ∷ []) e = sym (append-nil t)
lone_term kind (t ∷ u ∷ terms) e = absurd (omega arith)

pub many_terms : (kind : RingKind) (terms : List (List ℕ)) (n : ℕ) → length terms ≡ n → n ≢ 0 → n ≢ 1 →
    sum_text kind terms ≡ sum_word kind ++ (codes "(" ++ (comma_list terms ++ codes ")"))
many_terms kind [] n e z o = absurd (z (sym e))
many_terms kind (t ∷ []) n e z o = absurd (o (sym e))
many_terms kind (t ∷ u ∷ terms) n e z o = refl

-- the term of a variable
pub variable_term : (kind : RingKind) (names : List (List ℕ)) (i k : ℕ) (c : ℤ) (name : List ℕ) → i ≡ k + 1 →
    slice_get names k ≡ Some name → term_text kind names i c ≡ name ++ shift_text c
variable_term kind names i k c name e found =
    let next : i ≡ suc k = omega arith in
    ap (λ j. term_text kind names j c) next ∙ ap (λ n. n ++ shift_text c) (read_found names k name found)
  where
    read_found : (names : List (List ℕ)) (k : ℕ) (name : List ℕ) → slice_get names k ≡ Some name →
        slice_index_or names k [] ≡ name
    read_found [] k name e = cc
    read_found (x ∷ names) zero name e = cc
    read_found (x ∷ names) (suc k) name e = read_found names k name e

-- the pieces of a sum of more than one term
pub whole_sum : (done first second third fourth word inner side : List ℕ) → first ≡ done ++ word →
    second ≡ first ++ codes "(" → third ≡ second ++ inner → fourth ≡ third ++ codes ")" →
    side ≡ word ++ (codes "(" ++ (inner ++ codes ")")) → fourth ≡ done ++ side
whole_sum done first second third fourth word inner side f s t l e =
    let back = append_assoc done word (codes "(" ++ (inner ++ codes ")")) in
    l ∙ ap (λ u. u ++ codes ")") (t ∙ ap (λ u. u ++ inner) (s ∙ ap (λ u. u ++ codes "(") f))
    ∙ append_assoc ((done ++ word) ++ codes "(") inner (codes ")") ∙ append_assoc (done ++ word) (codes "(")
    (inner ++ codes ")") ∙ back ∙ ap (λ u. done ++ u) (sym e)

-- nothing is left at the end
pub drop_all : {A : Type 0} (xs : List A) (i : ℕ) → length xs ≤ i → drop i xs ≡ []
drop_all [] zero h = refl
drop_all [] (suc i) h = refl
drop_all (x ∷ xs) zero h = absurd (omega arith)
drop_all (x ∷ xs) (suc i) h = drop_all xs i (omega arith)

-- a number that a test found
pub finite_number : (number other : Option ℤ) (missing : Bool) → is_some other ≡ not missing → missing ≡ false →
    other ≡ number → (c : ℤ) × (number ≡ Some c)
finite_number None other missing e f same = absurd (false_true (sym (ap is_some same) ∙ e ∙ ap not f))
  where
    false_true : false ≡ true → ⊥
    false_true e = cc
finite_number (Some c) other missing e f same = (c, refl)
