-- The texts of names and of numbers: they are none of the words and signs, and begin no statement where no name may.
-- Index: itself, at_most, chained, plus_none, chained_plus, one_more-least, one_more-most, IsPlain, plain_unasked,
-- some_statement, name_plain, name_word, word_digits, decimal_digits, decimal_are_digits, number_plain.
use Rattle.std.proofs.Common.{◌≡◌, ◌≤◌, ◌<◌, ◌+◌, ◌^◌, ℕ, Bool, true, false, List, [], ◌∷◌, length, codes, refl, sym, ap, subst, ◌∙◌, arith, decimal}
use Rattle.std.specs.Prelude.{◌&&◌, ◌||◌, not}
use Rattle.std.specs.Int.{IsInRange}
use Rattle.std.specs.List.{list_all}
use Rattle.std.specs.Str.{bytes_eq}
use Rattle.std.specs.Str.Parse.{AllDigits}
use Rattle.std.proofs.lemmas.Bool.{le-leb}
use Rattle.std.proofs.lemmas.Bool.Decides.{nat_tests}
use Rattle.std.proofs.lemmas.Slice.Eq.{bytes_eq-Decides}
use Rattle.std.proofs.lemmas.Str.Parse.{digit_from_value}
use Rattle.std.proofs.lemmas.Fmt.{decimal_is_IsNumeral, decimal_nonempty}
use Rattle.trop_text.specs.Bytes.{is_letter, is_digit, is_word_byte}
use Rattle.trop_text.specs.Lexed.{are_digits}
use Rattle.trop_text.specs.Name.{is_name, is_word}
use Rattle.trop_text.proofs.Signs.{and_first, and_both}
use Rattle.trop_reading.proofs.NameWords.{false_if, not_named}
use Rattle.prog_texts.specs.Words.{Before, one_more, is_fresh, is_asking}
use Rattle.prog_print.proofs.Walks.{after}

pub itself : (n : ℕ) → n ≤ n
itself n = omega arith

pub at_most : (m n : ℕ) → m ≡ n → m ≤ n
at_most m n e = omega arith

pub chained : (m n k : ℕ) → m ≤ n → n ≤ k → m ≤ k
chained m n k h l = omega arith

pub plus_none : (m n : ℕ) → m ≤ n → m ≤ n + 0
plus_none m n h = omega arith

pub chained_plus : (m n k i : ℕ) → m ≤ n + i → n ≤ k → m ≤ k + i
chained_plus m n k i h l = omega arith

pub one_more-least : (z : Bool) (n : ℕ) → n ≤ one_more z n
one_more-least true n = omega arith
one_more-least false n = omega arith

pub one_more-most : (z : Bool) (n : ℕ) → one_more z n ≤ n + 1
one_more-most true n = omega arith
one_more-most false n = omega arith

-- no statement begins where none of the words stands and no name may
begins_none : (a b c d e f v z : Bool) (n : ℕ) → a ≡ false → b ≡ false → c ≡ false → d ≡ false → e ≡ false →
    f ≡ false → z ≡ false → one_more (a || b || c || d || e || f || v && z) n ≤ n
begins_none a b c d e f v z n pa pb pc pd pe pf pz = rw (pa, pb, pc, pd, pe, pf, pz) (at v)
  where
    at : (v : Bool) → one_more (v && false) n ≤ n
    at true = omega arith
    at false = omega arith

-- an atom begins only where one may
atom_where : (x y z : Bool) (n : ℕ) → one_more (x && y && z) n ≤ one_more (y && z) n
atom_where true y z n = omega arith
atom_where false y z n = one_more-least (y && z) n

pub record IsPlain (w : List ℕ) : Type 0 where
  pub fresh : is_fresh w ≡ false
  pub asking : is_asking w ≡ false
  pub statements : (b : Before) → is_fresh b.last ≡ false → (after b w).statements ≤ b.statements
  pub atoms : (b : Before) → (after b w).atoms ≤ one_more (is_asking b.last && not b.sums) b.atoms

-- where no atom may begin
pub plain_unasked : (w : List ℕ) (b : Before) → IsPlain w → is_asking b.last ≡ false → (after b w).atoms ≤ b.atoms
plain_unasked w b h e = subst (λ z. (after b w).atoms ≤ one_more (z && not b.sums) b.atoms) e (h.atoms b)

pub some_statement : (w : List ℕ) (b : Before) → (after b w).statements ≤ b.statements + 1
some_statement w b = one_more-most _ b.statements

-- a text that differs from these words and signs
plain_if : (w : List ℕ) → bytes_eq w (codes ";") ≡ false → bytes_eq w (codes "{") ≡ false →
    bytes_eq w (codes "}") ≡ false → bytes_eq w (codes "havoc") ≡ false → bytes_eq w (codes "assume") ≡ false →
    bytes_eq w (codes "assert") ≡ false → bytes_eq w (codes "if") ≡ false → bytes_eq w (codes "while") ≡ false →
    bytes_eq w (codes "skip") ≡ false → bytes_eq w (codes "!") ≡ false → bytes_eq w (codes "(") ≡ false →
    bytes_eq w (codes "&&") ≡ false → bytes_eq w (codes "||") ≡ false → IsPlain w
plain_if w a b c d e f g h i j k l m = record {
  fresh = rw (a, b, c) refl;
  asking = rw (e, g, h, j, k, l, m) refl;
  statements = λ before calm. begins_none _ _ _ _ _ _ (is_name w) (is_fresh before.last) before.statements d e f g h i
      calm;
  atoms = λ before. atom_where _ (is_asking before.last) (not before.sums) before.atoms;
}

pub name_plain : (w : List ℕ) → is_name w ≡ true → IsPlain w
name_plain w h =
    let at = λ (word : List ℕ) (e : is_name word ≡ false). not_named w word h e in
    plain_if w (at (codes ";") refl) (at (codes "{") refl) (at (codes "}") refl) (at (codes "havoc") refl)
    (at (codes "assume") refl) (at (codes "assert") refl) (at (codes "if") refl) (at (codes "while") refl)
    (at (codes "skip") refl) (at (codes "!") refl) (at (codes "(") refl) (at (codes "&&") refl) (at (codes "||") refl)

pub name_word : (w : List ℕ) → is_name w ≡ true → is_word w ≡ true
name_word w h = and_first _ _ (and_first _ _ h)

letter_no_digit : (b : ℕ) → is_letter b ≡ true → is_digit b ≡ false
letter_no_digit b h = grind (arith, nat_tests)

pub word_digits : (w : List ℕ) → is_word w ≡ true → are_digits w ≡ false
word_digits [] h = refl
word_digits (b ∷ bs) h = let no = letter_no_digit b (and_first (is_letter b) (list_all is_word_byte bs) h) in rw no refl

-- ---- numbers

digit_passes : (c : ℕ) → IsInRange 48 57 c → is_digit c ≡ true
digit_passes c h = and_both _ _ (le-leb 48 c (omega (arith, h))) (le-leb c 57 (omega (arith, h)))

digits_pass : (ds : List ℕ) → AllDigits 10 ds → list_all is_digit ds ≡ true
digits_pass [] h = refl
digits_pass (d ∷ ds) h = and_both (is_digit d) (list_all is_digit ds) (digit_passes d (digit_from_value d h.0))
    (digits_pass ds h.1)

pub decimal_digits : (n : ℕ) → n < 2 ^ 64 → list_all is_digit (decimal n) ≡ true
decimal_digits n small = digits_pass (decimal n) (decimal_is_IsNumeral n small).0.1

some_digits : (ds : List ℕ) → 0 < length ds → list_all is_digit ds ≡ true → are_digits ds ≡ true
some_digits [] l h = absurd (omega arith)
some_digits (d ∷ ds) l h = h

pub decimal_are_digits : (n : ℕ) → n < 2 ^ 64 → are_digits (decimal n) ≡ true
decimal_are_digits n small = some_digits (decimal n) (decimal_nonempty n small) (decimal_digits n small)

differs : (w word : List ℕ) → list_all is_digit w ≡ true → list_all is_digit word ≡ false → bytes_eq w word ≡ false
differs w word h k = false_if (bytes_eq w word) no
  where
    no : bytes_eq w word ≡ true → ⊥
    no e = let same : true ≡ false = sym h ∙ ap (list_all is_digit) ((bytes_eq-Decides w word).0 e) ∙ k in cc

pub number_plain : (n : ℕ) → n < 2 ^ 64 → IsPlain (decimal n)
number_plain n small =
    let w = decimal n in
    let h = decimal_digits n small in
    let at = λ (word : List ℕ) (e : list_all is_digit word ≡ false). differs (decimal n) word h e in
    plain_if w (at (codes ";") refl) (at (codes "{") refl) (at (codes "}") refl) (at (codes "havoc") refl)
    (at (codes "assume") refl) (at (codes "assert") refl) (at (codes "if") refl) (at (codes "while") refl)
    (at (codes "skip") refl) (at (codes "!") refl) (at (codes "(") refl) (at (codes "&&") refl) (at (codes "||") refl)
