-- Rows of one width with one text are one row, and so are rows in normal form with one line.
use Rattle.std.proofs.Common.{◌≡◌, ◌<◌, ◌^◌, Bool, ℕ, zero, suc, List, [], ◌∷◌, ◌++◌, map, length, drop, Option, Some, None, sym, ap, ◌∙◌, refl, arith, append-nil}
use Rattle.std.specs.Prelude.{ℤ, codes}
use Rattle.std.proofs.lemmas.List.{append_cancel_right}
use Rattle.trop_theory.specs.Semiring.{Semiring}
use Rattle.trop_theory.specs.Numbers.{Numbering, NumberLaws}
use Rattle.trop_theory.specs.Vectors.{entry, row_size}
use Rattle.trop_theory.specs.Normal.{IsNormal}
use Rattle.trop_spelling.specs.declared.ring_kind.RingKind.{RingKind}
use Rattle.trop_spelling.specs.Spelling.{KindLaws, element_text}
use Rattle.trop_spelling.specs.Printed.{after_commas, comma_list, numbers, printed_row}
use Rattle.trop_files.specs.PrintedFiles.{generator_line}
use Rattle.tplib_laws.proofs.Splitting.{same_first, AreFrom, AreFrom-append, AreFrom-weaker, split}
use Rattle.tplib_laws.proofs.Elements.{element_injective, element_from, to_injective}

pub cons_equal : {A : Type 0} (a b : A) (x y : List A) → a ≡ b → x ≡ y → a ∷ x ≡ b ∷ y
cons_equal a b x y p q = λ i. p i ∷ q i

-- what is known of a row that is printed
pub record IsPrintable {V : Type 0} (R : Semiring V) (n : ℕ) (x : List V) : Type 0 where
  pub wide : length x ≡ n
  pub normal : IsNormal R x
  pub small : row_size R x < 2 ^ 63

module _ {V : Type 0} {R : Semiring V} {N : Numbering V} (laws : NumberLaws R N) (kind : RingKind) (reversed : Bool)
    (known : KindLaws kind R N reversed) where
  abbrev text : V → List ℕ
  text a = element_text kind (N.to a)

  abbrev behind : List V → List ℕ
  behind x = after_commas (map (element_text kind) (numbers N x))

  listed : (a b : V) (x y : List V) → length x ≡ length y → row_size R (a ∷ x) < 2 ^ 63 → row_size R (b ∷ y) < 2 ^ 63 →
      text a ++ behind x ≡ text b ++ behind y → a ∷ x ≡ b ∷ y
  listed a b [] [] l s t e = ap (λ v. v ∷ []) (element_injective laws kind reversed known a b (omega arith)
      (omega arith) (sym (append-nil (text a)) ∙ e ∙ append-nil (text b)))
  listed a b [] (d ∷ y) l s t e = absurd (omega arith)
  listed a b (c ∷ x) [] l s t e = absurd (omega arith)
  listed a b (c ∷ x) (d ∷ y) l s t e =
      let r = split 45 44 (text a) (text b) (32 ∷ (text c ++ behind x)) (32 ∷ (text d ++ behind y)) (omega arith)
      (element_from laws kind reversed known a (omega arith))
      (element_from laws kind reversed known b (omega arith)) e in
      cons_equal a b (c ∷ x) (d ∷ y) (element_injective laws kind reversed known a b (omega arith) (omega arith) r.0)
      (listed c d x y (omega arith) (omega arith) (omega arith) (ap (drop 1) r.1))

  entries_injective : (x y : List V) → length x ≡ length y → row_size R x < 2 ^ 63 → row_size R y < 2 ^ 63 →
      comma_list (map (element_text kind) (numbers N x)) ≡ comma_list (map (element_text kind) (numbers N y)) → x ≡ y
  entries_injective [] [] l s t e = refl
  entries_injective [] (b ∷ y) l s t e = absurd (omega arith)
  entries_injective (a ∷ x) [] l s t e = absurd (omega arith)
  entries_injective (a ∷ x) (b ∷ y) l s t e = listed a b x y (omega arith) s t e

  row_injective : (x y : List V) → length x ≡ length y → row_size R x < 2 ^ 63 → row_size R y < 2 ^ 63 →
      printed_row kind (numbers N x) ≡ printed_row kind (numbers N y) → x ≡ y
  row_injective x y l s t e =
      entries_injective x y l s t (append_cancel_right (comma_list (map (element_text kind) (numbers N x)))
      (comma_list (map (element_text kind) (numbers N y))) (codes "]") (ap (drop 1) e))

  -- each byte of a row is at least the space
  behind_from : (x : List V) → row_size R x < 2 ^ 63 → AreFrom 32 (behind x)
  behind_from [] s = tt
  behind_from (a ∷ x) s = (
    omega arith,
    (
      omega arith,
      AreFrom-append 32 (text a) (behind x) (AreFrom-weaker 45 32 (text a) (omega arith)
          (element_from laws kind reversed known a (omega arith))) (behind_from x (omega arith)),
    ),
  )

  entries_from : (x : List V) → row_size R x < 2 ^ 63 → AreFrom 32 (comma_list (map (element_text kind) (numbers N x)))
  entries_from [] s = tt
  entries_from (a ∷ x) s = AreFrom-append 32 (text a) (behind x)
      (AreFrom-weaker 45 32 (text a) (omega arith) (element_from laws kind reversed known a (omega arith)))
      (behind_from x (omega arith))

  row_from : (x : List V) → row_size R x < 2 ^ 63 → AreFrom 32 (printed_row kind (numbers N x))
  row_from x s = (
    omega arith,
    AreFrom-append 32 (comma_list (map (element_text kind) (numbers N x))) (codes "]")
        (entries_from x s) (omega arith, tt),
  )

  -- so is each byte of a line
  line_at : (o : Option ℤ) (x : List V) → row_size R x < 2 ^ 63 → AreFrom 32 (generator_line kind (o ∷ numbers N x))
  line_at None x s = AreFrom-append 32 (codes "ray ") (printed_row kind (numbers N x))
      (omega arith, (omega arith, (omega arith, (omega arith, tt)))) (row_from x s)
  line_at (Some n) x s = AreFrom-append 32 (codes "point ") (printed_row kind (numbers N x))
      (omega arith, (omega arith, (omega arith, (omega arith, (omega arith, (omega arith, tt)))))) (row_from x s)

  pub line_from : (x : List V) → row_size R x < 2 ^ 63 → AreFrom 32 (generator_line kind (numbers N x))
  line_from [] s = tt
  line_from (a ∷ x) s = line_at (N.to a) x (omega arith)

  -- a finite entry 0 of a row in normal form is the one
  first_one : (a : V) (x : List V) (n : ℤ) → IsNormal R (a ∷ x) → N.to a ≡ Some n → a ≡ R.one
  first_one a x n h e = at h.first h.is_one h.before
    where
      at : (f : ℕ) → entry R (a ∷ x) f ≡ R.one → ((i : ℕ) → i < f → entry R (a ∷ x) i ≡ R.zero) → a ≡ R.one
      at zero one before = one
      at (suc f) one before = let p : None ≡ Some n = sym ((laws.none a).1 (before 0 (omega arith))) ∙ e in absurd cc

  -- no ray has the line of a point
  ray_or_point : (x y : List (Option ℤ)) → codes "ray " ++ printed_row kind x ≡ codes "point " ++ printed_row kind y → ⊥
  ray_or_point x y e = let p = same_first 114 112 (codes "ay " ++ printed_row kind x)
      (codes "oint " ++ printed_row kind y) e in absurd (omega (arith, p))

  heads : (a b : V) (x y : List V) (o p : Option ℤ) → N.to a ≡ o → N.to b ≡ p → IsNormal R (a ∷ x) →
      IsNormal R (b ∷ y) → length x ≡ length y → row_size R x < 2 ^ 63 → row_size R y < 2 ^ 63
      → generator_line kind (o ∷ numbers N x) ≡ generator_line kind (p ∷ numbers N y) → a ∷ x ≡ b ∷ y
  heads a b x y None None ea eb na nb l s t e = cons_equal a b x y
      (to_injective laws kind reversed known a b None ea eb) (row_injective x y l s t (ap (drop 4) e))
  heads a b x y None (Some n) ea eb na nb l s t e = absurd (ray_or_point (numbers N x) (numbers N y) e)
  heads a b x y (Some m) None ea eb na nb l s t e = absurd (ray_or_point (numbers N y) (numbers N x) (sym e))
  heads a b x y (Some m) (Some n) ea eb na nb l s t e =
      cons_equal a b x y (first_one a x m na ea ∙ sym (first_one b y n nb eb)) (row_injective x y l s t (ap (drop 6) e))

  pub line_injective : (n : ℕ) (x y : List V) → IsPrintable R n x → IsPrintable R n y →
      generator_line kind (numbers N x) ≡ generator_line kind (numbers N y) → x ≡ y
  line_injective n [] [] h k e = refl
  line_injective n [] (b ∷ y) h k e = absurd (omega (arith, h.wide, k.wide))
  line_injective n (a ∷ x) [] h k e = absurd (omega (arith, h.wide, k.wide))
  line_injective n (a ∷ x) (b ∷ y) h k e =
      heads a b x y (N.to a) (N.to b) refl refl h.normal k.normal (omega (arith, h.wide, k.wide))
      (omega (arith, h.small)) (omega (arith, k.small)) e
