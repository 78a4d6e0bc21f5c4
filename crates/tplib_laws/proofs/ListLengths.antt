-- An external list that a file of inequalities may hold has a text that an input may have: external_short. The left
-- side of each of its inequalities has one term at most.
use Rattle.std.proofs.Common.{◌≡◌, ◌≤◌, ◌+◌, ◌*◌, ℕ, zero, suc, Bool, List, [], ◌∷◌, ◌++◌, length, get_or, replicate, set, Option, Some, None, codes, refl, sym, ap, subst, arith, length-append}
use Rattle.std.specs.Prelude.{ℤ, pos, negsuc, nat_abs, All}
use Rattle.std.proofs.lemmas.List.{length-map}
use Rattle.std.proofs.lemmas.List.Elements.{All-nil, All-cons, All-head, All-tail, All-append, All-map}
use Rattle.trop_theory.specs.Semiring.{Semiring, SemiringLaws}
use Rattle.trop_theory.specs.Numbers.{Numbering, NumberLaws}
use Rattle.trop_theory.specs.Inequalities.{Inequality, IsIn, inequality_size, system_size}
use Rattle.trop_duality.specs.External.{bound_of, AreBounds, IsExternalUpTo, IsExternal}
use Rattle.trop_duality.proofs.Bipolar.{IsIn-external}
use Rattle.trop_text.specs.Name.{longest_name}
use Rattle.trop_text.specs.Names.{AreNames}
use Rattle.trop_spelling.specs.declared.ring_kind.RingKind.{RingKind}
use Rattle.trop_spelling.specs.declared.ring_kind.RingKind.TheVariants.{Max as MaxKind, Min as MinKind, Bool as BoolKind}
use Rattle.trop_spelling.specs.Spelling.{KindLaws, sum_word, order_word, element_text}
use Rattle.trop_spelling.specs.Printed.{comma_list, numbers, shift_text, term_text, terms_from, sum_text, printed_side, printed_inequality}
use Rattle.trop_spelling.proofs.WrittenElements.{AreWithin}
use Rattle.trop_spelling.proofs.KindLaws.{within}
use Rattle.trop_files.specs.Generators.{greatest_number}
use Rattle.trop_files.specs.InequalityFiles.{most_inequalities}
use Rattle.trop_files.specs.PrintedFiles.{printed_header, lines_of, printed_ineqs}
use Rattle.tplib_cmd.specs.Streams.{longest_input}
use Rattle.tplib_laws.proofs.TextLengths.{number_short, element_short, AreShort, comma_short, lines_short, AreShortNames, names_short, header_short}

-- ---- terms and sides

shift_short : (n : ℤ) → nat_abs n ≤ greatest_number → length (shift_text n) ≤ 16
shift_short (pos zero) small = omega arith
shift_short (pos (suc n)) small = omega (arith, number_short (suc n) small)
shift_short (negsuc n) small = omega (arith, number_short (suc n) small)

name_at : (names : List (List ℕ)) (k : ℕ) → AreShortNames names → length (get_or names k []) ≤ 32
name_at [] k h = omega arith
name_at (name ∷ names) zero h = All-head (λ name. length name ≤ longest_name) name names h
name_at (name ∷ names) (suc k) h = name_at names k (All-tail (λ name. length name ≤ longest_name) name names h)

module _ (kind : RingKind) (names : List (List ℕ)) (short : AreShortNames names) where
  term_short : (k : ℕ) (n : ℤ) → nat_abs n ≤ greatest_number → length (term_text kind names k n) ≤ 48
  term_short zero n small = omega (arith, element_short kind (Some n) small)
  term_short (suc k) n small = omega (
    arith,
    name_at names k short,
    shift_short n small,
    length-append (get_or names k []) (shift_text n),
  )

  terms_short : (k : ℕ) (side : List (Option ℤ)) → AreWithin greatest_number side →
      AreShort 48 (terms_from kind names k side)
  terms_short k [] small = tt
  terms_short k (None ∷ side) small = terms_short (k + 1) side small.1
  terms_short k (Some n ∷ side) small = (term_short k n small.0, terms_short (k + 1) side small.1)

  terms_few : (k : ℕ) (side : List (Option ℤ)) → length (terms_from kind names k side) ≤ length side
  terms_few k [] = omega arith
  terms_few k (None ∷ side) = omega (arith, terms_few (k + 1) side)
  terms_few k (Some n ∷ side) = omega (arith, terms_few (k + 1) side)

  sum_word_short : length (sum_word kind) ≤ 3
  sum_word_short = at kind
    where
      at : (kind : RingKind) → length (sum_word kind) ≤ 3
      at MaxKind = omega arith
      at MinKind = omega arith
      at BoolKind = omega arith

  order_word_short : length (order_word kind) ≤ 2
  order_word_short = at kind
    where
      at : (kind : RingKind) → length (order_word kind) ≤ 2
      at MaxKind = omega arith
      at MinKind = omega arith
      at BoolKind = omega arith

  zero_short : length (element_text kind None) ≤ 5
  zero_short = at kind
    where
      at : (kind : RingKind) → length (element_text kind None) ≤ 5
      at MaxKind = omega arith
      at MinKind = omega arith
      at BoolKind = omega arith

  sum_short : (ts : List (List ℕ)) → AreShort 48 ts → length (sum_text kind ts) ≤ 50 * length ts + 5
  sum_short [] h = omega (arith, zero_short)
  sum_short (t ∷ []) h = omega (arith, h.0)
  sum_short (t ∷ u ∷ ts) h =
      let terms = comma_list (t ∷ u ∷ ts) in
      omega (
        arith,
        sum_word_short,
        comma_short 48 (t ∷ u ∷ ts) h,
        length-append (sum_word kind) (codes "(" ++ (terms ++ codes ")")),
        length-append terms (codes ")"),
      )

  side_short : (m : ℕ) (side : List (Option ℤ)) → AreWithin greatest_number side →
      length (terms_from kind names 0 side) ≤ m → length (printed_side kind names side) ≤ 50 * m + 5
  side_short m side small few = omega (arith, sum_short (terms_from kind names 0 side) (terms_short 0 side small))

-- ---- inequalities of an external list

module _ {V : Type 0} {R : Semiring V} {N : Numbering V} (laws : SemiringLaws R) (numbers_are : NumberLaws R N)
    (kind : RingKind) (reversed : Bool) (known : KindLaws kind R N reversed) (names : List (List ℕ))
    (are : AreNames names) (few_names : length names ≤ 63) where
  zero_is : N.to R.zero ≡ None
  zero_is = (numbers_are.none R.zero).1 refl

  abbrev terms : ℕ → List V → List (List ℕ)
  terms k side = terms_from kind names k (numbers N side)

  no_terms : (k m : ℕ) → terms k (replicate m R.zero) ≡ []
  no_terms k zero = refl
  no_terms k (suc m) = subst (λ o. terms_from kind names k (o ∷ numbers N (replicate m R.zero)) ≡ []) (sym zero_is)
      (no_terms (k + 1) m)

  first_term : (k m : ℕ) (o : Option ℤ) → length (terms_from kind names k (o ∷ numbers N (replicate m R.zero))) ≤ 1
  first_term k m None = omega (arith, ap length (no_terms (k + 1) m))
  first_term k m (Some n) = omega (arith, ap length (no_terms (k + 1) m))

  one_term : (k m i : ℕ) (a : V) → length (terms k (set (replicate m R.zero) i a)) ≤ 1
  one_term k zero i a = omega arith
  one_term k (suc m) zero a = first_term k m (N.to a)
  one_term k (suc m) (suc i) a = subst (λ o. length (terms_from kind names k
      (o ∷ numbers N (set (replicate m R.zero) i a))) ≤ 1) (sym zero_is) (one_term (k + 1) m i a)

  abbrev HasOneTerm : Inequality V → Type 0
  HasOneTerm p = length (terms 0 p.left) ≤ 1

  bounds_one : (n : ℕ) (cone : List V → Type 0) (i : ℕ) (bounds : List (Inequality V)) →
      AreBounds R n cone i bounds → All HasOneTerm bounds
  bounds_one n cone i bounds h = subst (All HasOneTerm) (sym h.read)
      (All-map HasOneTerm (bound_of R i) h.finite (λ k d l. one_term 0 _ i _))

  external_one : (n : ℕ) (cone : List V → Type 0) (m : ℕ) (system : List (Inequality V)) →
      IsExternalUpTo R n cone m system → All HasOneTerm system
  external_one n cone zero system h = subst (All HasOneTerm) (sym h) (All-nil HasOneTerm)
  external_one n cone (suc m) system h = subst (All HasOneTerm) (sym h.2)
      (All-append HasOneTerm h.0 h.1 (external_one n cone m h.0 h.3) (bounds_one n cone m h.1 h.4))

  abbrev IsShort : Inequality V → Type 0
  IsShort p = length (printed_inequality kind N names p) ≤ 3264

  inequality_short : (p : Inequality V) → HasOneTerm p → IsIn (length names + 1) p →
      inequality_size R p ≤ greatest_number → IsShort p
  inequality_short p one wide small =
      let short = names_short names are in
      let left = printed_side kind names (numbers N p.left) in
      let right = printed_side kind names (numbers N p.right) in
      let most : length (terms 0 p.right) ≤ 64 = omega (
        arith,
        terms_few kind names short 0 (numbers N p.right),
        length-map p.right N.to,
        wide.right,
      ) in
      omega (
        arith,
        side_short kind names short 1 (numbers N p.left)
            (within kind reversed R N numbers_are known greatest_number p.left (omega arith)) one,
        side_short kind names short 64 (numbers N p.right)
            (within kind reversed R N numbers_are known greatest_number p.right (omega arith)) most,
        order_word_short kind names short,
        length-append left (codes " " ++ (order_word kind ++ (codes " " ++ right))),
        length-append (order_word kind) (codes " " ++ right),
      )

  all_short : (system : List (Inequality V)) → All HasOneTerm system → All (IsIn (length names + 1)) system →
      system_size R system ≤ greatest_number → All IsShort system
  all_short [] one wide small = All-nil IsShort
  all_short (p ∷ system) one wide small =
      All-cons IsShort p system
      (inequality_short p (All-head HasOneTerm p system one) (All-head (IsIn (length names + 1)) p system wide)
      (omega arith))
      (all_short system (All-tail HasOneTerm p system one) (All-tail (IsIn (length names + 1)) p system wide)
      (omega arith))

  pub external_short : (cone : List V → Type 0) → ((x : List V) → cone x → length x ≡ length names + 1) →
      (system : List (Inequality V)) → IsExternal R (length names + 1) cone system →
      length system ≤ most_inequalities → system_size R system ≤ greatest_number →
      length (printed_ineqs kind N names system) ≤ longest_input
  external_short cone lengths system external few small =
      let n = length names + 1 in
      let header = printed_header (codes "ineqs") kind names in
      let line = printed_inequality kind N names in
      let each = all_short system (external_one n cone n system external)
      (IsIn-external laws n cone lengths system external) small in
      omega (
        arith,
        length-append header (lines_of line system),
        header_short (codes "ineqs") kind names (omega arith) (names_short names are) few_names,
        lines_short line 3264 system each,
      )
