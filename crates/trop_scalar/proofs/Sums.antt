-- Sums of products in parts of eight, and one by one.
use Rattle.std.proofs.Common.{◌≡◌, ◌≤◌, ◌<◌, ◌+◌, ℕ, zero, suc, Option, List, [], ◌∷◌, ◌++◌, map, length, take, drop, get_or, sym, ap, ap₂, ◌∙◌, refl, arith, w64}
use Rattle.std.specs.Prelude.{ℤ}
use Rattle.std.specs.Simd.Lanes.{chunk}
use Rattle.std.proofs.lemmas.Int.{to_z-of_z}
use Rattle.std.proofs.lemmas.List.{drop_more, drop_all, get_or-map}
use Rattle.std.proofs.lemmas.Simd.{chunk-drop, length-chunk}
use mir.Val.{to_z, of_z}
use Rattle.plain_lemmas.proofs.Operations.{swap_middle}
use Rattle.trop_theory.specs.Semiring.{Semiring, SemiringLaws}
use Rattle.trop_theory.specs.Sizes.{most_element}
use Rattle.trop_theory.specs.Vectors.{dot, joined, row_size}
use Rattle.trop_theory.specs.MaxPlus.{max_plus, sum_of, max_ring, magnitude}
use Rattle.trop_theory.proofs.MaxPlusLaws.{max_laws}
use Rattle.trop_theory.proofs.Mixed.{row_size-joined}
use Rattle.trop_theory.proofs.Order.{plus_zero}
use Rattle.trop_scalar.specs.Sums.{total, products}
use Rattle.trop_scalar.specs.Words.{word_value}
use Rattle.trop_scalar.proofs.Words.{fits_word}

module _ {V : Type 0} {R : Semiring V} (laws : SemiringLaws R) where
  -- a sum of products is the total of the products, and may be cut anywhere
  total-products : (x y : List V) → total R (products R x y) ≡ dot R x y
  total-products [] y = refl
  total-products (a ∷ x) [] = refl
  total-products (a ∷ x) (b ∷ y) = ap (R.plus (R.times a b)) (total-products x y)

  total-joined : (x y : List V) → length x ≡ length y → total R (joined R x y) ≡ R.plus (total R x) (total R y)
  total-joined [] [] e = sym (laws.zero_neutral R.zero)
  total-joined [] (b ∷ y) e = absurd (omega arith)
  total-joined (a ∷ x) [] e = absurd (omega arith)
  total-joined (a ∷ x) (b ∷ y) e =
      ap (R.plus (R.plus a b)) (total-joined x y (omega arith))
      ∙ swap_middle R.plus laws.plus_assoc laws.plus_comm a b (total R x) (total R y)

  dot-append : (p x q y : List V) → length p ≡ length q → dot R (p ++ x) (q ++ y) ≡ R.plus (dot R p q) (dot R x y)
  dot-append [] x [] y e = sym (laws.zero_neutral (dot R x y))
  dot-append [] x (b ∷ q) y e = absurd (omega arith)
  dot-append (a ∷ p) x [] y e = absurd (omega arith)
  dot-append (a ∷ p) x (b ∷ q) y e =
      ap (R.plus (R.times a b)) (dot-append p x q y (omega arith))
      ∙ sym (laws.plus_assoc (R.times a b) (dot R p q) (dot R x y))

  dot-chunk : (i n : ℕ) (x y : List V) → i + n ≤ length x → length x ≡ length y →
      dot R (drop i x) (drop i y) ≡ R.plus (dot R (chunk i n x) (chunk i n y)) (dot R (drop (i + n) x) (drop (i + n) y))
  dot-chunk i n x y l e =
      ap₂ (dot R) (chunk-drop i n x) (chunk-drop i n y)
      ∙ dot-append (chunk i n x) (drop (i + n) x) (chunk i n y) (drop (i + n) y)
      (length-chunk i n x l ∙ sym (length-chunk i n y (omega arith)))

  row_size-products : (x y : List V) → row_size R (products R x y) ≤ row_size R x + row_size R y
  row_size-products [] y = omega arith
  row_size-products (a ∷ x) [] = omega arith
  row_size-products (a ∷ x) (b ∷ y) = omega (arith, laws.size_times a b, row_size-products x y)

module _ {V : Type 0} (R : Semiring V) where
  length-products : (x y : List V) → length x ≡ length y → length (products R x y) ≡ length x
  length-products [] y e = refl
  length-products (a ∷ x) [] e = absurd (omega arith)
  length-products (a ∷ x) (b ∷ y) e = ap suc (length-products x y (omega arith))

  row_size-drop : (i : ℕ) (x : List V) → row_size R (drop i x) ≤ row_size R x
  row_size-drop zero x = omega arith
  row_size-drop (suc i) [] = omega arith
  row_size-drop (suc i) (a ∷ x) = omega (arith, row_size-drop i x)

  row_size-take : (n : ℕ) (x : List V) → row_size R (take n x) ≤ row_size R x
  row_size-take zero x = omega arith
  row_size-take (suc n) [] = omega arith
  row_size-take (suc n) (a ∷ x) = omega (arith, row_size-take n x)

pub length-map : {A B : Type 0} (f : A → B) (x : List A) → length (map f x) ≡ length x
length-map f [] = refl
length-map f (a ∷ x) = ap suc (length-map f x)

-- what a sum by lanes keeps before entry i: the sum of the lanes and of the products from there on is that of all
pub record AreSummed (u v : List (Option ℤ)) (i : ℕ) (best : List ℤ) : Type 0 where
  pub long : length best ≡ 8
  pub size : row_size max_ring (map word_value best) ≤ most_element
  pub sum : max_plus (total max_ring (map word_value best)) (dot max_ring (drop i u) (drop i v)) ≡ dot max_ring u v

pub sizes_of_parts : (i n : ℕ) (u v p q : List (Option ℤ)) → p ≡ chunk i n u → q ≡ chunk i n v →
    row_size max_ring u + row_size max_ring v ≤ most_element → row_size max_ring p + row_size max_ring q ≤ most_element
sizes_of_parts i n u v p q a b h =
    omega (
      arith,
      ap (row_size max_ring) a,
      ap (row_size max_ring) b,
      row_size-take max_ring n (drop i u),
      row_size-drop max_ring i u,
      row_size-take max_ring n (drop i v),
      row_size-drop max_ring i v,
    )

pub raised_more : (u v : List (Option ℤ)) (i : ℕ) (best next : List ℤ) (p q : List (Option ℤ)) → i + 8 ≤ length u →
    length u ≡ length v → row_size max_ring u + row_size max_ring v ≤ most_element → length next ≡ 8 →
    p ≡ chunk i 8 u → q ≡ chunk i 8 v →
    map word_value next ≡ joined max_ring (map word_value best) (products max_ring p q) →
    AreSummed u v i best → AreSummed u v (i + 8) next
raised_more u v i best next p q l e h n a b raised k = record {
  long = n;
  size = omega (
    arith,
    ap (row_size max_ring) raised,
    row_size-joined max_laws (map word_value best) (products max_ring p q),
    row_size-products max_laws p q,
    sizes_of_parts i 8 u v p q a b h,
    k.size,
  );
  sum =
      ap (λ z. max_plus z rest) (ap (total max_ring) raised
      ∙ total-joined max_laws (map word_value best) (products max_ring p q) lengths
      ∙ ap (max_plus (total max_ring (map word_value best))) part)
      ∙ max_laws.plus_assoc (total max_ring (map word_value best)) (dot max_ring (chunk i 8 u) (chunk i 8 v)) rest
      ∙ ap (max_plus (total max_ring (map word_value best))) (sym (dot-chunk max_laws i 8 u v l e))
      ∙ k.sum;
}
  where
    rest : Option ℤ
    rest = dot max_ring (drop (i + 8) u) (drop (i + 8) v)

    part : total max_ring (products max_ring p q) ≡ dot max_ring (chunk i 8 u) (chunk i 8 v)
    part = total-products max_laws p q ∙ ap₂ (dot max_ring) a b

    width : (z w : List (Option ℤ)) → w ≡ chunk i 8 z → i + 8 ≤ length z → length w ≡ 8
    width z w c d = ap length c ∙ length-chunk i 8 z d

    lengths : length (map word_value best) ≡ length (products max_ring p q)
    lengths = length-map word_value best ∙ k.long
        ∙ sym (length-products max_ring p q (width u p a l ∙ sym (width v q b (omega arith))) ∙ width u p a l)

-- what a sum one by one keeps: the sum so far and that of the rest are that of all
pub record IsSumBefore (all rest : Option ℤ) (sum : ℤ) : Type 0 where
  pub is : max_plus (word_value sum) rest ≡ all
  pub size : magnitude (word_value sum) ≤ most_element

pub sum_more : (all part rest before : Option ℤ) (sum next : ℤ) → before ≡ max_plus part rest →
    word_value next ≡ max_plus (word_value sum) part → magnitude (word_value next) ≤ most_element →
    IsSumBefore all before sum → IsSumBefore all rest next
sum_more all part rest before sum next e n h k = record {
  is = ap (λ z. max_plus z rest) n ∙ max_laws.plus_assoc (word_value sum) part rest
      ∙ ap (max_plus (word_value sum)) (sym e) ∙ k.is;
  size = h;
}

pub sum_all : (all rest : Option ℤ) (sum : ℤ) → rest ≡ max_ring.zero → IsSumBefore all rest sum → word_value sum ≡ all
sum_all all rest sum e k = sym (plus_zero max_laws (word_value sum)) ∙ ap (max_plus (word_value sum)) (sym e) ∙ k.is

-- the values of entries from i on
pub drop_values : {A B : Type 0} (f : A → B) (xs : List A) (i : ℕ) (d : A) → i < length xs →
    drop i (map f xs) ≡ f (get_or xs i d) ∷ drop (i + 1) (map f xs)
drop_values f xs i d l =
    drop_more (map f xs) i (f d) (omega (arith, length-map f xs))
    ∙ ap (λ z. z ∷ drop (i + 1) (map f xs)) (get_or-map f xs i d (f d) l)

pub values_at : {A B : Type 0} (f : A → B) (xs : List A) (i j n : ℕ) (a : A) (v : B) (rest : List B) → i < length xs →
    j ≡ i + 1 → a ≡ get_or xs i a → v ≡ f a → rest ≡ chunk j n (map f xs) → v ∷ rest ≡ chunk i (suc n) (map f xs)
values_at f xs i j n a v rest l next is e more =
    ap₂ ◌∷◌ (e ∙ ap f is) (more ∙ ap (λ k. chunk k n (map f xs)) next)
    ∙ sym (ap (take (suc n)) (drop_values f xs i a l))

pub total_at : {A : Type 0} (f : A → Option ℤ) (xs : List A) (i : ℕ) (d : A) → i < length xs →
    total max_ring (drop i (map f xs)) ≡ max_plus (f (get_or xs i d)) (total max_ring (drop (i + 1) (map f xs)))
total_at f xs i d l = ap (total max_ring) (drop_values f xs i d l)

pub dot_at : {A : Type 0} (f : A → Option ℤ) (xs ys : List A) (i : ℕ) (a b : A) → i < length xs → i < length ys →
    a ≡ get_or xs i a → b ≡ get_or ys i b →
    dot max_ring (drop i (map f xs)) (drop i (map f ys)) ≡
    max_plus (sum_of (f a) (f b)) (dot max_ring (drop (i + 1) (map f xs)) (drop (i + 1) (map f ys)))
dot_at f xs ys i a b l m is are =
    ap₂ (dot max_ring) (drop_values f xs i a l) (drop_values f ys i b m)
    ∙ ap₂ (λ p q. max_plus (sum_of (f p) (f q)) (dot max_ring (drop (i + 1) (map f xs)) (drop (i + 1) (map f ys))))
    (sym is) (sym are)

pub dot_after : (u v : List (Option ℤ)) (i : ℕ) → length u ≤ i → dot max_ring (drop i u) (drop i v) ≡ max_ring.zero
dot_after u v i l = ap (λ z. dot max_ring z (drop i v)) (drop_all i u l)

pub total_after : (u : List (Option ℤ)) (i : ℕ) → length u ≤ i → total max_ring (drop i u) ≡ max_ring.zero
total_after u i l = ap (total max_ring) (drop_all i u l)

-- the size of one of the words
pub size_at : {A : Type 0} (f : A → Option ℤ) (xs : List A) (i : ℕ) (d : A) → i < length xs →
    magnitude (f (get_or xs i d)) ≤ row_size max_ring (map f xs)
size_at f [] i d l = absurd (omega arith)
size_at f (a ∷ xs) zero d l = omega arith
size_at f (a ∷ xs) (suc i) d l = omega (arith, size_at f xs i d (omega arith))

pub sizes_at : {A : Type 0} (f : A → Option ℤ) (xs ys : List A) (i : ℕ) (a b : A) → i < length xs → i < length ys →
    a ≡ get_or xs i a → b ≡ get_or ys i b → row_size max_ring (map f xs) + row_size max_ring (map f ys) ≤ most_element →
    magnitude (f a) + magnitude (f b) ≤ most_element
sizes_at f xs ys i a b l m is are h =
    omega (arith, ap (λ z. magnitude (f z)) is, ap (λ z. magnitude (f z)) are, size_at f xs i a l, size_at f ys i b m)

-- words that are held are those of their bits
pub words_back : (words : List ℤ) → row_size max_ring (map word_value words) ≤ most_element →
    map (to_z w64) (map (of_z w64) words) ≡ words
words_back [] h = refl
words_back (w ∷ words) h = ap₂ ◌∷◌ (to_z-of_z w64 w (fits_word w (omega arith))) (words_back words (omega arith))

-- words that are written and read, of the values that are wanted
pub read_at : (i n : ℕ) (u : List (Option ℤ)) (words : List ℤ) → map word_value words ≡ chunk i n u →
    row_size max_ring u ≤ most_element → map word_value (map (to_z w64) (map (of_z w64) words)) ≡ chunk i n u
read_at i n u words e h =
    ap (map word_value) (words_back words (omega (
      arith,
      ap (row_size max_ring) e,
      row_size-take max_ring n (drop i u),
      row_size-drop max_ring i u,
      h,
    ))) ∙ e
