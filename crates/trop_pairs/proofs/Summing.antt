-- The sum of the products of the terms, one after another, with the coordinates that reach it.
use Rattle.std.proofs.Common.{◌≡◌, ◌≢◌, ◌⊎◌, ◌<◌, ◌≤◌, ◌+◌, ℕ, suc, List, [], ◌∷◌, ◌++◌, length, take, get_or, inl, inr, ⊎_elim, refl, sym, ap, ◌∙◌, subst, arith}
use Rattle.std.specs.Prelude.{◌↔◌, All, Any}
use Rattle.std.proofs.lemmas.List.{length-append, get_or_append_left, take_more, take_all}
use Rattle.std.proofs.lemmas.List.Elements.{All-nil, All-push, All-weaker}
use Rattle.std.proofs.lemmas.List.Quantifiers.{Any-push}
use Rattle.trop_theory.specs.Sizes.{most_element}
use Rattle.trop_theory.specs.Semiring.{Semiring, SemiringLaws, Le}
use Rattle.trop_theory.specs.Vectors.{entry, dot, row_size}
use Rattle.trop_theory.proofs.Order.{le_trans, le_antisym, le-plus_left, le-plus_right, plus-least, zero_below, times_zero}
use Rattle.trop_theory.proofs.Sizes.{size-entry, entry_read}
use Rattle.trop_criterion.specs.Hypergraphs.{Has}
use Rattle.trop_criterion.specs.Tangents.{Attains}
use Rattle.trop_pruning.proofs.Sums.{term_le}
use Rattle.trop_pairs.specs.declared.terms.Term.{Term}
use Rattle.trop_pairs.specs.declared.reading.Sum.{Sum}
use Rattle.trop_pairs.specs.Sums.{IsTerm, AreTerms, Fits, IsSum}

pub Any-longer : {X : Type 0} (P Q : X → Type 0) (xs : List X) (y : X) → ((x : X) → P x → Q x) → Any P xs →
    Any Q (xs ++ y ∷ [])
Any-longer P Q xs y f h = (
  h.0,
  h.1,
  omega (arith, h.2, length-append xs (y ∷ [])),
  get_or_append_left xs (y ∷ []) h.1 h.0 h.2 ∙ h.3,
  f h.1 h.4,
)

All-at : {X : Type 0} (P : X → Type 0) (xs : List X) → All P xs → (Q : X → Type 0) → Any Q xs →
    (x : X) × P x × Q x
All-at P xs all Q h = (h.1, subst P h.3 (all h.0 h.1 h.2), h.4)

module _ {V : Type 0} (R : Semiring V) (x : List V) where
  -- the product of the term at the row
  abbrev pub product : Term V → V
  product term = R.times term.coefficient (entry R x term.place)

  -- the sum of the products of these terms
  pub record IsSumOf (terms : List (Term V)) (sum : Sum V) : Type 0 where
    pub most : All (λ term. Le R (product term) sum.value) terms
    pub one : (sum.value ≡ R.zero) ⊎ Any (λ term. product term ≡ sum.value) terms
    pub from : (j : ℕ) → Has sum.reached j → Any (λ term. (term.place ≡ j) × (product term ≡ sum.value)) terms
    pub all : All (λ term. product term ≡ sum.value → Has sum.reached term.place) terms

  -- what one more product makes of a sum
  pub record IsNextSum (old : Sum V) (one : V) (place : ℕ) (new : Sum V) : Type 0 where
    pub value : new.value ≡ R.plus old.value one
    pub reached : (j : ℕ) → Has new.reached j ↔ (((one ≡ new.value) × (j ≡ place)) ⊎
        ((old.value ≡ new.value) × Has old.reached j))

  pub fits_read : (terms : List (Term V)) (i : ℕ) (term : Term V) → i < length terms → term ≡ get_or terms i term →
      All (Fits R x) terms → Fits R x term
  fits_read terms i term lt read fits = subst (Fits R x) (sym read) (fits i term lt)

  pub size_fits : (terms : List (Term V)) (i : ℕ) (term : Term V) (a : V) → i < length terms →
      term ≡ get_or terms i term → All (Fits R x) terms → a ≡ get_or x term.place a →
      R.size term.coefficient + R.size a ≤ most_element
  size_fits terms i term a lt read fits at =
      let fit = fits_read terms i term lt read fits in
      omega (arith, fit.size, ap R.size at, size-entry R x term.place a fit.within)

module _ {V : Type 0} {R : Semiring V} (laws : SemiringLaws R) (x : List V) where
  pub sum_first : (sum : Sum V) → sum.value ≡ R.zero → ((j : ℕ) → Has sum.reached j → ⊥) → IsSumOf R x [] sum
  sum_first sum e none = record {
    most = All-nil (λ term. Le R (product R x term) sum.value);
    one = inl e;
    from = λ j h. absurd (none j h);
    all = All-nil (λ term. product R x term ≡ sum.value → Has sum.reached term.place);
  }

  module _ (done : List (Term V)) (term : Term V) (old new : Sum V) (h : IsSumOf R x done old)
      (n : IsNextSum R x old (product R x term) term.place new) where
    grows : Le R old.value new.value
    grows = subst (Le R old.value) (sym n.value) (le-plus_left laws old.value (product R x term))

    same : (t : Term V) → Le R (product R x t) old.value → product R x t ≡ new.value → old.value ≡ new.value
    same t le e = le_antisym laws old.value new.value grows (subst (λ v. Le R v old.value) e le)

    pub sum_more : IsSumOf R x (done ++ term ∷ []) new
    sum_more = record {
      most = All-push (λ t. Le R (product R x t) new.value) done term
          (All-weaker (λ t. Le R (product R x t) old.value) (λ t. Le R (product R x t) new.value)
          (λ t le. le_trans laws _ _ _ le grows) done h.most)
          (subst (Le R (product R x term)) (sym n.value) (le-plus_right laws old.value (product R x term)));
      one = ⊎_elim
          (λ e. ⊎_elim
          (λ z. inl (n.value ∙ e ∙ z))
          (λ a. inr (Any-longer (λ t. product R x t ≡ old.value) (λ t. product R x t ≡ new.value) done term
          (λ t q. q ∙ sym (n.value ∙ e)) a))
          h.one)
          (λ e. inr (Any-push (λ t. product R x t ≡ new.value) done term (sym (n.value ∙ e))))
          (laws.selective old.value (product R x term));
      from = λ j here. ⊎_elim
          (λ q. Any-push (λ t. (t.place ≡ j) × (product R x t ≡ new.value)) done term (sym q.1, q.0))
          (λ q. Any-longer (λ t. (t.place ≡ j) × (product R x t ≡ old.value))
          (λ t. (t.place ≡ j) × (product R x t ≡ new.value)) done term (λ t r. (r.0, r.1 ∙ q.0)) (h.from j q.1))
          ((n.reached j).0 here);
      all = All-push (λ t. product R x t ≡ new.value → Has new.reached t.place) done term
          (λ k d l e.
          let s = same (get_or done k d) (h.most k d l) e in
          (n.reached (get_or done k d).place).1 (inr (s, h.all k d l (e ∙ sym s))))
          (λ e. (n.reached term.place).1 (inl (e, refl)));
    }

  -- the next term of the list, as it was read
  pub sum_next : (terms : List (Term V)) (i : ℕ) (term : Term V) (a p : V) (old new : Sum V) → i < length terms →
      term ≡ get_or terms i term → All (Fits R x) terms → a ≡ get_or x term.place a → p ≡ R.times term.coefficient a →
      IsSumOf R x (take i terms) old → new.value ≡ R.plus old.value p →
      ((j : ℕ) → Has new.reached j ↔ (((p ≡ new.value) × (j ≡ term.place)) ⊎
      ((old.value ≡ new.value) × Has old.reached j))) → IsSumOf R x (take (i + 1) terms) new
  sum_next terms i term a p old new lt read fits at e h value reached =
      let within = (fits_read R x terms i term lt read fits).within in
      let is : p ≡ product R x term = e ∙ ap (R.times term.coefficient) (sym (entry_read R x term.place a at within)) in
      subst (λ ts. IsSumOf R x ts new)
      (sym (take_more terms i term lt ∙ ap (λ t. take i terms ++ t ∷ []) (sym read)))
      (sum_more (take i terms) term old new h (record {
        value = value ∙ ap (R.plus old.value) is;
        reached = subst (λ q. (j : ℕ) → Has new.reached j ↔ (((q ≡ new.value) × (j ≡ term.place)) ⊎
            ((old.value ≡ new.value) × Has old.reached j))) is reached;
      }))

  sum_least : (c y : List V) (m : V) → ((i : ℕ) → Le R (R.times (entry R c i) (entry R y i)) m) → Le R (dot R c y) m
  sum_least [] y m h = zero_below laws m
  sum_least (a ∷ c) [] m h = zero_below laws m
  sum_least (a ∷ c) (b ∷ y) m h = plus-least laws _ _ _ (h 0) (sum_least c y m (λ i. h (suc i)))

  zero_times : (b : V) → R.times R.zero b ≡ R.zero
  zero_times b = laws.times_comm R.zero b ∙ times_zero laws b

  module _ (side : List V) (terms : List (Term V)) (are : AreTerms R side terms) (wide : length side ≡ length x)
      (sum : Sum V) (h : IsSumOf R x terms sum) where
    -- the product of a term is that of the entries
    own : (t : Term V) → IsTerm R side t → R.times (entry R side t.place) (entry R x t.place) ≡ product R x t
    own t is = ap (λ c. R.times c (entry R x t.place)) (sym is.read)

    least : (i : ℕ) → Le R (R.times (entry R side i) (entry R x i)) sum.value
    least i = ⊎_elim
        (λ z. subst (λ v. Le R v sum.value) (sym (ap (λ c. R.times c (entry R x i)) z ∙ zero_times (entry R x i)))
        (zero_below laws sum.value))
        (λ a.
        let r = All-at (λ t. IsTerm R side t × Le R (product R x t) sum.value) terms
        (λ k d l. (are.each k d l, h.most k d l)) (λ t. t.place ≡ i) a in
        subst (λ k. Le R (R.times (entry R side k) (entry R x k)) sum.value) r.2
        (subst (λ v. Le R v sum.value) (sym (own r.0 r.1.0)) r.1.1))
        (are.all i)

    below : Le R sum.value (dot R side x)
    below = ⊎_elim
        (λ z. subst (λ v. Le R v (dot R side x)) (sym z) (zero_below laws (dot R side x)))
        (λ a.
        let r = All-at (IsTerm R side) terms are.each (λ t. product R x t ≡ sum.value) a in
        subst (λ v. Le R v (dot R side x)) (own r.0 r.1 ∙ r.2) (term_le laws side x wide r.0.place))
        h.one

    whole : sum.value ≡ dot R side x
    whole = le_antisym laws _ _ below (sum_least side x sum.value least)

    reaches : (j : ℕ) → Has sum.reached j → Attains R side x j
    reaches j here =
        let r = All-at (IsTerm R side) terms are.each (λ t. (t.place ≡ j) × (product R x t ≡ sum.value)) (h.from j here)
        in
        subst (Attains R side x) r.2.0 (own r.0 r.1 ∙ r.2.1 ∙ whole)

    is_reached : (j : ℕ) → dot R side x ≢ R.zero → Attains R side x j → Has sum.reached j
    is_reached j f a = ⊎_elim
        (λ z. absurd (f (sym a ∙ ap (λ c. R.times c (entry R x j)) z ∙ zero_times (entry R x j))))
        (λ here.
        let r = All-at (λ t. IsTerm R side t × (product R x t ≡ sum.value → Has sum.reached t.place)) terms
        (λ k d l. (are.each k d l, h.all k d l)) (λ t. t.place ≡ j) here in
        subst (Has sum.reached) r.2 (r.1.1 (sym (own r.0 r.1.0)
        ∙ subst (Attains R side x) (sym r.2) a ∙ sym whole)))
        (are.all j)

    pub sum_finite : (sum.value ≡ R.zero → ⊥) → IsSum R side x sum
    sum_finite f = record {
      value = whole;
      reached = λ j. (λ here. (λ z. f (whole ∙ z), reaches j here), λ r. is_reached j r.0 r.1);
    }

    pub sum_zero : (set : ℕ) → sum.value ≡ R.zero → ((j : ℕ) → Has set j → ⊥) →
        IsSum R side x (record { value = sum.value; reached = set })
    sum_zero set z none = record {
      value = whole;
      reached = λ j. (λ here. absurd (none j here), λ r. absurd (r.0 (sym whole ∙ z)));
    }

-- each term fits a row that is short and small enough for the side
pub terms_fit : {V : Type 0} (R : Semiring V) (side x : List V) (terms : List (Term V)) → AreTerms R side terms →
    length side ≡ length x → row_size R side + row_size R x ≤ most_element → All (Fits R x) terms
terms_fit R side x terms are wide small k d l =
    let is = are.each k d l in
    record {
      within = omega (arith, is.within, wide);
      size = omega (arith, ap R.size is.read, size-entry R side (get_or terms k d).place R.zero is.within, small);
    }

-- the sum at the end of the list, at the row whose entries were read
module _ {V : Type 0} {R : Semiring V} (laws : SemiringLaws R) (x y side : List V) (terms : List (Term V)) (i : ℕ)
    (sum : Sum V) (same : y ≡ x) (are : AreTerms R side terms) (wide : length side ≡ length x)
    (past : length terms ≤ i) (h : IsSumOf R y (take i terms) sum) where
  whole_list : IsSumOf R y terms sum
  whole_list = subst (λ ts. IsSumOf R y ts sum) (take_all i terms past) h

  pub end_finite : (sum.value ≡ R.zero → ⊥) → IsSum R side x sum
  end_finite f = subst (λ z. IsSum R side z sum) same
      (sum_finite laws y side terms are (wide ∙ ap length (sym same)) sum whole_list f)

  pub end_zero : (set : ℕ) → sum.value ≡ R.zero → ((j : ℕ) → Has set j → ⊥) →
      IsSum R side x (record { value = sum.value; reached = set })
  end_zero set z none = subst (λ q. IsSum R side q (record { value = sum.value; reached = set })) same
      (sum_zero laws y side terms are (wide ∙ ap length (sym same)) sum whole_list set z none)
