-- The finite entries of a side, listed one after another.
use Rattle.std.proofs.Common.{◌≡◌, ◌≢◌, ◌⊎◌, ◌<◌, ◌≤◌, ◌+◌, ℕ, List, [], ◌∷◌, ◌++◌, length, get_or, inl, inr, ⊎_elim, sym, ◌∙◌, subst, arith}
use Rattle.std.specs.Prelude.{All, Any}
use Rattle.std.proofs.lemmas.Bool.{cases_lt}
use Rattle.std.proofs.lemmas.List.{get_or_past}
use Rattle.std.proofs.lemmas.List.Elements.{All-nil, All-push}
use Rattle.std.proofs.lemmas.List.Quantifiers.{Any-push}
use Rattle.trop_theory.specs.Semiring.{Semiring}
use Rattle.trop_theory.specs.Vectors.{entry}
use Rattle.trop_theory.proofs.Sizes.{entry_read}
use Rattle.trop_pairs.specs.declared.terms.Term.{Term}
use Rattle.trop_pairs.specs.Sums.{IsTerm, AreTerms}
use Rattle.trop_pairs.proofs.Summing.{Any-longer}

module _ {V : Type 0} (R : Semiring V) where
  -- the finite ones of the first m entries
  pub record AreTermsBelow (m : ℕ) (side : List V) (terms : List (Term V)) : Type 0 where
    pub each : All (IsTerm R side) terms
    pub all : (i : ℕ) → i < m → (entry R side i ≡ R.zero) ⊎ Any (λ term. term.place ≡ i) terms

  module _ (side : List V) where
    pub terms_first : (terms : List (Term V)) → terms ≡ [] → AreTermsBelow 0 side terms
    terms_first terms e = subst (AreTermsBelow 0 side) (sym e) (record {
      each = All-nil (IsTerm R side);
      all = λ i l. absurd (omega arith);
    })

    module _ (m : ℕ) (c : V) (terms : List (Term V)) (lt : m < length side) (read : c ≡ get_or side m c)
        (h : AreTermsBelow m side terms) where
      is_entry : entry R side m ≡ c
      is_entry = entry_read R side m c read lt

      pub terms_skip : (new : List (Term V)) → new ≡ terms → c ≡ R.zero → AreTermsBelow (m + 1) side new
      terms_skip new e z = subst (AreTermsBelow (m + 1) side) (sym e) (record {
        each = h.each;
        all = λ i l. ⊎_elim (h.all i)
            (λ le. inl (subst (λ k. entry R side k ≡ R.zero) (let e : m ≡ i = omega arith in e) (is_entry ∙ z)))
            (cases_lt i m);
      })

      pub terms_take : (new : List (Term V)) → c ≢ R.zero →
          new ≡ terms ++ record { place = m; coefficient = c } ∷ [] → AreTermsBelow (m + 1) side new
      terms_take new f e = subst (AreTermsBelow (m + 1) side) (sym e) (record {
        each = All-push (IsTerm R side) terms _ h.each (record { within = lt; read = sym is_entry; finite = f });
        all = λ i l. ⊎_elim
            (λ old. ⊎_elim (λ z. inl z)
            (λ a. inr (Any-longer (λ t. t.place ≡ i) (λ t. t.place ≡ i) terms _ (λ t q. q) a)) (h.all i old))
            (λ le. inr (Any-push (λ t. t.place ≡ i) terms _ (let q : m ≡ i = omega arith in q)))
            (cases_lt i m);
      })

    pub terms_all : (m : ℕ) (terms : List (Term V)) → length side ≤ m → AreTermsBelow m side terms →
        AreTerms R side terms
    terms_all m terms past h = record {
      each = h.each;
      all = λ i. ⊎_elim (h.all i) (λ le. inl (get_or_past side i R.zero (omega arith))) (cases_lt i m);
    }
