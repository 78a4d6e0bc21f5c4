-- Grammars whose texts end with a token that stands nowhere else.
use Rattle.std.proofs.Common.{◌≡◌, ℕ, zero, suc, List, [], ◌∷◌, ◌++◌, sym, ap, ◌∙◌, append_assoc}
use Rattle.std.proofs.lemmas.List.{append-nil}
use Rattle.trop_grammar.specs.Reading.{Next, More, Done}
use Rattle.trop_grammar.specs.Lists.{Listed}
use Rattle.trop_grammar.specs.Grammar.{One, Empty, Then, Until, Further}

-- the last token is one of P
pub record LastIs {T : Type 0} (P : T → Type 0) (us : List T) : Type 0 where
  pub front : List T
  pub token : T
  pub whole : us ≡ front ++ token ∷ []
  pub is : P token

-- each text of the grammar ends with a token of P
pub record EndsWith {T A : Type 0} (P : T → Type 0) (R : List T → A → Type 0) : Type 0 where
  pub at : (us : List T) (x : A) → R us x → LastIs P us

module _ {T : Type 0} {P : T → Type 0} where
  behind : (us vs ws : List T) → us ≡ vs ++ ws → LastIs P ws → LastIs P us
  behind us vs ws whole h = record {
    front = vs ++ h.front;
    token = h.token;
    whole =
        whole ∙ ap (λ (z : List T). vs ++ z) h.whole ∙ sym (append_assoc vs h.front (h.token ∷ []));
    is = h.is;
  }

  before_none : (us vs ws : List T) → us ≡ vs ++ ws → ws ≡ [] → LastIs P vs → LastIs P us
  before_none us vs ws whole none h = record {
    front = h.front;
    token = h.token;
    whole =
        whole ∙ ap (λ (z : List T). vs ++ z) none ∙ append-nil vs ∙ h.whole;
    is = h.is;
  }

  pub EndsWith-one : {A : Type 0} {Q : T → A → Type 0} → ((t : T) (x : A) → Q t x → P t) → EndsWith P (One Q)
  EndsWith-one q = record {
    at = λ us x h. record {
      front = [];
      token = h.token;
      whole = h.whole;
      is =
          q h.token x h.is;
    };
  }

  pub EndsWith-then : {A B : Type 0} {R : List T → A → Type 0} {S : A → List T → B → Type 0} →
      ((x : A) → EndsWith P (S x)) → EndsWith P (Then R S)
  EndsWith-then s = record { at = λ us y h. behind us h.front h.back h.whole ((s h.value).at h.back y h.second) }

  pub EndsWith-gives : {A B : Type 0} {R : List T → A → Type 0} {f : A → B} → EndsWith P R →
      EndsWith P (Then R (λ x. Empty (f x)))
  EndsWith-gives r = record {
    at = λ us y h. before_none us h.front h.back h.whole h.second.none
        (r.at h.front h.value h.first);
  }

  further_ends : {A B : Type 0} (Step : A → List T → Next A B → Type 0) →
      ((x : A) (us : List T) (y : B) → Step x us (Done y) → LastIs P us) → (R : A → List T → B → Type 0) →
      ((x : A) (us : List T) (y : B) → R x us y → LastIs P us) → (x : A) (next : Next A B) (us vs ws : List T) (y : B) →
      us ≡ vs ++ ws → Step x vs next → Further R next ws y → LastIs P us
  further_ends Step s R r x (More z) us vs ws y whole first second = behind us vs ws whole (r z ws y second)
  further_ends Step s R r x (Done z) us vs ws y whole first second =
      before_none us vs ws whole second.none (s x vs z first)

  until_ends : {A B : Type 0} (Step : A → List T → Next A B → Type 0) (Last : A → List T → B → Type 0) →
      ((x : A) (us : List T) (y : B) → Step x us (Done y) → LastIs P us) → ((x : A) → EndsWith P (Last x)) →
      (n : ℕ) (x : A) (us : List T) (y : B) → Until Step Last n x us y → LastIs P us
  unfolding Until
  until_ends Step Last s l zero x us y h = (l x).at us y h
  until_ends Step Last s l (suc n) x us y h = further_ends Step s (Until Step Last n)
      (until_ends Step Last s l n) x h.value us h.front h.back y h.whole h.first h.second

  pub EndsWith-until : {A B : Type 0} (Step : A → List T → Next A B → Type 0) {Last : A → List T → B → Type 0} →
      ((x : A) (us : List T) (y : B) → Step x us (Done y) → LastIs P us) → ((x : A) → EndsWith P (Last x)) →
      (n : ℕ) (x : A) → EndsWith P (Until Step Last n x)
  EndsWith-until Step {Last} s l n x = record { at = until_ends Step Last s l n x }

  pub EndsWith-listed : {A : Type 0} {Line : List A → List T → A → Type 0} {End : List A → T → Type 0} {n : ℕ} →
      ((xs : List A) (t : T) → End xs t → P t) → EndsWith P (Listed Line End n)
  EndsWith-listed q = record {
    at = λ us xs h. record
        { front = h.items; token = h.end; whole = h.whole; is = q xs h.end h.ends };
  }
