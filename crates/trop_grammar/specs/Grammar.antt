-- Grammars: which tokens spell which value. A grammar is a relation between a list of tokens and a value; these are
-- the ways to build one.
use Rattle.std.specs.Prelude.{◌≡◌, ℕ, zero, suc, List, [], ◌∷◌, ◌++◌, Option, Some}
use Rattle.trop_grammar.specs.Reading.{Next, More, Done}

-- one token, of which P says what it spells
pub record One {T A : Type 0} (P : T → A → Type 0) (us : List T) (x : A) : Type 0 where
  pub token : T
  pub whole : us ≡ token ∷ []
  pub is : P token x

-- no token, and the value x
pub record Empty {T A : Type 0} (x : A) (us : List T) (y : A) : Type 0 where
  pub none : us ≡ []
  pub is : y ≡ x

-- a text of R, and then one of S, which may depend on the first one's value
pub record Then {T A B : Type 0} (R : List T → A → Type 0) (S : A → List T → B → Type 0) (us : List T)
    (y : B) : Type 0 where
  pub front : List T
  pub back : List T
  pub value : A
  pub whole : us ≡ front ++ back
  pub first : R front value
  pub second : S value back y

-- a text of R, and then anything
pub record StartsWith {T A : Type 0} (R : List T → A → Type 0) (us : List T) (x : A) : Type 0 where
  pub front : List T
  pub back : List T
  pub whole : us ≡ front ++ back
  pub is : R front x

-- a part that may be left out: it begins with a token that announces it, and left out it means x
pub data Optional {T A B : Type 0} (announce : T → Option A) (x : B) (R : A → List T → B → Type 0) (us : List T)
    (y : B) : Type 0 where
  LeftOut : us ≡ [] → y ≡ x → Optional announce x R us y
  Written : (t : T) → (a : A) → (vs : List T) → us ≡ t ∷ vs → announce t ≡ Some a → R a vs y →
      Optional announce x R us y

-- n texts, each of which makes a value from the one before
unfoldable pub Repeated : {T A : Type 0} → (A → List T → A → Type 0) → ℕ → A → List T → A → Type 0
Repeated Step zero x = Empty x
Repeated Step (suc n) x = Then (Step x) (Repeated Step n)

-- behind a step along a list
abbrev pub Further : {T A B : Type 0} → (A → List T → B → Type 0) → Next A B → List T → B → Type 0
Further R (More x) = R x
Further R (Done y) = Empty y

-- texts one after another until one ends the list; after n of them the last one ends it
unfoldable pub Until : {T A B : Type 0} → (A → List T → Next A B → Type 0) → (A → List T → B → Type 0) → ℕ →
    A → List T → B → Type 0
Until Step Last zero x = Last x
Until Step Last (suc n) x = Then (Step x) (Further (Until Step Last n))
