-- When a reading function reads a grammar.
use Rattle.std.specs.Prelude.{◌≡◌, List, [], ◌∷◌, ◌++◌, Option, None, Result, Ok, Err}
use Rattle.trop_grammar.specs.Reading.{Reading, Miss}

-- some text of the grammar begins with these tokens
pub record Begins {T A : Type 0} (R : List T → A → Type 0) (us : List T) : Type 0 where
  pub more : List T
  pub value : A
  pub is : R (us ++ more) value

-- The first fault of the tokens ts stands where the rest begins: some text of the grammar begins with what stands
-- before it, none with the next token too, and the tokens spell nothing.
pub record IsFirstFault {T A : Type 0} (R : List T → A → Type 0) (ts rest : List T) : Type 0 where
  pub before : List T
  pub whole : ts ≡ before ++ rest
  pub begins : Begins R before
  pub stops : (t : T) (others : List T) → rest ≡ t ∷ others → Begins R (before ++ t ∷ []) → ⊥
  pub spelled : (x : A) → R ts x → ⊥

-- Where r stops: the tokens before begin a text, and whatever follows the next token, r stops there in the same way.
pub record IsStop {T W A : Type 0} (r : List T → Reading T W A) (R : List T → A → Type 0) (ts : List T)
    (miss : Miss T W) : Type 0 where
  pub before : List T
  pub whole : ts ≡ before ++ miss.rest
  pub begins : Begins R before
  pub again : (t : T) (rest other : List T) → miss.rest ≡ t ∷ rest →
      r (before ++ t ∷ other) ≡ Err (record { what = miss.what; rest = t ∷ other })

-- the same next token, or none in both
abbrev pub SameNext : {T : Type 0} → List T → List T → Type 0
SameNext [] [] = Unit {0}
SameNext (t ∷ ts) (u ∷ us) = t ≡ u
SameNext _ _ = ⊥

-- What r took: the tokens us, which spell x, and it takes the same before other tokens if the next one is the same.
pub record IsTaken {T W A : Type 0} (r : List T → Reading T W A) (R : List T → A → Type 0) (ts : List T) (x : A)
    (rest : List T) : Type 0 where
  pub taken : List T
  pub whole : ts ≡ taken ++ rest
  pub is : R taken x
  pub again : (other : List T) → SameNext rest other → r (taken ++ other) ≡ Ok (x, other)

-- r reads from the front of the tokens exactly the texts of R, where E holds of what follows
pub record Reads {T W A : Type 0} (E : List T → Type 0) (r : List T → Reading T W A)
    (R : List T → A → Type 0) : Type 0 where
  pub some : Begins R []
  pub takes : (ts : List T) (x : A) (rest : List T) → r ts ≡ Ok (x, rest) → IsTaken r R ts x rest
  pub reads : (us rest : List T) (x : A) → R us x → E rest → r (us ++ rest) ≡ Ok (x, rest)
  pub stops : (ts : List T) (miss : Miss T W) → r ts ≡ Err miss → IsStop r R ts miss

-- anything may follow
abbrev pub Anything : {T : Type 0} → List T → Type 0
Anything ts = Unit {0}

-- the next token announces nothing
abbrev pub Unannounced : {T A : Type 0} → (T → Option A) → List T → Type 0
Unannounced announce [] = Unit {0}
Unannounced announce (t ∷ ts) = announce t ≡ None

-- the judge lets just the tokens of P pass, with their values
pub record Judges {T W A : Type 0} (judge : T → Result A W) (P : T → A → Type 0) : Type 0 where
  pub token : T
  pub value : A
  pub passes : P token value
  pub to : (t : T) (x : A) → judge t ≡ Ok x → P t x
  pub from : (t : T) (x : A) → P t x → judge t ≡ Ok x
