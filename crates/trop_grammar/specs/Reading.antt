-- Reading from left to right: a value and what is left, or what is wrong and the tokens from there on.
use Rattle.std.specs.Prelude.{ℕ, zero, suc, List, [], ◌∷◌, Option, Some, None, Result, Ok, Err}

-- what is wrong, and the tokens from the wrong one on
pub record Miss (T W : Type 0) : Type 0 where
  pub what : W
  pub rest : List T

-- a value and the tokens that are left, or what is wrong
abbrev pub Reading : Type 0 → Type 0 → Type 0 → Type 0
Reading T W A = Result (A × List T) (Miss T W)

-- goes on from a value and what is left
abbrev pub go_on : {T W A B : Type 0} → Reading T W A → (A → List T → Reading T W B) → Reading T W B
go_on (Ok x) f = f x.0 x.1
go_on (Err miss) f = Err miss

-- first r, and with its value s
unfoldable pub read_then : {T W A B : Type 0} → (List T → Reading T W A) → (A → List T → Reading T W B) → List T →
    Reading T W B
read_then r s ts = go_on (r ts) s

infixl 10 ◌>>=◌
abbrev pub ◌>>=◌ : {T W A B : Type 0} → (List T → Reading T W A) → (A → List T → Reading T W B) → List T → Reading T W B
r >>= s = read_then r s

-- this value, for which no token is taken
unfoldable pub gives : {T W A : Type 0} → A → List T → Reading T W A
gives x ts = Ok (x, ts)

-- the judge's word on a token
abbrev pub judged : {T W A : Type 0} → Result A W → T → List T → Reading T W A
judged (Ok x) t ts = Ok (x, ts)
judged (Err what) t ts = Err (record { what = what; rest = t ∷ ts })

-- The next token, as the judge has it. Where none is left, it is the token that is missing.
unfoldable pub token_at : {T W A : Type 0} → W → (T → Result A W) → List T → Reading T W A
token_at missing judge [] = Err (record { what = missing; rest = [] })
token_at missing judge (t ∷ ts) = judged (judge t) t ts

-- a part that its first token announces, and the value x where the next token announces none
abbrev pub announced : {T W A B : Type 0} → Option A → B → (A → List T → Reading T W B) → T → List T → Reading T W B
announced (Some a) x r t ts = r a ts
announced None x r t ts = Ok (x, t ∷ ts)

unfoldable pub option_at : {T W A B : Type 0} → (T → Option A) → B → (A → List T → Reading T W B) → List T →
    Reading T W B
option_at announce x r [] = Ok (x, [])
option_at announce x r (t ∷ ts) = announced (announce t) x r t ts

-- so many times the same step
unfoldable pub repeat_at : {T W A : Type 0} → (A → List T → Reading T W A) → ℕ → A → List T → Reading T W A
repeat_at step zero x = gives x
repeat_at step (suc n) x = step x >>= repeat_at step n

-- what a step along a list comes to: the list goes on, or it is at its end
pub data Next (A B : Type 0) : Type 0 where
  More : A → Next A B
  Done : B → Next A B

abbrev pub go_further : {T W A B : Type 0} → (A → List T → Reading T W B) → Next A B → List T → Reading T W B
go_further further (More x) ts = further x ts
go_further further (Done y) ts = Ok (y, ts)

-- Steps until one ends the list, n at most; then the last step ends it, or says what is wrong.
unfoldable pub until_at : {T W A B : Type 0} → (A → List T → Reading T W (Next A B)) → (A → List T → Reading T W B) →
    ℕ → A → List T → Reading T W B
until_at step last zero x = last x
until_at step last (suc n) x = step x >>= go_further (until_at step last n)
