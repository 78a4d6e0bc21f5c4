-- What a loop of a program keeps that reads a list step by step: reading on from here gives what reading from the
-- start gives.
use Rattle.std.proofs.Common.{◌≡◌, ℕ, Bool, true, false, suc, ◌-◌, ◌+◌, ◌<◌, ◌≤◌, List, Option, Result, Ok, Err, ap, ◌∙◌, arith}
use Rattle.trop_grammar.specs.Lists.{list_step, list_last, list_at, next_of}
use Rattle.trop_grammar.specs.Reading.{token_at, Reading, Miss, go_on, read_then, gives, repeat_at, until_at, Next, More, Done, go_further}

module _ {T W : Type 0} where
  pub repeat-step : {A : Type 0} (step : A → List T → Reading T W A) (n k : ℕ) (x y : A) (ts us : List T) → k < n →
      step x ts ≡ Ok (y, us) → repeat_at step (n - k) x ts ≡ repeat_at step (n - (k + 1)) y us
  unfolding repeat_at read_then
  repeat-step step n k x y ts us below e =
      let one_less : n - k ≡ suc (n - (k + 1)) = omega arith in
      ap (λ m. repeat_at step m x ts) one_less ∙ ap (λ z. go_on z (repeat_at step (n - (k + 1)))) e

  pub repeat-fails : {A : Type 0} (step : A → List T → Reading T W A) (n k : ℕ) (x : A) (ts : List T) (miss : Miss T W)
      → k < n → step x ts ≡ Err miss → repeat_at step (n - k) x ts ≡ Err miss
  unfolding repeat_at read_then
  repeat-fails step n k x ts miss below e =
      let one_less : n - k ≡ suc (n - (k + 1)) = omega arith in
      ap (λ m. repeat_at step m x ts) one_less ∙ ap (λ z. go_on z (repeat_at step (n - (k + 1)))) e

  pub repeat-end : {A : Type 0} (step : A → List T → Reading T W A) (n k : ℕ) (x : A) (ts : List T) → n ≤ k →
      repeat_at step (n - k) x ts ≡ Ok (x, ts)
  unfolding repeat_at gives
  repeat-end step n k x ts past = let none : n - k ≡ 0 = omega arith in ap (λ m. repeat_at step m x ts) none

  pub until-more : {A B : Type 0} (step : A → List T → Reading T W (Next A B)) (last : A → List T → Reading T W B)
      (n k : ℕ) (x y : A) (ts us : List T) → k < n → step x ts ≡ Ok (More y, us) →
      until_at step last (n - k) x ts ≡ until_at step last (n - (k + 1)) y us
  unfolding until_at read_then
  until-more step last n k x y ts us below e =
      let one_less : n - k ≡ suc (n - (k + 1)) = omega arith in
      ap (λ m. until_at step last m x ts) one_less ∙ ap (λ z. go_on z (go_further (until_at step last (n - (k + 1))))) e

  pub until-done : {A B : Type 0} (step : A → List T → Reading T W (Next A B)) (last : A → List T → Reading T W B)
      (n k : ℕ) (x : A) (y : B) (ts us : List T) → k < n → step x ts ≡ Ok (Done y, us) →
      until_at step last (n - k) x ts ≡ Ok (y, us)
  unfolding until_at read_then
  until-done step last n k x y ts us below e =
      let one_less : n - k ≡ suc (n - (k + 1)) = omega arith in
      ap (λ m. until_at step last m x ts) one_less ∙ ap (λ z. go_on z (go_further (until_at step last (n - (k + 1))))) e

  pub until-fails : {A B : Type 0} (step : A → List T → Reading T W (Next A B)) (last : A → List T → Reading T W B)
      (n k : ℕ) (x : A) (ts : List T) (miss : Miss T W) → k < n → step x ts ≡ Err miss →
      until_at step last (n - k) x ts ≡ Err miss
  unfolding until_at read_then
  until-fails step last n k x ts miss below e =
      let one_less : n - k ≡ suc (n - (k + 1)) = omega arith in
      ap (λ m. until_at step last m x ts) one_less ∙ ap (λ z. go_on z (go_further (until_at step last (n - (k + 1))))) e

  pub until-last : {A B : Type 0} (step : A → List T → Reading T W (Next A B)) (last : A → List T → Reading T W B)
      (n k : ℕ) (x : A) (ts : List T) → n ≤ k → until_at step last (n - k) x ts ≡ last x ts
  unfolding until_at
  until-last step last n k x ts past = let none : n - k ≡ 0 = omega arith in ap (λ m. until_at step last m x ts) none

  -- as the loops begin
  pub repeat-start : {A : Type 0} (step : A → List T → Reading T W A) (n : ℕ) (x : A) (ts : List T) →
      repeat_at step (n - 0) x ts ≡ repeat_at step n x ts
  repeat-start step n x ts = let e : n - 0 ≡ n = omega arith in ap (λ m. repeat_at step m x ts) e

  pub until-start : {A B : Type 0} (step : A → List T → Reading T W (Next A B)) (last : A → List T → Reading T W B)
      (n : ℕ) (x : A) (ts : List T) → until_at step last (n - 0) x ts ≡ until_at step last n x ts
  until-start step last n x ts = let e : n - 0 ≡ n = omega arith in ap (λ m. until_at step last m x ts) e

  -- ---- lists

  pub list-start : {A C : Type 0} (missing : W) (start : List A → T → Result (Option C) W)
      (item : List A → C → List T → Reading T W A) (last : List A → T → Result (Unit {0}) W) (n : ℕ) (xs : List A)
      (ts : List T)
      → list_at missing start item last (n - 0) xs ts ≡ list_at missing start item last n xs ts
  unfolding list_at
  list-start missing start item last n xs ts = until-start (list_step missing start item)
      (list_last missing last) n xs ts

  -- a step decided by a test: the list goes on where it is true
  pub list-more : {A C : Type 0} (missing : W) (start : List A → T → Result (Option C) W)
      (item : List A → C → List T → Reading T W A) (last : List A → T → Result (Unit {0}) W) (n k : ℕ) (xs ys : List A)
      (ts us : List T) (more : Bool)
      → k < n → more ≡ true → list_step missing start item xs ts ≡ Ok (next_of more ys, us) →
      list_at missing start item last (n - k) xs ts ≡ list_at missing start item last (n - (k + 1)) ys us
  unfolding list_at
  list-more missing start item last n k xs ys ts us more below on e =
      until-more (list_step missing start item) (list_last missing last) n k xs ys ts us below
      (e ∙ ap (λ b. Ok (next_of b ys, us)) on)

  pub list-done : {A C : Type 0} (missing : W) (start : List A → T → Result (Option C) W)
      (item : List A → C → List T → Reading T W A) (last : List A → T → Result (Unit {0}) W) (n k : ℕ) (xs ys : List A)
      (ts us : List T) (more : Bool)
      → k < n → more ≡ false → list_step missing start item xs ts ≡ Ok (next_of more ys, us) →
      list_at missing start item last (n - k) xs ts ≡ Ok (ys, us)
  unfolding list_at
  list-done missing start item last n k xs ys ts us more below off e =
      until-done (list_step missing start item) (list_last missing last) n k xs ys ts us below
      (e ∙ ap (λ b. Ok (next_of b ys, us)) off)

  pub list-fails : {A C : Type 0} (missing : W) (start : List A → T → Result (Option C) W)
      (item : List A → C → List T → Reading T W A) (last : List A → T → Result (Unit {0}) W) (n k : ℕ) (xs : List A)
      (ts : List T) (miss : Miss T W)
      → k < n → list_step missing start item xs ts ≡ Err miss → list_at missing start item last (n - k) xs ts ≡ Err miss
  unfolding list_at
  list-fails missing start item last n k xs ts miss below e =
      until-fails (list_step missing start item) (list_last missing last) n k xs ts miss below e

  pub list-closed : {A C : Type 0} (missing : W) (start : List A → T → Result (Option C) W)
      (item : List A → C → List T → Reading T W A) (last : List A → T → Result (Unit {0}) W) (n k : ℕ) (xs : List A)
      (ts us : List T)
      → n ≤ k → token_at missing (last xs) ts ≡ Ok (tt, us) →
      list_at missing start item last (n - k) xs ts ≡ Ok (xs, us)
  unfolding list_at list_last read_then gives
  list-closed missing start item last n k xs ts us past e =
      until-last (list_step missing start item) (list_last missing last) n k xs ts past
      ∙ ap (λ z. go_on z (λ u. gives xs)) e

  pub list-unclosed : {A C : Type 0} (missing : W) (start : List A → T → Result (Option C) W)
      (item : List A → C → List T → Reading T W A) (last : List A → T → Result (Unit {0}) W) (n k : ℕ) (xs : List A)
      (ts : List T) (miss : Miss T W)
      → n ≤ k → token_at missing (last xs) ts ≡ Err miss → list_at missing start item last (n - k) xs ts ≡ Err miss
  unfolding list_at list_last read_then
  list-unclosed missing start item last n k xs ts miss past e =
      until-last (list_step missing start item) (list_last missing last) n k xs ts past
      ∙ ap (λ z. go_on z (λ u. gives xs)) e
