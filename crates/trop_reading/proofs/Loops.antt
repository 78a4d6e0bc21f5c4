-- What a loop of a reader answers where a part of it fails.
use Rattle.std.proofs.Common.{◌≡◌, ◌<◌, ◌-◌, ◌≤◌, ℕ, Bool, true, false, List, length, Option, Result, Ok, Err, refl, sym, ap, ◌∙◌, subst}
use Rattle.trop_grammar.specs.Reading.{Reading, Miss, Next, go_on, go_further, token_at, repeat_at}
use Rattle.trop_grammar.specs.Lists.{list_step, list_at, next_of, separated_step, separated_at}
use Rattle.trop_grammar.proofs.Loops.{repeat-fails, list-fails, list-unclosed}
use Rattle.trop_grammar.proofs.SeparatedLaws.{AreSeparators, separated-step, step-shorter}
use Rattle.trop_text.specs.Pieces.{Piece}
use Rattle.trop_text.specs.declared.fault.FaultKind.{FaultKind}
use Rattle.trop_text.specs.declared.fault.FaultKind.TheVariants.{Syntax}
use Rattle.trop_reading.specs.declared.read_err.ReadErr.{ReadErr}
use Rattle.trop_reading.specs.declared.read_err.ReadErr.TheVariants as errors
use Rattle.trop_reading.specs.Gives.{Fails}

-- a reading that has the faults of another fails with it
pub fails_with : {A B : Type 0} (e : ReadErr) (read : Reading Piece FaultKind A) (whole : Reading Piece FaultKind B) →
    Fails e read → ((miss : Miss Piece FaultKind) → read ≡ Err miss → whole ≡ Err miss) → Fails e whole
fails_with errors.NoMemory read whole h k = tt
fails_with (errors.Wrong what at) (Ok x) whole h k = absurd h
fails_with (errors.Wrong what at) (Err miss) whole h k = subst (Fails (errors.Wrong what at)) (sym (k miss refl)) h

pub fails_repeated : {A : Type 0} (e : ReadErr) (step : A → List Piece → Reading Piece FaultKind A) (n k : ℕ) (x : A)
    (ts : List Piece) (whole : Reading Piece FaultKind A) → k < n → Fails e (step x ts) →
    repeat_at step (n - k) x ts ≡ whole → Fails e whole
fails_repeated e step n k x ts whole below h so_far =
    fails_with e (step x ts) whole h (λ miss m. sym so_far ∙ repeat-fails step n k x ts miss below m)

-- ---- lists

module _ {A C : Type 0} (start : List A → Piece → Result (Option C) FaultKind)
    (item : List A → C → List Piece → Reading Piece FaultKind A) (last : List A → Piece → Result (Unit {0}) FaultKind)
  where
    pub list_failed : (e : ReadErr) (n k : ℕ) (xs : List A) (ts : List Piece) (whole : Reading Piece FaultKind (List A)) →
        k < n → Fails e (list_step Syntax start item xs ts) → list_at Syntax start item last (n - k) xs ts ≡ whole →
        Fails e whole
    list_failed e n k xs ts whole below h so_far = fails_with e (list_step Syntax start item xs ts) whole h
        (λ miss m. sym so_far ∙ list-fails Syntax start item last n k xs ts miss below m)

    pub list_left_open : (e : ReadErr) (n k : ℕ) (xs : List A) (ts : List Piece)
        (whole : Reading Piece FaultKind (List A)) → n ≤ k → Fails e (token_at Syntax (last xs) ts) →
        list_at Syntax start item last (n - k) xs ts ≡ whole → Fails e whole
    list_left_open e n k xs ts whole past h so_far =
        fails_with e (token_at Syntax (last xs) ts) whole h
        (λ miss m. sym so_far ∙ list-unclosed Syntax start item last n k xs ts miss past m)

-- ---- lists with separators

module _ {A : Type 0} {E : List Piece → Type 0} {item : List Piece → Reading Piece FaultKind A}
    {between : Piece → Result Bool FaultKind} {close : Piece → Result (Unit {0}) FaultKind}
    {Line : List Piece → A → Type 0} (parts : AreSeparators E item between close Line) where
  abbrev on : Reading Piece FaultKind (Next (List A) (List A)) → Reading Piece FaultKind (List A)
  on r = go_on r (go_further (separated_at Syntax item between close))

  step_is : (xs : List A) (ts : List Piece) → separated_at Syntax item between close xs ts ≡ on
      (separated_step Syntax item between xs ts)
  step_is xs ts = separated-step Syntax E item between close Line parts xs ts

  pub separated_failed : (e : ReadErr) (xs : List A) (ts : List Piece) (whole : Reading Piece FaultKind (List A)) →
      Fails e (separated_step Syntax item between xs ts) → separated_at Syntax item between close xs ts ≡ whole →
      Fails e whole
  separated_failed e xs ts whole h so_far = fails_with e (separated_step Syntax item between xs ts) whole h
      (λ miss m. sym so_far ∙ step_is xs ts ∙ ap on m)

  -- a step decided by a test: the list goes on where it is true
  pub separated_more : (xs ys : List A) (ts us : List Piece) (more : Bool) (whole : Reading Piece FaultKind (List A)) →
      more ≡ true → separated_step Syntax item between xs ts ≡ Ok (next_of more ys, us) →
      separated_at Syntax item between close xs ts ≡ whole → separated_at Syntax item between close ys us ≡ whole
  separated_more xs ys ts us more whole goes_on e so_far =
      sym (ap on (e ∙ ap (λ b. Ok (next_of b ys, us)) goes_on)) ∙ sym (step_is xs ts) ∙ so_far

  pub separated_done : (xs ys : List A) (ts us : List Piece) (more : Bool) (whole : Reading Piece FaultKind (List A)) →
      more ≡ false → separated_step Syntax item between xs ts ≡ Ok (next_of more ys, us) →
      separated_at Syntax item between close xs ts ≡ whole → whole ≡ Ok (ys, us)
  separated_done xs ys ts us more whole ends e so_far =
      sym so_far ∙ step_is xs ts ∙ ap on (e ∙ ap (λ b. Ok (next_of b ys, us)) ends)

  -- fewer pieces are left
  pub separated_shorter : (xs : List A) (ts us : List Piece) (next : Next (List A) (List A)) →
      separated_step Syntax item between xs ts ≡ Ok (next, us) → length us < length ts
  separated_shorter xs ts us next e = step-shorter Syntax E item between close Line parts xs ts us next e
