-- How readers of single tokens follow their judges.
use Rattle.std.proofs.Common.{◌≡◌, ℕ, Bool, true, false, cond, Option, Some, None, List, [], ◌∷◌, Result, Ok, Err, refl, sym, ap, subst, ◌∙◌}
use Rattle.trop_text.specs.declared.fault.FaultKind.{FaultKind}
use Rattle.trop_text.specs.declared.fault.FaultKind.TheVariants.{Syntax}
use Rattle.trop_grammar.specs.Reading.{Reading, Miss, judged, token_at}
use Rattle.shape_grammar.specs.Past.{past}
use Rattle.shape_grammar.specs.Reads.{Heads}
use Rattle.shape_grammar.specs.Steps.{token_past}
use Rattle.prog_texts.specs.Words.{Counted, skipped}
use Rattle.prog_reading.specs.Left.{left}
use Rattle.prog_reading.specs.Gives.{Fails, Gives, Passed, Settles, IsBegun, IsBad, NoneBegins}
use Rattle.prog_reading.specs.declared.at.At.{At}
use Rattle.prog_reading.specs.declared.read_err.ReadErr.{ReadErr}
use Rattle.prog_reading.specs.declared.read_err.ReadErr.TheVariants as errors

-- a refusal of a part is one of the whole
pub fails_from : {A B : Type 0} (e : ReadErr) (v : Reading Counted FaultKind A) (w : Reading Counted FaultKind B) →
    Fails e v → ((miss : Miss Counted FaultKind) → v ≡ Err miss → w ≡ Err miss) → Fails e w
fails_from errors.NoMemory v w h to = tt
fails_from (errors.Wrong what at) (Ok x) w h to = absurd h
fails_from (errors.Wrong what at) (Err miss) w h to = rw (to miss refl) h

-- a reading that has this fault
pub fails_is : {A : Type 0} (what : FaultKind) (at : At) (w : Reading Counted FaultKind A) →
    w ≡ Err (record { what = what; rest = left at }) → Fails (errors.Wrong what at) w
fails_is what at w e = rw e (refl, refl)

module _ {X A : Type 0} (view : X → A) where
  abbrev seen : X × At → A × List Counted
  seen x = (view x.0, left x.1)

  -- a token and the judge's word on it
  pub settled : (judge : Counted → Result A FaultKind) (old : List Counted) (here rest : At) (t : Counted)
      (word : Result X FaultKind) (answer : Result (X × At) ReadErr)
      → left here ≡ past skipped old → left here ≡ t ∷ left rest → Passed view word (judge t) →
      Settles word here rest answer → Gives seen answer (token_past skipped Syntax judge old)
  unfolding token_past token_at
  settled judge old here rest t (Ok x) answer e k p s =
      subst (λ z. Gives seen z (token_at Syntax judge (past skipped old))) (sym s)
      (ap (token_at Syntax judge) (sym e ∙ k) ∙ first judge t (left rest) (Ok (view x)) p)
    where
      first : (judge : Counted → Result A FaultKind) (t : Counted) (us : List Counted) (word : Result A FaultKind) →
          judge t ≡ word → token_at Syntax judge (t ∷ us) ≡ judged word t us
      first judge t us word e = ap (λ z. judged z t us) e
  settled judge old here rest t (Err what) answer e k p s =
      let whole : token_at Syntax judge (past skipped old) ≡ Err (record { what = what; rest = left here }) =
      ap (token_at Syntax judge) (sym e ∙ k) ∙ second judge t (left rest) what p ∙ ap (λ z. wrong what z) (sym k) in
      subst (λ z. Gives seen z (token_at Syntax judge (past skipped old))) (sym s)
      (fails_is what here (token_at Syntax judge (past skipped old)) whole)
    where
      wrong : FaultKind → List Counted → Reading Counted FaultKind A
      wrong what us = Err (record { what = what; rest = us })

      second : (judge : Counted → Result A FaultKind) (t : Counted) (us : List Counted) (what : FaultKind) →
          judge t ≡ Err what → token_at Syntax judge (t ∷ us) ≡ wrong what (t ∷ us)
      second judge t us what e = ap (λ z. judged z t us) e

-- ---- what the next token is

-- no token
pub none_left : {A : Type 0} (j : Counted → Option (Result A FaultKind)) (old here : List Counted) →
    here ≡ past skipped old → here ≡ [] → NoneBegins j old
none_left j old here e k = subst (λ (z : List Counted). Heads (λ t. j t ≡ None) z) (sym (sym e ∙ k)) tt

-- a token that begins nothing
pub none_here : {A : Type 0} (j : Counted → Option (Result A FaultKind)) (old here : List Counted) (t : Counted)
    (us : List Counted) → here ≡ past skipped old → here ≡ t ∷ us → j t ≡ None → NoneBegins j old
none_here j old here t us e k h = subst (λ (z : List Counted). Heads (λ t. j t ≡ None) z) (sym (sym e ∙ k)) h

-- a token with which something is wrong
pub bad_here : {A : Type 0} (j : Counted → Option (Result A FaultKind)) (old here : List Counted) (t : Counted)
    (us : List Counted) (what : FaultKind) → here ≡ past skipped old → here ≡ t ∷ us → j t ≡ Some (Err what) →
    IsBad j old what here
bad_here j old here t us what e k h = record { token = t; behind = us; whole = sym e ∙ k; here = k; is = h }

-- a token that lets a part begin
pub begun_here : {A : Type 0} (j : Counted → Option (Result A FaultKind)) (old here : List Counted) (t : Counted)
    (us : List Counted) (a : A) → here ≡ past skipped old → here ≡ t ∷ us → j t ≡ Some (Ok a) → IsBegun j old a us
begun_here j old here t us a e k h = record { token = t; whole = sym e ∙ k; is = h }
