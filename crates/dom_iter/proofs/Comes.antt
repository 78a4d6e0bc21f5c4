-- How the answers of parts make the answer of the whole.
use Rattle.std.proofs.Common.{refl, ap, Ok, Err}
use Rattle.dom_core.specs.declared.error.DomErr.{DomErr}
use Rattle.dom_core.specs.declared.error.DomErr.TheVariants.{Limit as DomLimit, Range as DomRange, NoMemory as DomNoMemory}
use Rattle.dom_theory.specs.Places.{Part}
use Rattle.dom_theory.specs.Relations.{Relations, Call, OverLimit, OutOfRange}
use Rattle.dom_core.specs.Views.{at_of}
use Rattle.dom_core.specs.Answers.{IsAnswer}
use Rattle.dom_iter.specs.declared.error.IterErr.{IterErr}
use Rattle.dom_iter.specs.declared.error.IterErr.TheVariants.{Limit, Range, NoMemory}
use Rattle.dom_theory.specs.Places.{Spot}
use Rattle.dom_theory.specs.Outcomes.{Outcome, Gives, Stops, Then, stops}
use Rattle.dom_theory.specs.Parts.{Asks, answered, refused}
use Rattle.dom_iter.specs.Comes.{StopsAt, IsPlaced}

-- what stops in a part stops the whole
pub StopsAt-in : {A B : Type 0} (c : Outcome A → Type 0) (d : Outcome B → Type 0)
    → ((s : _) → c (Stops s) → d (Stops s)) → (e : IterErr) → StopsAt c e → StopsAt d e
StopsAt-in c d f (Limit place) h = f _ h
StopsAt-in c d f (Range place) h = f _ h
StopsAt-in c d f NoMemory h = tt

pub StopsAt-Then : {A B : Type 0} (c : Outcome A → Type 0) (f : A → Outcome B → Type 0) (e : IterErr) → StopsAt c e
    → StopsAt (Then c f) e
StopsAt-Then c f e h = StopsAt-in c (Then c f) (λ s h. stops s h refl) e h

pub Asks-ok : {V : Type 0} (D : Relations V) (spot : Spot) (part : Part) (call : Call V) (y : V)
    → IsAnswer D call (Ok y) → Asks D spot part call (Gives y)
Asks-ok D spot part call y h = answered y h.0 h.1 refl

pub Asks-err : {V : Type 0} (D : Relations V) (spot : Spot) (part : Part) (call : Call V) (e : DomErr) (err : IterErr)
    → IsAnswer D call (Err e) → IsPlaced spot part e err → StopsAt (Asks D spot part call) err
Asks-err D spot part call (DomLimit at) (Limit place) h is = refused OverLimit (at_of at) h
    (ap (λ p. Stops (record { cause = OverLimit; place = p })) is)
Asks-err D spot part call (DomLimit at) (Range place) h is = absurd is
Asks-err D spot part call (DomLimit at) NoMemory h is = tt
Asks-err D spot part call (DomRange at) (Limit place) h is = absurd is
Asks-err D spot part call (DomRange at) (Range place) h is = refused OutOfRange (at_of at) h
    (ap (λ p. Stops (record { cause = OutOfRange; place = p })) is)
Asks-err D spot part call (DomRange at) NoMemory h is = tt
Asks-err D spot part call DomNoMemory (Limit place) h is = absurd is
Asks-err D spot part call DomNoMemory (Range place) h is = absurd is
Asks-err D spot part call DomNoMemory NoMemory h is = tt
