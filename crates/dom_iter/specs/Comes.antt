-- What a function of the analysis answers.
use Rattle.std.specs.Prelude.{◌≡◌, Result, Ok, Err}
use Rattle.dom_core.specs.declared.error.DomErr.{DomErr}
use Rattle.dom_core.specs.declared.error.DomErr.TheVariants.{Limit as DomLimit, Range as DomRange, NoMemory as DomNoMemory}
use Rattle.dom_core.specs.Views.{at_of, place_of}
use Rattle.dom_theory.specs.Places.{Part, Spot}
use Rattle.dom_theory.specs.Relations.{OverLimit, OutOfRange}
use Rattle.dom_iter.specs.declared.error.IterErr.{IterErr}
use Rattle.dom_iter.specs.declared.error.IterErr.TheVariants.{Limit, Range, NoMemory}
use Rattle.dom_theory.specs.Parts.{place_at}
use Rattle.dom_theory.specs.Outcomes.{Outcome, Gives, Stops}

-- the error names the first part that is refused; want of memory is free
abbrev pub StopsAt : {A : Type 0} → (Outcome A → Type 0) → IterErr → Type 0
StopsAt c (Limit place) = c (Stops (record { cause = OverLimit; place = place_of place }))
StopsAt c (Range place) = c (Stops (record { cause = OutOfRange; place = place_of place }))
StopsAt c NoMemory = Unit {0}

-- a value that the work gives, or where it stops
abbrev pub Comes : {A : Type 0} → (Outcome A → Type 0) → Result A IterErr → Type 0
Comes c (Ok x) = c (Gives x)
Comes c (Err e) = StopsAt c e

-- a refusal of a domain at this part, as the analysis names it
abbrev pub IsPlaced : Spot → Part → DomErr → IterErr → Type 0
IsPlaced spot part (DomLimit at) (Limit place) = place_of place ≡ place_at spot part (at_of at)
IsPlaced spot part (DomLimit at) (Range place) = ⊥
IsPlaced spot part (DomLimit at) NoMemory = ⊥
IsPlaced spot part (DomRange at) (Limit place) = ⊥
IsPlaced spot part (DomRange at) (Range place) = place_of place ≡ place_at spot part (at_of at)
IsPlaced spot part (DomRange at) NoMemory = ⊥
IsPlaced spot part DomNoMemory (Limit place) = ⊥
IsPlaced spot part DomNoMemory (Range place) = ⊥
IsPlaced spot part DomNoMemory NoMemory = Unit {0}

-- this value, or want of memory
abbrev pub IsBegun : {V : Type 0} → V → Result V IterErr → Type 0
IsBegun x (Ok y) = y ≡ x
IsBegun x (Err (Limit place)) = ⊥
IsBegun x (Err (Range place)) = ⊥
IsBegun x (Err NoMemory) = Unit {0}
