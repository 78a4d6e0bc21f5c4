-- What a call of a domain answers.
use Rattle.std.specs.Prelude.{◌≡◌, Result, Ok, Err}
use Rattle.dom_theory.specs.Relations.{Relations, Call, OverLimit, OutOfRange}
use Rattle.dom_theory.specs.Answers.{IsFree, IsResult}
use Rattle.dom_core.specs.declared.error.DomErr.{DomErr}
use Rattle.dom_core.specs.declared.error.DomErr.TheVariants.{Limit, Range, NoMemory}
use Rattle.dom_core.specs.Views.{at_of}

-- what it gives where it isn't refused, else the refusal; want of memory is free
abbrev pub IsAnswer : {V : Type 0} → Relations V → Call V → Result V DomErr → Type 0
IsAnswer D call (Ok y) = IsFree D call × IsResult D call y
IsAnswer D call (Err (Limit at)) = D.refused call OverLimit (at_of at)
IsAnswer D call (Err (Range at)) = D.refused call OutOfRange (at_of at)
IsAnswer D call (Err NoMemory) = Unit {0}

-- this value, or want of memory
abbrev pub IsMade : {V : Type 0} → V → Result V DomErr → Type 0
IsMade x (Ok y) = y ≡ x
IsMade x (Err (Limit at)) = ⊥
IsMade x (Err (Range at)) = ⊥
IsMade x (Err NoMemory) = Unit {0}
