-- What comes of a matrix that was made: a value, or a refusal where a bound is out of range.
use Rattle.std.specs.Prelude.{◌≡◌, ◌^◌, ℕ, List, Option, Some, None, Result, Ok, Err}
use Rattle.zone_theory.specs.Bounds.{Bound}
use Rattle.dom_core.specs.declared.error.At.TheVariants as ats
use Rattle.dom_core.specs.declared.error.DomErr.{DomErr}
use Rattle.dom_core.specs.declared.error.DomErr.TheVariants.{Limit, Range, NoMemory}
use Rattle.zone_tables.specs.Sizes.{AreWithin}
use Rattle.zone_tables.specs.Large.{HasLarge}
use Rattle.zone_lists.specs.Zones.{ZoneList}

abbrev pub HasLargeIf : Option (List Bound) → Type 0
HasLargeIf None = ⊥
HasLargeIf (Some bounds) = HasLarge bounds

abbrev pub AreSmallIf : Option (List Bound) → Type 0
AreSmallIf None = Unit {0}
AreSmallIf (Some bounds) = AreWithin (2 ^ 40) bounds

-- the value without kept bounds, or a refusal of the whole
abbrev pub IsFitted : ℕ → Option (List Bound) → Result ZoneList DomErr → Type 0
IsFitted vars made (Ok x) = (x ≡ record { vars = vars; bounds = made; kept = None }) × AreSmallIf made
IsFitted vars made (Err (Range ats.Whole)) = HasLargeIf made
IsFitted vars made (Err (Range (ats.Polar i k))) = ⊥
IsFitted vars made (Err (Range (ats.Kept k))) = ⊥
IsFitted vars made (Err (Limit at)) = ⊥
IsFitted vars made (Err NoMemory) = ⊥

-- the value with kept bounds, or a refusal behind all of them
abbrev pub IsFittedWith : ℕ → List Bound → List Bound → ℕ → Result ZoneList DomErr → Type 0
IsFittedWith vars bounds kept count (Ok x) = (x ≡ record { vars = vars; bounds = Some bounds; kept = Some kept })
    × AreWithin (2 ^ 40) bounds
IsFittedWith vars bounds kept count (Err (Range (ats.Kept k))) = (k ≡ count) × HasLarge bounds
IsFittedWith vars bounds kept count (Err (Range ats.Whole)) = ⊥
IsFittedWith vars bounds kept count (Err (Range (ats.Polar i k))) = ⊥
IsFittedWith vars bounds kept count (Err (Limit at)) = ⊥
IsFittedWith vars bounds kept count (Err NoMemory) = ⊥
