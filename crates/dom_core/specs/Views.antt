-- The parts and places of the theory that those of the code stand for.
use Rattle.dom_theory.specs.Refusals as refusals
use Rattle.dom_theory.specs.Places as places
use Rattle.dom_core.specs.declared.error.At.{At}
use Rattle.dom_core.specs.declared.error.At.TheVariants as ats
use Rattle.dom_core.specs.declared.place.Part.{Part}
use Rattle.dom_core.specs.declared.place.Part.TheVariants as parts
use Rattle.dom_core.specs.declared.place.Place.{Place}
use Rattle.dom_core.specs.declared.place.Spot.{Spot}

abbrev pub at_of : At → refusals.At
at_of ats.Whole = refusals.Whole
at_of (ats.Polar i k) = refusals.Polar i k
at_of (ats.Kept k) = refusals.Kept k

abbrev pub part_of : Part → places.Part
part_of (parts.Edge k) = places.Edge k
part_of (parts.Sum k) = places.Sum k
part_of parts.Head = places.Head
part_of (parts.Polar i k) = places.Polar i k
part_of (parts.Kept k) = places.Kept k

abbrev pub spot_of : Spot → places.Spot
spot_of spot = record { pass = spot.pass; point = spot.point }

abbrev pub place_of : Place → places.Place
place_of place = record { pass = place.pass; point = place.point; part = part_of place.part }
