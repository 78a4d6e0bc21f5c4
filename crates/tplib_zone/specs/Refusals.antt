-- Which refusals of an analysis by zones there are.
use Rattle.tplib_reply.specs.declared.stop.Part.{Part}
use Rattle.tplib_reply.specs.declared.stop.Part.TheVariants.{Edge, Sum, Head, Polar, Kept}
use Rattle.tplib_reply.specs.declared.stop.Stop.TheVariants.{Rows, Polar as PolarStop, Lean, At, PointPolar}
use Rattle.tplib_reply.specs.declared.refusal.Refusal.{Refusal}
use Rattle.tplib_reply.specs.declared.refusal.Refusal.TheVariants.{Text, Limit, Range, NoMemory}

-- an image, a join, or all kept bounds of a widening: no zone has an external list
abbrev pub IsZonePart : Part → Type 0
IsZonePart (Edge k) = Unit {0}
IsZonePart (Sum k) = Unit {0}
IsZonePart Head = Unit {0}
IsZonePart (Polar i k) = ⊥
IsZonePart (Kept k) = Unit {0}

-- never for too many rows, which no zone has; and never behind the analysis
abbrev pub IsZoneRefusal : Refusal → Type 0
IsZoneRefusal (Text fault) = Unit {0}
IsZoneRefusal (Limit stop) = ⊥
IsZoneRefusal (Range (At place)) = IsZonePart place.part
IsZoneRefusal (Range (Rows k)) = ⊥
IsZoneRefusal (Range (PolarStop i k)) = ⊥
IsZoneRefusal (Range (Lean k j)) = ⊥
IsZoneRefusal (Range (PointPolar p i k)) = ⊥
IsZoneRefusal NoMemory = Unit {0}
