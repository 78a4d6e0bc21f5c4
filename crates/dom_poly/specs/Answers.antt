-- What comes of a set of vectors, as a cone and as a value without a kept list.
use Rattle.std.specs.Prelude.{◌≡◌, ◌≤◌, ◌<◌, ℕ, List, Result, Ok, Err, None}
use Rattle.trop_theory.specs.Semiring.{Semiring}
use Rattle.trop_theory.specs.Vectors.{rows_size}
use Rattle.trop_theory.specs.Canonical.{IsOverLimit}
use Rattle.trop_cones.specs.Represents.{Represents}
use Rattle.trop_poly.specs.Cones.{Cone}
use Rattle.trop_poly.specs.declared.error.PolyErr.{PolyErr}
use Rattle.trop_poly.specs.declared.error.PolyErr.TheVariants as cones
use Rattle.dom_core.specs.declared.error.At.TheVariants as ats
use Rattle.dom_core.specs.declared.error.DomErr.{DomErr}
use Rattle.dom_core.specs.declared.error.DomErr.TheVariants.{Limit, Range, NoMemory}
use Rattle.dom_theory.specs.Relations.{Cause}
use Rattle.cone_domain.specs.Values.{Value, IsFreshFor}
use Rattle.cone_domain.specs.Refused.{most_value, IsTooLarge, IsRefusedFor}
use Rattle.dom_poly.specs.Views.{value_of}

-- the cone of the set, which is over the limit where none comes
abbrev pub IsConeFor : {V : Type 0} → Semiring V → ℕ → (List V → Type 0) → Result (Cone V) PolyErr → Type 0
IsConeFor R n vectors (Ok cone) = (cone.n ≡ n) × Represents R n vectors cone.rows
IsConeFor R n vectors (Err (cones.Rows k)) = IsOverLimit R vectors
IsConeFor R n vectors (Err (cones.Polar i k)) = ⊥
IsConeFor R n vectors (Err cones.NoMemory) = Unit {0}

-- a refusal of the whole
abbrev pub at_whole : PolyErr → DomErr
at_whole (cones.Rows k) = Limit ats.Whole
at_whole (cones.Polar i k) = Limit (ats.Polar i k)
at_whole cones.NoMemory = NoMemory

-- a refusal in a part of a widening
abbrev pub at_part : PolyErr → DomErr
at_part (cones.Rows k) = Limit (ats.Kept k)
at_part (cones.Polar i k) = Limit (ats.Polar i k)
at_part cones.NoMemory = NoMemory

-- the cone as a value where its numbers are small; else it is refused
abbrev pub IsFitted : {V : Type 0} → Semiring V → Cone V → Result (Value V) DomErr → Type 0
IsFitted R cone (Ok v) = (v ≡ value_of cone None) × (rows_size R cone.rows ≤ most_value)
IsFitted R cone (Err (Range ats.Whole)) = most_value < rows_size R cone.rows
IsFitted R cone (Err (Range (ats.Polar i k))) = ⊥
IsFitted R cone (Err (Range (ats.Kept k))) = ⊥
IsFitted R cone (Err (Limit at)) = ⊥
IsFitted R cone (Err NoMemory) = ⊥

-- the same of a cone that may be refused
abbrev pub IsFittedFrom : {V : Type 0} → Semiring V → Result (Cone V) PolyErr → Result (Value V) DomErr → Type 0
IsFittedFrom R (Ok cone) result = IsFitted R cone result
IsFittedFrom R (Err err) result = result ≡ Err (at_whole err)

-- the value of the set, or why it is refused
abbrev pub IsValueFor : {V : Type 0} → Semiring V → ℕ → (List V → Type 0) → Result (Value V) DomErr → Type 0
IsValueFor R vars vectors (Ok v) = IsFreshFor R vars vectors v × ((cause : Cause) → IsRefusedFor R vectors cause → ⊥)
IsValueFor R vars vectors (Err (Limit at)) = (at ≡ ats.Whole) × IsOverLimit R vectors
IsValueFor R vars vectors (Err (Range at)) = (at ≡ ats.Whole) × IsTooLarge R vectors
IsValueFor R vars vectors (Err NoMemory) = Unit {0}
