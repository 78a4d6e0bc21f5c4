-- The external list of a cone: the file of it, where it stops, and why there is none.
use Rattle.std.specs.Prelude.{◌≡◌, ◌↔◌, ◌+◌, ℕ, List, length}
use Rattle.trop_theory.specs.Semiring.{Semiring}
use Rattle.trop_theory.specs.Numbers.{Numbering}
use Rattle.trop_theory.specs.Inequalities.{Inequality, Solves}
use Rattle.trop_theory.specs.Canonical.{IsCanonical}
use Rattle.trop_duality.specs.External.{IsExternal}
use Rattle.trop_duality.specs.PolarStops.{IsPolarStop}
use Rattle.trop_spelling.specs.declared.ring_kind.RingKind.{RingKind}
use Rattle.trop_files.specs.PrintedFiles.{printed_ineqs}
use Rattle.tplib_reply.specs.declared.stop.Stop.TheVariants.{Polar}
use Rattle.tplib_reply.specs.declared.refusal.Refusal.{Refusal}
use Rattle.tplib_reply.specs.declared.refusal.Refusal.TheVariants.{Limit, NoMemory}

-- The text is the file of the external list of the cone. The solutions of the inequalities that it prints are just the
-- cone.
pub record IsBoundsFile {V : Type 0} (kind : RingKind) (R : Semiring V) (N : Numbering V) (names : List (List ℕ))
    (cone : List V → Type 0) (text : List ℕ) : Type 0 where
  pub bounds : List (Inequality V)
  pub external : IsExternal R (length names + 1) cone bounds
  pub solved : (x : List V) → cone x ↔ Solves R (length names + 1) bounds x
  pub printed : text ≡ printed_ineqs kind N names bounds

-- the external list of the cone stops at the polar of coordinate i of the first k rows of its canonical list
pub record IsBoundsStop {V : Type 0} (R : Semiring V) (n : ℕ) (cone : List V → Type 0) (i k : ℕ) : Type 0 where
  pub rows : List (List V)
  pub canonical : IsCanonical R cone rows
  pub stop : IsPolarStop R n rows i k

-- The external list of the cone does not stop, and this is it. Its solutions are just the cone.
pub record AreBoundsOf {V : Type 0} (R : Semiring V) (n : ℕ) (cone : List V → Type 0)
    (bounds : List (Inequality V)) : Type 0 where
  pub unstopped : (i k : ℕ) → IsBoundsStop R n cone i k → ⊥
  pub external : IsExternal R n cone bounds
  pub solved : (x : List V) → cone x ↔ Solves R n bounds x

-- why there is no external list of the cone; want of memory is free
abbrev pub IsBoundsRefusal : {V : Type 0} → Semiring V → ℕ → (List V → Type 0) → Refusal → Type 0
IsBoundsRefusal R n cone (Limit (Polar i k)) = IsBoundsStop R n cone i k
IsBoundsRefusal R n cone NoMemory = Unit {0}
IsBoundsRefusal R n cone _ = ⊥
