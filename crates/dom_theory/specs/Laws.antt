-- What every domain keeps.
use Rattle.std.specs.Prelude.{◌≡◌, ◌^◌, ◌<◌, ◌≤◌, ℕ, length}
use Rattle.prog_theory.specs.Edges.{Op}
use Rattle.prog_theory.specs.States.{State}
use Rattle.prog_theory.specs.Walks.{Leads}
use Rattle.dom_theory.specs.Refusals.{At}
use Rattle.dom_theory.specs.Refusals.{Whole}
use Rattle.dom_theory.specs.Relations.{Relations, Call, Apply, Join, Widen, Cause}

-- Each operation keeps the number of variables.
pub record VarsLaws {V : Type 0} (D : Relations V) : Type 0 where
  pub bottom : (n : ℕ) → D.vars (D.bottom n) ≡ n
  pub top : (n : ℕ) → D.vars (D.top n) ≡ n
  pub applied : (op : Op) (x y : V) → D.applied op x y → D.vars y ≡ D.vars x
  pub joined : (x other y : V) → D.joined x other y → D.vars x ≡ D.vars other → D.vars y ≡ D.vars x
  pub widened : (x next y : V) → D.widened x next y → D.vars x ≡ D.vars next → D.vars y ≡ D.vars x

-- A call gives one value at most, and is refused for one cause at one part at most.
pub record OneAnswer {V : Type 0} (D : Relations V) : Type 0 where
  pub applied : (op : Op) (x y z : V) → D.applied op x y → D.applied op x z → y ≡ z
  pub joined : (x other y z : V) → D.joined x other y → D.joined x other z → y ≡ z
  pub widened : (x next y z : V) → D.widened x next y → D.widened x next z → y ≡ z
  pub cause : (call : Call V) (c d : Cause) (a b : At) → D.refused call c a → D.refused call d b → c ≡ d
  pub part : (call : Call V) (c d : Cause) (a b : At) → D.refused call c a → D.refused call d b → a ≡ b

-- Images, joins and wider values have the states that they must have.
pub record StateLaws {V : Type 0} (D : Relations V) : Type 0 where
  pub none : (n : ℕ) (s : State) → D.has (D.bottom n) s → ⊥
  pub all : (n : ℕ) (s : State) → length s ≡ n → D.has (D.top n) s
  pub within : (x y : V) (s : State) → D.within x y → D.has x s → D.has y s
  pub applied : (op : Op) (x y : V) (s t : State) → D.applied op x y → D.has x s → Leads op s t → D.has y t
  pub left : (x other y : V) (s : State) → D.joined x other y → D.has x s → D.has y s
  pub right : (x other y : V) (s : State) → D.joined x other y → D.has other s → D.has y s

-- A widening lowers the width, which is at most 2^32 on as many variables as a value may have, and what has left a
-- value is more than bottom.
pub record WidthLaws {V : Type 0} (D : Relations V) (most : ℕ) : Type 0 where
  pub bounded : (x : V) → D.width x ≤ D.max_width (D.vars x)
  pub small : (n : ℕ) → n ≤ most → D.max_width n ≤ 2 ^ 32
  pub falls : (x next y : V) → D.widened x next y → D.width y < D.width x
  pub joined : (x other y : V) → D.joined x other y → (D.within other x → ⊥) → y ≡ D.bottom (D.vars y) → ⊥
  pub widened : (x next y : V) → D.widened x next y → y ≡ D.bottom (D.vars y) → ⊥

-- Images and joins are refused as a whole, widenings in a part.
pub record PartLaws {V : Type 0} (D : Relations V) : Type 0 where
  pub applied : (op : Op) (x : V) (cause : Cause) (part : At) → D.refused (Apply op x) cause part → part ≡ Whole
  pub joined : (x other : V) (cause : Cause) (part : At) → D.refused (Join x other) cause part → part ≡ Whole
  pub widened : (x next : V) (cause : Cause) → D.refused (Widen x next) cause Whole → ⊥

-- of a domain whose values have at most so many variables
pub record DomainLaws {V : Type 0} (D : Relations V) (most : ℕ) : Type 0 where
  pub vars : VarsLaws D
  pub one : OneAnswer D
  pub parts : PartLaws D
  pub states : StateLaws D
  pub widths : WidthLaws D most
