-- A stream of std with the number of its errors, and what it makes of the answer to one call.
use Rattle.std.specs.Prelude.{◌≡◌, ℕ, zero, suc, Option, Some, None, Result, Ok, Err}
use Rattle.trop_io.specs.Faults.{next_count}
use Rattle.trop_io.specs.declared.fault.Failed.{Failed}

pub record Counted (T : Type 0) : Type 0 where
  pub end : T
  pub faults : ℕ

-- how many bytes the stream moved, or none where it gave an error: a count is handed on, and an error is counted
abbrev pub IsHandedOn : ℕ → ℕ → Option ℕ → Result ℕ Failed → Type 0
IsHandedOn before now (Some count) result = (result ≡ Ok count) × (now ≡ before)
IsHandedOn before now None result = (result ≡ Err (record {})) × (now ≡ next_count before)

-- the same, where a write that took no byte counts as an error
abbrev pub IsTaken : ℕ → ℕ → Option ℕ → Result ℕ Failed → Type 0
IsTaken before now (Some zero) result = IsHandedOn before now None result
IsTaken before now (Some (suc k)) result = IsHandedOn before now (Some (suc k)) result
IsTaken before now None result = IsHandedOn before now None result

-- A read of the stream answered, as `answers` says, and its answer was handed on.
pub record HandsOnRead {T : Type 0} (answers : T → Option ℕ → T → Type 0) (old new : Counted T)
    (result : Result ℕ Failed) : Type 0 where
  pub answer : Option ℕ
  pub given : answers old.end answer new.end
  pub handed_on : IsHandedOn old.faults new.faults answer result

-- The same of a write. An empty piece isn't handed on.
pub record HandsOnPiece {T : Type 0} (answers : T → Option ℕ → T → Type 0) (old new : Counted T)
    (result : Result ℕ Failed) : Type 0 where
  pub answer : Option ℕ
  pub given : answers old.end answer new.end
  pub handed_on : IsTaken old.faults new.faults answer result

abbrev pub HandsOnWrite : {T : Type 0} → (T → Option ℕ → T → Type 0) → Counted T → Counted T → ℕ → Result ℕ Failed →
    Type 0
HandsOnWrite answers old new zero result = (result ≡ Ok 0) × (new ≡ old)
HandsOnWrite answers old new (suc k) result = HandsOnPiece answers old new result
