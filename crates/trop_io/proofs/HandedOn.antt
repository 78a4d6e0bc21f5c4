-- Answers of a stream of std that are handed on.
use Rattle.std.proofs.Common.{◌<◌, ◌≤◌, ℕ, zero, suc, Option, Some, None, Result, arith}
use Rattle.trop_io.specs.Counted.{Counted, IsHandedOn, IsTaken, HandsOnPiece, HandsOnWrite}
use Rattle.trop_io.specs.declared.fault.Failed.{Failed}

-- a piece that isn't empty
pub piece_handed_on : {T : Type 0} (answers : T → Option ℕ → T → Type 0) (old new : Counted T) (n : ℕ)
    (result : Result ℕ Failed) → 0 < n → HandsOnPiece answers old new result → HandsOnWrite answers old new n result
piece_handed_on answers old new zero result l h = absurd (omega arith)
piece_handed_on answers old new (suc k) result l h = h

-- a write that took some bytes
pub IsTaken-some : (before now count : ℕ) (result : Result ℕ Failed) → 0 < count →
    IsHandedOn before now (Some count) result → IsTaken before now (Some count) result
IsTaken-some before now zero result l h = absurd (omega arith)
IsTaken-some before now (suc k) result l h = h

-- a write that took none
pub IsTaken-none : (before now count : ℕ) (result : Result ℕ Failed) → count ≤ 0 → IsHandedOn before now None result →
    IsTaken before now (Some count) result
IsTaken-none before now zero result l h = h
IsTaken-none before now (suc k) result l h = absurd (omega arith)
