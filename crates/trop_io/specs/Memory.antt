-- Sources and sinks in memory.
use Rattle.std.specs.Prelude.{ℕ, ◌-◌, ◌||◌, ◌==◌, ◌++◌, min, List, Bool, length, take, drop, Result, Ok, Err, if◌then◌else◌}
use Rattle.std.specs.List.{list_any}
use Rattle.std.specs.Prelude.{nat_eq}
use Rattle.trop_io.specs.Faults.{next_count}
use Rattle.trop_io.specs.declared.fault.Failed.{Failed}

-- what is left, the greatest piece, the numbers of the calls that fail, the calls made, and the faults
pub record SourceState : Type 0 where
  pub left : List ℕ
  pub piece : ℕ
  pub failing : List ℕ
  pub calls : ℕ
  pub faults : ℕ

-- the call with the next number fails
abbrev pub fails_next : List ℕ → ℕ → Bool
fails_next failing calls = list_any (nat_eq (next_count calls)) failing

-- how many bytes a call gives: as many as the piece, the buffer and what is left allow
abbrev pub given : List ℕ → ℕ → ℕ → ℕ
given left piece room = min (min piece room) (length left)

-- what is left of a source that never fails, and the greatest piece
pub record SureState : Type 0 where
  pub left : List ℕ
  pub piece : ℕ

-- what a call leaves
abbrev pub source_after : SourceState → ℕ → SourceState
source_after s room =
    if fails_next s.failing s.calls
    then record {
      left = s.left;
      piece = s.piece;
      failing = s.failing;
      calls = next_count s.calls;
      faults =
          next_count s.faults;
    }
    else record {
      left = drop (given s.left s.piece room) s.left;
      piece = s.piece;
      failing = s.failing;
      calls =
          next_count s.calls;
      faults = s.faults;
    }

-- what a call answers
abbrev pub source_answer : SourceState → ℕ → Result ℕ Failed
source_answer s room = if fails_next s.failing s.calls then Err (record {}) else Ok (given s.left s.piece room)

-- what is held, how much may be, the greatest piece, the numbers of the calls that fail, the calls made, and the faults
pub record SinkState : Type 0 where
  pub bytes : List ℕ
  pub room : ℕ
  pub piece : ℕ
  pub failing : List ℕ
  pub calls : ℕ
  pub faults : ℕ

-- the call with the next number fails, or no room is left
abbrev pub refuses_next : SinkState → Bool
refuses_next s = fails_next s.failing s.calls || (length s.bytes == s.room)

abbrev pub taken_in : SinkState → List ℕ → ℕ
taken_in s from = min (min s.piece (length from)) (s.room - length s.bytes)

-- calls on an empty piece aren't numbered
abbrev pub sink_after : SinkState → List ℕ → SinkState
sink_after s from =
    if length from == 0 then s else (if refuses_next s
    then record {
      bytes = s.bytes;
      room = s.room;
      piece = s.piece;
      failing = s.failing;
      calls =
          next_count s.calls;
      faults = next_count s.faults;
    }
    else record {
      bytes = s.bytes ++ take (taken_in s from) from;
      room = s.room;
      piece = s.piece;
      failing =
          s.failing;
      calls = next_count s.calls;
      faults = s.faults;
    })

abbrev pub sink_answer : SinkState → List ℕ → Result ℕ Failed
sink_answer s from = if length from == 0 then Ok 0 else
    (if refuses_next s then Err (record {}) else Ok (taken_in s from))
