-- What a command means: what its input says, which faults it may have, what the answer is, and where there is none.
use Rattle.std.specs.Prelude.{◌⊎◌, ℕ, Bool, true, false, List}
use Rattle.trop_text.specs.declared.fault.Fault.{Fault}
use Rattle.tplib_reply.specs.declared.stop.Stop.{Stop}
use Rattle.tplib_reply.specs.declared.stop.Stop.TheVariants.{Rows, Polar}
use Rattle.tplib_reply.specs.declared.refusal.Reply.{Reply}
use Rattle.tplib_reply.specs.declared.refusal.Refusal.{Refusal}
use Rattle.tplib_reply.specs.declared.refusal.Refusal.TheVariants.{Text, Limit, Range, NoMemory}

-- why a computation stops: a cone or a list would have too many rows, or a value numbers of too great a size
pub data Cause : Type 0 where
  OverLimit : Cause
  OutOfRange : Cause

-- The meaning of a command. What its input says is of the type A.
pub record Meaning (A : Type 0) : Type 1 where
  -- the bytes spell this
  pub spells : List ℕ → A → Type 0
  -- the bytes spell nothing, and this is their first fault
  pub faulty : List ℕ → Fault → Type 0
  -- the computation stops for this cause, there
  pub stops : A → Cause → Stop → Type 0
  -- the answer says yes or no, and has this text
  pub answers : A → Bool → List ℕ → Type 0

module _ {A : Type 0} (M : Meaning A) where
  -- the bytes are answered with this, and nothing stops the computation
  pub record IsAnswered (bytes : List ℕ) (yes : Bool) (text : List ℕ) : Type 0 where
    pub said : A
    pub spelled : M.spells bytes said
    pub unstopped : (cause : Cause) (stop : Stop) → M.stops said cause stop → ⊥
    pub answer : M.answers said yes text

  abbrev pub IsReply : List ℕ → Reply → Type 0
  IsReply bytes reply = IsAnswered bytes reply.yes reply.text.items

  -- the computation on what the bytes say stops there
  pub record IsStopped (bytes : List ℕ) (cause : Cause) (stop : Stop) : Type 0 where
    pub said : A
    pub spelled : M.spells bytes said
    pub stops : M.stops said cause stop

  -- why there is no answer; want of memory is free
  abbrev pub IsRefused : List ℕ → Refusal → Type 0
  IsRefused bytes (Text fault) = M.faulty bytes fault
  IsRefused bytes (Limit stop) = IsStopped bytes OverLimit stop
  IsRefused bytes (Range stop) = IsStopped bytes OutOfRange stop
  IsRefused bytes NoMemory = Unit {0}

  -- the bytes spell something, and whatever they spell, nothing stops the computation
  pub record IsRunnable (bytes : List ℕ) : Type 0 where
    pub said : A
    pub spelled : M.spells bytes said
    pub unstopped : (other : A) → M.spells bytes other → (cause : Cause) (stop : Stop) → M.stops other cause stop → ⊥

-- The same meaning, with faults of what the bytes say. They are told behind all others, and what has one counts as
-- nothing that is spelled.
abbrev pub with_late : {A : Type 0} → Meaning A → (A → Fault → Type 0) → Meaning A
with_late {A} M late = record {
  spells = λ bytes said. M.spells bytes said × ((fault : Fault) → late said fault → ⊥);
  faulty = λ bytes fault. M.faulty bytes fault ⊎ ((said : A) × M.spells bytes said × late said fault);
  stops = M.stops;
  answers = M.answers;
}

-- no stop
abbrev pub never : {A : Type 0} → A → Cause → Stop → Type 0
never said cause stop = ⊥

-- a stop at the limit alone, at the first k of the inequalities that are taken one after another
abbrev pub at_rows : {A : Type 0} → (A → ℕ → Type 0) → A → Cause → Stop → Type 0
at_rows rows said OverLimit (Rows k) = rows said k
at_rows rows said _ stop = ⊥

-- the same, or a stop at the polar of coordinate i, of the first k rows of a cone
abbrev pub at_rows_or_polars : {A : Type 0} → (A → ℕ → Type 0) → (A → ℕ → ℕ → Type 0) → A → Cause → Stop → Type 0
at_rows_or_polars rows polars said OverLimit (Rows k) = rows said k
at_rows_or_polars rows polars said OverLimit (Polar i k) = polars said i k
at_rows_or_polars rows polars said _ stop = ⊥

-- an answer that says yes, and never no
abbrev pub always_yes : {A : Type 0} → (A → List ℕ → Type 0) → A → Bool → List ℕ → Type 0
always_yes text_of said true text = text_of said text
always_yes text_of said false text = ⊥
