-- What a command on two cones answers, and why it does not.
use Rattle.std.specs.Prelude.{◌+◌, ℕ, Bool, List, length}
use Rattle.trop_theory.specs.Semiring.{Semiring}
use Rattle.trop_theory.specs.Numbers.{Numbering}
use Rattle.trop_spelling.specs.declared.ring_kind.RingKind.{RingKind}
use Rattle.tplib_reply.specs.declared.stop.Stop.{Stop}
use Rattle.tplib_reply.specs.declared.refusal.Refusal.{Refusal}
use Rattle.tplib_reply.specs.declared.refusal.Refusal.TheVariants.{Text, Limit, Range, NoMemory}
use Rattle.tplib_reply.specs.Meaning.{Cause, OverLimit, OutOfRange}
use Rattle.tplib_poly.specs.declared.pair.PairCommand.{PairCommand}
use Rattle.tplib_poly.specs.Pairs.{PairStops, PairAnswers}

module _ (command : PairCommand) {V : Type 0} (kind : RingKind) (R : Semiring V) (N : Numbering V)
    (names : List (List ℕ)) (cone other : List V → Type 0) where
  -- nothing stops the computation on the two cones, and this is the answer
  pub record IsConesReply (says : Bool) (text : List ℕ) : Type 0 where
    pub unstopped : (cause : Cause) (stop : Stop) → PairStops command R (length names + 1) cone other cause stop → ⊥
    pub answer : PairAnswers command kind R N names cone other says text

  -- why there is no answer; want of memory is free
  abbrev pub IsConesRefusal : Refusal → Type 0
  IsConesRefusal (Text fault) = ⊥
  IsConesRefusal (Limit stop) = PairStops command R (length names + 1) cone other OverLimit stop
  IsConesRefusal (Range stop) = PairStops command R (length names + 1) cone other OutOfRange stop
  IsConesRefusal NoMemory = Unit {0}
