-- How a run ends.
use Rattle.std.specs.Prelude.{◌≡◌, ◌⊎◌, ℕ, Bool, true, false, List}
use Rattle.trop_io.specs.Faults.{Rose}
use Rattle.trop_words.specs.declared.command.Command.{Command}
use Rattle.tplib_reply.specs.declared.refusal.Refusal.{Refusal}
use Rattle.tplib_reply.specs.declared.refusal.Refusal.TheVariants as refusals
use Rattle.tplib_reply.specs.Meaning.{IsAnswered, IsRefused, IsRunnable}
use Rattle.tplib_cmd.specs.declared.status.Status.{Status}
use Rattle.tplib_cmd.specs.declared.status.Status.TheVariants.{Done, No, BadWords, Text, TooLong, Limit, Range, ReadFault, WriteFault, NoMemory}
use Rattle.tplib_cmd.specs.Commands.{IsCommand, reads, meaning_of}
use Rattle.tplib_cmd.specs.Streams.{Input, Output, IsInput, IsInputInPart, IsTooLong, IsReadFault, HasInput, IsUntouched, IsSame, IsWritten, IsCutShort}

-- the input and the output of a run, before and after it
pub record Run : Type 0 where
  pub in_before : Input
  pub in_after : Input
  pub out_before : Output
  pub out_after : Output

-- the same of a source and a sink
abbrev pub run_of : {I O : Type 0} → (I → Input) → (O → Output) → I → I → O → O → Run
run_of input output source source_after sink sink_after =
    record {
      in_before = input source;
      in_after = input source_after;
      out_before = output sink;
      out_after =
          output sink_after;
    }

-- the whole answer to the bytes of the input, which says yes or no, was written
pub record EndsWell (command : Command) (run : Run) (yes : Bool) : Type 0 where
  pub bytes : List ℕ
  pub text : List ℕ
  pub input : IsInput (reads command) run.in_before run.in_after bytes
  pub answered : IsAnswered (meaning_of command) bytes yes text
  pub written : IsWritten run.out_before run.out_after text

-- the same, but a write failed
pub record EndsInWrite (command : Command) (run : Run) : Type 0 where
  pub bytes : List ℕ
  pub text : List ℕ
  pub yes : Bool
  pub input : IsInput (reads command) run.in_before run.in_after bytes
  pub answered : IsAnswered (meaning_of command) bytes yes text
  pub cut : IsCutShort run.out_before run.out_after text

-- there is no answer to the bytes of the input, for this cause, and nothing was written
pub record EndsEarly (command : Command) (run : Run) (refusal : Refusal) : Type 0 where
  pub bytes : List ℕ
  pub input : IsInput (reads command) run.in_before run.in_after bytes
  pub refused : IsRefused (meaning_of command) bytes refusal
  pub unwritten : IsSame run.out_before run.out_after

-- How a run of the command ends: what was read, what was written, and why.
abbrev pub Ends : Command → Run → Status → Type 0
Ends command run Done = EndsWell command run true
Ends command run No = EndsWell command run false
Ends command run BadWords = ⊥
Ends command run (Text fault) = EndsEarly command run (refusals.Text fault)
Ends command run TooLong = IsTooLong (reads command) run.in_before run.in_after × IsSame run.out_before run.out_after
Ends command run (Limit stop) = EndsEarly command run (refusals.Limit stop)
Ends command run (Range stop) = EndsEarly command run (refusals.Range stop)
Ends command run ReadFault = IsReadFault (reads command) run.in_before run.in_after
    × IsSame run.out_before run.out_after
Ends command run WriteFault = EndsInWrite command run
Ends command run NoMemory = IsInputInPart (reads command) run.in_before run.in_after
    × IsSame run.out_before run.out_after

-- The same of any words: `BadWords` exactly where they spell no command. Then nothing was touched.
abbrev pub EndsWith : List (List ℕ) → Run → Status → Type 0
EndsWith words run status =
    ((command : Command) × IsCommand words command × Ends command run status)
    ⊎ ((status ≡ BadWords) × ((command : Command) → IsCommand words command → ⊥)
    × IsUntouched run.in_before run.in_after × IsSame run.out_before run.out_after)

-- the command has these bytes from its input, they spell something for it, and nothing stops it there
pub record IsReady (command : Command) (run : Run) (bytes : List ℕ) : Type 0 where
  pub input : HasInput (reads command) run.in_before run.in_after bytes
  pub runnable : IsRunnable (meaning_of command) bytes

-- the words spell a command, its input is in order for it, and no write fails
pub record IsInOrder (words : List (List ℕ)) (run : Run) : Type 0 where
  pub bytes : List ℕ
  pub some : (command : Command) × IsCommand words command
  pub each : (command : Command) → IsCommand words command → IsReady command run bytes
  pub calm_out : Rose run.out_before.faults run.out_after.faults → ⊥

-- an answer, or want of memory
abbrev pub IsAnswer : Status → Type 0
IsAnswer Done = Unit {0}
IsAnswer No = Unit {0}
IsAnswer NoMemory = Unit {0}
IsAnswer BadWords = ⊥
IsAnswer (Text fault) = ⊥
IsAnswer TooLong = ⊥
IsAnswer (Limit stop) = ⊥
IsAnswer (Range stop) = ⊥
IsAnswer ReadFault = ⊥
IsAnswer WriteFault = ⊥
