-- The line of a status, written piece by piece.
use Rattle.std.proofs.Common.{◌≡◌, Bool, false, if◌then◌else◌, codes, ℕ, List, [], ◌++◌, Result, Ok, Err, inl, inr, sym, ap, ◌∙◌}
use Rattle.trop_io.specs.Whole.{WritesAll}
use Rattle.trop_io.specs.Faults.{HasCause}
use Rattle.trop_io.specs.declared.write.WriteFault.{WriteFault}
use Rattle.tplib_cmd.specs.Streams.{Output, IsReported}
use Rattle.tplib_cmd.specs.Status.{is_answered, status_words, status_details, line_of}
use Rattle.tplib_cmd.specs.declared.status.Status.{Status}

-- the line of a status that is no answer
pub line_said : (status : Status) (answered : Bool) → answered ≡ is_answered status → answered ≡ false →
    codes "tplib: " ++ (status_words status ++ (status_details status ++ codes "\n")) ≡ line_of status
line_said status answered e f = ap (λ b. if b then [] else codes "tplib: "
    ++ (status_words status ++ (status_details status ++ codes "\n"))) (sym f ∙ e)

-- what a caller of the report is told
pub reported : (before after : Output) (line : List ℕ) (r : Result (Unit {0}) WriteFault) →
    WritesAll before.bytes after.bytes line r → HasCause before.faults after.faults r → IsReported before after line
reported before after line (Ok done) w h = inl w
reported before after line (Err fault) w h = inr (w.0, w.1, w.2, h.failed)
