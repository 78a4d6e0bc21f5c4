-- The exit statuses, and the line that each status writes to the stream of errors.
use Rattle.std.specs.Prelude.{ℕ, Bool, true, false, if◌then◌else◌, List, [], ◌++◌, codes}
use Rattle.tplib_reply.specs.FaultTexts.{fault_text}
use Rattle.tplib_reply.specs.StopTexts.{stop_text}
use Rattle.tplib_cmd.specs.declared.status.Status.{Status}
use Rattle.tplib_cmd.specs.declared.status.Status.TheVariants.{Done, No, BadWords, Text, TooLong, Limit, Range, ReadFault, WriteFault, NoMemory}

abbrev pub code_of : Status → ℕ
code_of Done = 0
code_of No = 1
code_of BadWords = 2
code_of (Text fault) = 3
code_of TooLong = 3
code_of (Limit stop) = 4
code_of (Range stop) = 5
code_of ReadFault = 6
code_of WriteFault = 7
code_of NoMemory = 8

-- what a status says
abbrev pub status_words : Status → List ℕ
status_words Done = []
status_words No = []
status_words BadWords = codes "bad words"
status_words (Text fault) = []
status_words TooLong = codes "input longer than 4194304 bytes"
status_words (Limit stop) = codes "limit:"
status_words (Range stop) = codes "range:"
status_words ReadFault = codes "read failed"
status_words WriteFault = codes "write failed"
status_words NoMemory = codes "out of memory"

-- and of what
abbrev pub status_details : Status → List ℕ
status_details (Text fault) = fault_text fault
status_details (Limit stop) = stop_text stop
status_details (Range stop) = stop_text stop
status_details _ = []

-- the answer was written whole
abbrev pub is_answered : Status → Bool
is_answered Done = true
is_answered No = true
is_answered _ = false

-- the line that a status writes to the stream of errors: none with an answer
abbrev pub line_of : Status → List ℕ
line_of status = if is_answered status then [] else codes "tplib: "
    ++ (status_words status ++ (status_details status ++ codes "\n"))
