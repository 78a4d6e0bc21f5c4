-- What stands before the program, as the reader holds it.
use Rattle.std.specs.Prelude.{◌≡◌, ℕ, false, Option, Some, None}
use Rattle.report_texts.specs.Modes as modes
use Rattle.report_texts.specs.Heads as spec
use Rattle.report_reading.specs.declared.head.Version.{Version}
use Rattle.report_reading.specs.declared.head.Version.TheVariants as versions
use Rattle.report_reading.specs.declared.head.Mode.{Mode}
use Rattle.report_reading.specs.declared.head.Mode.TheVariants as words
use Rattle.report_reading.specs.declared.head.Head.{Head}

abbrev pub version_of : Version → ℕ
version_of versions.First = 1
version_of versions.Second = 2

-- the version of the number, if it is one
abbrev pub IsKnown : ℕ → Option Version → Type 0
IsKnown n None = spec.is_version n ≡ false
IsKnown n (Some v) = n ≡ version_of v

abbrev pub mode_of : Mode → modes.Mode
mode_of words.Max = modes.InMax
mode_of words.Min = modes.InMin

abbrev pub head_of : Head → spec.Head
head_of h = record { mode = mode_of h.mode; delay = h.delay; narrow = h.narrow; passes = h.passes }
