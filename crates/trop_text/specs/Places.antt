-- The places of faults.
use Rattle.std.specs.Prelude.{ℕ, ◌+◌, List, [], ◌∷◌}
use Rattle.trop_text.specs.Lines.{line_count, end_column}
use Rattle.trop_text.specs.Pieces.{Piece, Token, LineEnd, InputEnd}
use Rattle.trop_text.specs.declared.fault.Fault.{Fault}
use Rattle.trop_text.specs.declared.fault.FaultKind.{FaultKind}
use Rattle.trop_text.specs.Faults.{fault}

-- A fault at a piece of a text: a token has its own place; the end of a line stands one past the line's last byte; the
-- end of the input stands at the first column of the line after the last.
abbrev pub fault_at : List ℕ → FaultKind → Piece → Fault
fault_at bytes kind (Token t) = fault kind t.line t.column
fault_at bytes kind (LineEnd line) = fault kind line (end_column bytes line)
fault_at bytes kind InputEnd = fault kind (line_count bytes + 1) 1

-- a fault at the first of the pieces that are left
abbrev pub fault_before : List ℕ → FaultKind → List Piece → Fault
fault_before bytes kind [] = fault_at bytes kind InputEnd
fault_before bytes kind (p ∷ ps) = fault_at bytes kind p
