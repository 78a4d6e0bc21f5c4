-- What ends a list of lines.
use Rattle.std.specs.Prelude.{Bool, codes}
use Rattle.trop_text.specs.Pieces.{Piece}
use Rattle.trop_files.specs.declared.list_end.ListEnd.{ListEnd}
use Rattle.trop_files.specs.declared.list_end.ListEnd.TheVariants.{Input, And, At}
use Rattle.trop_reading.specs.Words.{says, is_input_end}

abbrev pub ends : ListEnd → Piece → Bool
ends Input p = is_input_end p
ends And p = says (codes "and") p
ends At p = says (codes "at") p
