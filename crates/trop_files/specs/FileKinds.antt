-- The kinds of files by their words.
use Rattle.std.specs.Prelude.{ℕ, List, codes}
use Rattle.trop_files.specs.declared.file_kind.FileKind.{FileKind}
use Rattle.trop_files.specs.declared.file_kind.FileKind.TheVariants.{Ineqs, Gens, Pair, At}

abbrev pub word_of : FileKind → List ℕ
word_of Ineqs = codes "ineqs"
word_of Gens = codes "gens"
word_of Pair = codes "pair"
word_of At = codes "at"
