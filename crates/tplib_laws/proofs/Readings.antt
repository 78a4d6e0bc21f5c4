-- A text spells at most one file: gens_once, ineqs_once.
use Rattle.std.proofs.Common.{◌≡◌, List, [], Ok, Err, sym, ap, ◌∙◌}
use Rattle.trop_grammar.specs.Reading.{Reading}
use Rattle.trop_grammar.specs.Reads.{Reads, Anything}
use Rattle.trop_text.specs.Pieces.{Piece}
use Rattle.trop_files.specs.Generators.{GeneratorFile, SpellsGenerators}
use Rattle.trop_files.specs.InequalityFiles.{InequalityFile, SpellsInequalities}
use Rattle.trop_files.proofs.FileLaws.{generator_file_reads}
use Rattle.trop_files.proofs.InequalityFileLaws.{inequality_file_reads}

abbrev value_or : {T W A : Type 0} → A → Reading T W A → A
value_or x (Ok p) = p.0
value_or x (Err miss) = x

once : {T W A : Type 0} {r : List T → Reading T W A} {R : List T → A → Type 0} → Reads Anything r R → (us : List T)
    (x y : A) → R us x → R us y → y ≡ x
once law us x y h k = ap (value_or x) (sym (law.reads us [] y k tt) ∙ law.reads us [] x h tt)

pub gens_once : (us : List Piece) (file other : GeneratorFile) → SpellsGenerators us file → SpellsGenerators us other →
    other ≡ file
gens_once us file other h k = once generator_file_reads us file other h k

pub ineqs_once : (us : List Piece) (file other : InequalityFile) → SpellsInequalities us file →
    SpellsInequalities us other → other ≡ file
ineqs_once us file other h k = once inequality_file_reads us file other h k
