use Rattle.trop_files.specs.Views.{header_of}
use Rattle.trop_spelling.specs.declared.ring_kind.RingKind.TheVariants.{Max as MaxKind, Min as MinKind, Bool as BoolKind}
use Rattle.trop_scalar.specs.MaxPlus.{max_ring, max_numbering}
use Rattle.trop_scalar.specs.MinPlus.{min_ring}
use Rattle.trop_scalar.specs.Truth.{truth_ring, truth_numbering}
use Rattle.trop_files.proofs.LineFiles.{behind_header, opened}
use Rattle.trop_files.proofs.ineq_lines.any_lines.Goals as goal

pub lines-requires-clause-behind : goal.lines-requires-clause-behind
lines-requires-clause-behind c = behind_header MaxKind max_ring max_numbering c.args.bytes.now
    (header_of c.args.header) _ c.requires.headed c.in-Max.is

pub lines-requires-in-Min-clause-behind : goal.lines-requires-in-Min-clause-behind
lines-requires-in-Min-clause-behind c = behind_header MinKind min_ring max_numbering c.args.bytes.now
    (header_of c.args.header) _ c.requires.headed c.in-Min.is

pub lines-requires-in-Bool-clause-behind : goal.lines-requires-in-Bool-clause-behind
lines-requires-in-Bool-clause-behind c = behind_header BoolKind truth_ring truth_numbering c.args.bytes.now
    (header_of c.args.header) _ c.requires.headed c.in-Bool.is

pub returns-in-Max : goal.returns-in-Max
returns-in-Max c = opened MaxKind max_ring max_numbering c.args.bytes.now
    (header_of c.args.header) _ c.requires.headed c.in-Max.is c.lines.result c.lines.ensures

pub returns-in-Min : goal.returns-in-Min
returns-in-Min c = opened MinKind min_ring max_numbering c.args.bytes.now
    (header_of c.args.header) _ c.requires.headed c.in-Min.is c.lines-in-Min.result c.lines-in-Min.ensures

pub returns-in-Bool : goal.returns-in-Bool
returns-in-Bool c = opened BoolKind truth_ring truth_numbering c.args.bytes.now
    (header_of c.args.header) _ c.requires.headed c.in-Bool.is c.lines-in-Bool.result c.lines-in-Bool.ensures
