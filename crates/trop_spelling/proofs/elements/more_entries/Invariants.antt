use Rattle.std.proofs.Common.{◌≡◌, ◌+◌, ◌-◌, vec_len}
use Rattle.trop_grammar.specs.Reading.{repeat_at}
use Rattle.trop_text.specs.Pieces.{pieces_left, pieces_source}
use Rattle.trop_spelling.specs.Elements.{next_entry_at}
use Rattle.trop_spelling.proofs.elements.more_entries.Given as goal

abbrev pub invariant-entries : goal.invariant-entries
invariant-entries g l = record {
  reading : repeat_at (next_entry_at g.S.Spelling.KIND g.S.Scalar.ring g.S.Scalar.numbering l.bound)
      (l.count - l.counter) l.row.items (pieces_left l.rest) ≡ repeat_at
      (next_entry_at g.S.Spelling.KIND g.S.Scalar.ring g.S.Scalar.numbering l.bound) l.count l.fn.row.items
      (pieces_left l.at);
  source : pieces_source l.rest ≡ pieces_source l.at;
  length : vec_len l.row ≡ vec_len l.fn.row + l.counter;
}
