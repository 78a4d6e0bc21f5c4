use Rattle.std.proofs.Common.{◌≡◌, codes, length}
use Rattle.trop_grammar.specs.Lists.{separated_at}
use Rattle.trop_text.specs.Pieces.{pieces_left, pieces_source}
use Rattle.trop_text.specs.declared.fault.FaultKind.TheVariants.{Syntax}
use Rattle.trop_reading.specs.Words.{said}
use Rattle.trop_spelling.specs.Inequalities.{term_at, between_terms, terms_at}
use Rattle.trop_spelling.proofs.terms.terms.Given as goal

abbrev pub invariant-terms : goal.invariant-terms
invariant-terms g l = record {
  reading : separated_at Syntax (term_at g.S.Spelling.KIND g.S.Scalar.ring g.S.Scalar.numbering l.bound l.names)
      between_terms (said (codes ")")) l.terms.items (pieces_left l.rest) ≡ terms_at g.S.Spelling.KIND g.S.Scalar.ring
      g.S.Scalar.numbering l.bound l.names (pieces_left l.at);
  source : pieces_source l.rest ≡ pieces_source l.at;
}

abbrev pub decreases-terms : goal.decreases-terms
decreases-terms g l = length (pieces_left l.rest)
