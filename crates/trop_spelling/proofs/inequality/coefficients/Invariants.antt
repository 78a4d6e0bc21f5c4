use Rattle.std.proofs.Common.{◌≡◌, drop, length}
use Rattle.trop_spelling.specs.Inequalities.{with_terms, coefficients}
use Rattle.trop_spelling.proofs.inequality.coefficients.Given as goal

abbrev pub invariant-terms : goal.invariant-terms
invariant-terms g l = record {
  value : with_terms g.S.Scalar.ring l.row (drop l.term-index l.terms) ≡ coefficients g.S.Scalar.ring l.n l.terms;
  wide : length l.row ≡ l.n;
}
