use Rattle.trop_pairs.proofs.Listing.{AreTermsBelow}
use Rattle.trop_pairs.proofs.terms.terms_of.Given as goal

abbrev pub invariant-loop-place : goal.invariant-loop-place
invariant-loop-place g l = AreTermsBelow g.S.Scalar.ring l.place l.entries l.terms.items
