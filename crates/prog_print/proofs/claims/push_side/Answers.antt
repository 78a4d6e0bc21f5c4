use Rattle.std.proofs.Common.{length, ◌∙◌}
use Rattle.prog_print.proofs.Loops.{fits_terms}
use Rattle.prog_print.proofs.claims.push_side.Goals as goal

pub push_terms-requires : goal.push_terms-requires
push_terms-requires c = fits_terms (length c.args.names.now) c.args.side.now.terms c.as_slice-terms.result.now
    (c.as_slice-terms.ensures ∙ c.terms.ensures.value) c.requires

pub push_listed-requires : goal.push_listed-requires
push_listed-requires c = fits_terms (length c.args.names.now) c.args.side.now.terms c.as_slice-terms.result.now
    (c.as_slice-terms.ensures ∙ c.terms.ensures.value) c.requires

pub push_listed-requires-in-Min : goal.push_listed-requires-in-Min
push_listed-requires-in-Min c = fits_terms (length c.args.names.now) c.args.side.now.terms c.as_slice-terms.result.now
    (c.as_slice-terms.ensures ∙ c.terms.ensures.value) c.requires
