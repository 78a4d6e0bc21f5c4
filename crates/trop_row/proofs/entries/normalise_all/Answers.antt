use Rattle.std.proofs.Common.{arith, sym, ◌∙◌, length}
use Rattle.std.proofs.lemmas.List.{length-replicate}
use Rattle.trop_theory.proofs.Rows.{same_rows, entry-bottom}
use Rattle.trop_row.proofs.Steps.{normalised, size_of_inverse}
use Rattle.trop_row.proofs.entries.normalise_all.Goals as goal

pub scale_all-requires : goal.scale_all-requires
scale_all-requires g c =
    omega (
      arith,
      size_of_inverse g.met.S.Scalar.ring_laws c.args.entries.now c.in-Some.i _ _ c.index-entries-i.is
          c.in-Some.ensures.none.0 c.in-Some.ensures.none.1 c.inverse-factor.ensures,
    )

pub returns-in-None-clause-no : goal.returns-in-None-clause-no
returns-in-None-clause-no g c = same_rows g.S.Scalar.ring c.args.entries.now _ (sym (length-replicate _ _))
    (λ i. c.in-None.ensures.none i ∙ sym (entry-bottom g.S.Scalar.ring (length c.args.entries.now) i))

pub returns-in-Some-clause-yes : goal.returns-in-Some-clause-yes
returns-in-Some-clause-yes g c =
    normalised g.met.S.Scalar.ring_laws c.args.entries.now c.scale_all.new.entries c.in-Some.i _ _ c.index-entries-i.is
    c.in-Some.ensures.none.0 c.in-Some.ensures.none.1 c.in-Some.ensures.none.2 c.inverse-factor.ensures
    c.scale_all.ensures
