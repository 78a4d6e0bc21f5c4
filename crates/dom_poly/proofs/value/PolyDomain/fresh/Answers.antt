use Rattle.std.proofs.Common.{refl}
use Rattle.dom_poly.proofs.Sound.{sound_fresh}
use Rattle.dom_poly.proofs.value.PolyDomain.fresh.Goals as goal

pub invariant_of-result : goal.invariant_of-result
invariant_of-result g c =
    let e = c.rows-rows.ensures in
    sound_fresh g.S.Scalar.ring c.args.cone e.at_least e.at_most e.few c.requires.small e.wide e.canonical

pub returns : goal.returns
returns g c = refl
