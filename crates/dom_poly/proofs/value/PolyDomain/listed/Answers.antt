use Rattle.std.proofs.Common.{refl}
use Rattle.dom_poly.proofs.Sound.{sound_listed}
use Rattle.dom_poly.proofs.value.PolyDomain.listed.Goals as goal

pub invariant_of-result : goal.invariant_of-result
invariant_of-result g c =
    let e = c.rows-rows.ensures in
    sound_listed g.S.Scalar.ring c.args.cone e.at_least c.args.list e.at_most e.few c.requires.small e.wide e.canonical
    c.requires.width c.requires.few c.requires.numbers c.as_slice-inequalities.ensures.wide c.requires.solutions

pub returns : goal.returns
returns g c = refl
