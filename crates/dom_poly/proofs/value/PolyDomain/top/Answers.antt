use Rattle.std.proofs.Common.{◌≡◌, ◌+◌, suc, ◌∙◌, arith}
use Rattle.dom_poly.proofs.Sound.{whole_is_everything, whole_is_small}
use Rattle.dom_poly.proofs.value.PolyDomain.top.Goals as goal

pub fresh-requires : goal.fresh-requires
fresh-requires g c = record {
  small = whole_is_small g.met.S.Scalar.ring_laws (c.args.vars + 1) c.in_ok-whole.field-0.rows
      c.in_ok-whole.ensures.holds;
}

pub returns : goal.returns
returns g c =
    let more : c.args.vars + 1 ≡ suc c.args.vars = omega arith in
    c.fresh.ensures ∙ whole_is_everything g.met.S.Scalar.ring_laws c.args.vars (c.args.vars + 1) c.in_ok-whole.field-0
    more c.in_ok-whole.ensures.width c.in_ok-whole.ensures.holds
