use Rattle.std.proofs.Common.{◌∙◌, length, ap, arith}
use Rattle.trop_theory.specs.Vectors.{rows_size}
use Rattle.tplib_analyze.specs.Parts.{IsKeptValue}
use Rattle.tplib_analyze.proofs.Parts.{made_external}
use Rattle.tplib_analyze.proofs.part.part.Goals as goal

pub external-requires : goal.external-requires
external-requires g c = record {
  size = omega (arith, ap (rows_size g.S.Scalar.ring) c.poly-cone.ensures.rows, c.poly-cone.ensures.small);
}

pub returns-in-Ok-clause-made : goal.returns-in-Ok-clause-made
returns-in-Ok-clause-made g c =
    let v = c.args.value.now in
    let kept : IsKeptValue g.S.Scalar.ring v = record {
      value = c.poly-cone.ensures.value;
      few = c.poly-cone.ensures.few;
      small = c.poly-cone.ensures.small;
    } in
    let same = c.in_ok-rows.ensures.rows ∙ c.rows.ensures.rows in
    made_external g.met.S.Scalar.ring_laws v _ c.poly-cone.result.now kept c.poly-cone.ensures.width
    c.poly-cone.ensures.rows (λ e. let z = ap length same in let y = ap length e in let l = c.len.ensures.len in
    c.if-len-eq0.false (omega (arith, z, y, l)))
    c.rows.ensures.at_most (c.in_ok-rows.ensures.width ∙ c.rows.ensures.width) same c.in-Ok.ensures.width
    c.in-Ok.ensures.external c.in-Ok.ensures.within c.in-Ok.ensures.small c.in-Ok.ensures.unstopped
