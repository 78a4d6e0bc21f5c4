use Rattle.std.proofs.Common.{ap}
use Rattle.std.specs.Prelude.{codes, if◌then◌else◌}
use Rattle.trop_theory.specs.Extreme.{IsExtreme, IsType}
use Rattle.trop_theory.specs.Inequalities.{Solves}
use Rattle.tplib_tangent.specs.Members.{has_bit}
use Rattle.tplib_tangent.specs.Tangent.{types_line}
use Rattle.tplib_tangent.proofs.Members.{has_bit-tells}
use Rattle.tplib_tangent.proofs.SolutionTexts.{extreme_line, three}
use Rattle.tplib_tangent.proofs.solution_text.solution_text.Goals as goal

pub returns : goal.returns
returns g c =
    let R = g.S.Scalar.ring in
    let edges = c.in_ok-push_edges.ensures in
    let types = types_line c.args.names.now c.n.result (has_bit c.types.result) in
    let extreme = if c.is_extreme.result then codes "extreme: yes\n" else codes "extreme: no\n" in
    record {
      solves = c.requires.solves;
      edges = edges.0;
      types = types;
      extreme = extreme;
      edges_are = edges.2;
      types_are = record {
        types = has_bit c.types.result;
        types_are = has_bit-tells c.types.result c.args.system.now.n
            (IsType R (Solves R c.args.system.now.n c.args.system.now.inequalities) c.args.row.now)
            c.types.ensures.types;
        text = ap (λ n. types_line c.args.names.now n (has_bit c.types.result)) c.n.ensures.value;
      };
      extreme_is = extreme_line (IsExtreme R (Solves R c.args.system.now.n c.args.system.now.inequalities)
          c.args.row.now) c.is_extreme.result c.is_extreme.ensures.extreme;
      whole = three c.new-text.result.items edges.0 types extreme c.push_edges.new.text.items
          c.push_types.new.text.items c.push_extreme.new.text.items c.new-text.ensures.items edges.1
          c.in_ok-push_types.ensures c.in_ok-push_extreme.ensures;
    }
