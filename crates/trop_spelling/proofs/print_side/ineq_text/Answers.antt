use Rattle.std.proofs.Common.{◌<◌, ◌+◌, ◌^◌, ◌++◌, length, ap, ◌∙◌, sym, subst, arith}
use Rattle.trop_theory.specs.Inequalities.{IsIn}
use Rattle.trop_spelling.specs.Inequalities.{IsInequality}
use Rattle.trop_reading.specs.InLines.{IsOnlyLine}
use Rattle.trop_spelling.specs.Printed.{printed_inequality}
use Rattle.trop_spelling.proofs.WrittenParts.{inequality_read_back}
use Rattle.trop_spelling.proofs.print_side.ineq_text.Goals as goal

pub returns-clause-read_back : goal.returns-clause-read_back
returns-clause-read_back g c =
    let kind = g.S.Spelling.KIND in
    let R = g.S.Scalar.ring in
    let N = g.S.Scalar.numbering in
    let names = c.args.names.now in
    let p = c.args.ineq.now in
    let text = c.in_ok-push_inequality.ensures ∙ ap
    (λ t. t ++ printed_inequality kind N names p) c.new-text.ensures.items in
    let wide : IsIn (length names + 1) p = record {
      left = c.requires;
      right =
          sym c.right.ensures.lengths ∙ c.requires;
    } in
    λ bound most small.
    let within : bound < 2 ^ 64 = omega arith in
    subst (λ bytes. IsOnlyLine (IsInequality kind R N bound names) bytes p) (sym text)
    (inequality_read_back kind g.S.Scalar.REVERSED R N g.met.S.Spelling.kind_laws g.met.S.Scalar.number_laws
    g.met.S.Scalar.ring_laws.zero_neutral bound names within c.len.ensures.names p wide small)
