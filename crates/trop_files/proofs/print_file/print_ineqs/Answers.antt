use Rattle.std.proofs.Common.{◌≡◌, ◌≤◌, ◌+◌, ◌∷◌, length, drop, ap, sym, subst, arith}
use Rattle.std.specs.Prelude.{All}
use Rattle.trop_theory.specs.Inequalities.{IsIn}
use Rattle.trop_text.specs.Pieces.{pieces_of}
use Rattle.trop_files.specs.PrintedFiles.{lines_of}
use Rattle.trop_spelling.specs.Printed.{printed_inequality}
use Rattle.trop_files.specs.InequalityFiles.{Systems, SpellsInequalities}
use Rattle.trop_spelling.proofs.Printing.{two_more, drop_item, drop_all, all_done}
use Rattle.trop_spelling.proofs.EachKind.{one_of}
use Rattle.trop_files.proofs.WrittenSystems.{system_read_back}
use Rattle.trop_files.proofs.print_file.print_ineqs.Goals as goal

pub loop-ineq-preserved : goal.loop-ineq-preserved
loop-ineq-preserved g c =
    let i = c.loop-ineq.ineq-index in
    let x = c.ineq-item.result in
    let here = drop_item c.as_slice-ineq-items.result.now i x (omega arith) c.ineq-item.is in
    let item = subst (λ xs. drop i xs ≡ x ∷ drop (i + 1) xs) c.as_slice-ineq-items.ensures.inequalities here in
    two_more _ _ _ _ _ _ _ _ c.loop-ineq.invariant
    (ap (lines_of (printed_inequality g.S.Spelling.KIND g.S.Scalar.numbering c.args.names.now)) item)
    c.in_ok-push_inequality.ensures c.in_ok-push.ensures.items

pub returns-clause-read_back : goal.returns-clause-read_back
returns-clause-read_back g c =
    let kind = g.S.Spelling.KIND in
    let N = g.S.Scalar.numbering in
    let names = c.args.names.now in
    let system = c.args.system.now.inequalities in
    let past : length system ≤ c.loop-ineq.ineq-index =
    omega (arith, ap length c.as_slice-ineq-items.ensures.inequalities) in
    let text = all_done _ _ _ c.loop-ineq.invariant
    (ap (lines_of (printed_inequality kind N names)) (drop_all system c.loop-ineq.ineq-index past)) in
    let few_names : length names ≤ 63 = omega (arith, c.requires, c.as_slice-ineq-items.ensures.at_most) in
    let wide = subst (λ n. All (IsIn n) system) c.requires c.as_slice-ineq-items.ensures.wide in
    λ few small.
    subst (λ bytes. SpellsInequalities (pieces_of bytes)
    (record { names = names; inequalities = g.S.Spelling.three.over Systems system })) (sym text)
    (system_read_back kind g.S.Scalar.REVERSED g.S.Scalar.ring N g.met.S.Spelling.kind_laws g.met.S.Scalar.number_laws
    g.met.S.Scalar.ring_laws.zero_neutral (one_of g.S.Spelling.three g.S.Spelling.KIND g.S.Scalar.ring
    g.S.Scalar.numbering g.met.S.Spelling.three_laws) names c.in_ok-push_header.ensures.names few_names system
    wide few small)
