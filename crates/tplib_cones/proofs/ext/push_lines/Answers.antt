use Rattle.std.proofs.Common.{◌+◌, ◌++◌, ◌∷◌, [], length, ◌∙◌, sym, ap, refl, subst, arith}
use Rattle.trop_dd.specs.Description.{IsRefusedBy}
use Rattle.trop_cones.specs.RowStops.{IsRowsStop}
use Rattle.tplib_reply.proofs.Refused.{IsRefused-text}
use Rattle.tplib_cones.specs.Ext.{ext_meaning}
use Rattle.tplib_cones.proofs.LineByLine.{within_none, fault_at, line_given, stop_line, within_line, given_is, names_stay, bytes_stay}
use Rattle.tplib_cones.proofs.ext.push_lines.Goals as goal

pub lines-init : goal.lines-init
lines-init g c = record {
  bytes = refl;
  names = refl;
  system = c.requires.empty ∙ sym c.requires.first;
  width = refl;
  within = within_none g.S.Scalar.ring c.args.conversion.now.n c.args.conversion.now.system c.args.conversion.now.rows
      c.requires.described
      c.requires.empty;
}

pub returns-in-Err-clause-refused : goal.returns-in-Err-clause-refused
returns-in-Err-clause-refused g c =
    IsRefused-text ext_meaning c.args.lines.now.bytes c.in-Err.e c.from.result c.from.ensures
    (λ f same. fault_at c.lines.lines.bytes c.args.lines.now.bytes c.in-Err.e f c.lines.invariant.bytes same
    c.in-Err.ensures.fault)

pub lines-preserved : goal.lines-preserved
lines-preserved g c =
    let inv = c.lines.invariant in
    let h = line_given g.S.Spelling.KIND g.S.Scalar.ring g.S.Scalar.numbering c.lines.lines c.next.new.self
    c.in-Ok-Some.field-0 c.in-Ok-Some.ineq c.in-Ok-Some.field-0-is c.in-Ok-Some.ensures.given in
    record {
      bytes = bytes_stay h ∙ inv.bytes;
      names = names_stay h ∙ inv.names;
      system = c.in-Ok.ensures.system ∙ ap (λ z. z ++ c.in-Ok-Some.ineq ∷ []) inv.system ∙ sym (given_is h);
      width = c.in-Ok.ensures.width ∙ inv.width;
      within = within_line g.S.Scalar.ring c.args.conversion.now.n c.lines.conversion.n c.lines.conversion.system
          c.push.new.self.system
          c.in-Ok-Some.ineq inv.within c.in-Ok.ensures.system inv.width c.in-Ok.ensures.within;
    }

pub stopped-requires : goal.stopped-requires
stopped-requires g c =
    let inv = c.lines.invariant in
    let h = line_given g.S.Spelling.KIND g.S.Scalar.ring g.S.Scalar.numbering c.lines.lines c.next.new.self
    c.in-Ok-Some.field-0 c.in-Ok-Some.ineq c.in-Ok-Some.field-0-is c.in-Ok-Some.ensures.given in
    let r = subst
    (IsRefusedBy g.S.Scalar.ring c.lines.conversion.n (c.lines.conversion.system ++ c.in-Ok-Some.ineq ∷ []))
    c.in-Err-Limit.field-0-is c.in-Err-Limit.ensures.refused in
    subst (IsRowsStop g.S.Scalar.ring (length c.next.new.self.names + 1) c.next.new.self.given)
    (sym c.in-Err-Limit.count-is)
    (stop_line g.S.Scalar.ring c.args.conversion.now.n c.lines.conversion.n (length c.next.new.self.names + 1)
    c.in-Err-Limit.count
    c.lines.conversion.system c.lines.lines.given c.next.new.self.given c.in-Ok-Some.ineq inv.within inv.system
    (given_is h) inv.width
    (c.requires.width ∙ ap (λ z. length z + 1) (sym (names_stay h ∙ inv.names))) r.0 r.1)
