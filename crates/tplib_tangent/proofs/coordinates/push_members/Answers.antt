use Rattle.std.proofs.Common.{◌≡◌, ℕ, List, true≢false, sym, ap, ◌∙◌, Vec}
use Rattle.std.specs.declared.alloc.Global.{Global}
use Rattle.tplib_tangent.specs.Members.{has_bit}
use Rattle.tplib_tangent.proofs.Members.{named_more, named_same, has_bit-true, has_bit-false}
use Rattle.tplib_tangent.proofs.coordinates.push_members.Goals as goal
use Rattle.tplib_tangent.proofs.coordinates.push_members.Goals.{then-has+in_ok-push+in_ok-push_coordinate, else-has}

abbrev vec_items : Vec ℕ Global → List ℕ
vec_items v = v.items

pub loop-i-preserved : goal.loop-i-preserved
loop-i-preserved c =
    let names = c.args.names.now in
    let set = c.args.set in
    elim c.if-has.branch [
      | then-has+in_ok-push+in_ok-push_coordinate w ↦
          named_more names (has_bit set) c.loop-i.i c.args.text.now.items c.loop-i.text.items w.push.new.self.items
          c.if-has.text.items
          (has_bit-true set c.loop-i.i (c.has.ensures.0 w.if-has.true)) c.loop-i.invariant w.in_ok-push.ensures.items
          (ap vec_items w.text-is ∙ w.in_ok-push_coordinate.ensures)
      | else-has w ↦
          named_same names (has_bit set) c.loop-i.i c.args.text.now.items c.if-has.text.items
          (has_bit-false set c.loop-i.i (λ h. true≢false (sym (c.has.ensures.1 h) ∙ w.if-has.false)))
          (ap vec_items w.text-is ∙ c.loop-i.invariant)
    ]
