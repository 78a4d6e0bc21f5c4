use Rattle.std.proofs.Common.{◌≡◌, ◌<◌, ◌≤◌, length, get_or, set, ap, ◌∙◌, arith}
use Rattle.std.proofs.lemmas.List.{get_or_default}
use Rattle.trop_dd.proofs.Moves.{removed_long, closed_last, closed_moved}
use Rattle.trop_dd.proofs.moving.close_at.Goals as goal

pub returns-then-place-len : goal.returns-then-place-len
returns-then-place-len g c =
    let within : c.args.place < length c.args.at.now.items = omega (
      arith,
      c.requires.within,
      c.requires.closed.index.long,
    ) in
    let dead : length c.args.order.now.items ≤ get_or c.args.at.now.items c.args.place 0 = omega (
      arith,
      get_or_default c.args.at.now.items c.args.place 0 c.index.result.now within,
    ) in
    let read : c.index-index.result.now ≡ get_or c.swap_remove-none.new.self.items c.args.place
    c.index-index.result.now = c.index-index.ensures in
    let longer = removed_long c.args.sides.now.items c.swap_remove-gone.new.self.items c.args.place
    c.swap_remove-gone.result c.requires.within c.swap_remove-gone.ensures.items in
    let long = removed_long c.args.at.now.items c.swap_remove-none.new.self.items c.args.place
    c.swap_remove-none.result within c.swap_remove-none.ensures.items in
    let front : c.args.place < length c.swap_remove-gone.new.self.items = omega arith in
    closed_moved c.args.sides.now.items c.swap_remove-gone.new.self.items c.args.order.now.items
    c.args.at.now.items c.swap_remove-none.new.self.items c.args.place c.swap_remove-gone.result
    c.swap_remove-none.result c.requires.within c.requires.closed dead c.swap_remove-gone.ensures.items
    c.swap_remove-none.ensures.items front _
    (ap (λ i. set c.args.order.now.items i c.args.place) (read
    ∙ get_or_default c.swap_remove-none.new.self.items c.args.place c.index-index.result.now 0
    (omega (arith, front, longer, long, c.requires.closed.index.long))))

pub returns : goal.returns
returns g c =
    let within : c.args.place < length c.args.at.now.items = omega (
      arith,
      c.requires.within,
      c.requires.closed.index.long,
    ) in
    let dead : length c.args.order.now.items ≤ get_or c.args.at.now.items c.args.place 0 = omega (
      arith,
      get_or_default c.args.at.now.items c.args.place 0 c.index.result.now within,
    ) in
    closed_last c.args.sides.now.items c.swap_remove-gone.new.self.items c.args.order.now.items
    c.args.at.now.items c.swap_remove-none.new.self.items c.args.place c.swap_remove-gone.result
    c.swap_remove-none.result c.requires.within c.requires.closed dead c.swap_remove-gone.ensures.items
    c.swap_remove-none.ensures.items (omega arith)
