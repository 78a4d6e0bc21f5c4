use Rattle.std.proofs.Common.{rules, ◌≡◌, length}
use Rattle.trop_pairs.proofs.Adding.{has_edge}
use Rattle.trop_pairs.proofs.SlotListing.{adds_place}
use Rattle.trop_pairs.proofs.carried.Carried.put.Goals as goal

pub returns-clause-ok : goal.returns-clause-ok
returns-clause-ok g c =
    let e : c.len.result ≡ length c.args.self.now.slots = search rules in
    record {
      row = search rules;
      words = search rules;
      slots = search rules;
      places = adds_place c.args.slot _ c.len.result c.args.self.now.places c.push-2.new.self.items
          (has_edge _ c.args.slot c.is_empty.result c.slot.view_is c.if-is_empty.false c.is_empty.ensures.none)
          (search rules) e;
    }
