use Rattle.std.proofs.Common.{rules, ◌≡◌, ◌<◌, ◌++◌, ◌∷◌, [], true, false, length, sym, ap, ◌∙◌, subst}
use Rattle.std.specs.Prelude.{All, AllPairs}
use Rattle.std.proofs.lemmas.Bool.{false≢true}
use Rattle.trop_theory.specs.Canonical.{RowBelow}
use Rattle.trop_dd.specs.Description.{CountsNew, Describes}
use Rattle.trop_dd.specs.Numbers.{AreNumbers}
use Rattle.trop_dd.specs.Carried.{IsNext, rows_of, found_rows}
use Rattle.trop_dd.specs.Parts.{IsSplit, AreAdditions}
use Rattle.trop_dd.specs.Settled.{AreSettled, AreArranged}
use Rattle.trop_dd.specs.Steps.{AreFound}
use Rattle.trop_dd.proofs.Numbers.{found_distinct, found_only}
use Rattle.trop_dd.proofs.Settled.{none_from_empty, settled_each, settled_found, settled_numbers, arranged_each, arranged_found}
use Rattle.trop_dd.proofs.Pushes.{next_from_order}
use Rattle.trop_dd.proofs.Narrowings.{kept_describes, all_hold_at, counts_none, counts_later, counts_among, match_rows}
use Rattle.trop_dd.proofs.narrowing.narrow.Goals as goal

pub split_sides-requires : goal.split_sides-requires
split_sides-requires g c = record {
  next = subst (IsNext g.S.Scalar.ring c.args.system.now.n c.args.system.now.inequalities c.args.ineq.now)
      (sym c.as_slice.ensures.value) (next_from_order g.S.Scalar.ring c.args.system.now.n
      c.args.system.now.inequalities c.args.ineq.now c.args.sides.now.items c.args.order.now.items c.requires.next);
}

pub returns-then-is_empty-clause-each : goal.returns-then-is_empty-clause-each
returns-then-is_empty-clause-each g c =
    let next = next_from_order g.S.Scalar.ring c.args.system.now.n c.args.system.now.inequalities c.args.ineq.now
    c.args.sides.now.items c.args.order.now.items c.requires.next in
    settled_each g.met.S.Scalar.ring_laws c.args.system.now.n
    c.args.system.now.inequalities c.args.ineq.now c.args.sides.now.items next
    c.in_ok-split.split.additions.items (subst (λ s.
    AreAdditions g.S.Scalar.ring c.args.system.now.n c.args.system.now.inequalities c.args.ineq.now s
    (length s) c.in_ok-split.split.additions.items) c.as_slice.ensures.value c.in_ok-split.ensures.additions)
    c.settle.new.sides.items (subst (λ a. AreSettled c.args.sides.now.items a c.settle.new.sides.items)
    c.as_slice-then-is_empty.ensures.value c.in_ok-settle.ensures.ok)
    (all_hold_at g.met.S.Scalar.ring_laws c.args.system.now.n c.args.system.now.inequalities c.args.ineq.now
    c.args.sides.now.items next c.in_ok-split.split.stay.items c.in_ok-split.split.kept.items
    c.in_ok-split.split.dropped.items (subst (λ s. IsSplit g.S.Scalar.ring c.args.ineq.now s
    (length s) c.in_ok-split.split.stay.items c.in_ok-split.split.kept.items c.in_ok-split.split.dropped.items)
    c.as_slice.ensures.value c.in_ok-split.ensures.split)
    (none_from_empty c.in_ok-split.split.dropped.items c.is_empty.result (search rules) c.if-is_empty.true))

pub returns-then-is_empty-clause-numbers : goal.returns-then-is_empty-clause-numbers
returns-then-is_empty-clause-numbers g c =
    let next = next_from_order g.S.Scalar.ring c.args.system.now.n c.args.system.now.inequalities c.args.ineq.now
    c.args.sides.now.items c.args.order.now.items c.requires.next in
    settled_numbers g.met.S.Scalar.ring_laws c.args.system.now.n
    c.args.system.now.inequalities c.args.ineq.now c.args.sides.now.items next
    c.in_ok-split.split.additions.items (subst (λ s.
    AreAdditions g.S.Scalar.ring c.args.system.now.n c.args.system.now.inequalities c.args.ineq.now s
    (length s) c.in_ok-split.split.additions.items) c.as_slice.ensures.value c.in_ok-split.ensures.additions)
    c.settle.new.sides.items (subst (λ a. AreSettled c.args.sides.now.items a c.settle.new.sides.items)
    c.as_slice-then-is_empty.ensures.value c.in_ok-settle.ensures.ok) c.args.order.now.items
    c.requires.next.numbers

pub returns-then-is_empty-clause-rows : goal.returns-then-is_empty-clause-rows
returns-then-is_empty-clause-rows g c = λ t.
    let next = next_from_order g.S.Scalar.ring c.args.system.now.n c.args.system.now.inequalities c.args.ineq.now
    c.args.sides.now.items c.args.order.now.items c.requires.next in
    settled_found g.met.S.Scalar.ring_laws c.args.system.now.n
    c.args.system.now.inequalities c.args.ineq.now c.args.sides.now.items next
    c.in_ok-split.split.additions.items (subst (λ s.
    AreAdditions g.S.Scalar.ring c.args.system.now.n c.args.system.now.inequalities c.args.ineq.now s
    (length s) c.in_ok-split.split.additions.items) c.as_slice.ensures.value c.in_ok-split.ensures.additions)
    c.settle.new.sides.items (subst (λ a. AreSettled c.args.sides.now.items a c.settle.new.sides.items)
    c.as_slice-then-is_empty.ensures.value c.in_ok-settle.ensures.ok) c.args.order.now.items

pub returns-then-is_empty-clause-described : goal.returns-then-is_empty-clause-described
unfolding next_from_order
returns-then-is_empty-clause-described g c =
    let next = next_from_order g.S.Scalar.ring c.args.system.now.n c.args.system.now.inequalities c.args.ineq.now
    c.args.sides.now.items c.args.order.now.items c.requires.next in
    subst (Describes g.S.Scalar.ring c.args.system.now.n (c.args.system.now.inequalities ++ c.args.ineq.now ∷ []))
    (sym (settled_found g.met.S.Scalar.ring_laws c.args.system.now.n c.args.system.now.inequalities c.args.ineq.now
    c.args.sides.now.items next c.in_ok-split.split.additions.items
    (subst (λ s. AreAdditions g.S.Scalar.ring c.args.system.now.n c.args.system.now.inequalities c.args.ineq.now s
    (length s) c.in_ok-split.split.additions.items) c.as_slice.ensures.value c.in_ok-split.ensures.additions)
    c.settle.new.sides.items (subst (λ a. AreSettled c.args.sides.now.items a c.settle.new.sides.items)
    c.as_slice-then-is_empty.ensures.value c.in_ok-settle.ensures.ok) c.args.order.now.items))
    (kept_describes g.met.S.Scalar.ring_laws c.args.system.now.n c.args.system.now.inequalities c.args.ineq.now
    c.args.sides.now.items next c.in_ok-split.split.stay.items c.in_ok-split.split.kept.items
    c.in_ok-split.split.dropped.items (subst (λ s. IsSplit g.S.Scalar.ring c.args.ineq.now s
    (length s) c.in_ok-split.split.stay.items c.in_ok-split.split.kept.items c.in_ok-split.split.dropped.items)
    c.as_slice.ensures.value c.in_ok-split.ensures.split)
    (none_from_empty c.in_ok-split.split.dropped.items c.is_empty.result (search rules) c.if-is_empty.true))

pub returns-then-is_empty-clause-counts : goal.returns-then-is_empty-clause-counts
returns-then-is_empty-clause-counts g c =
    let next = next_from_order g.S.Scalar.ring c.args.system.now.n c.args.system.now.inequalities c.args.ineq.now
    c.args.sides.now.items c.args.order.now.items c.requires.next in
    let rows = found_rows c.args.sides.now.items [] c.args.order.now.items in
    subst (λ r. CountsNew g.S.Scalar.ring rows r c.args.looks.now c.split_sides.new.looks)
    (sym (settled_found g.met.S.Scalar.ring_laws c.args.system.now.n c.args.system.now.inequalities c.args.ineq.now
    c.args.sides.now.items next c.in_ok-split.split.additions.items
    (subst (λ s. AreAdditions g.S.Scalar.ring c.args.system.now.n c.args.system.now.inequalities c.args.ineq.now s
    (length s) c.in_ok-split.split.additions.items) c.as_slice.ensures.value c.in_ok-split.ensures.additions)
    c.settle.new.sides.items (subst (λ a. AreSettled c.args.sides.now.items a c.settle.new.sides.items)
    c.as_slice-then-is_empty.ensures.value c.in_ok-settle.ensures.ok) c.args.order.now.items))
    (counts_none g.S.Scalar.ring rows c.args.looks.now c.split_sides.new.looks c.in_ok-split.ensures.looks)

pub narrowed-requires : goal.narrowed-requires
narrowed-requires g c = record {
  next = subst (IsNext g.S.Scalar.ring c.args.system.now.n c.args.system.now.inequalities c.args.ineq.now)
      (sym c.as_slice-2.ensures.value) (next_from_order g.S.Scalar.ring c.args.system.now.n
      c.args.system.now.inequalities c.args.ineq.now c.args.sides.now.items c.args.order.now.items c.requires.next);
  numbers = subst (λ s. AreNumbers (length s) c.as_slice-3.result.now) (sym c.as_slice-2.ensures.value)
      (subst (AreNumbers (length c.args.sides.now.items)) (sym c.as_slice-3.ensures.value) c.requires.next.numbers);
  ascending = subst (λ s. AllPairs (RowBelow g.S.Scalar.ring) (found_rows s [] c.as_slice-3.result.now))
      (sym c.as_slice-2.ensures.value)
      (subst (λ o. AllPairs (RowBelow g.S.Scalar.ring) (found_rows c.args.sides.now.items [] o))
      (sym c.as_slice-3.ensures.value) c.requires.next.described.canonical.ascending);
  split = subst (λ s. IsSplit g.S.Scalar.ring c.args.ineq.now s (length s) c.as_slice-4.result.now
      c.as_slice-5.result.now c.as_slice-6.result.now) (c.as_slice.ensures.value ∙ sym c.as_slice-2.ensures.value)
      (subst (λ t. IsSplit g.S.Scalar.ring c.args.ineq.now c.as_slice.result.now (length c.as_slice.result.now) t
      c.as_slice-5.result.now c.as_slice-6.result.now) (sym c.as_slice-4.ensures.value)
      (subst (λ k. IsSplit g.S.Scalar.ring c.args.ineq.now c.as_slice.result.now (length c.as_slice.result.now)
      c.in_ok-split.split.stay.items k c.as_slice-6.result.now) (sym c.as_slice-5.ensures.value)
      (subst (IsSplit g.S.Scalar.ring c.args.ineq.now c.as_slice.result.now (length c.as_slice.result.now)
      c.in_ok-split.split.stay.items c.in_ok-split.split.kept.items) (sym c.as_slice-6.ensures.value)
      c.in_ok-split.ensures.split)));
}

pub copied_where-requires : goal.copied_where-requires
copied_where-requires g c =
    let sides = c.args.sides.now.items in
    let fresh = c.in_ok-found.found.fresh.items in
    subst (λ s. All (λ k. k < length (s ++ c.as_slice-8.result.now)) c.as_slice-9.result.now)
    (sym c.as_slice-7.ensures.value)
    (subst (λ f. All (λ k. k < length (sides ++ f)) c.as_slice-9.result.now) (sym c.as_slice-8.ensures.value)
    (subst (All (λ k. k < length (sides ++ fresh))) (sym c.as_slice-9.ensures.value)
    (subst (λ s. AreFound g.S.Scalar.ring c.args.system.now.n c.args.system.now.inequalities c.args.ineq.now s
    fresh c.in_ok-found.found.order.items) c.as_slice-2.ensures.value c.in_ok-found.ensures.found).within))

pub rearrange-requires-clause-within : goal.rearrange-requires-clause-within
rearrange-requires-clause-within g c = (subst (λ s.
    AreFound g.S.Scalar.ring c.args.system.now.n c.args.system.now.inequalities c.args.ineq.now s
    c.in_ok-found.found.fresh.items c.in_ok-found.found.order.items) c.as_slice-2.ensures.value
    c.in_ok-found.ensures.found).within

pub rearrange-requires-clause-distinct : goal.rearrange-requires-clause-distinct
rearrange-requires-clause-distinct g c = found_distinct c.args.sides.now.items c.in_ok-found.found.fresh.items
    g.S.Scalar.ring c.in_ok-found.found.order.items
    (subst (λ s. AreFound g.S.Scalar.ring c.args.system.now.n c.args.system.now.inequalities c.args.ineq.now
    s c.in_ok-found.found.fresh.items c.in_ok-found.found.order.items) c.as_slice-2.ensures.value
    c.in_ok-found.ensures.found).ascending

pub returns-clause-each : goal.returns-clause-each
returns-clause-each g c =
    let R = g.S.Scalar.ring in
    let sides = c.args.sides.now.items in
    let fresh = c.in_ok-found.found.fresh.items in
    let order = c.in_ok-found.found.order.items in
    let additions = c.in_ok-split.split.additions.items in
    let next = next_from_order R c.args.system.now.n c.args.system.now.inequalities c.args.ineq.now sides
    c.args.order.now.items c.requires.next in
    let added = subst (λ s. AreAdditions R c.args.system.now.n c.args.system.now.inequalities c.args.ineq.now s
    (length s) additions) c.as_slice.ensures.value c.in_ok-split.ensures.additions in
    let found = subst (λ s. AreFound R c.args.system.now.n c.args.system.now.inequalities c.args.ineq.now s fresh order)
    c.as_slice-2.ensures.value c.in_ok-found.ensures.found in
    let arranged = subst (λ a. AreArranged sides a fresh order c.rearrange.new.sides.items
    c.rearrange.new.order.items) c.as_slice-10.ensures.value c.in_ok-rearrange.ensures.arranged in
    arranged_each g.met.S.Scalar.ring_laws c.args.system.now.n c.args.system.now.inequalities c.args.ineq.now sides
    next additions added fresh c.rearrange.new.sides.items order c.rearrange.new.order.items found arranged

pub returns-clause-numbers : goal.returns-clause-numbers
returns-clause-numbers g c = c.in_ok-rearrange.ensures.arranged.moved.places

pub returns-clause-described : goal.returns-clause-described
returns-clause-described g c =
    let R = g.S.Scalar.ring in
    let sides = c.args.sides.now.items in
    let fresh = c.in_ok-found.found.fresh.items in
    let order = c.in_ok-found.found.order.items in
    let additions = c.in_ok-split.split.additions.items in
    let next = next_from_order R c.args.system.now.n c.args.system.now.inequalities c.args.ineq.now sides
    c.args.order.now.items c.requires.next in
    let added = subst (λ s. AreAdditions R c.args.system.now.n c.args.system.now.inequalities c.args.ineq.now s
    (length s) additions) c.as_slice.ensures.value c.in_ok-split.ensures.additions in
    let found = subst (λ s. AreFound R c.args.system.now.n c.args.system.now.inequalities c.args.ineq.now s fresh order)
    c.as_slice-2.ensures.value c.in_ok-found.ensures.found in
    let arranged = subst (λ a. AreArranged sides a fresh order c.rearrange.new.sides.items
    c.rearrange.new.order.items) c.as_slice-10.ensures.value c.in_ok-rearrange.ensures.arranged in
    let same = arranged_found g.met.S.Scalar.ring_laws c.args.system.now.n c.args.system.now.inequalities
    c.args.ineq.now sides next additions added fresh c.rearrange.new.sides.items order c.rearrange.new.order.items
    found arranged in
    subst (Describes R c.args.system.now.n (c.args.system.now.inequalities ++ c.args.ineq.now ∷ [])) (sym same)
    (subst (λ s. Describes R c.args.system.now.n (c.args.system.now.inequalities ++ c.args.ineq.now ∷ [])
    (found_rows s fresh order)) c.as_slice-2.ensures.value c.in_ok-found.ensures.described)

pub returns-clause-rows : goal.returns-clause-rows
returns-clause-rows g c =
    let R = g.S.Scalar.ring in
    let sides = c.args.sides.now.items in
    let fresh = c.in_ok-found.found.fresh.items in
    let order = c.in_ok-found.found.order.items in
    let additions = c.in_ok-split.split.additions.items in
    let next = next_from_order R c.args.system.now.n c.args.system.now.inequalities c.args.ineq.now sides
    c.args.order.now.items c.requires.next in
    let added = subst (λ s. AreAdditions R c.args.system.now.n c.args.system.now.inequalities c.args.ineq.now s
    (length s) additions) c.as_slice.ensures.value c.in_ok-split.ensures.additions in
    let found = subst (λ s. AreFound R c.args.system.now.n c.args.system.now.inequalities c.args.ineq.now s fresh order)
    c.as_slice-2.ensures.value c.in_ok-found.ensures.found in
    let arranged = subst (λ a. AreArranged sides a fresh order c.rearrange.new.sides.items
    c.rearrange.new.order.items) c.as_slice-10.ensures.value c.in_ok-rearrange.ensures.arranged in
    let same = arranged_found g.met.S.Scalar.ring_laws c.args.system.now.n c.args.system.now.inequalities
    c.args.ineq.now sides next additions added fresh c.rearrange.new.sides.items order c.rearrange.new.order.items
    found arranged in
    let now = found_rows c.rearrange.new.sides.items [] c.rearrange.new.order.items in
    let read = ap (λ s. found_rows s c.as_slice-8.result.now c.as_slice-9.result.now) c.as_slice-7.ensures.value
    ∙ ap (λ f. found_rows sides f c.as_slice-9.result.now) c.as_slice-8.ensures.value
    ∙ ap (found_rows sides fresh) c.as_slice-9.ensures.value in
    match_rows c.in_ok-rows.rows (c.args.copies ≡ false)
    (c.args.copies ≡ true → now ≡ found_rows sides [] c.args.order.now.items)
    (λ rows. rows.items ≡ found_rows c.as_slice-7.result.now c.as_slice-8.result.now c.as_slice-9.result.now)
    (λ rows. rows.items ≡ now) (λ f t. absurd (false≢true (sym f ∙ t))) (λ rows h. h ∙ read ∙ sym same)
    c.in_ok-rows.ensures

pub returns-clause-counts : goal.returns-clause-counts
returns-clause-counts g c =
    let R = g.S.Scalar.ring in
    let sides = c.args.sides.now.items in
    let fresh = c.in_ok-found.found.fresh.items in
    let order = c.in_ok-found.found.order.items in
    let additions = c.in_ok-split.split.additions.items in
    let next = next_from_order R c.args.system.now.n c.args.system.now.inequalities c.args.ineq.now sides
    c.args.order.now.items c.requires.next in
    let added = subst (λ s. AreAdditions R c.args.system.now.n c.args.system.now.inequalities c.args.ineq.now s
    (length s) additions) c.as_slice.ensures.value c.in_ok-split.ensures.additions in
    let found = subst (λ s. AreFound R c.args.system.now.n c.args.system.now.inequalities c.args.ineq.now s fresh order)
    c.as_slice-2.ensures.value c.in_ok-found.ensures.found in
    let arranged = subst (λ a. AreArranged sides a fresh order c.rearrange.new.sides.items
    c.rearrange.new.order.items) c.as_slice-10.ensures.value c.in_ok-rearrange.ensures.arranged in
    let same = arranged_found g.met.S.Scalar.ring_laws c.args.system.now.n c.args.system.now.inequalities
    c.args.ineq.now sides next additions added fresh c.rearrange.new.sides.items order c.rearrange.new.order.items
    found arranged in
    let before = found_rows sides [] c.args.order.now.items in
    let now = found_rows c.rearrange.new.sides.items [] c.rearrange.new.order.items in
    counts_later R before now c.args.looks.now c.split_sides.new.looks c.narrowed.new.looks
    c.in_ok-split.ensures.looks
    (counts_among R (rows_of sides) before now c.split_sides.new.looks c.narrowed.new.looks
    (found_only sides c.args.order.now.items c.requires.next.numbers)
    (subst (λ r. CountsNew R (rows_of sides) r c.split_sides.new.looks c.narrowed.new.looks) (sym same)
    (subst (λ s. CountsNew R (rows_of s) (found_rows s fresh order) c.split_sides.new.looks c.narrowed.new.looks)
    c.as_slice-2.ensures.value c.in_ok-found.ensures.counts)))
