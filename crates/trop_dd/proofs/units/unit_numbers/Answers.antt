use Rattle.std.proofs.Common.{◌≡◌, ◌∷◌, [], length, get_or, refl, ap, ◌∙◌, arith}
use Rattle.std.proofs.lemmas.List.{get_or_default, length-append}
use Rattle.trop_dd.proofs.UnitRows.{each_more}
use Rattle.trop_dd.proofs.units.unit_numbers.Goals as goal

pub loop-k-preserved : goal.loop-k-preserved
loop-k-preserved c =
    let front = c.loop-k.order.items in
    record {
      count = omega (
        arith,
        ap length c.in_ok-push.ensures.items,
        length-append front (c.loop-k.k ∷ []),
        c.loop-k.invariant.count,
      );
      same = λ j l. ap (λ xs. get_or xs j 0) c.in_ok-push.ensures.items
          ∙ each_more (λ i x. x ≡ i) c.loop-k.k front c.loop-k.k c.loop-k.invariant.count
          (λ i d m. get_or_default front i d 0 (omega (arith, m, c.loop-k.invariant.count))
          ∙ c.loop-k.invariant.same i m) refl j 0 l;
    }

pub returns-clause-numbers : goal.returns-clause-numbers
returns-clause-numbers c =
    let all : c.loop-k.k ≡ c.args.many = omega arith in
    record {
      within = λ i d l. omega (
        arith,
        l,
        c.loop-k.invariant.count,
        all,
        get_or_default c.loop-k.order.items i d 0 l,
        c.loop-k.invariant.same i (omega (arith, l, c.loop-k.invariant.count)),
      );
      all = λ k l. (
        k,
        omega (arith, l, c.loop-k.invariant.count, all),
        get_or_default c.loop-k.order.items k k 0 (omega (arith, l, c.loop-k.invariant.count, all))
            ∙ c.loop-k.invariant.same k (omega (arith, l, all)),
      );
    }
