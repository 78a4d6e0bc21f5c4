use Rattle.std.proofs.Common.{sym, ◌∙◌, true≢false}
use Rattle.std.proofs.lemmas.List.Elements.{All-contains_itself}
use Rattle.trop_guard.proofs.Pairs.{kept_skip}
use Rattle.trop_guard.proofs.narrowing.try_kept.Goals as goal

pub returns-then-is_zero-clause-stay : goal.returns-then-is_zero-clause-stay
returns-then-is_zero-clause-stay g c = All-contains_itself c.args.found.now.items

pub returns-then-is_zero-clause-mixed : goal.returns-then-is_zero-clause-mixed
returns-then-is_zero-clause-mixed g c =
    kept_skip g.S.Scalar.ring c.args.parts.now.kept.n c.args.ineq.now c.args.parts.now.kept.rows
    c.args.parts.now.dropped.rows c.args.found.now.items c.args.v.now
    (sym c.requires.right ∙ c.is_zero.ensures.0 c.if-is_zero.true)

pub try_dropped-requires : goal.try_dropped-requires
try_dropped-requires g c = record {
  parts = c.requires.parts;
  v = c.requires.v;
  finite = λ z. true≢false (sym (c.is_zero.ensures.1 (c.requires.right ∙ z)) ∙ c.if-is_zero.false);
  found = c.requires.found;
  within = c.requires.within;
}
