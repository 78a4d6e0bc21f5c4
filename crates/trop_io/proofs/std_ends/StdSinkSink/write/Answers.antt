use Rattle.std.proofs.Common.{◌<◌, ◌+◌, min, length, Some, None, refl, ap, ◌∙◌, subst, arith}
use Rattle.trop_io.proofs.HandedOn.{piece_handed_on, IsTaken-some, IsTaken-none}
use Rattle.trop_io.proofs.std_ends.StdSinkSink.write.Goals as goal
use Rattle.trop_io.proofs.std_ends.StdSinkSink.write.Goals.{in_default-via-in-Ok+else-count-gt0, in_default-via-in_default}

pub returns-in-Ok-clause-handed_on : goal.returns-in-Ok-clause-handed_on
returns-in-Ok-clause-handed_on g c =
    let some : 0 < length c.args.piece.now = grind arith in
    piece_handed_on g.W.StdWrite.answers c.args.self.now _ (length c.args.piece.now) _ some (record {
      answer = Some c.in-Ok.count;
      given = subst (λ s. g.W.StdWrite.answers s.end (Some c.in-Ok.count) c.write_once.new.self) c.self.view_is
          c.in-Ok.ensures.given;
      handed_on = IsTaken-some _ _ c.in-Ok.count _ c.if-count-gt0.true (refl, ap (λ s. s.faults) c.self.view_is);
    })

pub returns-in_default-clause-handed_on : goal.returns-in_default-clause-handed_on
returns-in_default-clause-handed_on g c =
    let some : 0 < length c.args.piece.now = grind arith in
    let counted = c.saturating_add-self-inside.ensures
    ∙ ap (λ s. min (s.faults + 1) 18446744073709551615) c.self.view_is in
    piece_handed_on g.W.StdWrite.answers c.args.self.now _ (length c.args.piece.now) _ some
    (elim c.in_default.branch [
      | in_default-via-in-Ok+else-count-gt0 w ↦ record {
        answer = Some w.in-Ok.count;
        given = subst (λ s. g.W.StdWrite.answers s.end (Some w.in-Ok.count) c.write_once.new.self) c.self.view_is
            w.in-Ok.ensures.given;
        handed_on = IsTaken-none _ _ w.in-Ok.count _ w.if-count-gt0.false (refl, counted);
      }
      | in_default-via-in_default w ↦ record {
        answer = None;
        given = subst (λ s. g.W.StdWrite.answers s.end None c.write_once.new.self) c.self.view_is
            w.in_default.ensures.given;
        handed_on = (refl, counted);
      }
    ])
