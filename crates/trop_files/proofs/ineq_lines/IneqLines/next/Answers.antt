use Rattle.std.proofs.Common.{◌≡◌, sym, ◌∙◌, subst, inl, inr}
use Rattle.trop_text.specs.Pieces.{pieces_left}
use Rattle.trop_reading.specs.Gives.{IsPlaced}
use Rattle.trop_files.specs.InequalityFiles.{SpellsInequalities, inequality_file_at}
use Rattle.trop_reading.specs.Outcome.{IsRefusal}
use Rattle.trop_spelling.proofs.EachKind.{one_of}
use Rattle.trop_files.proofs.LineAnswers.{next_given, next_found, next_only_is, next_end_is, next_size, next_count, line_refused, next_refused, refused_only, refused_end, sound_behind, sound_fault}
use Rattle.trop_files.proofs.ineq_lines.IneqLines.next.Goals as goal
use Rattle.trop_files.proofs.ineq_lines.IneqLines.next.Goals.{then-is_some, else-is_some, in-Fault, in_default-e}

pub invariant_of-self : goal.invariant_of-self
invariant_of-self g c =
    let r = c.self.inside in
    let S = g.S.Scalar in
    sound_behind g.S.Spelling.KIND S.ring S.numbering r.bytes.now r.names r.failed r.count
    (pieces_left r.at) c.self.invariant c.in-Ok.ineq (pieces_left c.in-Ok.rest)
    (sym c.is_some.ensures ∙ c.if-is_some.true)
    c.in-Ok.ensures.gives

pub invariant_of-self-in-Fault : goal.invariant_of-self-in-Fault
invariant_of-self-in-Fault g c =
    let r = c.self.inside in
    let S = g.S.Scalar in
    sound_fault g.S.Spelling.KIND S.ring S.numbering r.bytes.now r.names r.failed r.count
    (pieces_left r.at) c.self.invariant c.in-Fault.fault
    (subst (IsRefusal SpellsInequalities inequality_file_at r.bytes.now) c.in-Fault.is
    (line_refused g.S.Spelling.KIND S.ring S.numbering r.bytes.now r.names r.failed r.count
    (pieces_left r.at) c.self.invariant c.in-Err.e c.text_err-e.result
    c.in-Err.ensures.gives c.text_err-e.ensures (one_of g.S.Spelling.three g.S.Spelling.KIND g.S.Scalar.ring
    g.S.Scalar.numbering g.met.S.Spelling.three_laws)))

pub returns-after-is_some-clause-given : goal.returns-after-is_some-clause-given
returns-after-is_some-clause-given g c =
    let r = c.self.inside in
    let S = g.S.Scalar in
    next_given g.S.Spelling.KIND S.ring S.numbering r.bytes.now r.names r.failed r.count
    (pieces_left r.at) c.self.invariant (one_of g.S.Spelling.three g.S.Spelling.KIND g.S.Scalar.ring
    g.S.Scalar.numbering g.met.S.Spelling.three_laws) c.args.self.now c.self.view_is c.in-Ok.ineq
    (pieces_left c.in-Ok.rest) c.if-is_some.self
    c.in-Ok.ensures.gives
    (elim c.if-is_some.branch [
      | then-is_some w ↦ inl (sym c.is_some.ensures ∙ w.if-is_some.true, w.self-is)
      | else-is_some w ↦ inr (sym c.is_some.ensures ∙ w.if-is_some.false, w.self-is ∙ sym c.self.view_is)
    ])

pub returns-after-is_some-clause-found : goal.returns-after-is_some-clause-found
returns-after-is_some-clause-found g c =
    let r = c.self.inside in
    let S = g.S.Scalar in
    next_found g.S.Spelling.KIND S.ring S.numbering r.bytes.now r.names r.failed r.count
    (pieces_left r.at) c.self.invariant (one_of g.S.Spelling.three g.S.Spelling.KIND g.S.Scalar.ring
    g.S.Scalar.numbering g.met.S.Spelling.three_laws) c.args.self.now c.self.view_is c.in-Ok.ineq
    (pieces_left c.in-Ok.rest)
    c.in-Ok.ensures.gives

pub returns-after-is_some-clause-only : goal.returns-after-is_some-clause-only
returns-after-is_some-clause-only g c = λ none.
    let r = c.self.inside in
    let S = g.S.Scalar in
    next_only_is g.S.Spelling.KIND S.ring S.numbering r.bytes.now r.names r.failed r.count
    (pieces_left r.at) c.self.invariant c.args.self.now c.self.view_is c.in-Ok.ineq (pieces_left c.in-Ok.rest)
    c.in-Ok.ensures.gives

pub returns-after-is_some-clause-end : goal.returns-after-is_some-clause-end
returns-after-is_some-clause-end g c = λ none.
    let r = c.self.inside in
    let S = g.S.Scalar in
    next_end_is g.S.Spelling.KIND S.ring S.numbering r.bytes.now r.names r.failed r.count
    (pieces_left r.at) c.self.invariant c.args.self.now c.self.view_is c.in-Ok.ineq (pieces_left c.in-Ok.rest)
    c.in-Ok.ensures.gives

pub returns-after-is_some-clause-count : goal.returns-after-is_some-clause-count
returns-after-is_some-clause-count g c =
    let r = c.self.inside in
    let S = g.S.Scalar in
    next_count g.S.Spelling.KIND S.ring S.numbering r.bytes.now r.names r.failed r.count
    (pieces_left r.at) c.self.invariant c.args.self.now c.self.view_is c.in-Ok.ineq (pieces_left c.in-Ok.rest)
    c.in-Ok.ensures.gives

pub returns-after-is_some-clause-size : goal.returns-after-is_some-clause-size
returns-after-is_some-clause-size g c =
    let r = c.self.inside in
    let S = g.S.Scalar in
    next_size g.S.Spelling.KIND S.ring S.numbering r.bytes.now r.names r.failed r.count
    (pieces_left r.at) c.self.invariant c.args.self.now c.self.view_is c.in-Ok.ineq (pieces_left c.in-Ok.rest)
    c.in-Ok.ensures.gives
    g.met.S.Scalar.ring_laws S.REVERSED g.met.S.Spelling.kind_laws

pub returns-after-e-clause-only : goal.returns-after-e-clause-only
returns-after-e-clause-only g c = λ none.
    let r = c.self.inside in
    let S = g.S.Scalar in
    let same : c.match-e.e ≡ c.text_err-e.result =
    elim c.match-e.branch [ in-Fault w ↦ w.e-is ∙ sym w.in-Fault.is | in_default-e w ↦ w.e-is ] in
    refused_only g.S.Spelling.KIND S.ring S.numbering r.bytes.now r.names r.failed r.count
    (pieces_left r.at) c.self.invariant c.in-Err.e c.match-e.e
    c.in-Err.ensures.gives
    (subst (IsPlaced r.bytes.now c.in-Err.e) (sym same) c.text_err-e.ensures) c.args.self.now c.self.view_is

pub returns-after-e-clause-end : goal.returns-after-e-clause-end
returns-after-e-clause-end g c = λ none.
    let r = c.self.inside in
    let S = g.S.Scalar in
    let same : c.match-e.e ≡ c.text_err-e.result =
    elim c.match-e.branch [ in-Fault w ↦ w.e-is ∙ sym w.in-Fault.is | in_default-e w ↦ w.e-is ] in
    refused_end g.S.Spelling.KIND S.ring S.numbering r.bytes.now r.names r.failed r.count
    (pieces_left r.at) c.self.invariant c.in-Err.e c.match-e.e
    c.in-Err.ensures.gives
    (subst (IsPlaced r.bytes.now c.in-Err.e) (sym same) c.text_err-e.ensures) c.args.self.now c.self.view_is

pub returns-after-e-clause-fault : goal.returns-after-e-clause-fault
returns-after-e-clause-fault g c =
    let r = c.self.inside in
    let S = g.S.Scalar in
    let same : c.match-e.e ≡ c.text_err-e.result =
    elim c.match-e.branch [ in-Fault w ↦ w.e-is ∙ sym w.in-Fault.is | in_default-e w ↦ w.e-is ] in
    next_refused g.S.Spelling.KIND S.ring S.numbering r.bytes.now r.names r.failed r.count
    (pieces_left r.at) c.self.invariant c.in-Err.e c.match-e.e
    c.in-Err.ensures.gives
    (subst (IsPlaced r.bytes.now c.in-Err.e) (sym same) c.text_err-e.ensures)
    (one_of g.S.Spelling.three g.S.Spelling.KIND g.S.Scalar.ring g.S.Scalar.numbering g.met.S.Spelling.three_laws)
    c.args.self.now c.self.view_is
