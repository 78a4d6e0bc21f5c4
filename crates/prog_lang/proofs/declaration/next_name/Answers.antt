use Rattle.std.proofs.Common.{◌≡◌, ◌<◌, ℕ, List, length, refl, sym, ap, subst, ◌∙◌, arith}
use Rattle.trop_text.specs.Name.{is_name}
use Rattle.prog_theory.specs.Limits.{program_limits}
use Rattle.prog_texts.specs.Programs.{new_name}
use Rattle.prog_reading.specs.Left.{left, entry_of, source_of}
use Rattle.prog_reading.proofs.Follow.{none_left, none_here}
use Rattle.prog_lang.specs.Naming.{Adds}
use Rattle.prog_lang.proofs.NameSteps.{name_none, adds_declares, adds_shorter, adds_source}
use Rattle.prog_lang.proofs.declaration.next_name.Goals as goal

pub returns-in_default-clause-declares : goal.returns-in_default-clause-declares
returns-in_default-clause-declares c = (
  none_left (new_name program_limits c.args.names.now) (left c.args.at) _ c.past-here.ensures.past
      c.in_default.ensures.entry,
  refl,
)

pub returns-in-None-clause-declares : goal.returns-in-None-clause-declares
returns-in-None-clause-declares c = (
  none_here (new_name program_limits c.args.names.now) (left c.args.at) _ (entry_of c.in-Some.entry) _
      c.past-here.ensures.past c.in-Some.ensures.entry
      (name_none c.args.names.now (entry_of c.in-Some.entry) (sym (ap is_name c.text.ensures) ∙ c.in-None.ensures)),
  refl,
)

pub returns-in-Some-as_name-clause-declares : goal.returns-in-Some-as_name-clause-declares
returns-in-Some-as_name-clause-declares c =
    let same = c.in-Some-as_name.ensures.1 ∙ c.text.ensures in
    let n = sym (ap is_name c.text.ensures) ∙ c.in-Some-as_name.ensures.0 in
    let h = subst (λ (z : List ℕ). Adds c.args.names.now z c.past-here.result c.in-Some.rest c.add_name.result
    c.add_name.new.names) same c.add_name.ensures.adds in
    adds_declares c.args.names.now _ (left c.args.at) _ _ (entry_of c.in-Some.entry) _ c.past-here.ensures.past
    c.in-Some.ensures.entry n h

pub returns-in-Some-as_name-clause-source : goal.returns-in-Some-as_name-clause-source
returns-in-Some-as_name-clause-source c =
    adds_source _ _ _ (source_of c.args.at) c.past-here.result c.in-Some.rest c.add_name.result
    (c.in-Some.ensures.source ∙ c.past-here.ensures.source) c.add_name.ensures.adds

pub returns-in-Some-as_name-clause-shorter : goal.returns-in-Some-as_name-clause-shorter
returns-in-Some-as_name-clause-shorter c =
    adds_shorter _ _ _ (left c.args.at) c.past-here.result c.in-Some.rest c.add_name.result
    (omega (arith, c.in-Some.ensures.shorter, c.past-here.ensures.shorter)) c.add_name.ensures.adds
