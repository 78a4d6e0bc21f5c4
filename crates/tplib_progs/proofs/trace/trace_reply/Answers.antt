use Rattle.std.proofs.Common.{◌∙◌, ap, map, subst}
use Rattle.prog_lang.specs.TraceOutcomes.{trace_file_of}
use Rattle.prog_theory.specs.Named.{nameless}
use Rattle.prog_run.specs.Shown.{shown}
use Rattle.prog_run.specs.Views.{end_of}
use Rattle.prog_run.specs.Traces.{run_of, IsTrace}
use Rattle.tplib_progs.proofs.trace.trace_reply.Goals as goal

pub returns-clause-reply : goal.returns-clause-reply
returns-clause-reply c =
    let file = trace_file_of c.in_ok-file.file in
    let turns = c.args.turns in
    let choices = c.as_slice-choices.result.now in
    let configs = c.in_ok-traced.traced.configs in
    let ended = end_of c.in_ok-traced.traced.ended in
    record {
      said = file;
      spelled = c.in_ok-file.ensures.found;
      unstopped = λ cause stop h. h;
      answer = record {
        configs = configs;
        ended = ended;
        chosen = c.in_ok-traced.ensures.configs
            ∙ ap (λ s. map shown (run_of file.program s choices turns).configs) c.as_slice-start.ensures
            ∙ ap (λ s. map shown (run_of file.program file.start s turns).configs) c.as_slice-choices.ensures;
        chosen_end = c.in_ok-traced.ensures.ended
            ∙ ap (λ s. (run_of file.program s choices turns).ended) c.as_slice-start.ensures
            ∙ ap (λ s. (run_of file.program file.start s turns).ended) c.as_slice-choices.ensures;
        run = subst (λ s. IsTrace (nameless file.program) file.start s turns configs ended) c.as_slice-choices.ensures
            (subst (λ s. IsTrace (nameless file.program) s choices turns configs ended) c.as_slice-start.ensures
            c.in_ok-traced.ensures.run);
        visits = c.in_ok-traced.ensures.visits;
        printed = c.in_ok-text.ensures;
      };
    }
