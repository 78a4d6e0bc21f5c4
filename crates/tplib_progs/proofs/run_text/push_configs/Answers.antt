use Rattle.std.proofs.Common.{◌++◌, ◌+◌, ◌∙◌, ap, drop, map, arith}
use Rattle.prog_run.specs.Views.{config_of}
use Rattle.trop_spelling.proofs.Printing.{one_more, drop_item}
use Rattle.tplib_progs.specs.Lines.{config_line, config_lines}
use Rattle.tplib_progs.proofs.run_text.push_configs.Goals as goal

pub loop-config-preserved : goal.loop-config-preserved
loop-config-preserved c =
    let left = drop_item c.args.configs.now c.loop-config.config-index c.config-item.result (omega arith)
    c.config-item.is in
    ap (λ t. t ++ config_lines (map config_of (drop (c.loop-config.config-index + 1) c.args.configs.now)))
    c.in_ok-push_config.ensures ∙ one_more _ _ (config_line (config_of c.config-item.result)) _ _
    c.loop-config.invariant (ap (λ cs. config_lines (map config_of cs)) left)
