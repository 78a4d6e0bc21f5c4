use Rattle.std.proofs.Common.{◌≡◌, ◌++◌, map, drop}
use Rattle.prog_run.specs.Views.{config_of}
use Rattle.tplib_progs.specs.Lines.{config_lines}
use Rattle.tplib_progs.proofs.run_text.push_configs.Given as goal

abbrev pub invariant-loop-config : goal.invariant-loop-config
invariant-loop-config l = l.text.items ++ config_lines (map config_of (drop l.config-index l.configs))
    ≡ l.fn.text.items ++ config_lines (map config_of l.configs)
