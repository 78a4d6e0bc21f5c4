use Rattle.prog_tree.specs.Terms.{term_of}
use Rattle.prog_run.proofs.Values.{value_fits}
use Rattle.prog_run.proofs.looks.value.Goals as goal

pub overflow_add-result : goal.overflow_add-result
overflow_add-result c =
    value_fits c.args.state.now (term_of c.args.term) c.coordinate.result c.coordinate.ensures c.requires.within
    c.requires.fits c.requires.small
