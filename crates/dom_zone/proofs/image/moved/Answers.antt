use Rattle.std.proofs.Common.{◌+◌, ◌^◌, sym, ap, subst, add-one, arith}
use Rattle.std.proofs.lemmas.Int.{ints}
use Rattle.prog_theory.specs.Edges.{Op}
use Rattle.prog_theory.specs.Each.{EachOp}
use Rattle.prog_theory.specs.Within.{IsNumberWithin}
use Rattle.prog_tree.specs.Terms.{term_of}
use Rattle.prog_graph.specs.Views.{op_of}
use Rattle.dom_zone.proofs.Moves.{set-made, havoc-made}
use Rattle.dom_zone.proofs.image.moved.Goals as goal

abbrev small : Op → Type 0
small op = EachOp (λ x. Unit {0}) (IsNumberWithin (2 ^ 31 + 1)) op

pub returns-in_ok-changed_table-in-Set : goal.returns-in_ok-changed_table-in-Set
returns-in_ok-changed_table-in-Set c = set-made c.args.vars (c.args.vars + 1) c.args.bounds.now c.requires.sound
    (add-one c.args.vars) (op_of c.args.op.now) c.in-Set.var (term_of c.in-Set.value) _
    c.in_ok-changed_table-in-Set.field-0 (sym (ap op_of c.in-Set.is))
    (omega (arith, ints, c.from.ensures, subst small (ap op_of c.in-Set.is) c.requires.numbers)) c.requires.fits
    c.in_ok-changed_table-in-Set.ensures

pub returns-in_ok-changed_table-in-Havoc : goal.returns-in_ok-changed_table-in-Havoc
returns-in_ok-changed_table-in-Havoc c = havoc-made c.args.vars (c.args.vars + 1) c.args.bounds.now c.requires.sound
    (add-one c.args.vars) (op_of c.args.op.now) c.in-Havoc.var c.in_ok-changed_table-in-Havoc.field-0
    (sym (ap op_of c.in-Havoc.is)) c.requires.fits c.in_ok-changed_table-in-Havoc.ensures
