use Rattle.std.proofs.Common.{◌≡◌, ◌++◌, drop, map}
use Rattle.prog_tree.specs.Terms.{term_of}
use Rattle.prog_print.specs.Texts.{more_text}
use Rattle.prog_print.proofs.claims.push_more_terms.Given as goal

abbrev pub invariant-loop-term : goal.invariant-loop-term
invariant-loop-term l = l.text.items ++ more_text l.names (map term_of (drop l.term-index l.terms)) ≡
    l.fn.text.items ++ more_text l.names (map term_of l.terms)
