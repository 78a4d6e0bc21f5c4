-- The code of programs with their names.
use Rattle.std.specs.Prelude.{ℕ, List}
use Rattle.std.specs.Coded.{Coded, coded_ℕ, coded_list, coded×, code_by}
use mathlib.Core.Path.{refl}
use Rattle.prog_theory.specs.Statements.{Block}
use Rattle.prog_theory.specs.Named.{Named}
use Rattle.prog_tree.specs.BlockCodes.{coded_block}

abbrev pub coded_named : Coded Named
coded_named =
    code_by (List (List ℕ) × Block) (coded× (coded_list (coded_list coded_ℕ)) coded_block) (λ p. (p.names, p.body))
    (λ p. record { names = p.0; body = p.1 }) (λ _. refl)
