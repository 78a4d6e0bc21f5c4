-- The code of a report's value, by which proofs tell such values apart.
use Rattle.std.specs.Prelude.{ℕ, Bool, List}
use Rattle.std.specs.Coded.{Coded, coded_ℕ, coded_bool, coded_list, coded×, code_by}
use mathlib.Core.Path.{refl}
use Rattle.trop_theory.specs.Inequalities.{Inequality}
use Rattle.prog_theory.specs.Named.{Named}
use Rattle.prog_tree.specs.NamedCodes.{coded_named}
use Rattle.cone_reports.specs.Reports.{Part}
use Rattle.report_value.specs.Views.{ReportOver}

module _ {V : Type 0} (code : Coded V) where
  abbrev pub coded_inequality : Coded (Inequality V)
  coded_inequality =
      code_by (List V × List V) (coded× (coded_list code) (coded_list code)) (λ i. (i.left, i.right))
      (λ p. record { left = p.0; right = p.1 }) (λ _. refl)

  abbrev pub coded_part : Coded (Part V)
  coded_part =
      code_by (List (List V) × List (Inequality V)) (coded×
      (coded_list (coded_list code)) (coded_list coded_inequality))
      (λ x. (x.rows, x.printed)) (λ p. record { rows = p.0; printed = p.1 }) (λ _. refl)

  abbrev pub coded_report : Coded (ReportOver V)
  coded_report =
      code_by ((ℕ × (ℕ × ℕ)) × (Named × (List (Part V) × List Bool)))
      (coded× (coded× coded_ℕ (coded× coded_ℕ coded_ℕ))
      (coded× coded_named (coded× (coded_list coded_part) (coded_list coded_bool))))
      (λ r. ((r.delay, (r.narrow, r.passes)), (r.program, (r.parts, r.verdicts))))
      (λ p. record {
        delay = p.0.0;
        narrow = p.0.1.0;
        passes = p.0.1.1;
        program = p.1.0;
        parts = p.1.1.0;
        verdicts = p.1.1.1;
      }) (λ _. refl)
