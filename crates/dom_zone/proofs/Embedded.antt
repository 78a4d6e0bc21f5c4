-- The inequalities of a zone of code.
use Rattle.std.proofs.Common.{◌≡◌, ℕ, suc, ℤ, List, length, Option, Some, sym, ap, subst, ◌∙◌}
use Rattle.std.specs.Prelude.{◌↔◌, Result, Ok, Err, IfOk}
use Rattle.trop_theory.specs.MaxPlus.{max_ring, max_numbering}
use Rattle.trop_theory.specs.Inequalities.{Solves}
use Rattle.trop_theory.proofs.MaxPlusLaws.{max_laws, max_number_laws, max_numeric_laws}
use Rattle.trop_row.specs.Lists.{InequalityList}
use Rattle.prog_theory.specs.States.{State}
use Rattle.cone_reports.specs.Vectors.{vector}
use Rattle.zone_theory.specs.Bounds.{Bound}
use Rattle.zone_theory.specs.Embedding.{system}
use Rattle.zone_theory.specs.Domain.{HasState}
use Rattle.zone_theory.proofs.Embedding.{zone-solves, solves-zone}
use Rattle.zone_lists.specs.Zones.{ZoneList, matrix_in, zone_of}
use Rattle.dom_zone.proofs.Views.{list}

-- they are true at the vector of a state exactly where the state is in the zone
pub states-told : {E : Type 0} (vars : ℕ) (b kept : Option (List Bound)) (bounds : List Bound) (x : ZoneList)
    (r : Result (InequalityList (Option ℤ)) E) → b ≡ Some bounds → list vars b kept ≡ x
    → IfOk r (λ made. made.inequalities ≡ system max_ring max_numbering vars (matrix_in vars bounds))
    → (s : State) → length s ≡ x.vars → IfOk r (λ made.
    Solves max_ring (suc x.vars) made.inequalities (vector max_ring max_numbering s) ↔ HasState (zone_of x) s)
states-told vars b kept bounds x (Err e) some view made s size = tt
states-told vars b kept bounds x (Ok t) some view made s size = subst (λ (x : ZoneList). length s ≡ x.vars
    → Solves max_ring (suc x.vars) t.inequalities (vector max_ring max_numbering s) ↔ HasState (zone_of x) s)
    (ap (λ b. list vars b kept) (sym some) ∙ view)
    (λ size. subst (λ q. Solves max_ring (suc vars) q (vector max_ring max_numbering s)
    ↔ HasState (zone_of (list vars (Some bounds) kept)) s) (sym made) (
      solves-zone max_ring max_numbering max_laws max_number_laws max_numeric_laws vars (matrix_in vars bounds) s size,
      zone-solves max_ring max_numbering max_laws max_number_laws max_numeric_laws vars (matrix_in vars bounds) s,
    )) size
