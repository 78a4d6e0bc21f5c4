-- What is printed of a value is true at its states.
use Rattle.std.proofs.Common.{◌≡◌, ℕ, List, [], ◌∷◌, Option, length, get_or, ⊎_elim, sym, ap, subst, arith}
use Rattle.std.specs.Prelude.{ℤ, All}
use Rattle.std.specs.List.{AllZip}
use Rattle.std.proofs.lemmas.Bool.{cases_lt}
use Rattle.std.proofs.lemmas.List.{get_or_past}
use Rattle.std.proofs.lemmas.List.Elements.{All-nil}
use Rattle.trop_theory.specs.Inequalities.{Inequality, IsTrueAt}
use Rattle.trop_theory.specs.MaxPlus.{max_ring}
use Rattle.trop_theory.proofs.MaxPlusLaws.{max_laws}
use Rattle.trop_theory.proofs.Combinations.{IsCombination-length}
use Rattle.trop_duality.proofs.Bipolar.{external_valid}
use Rattle.cone_domain.specs.Values.{Value, coordinates, cone_of, IsValue}
use Rattle.cone_reports.specs.Reports.{Part, no_part}
use Rattle.dom_family.proofs.Zips.{AllZip-length, AllZip-at}
use Rattle.mixed_print.specs.Said.{AreBoundsOf, IsSaidOf}

abbrev Element : Type 0
Element = Option ℤ

abbrev AreTrueAt : List Element → List (Inequality Element) → Type 0
AreTrueAt x printed = All (λ i. IsTrueAt max_ring i x) printed

none_printed : (x : List Element) (printed : List (Inequality Element)) → printed ≡ [] → AreTrueAt x printed
none_printed x printed none = subst (AreTrueAt x) (sym none) (All-nil (λ i. IsTrueAt max_ring i x))

bounds_true : (v : Value Element) → IsValue max_ring v → (x : List Element) → cone_of max_ring v x →
    (rows : List (List Element)) (printed : List (Inequality Element)) → AreBoundsOf v rows printed →
    AreTrueAt x printed
bounds_true v value x has [] printed none = none_printed x printed none
bounds_true v value x has (y ∷ rows) printed external = λ k d l.
    external_valid max_laws (coordinates v) (cone_of max_ring v)
    (λ z h. IsCombination-length max_laws (coordinates v) v.rows z value.wide h) (coordinates v) printed external k d l
    x has

-- at each point
pub printed_true : (values : List (Value Element)) (parts : List (Part Element)) (none : Value Element) →
    AllZip IsSaidOf values parts → (q : ℕ) → IsValue max_ring (get_or values q none) → (x : List Element) →
    cone_of max_ring (get_or values q none) x → AreTrueAt x (get_or parts q no_part).printed
printed_true values parts none said q value x has = ⊎_elim
    (λ l. let h = AllZip-at IsSaidOf values parts q none no_part said l in
    bounds_true (get_or values q none) value x has (get_or parts q no_part).rows (get_or parts q no_part).printed
    h.bounds)
    (λ l. none_printed x (get_or parts q no_part).printed
    (ap (λ (part : Part Element). part.printed) (get_or_past parts q no_part
    (let e = AllZip-length IsSaidOf values parts said in omega (arith, l, e)))))
    (cases_lt q (length values))
