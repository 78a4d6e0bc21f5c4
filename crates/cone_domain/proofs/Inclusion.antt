-- Images and joins of tropical polyhedra grow with the values.
use Rattle.std.proofs.Common.{◌≡◌, ℕ, suc, List, [], None, MatchOption, sym, ◌∙◌, refl, subst, arith}
use Rattle.std.specs.Prelude.{◌↔◌, All}
use Rattle.std.proofs.lemmas.List.Elements.{All-nil}
use Rattle.trop_theory.specs.Semiring.{Semiring, SemiringLaws}
use Rattle.trop_theory.specs.Vectors.{bottom, AreWide}
use Rattle.trop_theory.specs.Numbers.{Numbering, NumericLaws}
use Rattle.trop_theory.specs.Inequalities.{Solves, IsIn}
use Rattle.trop_theory.specs.Combinations.{IsCombination}
use Rattle.trop_theory.specs.Canonical.{IsCanonical}
use Rattle.trop_theory.proofs.Canonical.{IsCanonical-same}
use Rattle.trop_theory.proofs.Combinations.{IsCombination-bottom}
use Rattle.trop_cones.proofs.Operations.{join_has_first, join_has_second, join_least}
use Rattle.trop_cones.proofs.Exists.{canonical_exists}
use Rattle.trop_cones.proofs.Generated.{units_below, unit_at, length-units, units_below_canonical, solutions_by_canonical}
use Rattle.prog_theory.specs.Edges.{Op}
use Rattle.prog_theory.specs.Fits.{FitsOp}
use Rattle.dom_theory.specs.Inclusion.{InclusionLaws, SoundLaws, GrowthLaws}
use Rattle.cone_reports.specs.Images.{InImage}
use Rattle.cone_reports.proofs.Monotone.{image_generated, image_grows}
use Rattle.cone_domain.specs.Values.{Value, coordinates, cone_of, Describes, IsValue}
use Rattle.cone_domain.specs.Operations.{IsIncluded, IsImage, IsJoin, IsWidening}
use Rattle.cone_domain.specs.Polyhedra.{nothing, everything, polyhedra}
use Rattle.cone_domain.proofs.Values.{value_cone}
use Rattle.cone_domain.proofs.Generated.{image_same, image_is_value, join_same, join_is_value, other_cone, kept_inside, widening_same}
use Rattle.cone_domain.proofs.States.{unit_rows_are}
use Rattle.cone_domain.proofs.Nothing.{no_rows, nothing_is_value, image_of_nothing, join_of_nothing}

-- a value on so many variables, as the domain makes it
abbrev pub IsValueOn : {V : Type 0} → Semiring V → ℕ → Value V → Type 0
IsValueOn R vars v = IsValue R v × (v.vars ≡ vars)

module _ {V : Type 0} {R : Semiring V} (laws : SemiringLaws R) where
  pub everything_is_value : (vars : ℕ) → IsValue R (everything R vars)
  everything_is_value vars =
      let n = suc vars in
      let is = sym (unit_rows_are R n n) in
      record {
        wide = subst (AreWide n) is (λ k d l.
            (unit_at R n n (omega arith) k d (omega (arith, length-units R n n))).wide);
        canonical = subst (λ rows. IsCanonical R (IsCombination R n rows) rows) is
            (IsCanonical-same (Solves R n []) (IsCombination R n (units_below R n n))
            (solutions_by_canonical laws n [] (units_below R n n) (All-nil (IsIn n))
            (units_below_canonical laws n)) (units_below R n n) (units_below_canonical laws n));
        described = tt;
      }

  -- what a widening gives is described by its list
  pub widening_is_value : (v next w : Value V) → IsWidening R v next w → IsValue R w
  widening_is_value v next w h =
      let same = widening_same laws v next w h in
      let inside = kept_inside laws v next h.value h.list h.is_kept in
      let d : Describes R w h.list = record {
        inside = subst (λ m. All (IsIn (suc m)) h.list) (sym h.vars_are) inside;
        few = h.few;
        same = subst (λ m. (x : List V) → Solves R (suc m) h.list x ↔ cone_of R w x) (sym h.vars_are) same;
      } in
      record {
        wide = subst (λ m. AreWide (suc m) w.rows) (sym h.vars_are) (λ k d l. (h.rows_are.extreme k d l).member.wide);
        canonical = IsCanonical-same (Solves R (coordinates v) h.list) (cone_of R w) same w.rows h.rows_are;
        described = subst (λ k. MatchOption k (Unit {0}) (Describes R w)) (sym h.kept_are) d;
      }

module _ {V : Type 0} {R : Semiring V} {N : Numbering V} {reversed : _} (laws : SemiringLaws R)
    (numbers : NumericLaws R N reversed) (vars : ℕ) where
  polyhedra_sound : SoundLaws (polyhedra R N reversed) vars (IsValueOn R vars)
  polyhedra_sound = record {
    bottom = (nothing_is_value laws numbers vars, refl);
    top = (everything_is_value laws vars, refl);
    applied = λ op v w s h. (image_is_value laws numbers op v w h, h.gives.vars_are ∙ s.1);
    joined = λ v other w s t h. (join_is_value laws v other w h, h.gives.vars_are ∙ s.1);
    widened = λ v next w s t h. (widening_is_value laws v next w h, h.vars_are ∙ s.1);
  }

  nothing_within : (v : Value V) → IsValueOn R vars v → IsIncluded R (nothing vars) v
  nothing_within v s x c = subst (cone_of R v) (sym (no_rows laws numbers vars x c))
      (subst (λ m. IsCombination R (suc v.vars) v.rows (bottom R (suc m))) s.1
      (IsCombination-bottom laws (coordinates v) v.rows s.0.wide))

  left_within : (v other w : Value V) → IsJoin R v other w → IsIncluded R v w
  left_within v other w h x c = (join_same laws v other w h x).0
      (join_has_first laws (coordinates v) (cone_of R v) (cone_of R other) (value_cone laws v h.value)
      (other_cone laws v other h.same_vars h.other_value) x c)

  right_within : (v other w : Value V) → IsJoin R v other w → IsIncluded R other w
  right_within v other w h x c = (join_same laws v other w h x).0
      (join_has_second laws (coordinates v) (cone_of R v) (cone_of R other) (value_cone laws v h.value)
      (other_cone laws v other h.same_vars h.other_value) x c)

  least_within : (v other w z : Value V) → IsValueOn R vars z → IsJoin R v other w → IsIncluded R v z
      → IsIncluded R other z → IsIncluded R w z
  least_within v other w z s h a b x c = join_least laws (coordinates z) (cone_of R v) (cone_of R other) (cone_of R z)
      (value_cone laws z s.0) a b x ((join_same laws v other w h x).1 c)

  image_within : (op : Op) (v w a b : Value V) → IsValueOn R vars v → IsValueOn R vars w → IsIncluded R v w
      → IsImage R N reversed op v a → IsImage R N reversed op w b → IsIncluded R a b
  image_within op v w a b sv sw inside ha hb x c =
      (image_same laws numbers op w b hb x).0
      (image_grows laws numbers w.vars op hb.fits (cone_of R v) w.rows hb.value.wide inside x
      (subst (λ m. InImage R N reversed (suc m) op (cone_of R v) x) (sv.1 ∙ sym sw.1)
      ((image_same laws numbers op v a ha x).1 c)))

  pub image_exists : (op : Op) (v : Value V) → FitsOp vars op → IsValueOn R vars v
      → (w : Value V) × IsImage R N reversed op v w
  image_exists op v f s =
      let fits = subst (λ m. FitsOp m op) (sym s.1) f in
      let g = image_generated laws numbers v.vars op fits v.rows s.0.wide in
      let c = canonical_exists laws (coordinates v) g.rows g.wide in (
        record { vars = v.vars; rows = c.0; kept = None },
        record {
          value = s.0;
          fits = fits;
          gives = record {
            vars_are = refl;
            rows_are = IsCanonical-same (IsCombination R (coordinates v) g.rows)
                (InImage R N reversed (coordinates v) op (cone_of R v)) (λ x. ((g.same x).1, (g.same x).0)) c.0 c.1;
            no_list = refl;
          };
        },
      )

  polyhedra_growth : GrowthLaws (polyhedra R N reversed) vars (IsValueOn R vars)
  polyhedra_growth = record {
    self = λ v x c. c;
    trans = λ u v w a b x c. b x (a x c);
    nothing = nothing_within;
    left = left_within;
    right = right_within;
    least = least_within;
    grows = image_within;
    exists = image_exists;
    image_of_bottom = image_of_nothing laws numbers vars;
    join_of_bottom = join_of_nothing laws numbers vars;
  }

  pub polyhedra_inclusion : InclusionLaws (polyhedra R N reversed) vars (IsValueOn R vars)
  polyhedra_inclusion = record { sound = polyhedra_sound; growth = polyhedra_growth }
