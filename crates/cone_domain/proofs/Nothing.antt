-- What the operations make of bottom, and values whose cone is bottom alone.
use Rattle.std.proofs.Common.{◌≡◌, inl, inr, ℕ, zero, suc, List, [], ◌∷◌, length, sym, ap, ◌∙◌, refl, arith}
use Rattle.std.proofs.lemmas.List.{length-replicate, get_or-set_other}
use Rattle.std.proofs.lemmas.List.Elements.{All-nil, All-head}
use Rattle.trop_theory.specs.Semiring.{Semiring, SemiringLaws}
use Rattle.trop_theory.specs.Vectors.{entry, bottom}
use Rattle.trop_theory.specs.Numbers.{Numbering, NumericLaws}
use Rattle.trop_theory.specs.Normal.{IsNormal}
use Rattle.trop_theory.specs.Combinations.{IsCombination}
use Rattle.trop_theory.specs.Canonical.{IsCanonical}
use Rattle.trop_theory.specs.Extreme.{IsExtreme}
use Rattle.trop_theory.proofs.Rows.{entry-bottom}
use Rattle.trop_cones.specs.Sets.{InJoin}
use Rattle.prog_theory.specs.Edges.{Op, Skips, Sets, Havocs, Guards}
use Rattle.prog_theory.specs.Fits.{FitsOp}
use Rattle.cone_reports.specs.Images.{InMoved, InImage}
use Rattle.cone_reports.proofs.EdgeLists.{combined_none}
use Rattle.cone_reports.proofs.Points.{nothing_is_cone}
use Rattle.cone_domain.specs.Values.{Value, IsValue}
use Rattle.cone_domain.specs.Operations.{IsImage, IsJoin}
use Rattle.cone_domain.specs.Polyhedra.{nothing}
use Rattle.cone_domain.proofs.Values.{value_same}

module _ {V : Type 0} {R : Semiring V} (n : ℕ) where
  -- a set of bottom alone has the empty canonical list
  pub canonical_none : (vectors : List V → Type 0) → ((x : List V) → vectors x → x ≡ bottom R n)
      → (rows : List (List V)) → IsCanonical R vectors rows → rows ≡ []
  canonical_none vectors only [] c = refl
  canonical_none vectors only (g ∷ rows) c =
      let ex = All-head (IsExtreme R vectors) g rows c.extreme in
      let is = only g ex.member in
      absurd (ex.not_bottom (is ∙ ap (bottom R) (sym (ap length is ∙ length-replicate n R.zero))))

  pub none_canonical : (vectors : List V → Type 0) → ((x : List V) → vectors x → x ≡ bottom R n)
      → IsCanonical R vectors []
  none_canonical vectors only = record {
    ascending = λ i j d lt l. absurd (omega arith);
    normal = All-nil (IsNormal R);
    extreme = All-nil (IsExtreme R vectors);
    complete = λ x nx ex. let is = only x ex.member in
        absurd (ex.not_bottom (is ∙ ap (bottom R) (sym (ap length is ∙ length-replicate n R.zero))));
  }

module _ {V : Type 0} {R : Semiring V} {N : Numbering V} {reversed : _} (laws : SemiringLaws R)
    (numbers : NumericLaws R N reversed) (vars : ℕ) where
  pub no_rows : (x : List V) → IsCombination R (suc vars) [] x → x ≡ bottom R (suc vars)
  no_rows x c = c.is_sum ∙ combined_none laws numbers vars c.coefficients

  zero_of : (x : List V) → IsCombination R (suc vars) [] x → entry R x 0 ≡ R.zero
  zero_of x c = ap (λ v. entry R v 0) (no_rows x c) ∙ entry-bottom R (suc vars) 0

  moved_zero : (op : Op) → FitsOp vars op → (x : List V)
      → InMoved R N reversed (suc vars) op (IsCombination R (suc vars) []) x → entry R x 0 ≡ R.zero
  moved_zero Skips f x h = zero_of x h
  moved_zero (Sets zero t) f x h = absurd (omega arith)
  moved_zero (Sets (suc i) t) f x h = ap (λ v. entry R v 0) h.replaced
      ∙ get_or-set_other h.before (suc i) 0 _ R.zero (λ e. omega arith) ∙ zero_of h.before h.member
  moved_zero (Havocs zero) f x h = absurd (omega arith)
  moved_zero (Havocs (suc i)) f x h = h.agrees 0 (λ e. omega arith) ∙ zero_of h.other h.member
  moved_zero (Guards l r) f x h = zero_of x h.0

  -- the image of bottom is bottom alone
  image_only : (op : Op) → FitsOp vars op → (x : List V)
      → InImage R N reversed (suc vars) op (IsCombination R (suc vars) []) x → x ≡ bottom R (suc vars)
  image_only op f x (inl (p, h)) = absurd (p.finite (moved_zero op f p.point p.member))
  image_only op f x (inr (none, e)) = e

  pub image_of_nothing : (op : Op) (w : Value V) → IsImage R N reversed op (nothing vars) w → w ≡ nothing vars
  image_of_nothing op w h =
      value_same w (nothing vars) h.gives.vars_are
      (canonical_none (suc vars) (InImage R N reversed (suc vars) op (IsCombination R (suc vars) []))
      (image_only op h.fits) w.rows h.gives.rows_are)
      h.gives.no_list

  join_only : (x : List V) → InJoin R (IsCombination R (suc vars) []) (IsCombination R (suc vars) []) x
      → x ≡ bottom R (suc vars)
  join_only x h = h.sum ∙ (nothing_is_cone laws (suc vars)).sums h.left h.right (no_rows h.left h.in_first)
      (no_rows h.right h.in_second)

  pub join_of_nothing : (w : Value V) → IsJoin R (nothing vars) (nothing vars) w → w ≡ nothing vars
  join_of_nothing w h =
      value_same w (nothing vars) h.gives.vars_are
      (canonical_none (suc vars) (InJoin R (IsCombination R (suc vars) []) (IsCombination R (suc vars) [])) join_only
      w.rows h.gives.rows_are)
      h.gives.no_list

  pub nothing_is_value : IsValue R (nothing vars)
  nothing_is_value = record {
    wide = All-nil (λ g. length g ≡ suc vars);
    canonical = none_canonical (suc vars) (IsCombination R (suc vars) []) no_rows;
    described = tt;
  }
