-- The list of an edge generates the image of the combinations of its rows.
use Rattle.std.proofs.Common.{◌≡◌, ◌≢◌, ◌⊎◌, inl, inr, ⊎_elim, ℕ, suc, Bool, List, [], ◌∷◌, length, get_or, sym, ap, ◌∙◌, refl, subst, ap₂}
use Rattle.std.specs.Prelude.{All, Any, ◌↔◌}
use Rattle.std.proofs.lemmas.List.{length-map, length-replicate, get_or_default}
use Rattle.std.proofs.lemmas.List.Elements.{All-nil}
use Rattle.trop_theory.specs.Semiring.{Semiring, SemiringLaws}
use Rattle.trop_theory.specs.Vectors.{entry, bottom, AreWide}
use Rattle.trop_theory.specs.Numbers.{Numbering, NumericLaws}
use Rattle.trop_theory.specs.Combinations.{combined, IsCombination}
use Rattle.trop_theory.proofs.Combinations.{IsCombination-bottom}
use Rattle.trop_theory.proofs.Order.{plus_itself, times_zero}
use Rattle.trop_theory.proofs.SameCones.{IsCombination-contained}
use Rattle.plain_lemmas.proofs.Lists.{Any-decided}
use Rattle.trop_theory.proofs.Rows.{length-joined, entry-bottom, entry-joined, entry-scaled}
use Rattle.trop_cones.specs.Cones.{IsCone}
use Rattle.trop_cones.proofs.Cones.{IsCombination-in, combinations_are_cone, within_is_rows}
use Rattle.prog_theory.specs.Edges.{Op}
use Rattle.prog_theory.specs.Fits.{FitsOp}
use Rattle.cone_reports.specs.Images.{InMoved, HasPoint, InImage}
use Rattle.cone_reports.specs.EdgeLists.{IsEdgeList}
use Rattle.cone_reports.proofs.MovedLists.{moved_by}

module _ {V : Type 0} {R : Semiring V} {N : Numbering V} {reversed : Bool} (laws : SemiringLaws R)
    (numbers : NumericLaws R N reversed) (vars : ℕ) where
  abbrev pub HasFinite : List (List V) → Type 0
  HasFinite rows = Any (λ g. entry R g 0 ≢ R.zero) rows

  -- some combination has a finite coordinate 0 exactly where some row has
  pub point_from_row : (rows : List (List V)) → AreWide (suc vars) rows → HasFinite rows
      → HasPoint R (IsCombination R (suc vars) rows)
  point_from_row rows w h = record {
    point = h.1;
    member = IsCombination-contained laws (suc vars) rows h.1 w (h.0, h.2, h.3);
    finite = h.4;
  }

  zero_in_front : IsCone R (suc vars) (λ x. (length x ≡ suc vars) × (entry R x 0 ≡ R.zero))
  zero_in_front = record {
    wide = λ x h. h.0;
    bottom = (length-replicate (suc vars) R.zero, entry-bottom R (suc vars) 0);
    sums = λ x y h k. (
      length-joined R x y (suc vars) h.0 k.0,
      entry-joined laws x y (h.0 ∙ sym k.0) 0
          ∙ ap₂ R.plus h.1 k.1 ∙ plus_itself laws R.zero,
    );
    multiples = λ c x h. (
      length-map x (R.times c) ∙ h.0,
      entry-scaled laws c x 0 ∙ ap (R.times c) h.1
          ∙ times_zero laws c,
    );
  }

  pub finite_decided : (rows : List (List V)) → HasFinite rows ⊎ (HasFinite rows → ⊥)
  finite_decided rows = Any-decided (λ g. entry R g 0 ≢ R.zero)
      (λ g. ⊎_elim (λ e. inr (λ d. d e)) (λ d. inl d) (laws.discrete (entry R g 0) R.zero)) rows

  pub no_point_from_rows : (rows : List (List V)) → AreWide (suc vars) rows → (HasFinite rows → ⊥)
      → HasPoint R (IsCombination R (suc vars) rows) → ⊥
  no_point_from_rows rows w none p = p.finite
      (IsCombination-in laws (suc vars) (λ x. (length x ≡ suc vars) × (entry R x 0 ≡ R.zero)) zero_in_front rows p.point
      (λ k d l. (
        w k d l,
        ⊎_elim (λ e. e) (λ f. absurd
            (none (k, get_or rows k d, l, get_or_default rows k (get_or rows k d) d l, f)))
            (laws.discrete (entry R (get_or rows k d) 0) R.zero),
      ))
      p.member).1

  -- whether a generated cone has a point
  pub point_decided : (rows : List (List V)) → AreWide (suc vars) rows
      → HasPoint R (IsCombination R (suc vars) rows) ⊎ (HasPoint R (IsCombination R (suc vars) rows) → ⊥)
  point_decided rows w = ⊎_elim (λ h. inl (point_from_row rows w h)) (λ none. inr (no_point_from_rows rows w none))
      (finite_decided rows)

  pub combined_none : (cs : List V) → combined R (suc vars) cs [] ≡ bottom R (suc vars)
  combined_none [] = refl
  combined_none (c ∷ cs) = refl

  none_wide : AreWide {V = V} (suc vars) []
  none_wide = All-nil (λ g. length g ≡ suc vars)

  -- the list of an edge generates the image
  pub image_by_list : (op : Op) → FitsOp vars op → (rows others : List (List V)) → AreWide (suc vars) rows
      → IsEdgeList R N reversed (suc vars) op rows others →
      (x : List V) → IsCombination R (suc vars) others x
      ↔ InImage R N reversed (suc vars) op (IsCombination R (suc vars) rows) x
  image_by_list op f rows others w (moved, h, inl (some, e)) x =
      let m = moved_by laws numbers vars op f rows moved w h in
      let p = point_from_row moved m.wide some in
      let q : HasPoint R (InMoved R N reversed (suc vars) op (IsCombination R (suc vars) rows)) =
      record { point = p.point; member = (m.same p.point).0 p.member; finite = p.finite } in (
        λ c. inl (q, (m.same x).0 (subst (λ r. IsCombination R (suc vars) r x) e c)),
        λ i. subst (λ r. IsCombination R (suc vars) r x) (sym e)
            (⊎_elim (λ k. (m.same x).1 k.1) (λ k. absurd (k.0 q)) i),
      )
  image_by_list op f rows others w (moved, h, inr (none, e)) x =
      let m = moved_by laws numbers vars op f rows moved w h in
      let no_point : HasPoint R (InMoved R N reversed (suc vars) op (IsCombination R (suc vars) rows))
      → ⊥ = λ q. no_point_from_rows moved m.wide none
      (record { point = q.point; member = (m.same q.point).1 q.member; finite = q.finite }) in (
        λ c. inr (
          no_point,
          let k = subst (λ r. IsCombination R (suc vars) r x) e c in
              k.is_sum ∙ combined_none k.coefficients,
        ),
        λ i. ⊎_elim (λ k. absurd (no_point k.0))
            (λ k. subst (IsCombination R (suc vars) others) (sym k.1)
            (subst (λ r. IsCombination R (suc vars) r (bottom R (suc vars))) (sym e)
            (IsCombination-bottom laws (suc vars) [] none_wide))) i,
      )

  -- its rows have the coordinates
  pub edge_list_wide : (op : Op) → FitsOp vars op → (rows others : List (List V)) → AreWide (suc vars) rows
      → IsEdgeList R N reversed (suc vars) op rows others → AreWide (suc vars) others
  edge_list_wide op f rows others w (moved, h, inl (some, e)) =
      subst (AreWide (suc vars)) (sym e) (moved_by laws numbers vars op f rows moved w h).wide
  edge_list_wide op f rows others w (moved, h, inr (none, e)) = subst (AreWide (suc vars)) (sym e) none_wide

  -- The image lies in a cone of rows exactly where each row of the list is a combination of these.
  pub image_within_by_list : (op : Op) → FitsOp vars op → (rows others target : List (List V))
      → AreWide (suc vars) rows → AreWide (suc vars) target → IsEdgeList R N reversed (suc vars) op rows others →
      ((x : List V) → InImage R N reversed (suc vars) op (IsCombination R (suc vars) rows) x
      → IsCombination R (suc vars) target x) ↔ All (IsCombination R (suc vars) target) others
  image_within_by_list op f rows others target w t h =
      let within = within_is_rows laws (suc vars) (IsCombination R (suc vars) target)
      (combinations_are_cone laws (suc vars) target t) others (edge_list_wide op f rows others w h) in (
        λ inside. within.0 (λ x c. inside x ((image_by_list op f rows others w h x).0 c)),
        λ all x i. within.1 all x ((image_by_list op f rows others w h x).1 i),
      )
