-- Images and joins grow with the cones.
use Rattle.std.proofs.Common.{◌≡◌, ◌⊎◌, inl, inr, ⊎_elim, ℕ, suc, Bool, List, [], ◌∷◌, length, map, set, get_or, sym, ◌∙◌, subst, arith}
use Rattle.std.proofs.lemmas.List.{length-set}
use Rattle.std.proofs.lemmas.List.Elements.{All-map, All-append, All-cons, All-nil}
use Rattle.trop_theory.specs.Semiring.{Semiring, SemiringLaws}
use Rattle.trop_theory.specs.Vectors.{entry, bottom, AreWide}
use Rattle.trop_theory.specs.Numbers.{Numbering, NumericLaws}
use Rattle.trop_theory.specs.Inequalities.{Inequality, IsValidOn}
use Rattle.trop_cones.specs.Sets.{InJoin, assigned}
use Rattle.trop_theory.specs.Combinations.{IsCombination}
use Rattle.trop_theory.proofs.Combinations.{IsCombination-bottom}
use Rattle.trop_cones.proofs.Images.{assign_by_rows}
use Rattle.trop_cones.proofs.Operations.{forget_rows, forget_by_rows}
use Rattle.trop_cones.proofs.Generated.{IsUnit-set, Generated}
use Rattle.prog_theory.specs.Fits.{FitsOp}
use Rattle.cone_reports.specs.Sides.{guard_inequality}
use Rattle.cone_reports.specs.EdgeLists.{unit_row}
use Rattle.cone_reports.proofs.MovedLists.{guard_inside}
use Rattle.cone_reports.proofs.EdgeLists.{combined_none, point_decided}
use Rattle.prog_theory.specs.Edges.{Op, Skips, Sets, Havocs, Guards}
use Rattle.cone_reports.specs.Images.{InMoved, HasPoint, InPointed, InImage}
use Rattle.cone_reports.proofs.Guards.{guard_generated}

abbrev pub Inside : {V : Type 0} → (List V → Type 0) → (List V → Type 0) → Type 0
Inside C D = (x : List _) → C x → D x

module _ {V : Type 0} (R : Semiring V) where
  pub join_grows : (C D E F : List V → Type 0) → Inside C E → Inside D F → Inside (InJoin R C D) (InJoin R E F)
  join_grows C D E F c d x h = record {
    left = h.left;
    right = h.right;
    in_first = c h.left h.in_first;
    in_second = d h.right h.in_second;
    sum = h.sum;
  }

  -- what is valid on a cone is valid on a smaller one
  pub valid_falls : (C D : List V → Type 0) (p : Inequality V) → Inside C D → IsValidOn R D p → IsValidOn R C p
  valid_falls C D p c h x k = h x (c x k)

  pointed_grows : (n : ℕ) (C D : List V → Type 0) → (HasPoint R D) ⊎ (HasPoint R D → ⊥) → Inside C D → D (bottom R n)
      → Inside (InPointed R n C) (InPointed R n D)
  pointed_grows n C D decided c b x (inl (p, h)) =
      inl (record { point = p.point; member = c p.point p.member; finite = p.finite }, c x h)
  pointed_grows n C D decided c b x (inr (none, e)) = ⊎_elim (λ p. inl (p, subst D (sym e) b)) (λ q. inr (q, e)) decided

module _ {V : Type 0} (R : Semiring V) (N : Numbering V) (reversed : Bool) where
  pub moved_grows : (n : ℕ) (op : Op) (C D : List V → Type 0) → Inside C D
      → Inside (InMoved R N reversed n op C) (InMoved R N reversed n op D)
  moved_grows n Skips C D c x h = c x h
  moved_grows n (Sets i t) C D c x h = record { before = h.before; member = c h.before h.member; replaced = h.replaced }
  moved_grows n (Havocs i) C D c x h = record {
    other = h.other;
    member = c h.other h.member;
    wide = h.wide;
    agrees = h.agrees;
  }
  moved_grows n (Guards l r) C D c x h = (c x h.0, h.1)

module _ {V : Type 0} {R : Semiring V} {N : Numbering V} {reversed : Bool} (laws : SemiringLaws R)
    (numbers : NumericLaws R N reversed) (vars : ℕ) where
  -- The image of a generated cone is generated.
  pub moved_generated : (op : Op) → FitsOp vars op → (rows : List (List V)) → AreWide (suc vars) rows
      → Generated laws (suc vars) (InMoved R N reversed (suc vars) op (IsCombination R (suc vars) rows))
  moved_generated Skips f rows w = record { rows = rows; wide = w; same = λ x. (λ h. h, λ h. h) }
  moved_generated (Sets i t) f rows w = record {
    rows = map (assigned R i t.coord (N.of t.add)) rows;
    wide = All-map (λ g. length g ≡ suc vars) (assigned R i t.coord (N.of t.add)) rows
        (λ k d l. length-set (get_or rows k d) i (R.times (N.of t.add) (entry R (get_or rows k d) t.coord)) ∙ w k d l);
    same = λ x. let a = assign_by_rows laws (suc vars) i t.coord (N.of t.add) rows w x in (a.1, a.0);
  }
  moved_generated (Havocs i) f rows w =
      let unit = IsUnit-set R (suc vars) i (omega arith) in record {
        rows = forget_rows R i (unit_row R (suc vars) i) rows;
        wide = All-append (λ g. length g ≡ suc vars) (map (λ g. set g i R.zero) rows) (unit_row R (suc vars) i ∷ [])
            (All-map (λ g. length g ≡ suc vars) (λ g. set g i R.zero) rows
            (λ k d l. length-set (get_or rows k d) i R.zero ∙ w k d l))
            (All-cons (λ g. length g ≡ suc vars) (unit_row R (suc vars) i) [] unit.wide
            (All-nil (λ g. length g ≡ suc vars)));
        same = λ x. let a = forget_by_rows laws (suc vars) i rows (unit_row R (suc vars) i) w (omega arith) unit x in
            (a.1, a.0);
      }
  moved_generated (Guards l r) f rows w =
      guard_generated laws (suc vars) (guard_inequality R N reversed (suc vars) l r)
      (guard_inside laws numbers vars l r) rows w

  pub moved_decided : (op : Op) → FitsOp vars op → (rows : List (List V)) → AreWide (suc vars) rows
      → HasPoint R (InMoved R N reversed (suc vars) op (IsCombination R (suc vars) rows))
      ⊎ (HasPoint R (InMoved R N reversed (suc vars) op (IsCombination R (suc vars) rows)) → ⊥)
  moved_decided op f rows w =
      let g = moved_generated op f rows w in ⊎_elim
      (λ p. inl (record { point = p.point; member = (g.same p.point).1 p.member; finite = p.finite }))
      (λ none. inr (λ p. none (record { point = p.point; member = (g.same p.point).0 p.member; finite = p.finite })))
      (point_decided laws numbers vars g.rows g.wide)

  -- the image of a cone grows with it, where the greater cone is generated
  pub image_grows : (op : Op) → FitsOp vars op → (C : List V → Type 0) (rows : List (List V)) → AreWide (suc vars) rows
      → Inside C (IsCombination R (suc vars) rows) →
      Inside (InImage R N reversed (suc vars) op C)
      (InImage R N reversed (suc vars) op (IsCombination R (suc vars) rows))
  image_grows op f C rows w c =
      let g = moved_generated op f rows w in
      pointed_grows R (suc vars) (InMoved R N reversed (suc vars) op C)
      (InMoved R N reversed (suc vars) op (IsCombination R (suc vars) rows))
      (moved_decided op f rows w) (moved_grows R N reversed (suc vars) op C (IsCombination R (suc vars) rows) c)
      ((g.same (bottom R (suc vars))).1 (IsCombination-bottom laws (suc vars) g.rows g.wide))

  -- the image of a generated cone is generated
  pub image_generated : (op : Op) → FitsOp vars op → (rows : List (List V)) → AreWide (suc vars) rows
      → Generated laws (suc vars) (InImage R N reversed (suc vars) op (IsCombination R (suc vars) rows))
  image_generated op f rows w =
      let g = moved_generated op f rows w in ⊎_elim
      (λ p. record {
        rows = g.rows;
        wide = g.wide;
        same = λ x. (λ i. ⊎_elim (λ k. (g.same x).0 k.1) (λ k. absurd (k.0 p)) i, λ c. inl (p, (g.same x).1 c));
      })
      (λ none. record {
        rows = [];
        wide = All-nil (λ g. length g ≡ suc vars);
        same = λ x. (
          λ i. ⊎_elim (λ k. absurd (none k.0))
              (λ k. subst (IsCombination R (suc vars) []) (sym k.1)
              (IsCombination-bottom laws (suc vars) [] (All-nil (λ g. length g ≡ suc vars)))) i,
          λ c. inr (none, c.is_sum ∙ combined_none laws numbers vars c.coefficients),
        );
      })
      (moved_decided op f rows w)
