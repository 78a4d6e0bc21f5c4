-- Bounds of small zones, compared with the rules by hand.
use Rattle.std.proofs.Common.{◌≡◌, pos, negsuc, [], ◌∷◌, Some, None, refl}
use Rattle.zone_theory.specs.Matrices.{Matrix, free}
use Rattle.zone_theory.specs.Adding.{added}
use Rattle.zone_theory.specs.Assigning.{assigned}
use Rattle.zone_theory.specs.Forgetting.{forgotten}
use Rattle.zone_theory.specs.Joining.{joined}
use Rattle.zone_theory.specs.Limits.{limits}
use Rattle.zone_theory.specs.Width.{numbers, width}

-- x takes y + 2
after : Matrix
after = assigned free 1 2 (pos 2)

after_bounds : limits 2 after ≡ record { high = 1; low = 2; most = pos 2 } ∷ record {
  high = 2;
  low = 1;
  most =
      negsuc 1;
} ∷ []
unfolding after
after_bounds = refl

after_count : numbers 2 after ≡ 2
unfolding after
after_count = refl

-- and then x is at most 5: y is at most 3
below_five : Matrix
below_five = added after 1 0 (pos 5)

y_follows : below_five 2 0 ≡ Some (pos 3)
unfolding below_five after
y_follows = refl

-- then x takes x + 1
raised : Matrix
raised = assigned below_five 1 1 (pos 1)

raised_bounds : limits 2 raised ≡ record { high = 1; low = 0; most = pos 6 } ∷ record {
  high = 1;
  low = 2;
  most =
      pos 3;
} ∷ record { high = 2; low = 0; most = pos 3 } ∷ record { high = 2; low = 1; most = negsuc 2 } ∷ []
unfolding raised below_five after
raised_bounds = refl

-- without x only the bound of y is left
forgotten_bounds : limits 2 (forgotten raised 1) ≡ record { high = 2; low = 0; most = pos 3 } ∷ []
unfolding raised below_five after
forgotten_bounds = refl

-- the join of both
joined_bounds : limits 2 (joined below_five raised) ≡ record { high = 1; low = 0; most = pos 6 } ∷ record {
  high =
      1;
  low = 2;
  most = pos 3;
} ∷ record { high = 2; low = 0; most = pos 3 } ∷ record {
  high = 2;
  low = 1;
  most =
      negsuc 1;
} ∷ []
unfolding raised below_five after
joined_bounds = refl

widths : (width 2 None ≡ 7) × (width 2 (Some raised) ≡ 4)
unfolding raised below_five after
widths = (refl, refl)
