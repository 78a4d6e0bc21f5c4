-- The lines of small zones, compared with rows that were worked by hand.
use Rattle.std.proofs.Common.{◌≡◌, ℕ, pos, negsuc, List, [], ◌∷◌, codes, Some, None, refl}
use Rattle.std.specs.Fmt.{digits}
use Rattle.zone_theory.specs.Matrices.{free}
use Rattle.zone_theory.specs.Adding.{added}
use Rattle.zone_theory.specs.Assigning.{assigned}
use Rattle.zone_print.specs.Blocks.{block_text}

abbrev i : List (List ℕ)
i = codes "i" ∷ []

abbrev xy : List (List ℕ)
xy = codes "x" ∷ codes "y" ∷ []

-- a counter that goes from 0 to 10: at the head of its loop, and behind the loop
counter_head : block_text i 1 (Some (added (added free 0 1 (pos 0)) 1 0 (pos 10))) ≡ codes "inv -i <= 0\ninv i <= 10\n"
unfolding digits
counter_head = refl

counter_behind : block_text i 1 (Some (added (added free 0 1 (negsuc 9)) 1 0 (pos 10)))
    ≡ codes "inv -i <= -10\ninv i <= 10\n"
unfolding digits
counter_behind = refl

-- x took y + 2
assigned_lines : block_text xy 2 (Some (assigned free 1 2 (pos 2))) ≡ codes "inv x - y <= 2\ninv y - x <= -2\n"
unfolding digits
assigned_lines = refl

-- no bound at all, and no state at all
free_lines : block_text xy 2 (Some free) ≡ []
free_lines = refl

empty_lines : block_text xy 2 None ≡ codes "unreachable\n"
empty_lines = refl
