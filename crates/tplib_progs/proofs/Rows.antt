-- Loops over numbers: what is left begins with the number at hand.
use Rattle.std.proofs.Common.{◌≡◌, ◌<◌, ◌+◌, ◌∷◌, ◌∙◌, ℕ, suc, ℤ, List, length, get_or, drop, ap, arith}
use Rattle.std.proofs.Math.Seq.{drop-cons}

pub drop_number : (xs : List ℤ) (i : ℕ) (d : ℤ) → i < length xs → drop i xs ≡ get_or xs i d ∷ drop (i + 1) xs
drop_number xs i d h =
    let next : suc i ≡ i + 1 = omega arith in
    drop-cons xs i d h ∙ ap (λ j. get_or xs i d ∷ drop j xs) next
