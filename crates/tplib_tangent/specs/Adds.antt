-- What a text gains at its end.
use Rattle.std.specs.Prelude.{◌≡◌, ℕ, List, ◌++◌}

-- the new text is the old one and then a text with P
abbrev pub Adds : List ℕ → List ℕ → (List ℕ → Type 0) → Type 0
Adds old new P = (added : List ℕ) × (new ≡ old ++ added) × P added
