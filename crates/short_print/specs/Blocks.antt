-- Texts in lists.
use Rattle.std.specs.Prelude.{ℕ, List, map, Vec}
use Rattle.std.specs.declared.alloc.Global.{Global}

abbrev pub texts_of : List (Vec ℕ Global) → List (List ℕ)
texts_of blocks = map (λ (b : Vec ℕ Global). b.items) blocks
