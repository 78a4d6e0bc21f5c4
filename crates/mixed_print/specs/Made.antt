-- The block that is made of a value.
use Rattle.std.specs.Prelude.{◌≡◌, ℤ, ℕ, List, Option}
use Rattle.cone_reports.specs.Reports.{Part}
use Rattle.cone_domain.specs.Values.{Value}
use Rattle.mixed_print.specs.Blocks.{block_text}
use Rattle.mixed_print.specs.Said.{IsSaidOf, IsListStop}

-- what is said of it, as text; its external list does not stop
pub record IsBlockOf (names : List (List ℕ)) (v : Value (Option ℤ)) (text : List ℕ) : Type 0 where
  pub part : Part (Option ℤ)
  pub said : IsSaidOf v part
  pub is : text ≡ block_text names part
  pub unstopped : (i k : ℕ) → IsListStop v i k → ⊥
