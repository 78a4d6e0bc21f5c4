-- The short report of values at the points of a program.
use Rattle.std.specs.Prelude.{◌≡◌, ℤ, ℕ, Bool, List, Option, codes, map}
use Rattle.std.specs.List.{AllZip}
use Rattle.trop_theory.specs.MaxPlus.{max_ring, max_numbering}
use Rattle.prog_theory.specs.Named.{Named, nameless}
use Rattle.cone_reports.specs.Asserts.{asserts}
use Rattle.cone_reports.specs.Reports.{Part}
use Rattle.cone_domain.specs.Values.{Value}
use Rattle.mixed_theory.specs.Mixed.{mixed, IsProvedBy}
use Rattle.dom_family.specs.Family.{value_in, IsJudgedBy}
use Rattle.short_texts.specs.Short.{short_text}
use Rattle.mixed_print.specs.Blocks.{block_text}
use Rattle.mixed_print.specs.Said.{IsSaidOf}

-- the short report with a part for each point and a verdict for each assert
abbrev pub mixed_text : ℕ → ℕ → ℕ → Named → List (Part (Option ℤ)) → List Bool → List ℕ
mixed_text delay narrow passes p parts verdicts = short_text (record {
  word = codes "mixed";
  delay = delay;
  narrow = narrow;
  passes = passes;
  program = p;
  blocks = map (block_text p.names) parts;
  verdicts = verdicts;
})

pub record IsMixedText (delay narrow passes : ℕ) (p : Named) (values : List (Value (Option ℤ)))
    (text : List ℕ) : Type 0 where
  pub parts : List (Part (Option ℤ))
  pub verdicts : List Bool
  pub printed : text ≡ mixed_text delay narrow passes p parts verdicts
  -- what is said of each point is that of its value
  pub said : AllZip IsSaidOf values parts
  -- and each verdict says whether the value at the point of the assert proves its claim
  pub judged : AllZip (IsJudgedBy (IsProvedBy max_ring max_numbering)
      (value_in (mixed max_ring max_numbering) p values)) (asserts (nameless p)) verdicts
