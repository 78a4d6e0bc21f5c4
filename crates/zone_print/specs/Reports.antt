-- The short report of zones, one for each point of a program.
use Rattle.std.specs.Prelude.{◌≡◌, ℕ, Bool, List, map, codes}
use Rattle.std.specs.List.{AllZip}
use Rattle.prog_theory.specs.Statements.{Claim}
use Rattle.prog_theory.specs.Named.{Named, nameless}
use Rattle.cone_reports.specs.Asserts.{asserts}
use Rattle.zone_theory.specs.Claims.{IsProved}
use Rattle.zone_theory.specs.Domain.{Zone}
use Rattle.zone_theory.specs.Relations.{zones}
use Rattle.dom_family.specs.Family.{value_in, IsJudgedBy}
use Rattle.short_texts.specs.Short.{short_text}
use Rattle.zone_print.specs.Blocks.{block_text}

-- the zone proves the claim
abbrev pub proves : Claim → Zone → Type 0
proves claim x = IsProved x.vars x.bounds claim

-- what is printed of a point with this zone
abbrev pub zone_block : List (List ℕ) → Zone → List ℕ
zone_block names x = block_text names x.vars x.bounds

-- the lines of each zone, and an assert is said to be proved exactly where the zone of its point proves its claim
pub record IsZoneReport (delay narrow passes : ℕ) (p : Named) (values : List Zone) (text : List ℕ) : Type 0 where
  pub verdicts : List Bool
  pub verdicts_are : AllZip (IsJudgedBy proves (value_in zones p values)) (asserts (nameless p)) verdicts
  pub printed : text ≡ short_text (record {
    word = codes "zone";
    delay = delay;
    narrow = narrow;
    passes = passes;
    program = p;
    blocks = map (zone_block p.names) values;
    verdicts = verdicts;
  })
