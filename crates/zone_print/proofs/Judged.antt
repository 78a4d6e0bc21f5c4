-- The verdicts on values in lists are those on the zones that the lists stand for.
use Rattle.std.proofs.Common.{◌≡◌, ◌∙◌, ℕ, zero, suc, Bool, true, List, [], ◌∷◌, map, codes, refl, sym, ap, subst}
use Rattle.std.specs.Prelude.{◌↔◌}
use Rattle.std.specs.List.{AllZip}
use Rattle.prog_theory.specs.Named.{Named, nameless}
use Rattle.cone_reports.specs.Asserts.{Assertion, asserts}
use Rattle.zone_theory.specs.Relations.{zones}
use Rattle.zone_lists.specs.Zones.{ZoneList, zone_of, zone_lists}
use Rattle.dom_zone.specs.Claims.{is_proven}
use Rattle.dom_family.specs.Family.{value_in, IsJudgedBy}
use Rattle.dom_family.proofs.Zips.{AllZip-weaker}
use Rattle.short_texts.specs.Short.{Short, short_text}
use Rattle.zone_print.specs.Reports.{proves, zone_block, IsZoneReport}

module _ (p : Named) where
  pub zone-value : (values : List ZoneList) (q : ℕ) → value_in zones p (map zone_of values) q
      ≡ zone_of (value_in zone_lists p values q)
  zone-value [] q = refl
  zone-value (x ∷ values) zero = refl
  zone-value (x ∷ values) (suc q) = zone-value values q

  pub judged-zones : (values : List ZoneList) (claims : List Assertion) (verdicts : List Bool)
      → AllZip (IsJudgedBy is_proven (value_in zone_lists p values)) claims verdicts
      → AllZip (IsJudgedBy proves (value_in zones p (map zone_of values))) claims verdicts
  judged-zones values = AllZip-weaker (IsJudgedBy is_proven (value_in zone_lists p values))
      (IsJudgedBy proves (value_in zones p (map zone_of values)))
      (λ a b h. subst (λ z. (b ≡ true) ↔ proves a.claim z) (sym (zone-value values a.point)) h)

  -- the report that is printed
  pub reported : (delay narrow passes : ℕ) (values : List ZoneList) (verdicts others : List Bool)
      (word : List ℕ) (blocks : List (List ℕ)) (text : List ℕ)
      → AllZip (IsJudgedBy is_proven (value_in zone_lists p values)) (asserts (nameless p)) verdicts
      → others ≡ verdicts → word ≡ codes "zone" → blocks ≡ map (zone_block p.names) (map zone_of values)
      → text ≡ short_text (record {
        word = word;
        delay = delay;
        narrow = narrow;
        passes = passes;
        program = p;
        blocks = blocks;
        verdicts = others;
      }) → IsZoneReport delay narrow passes p (map zone_of values) text
  reported delay narrow passes values verdicts others word blocks text judged same says made printed = record {
    verdicts = verdicts;
    verdicts_are = judged-zones values (asserts (nameless p)) verdicts judged;
    printed = printed ∙ ap (λ w. short_text (with w blocks others)) says
        ∙ ap (λ bs. short_text (with (codes "zone") bs others)) made
        ∙ ap (λ vs. short_text (with (codes "zone") (map (zone_block p.names) (map zone_of values)) vs)) same;
  }
    where
      with : List ℕ → List (List ℕ) → List Bool → Short
      with w bs vs = record {
        word = w;
        delay = delay;
        narrow = narrow;
        passes = passes;
        program = p;
        blocks = bs;
        verdicts = vs;
      }
