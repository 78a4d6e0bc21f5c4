-- A claim that a zone proves is true of its states.
use Rattle.std.proofs.Common.{ℕ}
use Rattle.zone_theory.specs.Relations.{zones}
use Rattle.zone_theory.proofs.Claims.{proved-true}
use Rattle.zone_theory.proofs.Inclusion.{IsZoneOn}
use Rattle.dom_family.specs.Claims.{ClaimLaws}
use Rattle.zone_print.specs.Reports.{proves}

pub claim_laws : (d : ℕ) → ClaimLaws zones d (IsZoneOn d) (λ claim. Unit {0}) proves
claim_laws d = record {
  true_of = λ claim x on words here proved s has. proved-true x.vars x.bounds claim here.sides proved s has;
}
