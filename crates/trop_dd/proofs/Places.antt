-- What is known of a row of the list and of what is carried beside it.
use Rattle.std.proofs.Common.{◌≡◌, ◌<◌, ◌≤◌, ◌^◌, ℕ, List, [], length, sym, ap, arith, get_or}
use Rattle.std.specs.Prelude.{All, Contains}
use Rattle.std.proofs.lemmas.List.{get_or-map, length-map, get_or_default}
use Rattle.std.proofs.lemmas.List.Elements.{All-contains}
use Rattle.trop_theory.specs.Semiring.{Semiring, SemiringLaws}
use Rattle.trop_theory.specs.Vectors.{row_size}
use Rattle.trop_theory.specs.Normal.{IsNormal}
use Rattle.trop_theory.specs.Inequalities.{Inequality, Solves, system_size}
use Rattle.trop_theory.specs.Extreme.{IsExtreme}
use Rattle.trop_criterion.specs.Hypergraphs.{Has}
use Rattle.trop_criterion.proofs.Criterion.{All-system_size, reached_from_extreme, type_is_reached}
use Rattle.trop_pruning.specs.Judged.{Side, IsSide}
use Rattle.trop_pruning.proofs.PairGraph.{slot_of}
use Rattle.trop_pruning.proofs.SlotLists.{length-slots}
use Rattle.trop_dd.specs.Carried.{rows_of, IsNext}
use Rattle.trop_dd.proofs.Sizes.{size-dot, described_fit}

module _ {V : Type 0} (sides : List (Side V)) where
  pub row_read : (k : ℕ) (d : Side V) (e : List V) → k < length sides →
      get_or (rows_of sides) k e ≡ (get_or sides k d).row
  row_read k d e l = get_or-map (λ side. side.row) sides k d e l

  pub length-rows : length (rows_of sides) ≡ length sides
  length-rows = length-map sides (λ side. side.row)

  pub Contains-row : (k : ℕ) (d : Side V) → k < length sides → Contains (rows_of sides) (get_or sides k d).row
  Contains-row k d l = (k, omega (arith, length-rows, l), row_read k d (get_or sides k d).row l)

module _ {V : Type 0} {R : Semiring V} (laws : SemiringLaws R) where
  -- a sum at a row of moderate size is of moderate size
  pub slot_sizes : (n : ℕ) (system : List (Inequality V)) (side : Side V) → IsSide R n system side →
      row_size R side.row ≤ 2 ^ 57 → system_size R system ≤ 2 ^ 49 → All (λ slot. R.size slot.sum ≤ 2 ^ 58) side.slots
  slot_sizes n system side is size all k d l =
      let many = length-slots R side.row system side.slots is.slots in
      let blank : Inequality V = record { left = []; right = [] } in
      let within : k < length system = omega (arith, l, many) in
      let s = slot_of R side.row system side.slots k blank is.slots within in
      let at = get_or_default side.slots k (record { sum = R.zero; tail = 0; head = 0 }) d l in
      omega (
        arith,
        ap (λ t. R.size t.sum) (sym at),
        ap R.size s.sum,
        size-dot laws (get_or system k blank).right side.row,
        All-system_size R system (2 ^ 49) all k blank within,
        size,
      )

module _ {V : Type 0} {R : Semiring V} (laws : SemiringLaws R) (n : ℕ) (system : List (Inequality V)) (p : Inequality V)
    (sides : List (Side V)) (next : IsNext R n system p sides) (k : ℕ) (d : Side V) (l : k < length sides) where
  pub side_at : IsSide R n system (get_or sides k d)
  side_at = next.each k d l

  -- the row is one of those that describe the system
  row_at : Contains next.rows (get_or sides k d).row
  row_at = All-contains (Contains next.rows) (rows_of sides) (get_or sides k d).row next.only (Contains-row sides k d l)

  pub extreme_at : IsExtreme R (Solves R n system) (get_or sides k d).row
  extreme_at = All-contains (IsExtreme R (Solves R n system)) next.rows (get_or sides k d).row
      next.described.canonical.extreme row_at

  pub normal_at : IsNormal R (get_or sides k d).row
  normal_at = All-contains (IsNormal R) next.rows (get_or sides k d).row next.described.canonical.normal row_at

  pub size_at : row_size R (get_or sides k d).row ≤ 2 ^ 57
  size_at = All-contains (λ v. row_size R v ≤ 2 ^ 57) next.rows (get_or sides k d).row
      (described_fit laws n system next.rows next.inside next.described next.at_most next.size) row_at

  pub some_type : (t : ℕ) × Has (get_or sides k d).words.types t
  some_type =
      let r = reached_from_extreme laws n system (get_or sides k d).row next.inside extreme_at in (
        r.0,
        (side_at.words.types r.0).1 ((type_is_reached laws n system
            (get_or sides k d).row next.inside extreme_at.member r.0).1 r.1),
      )
