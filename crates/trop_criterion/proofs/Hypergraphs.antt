-- Sets of nodes as tests, and what is reached in a hypergraph.
use Rattle.std.proofs.Common.{◌≡◌, ◌⊎◌, ◌<◌, ◌≤◌, ◌+◌, ◌/◌, ◌%◌, ◌^◌, ℕ, zero, suc, Bool, List, ⊎_elim, refl, sym, ap, ◌∙◌, arith, subst}
use Rattle.std.specs.Prelude.{◌↔◌, count_ones, All, Contains}
use Rattle.std.specs.Int.{bit_at}
use Rattle.std.specs.Int.Count.{ones_step}
use Rattle.std.proofs.Math.Nat.{pow-suc, div-lt_iff_lt-mul}
use Rattle.std.proofs.lemmas.Bool.{cases_lt, cases_eq}
use Rattle.std.proofs.lemmas.Nat.{ones_le_self}
use Rattle.std.proofs.lemmas.Nat.Bits.{bit_at-lt, bit_at-suc, bit_at_lowest, bit_at_above}
use Rattle.trop_criterion.specs.Hypergraphs.{Has, IsSubset, Hyperedge, Keeps, Reaches, IsClosed}
use Rattle.std.proofs.lemmas.List.Elements.{All-contains}
use Rattle.plain_lemmas.proofs.Decisions.{test, test_true, true_test, decide_not, decide_both, stable, some_below}
use Rattle.plain_lemmas.proofs.Tallies.{tally, tally_below, tally_less, tally_first, tally_one, tally_zero, tally_within}

-- membership is decided
pub decide_has : (set i : ℕ) → Has set i ⊎ (Has set i → ⊥)
decide_has set i = cases_eq (bit_at set i) 1

-- a word as a test
abbrev pub member : ℕ → ℕ → Bool
member set i = test (decide_has set i)

pub Keeps-member : (edges : List Hyperedge) (set : ℕ) → IsClosed edges set → All (Keeps (member set)) edges
Keeps-member edges set h k d l tail i here = test_true (decide_has set i)
    (h k d l (λ j g. true_test (decide_has set j) (tail j g)) i here)

-- what is reached from a member of a closed set is a member
pub closed_has : (edges : List Hyperedge) (set u v : ℕ) → IsClosed edges set → Has set u → Reaches edges u v → Has set v
closed_has edges set u v h here r = true_test (decide_has set v)
    (r (member set) (test_true (decide_has set u) here) (Keeps-member edges set h))

-- a node reaches itself
pub Reaches-itself : (edges : List Hyperedge) (u : ℕ) → Reaches edges u u
Reaches-itself edges u set here keeps = here

-- the head of a hyperedge whose tail is reached is reached
pub Reaches-head : (edges : List Hyperedge) (edge : Hyperedge) (u : ℕ) → Contains edges edge →
    ((j : ℕ) → Has edge.tail j → Reaches edges u j) → (i : ℕ) → Has edge.head i → Reaches edges u i
Reaches-head edges edge u c tail i h set here keeps =
    All-contains (Keeps set) edges edge keeps c (λ j g. tail j g set here keeps) i h

-- what is reached from a reached node is reached
pub Reaches-over : (edges : List Hyperedge) (u v w : ℕ) → Reaches edges u v → Reaches edges v w → Reaches edges u w
Reaches-over edges u v w p q set here keeps = q set (p set here keeps) keeps
