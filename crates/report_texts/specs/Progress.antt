-- What the lines read so far come to, and which line may stand behind them.
use Rattle.std.specs.Prelude.{ℕ, suc, Bool, true, false, ◌&&◌, nat_eq, nat_lt, List, [], ◌∷◌, ◌++◌, length, Option, Some, None, slice_get, Result, Ok, Err, if◌then◌else◌}
use Rattle.trop_theory.specs.Numbers.{Numbering}
use Rattle.trop_theory.specs.Inequalities.{Inequality}
use Rattle.trop_text.specs.declared.fault.FaultKind.{FaultKind}
use Rattle.trop_text.specs.declared.fault.FaultKind.TheVariants.{Syntax, TooManyLines}
use Rattle.prog_theory.specs.Graph.{Point, Statement, Inner, Exit}
use Rattle.report_texts.specs.Lines.{Line, At, Unreachable, Row, Inv, Asserted, Last, Block, Body, Judged, has_finite}
use Rattle.report_texts.specs.Limits.{most_lines}

-- where the lines so far end
pub data Place (V : Type 0) : Type 0 where
  -- before the first block
  Outside : Place V
  -- in a block: behind its `at` line, behind `unreachable`, behind rows, behind inequalities
  Opened : Point → Place V
  Shut : Point → Place V
  InRows : Point → List V → List (List V) → Place V
  InInvs : Point → List V → List (List V) → Inequality V → List (Inequality V) → Place V
  -- behind verdicts
  Judging : Judged → List Judged → Place V

-- the blocks that are ended, and the place
pub record Progress (V : Type 0) : Type 0 where
  pub blocks : List (Block V)
  pub place : Place V

abbrev pub start : {V : Type 0} → Progress V
start = record { blocks = []; place = Outside }

abbrev pub block : {V : Type 0} → Point → List (List V) → List (Inequality V) → Block V
block p rows printed = record { point = p; part = record { rows = rows; printed = printed } }

-- what an `at` line, a verdict or the last `end` ends; none where a block has no line yet
abbrev pub ending : {V : Type 0} → Place V → Option (List (Block V))
ending Outside = Some []
ending (Opened p) = None
ending (Shut p) = Some (block p [] [] ∷ [])
ending (InRows p x rows) = Some (block p (x ∷ rows) [] ∷ [])
ending (InInvs p x rows i invs) = Some (block p (x ∷ rows) (i ∷ invs) ∷ [])
ending (Judging j js) = Some []

-- ---- the next line

abbrev pub same_point : Point → Point → Bool
same_point (Statement k) (Statement n) = nat_eq k n
same_point Inner Inner = true
same_point Exit Exit = true
same_point _ _ = false

abbrev pub is_label : Point → Option Point → Bool
is_label p None = false
is_label p (Some q) = same_point p q

abbrev pub is_number : ℕ → Option ℕ → Bool
is_number n None = false
is_number n (Some k) = nat_eq n k

-- at this place behind these blocks, if there is one
abbrev pub moved : {V : Type 0} → List (Block V) → Option (Place V) → Option (Progress V)
moved blocks None = None
moved blocks (Some place) = Some (record { blocks = blocks; place = place })

-- the block of the next point begins
abbrev pub opened : {V : Type 0} → List Point → List (Block V) → ℕ → Point → Option (Progress V)
opened points blocks n p =
    moved blocks (if nat_eq n (length blocks) && is_label p (slice_get points n) then Some (Opened p) else None)

-- the verdict on the next assert, behind these verdicts
abbrev pub judged : {V : Type 0} → List ℕ → ℕ → (Judged → Place V) → ℕ → Bool → Option (Place V)
judged numbers k place n b =
    if is_number n (slice_get numbers k) then Some (place (record { number = n; proved = b })) else None

-- the first verdict, where all points have had their block
abbrev pub first_judged : {V : Type 0} → List Point → List ℕ → List (Block V) → ℕ → Bool → Option (Progress V)
first_judged points numbers blocks n b =
    moved blocks (if nat_eq (length blocks) (length points) then judged numbers 0 (λ j. Judging j []) n b else None)

abbrev pub shut : {V : Type 0} → Place V → Option (Place V)
shut (Opened p) = Some (Shut p)
shut _ = None

abbrev pub with_row : {V : Type 0} → List V → Place V → Option (Place V)
with_row x (Opened p) = Some (InRows p x [])
with_row x (InRows p y rows) =
    if nat_lt (suc (length rows)) most_lines then Some (InRows p y (rows ++ x ∷ [])) else None
with_row x _ = None

abbrev pub with_inv : {V : Type 0} → Inequality V → Place V → Option (Place V)
with_inv i (InRows p y rows) = Some (InInvs p y rows i [])
with_inv i (InInvs p y rows k invs) =
    if nat_lt (suc (length invs)) most_lines then Some (InInvs p y rows k (invs ++ i ∷ [])) else None
with_inv i _ = None

-- behind what the place ends
abbrev pub behind : {V B : Type 0} → List (Block V) → Option (List (Block V)) → (List (Block V) → Option B) → Option B
behind blocks None f = None
behind blocks (Some ended) f = f (blocks ++ ended)

abbrev pub after_at : {V : Type 0} → List Point → List (Block V) → Place V → ℕ → Point → Option (Progress V)
after_at points blocks (Judging j js) n p = None
after_at points blocks place n p = behind blocks (ending place) (λ bs. opened points bs n p)

abbrev pub after_assert : {V : Type 0} → List Point → List ℕ → List (Block V) → Place V → ℕ → Bool →
    Option (Progress V)
after_assert points numbers blocks (Judging j js) n b =
    moved blocks (judged numbers (suc (length js)) (λ k. Judging j (js ++ k ∷ [])) n b)
after_assert points numbers blocks place n b = behind blocks (ending place)
    (λ bs. first_judged points numbers bs n b)

-- One line more, in a program with these points and these numbers of asserts; none where no report has these lines. The
-- last `end` is no line more.
abbrev pub next : {V : Type 0} → Numbering V → List Point → List ℕ → Progress V → Line V → Option (Progress V)
next N points numbers s (At n p) = after_at points s.blocks s.place n p
next N points numbers s Unreachable = moved s.blocks (shut s.place)
next N points numbers s (Row x) = if has_finite N x then moved s.blocks (with_row x s.place) else None
next N points numbers s (Inv i) = moved s.blocks (with_inv i s.place)
next N points numbers s (Asserted n b) = after_assert points numbers s.blocks s.place n b
next N points numbers s Last = None

-- the verdicts so far
abbrev pub verdicts : {V : Type 0} → Place V → List Judged
verdicts (Judging j js) = j ∷ js
verdicts _ = []

-- what the lines are, where the last `end` may follow
abbrev pub complete : {V : Type 0} → List Point → List ℕ → List Judged → List (Block V) → Option (Body V)
complete points numbers js blocks =
    if nat_eq (length blocks) (length points) && nat_eq (length js) (length numbers)
    then Some (record { blocks = blocks; judged = js }) else None

abbrev pub final : {V : Type 0} → List Point → List ℕ → Progress V → Option (Body V)
final points numbers s = behind s.blocks (ending s.place) (complete points numbers (verdicts s.place))

-- several lines more
abbrev pub go_on : {V : Type 0} → Option (Progress V) → (Progress V → Option (Progress V)) → Option (Progress V)
go_on None f = None
go_on (Some s) f = f s

unfoldable pub progress : {V : Type 0} → Numbering V → List Point → List ℕ → Progress V → List (Line V) →
    Option (Progress V)
progress N points numbers s [] = Some s
progress N points numbers s (x ∷ xs) = go_on (next N points numbers s x) (λ t. progress N points numbers t xs)

-- ---- which words may begin the next line

-- `unreachable` in a block
abbrev pub may_shut : {V : Type 0} → Place V → Result (Unit {0}) FaultKind
may_shut Outside = Err Syntax
may_shut (Judging j js) = Err Syntax
may_shut _ = Ok tt

abbrev pub few : ℕ → Result (Unit {0}) FaultKind
few n = if nat_lt n most_lines then Ok tt else Err TooManyLines

-- a row in a block, before its inequalities
abbrev pub may_row : {V : Type 0} → Place V → Result (Unit {0}) FaultKind
may_row (Opened p) = Ok tt
may_row (Shut p) = Ok tt
may_row (InRows p x rows) = few (suc (length rows))
may_row _ = Err Syntax

-- an inequality in a block
abbrev pub may_inv : {V : Type 0} → Place V → Result (Unit {0}) FaultKind
may_inv (Opened p) = Ok tt
may_inv (Shut p) = Ok tt
may_inv (InRows p x rows) = Ok tt
may_inv (InInvs p x rows i invs) = few (suc (length invs))
may_inv _ = Err Syntax
