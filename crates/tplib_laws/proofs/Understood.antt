-- Which command single words spell: int_understood, ext_understood, check_understood.
use Rattle.std.proofs.Common.{◌≡◌, ℕ, true, false, List, [], ◌∷◌, length, codes, inl, inr, refl, ap, subst, arith}
use Rattle.trop_words.specs.declared.command.Command.{Command}
use Rattle.trop_words.specs.declared.command.Command.TheVariants.{Reduce, Ext, Int, Tangent, Include, Equal, Join, Meet, Forget, Trace, Analyze, Check, Sample}
use Rattle.tplib_cmd.specs.declared.status.Status.{Status}
use Rattle.tplib_cmd.specs.Commands.{IsCommand}
use Rattle.tplib_cmd.specs.Ends.{Run, Ends, EndsWith}
use Rattle.tplib_laws.specs.RoundTrips.{plain_int}

-- the first byte of the first word
abbrev first_byte : List (List ℕ) → ℕ
first_byte [] = 0
first_byte ([] ∷ words) = 0
first_byte ((b ∷ word) ∷ words) = b

int_alone : (command : Command) → IsCommand (codes "int" ∷ []) command → command ≡ plain_int
int_alone (Int false) h = refl
int_alone (Int true) h = absurd (omega (arith, ap length h.spelled))
int_alone Reduce h = absurd (omega (arith, ap first_byte h.spelled))
int_alone Ext h = absurd (omega (arith, ap first_byte h.spelled))
int_alone Tangent h = absurd (omega (arith, ap first_byte h.spelled))
int_alone Include h = absurd (omega (arith, ap first_byte h.spelled))
int_alone Equal h = absurd (omega (arith, ap first_byte h.spelled))
int_alone Join h = absurd (omega (arith, ap first_byte h.spelled))
int_alone Meet h = absurd (omega (arith, ap first_byte h.spelled))
int_alone (Forget var) h = absurd (omega (arith, ap first_byte h.spelled.1))
int_alone (Trace turns) h = absurd (omega (arith, ap first_byte h.spelled.1))
int_alone (Analyze mode delay narrow) h = absurd (omega (arith, ap first_byte h.spelled.2.4))
int_alone Check h = absurd (omega (arith, ap first_byte h.spelled))
int_alone (Sample seed vars rows) h = absurd (omega (arith, ap first_byte h.spelled.4))

ext_alone : (command : Command) → IsCommand (codes "ext" ∷ []) command → command ≡ Ext
ext_alone Ext h = refl
ext_alone Reduce h = absurd (omega (arith, ap first_byte h.spelled))
ext_alone (Int false) h = absurd (omega (arith, ap first_byte h.spelled))
ext_alone (Int true) h = absurd (omega (arith, ap first_byte h.spelled))
ext_alone Tangent h = absurd (omega (arith, ap first_byte h.spelled))
ext_alone Include h = absurd (omega (arith, ap first_byte h.spelled))
ext_alone Equal h = absurd (omega (arith, ap first_byte h.spelled))
ext_alone Join h = absurd (omega (arith, ap first_byte h.spelled))
ext_alone Meet h = absurd (omega (arith, ap first_byte h.spelled))
ext_alone (Forget var) h = absurd (omega (arith, ap first_byte h.spelled.1))
ext_alone (Trace turns) h = absurd (omega (arith, ap first_byte h.spelled.1))
ext_alone (Analyze mode delay narrow) h = absurd (omega (arith, ap first_byte h.spelled.2.4))
ext_alone Check h = absurd (omega (arith, ap first_byte h.spelled))
ext_alone (Sample seed vars rows) h = absurd (omega (arith, ap first_byte h.spelled.4))

-- a run with these words is one of that command
understood : (words : List (List ℕ)) (command : Command) → IsCommand words command →
    ((other : Command) → IsCommand words other → other ≡ command) → (run : Run) (status : Status) →
    EndsWith words run status → Ends command run status
understood words command is only run status (inl h) = subst (λ c. Ends c run status) (only h.0 h.1) h.2
understood words command is only run status (inr h) = absurd (h.1 command is)

pub int_understood : (run : Run) (status : Status) → EndsWith (codes "int" ∷ []) run status →
    Ends plain_int run status
int_understood = understood (codes "int" ∷ []) plain_int (record { spelled = refl }) int_alone

pub ext_understood : (run : Run) (status : Status) → EndsWith (codes "ext" ∷ []) run status → Ends Ext run status
ext_understood = understood (codes "ext" ∷ []) Ext (record { spelled = refl }) ext_alone

check_alone : (command : Command) → IsCommand (codes "check" ∷ []) command → command ≡ Check
check_alone Check h = refl
check_alone Reduce h = absurd (omega (arith, ap first_byte h.spelled))
check_alone Ext h = absurd (omega (arith, ap first_byte h.spelled))
check_alone (Int false) h = absurd (omega (arith, ap first_byte h.spelled))
check_alone (Int true) h = absurd (omega (arith, ap first_byte h.spelled))
check_alone Tangent h = absurd (omega (arith, ap first_byte h.spelled))
check_alone Include h = absurd (omega (arith, ap first_byte h.spelled))
check_alone Equal h = absurd (omega (arith, ap first_byte h.spelled))
check_alone Join h = absurd (omega (arith, ap first_byte h.spelled))
check_alone Meet h = absurd (omega (arith, ap first_byte h.spelled))
check_alone (Forget var) h = absurd (omega (arith, ap first_byte h.spelled.1))
check_alone (Trace turns) h = absurd (omega (arith, ap first_byte h.spelled.1))
check_alone (Analyze mode delay narrow) h = absurd (omega (arith, ap first_byte h.spelled.2.4))
check_alone (Sample seed vars rows) h = absurd (omega (arith, ap first_byte h.spelled.4))

pub check_understood : (run : Run) (status : Status) → EndsWith (codes "check" ∷ []) run status → Ends Check run status
check_understood = understood (codes "check" ∷ []) Check (record { spelled = refl }) check_alone
