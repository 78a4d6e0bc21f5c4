-- What is printed of a reduced list.
use Rattle.std.proofs.Common.{◌≡◌, ◌+◌, ◌↔◌, ℕ, List, length, Result, Ok, Err, IfOk, subst}
use Rattle.std.specs.Prelude.{Vec}
use Rattle.std.specs.declared.alloc.Global.{Global}
use Rattle.std.specs.declared.alloc.AllocError.{AllocError}
use Rattle.trop_theory.specs.Semiring.{Semiring}
use Rattle.trop_theory.specs.Numbers.{Numbering}
use Rattle.trop_theory.specs.Combinations.{IsCombination, AreIndependent}
use Rattle.trop_theory.specs.Canonical.{IsCanonical}
use Rattle.trop_spelling.specs.declared.ring_kind.RingKind.{RingKind}
use Rattle.trop_files.specs.PrintedFiles.{printed_gens}
use Rattle.tplib_cones.specs.Reduce.{IsReduced}

-- the facts of a reduced list in n coordinates
pub record Reduces {V : Type 0} (R : Semiring V) (n : ℕ) (rows answer : List (List V)) : Type 0 where
  pub canonical : IsCanonical R (IsCombination R n rows) answer
  pub same : (x : List V) → IsCombination R n rows x ↔ IsCombination R n answer x
  pub independent : AreIndependent R n answer (length answer)

pub reduced_text : {V : Type 0} (kind : RingKind) (R : Semiring V) (N : Numbering V) (names : List (List ℕ)) (n : ℕ)
    (rows answer : List (List V)) (r : Result (Vec ℕ Global) AllocError)
    → n ≡ length names + 1 → Reduces R n rows answer → IfOk r (λ text. text.items ≡ printed_gens kind N names answer) →
    IfOk r (λ text. IsReduced kind R N names rows text.items)
reduced_text kind R N names n rows answer (Err e) width facts printed = tt
reduced_text kind R N names n rows answer (Ok text) width facts printed =
    let known = subst (λ m. Reduces R m rows answer) width facts in
    record {
      answer = answer;
      canonical = known.canonical;
      generates = known.same;
      independent =
          known.independent;
      printed = printed;
    }
