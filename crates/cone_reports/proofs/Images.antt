-- Images of cones have the states to which the operations lead.
use Rattle.std.proofs.Common.{◌≡◌, ℕ, zero, suc, Bool, List, length, sym, ap, ◌∙◌, subst, arith}
use Rattle.std.proofs.lemmas.List.{get_or-set_other, length-set}
use Rattle.trop_theory.specs.Semiring.{Semiring, SemiringLaws}
use Rattle.trop_theory.specs.Vectors.{entry}
use Rattle.trop_theory.specs.Numbers.{Numbering, NumericLaws}
use Rattle.prog_theory.specs.States.{State, value}
use Rattle.prog_theory.specs.Edges.{Op, Skips, Sets, Havocs, Guards}
use Rattle.prog_theory.specs.Walks.{Leads}
use Rattle.cone_reports.specs.Vectors.{vector, HasState}
use Rattle.prog_theory.specs.Fits.{FitsOp}
use Rattle.cone_reports.specs.Images.{InMoved, InImage}
use Rattle.cone_reports.proofs.Entries.{vector-changed, vector-assigned, length-changed}
use Rattle.cone_reports.proofs.Truths.{guard_is_order}
use Rattle.cone_reports.proofs.Points.{pointed_has}

-- no operation changes how many numbers a state has
pub Leads-length : (op : Op) (s t : State) → Leads op s t → length t ≡ length s
Leads-length Skips s t h = ap length h
Leads-length (Sets x u) s t h = ap length h ∙ length-changed s x (value u s)
Leads-length (Havocs x) s t (v, h) = ap length h ∙ length-changed s x v
Leads-length (Guards l r) s t h = ap length h.1

module _ {V : Type 0} {R : Semiring V} {N : Numbering V} {reversed : Bool} (laws : SemiringLaws R)
    (numbers : NumericLaws R N reversed) (vars : ℕ) (cone : List V → Type 0) where
  moved_has : (op : Op) → FitsOp vars op → (s t : State) → length s ≡ vars → HasState R N cone s → Leads op s t
      → HasState R N (InMoved R N reversed (suc vars) op cone) t
  moved_has Skips f s t l h e = subst (λ x. cone (vector R N x)) (sym e) h
  moved_has (Sets zero u) f s t l h e = absurd (omega arith)
  moved_has (Sets (suc i) u) f s t l h e = record {
    before = vector R N s;
    member = h;
    replaced = ap (vector R N) e ∙ vector-assigned laws numbers s i u (omega arith);
  }
  moved_has (Havocs zero) f s t l h e = absurd (omega arith)
  moved_has (Havocs (suc i)) f s t l h (v, e) =
      let is = ap (vector R N) e ∙ vector-changed laws numbers s i v in record {
        other = vector R N s;
        member = h;
        wide = ap length is ∙ length-set (vector R N s) (suc i) (N.of v);
        agrees = λ j d. ap (λ x. entry R x j) is ∙ get_or-set_other (vector R N s) (suc i) j (N.of v) R.zero d;
      }
  moved_has (Guards a b) f s t l h e =
      subst (HasState R N (InMoved R N reversed (suc vars) (Guards a b) cone)) (sym e.1)
      (h, (guard_is_order laws numbers vars s l a b f.0 f.1).1 e.0)

  -- Where an operation leads from a state of a cone to another, that one is a state of the image.
  pub image_has : (op : Op) → FitsOp vars op → (s t : State) → length s ≡ vars → HasState R N cone s → Leads op s t
      → HasState R N (InImage R N reversed (suc vars) op cone) t
  image_has op f s t l h e = pointed_has laws numbers vars (InMoved R N reversed (suc vars) op cone) t
      (moved_has op f s t l h e)
