-- The answer of `op forget` to the bytes of a file, by the place of the name.
use Rattle.std.proofs.Common.{◌≡◌, inl, inr, ℕ, List, Option, Some, None, Result, Ok, Err, IfOk, refl, sym, ap, ◌∙◌, subst}
use Rattle.std.specs.Prelude.{IfErr}
use Rattle.trop_text.specs.Pieces.{pieces_of}
use Rattle.trop_text.specs.Names.{place_of}
use Rattle.trop_text.specs.declared.fault.Fault.{Fault}
use Rattle.trop_text.specs.declared.fault.Fault.TheVariants.{UnknownName}
use Rattle.trop_files.specs.Generators.{GeneratorFile, SpellsGenerators}
use Rattle.tplib_reply.specs.declared.stop.Stop.{Stop}
use Rattle.tplib_reply.specs.declared.refusal.Refusal.{Refusal}
use Rattle.tplib_reply.specs.declared.refusal.Refusal.TheVariants.{Text}
use Rattle.tplib_reply.specs.declared.refusal.Reply.{Reply}
use Rattle.tplib_reply.specs.Meaning.{Cause, IsReply, IsRefused}
use Rattle.tplib_poly.specs.InRing.{stops_over, answers_over, IsOverReply, IsOverRefusal}
use Rattle.tplib_poly.specs.Forget.{forget_ring, IsUnknown, forget_meaning}
use Rattle.tplib_poly.proofs.Lifted.{reply_over, refusal_over}

same_place : (i j : ℕ) → Some i ≡ Some j → i ≡ j
same_place i j e = cc

none_is_some : (i : ℕ) (o : Option ℕ) → o ≡ None → o ≡ Some i → ⊥
none_is_some i o e f = let g : None ≡ Some i = sym e ∙ f in cc

module _ (var bytes : List ℕ) (file : GeneratorFile) (spelled : SpellsGenerators (pieces_of bytes) file) where
  -- no variable has the name
  pub unknown_name : place_of var file.names ≡ None → (line : ℕ) → line ≡ file.vars_line →
      IsRefused (forget_meaning var) bytes (Text (UnknownName line))
  unknown_name none line at = inr (file, spelled, (none, ap UnknownName at))

  module _ (place : ℕ) (named : place_of var file.names ≡ Some place) where
    known : (fault : Fault) → IsUnknown var file fault → ⊥
    known fault h = none_is_some place (place_of var file.names) h.0 named

    pub forget_replied : (r : Result Reply Refusal) →
        IfOk r (λ reply. IsOverReply (forget_ring place) file.names file.rows reply.yes reply.text.items) →
        IfOk r (IsReply (forget_meaning var) bytes)
    forget_replied r h =
        reply_over (forget_ring place) file.names (forget_meaning var) bytes file file.rows (spelled, known)
        (λ cause stop s. subst (λ i. stops_over (forget_ring i) file.names file.rows cause stop)
        (same_place s.0 place (sym s.1 ∙ named)) s.2)
        (λ says text a. (place, named, a)) r h

    pub forget_refusal : (r : Result Reply Refusal) → IfErr r (IsOverRefusal (forget_ring place) file.names file.rows) →
        IfErr r (IsRefused (forget_meaning var) bytes)
    forget_refusal r h = refusal_over (forget_ring place) file.names (forget_meaning var) bytes file file.rows
        (spelled, known) (λ cause stop s. (place, named, s)) r h
