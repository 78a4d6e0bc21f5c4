-- The points one after another: the blocks of those before are made, and no list of theirs stops.
use Rattle.std.proofs.Common.{◌≡◌, ◌<◌, ◌≤◌, ◌∙◌, ◌+◌, ◌*◌, ℕ, List, [], ◌∷◌, ◌++◌, Option, length, take, get_or, sym, ap, subst, arith}
use Rattle.std.specs.Prelude.{ℤ, Vec}
use Rattle.std.specs.List.{AllZip}
use Rattle.std.specs.declared.alloc.Global.{Global}
use Rattle.std.proofs.lemmas.List.{length-take, get_or-take, get_or_default, map-append}
use lib.Seq.{take_all}
use Rattle.prog_theory.specs.Named.{Named}
use Rattle.cone_domain.specs.Values.{Value}
use Rattle.cone_domain.specs.Polyhedra.{nothing}
use Rattle.dom_family.proofs.Zips.{AllZip-some, AllZip-take_more}
use Rattle.short_print.specs.Blocks.{texts_of}
use Rattle.mixed_print.specs.declared.error.MixedErr.{MixedErr}
use Rattle.mixed_print.specs.declared.error.MixedErr.TheVariants.{Polar, NoMemory}
use Rattle.mixed_print.specs.Said.{IsListStop}
use Rattle.mixed_print.specs.Made.{IsBlockOf}
use Rattle.mixed_print.specs.Refusals.{IsBlockRefusal, IsPrintRefusal}

abbrev Element : Type 0
Element = Option ℤ

module _ (p : Named) (values : List (Value Element)) (texts : List (List ℕ)) (q : ℕ) (inside : q < length values)
    (made : AllZip (IsBlockOf p.names) (take q values) texts) where
  none_before : (o : ℕ) → o < q → (j l : ℕ) → IsListStop (get_or values o (nothing (2 * length p.names))) j l → ⊥
  none_before o below j l stop =
      let none : Value Element = nothing (2 * length p.names) in
      let t = length-take q values in
      let h = AllZip-some (IsBlockOf p.names) (take q values) texts o none made (omega (arith, t)) in
      h.1.unstopped j l (subst (λ (w : Value Element). IsListStop w j l) (sym (get_or-take q values o none below)) stop)

  -- the list of this point stops
  pub print_stopped : (v : Value Element) → v ≡ get_or values q v → (e : MixedErr) → IsBlockRefusal v q e →
      IsPrintRefusal p values e
  print_stopped v is (Polar point i k) h =
      let none : Value Element = nothing (2 * length p.names) in
      let here : v ≡ get_or values q none = is ∙ get_or_default values q v none inside in
      subst (λ m. IsPrintRefusal p values (Polar m i k)) (sym h.0) (record {
        inside = inside;
        here = subst (λ (w : Value Element). IsListStop w i k) here h.1;
        before = none_before;
      })
  print_stopped v is NoMemory h = tt

-- one block more
pub blocks_more : (names others : List (List ℕ)) (values : List (Value Element)) (old new : List (Vec ℕ Global)) (q : ℕ)
    (v : Value Element) (text : Vec ℕ Global) → q < length values → v ≡ get_or values q v → others ≡ names →
    AllZip (IsBlockOf names) (take q values) (texts_of old) → new ≡ old ++ text ∷ [] → IsBlockOf others v text.items →
    AllZip (IsBlockOf names) (take (q + 1) values) (texts_of new)
blocks_more names others values old new q v text inside is same made e here =
    subst (AllZip (IsBlockOf names) (take (q + 1) values))
    (sym (ap texts_of e ∙ map-append (λ (b : Vec ℕ Global). b.items) old (text ∷ [])))
    (AllZip-take_more (IsBlockOf names) values (texts_of old) q v text.items inside is made
    (subst (λ ns. IsBlockOf ns v text.items) same here))

-- all of them
pub blocks_all : (names : List (List ℕ)) (values : List (Value Element)) (texts : List (List ℕ)) (q : ℕ) →
    length values ≤ q → AllZip (IsBlockOf names) (take q values) texts → AllZip (IsBlockOf names) values texts
blocks_all names values texts q past h =
    subst (λ z. AllZip (IsBlockOf names) z texts) (take_all q values past) h
