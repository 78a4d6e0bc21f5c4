-- The short report of blocks that are made of values.
use Rattle.std.proofs.Common.{◌≡◌, ◌∙◌, ℕ, zero, suc, List, [], ◌∷◌, Option, length, map, refl, ap, ap₂, sym, arith}
use Rattle.std.specs.Prelude.{ℤ, Bool, All, Vec, codes}
use Rattle.std.specs.List.{AllZip}
use Rattle.std.specs.declared.alloc.Global.{Global}
use Rattle.std.proofs.lemmas.List.{length-map}
use Rattle.trop_theory.specs.MaxPlus.{max_ring, max_numbering}
use Rattle.prog_theory.specs.Named.{Named, nameless}
use Rattle.cone_domain.specs.Values.{Value}
use Rattle.cone_reports.specs.Asserts.{asserts}
use Rattle.cone_reports.specs.Reports.{Part}
use Rattle.mixed_theory.specs.Mixed.{mixed, IsProvedBy}
use Rattle.dom_family.specs.Family.{value_in, IsJudgedBy}
use Rattle.dom_family.proofs.Zips.{AllZip-length}
use Rattle.short_texts.specs.Short.{short_text}
use Rattle.short_print.specs.Blocks.{texts_of}
use Rattle.mixed_print.specs.Blocks.{block_text}
use Rattle.mixed_print.specs.Said.{IsSaidOf, IsListStop}
use Rattle.mixed_print.specs.Made.{IsBlockOf}
use Rattle.mixed_print.specs.Texts.{IsMixedText}

abbrev Element : Type 0
Element = Option ℤ

-- what is said of values, whose texts these are
record AreParts (names : List (List ℕ)) (values : List (Value Element)) (texts : List (List ℕ)) : Type 0 where
  parts : List (Part Element)
  said : AllZip IsSaidOf values parts
  are : texts ≡ map (block_text names) parts

parts_of : (names : List (List ℕ)) (values : List (Value Element)) (texts : List (List ℕ)) →
    AllZip (IsBlockOf names) values texts → AreParts names values texts
parts_of names [] [] h = record { parts = []; said = tt; are = refl }
parts_of names [] (t ∷ texts) h = absurd h
parts_of names (v ∷ values) [] h = absurd h
parts_of names (v ∷ values) (t ∷ texts) h =
    let rest = parts_of names values texts h.1 in
    record {
      parts = h.0.part ∷ rest.parts;
      said = (h.0.said, rest.said);
      are = ap₂ (λ (y : List ℕ) (ys : List (List ℕ)). y ∷ ys) h.0.is rest.are;
    }

-- no list of theirs stops
pub none_stops : (names : List (List ℕ)) (values : List (Value Element)) (texts : List (List ℕ)) →
    AllZip (IsBlockOf names) values texts → All (λ v. (i k : ℕ) → IsListStop v i k → ⊥) values
none_stops names [] texts h k d l = absurd (omega arith)
none_stops names (v ∷ values) [] h k d l = absurd h
none_stops names (v ∷ values) (t ∷ texts) h zero d l = h.0.unstopped
none_stops names (v ∷ values) (t ∷ texts) h (suc k) d l = none_stops names values texts h.1 k d (omega arith)

pub blocks_length : (names : List (List ℕ)) (values : List (Value Element)) (blocks slice : List (Vec ℕ Global))
    (n : ℕ) → AllZip (IsBlockOf names) values (texts_of blocks) → slice ≡ blocks → length values ≡ n →
    length slice ≡ n
blocks_length names values blocks slice n h same count =
    ap length same ∙ sym (length-map blocks (λ (b : Vec ℕ Global). b.items))
    ∙ sym (AllZip-length (IsBlockOf names) values (texts_of blocks) h) ∙ count

module _ (delay narrow passes : ℕ) (p : Named) (values : List (Value Element)) (text : List ℕ) where
  pub text_is : (blocks slice : List (Vec ℕ Global)) (verdicts others : List Bool) → slice ≡ blocks →
      others ≡ verdicts → AllZip (IsBlockOf p.names) values (texts_of blocks) →
      AllZip (IsJudgedBy (IsProvedBy max_ring max_numbering) (value_in (mixed max_ring max_numbering) p values))
      (asserts (nameless p)) verdicts →
      text ≡ short_text (record {
        word = codes "mixed";
        delay = delay;
        narrow = narrow;
        passes = passes;
        program = p;
        blocks = texts_of slice;
        verdicts = others;
      }) →
      IsMixedText delay narrow passes p values text
  text_is blocks slice verdicts others same alike made judged is =
      let r = parts_of p.names values (texts_of blocks) made in
      record {
        parts = r.parts;
        verdicts = verdicts;
        printed = is ∙ ap₂ (λ (bs : List (List ℕ)) (vs : List Bool). short_text (record {
          word = codes "mixed";
          delay = delay;
          narrow = narrow;
          passes = passes;
          program = p;
          blocks = bs;
          verdicts = vs;
        })) (ap texts_of same ∙ r.are) alike;
        said = r.said;
        judged = judged;
      }
