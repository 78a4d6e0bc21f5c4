-- What has a fault of `op forget` spells nothing for it: also a file that lacks the name.
use Rattle.std.proofs.Common.{◌≡◌, inl, inr, ℕ, List, [], Result, Ok, Err, sym, ap, ◌∙◌, subst}
use Rattle.trop_grammar.specs.Reading.{Reading}
use Rattle.trop_text.specs.Pieces.{Piece}
use Rattle.trop_text.specs.declared.fault.Fault.{Fault}
use Rattle.trop_text.specs.declared.fault.FaultKind.{FaultKind}
use Rattle.trop_files.specs.Generators.{GeneratorFile, SpellsGenerators}
use Rattle.trop_files.proofs.FileLaws.{generator_file_reads}
use Rattle.tplib_poly.specs.Forget.{IsUnknown, forget_meaning}

abbrev read_ok : GeneratorFile × List Piece → Reading Piece FaultKind GeneratorFile
read_ok p = Ok p

same_file : (x y : GeneratorFile) (us vs : List Piece) → read_ok (x, us) ≡ read_ok (y, vs) → x ≡ y
same_file x y us vs e = let p : (x, us) ≡ (y, vs) = cc in ap (λ (z : GeneratorFile × List Piece). z.0) p

-- bytes spell one file of generators at most
generators_unique : (us : List Piece) (x y : GeneratorFile) → SpellsGenerators us x → SpellsGenerators us y → x ≡ y
generators_unique us x y h k = same_file x y [] []
    (sym (generator_file_reads.reads us [] x h tt) ∙ generator_file_reads.reads us [] y k tt)

pub forget_apart : (var bytes : List ℕ) (fault : Fault) (said : GeneratorFile) →
    (forget_meaning var).faulty bytes fault → (forget_meaning var).spells bytes said → ⊥
forget_apart var bytes fault said (inl h) s = h.first.spelled said s.0
forget_apart var bytes fault said (inr h) s = s.1 fault
    (subst (λ f. IsUnknown var f fault) (generators_unique _ h.0 said h.1 s.0) h.2)
