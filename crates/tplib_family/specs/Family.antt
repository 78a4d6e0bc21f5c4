-- A family of the code as what an analysis gives.
use Rattle.dom_theory.specs.Analysis.{End}
use Rattle.dom_iter.specs.declared.family.Family.{Family}

abbrev pub end_of : {V : Type 0} → Family V → End V
end_of f = record { values = f.values.items; passes = f.passes }
