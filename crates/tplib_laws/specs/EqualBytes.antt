-- When two files say the same.
use Rattle.std.specs.Prelude.{◌≡◌, ◌↔◌, ◌+◌, List, length}
use Rattle.trop_theory.specs.Inequalities.{Solves}
use Rattle.trop_theory.specs.Combinations.{IsCombination}
use Rattle.trop_files.specs.Generators.{GeneratorFile}
use Rattle.trop_files.specs.InequalityFiles.{InequalityFile}
use Rattle.tplib_laws.specs.Both.{HoldsOfBoth, AreOverOne}

-- the files of inequalities have one semiring and one list of variables
pub record HaveOneHeader (file other : InequalityFile) : Type 0 where
  pub names : file.names ≡ other.names
  pub semiring : AreOverOne file.inequalities other.inequalities

-- their inequalities have the same solutions
abbrev pub HaveEqualSolutions : InequalityFile → InequalityFile → Type 0
HaveEqualSolutions file other =
    HoldsOfBoth (λ V kind R N system others. (x : List V) →
    Solves R (length file.names + 1) system x ↔ Solves R (length file.names + 1) others x) file.inequalities
    other.inequalities

-- the files of generators have one semiring and one list of variables
pub record HaveOneGeneratorHeader (file other : GeneratorFile) : Type 0 where
  pub names : file.names ≡ other.names
  pub semiring : AreOverOne file.rows other.rows

-- their rows have the same combinations
abbrev pub HaveEqualCones : GeneratorFile → GeneratorFile → Type 0
HaveEqualCones file other =
    HoldsOfBoth (λ V kind R N rows others. (x : List V) →
    IsCombination R (length file.names + 1) rows x ↔ IsCombination R (length file.names + 1) others x) file.rows
    other.rows
