-- The elementary step: one more inequality on a cone that is given by rows.
-- Allamigeon, Gaubert, Goubault: The tropical double description method (2010).
use Rattle.std.specs.Prelude.{◌≡◌, ◌≢◌, ◌⊎◌, List, Contains}
use Rattle.trop_theory.specs.Semiring.{Semiring, Le}
use Rattle.trop_theory.specs.Vectors.{scaled, joined, dot}

-- the row that v and w give: (a.w) times v plus (b.v) times w
abbrev pub mixed : {V : Type 0} → Semiring V → List V → List V → List V → List V → List V
mixed R a b v w = joined R (scaled R (dot R a w) v) (scaled R (dot R b v) w)
