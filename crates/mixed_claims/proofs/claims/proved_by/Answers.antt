use Rattle.mixed_claims.proofs.claims.proved_by.Goals as goal

pub returns-in-Le : goal.returns-in-Le
returns-in-Le g c = rw c.in-Le.is c.is_side_below.ensures

pub returns-in-Ge : goal.returns-in-Ge
returns-in-Ge g c = rw c.in-Ge.is c.is_side_below-in-Ge.ensures

pub returns-in-Same : goal.returns-in-Same
returns-in-Same g c = rw c.in-Same.is c.is_same.ensures
