use Rattle.tplib_laws.proofs.CheckTrips.{check_trip}
use Rattle.tplib_laws.proofs.checked.check_takes_analyze.Goals as goal

pub returns : goal.returns
returns c = λ mode delay narrow run other status first short known h.
    check_trip mode delay narrow run other status first short known h
