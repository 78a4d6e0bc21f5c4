use Rattle.tplib_laws.proofs.RoundTrips.{ext_trip}
use Rattle.tplib_laws.proofs.round_trips.ext_takes_back_int.Goals as goal

pub returns : goal.returns
returns c = λ run other status first fits known h. ext_trip run other status first fits known h
