use Rattle.tplib_laws.proofs.RoundTrips.{int_trip}
use Rattle.tplib_laws.proofs.round_trips.int_takes_back_ext.Goals as goal

pub returns : goal.returns
returns c = λ run other status first fits known h. int_trip run other status first fits known h
