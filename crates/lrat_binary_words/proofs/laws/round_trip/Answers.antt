use Rattle.lrat_binary_words.proofs.EncodingRoundTrip.{round_trip}
use Rattle.lrat_binary_words.proofs.laws.round_trip.Goals as goal

pub returns : goal.returns
returns c = round_trip
