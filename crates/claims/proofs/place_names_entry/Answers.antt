use Rattle.claims.proofs.Places.{places_are_entries}
use Rattle.claims.proofs.place_names_entry.Goals as goal

pub returns : goal.returns
returns c = places_are_entries
