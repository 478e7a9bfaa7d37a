use Rattle.step_covers.proofs.WriteLemmas.{places_written}
use Rattle.step_covers.proofs.covering.places_are_written.Goals as goal

pub returns : goal.returns
returns c = places_written
