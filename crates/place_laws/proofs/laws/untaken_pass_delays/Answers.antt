use Rattle.place_laws.proofs.Directions.{untaken_pass}
use Rattle.place_laws.proofs.laws.untaken_pass_delays.Goals as goal

pub returns : goal.returns
returns c = untaken_pass
