use Rattle.gen_image.proofs.Places.{symbols_have_names}
use Rattle.gen_image.proofs.laws.symbols_have_their_names.Goals as goal

pub returns : goal.returns
returns c = symbols_have_names
