use Rattle.gen_image.proofs.Places.{functions_have_code}
use Rattle.gen_image.proofs.laws.functions_have_their_code.Goals as goal

pub returns : goal.returns
returns c = functions_have_code
