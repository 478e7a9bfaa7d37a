use Rattle.edge_publish.proofs.Looks.{looks_give_own}
use Rattle.edge_publish.proofs.laws.looks_give_own.Goals as goal

pub returns : goal.returns
returns g c = λ own look drains given before. looks_give_own g.N.About.holds (λ key. key.now) own _ look drains given before
