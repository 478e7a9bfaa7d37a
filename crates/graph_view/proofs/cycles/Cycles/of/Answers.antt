use Rattle.std.proofs.Common.{◌≡◌, ◌<◌, None, Some, length, sym, ◌∙◌, arith}
use Rattle.cyclic_parts.specs.Parts.{name_of}
use Rattle.graph_view.proofs.Known.{same_at}
use Rattle.graph_view.proofs.cycles.Cycles.of.Goals as goal

pub index-requires-in-Some : goal.index-requires-in-Some
index-requires-in-Some c =
    let low : c.args.number < length c.args.self.now.names.items = omega (arith, c.requires.number, c.args.self.now.names.ok.0) in
    let named : name_of c.args.self.now.names.items c.args.number ≡ Some c.in-Some.name =
    same_at c.args.self.now.names.items c.args.number None c.index.result.now low ∙ sym c.index.ensures ∙ c.in-Some.is in
    c.requires.within c.args.number c.in-Some.name named
