use Rattle.std.proofs.Common.{ap, ◌∙◌, subst}
use Rattle.local_facts.specs.Copied.{IsCopyBeside}
use Rattle.local_facts.specs.Restricted.{kept_pieces}
use Rattle.local_facts.proofs.Searching.{same_gives}
use Rattle.local_facts.proofs.local.LocalSystem.give.Goals as goal

pub returns : goal.returns
returns g c =
    c.keep_pieces.ensures
    ∙ ap (λ keep. kept_pieces g.S.Key.Ord.cmp keep c.in_ok-pieces.pieces.items) c.deref-3.ensures.value
    ∙ ap (λ pieces. kept_pieces g.S.Key.Ord.cmp c.args.self.now.keep.items pieces) (c.in_ok-pieces.ensures
    ∙ same_gives g.S.Key.Ord.cmp (g.S.System.rules c.args.self.now.system.now)
    (g.met.S.System.lawful c.args.self.now.system.now) c.args.self.now.starts.items c.args.self.now.keep.items c.args.self.now.fixed
    c.args.self.now.sound c.args.facts.now c.requires c.deref-2.result.now c.in_ok-seen.seen
    (subst (λ keep. IsCopyBeside g.S.Key.Ord.cmp keep c.args.self.now.fixed c.args.facts.now c.deref-2.result.now c.in_ok-seen.seen)
    c.deref.ensures.value c.in_ok-seen.ensures)
    c.args.k (c.deref-2.ensures.value ∙ c.in_ok-reads.ensures))
