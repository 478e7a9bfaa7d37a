use Rattle.std.proofs.Common.{◌≡◌, ◌++◌, rules, codes}
use Rattle.std.specs.List.{flat_map}
use Rattle.graph_text.proofs.KeyTexts.{text_from}
use Rattle.graph_text.proofs.texts.graph_text.Goals as goal
use Rattle.graph_text.specs.Text.{whole_text}
use Rattle.graph_view.specs.Subs.{AreSubs}

pub returns : goal.returns
returns c =
    let are : AreSubs c.in_ok-lists.lists.places.items c.in_ok-subs.subs.items = search rules in
    let first : c.in_ok-text.text.items ≡ codes "boundt graph 1\n" = search rules in
    let middle : c.put_subs.new.text.items
    ≡ c.in_ok-text.text.items ++ flat_map (whole_text c.args.image.now c.args.returning.now c.in_ok-lists.lists) c.in_ok-subs.subs.items =
    search rules in
    let all : c.extend_from_slice.new.self.items ≡ c.put_subs.new.text.items ++ codes "end\n" = search rules in
    text_from c.args.image.now c.args.keys.now c.args.returning.now c.in_ok-lists.lists c.in_ok-subs.subs.items c.in_ok-text.text.items
    c.put_subs.new.text.items c.extend_from_slice.new.self.items c.in_ok-lists.ensures.keys are first middle all
