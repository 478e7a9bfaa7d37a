use Rattle.std.proofs.Common.{◌+◌, ◌<◌, ◌≤◌, length, sym, ◌∙◌, ap, subst}
use Rattle.std.specs.Bool.{⊤}
use Rattle.std.proofs.lemmas.Option.{MatchOption-at_some}
use Rattle.bt_image.specs.File.{section_count}
use Rattle.bt_image.specs.Section.{section_at}
use Rattle.bt_image.specs.declared.section.Section.{Section}
use Rattle.bt_image.proofs.SymbolLemmas.{inside_linked}
use Rattle.bt_image.proofs.symbols.strings.Goals as goal

pub section_bytes-requires : goal.section_bytes-requires
section_bytes-requires c =
    let file = c.args.file.now in
    let n = c.in-Some.number in
    let linked = MatchOption-at_some ⊤ (λ m. (section_at file m).link < section_count file) n c.in-Some.is c.requires.linked in
    let e = c.section.ensures ∙ ap (λ (s : Section). section_at file s.link) c.section-link.ensures in
    subst (λ (s : Section). s.offset + s.size ≤ length file) (sym e) (inside_linked file n (sym c.in-Some.is ∙ c.requires.number) c.requires.sound linked)
