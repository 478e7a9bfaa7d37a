use Rattle.std.proofs.Common.{subst, sym, ◌≡◌, rules}
use Rattle.std.proofs.lemmas.Bool.{false≢true}
use Rattle.std.specs.Str.{IsUtf8}
use Rattle.sparc_text.specs.Listing.{line_of}
use Rattle.sparc_text.proofs.lines.line.Goals as goal

pub unreachable-requires : goal.unreachable-requires
unreachable-requires c =
    let same : c.put_line.new.out.items ≡ line_of c.args.at c.args.word = search (rules, c.in_ok-put_line.ensures.appended, c.new-text.ensures.items) in
    let text : IsUtf8 c.put_line.new.out.items = subst IsUtf8 (sym same) c.in_ok-put_line.ensures.text in
    false≢true (c.in-Err.ensures.succeeds text)
