-- Eight digits are a text.
use Rattle.std.proofs.Common.{subst, sym, ◌≡◌, rules}
use Rattle.std.proofs.lemmas.Bool.{false≢true}
use Rattle.std.specs.Str.{IsUtf8}
use Rattle.bt_base.specs.Text.{hex8_of}
use Rattle.bt_base.proofs.Digits.{hex8_utf8}
use Rattle.bt_base.proofs.texts.hex8_text.Goals as goal

pub unreachable-requires : goal.unreachable-requires
unreachable-requires c =
    let same : c.in_ok-digits.digits.items ≡ hex8_of c.args.v = search (rules, c.hex8.ensures, c.in_ok-digits.ensures.items) in
    let text : IsUtf8 c.in_ok-digits.digits.items = subst IsUtf8 (sym same) (hex8_utf8 c.args.v) in
    false≢true (c.in-Err.ensures.succeeds text)
