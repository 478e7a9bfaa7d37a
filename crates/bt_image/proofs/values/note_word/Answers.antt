use Rattle.std.proofs.Common.{◌≡◌, ℕ, List, [], ◌∷◌, ◌++◌, true, sym, ◌∙◌, ap, subst}
use Rattle.bt_image.specs.File.{word_field}
use Rattle.bt_image.specs.Image.{is_code, place_in}
use Rattle.bt_image.specs.Values.{value_at}
use Rattle.bt_image.proofs.ValueLemmas.{noted_code}
use Rattle.bt_image.proofs.values.note_word.Goals as goal

pub returns-in_ok-push : goal.returns-in_ok-push
returns-in_ok-push c =
    let file = c.args.file.now in
    let e : c.word_field-a.result ≡ value_at file (place_in c.args.s c.args.x) = c.word_field-a.ensures
    ∙ ap (λ (bytes : List ℕ). word_field bytes 0) c.bytes_of.ensures.value in
    noted_code file (place_in c.args.s c.args.x) c.args.seen.now.items c.args.found.now.items c.push.new.self.items c.requires.long c.requires.seen
    (subst (λ (a : ℕ). is_code file a ≡ true) e (sym c.code_in.ensures ∙ c.if-code_in.true))
    (subst (λ (a : ℕ). c.push.new.self.items ≡ c.args.found.now.items ++ a ∷ []) e c.in_ok-push.ensures.items)
