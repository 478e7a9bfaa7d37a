use Rattle.std.proofs.Common.{◌≡◌, ◌∙◌, ◌≤◌, ℕ, Some, codes, is_some, option_map, sym, ap, subst, arith}
use Rattle.std.specs.Str.Parse.{ParsesUnsigned, ExplainsUnsignedError, HasUnsignedDigitsIfOk}
use Rattle.clap.specs.Words.{found_of, one_of, rows_of}
use Rattle.clap.proofs.WalkLemmas.{one_text-rows}
use Rattle.bt_words.specs.Request.{number_of}
use Rattle.bt_words.proofs.Readings.{number_read}
use Rattle.bt_words.proofs.Rows.{some_injective}
use Rattle.bt_words.proofs.request.functions_of.Goals as goal

-- the number that was read
number : (c : goal.After-get_one) → (n : ℕ) × (c.get_one.result ≡ Some n)
    × (option_map number_of (one_of (codes "N") (rows_of (found_of c.args.found.now))) ≡ Some n) × (1 ≤ n) × (n ≤ 4000)
number c =
    number_read _ (λ bs r. ParsesUnsigned 32 10 bs r × ExplainsUnsignedError 10 bs r × HasUnsignedDigitsIfOk bs r)
    (codes "N") 4000 (omega arith) (rows_of (found_of c.args.found.now)) c.get_one.result c.requires (λ u x g. g.0)
    (λ t e. c.get_one.ensures.value t (one_text-rows (found_of c.args.found.now) (codes "N") ∙ e))

pub unwrap-requires : goal.unwrap-requires
unwrap-requires c = ap is_some (number c).1

-- and it is the result
same : (c : goal.After-unwrap) → (number c.before).0 ≡ c.unwrap.result
same c = some_injective (number c.before).0 c.unwrap.result (sym (number c.before).1 ∙ c.unwrap.ensures)

pub returns-clause-read : goal.returns-clause-read
returns-clause-read c = (number c.before).2 ∙ ap Some (same c)

pub returns-clause-within : goal.returns-clause-within
returns-clause-within c =
    let n = number c.before in
    subst (λ k. (1 ≤ k) × (k ≤ 4000)) (same c) (n.3, n.4)
