use Rattle.std.proofs.Common.{◌≡◌, ◌∙◌, true, subst}
use Rattle.clap.specs.Words.{App, HasKind, fault_of, is_simple_and_free, kind_of, takes}
use Rattle.clap.specs.declared.error.ErrorKind.TheVariants.{OutOfMemory}
use Rattle.bt_words.specs.Request.{texts}
use Rattle.bt_words.proofs.Refusals.{refused, simple_and_free}
use Rattle.bt_words.proofs.request.matches_of.Goals as goal

pub returns-in-Err-try_get_matches_from-clause-usage :
    goal.returns-in-Err-try_get_matches_from-clause-usage
returns-in-Err-try_get_matches_from-clause-usage c =
    let e = c.in-Err-try_get_matches_from.error in
    let words = texts c.args.words.now in
    let passes = subst (λ (a : App). takes a words ≡ true → kind_of e ≡ OutOfMemory) c.in-Ok.ensures c.in-Err-try_get_matches_from.ensures.passes in
    let kinds = subst (λ (a : App). is_simple_and_free a ≡ true → HasKind (fault_of a words) e) c.in-Ok.ensures c.in-Err-try_get_matches_from.ensures.kinds in
    λ usage. refused words e passes (kinds simple_and_free) (λ memory. let want = c.refusal_of.ensures.1 (c.kind.ensures ∙ memory) in cc)
