use Rattle.std.proofs.Common.{subst, sym}
use Rattle.bt_words.specs.Match.{IsMatched}
use Rattle.bt_words.specs.Request.{texts}
use Rattle.bt_words.proofs.Matches.{matched}
use Rattle.bt_words.proofs.request.request_of.Goals as goal

pub request_in-requires : goal.request_in-requires
request_in-requires c =
    subst IsMatched (sym c.in_ok-matches.ensures.matches) (matched (texts c.args.words.now) c.in_ok-matches.ensures.faultless)
