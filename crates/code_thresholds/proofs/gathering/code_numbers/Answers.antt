use Rattle.std.proofs.Common.{◌≡◌, ℕ, ℤ, ◌+◌, ◌<◌, List, Option, true, sym, subst}
use Rattle.bt_image.specs.Image.{is_code}
use Rattle.code_thresholds.specs.Noted.{AreGathered, IsNoted}
use Rattle.code_thresholds.proofs.Gathered.{gathered}
use Rattle.code_thresholds.proofs.gathering.code_numbers.Goals as goal

pub behind-next-requires-clause-noted : goal.behind-next-requires-clause-noted
behind-next-requires-clause-noted c =
    subst (λ (l : List ℤ). (a : ℕ) → a < c.in-Some.x + 1 → is_code c.args.image.now a ≡ true → IsNoted c.args.image.now l a) (sym c.deref.ensures.value)
    c.in_ok-note.ensures.noted

pub returns : goal.returns
returns c =
    gathered c.args.image.now c.loop-next.list.items
    (subst (λ (o : Option ℕ). AreGathered c.args.image.now c.loop-next.list.items o) c.in_default.is c.loop-next.invariant)
