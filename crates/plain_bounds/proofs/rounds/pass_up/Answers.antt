use Rattle.std.proofs.Common.{◌≡◌, ◌<◌, ◌≤◌, ◌+◌, ℕ, inl, inr, sym, subst, ◌∙◌, arith}
use Rattle.std.proofs.lemmas.Bool.{cases_lt, false≢true}
use Rattle.context_bounds.specs.Setting.{setting_of}
use Rattle.plain_bounds.proofs.rounds.pass_up.Goals as goal
use Rattle.plain_bounds.proofs.rounds.pass_up.Goals.{then-branch, else-branch}
use Rattle.plain_bounds.specs.Filled.{IsStuck}
use Rattle.plain_parts.specs.Searched.{Known, filled}

pub loop-number-preserved : goal.loop-number-preserved
loop-number-preserved c =
    let grown : filled c.args.table.now.items ≤ filled c.loop-number.table.items = c.loop-number.invariant.grows in
    elim c.if-branch.branch [
      | then-branch w ↦
          let one : filled c.fill_at.new.table.items ≡ 1 + filled c.loop-number.table.items = c.in_ok-fill_at.ensures.more w.if-branch.true in
          record {
            known = c.in_ok-fill_at.ensures.known;
            grows = omega (arith, grown, one);
            more = λ yes. omega (arith, grown, one);
            stuck = λ no n less. absurd (false≢true (sym no ∙ w.changed-is));
          }
      | else-branch w ↦
          let same : c.fill_at.new.table.items ≡ c.loop-number.table.items = c.in_ok-fill_at.ensures.same w.if-branch.false in
          record {
            known = c.in_ok-fill_at.ensures.known;
            grows = subst (λ (t : Known). filled c.args.table.now.items ≤ filled t) (sym same) grown;
            more = λ yes.
                subst (λ (t : Known). filled c.args.table.now.items < filled t) (sym same) (c.loop-number.invariant.more (sym w.changed-is ∙ yes));
            stuck = λ no n less. elim (cases_lt n c.loop-number.number) [
              | inl before ↦
                  subst
                  (λ (t : Known). IsStuck (setting_of c.args.system.now c.args.cycles.now c.args.whole.now) c.args.contexts.now.subs.items t n)
                  (sym same) (c.loop-number.invariant.stuck (sym w.changed-is ∙ no) n before)
              | inr last ↦
                  let here : c.loop-number.number ≡ n = omega (arith, less, last) in
                  subst
                  (λ (m : ℕ). IsStuck (setting_of c.args.system.now c.args.cycles.now c.args.whole.now) c.args.contexts.now.subs.items
                  c.fill_at.new.table.items m)
                  here (c.in_ok-fill_at.ensures.stuck w.if-branch.false)
            ];
          }
    ]
