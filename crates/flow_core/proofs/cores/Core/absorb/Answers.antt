use Rattle.std.proofs.Common.{◌≡◌, ◌+◌, ◌<◌, length, Contains, count_by, subst, sym, ap, refl, ◌∙◌, arith}
use Rattle.std.specs.List.{flat_map}
use Rattle.flow_system.specs.Facts.{fact_at, KeysRise}
use Rattle.flow_system.specs.State.{AllFit}
use Rattle.flow_core.specs.Absorb.{Absorbs}
use Rattle.flow_core.specs.Core.{CoreState, IsKept, IsUnchanged, PassesLimit}
use Rattle.flow_core.specs.Readers.{readers_of}
use Rattle.flow_core.specs.Staged.{is_fresh_key}
use Rattle.flow_core.specs.Writing.{MarksAll}
use Rattle.flow_core.proofs.AbsorbLemmas.{prepared_kept, absorbed}
use Rattle.flow_core.proofs.JoinLemmas.{passes_limit}
use Rattle.flow_core.proofs.ReadersLemmas.{on_err_always}
use Rattle.flow_core.proofs.cores.Core.absorb.Goals as goal

pub stage-requires : goal.stage-requires
stage-requires g c = record {
  facts_fit = subst (λ s. AllFit (g.S.System.rules c.args.system.now) (fact_at g.S.Key.Ord.cmp s.facts)) (sym c.self.view_is) c.requires.fit;
  pieces_fit = c.requires.pieces_fit;
}

pub returns-then-count-self-clause-nodes : goal.returns-then-count-self-clause-nodes
returns-then-count-self-clause-nodes g c =
    let cmp = g.S.Key.Ord.cmp in
    let m = g.S.System.rules c.args.system.now in
    let law = g.met.S.System.lawful c.args.system.now in
    let i = c.self.inside in
    let kept = subst (λ s. IsKept cmp m s) (sym c.self.view_is) c.requires.kept in
    let fresh = c.count_fresh-fresh.ensures ∙ ap (count_by (is_fresh_key cmp m i.facts)) (c.deref.ensures.value ∙ c.in_ok-keys.ensures.keys) in
    let passes = passes_limit cmp m law i.facts c.in_ok-risen.risen kept.rise c.in_ok-risen.ensures.rise c.args.pieces.now i.limit c.in_ok-risen.ensures
    (let more = c.if-count-self.true in let n = kept.count in omega (arith, more, n, fresh)) in
    (ap (λ s. s.limit + 1) c.self.view_is, subst (λ s. PassesLimit cmp m s.facts c.args.pieces.now s.limit) c.self.view_is passes)

pub returns-in_err-prepare-clause-unchanged : goal.returns-in_err-prepare-clause-unchanged
returns-in_err-prepare-clause-unchanged g c =
    let cmp = g.S.Key.Ord.cmp in
    let m = g.S.System.rules c.args.system.now in
    let i = c.self.inside in
    on_err_always c.from_residual-in_err-prepare.result
    (subst (λ s. IsUnchanged cmp m s (record {
      facts = i.facts;
      marks = c.prepare.new.queue;
      out = i.out.items;
      readers = c.prepare.new.readers;
      count =
          i.count;
      limit = i.limit;
    })) c.self.view_is
    (prepared_kept cmp m (g.met.S.System.lawful c.args.system.now)
    (record { facts = i.facts; marks = i.queue; out = i.out.items; readers = i.readers; count = i.count; limit = i.limit })
    (record { facts = i.facts; marks = c.prepare.new.queue; out = i.out.items; readers = c.prepare.new.readers; count = i.count; limit = i.limit }) refl
    refl refl refl c.in_err-prepare.ensures.marks c.in_err-prepare.ensures.keeps))

pub returns-in_err-woken-clause-unchanged : goal.returns-in_err-woken-clause-unchanged
returns-in_err-woken-clause-unchanged g c =
    let cmp = g.S.Key.Ord.cmp in
    let m = g.S.System.rules c.args.system.now in
    let i = c.self.inside in
    on_err_always c.from_residual-in_err-woken.result
    (subst (λ s. IsUnchanged cmp m s (record {
      facts = i.facts;
      marks = c.prepare.new.queue;
      out = i.out.items;
      readers = c.prepare.new.readers;
      count =
          i.count;
      limit = i.limit;
    })) c.self.view_is
    (prepared_kept cmp m (g.met.S.System.lawful c.args.system.now)
    (record { facts = i.facts; marks = i.queue; out = i.out.items; readers = i.readers; count = i.count; limit = i.limit })
    (record { facts = i.facts; marks = c.prepare.new.queue; out = i.out.items; readers = c.prepare.new.readers; count = i.count; limit = i.limit }) refl
    refl refl refl c.in_ok-prepare.ensures.marks c.in_ok-prepare.ensures.keeps))

pub returns-in_err-move_all_fresh-clause-unchanged : goal.returns-in_err-move_all_fresh-clause-unchanged
returns-in_err-move_all_fresh-clause-unchanged g c =
    let cmp = g.S.Key.Ord.cmp in
    let m = g.S.System.rules c.args.system.now in
    let i = c.self.inside in
    on_err_always c.from_residual-in_err-move_all_fresh.result
    (subst (λ s. IsUnchanged cmp m s (record {
      facts = c.move_all_fresh.new.facts;
      marks = c.prepare.new.queue;
      out = i.out.items;
      readers =
          c.prepare.new.readers;
      count = i.count;
      limit = i.limit;
    })) c.self.view_is
    (prepared_kept cmp m (g.met.S.System.lawful c.args.system.now)
    (record { facts = i.facts; marks = i.queue; out = i.out.items; readers = i.readers; count = i.count; limit = i.limit })
    (record {
      facts = c.move_all_fresh.new.facts;
      marks = c.prepare.new.queue;
      out = i.out.items;
      readers = c.prepare.new.readers;
      count = i.count;
      limit
          = i.limit;
    }) c.in_err-move_all_fresh.ensures.unchanged refl refl refl c.in_ok-prepare.ensures.marks c.in_ok-prepare.ensures.keeps))

pub replace_all-requires-clause-listed : goal.replace_all-requires-clause-listed
replace_all-requires-clause-listed g c = λ q s.
    subst (λ list. Contains list q) (c.deref-4.ensures.value ∙ sym c.deref-5.ensures.value) (c.in_ok-move_all_fresh.ensures.still q s)

pub returns-clause-absorbs : goal.returns-clause-absorbs
returns-clause-absorbs g c =
    let cmp = g.S.Key.Ord.cmp in
    let m = g.S.System.rules c.args.system.now in
    let law = g.met.S.System.lawful c.args.system.now in
    let i = c.self.inside in
    let ks = c.in_ok-keys.keys.items in
    let kept = subst (λ s. IsKept cmp m s) (sym c.self.view_is) c.requires.kept in
    let fit = subst (λ s. AllFit m (fact_at cmp s.facts)) (sym c.self.view_is) c.requires.fit in
    let n : c.len.result ≡ length ks = omega (arith, c.len.ensures, c.in_ok-keys.keys.ok.0) in
    subst (λ s. Absorbs cmp m s c.args.pieces.now (record {
      facts = c.replace_all.new.facts;
      marks = c.mark_all.new.queue;
      out = i.out.items;
      readers =
          c.prepare.new.readers;
      count = i.count + c.count_fresh-fresh.result;
      limit = i.limit;
    }) c.len.result) c.self.view_is
    (subst (λ x. Absorbs cmp m (record { facts = i.facts; marks = i.queue; out = i.out.items; readers = i.readers; count = i.count; limit = i.limit })
    c.args.pieces.now (record {
      facts = c.replace_all.new.facts;
      marks = c.mark_all.new.queue;
      out = i.out.items;
      readers = c.prepare.new.readers;
      count =
          i.count + c.count_fresh-fresh.result;
      limit = i.limit;
    }) x) (sym n)
    (absorbed cmp m law (record { facts = i.facts; marks = i.queue; out = i.out.items; readers = i.readers; count = i.count; limit = i.limit })
    (record {
      facts = c.replace_all.new.facts;
      marks = c.mark_all.new.queue;
      out = i.out.items;
      readers = c.prepare.new.readers;
      count = i.count +
          c.count_fresh-fresh.result;
      limit = i.limit;
    })
    c.args.pieces.now c.in_ok-risen.risen ks c.in_ok-woken.woken.items c.prepare.new.queue fit kept c.in_ok-risen.ensures c.in_ok-keys.ensures.keys
    c.replace_all.ensures.rise (λ q. c.replace_all.ensures.whole q ∙ c.in_ok-move_all_fresh.ensures.whole q)
    c.in_ok-prepare.ensures.marks c.in_ok-prepare.ensures.keeps
    (λ k at. c.in_ok-prepare.ensures.ready k (subst (λ list. Contains list k) (sym c.deref-2.ensures.value) at))
    (subst (λ list. c.in_ok-woken.woken.items ≡ flat_map (λ k. readers_of cmp c.prepare.new.readers k) list) c.deref-3.ensures.value c.in_ok-woken.ensures)
    (subst (λ list. MarksAll cmp c.replace_all.new.facts list c.prepare.new.queue c.mark_all.new.queue) c.deref-6.ensures.value c.mark_all.ensures)
    (ap (λ x. i.count + x) (c.count_fresh-fresh.ensures ∙ ap (count_by (is_fresh_key cmp m i.facts)) c.deref.ensures.value)) c.if-count-self.false refl refl))
