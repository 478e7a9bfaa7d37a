-- The contexts of outcomes have their graphs filled in.
use Rattle.std.proofs.Common.{◌≡◌, ℕ, ◌<◌, ◌≤◌, Bool, true, false, List, [], ◌∷◌, Option, Some, None, Contains, refl, sym, ap, subst, ◌∙◌, arith}
use Rattle.std.specs.Prelude.{◌+◌, is_some, slice_get, if◌then◌else◌}
use Rattle.std.specs.Option.{option_and_then}
use Rattle.std.proofs.lemmas.Bool.{false≢true}
use Rattle.abs_state.specs.declared.key.Key.TheVariants as key
use Rattle.abs_state.specs.declared.key.Next.{Next}
use Rattle.abs_state.specs.declared.key.Next.TheVariants.{At, Into, Back}
use Rattle.abs_state.specs.declared.key.Place.{Place}
use Rattle.assert_bind.specs.Binding.{stub}
use Rattle.bt_base.specs.Graph.{is_edge}
use Rattle.closed_steps.proofs.Following.{root_no_stub}
use Rattle.context_runs.specs.Contexts.{AreFilled, IsCalled, edge_cost}
use Rattle.frame_laws.specs.Context.{Standing, Free, Stub, In}
use Rattle.sparc_machine.specs.Straight.{all_registers, code_instruction}
use Rattle.sparc_runs.specs.Cost.{own_cost, pair_cost}
use Rattle.stack_laws.specs.StepFacts.{is_stub}
use Rattle.transfer_fns.specs.Setting.{program_in}
use Rattle.transfer_rules.specs.Give.{entry_of}
use Rattle.transfer_values.specs.Family.{family}
use Rattle.wcet_report.specs.declared.outcome.Outcome.{Outcome}
use Rattle.context_outcomes.specs.Arguments.{thresholds_with}
use Rattle.context_outcomes.specs.Calls.{IsEntering}
use Rattle.context_outcomes.specs.Setting.{Setting, facts_in}
use Rattle.context_outcomes.specs.Spending.{cost_if, step_cost}
use Rattle.outcome_runs.proofs.Numbering.{contained, place_is, read_number}
use Rattle.outcome_runs.proofs.Trimming.{HasEnds, HasMaker, local_ends, local_maker, whole_ends}
use Rattle.outcome_runs.specs.Family.{context_of, contexts_of, facts_of, follows_into, follows_of, follows_to, leads_if, leads_of, number_of, place_in, root_of, sub_of}
use Rattle.outcome_runs.specs.Laws.{OutcomesAreFilled}
use Rattle.outcome_runs.specs.Told.{Entry, IsKnown, IsRootAt, LeadsToEntry, Told}

in_same : (c d : ℕ) → In c ≡ In d → c ≡ d
in_same c d same = cc

pub not_free : (d : ℕ) → Free ≡ In d → ⊥
not_free d same = cc

not_stub : (time d : ℕ) → Stub time ≡ In d → ⊥
not_stub time d same = cc

-- the facts of an outcome have the program points of their steps and calls
module _ (S : Setting) (known : IsKnown S) (one : Entry S) where
  pub has_ends : (a b : Place) → is_some (one.is.within.facts (key.Edge a b)) ≡ true → HasEnds one.is.within.facts a b
  has_ends =
      local_ends (thresholds_with S one.is.within.args) (family (thresholds_with S one.is.within.args) S.image S.binding) (program_in S.image S.binding S.eight)
      (facts_in S) one.outcome.sub one.is.within.args one.is.within.are.keep one.is.within.are.fixed one.is.within.facts
      (whole_ends S.thresholds (family S.thresholds S.image S.binding) (program_in S.image S.binding S.eight) (facts_in S) known.due)
      one.is.within.are.kept one.is.within.are.least

  pub has_maker : (a : Place) (t : ℕ) → is_some (one.is.within.facts (key.Call a t)) ≡ true → HasMaker one.is.within.facts a t
  has_maker =
      local_maker (thresholds_with S one.is.within.args) (family (thresholds_with S one.is.within.args) S.image S.binding) (program_in S.image S.binding S.eight)
      (facts_in S) one.outcome.sub one.is.within.args one.is.within.are.keep one.is.within.are.fixed one.is.within.facts
      (whole_ends S.thresholds (family S.thresholds S.image S.binding) (program_in S.image S.binding S.eight) (facts_in S) known.due)
      one.is.within.are.kept one.is.within.are.least

  -- a program point of the facts stands at its number
  pub node_at : (p : Place) → is_some (one.is.within.facts (key.Node p)) ≡ true
      → slice_get one.is.within.shape.nodes (place_in one.is.within.shape.nodes p) ≡ Some p
  node_at p there = contained one.is.within.shape.nodes p ((one.is.within.shape.points.each p).1 there)

  pub edge_at : (p q : Place) → is_some (one.is.within.facts (key.Edge p q)) ≡ true
      → is_edge one.is.within.shape.graph (place_in one.is.within.shape.nodes p) (place_in one.is.within.shape.nodes q) ≡ true
  edge_at p q there =
      let ends = has_ends p q there in
      (one.is.within.shape.steps.edges (place_in one.is.within.shape.nodes p) (place_in one.is.within.shape.nodes q)).1
      (record {
        from = p;
        to = q;
        tail = read_number one.is.within.shape.nodes p (place_in one.is.within.shape.nodes p) (node_at p ends.from);
        head = read_number one.is.within.shape.nodes q (place_in one.is.within.shape.nodes q) (node_at q ends.to);
        there = there;
      })

module _ (S : Setting) (list : List Outcome) (told : Told S list) where
  -- a call leads to a context where it is one that is entered
  pub record IsInto (c : ℕ) (one : Entry S) (p : Place) (t d : ℕ) : Type 0 where
    pub enters : IsEntering S one.outcome.sub one.is.within.facts p t
    pub place : told.place c p ≡ d

  pub record IsContextCase (c : ℕ) (p : Place) (time : Option ℕ) (cyclic there : Bool) (d : ℕ) : Type 0 where
    pub no_stub : time ≡ None
    pub apart : cyclic ≡ false
    pub found : there ≡ true
    pub place : told.place c p ≡ d

  context_case : (c : ℕ) (p : Place) (time : Option ℕ) (cyclic there : Bool) (d : ℕ) → follows_into told c p time cyclic there ≡ In d
      → IsContextCase c p time cyclic there d
  context_case c p (Some time) cyclic there d is = absurd (not_stub time d is)
  context_case c p None true there d is = absurd (not_free d is)
  context_case c p None false false d is = absurd (not_free d is)
  context_case c p None false true d is = record { no_stub = refl; apart = refl; found = refl; place = in_same (told.place c p) d is }

  stub_case : (c : ℕ) (p : Place) (time : Option ℕ) (cyclic there : Bool) (most : ℕ) → follows_into told c p time cyclic there ≡ Stub most → time ≡ Some most
  stub_case c p (Some time) cyclic there most is = cc
  stub_case c p None true there most is = cc
  stub_case c p None false false most is = cc
  stub_case c p None false true most is = cc

  pub follows_at : (c : ℕ) (one : Entry S) (p : Place) (t : ℕ) → p.next ≡ Into t
      → follows_to told c one p p.next ≡ follows_into told c p (stub S.binding t) (told.cyclic one.outcome.sub t) (is_some (one.is.within.facts (key.Call p t)))
  follows_at c one p t into = ap (λ (next : Next). follows_to told c one p next) into

  pub enters_into : (c : ℕ) (one : Entry S) (p : Place) (t d : ℕ) → p.next ≡ Into t → follows_to told c one p p.next ≡ In d → IsInto c one p t d
  enters_into c one p t d into is =
      let case = context_case c p (stub S.binding t) (told.cyclic one.outcome.sub t) (is_some (one.is.within.facts (key.Call p t))) d
      (sym (follows_at c one p t into) ∙ is) in
      record {
        enters = record {
          followed = record {
            call = record { into = into; there = case.found };
            apart = λ both. false≢true (sym case.apart ∙ (told.decides one.outcome.sub t).1 both);
          };
          plain = ap is_some case.no_stub;
        };
        place = case.place;
      }

  root_case : (o : Option ℕ) (c : ℕ) → root_of told o ≡ In c → o ≡ Some c
  root_case None c is = absurd (not_free c is)
  root_case (Some d) c is = ap Some (in_same d c is)

  root_no_time : (o : Option ℕ) (time : ℕ) → root_of told o ≡ Stub time → ⊥
  root_no_time None time is = cc
  root_no_time (Some d) time is = cc

  pub root_at : (root c : ℕ) → root_of told (told.root root) ≡ In c → IsRootAt told.entries root c
  root_at root c is = told.begins root c (root_case (told.root root) c is)

module _ (S : Setting) (list : List Outcome) (told : Told S list) (known : IsKnown S) where
  pub leads_at : (c : ℕ) (o : Option (Entry S)) (p : Place) (t : ℕ) → is_some (facts_of told o (key.Call p t)) ≡ true → p.next ≡ Into t
      → (context_of told c o).leads (number_of told o p) ≡ Some (follows_of told c o p)
  leads_at c None p t there into = absurd (false≢true there)
  leads_at c (Some one) p t there into =
      let maker = has_maker S known one p t there in
      ap (option_and_then (leads_of told c one)) (node_at S known one p maker.from)
      ∙ (ap (λ (next : Next). leads_if told c one p next) into
      ∙ ap (λ (b : Bool). if b then Some (follows_to told c one p p.next) else None) there)

  into_entry : (c : ℕ) (one : Entry S) (p : Place) (t d : ℕ) → slice_get told.entries c ≡ Some one → p.next ≡ Into t → follows_to told c one p p.next ≡ In d
      → LeadsToEntry told.entries one p t d
  into_entry c one p t d at into is =
      let case = enters_into S list told c one p t d into is in
      subst (λ (e : ℕ). LeadsToEntry told.entries one p t e) case.place (told.leads c one p t at case.enters)

  pub entry_at : (c : ℕ) (o : Option (Entry S)) (p : Place) (t d : ℕ) → slice_get told.entries c ≡ o → is_some (facts_of told o (key.Call p t)) ≡ true
      → p.next ≡ Into t → follows_of told c o p ≡ In d → sub_of told (slice_get told.entries d) ≡ t
  entry_at c None p t d at there into is = absurd (false≢true there)
  entry_at c (Some one) p t d at there into is =
      let leads = into_entry c one p t d at into is in
      ap (sub_of told) leads.at ∙ leads.sub

  plain_at : (c : ℕ) (o : Option (Entry S)) (p : Place) (t d : ℕ) → is_some (facts_of told o (key.Call p t)) ≡ true
      → p.next ≡ Into t → follows_of told c o p ≡ In d → is_stub S.binding t ≡ false
  plain_at c None p t d there into is = absurd (false≢true there)
  plain_at c (Some one) p t d there into is = (enters_into S list told c one p t d into is).enters.plain

  time_at : (c : ℕ) (o : Option (Entry S)) (p : Place) (t most : ℕ) → is_some (facts_of told o (key.Call p t)) ≡ true
      → p.next ≡ Into t → follows_of told c o p ≡ Stub most → stub S.binding t ≡ Some most
  time_at c None p t most there into is = absurd (false≢true there)
  time_at c (Some one) p t most there into is =
      stub_case S list told c p (stub S.binding t) (told.cyclic one.outcome.sub t) (is_some (one.is.within.facts (key.Call p t))) most
      (sym (follows_at S list told c one p t into) ∙ is)

  begins_at : (c : ℕ) (o : Option (Entry S)) → number_of told o (entry_of (sub_of told o)) ≡ (context_of told c o).entry
  begins_at c None = refl
  begins_at c (Some one) =
      place_is one.is.within.shape.nodes one.is.within.shape.points.rising (entry_of one.outcome.sub) one.is.within.shape.entry one.is.within.shape.begins

  le_refl : (n : ℕ) → n ≤ n
  le_refl n = omega arith

  starts_at : (c : ℕ) (o : Option (Entry S)) → pair_cost S.costs all_registers (code_instruction S.image (sub_of told o)) ≤ (context_of told c o).start
  starts_at c None = le_refl (pair_cost S.costs all_registers (code_instruction S.image 0))
  starts_at c (Some one) = le_refl (pair_cost S.costs all_registers (code_instruction S.image one.outcome.sub))

  edges_at : (c : ℕ) (o : Option (Entry S)) (p q : Place) → is_some (facts_of told o (key.Edge p q)) ≡ true
      → (context_of told c o).edge (number_of told o p) (number_of told o q) ≡ true
  edges_at c None p q there = absurd (false≢true there)
  edges_at c (Some one) p q there = edge_at S known one p q there

  own_at : (c : ℕ) (o : Option (Entry S)) (p : Place) → is_some (facts_of told o (key.Node p)) ≡ true
      → own_cost S.costs (code_instruction S.image p.pc) ≤ (context_of told c o).own.node (number_of told o p)
  own_at c None p there = absurd (false≢true there)
  own_at c (Some one) p there =
      subst (λ (n : ℕ). own_cost S.costs (code_instruction S.image p.pc) ≤ n)
      (sym (ap (λ (r : Option Place). cost_if r (λ q. own_cost S.costs (code_instruction S.image q.pc))) (node_at S known one p there)))
      (le_refl (own_cost S.costs (code_instruction S.image p.pc)))

  extra_at : (c : ℕ) (o : Option (Entry S)) (p q : Place) → is_some (facts_of told o (key.Edge p q)) ≡ true
      → edge_cost S.image S.costs p q ≤ (context_of told c o).own.edge (number_of told o p) (number_of told o q)
  extra_at c None p q there = absurd (false≢true there)
  extra_at c (Some one) p q there =
      let ends = has_ends S known one p q there in
      let n : ℕ = place_in one.is.within.shape.nodes p in
      let m : ℕ = place_in one.is.within.shape.nodes q in
      let nodes : List Place = one.is.within.shape.nodes in
      let same : (if is_edge one.is.within.shape.graph n m then step_cost S.image S.costs (slice_get nodes n) (slice_get nodes m) else 0) ≡ edge_cost S.image S.costs p q =
      ap (λ (b : Bool). if b then step_cost S.image S.costs (slice_get nodes n) (slice_get nodes m) else 0) (edge_at S known one p q there)
      ∙ (ap (λ (r : Option Place). step_cost S.image S.costs r (slice_get nodes m)) (node_at S known one p ends.from)
      ∙ ap (λ (r : Option Place). step_cost S.image S.costs (Some p) r) (node_at S known one q ends.to)) in
      subst (λ (k : ℕ). edge_cost S.image S.costs p q ≤ k) (sym same) (le_refl (edge_cost S.image S.costs p q))

  pub filled : AreFilled S.image S.costs S.binding (contexts_of told)
  filled = record {
    root_in = λ root c is. let r = root_at S list told root c is in ap (sub_of told) r.at ∙ r.sub;
    root_free = λ root time is. root_no_time S list told (told.root root) time is;
    root_plain = λ root c is. root_no_stub S.binding root known.bound.sound (root_at S list told root c is).rooted;
    leads = λ c p t is. leads_at c (slice_get told.entries c) p t is.there is.into;
    callee = λ c p t d is follows. entry_at c (slice_get told.entries c) p t d refl is.there is.into follows;
    plain = λ c p t d is follows. plain_at c (slice_get told.entries c) p t d is.there is.into follows;
    time = λ c p t most is follows. time_at c (slice_get told.entries c) p t most is.there is.into follows;
    entry = λ c. begins_at c (slice_get told.entries c);
    start = λ c. starts_at c (slice_get told.entries c);
    edges = λ c p q there. edges_at c (slice_get told.entries c) p q there;
    own = λ c p there. own_at c (slice_get told.entries c) p there;
    extra = λ c p q there. extra_at c (slice_get told.entries c) p q there;
  }

pub outcomes_are_filled : OutcomesAreFilled
outcomes_are_filled S list told known = filled S list told known
