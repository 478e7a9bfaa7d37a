-- What a context enters, by the links of its program points.
use Rattle.std.proofs.Common.{◌≡◌, ℕ, ◌<◌, List, length, get_or, map, Option, Some, None, All, Contains, refl, sym, ap, subst, ◌∙◌, arith}
use Rattle.std.specs.Prelude.{IfSome, slice_get}
use Rattle.std.proofs.lemmas.List.{length-map}
use Rattle.std.proofs.lemmas.List.Elements.{All-contains, All-map}
use Rattle.std.proofs.lemmas.Option.{slice_get-get_or, slice_get_read, slice_get_within}
use Rattle.abs_state.specs.Key.{compare}
use Rattle.abs_state.specs.declared.key.Key.TheVariants as key
use Rattle.abs_state.specs.declared.key.Next.TheVariants.{Into}
use Rattle.abs_state.specs.declared.key.Place.{Place}
use Rattle.context_answers.proofs.Lists.{among_at, at_among, get_there, mapped_at, number_at, same_at, some_same}
use Rattle.context_answers.specs.Answered.{IsAnswer}
use Rattle.context_answers.specs.declared.answer.Answer.{Answer}
use Rattle.context_bounds.specs.Nodes.{IsTold}
use Rattle.context_inside.specs.Within.{inside_of}
use Rattle.context_list.specs.Numbered.{One}
use Rattle.context_order.specs.Answered.{IsAnsweredBy, IsToldBy}
use Rattle.context_order.specs.Filled.{AreFilled, HasAnswer, IsKnown, Table, bound_by, bound_of, stands_at}
use Rattle.context_order.specs.Opened.{AreOpened, IsLink, IsLinked, IsOpened}
use Rattle.context_order.specs.declared.opened.Opened.{Opened}
use Rattle.context_outcomes.specs.Bounding.{IsBoundWith}
use Rattle.context_outcomes.specs.Calls.{IsEntering}
use Rattle.context_outcomes.specs.Inside.{Inside}
use Rattle.context_outcomes.specs.Outcomes.{HasBound, LeadsTo, bounded}
use Rattle.context_outcomes.specs.Setting.{Setting}
use Rattle.context_outcomes.specs.Spending.{Callees}
use Rattle.flow_system.specs.Facts.{fact_at}
use Rattle.outcome_runs.proofs.Numbering.{place_is}
use Rattle.outcome_runs.specs.Family.{place_in}
use Rattle.transfer_rules.specs.Give.{Facts}
use Rattle.wcet_report.specs.declared.context.Context.{Context}
use Rattle.wcet_report.specs.declared.context.Context.TheVariants.{Plain}

-- the link that stands at a place, if there is one
abbrev link_in : Option (Option ℕ) → Option ℕ
link_in None = None
link_in (Some link) = link

-- the context that stands at a number, if there is one
abbrev context_in : Option One → Context
context_in None = Plain
context_in (Some one) = one.1

-- the context to which a call leads
abbrev context_by : List One → Option ℕ → Context
context_by list None = Plain
context_by list (Some number) = context_in (slice_get list number)

-- a call is into one subprogram
same_target : (n m : ℕ) (p : Place) → p.next ≡ Into n → p.next ≡ Into m → n ≡ m
same_target n m p one other = let e : Into n ≡ Into m = sym one ∙ other in cc

-- a bound can be told
bound_told : (S : Setting) {sub : ℕ} {context : Context} (within : Inside S sub context) (callees : Callees) (b : Option ℕ)
    → IsBoundWith S within callees b → IsTold b
bound_told S within callees None is = tt
bound_told S within callees (Some cost) is = is.told

-- a context that stands in the list, from within
pub opened_at : (S : Setting) (list : List One) (opened : List Opened) → AreOpened S list opened → length opened ≡ length list
    → (n : ℕ) → n < length list → (o : Opened) → o ≡ get_or opened n o → (one : One) → slice_get list n ≡ Some one → IsOpened S list one o
opened_at S list opened are count n low o there one at =
    are.each n one o at (slice_get_read opened (length opened) n o refl (omega (arith, count, low)) there)

-- what holds at each place of a list holds of all
pub all_at : {X : Type 0} (P : X → Type 0) (xs : List X) → ((k : ℕ) (x : X) → slice_get xs k ≡ Some x → P x) → All P xs
all_at P xs each = λ k d low. each k (get_or xs k d) (slice_get-get_or xs k d low)

-- a program point enters a subprogram, by its link
record HasLink (S : Setting) (list : List One) (facts : Facts) (link : Option ℕ) (p : Place) (t : ℕ) : Type 0 where
  pub number : ℕ
  pub is : link ≡ Some number
  pub context : Context
  pub leads : LeadsTo S facts p t context
  pub at : slice_get list number ≡ Some (t, context)

-- where a link leads, its call does
linked_to : (S : Setting) (list : List One) (sub : ℕ) (facts : Facts) (p : Place) (t number : ℕ) → IsEntering S sub facts p t
    → IsLinked S list sub facts p number → HasLink S list facts (Some number) p t
linked_to S list sub facts p t number enters linked =
    let same : linked.target ≡ t = same_target linked.target t p linked.enters.followed.call.into enters.followed.call.into in
    record {
      number = number;
      is = refl;
      context = linked.context;
      leads = subst (λ (n : ℕ). LeadsTo S facts p n linked.context) same linked.leads;
      at = linked.at ∙ ap (λ (n : ℕ). Some (n, linked.context)) same;
    }

-- what enters has a link
link_of : (S : Setting) (list : List One) (sub : ℕ) (facts : Facts) (p : Place) (t : ℕ) (link : Option ℕ) → IsEntering S sub facts p t
    → IsLink S list sub facts p link → HasLink S list facts link p t
link_of S list sub facts p t None enters is = absurd (is t enters)
link_of S list sub facts p t (Some number) enters is = linked_to S list sub facts p t number enters is

module _ (S : Setting) (list : List One) (table : Table) (filled : AreFilled S list table) where
  -- an answer stands by a bound
  pub has_bound : (n : ℕ) (one : One) (answer : Answer) → slice_get list n ≡ Some one → stands_at table n answer → HasBound S one.0 one.1 answer.bound
  has_bound n one answer at there =
      let b = filled.each n one answer at there in
      bounded b.within b.callees b.next b.leads b.bounds b.is.bound

  -- the bound of an entry can be told
  told_at : (number : ℕ) (entry : Option (Option Answer)) → slice_get table number ≡ entry → IsTold (bound_of entry)
  told_at number None at = tt
  told_at number (Some None) at = tt
  told_at number (Some (Some answer)) at =
      let low : number < length table = slice_get_within table number (Some answer) at in
      let count : length table ≡ length list = filled.count in
      let one = get_there list number (omega (arith, low, count)) in
      let b = filled.each number one.0 answer one.1 at in
      bound_told S b.within b.callees answer.bound b.is.bound

  -- so can that of a context to which a call leads
  told_by : (link : Option ℕ) → IsTold (bound_by table link)
  told_by None = tt
  told_by (Some number) = told_at number (slice_get table number) refl

  -- the bounds of answers can be told
  pub all_told : (links : List (Option ℕ)) → All IsTold (map (bound_by table) links)
  all_told links = All-map IsTold (bound_by table) links (all_at (λ link. IsTold (bound_by table link)) links (λ k link at. told_by link))

  module _ (one : One) (o : Opened) (is : IsOpened S list one o) where
    -- the facts of the context
    abbrev facts : Facts
    facts = fact_at compare o.within.facts

    -- the link of a program point
    abbrev link_at : Place → Option ℕ
    link_at p = link_in (slice_get o.links.items (place_in o.within.nodes.items p))

    -- the bounds of the contexts to which its calls lead
    abbrev pub callees : Callees
    callees p = bound_by table (link_at p)

    -- the contexts to which its calls lead
    abbrev next : Place → Context
    next p = context_by list (link_at p)

    -- the link at the number of a program point is its link
    link_is : (k : ℕ) (p : Place) (link : Option ℕ) → slice_get o.within.nodes.items k ≡ Some p → slice_get o.links.items k ≡ Some link
        → link_at p ≡ link
    link_is k p link at there =
        ap link_in (ap (slice_get o.links.items) (place_is o.within.nodes.items is.inside.is.rise p k (number_at o.within.nodes.items k p at)) ∙ there)

    -- by the links of its program points
    pub mapped : map callees o.within.nodes.items ≡ map (bound_by table) o.links.items
    mapped =
        same_at (map callees o.within.nodes.items) (map (bound_by table) o.links.items)
        (length-map o.within.nodes.items callees ∙ (sym is.links.count ∙ sym (length-map o.links.items (bound_by table)))) each
      where
        each : (k : ℕ) (x y : Option ℕ) → slice_get (map callees o.within.nodes.items) k ≡ Some x
            → slice_get (map (bound_by table) o.links.items) k ≡ Some y → x ≡ y
        each k x y at there =
            let low : k < length (map callees o.within.nodes.items) = slice_get_within (map callees o.within.nodes.items) k x at in
            let long : length (map callees o.within.nodes.items) ≡ length o.within.nodes.items = length-map o.within.nodes.items callees in
            let count : length o.links.items ≡ length o.within.nodes.items = is.links.count in
            let p = get_there o.within.nodes.items k (omega (arith, low, long)) in
            let link = get_there o.links.items k (omega (arith, low, long, count)) in
            let one_is : x ≡ callees p.0 = some_same (sym at ∙ mapped_at callees o.within.nodes.items k p.0 p.1) in
            let other_is : y ≡ bound_by table link.0 = some_same (sym there ∙ mapped_at (bound_by table) o.links.items k link.0 link.1) in
            one_is ∙ (ap (bound_by table) (link_is k p.0 link.0 p.1 link.1) ∙ sym other_is)

    -- what the context enters, one of its program points does
    entering_node : (p : Place) (t : ℕ) → IsEntering S one.0 facts p t → Contains o.within.nodes.items p
    entering_node p t enters =
        subst (λ (nodes : List Place). Contains nodes p) is.inside.is.nodes
        ((is.inside.is.shape.points.each p).1 (is.inside.is.stand (key.Call p t) enters.followed.call.there))

    -- and that has a link to it
    entering : (p : Place) (t : ℕ) → IsEntering S one.0 facts p t → HasLink S list facts (link_at p) p t
    entering p t enters =
        let k = at_among o.within.nodes.items p (entering_node p t enters) in
        let low : k.0 < length o.within.nodes.items = slice_get_within o.within.nodes.items k.0 p k.1 in
        let count : length o.links.items ≡ length o.within.nodes.items = is.links.count in
        let link = get_there o.links.items k.0 (omega (arith, low, count)) in
        link_of S list one.0 facts p t (link_at p) enters
        (subst (λ (l : Option ℕ). IsLink S list one.0 facts p l) (sym (link_is k.0 p link.0 k.1 link.1)) (is.links.each k.0 p link.0 k.1 link.1))

    -- a link is a number of the table
    number_low : (p : Place) (link : Option ℕ) → IsLink S list one.0 facts p link → IfSome link (λ number. number < length table)
    number_low p None linked = tt
    number_low p (Some number) linked =
        let low : number < length list = slice_get_within list number (linked.target, linked.context) linked.at in
        let count : length table ≡ length list = filled.count in
        omega (arith, low, count)

    -- its links are numbers of the table
    pub links_low : All (λ link. IfSome link (λ number. number < length table)) o.links.items
    links_low =
        all_at (λ link. IfSome link (λ number. number < length table)) o.links.items
        (λ k link at.
        let low : k < length o.links.items = slice_get_within o.links.items k link at in
        let count : length o.links.items ≡ length o.within.nodes.items = is.links.count in
        let p = get_there o.within.nodes.items k (omega (arith, low, count)) in
        number_low p.0 link (is.links.each k p.0 link p.1 at))

    -- the context of a link is that to which the call leads
    next_is : (p : Place) (t : ℕ) (link : HasLink S list facts (link_at p) p t) → next p ≡ link.context
    next_is p t link = ap (context_by list) link.is ∙ ap context_in link.at

    -- each call that is followed leads to its context
    leads : (p : Place) (t : ℕ) → IsEntering S one.0 facts p t → LeadsTo S facts p t (next p)
    leads p t enters =
        let link = entering p t enters in
        subst (λ (context : Context). LeadsTo S facts p t context) (sym (next_is p t link)) link.leads

    module _ (known : All (IsKnown table) o.links.items) where
      -- the answer of a callee
      answer_of : (p : Place) (t : ℕ) (link : HasLink S list facts (link_at p) p t) → IsEntering S one.0 facts p t → HasAnswer table link.number
      answer_of p t link enters =
          let k = at_among o.within.nodes.items p (entering_node p t enters) in
          let low : k.0 < length o.within.nodes.items = slice_get_within o.within.nodes.items k.0 p k.1 in
          let count : length o.links.items ≡ length o.within.nodes.items = is.links.count in
          let found = get_there o.links.items k.0 (omega (arith, low, count)) in
          let same : found.0 ≡ Some link.number = sym (link_is k.0 p found.0 k.1 found.1) ∙ link.is in
          subst (λ (l : Option ℕ). IsKnown table l) same
          (All-contains (IsKnown table) o.links.items found.0 known (among_at o.links.items k.0 found.0 found.1))

      -- its bound is that of the callee
      bound_is : (p : Place) (t : ℕ) (link : HasLink S list facts (link_at p) p t) (enters : IsEntering S one.0 facts p t)
          → (answer_of p t link enters).answer.bound ≡ callees p
      bound_is p t link enters = sym (ap (bound_by table) link.is ∙ ap bound_of (answer_of p t link enters).there)

      -- which the callee has
      bounds : (p : Place) (t : ℕ) → IsEntering S one.0 facts p t → HasBound S t (next p) (callees p)
      bounds p t enters =
          let link = entering p t enters in
          let a = answer_of p t link enters in
          subst (λ (context : Context). HasBound S t context (callees p)) (sym (next_is p t link))
          (subst (λ (b : Option ℕ). HasBound S t link.context b) (bound_is p t link enters)
          (has_bound link.number (t, link.context) a.answer link.at a.there))

      -- and the table tells
      told : (p : Place) (t : ℕ) → IsEntering S one.0 facts p t → IsToldBy list (stands_at table) t (next p) (callees p)
      told p t enters =
          let link = entering p t enters in
          let a = answer_of p t link enters in
          record {
            number = link.number;
            at = subst (λ (context : Context). slice_get list link.number ≡ Some (t, context)) (sym (next_is p t link)) link.at;
            answer = a.answer;
            there = a.there;
            is = bound_is p t link enters;
          }

      -- its answer by the answers of those
      pub answered : (answer : Answer) → IsAnswer S (inside_of one.1 is.inside.arguments is.inside.is) callees answer
          → IsAnsweredBy S list (stands_at table) one answer
      answered answer shown = record {
        within = inside_of one.1 is.inside.arguments is.inside.is;
        callees = callees;
        next = next;
        leads = leads;
        bounds = bounds;
        told = told;
        is = shown;
      }
