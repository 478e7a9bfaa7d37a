-- The reasons that are gathered are those that a view and the bounds of callees show.
use Rattle.std.proofs.Common.{◌≡◌, ◌==◌, ◌↔◌, ℕ, ◌+◌, ◌<◌, ◌≤◌, Bool, true, false, List, [], ◌∷◌, ◌++◌, length, get_or, map, Option, Some, None, Contains, inl, inr, refl, sym, ap, subst, ◌∙◌, arith}
use Rattle.std.specs.Prelude.{slice_get, nat_lt, if◌then◌else◌}
use Rattle.std.proofs.lemmas.Bool.{cases_lt, eqb-true, lt-ltb, ltb-true}
use Rattle.std.proofs.lemmas.Option.{slice_get-get_or, slice_get_within}
use Rattle.abs_state.specs.declared.key.GapKind.{GapKind}
use Rattle.abs_state.specs.declared.key.GapKind.TheVariants as why
use Rattle.abs_state.specs.declared.key.Place.{Place}
use Rattle.assert_bind.specs.declared.body.BoundAssertion.{BoundAssertion}
use Rattle.context_answers.proofs.Lists.{has_map, map_has, some_same}
use Rattle.context_answers.specs.Adding.{Adds, IsCommon, IsOpenAmong, IsOpenAt, IsShortOf, gap_reason, window_reasons}
use Rattle.graph_view.proofs.Keyed.{filter_true}
use Rattle.graph_view.proofs.Stands.{Has, has_back, has_either, has_from, has_front, has_to}
use Rattle.graph_view.specs.Cycles.{AreCycleCalls}
use Rattle.graph_view.specs.Need.{IsNeed}
use Rattle.graph_view.specs.Subs.{open_sub}
use Rattle.graph_view.specs.View.{ByKind, gap_of, opens_of}
use Rattle.graph_view.specs.declared.lists.Calling.{Calling}
use Rattle.graph_view.specs.declared.lists.OpenPoint.{OpenPoint}
use Rattle.transfer_rules.specs.Give.{Facts}
use Rattle.wcet_report.specs.declared.reason.Reason.{Reason}
use Rattle.wcet_report.specs.declared.reason.Reason.TheVariants as reason
use Rattle.graph_view.proofs.Recursion.{needs_are_one, needs_end_at_cycles}

module _ (binding : List BoundAssertion) (callings : List Calling) (facts : Facts) (sub : ℕ) (nodes : List Place) (bounds : List (Option ℕ)) where
  abbrev Among : ℕ → Reason → Type 0
  Among many one = IsOpenAmong binding callings facts sub nodes bounds many one

  none_among : (one : Reason) → Among 0 one → ⊥
  none_among one a = let low = a.low in omega (arith, low)

  -- nothing is added by no program points
  pub none_added : (list : List Reason) → Adds (IsOpenAmong binding callings facts sub nodes bounds 0) list list
  none_added list = record { has = λ one has. inl has; keeps = λ one has. has; adds = λ one a. absurd (none_among one a) }

  -- one program point more
  one_added : (k : ℕ) (p : Place) (bound : Option ℕ) (old mid new : List Reason) → slice_get nodes k ≡ Some p → slice_get bounds k ≡ Some bound
      → Adds (IsOpenAmong binding callings facts sub nodes bounds k) old mid → Adds (IsOpenAt binding callings facts sub p bound) mid new
      → Adds (IsOpenAmong binding callings facts sub nodes bounds (k + 1)) old new
  one_added k p bound old mid new at told before now = record {
    has = λ one has. elim (now.has one has) [
      | inl earlier ↦ elim (before.has one earlier) [
        | inl first ↦ inl first
        | inr a ↦
            let low = a.low in
            inr (record { place = a.place; low = omega (arith, low); p = a.p; at = a.at; bound = a.bound; leads = a.leads; calls = a.calls })
      ]
      | inr calls ↦ inr (record { place = k; low = omega arith; p = p; at = at; bound = bound; leads = told; calls = calls })
    ];
    keeps = λ one has. now.keeps one (before.keeps one has);
    adds = λ one a. elim (cases_lt a.place k) [
      | inl less ↦
          now.keeps one (before.adds one (record { place = a.place; low = less; p = a.p; at = a.at; bound = a.bound; leads = a.leads; calls = a.calls }))
      | inr more ↦
          let low = a.low in
          let here : a.place ≡ k = omega (arith, low, more) in
          let same : a.p ≡ p = some_same (sym a.at ∙ (ap (slice_get nodes) here ∙ at)) in
          let bounded : a.bound ≡ bound = some_same (sym a.leads ∙ (ap (slice_get bounds) here ∙ told)) in
          now.adds one
          (subst (λ (q : Place). IsOpenAt binding callings facts sub q bound one) same
          (subst (λ (b : Option ℕ). IsOpenAt binding callings facts sub a.p b one) bounded a.calls))
    ];
  }

  pub call_on : (k : ℕ) (d : Place) (b : Option ℕ) (old mid new : List Reason) → k < length nodes → length bounds ≡ length nodes
      → Adds (IsOpenAmong binding callings facts sub nodes bounds k) old mid → Adds (IsOpenAt binding callings facts sub (get_or nodes k d) (get_or bounds k b)) mid new
      → Adds (IsOpenAmong binding callings facts sub nodes bounds (k + 1)) old new
  call_on k d b old mid new low same before now =
      one_added k (get_or nodes k d) (get_or bounds k b) old mid new (slice_get-get_or nodes k d low) (slice_get-get_or bounds k b (omega (arith, low, same))) before now

  -- at the end all are added
  pub calls_done : (k : ℕ) (old new : List Reason) → length nodes ≤ k → Adds (IsOpenAmong binding callings facts sub nodes bounds k) old new
      → Adds (IsOpenAmong binding callings facts sub nodes bounds (length nodes)) old new
  calls_done k old new high added = record {
    has = λ one has. elim (added.has one has) [
      | inl first ↦ inl first
      | inr a ↦
          inr (record { place = a.place; low = slice_get_within nodes a.place a.p a.at; p = a.p; at = a.at; bound = a.bound; leads = a.leads; calls = a.calls })
    ];
    keeps = added.keeps;
    adds = λ one a.
        let low = a.low in
        added.adds one (record { place = a.place; low = omega (arith, low, high); p = a.p; at = a.at; bound = a.bound; leads = a.leads; calls = a.calls });
  }

module _ (binding : List BoundAssertion) (view : ByKind) (facts : Facts) (sub : ℕ) (nodes : List Place) (bounds : List (Option ℕ)) where
  abbrev Common : Reason → Type 0
  Common one = IsCommon binding view facts sub nodes bounds one

  -- what isn't known at a point of the subprogram
  point_common : (point : OpenPoint) → Contains (opens_of view sub) point → Common (gap_reason point.why point.pc)
  point_common point has = by point.why refl where
    own : point.sub ≡ sub
    own = eqb-true point.sub sub (filter_true (λ (x : OpenPoint). open_sub x == sub) view.opens point (has_from (opens_of view sub) point has))

    with_kind : (kind : GapKind) → point.why ≡ kind → Contains (opens_of view sub) (record { sub = sub; pc = point.pc; why = kind })
    with_kind kind e = subst (λ (x : OpenPoint). Contains (opens_of view sub) x) (λ i. record { sub = own i; pc = point.pc; why = e i }) has

    by : (kind : GapKind) → point.why ≡ kind → Common (gap_reason kind point.pc)
    by why.Jump e = with_kind why.Jump e
    by why.Call e = with_kind why.Call e
    by why.Instr e = with_kind why.Instr e

  abbrev gaps_in : List (GapKind × ℕ) → List Reason
  gaps_in gaps = map (λ gap. gap_reason gap.0 gap.1) gaps

  gaps_common : (gaps : List (GapKind × ℕ)) → gaps ≡ map gap_of (opens_of view sub) → (one : Reason) → Has (gaps_in gaps) one → Common one
  gaps_common gaps are one has =
      let gap = has_map (λ (g : GapKind × ℕ). gap_reason g.0 g.1) gaps one has in
      let point = has_map gap_of (opens_of view sub) gap.0 (subst (λ (l : List (GapKind × ℕ)). Has l gap.0) are gap.1) in
      subst (λ (r : Reason). Common r) (ap (λ (g : GapKind × ℕ). gap_reason g.0 g.1) point.2 ∙ gap.2)
      (point_common point.0 (has_to (opens_of view sub) point.0 point.1))

  common_gap : (gaps : List (GapKind × ℕ)) → gaps ≡ map gap_of (opens_of view sub) → (kind : GapKind) (pc : ℕ)
      → Contains (opens_of view sub) (record { sub = sub; pc = pc; why = kind }) → Has (gaps_in gaps) (gap_reason kind pc)
  common_gap gaps are kind pc has =
      map_has (λ (g : GapKind × ℕ). gap_reason g.0 g.1) gaps (kind, pc)
      (subst (λ (l : List (GapKind × ℕ)). Has l (kind, pc)) (sym are)
      (map_has gap_of (opens_of view sub) (record { sub = sub; pc = pc; why = kind }) (has_from (opens_of view sub) (record { sub = sub; pc = pc; why = kind }) has)))

  recursions_common : (addresses : List ℕ) → AreCycleCalls view.callings sub addresses → (one : Reason) → Has (map (λ pc. reason.Recursion pc) addresses) one → Common one
  recursions_common addresses are one has =
      let pc = has_map (λ (n : ℕ). reason.Recursion n) addresses one has in
      subst (λ (r : Reason). Common r) pc.2 (are.has pc.0 (has_to addresses pc.0 pc.1))

  windows_common : (need : Option ℕ) → IsNeed view.places view.callings sub need → (one : Reason) → Has (window_reasons need) one → Common one
  windows_common None needs one has = absurd has
  windows_common (Some need) needs one has = by (nat_lt 6 need) refl has where
    by : (b : Bool) → nat_lt 6 need ≡ b → Has (if b then reason.Windows need ∷ [] else []) one → Common one
    by true more (inl e) = subst (λ (r : Reason). Common r) e (record { needs = needs; more = ltb-true 6 need more })
    by true more (inr none) = absurd none
    by false more none = absurd none

  common_windows : (need : Option ℕ) → IsNeed view.places view.callings sub need → (other : ℕ) → IsShortOf view sub other → Has (window_reasons need) (reason.Windows other)
  common_windows None needs other short =
      let ends = needs_end_at_cycles view.places view.callings sub in absurd (ends.some other short.needs (ends.none needs))
  common_windows (Some need) needs other short =
      let same : other ≡ need = needs_are_one view.places view.callings sub other need short.needs needs in
      let more = short.more in
      by (nat_lt 6 need) (lt-ltb 6 need (omega (arith, more, same))) same where
        by : (b : Bool) → b ≡ true → other ≡ need → Has (if b then reason.Windows need ∷ [] else []) (reason.Windows other)
        by true more e = inl (ap (λ (n : ℕ). reason.Windows n) (sym e))
        by false more e = absurd (cc)

  calls_common : (one : Reason) → IsOpenAmong binding view.callings facts sub nodes bounds (length nodes) one → Common one
  calls_common one a = subst (λ (r : Reason). Common r) (sym a.calls.to.told) (subst (λ (r : Reason). IsOpenAmong binding view.callings facts sub nodes bounds (length nodes) r) a.calls.to.told a)

  module _ (gaps : List (GapKind × ℕ)) (addresses : List ℕ) (need : Option ℕ) (gaps_are : gaps ≡ map gap_of (opens_of view sub))
      (cycles : AreCycleCalls view.callings sub addresses) (needs : IsNeed view.places view.callings sub need) where
    abbrev shown : List Reason
    shown = (gaps_in gaps ++ map (λ pc. reason.Recursion pc) addresses) ++ window_reasons need

    shown_common : (one : Reason) → Has shown one → Common one
    shown_common one has = elim (has_either (gaps_in gaps ++ map (λ pc. reason.Recursion pc) addresses) (window_reasons need) one has) [
      | inl front ↦ elim (has_either (gaps_in gaps) (map (λ pc. reason.Recursion pc) addresses) one front) [
        | inl first ↦ gaps_common gaps gaps_are one first
        | inr second ↦ recursions_common addresses cycles one second
      ]
      | inr last ↦ windows_common need needs one last
    ]

    gap_shown : (one : Reason) → Has (gaps_in gaps) one → Has shown one
    gap_shown one has = has_front (gaps_in gaps ++ map (λ pc. reason.Recursion pc) addresses) (window_reasons need) one
        (has_front (gaps_in gaps) (map (λ pc. reason.Recursion pc) addresses) one has)

    -- what is shown, with the calls
    pub gathered : (old new : List Reason) → old ≡ (gaps_in gaps ++ map (λ pc. reason.Recursion pc) addresses) ++ window_reasons need
        → Adds (IsOpenAmong binding view.callings facts sub nodes bounds (length nodes)) old new
        → (one : Reason) → Contains new one ↔ IsCommon binding view facts sub nodes bounds one
    gathered old new is added one = (there one, back one) where
      in_old : (r : Reason) → Has shown r → Contains new r
      in_old r has = added.keeps r (subst (λ (l : List Reason). Contains l r) (sym is) (has_to shown r has))

      there : (r : Reason) → Contains new r → Common r
      there r has = elim (added.has r has) [
        | inl earlier ↦ shown_common r (has_from shown r (subst (λ (l : List Reason). Contains l r) is earlier))
        | inr call ↦ calls_common r call
      ]

      back : (r : Reason) → Common r → Contains new r
      back (reason.Jump pc) c = in_old (reason.Jump pc) (gap_shown (reason.Jump pc) (common_gap gaps gaps_are why.Jump pc c))
      back (reason.Call pc) c = in_old (reason.Call pc) (gap_shown (reason.Call pc) (common_gap gaps gaps_are why.Call pc c))
      back (reason.Instr pc) c = in_old (reason.Instr pc) (gap_shown (reason.Instr pc) (common_gap gaps gaps_are why.Instr pc c))
      back (reason.Loop head) c = absurd c
      back (reason.Irreducible p q) c = absurd c
      back (reason.Callee call target) c = added.adds (reason.Callee call target) c
      back (reason.Recursion pc) c = in_old (reason.Recursion pc)
          (has_front (gaps_in gaps ++ map (λ n. reason.Recursion n) addresses) (window_reasons need) (reason.Recursion pc)
          (has_back (gaps_in gaps) (map (λ n. reason.Recursion n) addresses) (reason.Recursion pc)
          (map_has (λ (n : ℕ). reason.Recursion n) addresses pc (has_from addresses pc (cycles.all pc c)))))
      back (reason.Windows other) c = in_old (reason.Windows other)
          (has_back (gaps_in gaps ++ map (λ n. reason.Recursion n) addresses) (window_reasons need) (reason.Windows other) (common_windows need needs other c))
      back (reason.TooLarge p) c = absurd c
