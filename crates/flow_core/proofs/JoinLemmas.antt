-- Pieces joined to the facts, one after another, and what is written then.
use Rattle.std.proofs.Common.{◌≡◌, ℕ, ◌+◌, ◌<◌, ◌≤◌, Bool, true, false, not, ◌&&◌, cond, List, [], ◌∷◌, ◌++◌, length, Option, Some, None, is_some, Ordering}
use Rattle.std.proofs.Common.{IsSome, IsTrue, Contains, sum_by, count_by, refl, sym, ap, ◌∙◌, subst, arith, ◌⊎◌, ⊎_elim}
use mathlib.Core.Path.{fun_ext}
use Rattle.std.proofs.lemmas.List.Elements.{Contains-append_left, Contains-push, Contains-push_cases}
use Rattle.std.proofs.lemmas.List.Sums.{sum_by-cons}
use Rattle.std.specs.Ordering.{is_eq}
use Rattle.std.specs.Map.{keys_of}
use Rattle.flow_system.specs.Facts.{fact_at, KeysRise, Writes}
use Rattle.flow_system.specs.Laws.{IsLawful}
use Rattle.flow_system.specs.Rules.{Rules}
use Rattle.flow_system.specs.State.{AllFit, ContainsPiece, ContainsAll, IsBelow}
use Rattle.flow_core.specs.Core.{Joins, has_grown, counted_keys, grown_count, PassesLimit}
use Rattle.flow_core.specs.Staged.{over, written, PiecesFit, IsStaged, is_fresh_key}
use Rattle.flow_core.proofs.StateLemmas.{piece_onward, below_itself, below_onward, all_onward}
use Rattle.flow_core.proofs.EntryLemmas.{weight_at, same_key, self_key, overlay, overlay_rise, overlay_at, overlay_sum, same_entries, keys_le, sum_zero}
use Rattle.flow_core.proofs.EntryLemmas.{sum_ones}
use Rattle.flow_core.proofs.QueueLemmas.{some_when}

true_at : {K V : Type 0} (P : K → V → Type 0) (k j : K) (v w : V) → ◌≡◌ {A = K × V} (k, v) (j, w) → P k v → P j w
true_at {K} {V} P k j v w e p = subst (λ (x : K × V). P x.0 x.1) e p

same_some : {X : Type 0} (x y : X) → ◌≡◌ {A = Option X} (Some x) (Some y) → x ≡ y
same_some x y e = cc

module _ {K V : Type 0} (cmp : K → K → Ordering) (m : Rules K V) (law : IsLawful cmp m) where
  -- nothing is joined
  pub joins_nothing : (s : K → Option V) → AllFit m s → Joins m s [] s
  joins_nothing s fit = record {
    fit = fit;
    below = below_itself cmp m law s fit;
    contained = λ k v listed. absurd (omega (arith, listed.1));
    least = λ t ft below has. below;
  }

  -- a piece that is contained already
  pub joins_contained : (s t : K → Option V) (done : List (K × V)) (k : K) (v u : V) → Joins m s done t → t k ≡ Some u → IsTrue (m.at_most v u)
      → Joins m s (done ++ (k, v) ∷ []) t
  joins_contained s t done k v u joined found up = record {
    fit = joined.fit;
    below = joined.below;
    contained = λ j w listed. ⊎_elim (λ before. joined.contained j w before)
        (λ here. true_at (ContainsPiece m t) k j v w here (record { fact = u; found = found; above = up })) (Contains-push_cases done (k, v) (j, w) listed);
    least = λ x fx below has. joined.least x fx below (λ j w listed. has j w (Contains-append_left done ((k, v) ∷ []) (j, w) listed));
  }

  -- a fact that is written: at least the piece and what was there, and the least such
  pub record IsRaised (k : K) (v : V) (before : Option V) (w : V) : Type 0 where
    pub fit : IsTrue (m.fits k w)
    pub piece : IsTrue (m.at_most v w)
    pub there : (u : V) → before ≡ Some u → IsTrue (m.at_most u w)
    pub least : (x : V) → IsTrue (m.fits k x) → IsTrue (m.at_most v x) → ((u : V) → before ≡ Some u → IsTrue (m.at_most u x)) → IsTrue (m.at_most w x)

  -- a piece at a key without a fact raises it to itself
  pub raised_new : (k : K) (v : V) → IsTrue (m.fits k v) → IsRaised k v None v
  raised_new k v fit = record {
    fit = fit;
    piece = law.order.same k v fit;
    there = λ u e. cc;
    least = λ x fx up there. up;
  }

  -- a piece raises a fact to the join of both
  pub raised_join : (k : K) (v u : V) → IsTrue (m.fits k v) → IsTrue (m.fits k u) → IsRaised k v (Some u) (m.join u v)
  raised_join k v u fv fu = record {
    fit = law.fit.join k u v fu fv;
    piece = law.least.second k u v fu fv;
    there = λ x e. subst (λ y. IsTrue (m.at_most y (m.join u v))) (same_some u x e) (law.least.first k u v fu fv);
    least = λ x fx up there. law.least.least k u v x fu fv fx (there u refl) up;
  }

  module _ (s t t' : K → Option V) (done : List (K × V)) (k : K) (v w : V) (fs : AllFit m s) (fd : PiecesFit m done) (fv : IsTrue (m.fits k v))
      (joined : Joins m s done t) (raised : IsRaised k v (t k) w) (change : (q : K) → t' q ≡ cond (is_eq (cmp k q)) (Some w) (t q)) where
    here : t' k ≡ Some w
    here = change k ∙ ap (λ b. cond b (Some w) (t k)) (self_key cmp law.keys k)

    -- what lies at a key afterwards
    by_key : {G : Type 0} (q : K) (a : V) → t' q ≡ Some a → (k ≡ q → w ≡ a → G) → (t q ≡ Some a → G) → G
    by_key {G} q a found same other = key_cases (is_eq (cmp k q)) refl (sym (change q) ∙ found)
      where
        key_cases : (b : Bool) → is_eq (cmp k q) ≡ b → cond b (Some w) (t q) ≡ Some a → G
        key_cases true is e = same (same_key cmp law.keys k q is) (same_some w a e)
        key_cases false is e = other e

    raised_fit : AllFit m t'
    raised_fit q a found = by_key q a found (λ is e. subst (λ x. IsTrue (m.fits x a)) is (subst (λ y. IsTrue (m.fits k y)) e raised.fit))
        (λ e. joined.fit q a e)

    raised_below : IsBelow m t t'
    raised_below q a found = below_cases (is_eq (cmp k q)) refl
      where
        below_cases : (b : Bool) → is_eq (cmp k q) ≡ b → ContainsPiece m t' q a
        below_cases true is =
            let e : k ≡ q = same_key cmp law.keys k q is in
            record {
              fact = w;
              found = subst (λ x. t' x ≡ Some w) e here;
              above = raised.there a (subst (λ x. t x ≡ Some a) (sym e) found);
            }
        below_cases false is = record {
          fact = a;
          found = change q ∙ ap (λ b. cond b (Some w) (t q)) is ∙ found;
          above = law.order.same q a (joined.fit q a found);
        }

    pub joins_raised : Joins m s (done ++ (k, v) ∷ []) t'
    joins_raised = record {
      fit = raised_fit;
      below = λ q a found. piece_onward cmp m law t t' joined.fit raised_fit raised_below q a (fs q a found) (joined.below q a found);
      contained = λ j x listed. ⊎_elim (λ before. contained_before j x before)
          (λ is. true_at (ContainsPiece m t') k j v x is (record { fact = w; found = here; above = raised.piece }))
          (Contains-push_cases done (k, v) (j, x) listed);
      least = λ x fx below has. least_of x fx below has;
    }
      where
        contained_before : (j : K) (x : V) → Contains done (j, x) → ContainsPiece m t' j x
        contained_before j x before = piece_onward cmp m law t t' joined.fit raised_fit raised_below j x (fd j x before) (joined.contained j x before)

        least_of : (x : K → Option V) → AllFit m x → IsBelow m s x → ContainsAll m x (done ++ (k, v) ∷ []) → IsBelow m t' x
        least_of x fx below has q a found =
            let rest = joined.least x fx below (λ j y listed. has j y (Contains-append_left done ((k, v) ∷ []) (j, y) listed)) in
            by_key q a found
            (λ is e.
            let p = has k v (Contains-push done (k, v)) in
            let up : IsTrue (m.at_most w p.fact) = raised.least p.fact (fx k p.fact p.found) p.above
            (λ u there. let r = rest k u there in subst (λ y. IsTrue (m.at_most u y)) (same_some r.fact p.fact (sym r.found ∙ p.found)) r.above) in
            record {
              fact = p.fact;
              found = subst (λ z. x z ≡ Some p.fact) is p.found;
              above = subst (λ y. IsTrue (m.at_most y p.fact)) e up;
            })
            (λ there. rest q a there)

  -- nothing is staged
  pub stage_nothing : (facts : List (K × V)) → AllFit m (fact_at cmp facts) → KeysRise {V = V} cmp [] → IsStaged cmp m facts [] []
  stage_nothing facts fit rise = record {
    joined = joins_nothing (fact_at cmp facts) fit;
    grown = λ k v e. cc;
    rise = rise;
  }

  -- a piece that the staged facts contain stages nothing more
  pub stage_contained : (facts done risen : List (K × V)) (k : K) (v u : V) → IsStaged cmp m facts done risen → written cmp facts risen k ≡ Some u
      → IsTrue (m.at_most v u) → IsStaged cmp m facts (done ++ (k, v) ∷ []) risen
  stage_contained facts done risen k v u staged found up = record {
    joined = joins_contained (fact_at cmp facts) (written cmp facts risen) done k v u staged.joined found up;
    grown = staged.grown;
    rise = staged.rise;
  }

  -- a piece that raises a fact is staged with it
  pub stage_raised : (facts done risen risen' : List (K × V)) (k : K) (v w : V) → AllFit m (fact_at cmp facts) → PiecesFit m done → IsTrue (m.fits k v)
      → IsStaged cmp m facts done risen → IsRaised k v (written cmp facts risen k) w → ((u : V) → written cmp facts risen k ≡ Some u → m.at_most v u ≡ false)
      → Writes cmp risen risen' k (Some w) → KeysRise cmp risen' → IsStaged cmp m facts (done ++ (k, v) ∷ []) risen'
  stage_raised facts done risen risen' k v w ff fd fv staged raised more writes rise = record {
    joined = joins_raised (fact_at cmp facts) (written cmp facts risen) (written cmp facts risen') done k v w ff fd fv staged.joined raised change;
    grown = λ q a found. grown_cases q a (is_eq (cmp k q)) refl (sym (writes q) ∙ found);
    rise = rise;
  }
    where
      over_cases : (b : Bool) (r o : Option V) → over (cond b (Some w) r) o ≡ cond b (Some w) (over r o)
      over_cases true r o = refl
      over_cases false r o = refl

      change : (q : K) → written cmp facts risen' q ≡ cond (is_eq (cmp k q)) (Some w) (written cmp facts risen q)
      change q = ap (λ (o : Option V). over o (fact_at cmp facts q)) (writes q) ∙ over_cases (is_eq (cmp k q)) (fact_at cmp risen q) (fact_at cmp facts q)

      no_more : (b : V) → fact_at cmp facts k ≡ Some b → (t : Bool) → m.at_most w b ≡ t → IsTrue (not t)
      no_more b there false is = refl
      no_more b there true is =
          let p = staged.joined.below k b there in
          let fb = ff k b there in
          let fp = staged.joined.fit k p.fact p.found in
          let up : IsTrue (m.at_most v p.fact) = law.order.onward k v b p.fact fv fb fp (law.order.onward k v w b fv raised.fit fb raised.piece is) p.above in
          let down = more p.fact p.found in
          cc

      has_cases : (q : K) (o : Option V) → fact_at cmp facts q ≡ o → k ≡ q → IsTrue (has_grown m o (Some w))
      has_cases q None there is = refl
      has_cases q (Some b) there is = no_more b (subst (λ x. fact_at cmp facts x ≡ Some b) (sym is) there) (m.at_most w b) refl

      grown_cases : (q : K) (a : V) (t : Bool) → is_eq (cmp k q) ≡ t → cond t (Some w) (fact_at cmp risen q) ≡ Some a
          → IsTrue (has_grown m (fact_at cmp facts q) (Some a))
      grown_cases q a true is e = subst (λ y. IsTrue (has_grown m (fact_at cmp facts q) (Some y))) (same_some w a e)
          (has_cases q (fact_at cmp facts q) refl (same_key cmp law.keys k q is))
      grown_cases q a false is e = staged.grown q a e

  split_one : (k : K) (b : Bool) → m.counted k ≡ b → (o : Option V)
      → cond {A = ℕ} b 1 0 ≡ weight_at (λ (e : K × V). cond (m.counted e.0) 1 0) k o + cond (b && not (is_some o)) 1 0
  split_one k true is None = refl
  split_one k true is (Some x) = let e : cond {A = ℕ} (m.counted k) 1 0 ≡ 1 = ap (λ t. cond t 1 0) is in omega (arith, e)
  split_one k false is None = refl
  split_one k false is (Some x) = let e : cond {A = ℕ} (m.counted k) 1 0 ≡ 0 = ap (λ t. cond t 1 0) is in omega (arith, e)

  count_split : (facts es : List (K × V))
      → sum_by (λ e. cond (m.counted e.0) 1 0) es ≡ sum_by (λ e. weight_at (λ (x : K × V). cond (m.counted x.0) 1 0) e.0 (fact_at cmp facts e.0)) es +
      count_by (is_fresh_key cmp m facts) (keys_of es)
  count_split facts [] = refl
  count_split facts (e ∷ es) =
      let f : K × V → ℕ = λ x. cond (m.counted x.0) 1 0 in
      let g : K × V → ℕ = λ x. weight_at f x.0 (fact_at cmp facts x.0) in
      let h : K → ℕ = λ x. cond (is_fresh_key cmp m facts x) 1 0 in
      let one = split_one e.0 (m.counted e.0) refl (fact_at cmp facts e.0) in
      omega (arith, one, count_split facts es, sum_by-cons f e es, sum_by-cons g e es, sum_by-cons h e.0 (keys_of es))

  module _ (facts risen : List (K × V)) (rise : KeysRise cmp facts) (rise' : KeysRise cmp risen) where
    overlay_count : counted_keys m (overlay cmp law.keys risen facts) ≡ counted_keys m facts + count_by (is_fresh_key cmp m facts) (keys_of risen)
    overlay_count =
        omega (arith, overlay_sum cmp law.keys (λ e. cond (m.counted e.0) 1 0) risen facts rise' rise, count_split facts risen)

    -- where the counted keys would pass the limit
    pub passes_limit : (pieces : List (K × V)) (limit : ℕ) → IsStaged cmp m facts pieces risen
        → limit < counted_keys m facts + count_by (is_fresh_key cmp m facts) (keys_of risen) → PassesLimit cmp m facts pieces limit
    passes_limit pieces limit staged more t rise_t fit below has =
        let least = staged.joined.least (fact_at cmp t) fit below has in
        let le = keys_le cmp law.keys (λ k. cond (m.counted k) 1 0) (overlay cmp law.keys risen facts) t (overlay_rise cmp law.keys risen facts rise) rise_t
        (λ q s. in_t least q (written cmp facts risen q) refl (subst (λ (o : Option V). IsSome o) (overlay_at cmp law.keys risen facts rise' q) s)) in
        omega (arith, le, overlay_count, more)
      where
        in_t : IsBelow m (written cmp facts risen) (fact_at cmp t) → (q : K) (o : Option V) → written cmp facts risen q ≡ o → IsSome o
            → IsSome (fact_at cmp t q)
        in_t least q None is s = let f : false ≡ true = s in absurd (cc)
        in_t least q (Some x) is s = some_when (fact_at cmp t q) (least q x is).fact (least q x is).found

    module _ (new : List (K × V)) (rise_new : KeysRise cmp new) (all : (q : K) → fact_at cmp new q ≡ written cmp facts risen q) where
      whole : new ≡ overlay cmp law.keys risen facts
      whole = same_entries cmp law.keys new (overlay cmp law.keys risen facts) rise_new (overlay_rise cmp law.keys risen facts rise)
          (λ q. all q ∙ sym (overlay_at cmp law.keys risen facts rise' q))

      -- the counted keys are those of before and the fresh ones among the risen
      pub new_count : counted_keys m new ≡ counted_keys m facts + count_by (is_fresh_key cmp m facts) (keys_of risen)
      new_count = ap (counted_keys m) whole ∙ overlay_count

      -- the facts with the risen ones written over them are joined with the pieces
      pub new_joined : (pieces : List (K × V)) → IsStaged cmp m facts pieces risen → Joins m (fact_at cmp facts) pieces (fact_at cmp new)
      new_joined pieces staged = subst (λ s. Joins m (fact_at cmp facts) pieces s) (fun_ext (λ q. sym (all q))) staged.joined

      -- the keys that have grown are those of the risen facts
      pub new_grown : (pieces : List (K × V)) → AllFit m (fact_at cmp facts) → IsStaged cmp m facts pieces risen → grown_count cmp m facts new ≡ length risen
      new_grown pieces fit staged =
          let f : K × V → ℕ = λ e. cond (has_grown m (fact_at cmp facts e.0) (Some e.1)) 1 0 in
          let g : K × V → ℕ = λ e. weight_at f e.0 (fact_at cmp facts e.0) in
          let zero_at : (k : K) (u : V) → fact_at cmp facts k ≡ Some u → f (k, u) ≡ 0 = λ k u there. zero_fact k u there in
          let old = sum_zero cmp law.keys f facts rise zero_at in
          let ones = sum_ones cmp law.keys f risen rise' (λ k v there. ap (λ b. cond b 1 0) (staged.grown k v there)) in
          let weights = sum_zero cmp law.keys g risen rise' (λ k v there. zero_weight k (fact_at cmp facts k) refl) in
          let s = overlay_sum cmp law.keys f risen facts rise' rise in
          let w : grown_count cmp m facts new ≡ grown_count cmp m facts (overlay cmp law.keys risen facts) = ap (grown_count cmp m facts) whole in
          omega (arith, old, ones, weights, s, w)
        where
          zero_fact : (k : K) (u : V) → fact_at cmp facts k ≡ Some u → cond {A = ℕ} (has_grown m (fact_at cmp facts k) (Some u)) 1 0 ≡ 0
          zero_fact k u there =
              let e : has_grown m (fact_at cmp facts k) (Some u) ≡ not (m.at_most u u) = ap (λ (o : Option V). has_grown m o (Some u)) there in
              let same = law.order.same k u (fit k u there) in
              ap (λ b. cond b 1 0) (e ∙ ap not same)

          zero_weight : (k : K) (o : Option V) → fact_at cmp facts k ≡ o
              → weight_at (λ (e : K × V). cond (has_grown m (fact_at cmp facts e.0) (Some e.1)) 1 0) k o ≡ 0
          zero_weight k None there = refl
          zero_weight k (Some u) there = zero_fact k u there
