-- Loops over keys: what has been copied or compared so far.
use Rattle.std.proofs.Common.{◌≡◌, ℕ, ◌+◌, ◌<◌, ◌≤◌, Bool, true, false, cond, List, [], ◌∷◌, ◌++◌, length, get_or, take, drop, Option, Some, None, Ordering}
use Rattle.std.proofs.Common.{IsSome, IsTrue, Contains, refl, sym, ap, ◌∙◌, subst, arith, ◌⊎◌, ⊎_elim}
use Rattle.std.proofs.lemmas.List.Elements.{Contains-append_left, Contains-push, Contains-push_cases, Contains-get_or}
use Rattle.std.proofs.lemmas.List.{take_more, take-append-drop}
use Rattle.std.specs.Ordering.{is_eq}
use Rattle.flow_system.specs.Facts.{fact_at, KeysRise}
use Rattle.flow_system.specs.Laws.{IsLawful, OrdersKeys}
use Rattle.flow_system.specs.Rules.{Rules}
use Rattle.flow_system.specs.State.{AllFit}
use Rattle.flow_core.specs.Staged.{over, written, PiecesFit, IsStaged, IsCopy, CopiesFact, AgreesAt}
use Rattle.flow_core.proofs.EntryLemmas.{same_key, self_key}
use Rattle.flow_core.proofs.JoinLemmas.{IsRaised, raised_new, raised_join, stage_contained, stage_raised}

same_some : {X : Type 0} (x y : X) → ◌≡◌ {A = Option X} (Some x) (Some y) → x ≡ y
same_some x y e = cc

module _ {K V : Type 0} (cmp : K → K → Ordering) (keys : OrdersKeys cmp) where
  copy_step : (facts done : List (K × V)) (ks : List K) (k : K) (old new : List (K × V)) → IsCopy cmp facts ks old → CopiesFact cmp facts k old new
      → IsCopy cmp facts (ks ++ k ∷ []) new
  copy_step facts done ks k old new copy step = record {
    same = λ q listed. ⊎_elim (λ before. same_cases q before (is_eq (cmp k q)) refl) (λ is. here_cases q is) (Contains-push_cases ks k q listed);
    only = λ q s. only_cases q (is_eq (cmp k q)) refl (subst (λ (o : Option V). IsSome o) (step q) s);
  }
    where
      old_same : (q : K) (o p : Option V) → fact_at cmp old q ≡ o → fact_at cmp facts q ≡ p → over p o ≡ p
      old_same q None None eo ep = refl
      old_same q o (Some v) eo ep = refl
      old_same q (Some u) None eo ep =
          let listed = copy.only q (subst (λ (x : Option V). IsSome x) (sym eo) refl) in
          let e = copy.same q listed in
          cc

      here_cases : (q : K) → k ≡ q → fact_at cmp new q ≡ fact_at cmp facts q
      here_cases q is =
          let t : is_eq (cmp k q) ≡ true = subst (λ x. is_eq (cmp k x) ≡ true) is (self_key cmp keys k) in
          step q ∙ ap (λ b. cond b (over (fact_at cmp facts k) (fact_at cmp old q)) (fact_at cmp old q)) t
          ∙ ap (λ x. over (fact_at cmp facts x) (fact_at cmp old q)) is ∙ old_same q (fact_at cmp old q) (fact_at cmp facts q) refl refl

      same_cases : (q : K) → Contains ks q → (b : Bool) → is_eq (cmp k q) ≡ b → fact_at cmp new q ≡ fact_at cmp facts q
      same_cases q before true t = here_cases q (same_key cmp keys k q t)
      same_cases q before false t = step q ∙ ap (λ b. cond b (over (fact_at cmp facts k) (fact_at cmp old q)) (fact_at cmp old q)) t ∙ copy.same q before

      only_cases : (q : K) (b : Bool) → is_eq (cmp k q) ≡ b
          → IsSome (cond (is_eq (cmp k q)) (over (fact_at cmp facts k) (fact_at cmp old q)) (fact_at cmp old q)) → Contains (ks ++ k ∷ []) q
      only_cases q true t s = subst (λ x. Contains (ks ++ k ∷ []) x) (same_key cmp keys k q t) (Contains-push ks k)
      only_cases q false t s = Contains-append_left ks (k ∷ []) q
          (copy.only q (subst (λ b. IsSome (cond b (over (fact_at cmp facts k) (fact_at cmp old q)) (fact_at cmp old q))) t s))

  -- of no key nothing is copied
  pub copy_none : (facts : List (K × V)) (ks : List K) → IsCopy cmp facts (take 0 ks) []
  copy_none facts ks = record {
    same = λ k listed. absurd (omega (arith, listed.1));
    only = λ k s. let f : false ≡ true = s in absurd (cc);
  }

  -- one key more is copied
  pub copy_more : (facts : List (K × V)) (ks : List K) (i : ℕ) (k : K) (old new : List (K × V)) → i < length ks → k ≡ get_or ks i k
      → IsCopy cmp facts (take i ks) old → CopiesFact cmp facts k old new → IsCopy cmp facts (take (i + 1) ks) new
  copy_more facts ks i k old new within is copy step =
      let e : take (i + 1) ks ≡ take i ks ++ k ∷ [] = take_more ks i k within ∙ ap (λ x. take i ks ++ x ∷ []) (sym is) in
      subst (λ list. IsCopy cmp facts list new) (sym e) (copy_step facts [] (take i ks) k old new copy step)

  -- copies that agree at one key more
  pub agree_more : (copies facts : List (K × V)) (ks : List K) (i : ℕ) (k : K) → i < length ks → k ≡ get_or ks i k → AgreesAt cmp copies facts (take i ks)
      → fact_at cmp copies k ≡ fact_at cmp facts k → AgreesAt cmp copies facts (take (i + 1) ks)
  agree_more copies facts ks i k within is agree here q listed =
      let e : take (i + 1) ks ≡ take i ks ++ k ∷ [] = take_more ks i k within ∙ ap (λ x. take i ks ++ x ∷ []) (sym is) in
      ⊎_elim (λ before. agree q before) (λ same. subst (λ x. fact_at cmp copies x ≡ fact_at cmp facts x) same here)
      (Contains-push_cases (take i ks) k q (subst (λ list. Contains list q) e listed))

-- what stands at a place of a list is in it
pub listed_at : {X : Type 0} (xs : List X) (i : ℕ) (x : X) → i < length xs → x ≡ get_or xs i x → Contains xs x
listed_at xs i x within is = subst (λ y. Contains xs y) (sym is) (Contains-get_or xs i x within)

module _ {K V : Type 0} (cmp : K → K → Ordering) (m : Rules K V) (law : IsLawful cmp m) where
  -- a piece at a key without a fact is staged by itself
  pub stage_new : (facts risen risen' : List (K × V)) (k : K) (v w : V) → AllFit m (fact_at cmp facts) → IsTrue (m.fits k v)
      → None ≡ written cmp facts risen k → w ≡ v → ((q : K) → fact_at cmp risen' q ≡ cond (is_eq (cmp k q)) (Some w) (fact_at cmp risen q))
      → KeysRise cmp risen' → (done : List (K × V)) → PiecesFit m done → IsStaged cmp m facts done risen → IsStaged cmp m facts (done ++ (k, v) ∷ []) risen'
  stage_new facts risen risen' k v w ff fv none is writes rise done fd staged =
      stage_raised cmp m law facts done risen risen' k v w ff fd fv staged
      (subst (λ (o : Option V). IsRaised cmp m law k v o w) none (subst (λ x. IsRaised cmp m law k v None x) (sym is) (raised_new cmp m law k v fv)))
      (λ u e. let n : None ≡ Some u = none ∙ e in absurd (cc)) writes rise

  -- a piece at a key with a fact is staged by their join
  pub stage_join : (facts risen risen' : List (K × V)) (k : K) (v u w : V) → AllFit m (fact_at cmp facts) → AllFit m (written cmp facts risen)
      → IsTrue (m.fits k v) → Some u ≡ written cmp facts risen k → m.at_most v u ≡ false → w ≡ m.join u v
      → ((q : K) → fact_at cmp risen' q ≡ cond (is_eq (cmp k q)) (Some w) (fact_at cmp risen q)) → KeysRise cmp risen' → (done : List (K × V))
      → PiecesFit m done → IsStaged cmp m facts done risen → IsStaged cmp m facts (done ++ (k, v) ∷ []) risen'
  stage_join facts risen risen' k v u w ff fr fv there more is writes rise done fd staged =
      stage_raised cmp m law facts done risen risen' k v w ff fd fv staged
      (subst (λ (o : Option V). IsRaised cmp m law k v o w) there (subst (λ x. IsRaised cmp m law k v (Some u) x) (sym is)
      (raised_join cmp m law k v u fv (fr k u (sym there)))))
      (λ x e. subst (λ y. m.at_most v y ≡ false) (same_some u x (there ∙ e)) more) writes rise

  -- one piece more is staged
  pub stage_more : (facts pieces risen risen' : List (K × V)) (i : ℕ) (p : K × V) → i < length pieces → p ≡ get_or pieces i p → PiecesFit m pieces
      → ((done : List (K × V)) → PiecesFit m done → IsStaged cmp m facts done risen → IsStaged cmp m facts (done ++ (p.0, p.1) ∷ []) risen')
      → IsStaged cmp m facts (take i pieces) risen → IsStaged cmp m facts (take (i + 1) pieces) risen'
  stage_more facts pieces risen risen' i p within is fit step staged =
      let e : take (i + 1) pieces ≡ take i pieces ++ p ∷ [] = take_more pieces i p within ∙ ap (λ x. take i pieces ++ x ∷ []) (sym is) in
      subst (λ list. IsStaged cmp m facts list risen') (sym e) (step (take i pieces) (λ k v listed. fit k v (in_front pieces i (k, v) listed)) staged)
    where
      in_front : (xs : List (K × V)) (n : ℕ) (x : K × V) → Contains (take n xs) x → Contains xs x
      in_front xs n x listed = subst (λ list. Contains list x) (take-append-drop n xs) (Contains-append_left (take n xs) (drop n xs) x listed)

  -- two facts of one key that are at most each other are the same
  pub both_ways : (facts copies : List (K × V)) (k : K) (a b : V) → AllFit m (fact_at cmp facts) → AllFit m (fact_at cmp copies)
      → Some a ≡ fact_at cmp copies k → Some b ≡ fact_at cmp facts k → IsTrue (m.at_most a b) → IsTrue (m.at_most b a)
      → fact_at cmp copies k ≡ fact_at cmp facts k
  both_ways facts copies k a b ff fc ea eb up down = sym ea ∙ ap Some (law.order.both k a b (fc k a (sym ea)) (ff k b (sym eb)) up down) ∙ eb

  -- a copy that is the fact is at most it, and it is at most the copy
  pub not_at_most : (facts copies : List (K × V)) (k : K) (a b : V) → AllFit m (fact_at cmp facts) → Some a ≡ fact_at cmp copies k
      → Some b ≡ fact_at cmp facts k → fact_at cmp copies k ≡ fact_at cmp facts k → (m.at_most a b ≡ false) ⊎ (m.at_most b a ≡ false) → ⊥
  not_at_most facts copies k a b ff ea eb same some_fails =
      let e : a ≡ b = same_some a b (ea ∙ same ∙ sym eb) in
      let t = law.order.same k b (ff k b (sym eb)) in
      ⊎_elim (λ f. let f' : m.at_most b b ≡ false = subst (λ x. m.at_most x b ≡ false) e f in absurd (cc))
      (λ f. let f' : m.at_most b b ≡ false = subst (λ x. m.at_most b x ≡ false) e f in absurd (cc)) some_fails
