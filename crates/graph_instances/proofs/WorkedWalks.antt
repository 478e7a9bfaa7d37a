-- The laws of walks at the nested loops.
use Rattle.std.proofs.Common.{◌≡◌, ◌||◌, ℕ, zero, suc, inl, inr, Bool, true, false, List, [], ◌∷◌, refl, sym, ap, subst, ◌∙◌}
use Rattle.bt_base.specs.Graph.{has}
use Rattle.graph_laws.proofs.Forward.{spent_sums, prefixes_less, walks_turned, equal_loops, sets_end, reached_forward, walks_stay, heads_turn}
use Rattle.graph_laws.proofs.WorkedCosts.{nested_cost}
use Rattle.graph_laws.proofs.WorkedNests.{nested_is, nested_are_loops, nested_loops as nested_loops_hold}
use Rattle.std.proofs.lemmas.Bool.Decides.{eqb_tells}
use Rattle.graph_laws.specs.Forward.{HasForwardNext, AreEqual}
use Rattle.graph_laws.specs.Loops.{KeepsBounds}
use Rattle.graph_laws.specs.Nest.{AreReached, cut}
use Rattle.graph_laws.specs.Walk.{IsWalk}
use Rattle.graph_laws.specs.Worked.{ones, nested, nested_nest, nested_bound}
use Rattle.graph_instances.specs.WorkedWalks.{nested_loops, RoundTheOtherWay, three_nodes, LastNodeIsAnEnd, LastNodeIsReachedForward, InnerWalksStay, BothHeadsHaveTurns, other_loops, OtherLoopsAreLoops, ThroughAllThree, BeginningsSpendLess}

reached : AreReached nested 0
reached = nested_loops_hold.reached

pub other_way : RoundTheOtherWay
other_way =
    let walk : IsWalk nested 0 (1 ∷ 2 ∷ 0 ∷ []) = (refl, (refl, (refl, tt))) in
    record { walk = walk; turned = walks_turned nested 0 0 (1 ∷ 2 ∷ []) walk }

first_next : HasForwardNext nested nested_loops three_nodes 0
first_next = record { next = 1; leads = refl; forward = refl; inside = refl }

second_next : HasForwardNext nested nested_loops three_nodes 1
second_next = record { next = 2; leads = refl; forward = refl; inside = refl }

each_next : HasForwardNext nested nested_loops three_nodes 2 → (n : ℕ) → has three_nodes n ≡ true → HasForwardNext nested nested_loops three_nodes n
each_next last n i = elim (eqb_tells n 0) [
  | inl a ↦ subst (λ (k : ℕ). HasForwardNext nested nested_loops three_nodes k) (sym a.1) first_next
  | inr a ↦ elim (eqb_tells n 1) [
    | inl b ↦ subst (λ (k : ℕ). HasForwardNext nested nested_loops three_nodes k) (sym b.1) second_next
    | inr b ↦ elim (eqb_tells n 2) [
      | inl c ↦ subst (λ (k : ℕ). HasForwardNext nested nested_loops three_nodes k) (sym c.1) last
      | inr c ↦
          let none : has three_nodes n ≡ false =
          ap (λ (x : Bool). x || has (1 ∷ 2 ∷ []) n) a.0 ∙ (ap (λ (x : Bool). x || has (2 ∷ []) n) b.0 ∙ ap (λ (x : Bool). x || false) c.0) in
          let e : true ≡ false = sym i ∙ none in cc
    ]
  ]
]

pub last_end : LastNodeIsAnEnd
last_end = record {
  first = first_next;
  second = second_next;
  last = λ last. let e : true ≡ false = sets_end nested 0 nested_nest nested_is three_nodes (each_next last) 2 in cc;
}

pub last_forward : LastNodeIsReachedForward
last_forward =
    let walk : IsWalk nested 0 (1 ∷ 2 ∷ 1 ∷ 2 ∷ []) = (refl, (refl, (refl, (refl, tt)))) in
    record {
      walk = walk;
      back = λ f. let e : true ≡ false = f.1.1.0 in cc;
      forward = reached_forward nested 0 nested_loops nested_are_loops 2 (record { rest = 1 ∷ 2 ∷ 1 ∷ 2 ∷ []; walk = walk; ends = refl });
    }

pub inner_stay : InnerWalksStay
inner_stay =
    let walk : IsWalk (cut nested (0 ∷ [])) 2 (1 ∷ 2 ∷ 1 ∷ []) = (refl, (refl, (refl, tt))) in
    record {
      walk = walk;
      inside = walks_stay nested 0 nested_nest nested_is 1 2 (1 ∷ 2 ∷ []) refl refl walk;
      all = λ between w. walks_stay nested 0 nested_nest nested_is 1 2 between refl refl w;
    }

pub both_turn : BothHeadsHaveTurns
both_turn = record {
  outer = heads_turn nested 0 nested_nest nested_is reached 0 refl;
  inner = heads_turn nested 0 nested_nest nested_is reached 1 refl;
}

same_bodies : (h n : ℕ) → nested_loops.has h ≡ true → nested_loops.body h n ≡ other_loops.body h n
same_bodies zero n a = refl
same_bodies (suc zero) n a = refl
same_bodies (suc (suc h)) n a = cc

others_equal : AreEqual nested_loops other_loops
others_equal = record { has = λ h. refl; body = same_bodies }

pub other_loops_are : OtherLoopsAreLoops
other_loops_are = record { equal = others_equal; loops = equal_loops nested 0 nested_loops other_loops nested_are_loops others_equal }

pub through_three : ThroughAllThree
through_three = record {
  parts = spent_sums.append ones 0 (1 ∷ []) (2 ∷ []);
  spent = refl;
  whole = spent_sums.whole ones 0 (1 ∷ 2 ∷ []);
}

pub beginnings_less : BeginningsSpendLess
beginnings_less =
    let whole = nested_cost.attained in
    record {
      whole = whole;
      beginnings = λ one two e.
          prefixes_less nested 0 nested_loops nested_bound ones 14 one two nested_cost.most
          (subst (λ (rest : List ℕ). IsWalk nested 0 rest) (sym e) whole.walk)
          (subst (λ (rest : List ℕ). KeepsBounds nested_loops nested_bound (0 ∷ rest)) (sym e) whole.keeps);
    }
