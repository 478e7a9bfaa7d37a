-- The nodes of a graph that match asserted loops.
use Rattle.std.proofs.Common.{◌≡◌, ◌==◌, ℕ, zero, suc, ◌+◌, ◌<◌, Bool, true, not, List, [], ◌∷◌, ◌++◌, length, map, Contains, inl, inr, sym, subst, ◌∙◌, arith}
use Rattle.std.proofs.lemmas.Bool.{and_parts, cases_lt, eq-eqb, eqb-true, false≢true, or_cases}
use Rattle.std.proofs.lemmas.List.Elements.{Contains-append_left, Contains-push, Contains-push_cases}
use Rattle.bt_base.specs.Graph.{has, is_edge}
use Rattle.graph_laws.proofs.Nests.{one_nest}
use Rattle.graph_laws.proofs.Scopes.{entries_no_nest}
use Rattle.graph_laws.specs.Nest.{AreSame, IsChain, Reaches, cut}
use Rattle.graph_laws.specs.Scope.{AreFirstEntries}
use Rattle.graph_laws.specs.Walk.{IsWalk}
use Rattle.graph_view.proofs.Numbered.{or_left, or_right}
use Rattle.loop_lines.proofs.Lists.{none_in}
use Rattle.loop_lines.specs.Matched.{AreBelow, AreMatching, head_of}
use Rattle.loop_nest.specs.LoopNest.{IsLoopNest, is_head}
use Rattle.loop_nest.specs.declared.natural_loop.Loop.{Loop}
use Rattle.path_bound.proofs.Facts.{edge_from}

-- heads by their list
pub head_listed : (loops : List Loop) (n : ℕ) → is_head loops n ≡ true → Contains (map head_of loops) n
head_listed [] n h = absurd (false≢true h)
head_listed (one ∷ loops) n h = elim (or_cases (n == one.head) (is_head loops n) h) [
  | inl here ↦ (0, omega arith, sym (eqb-true n one.head here))
  | inr later ↦ behind (head_listed loops n later)
]
  where
    behind : Contains (map head_of loops) n → Contains (one.head ∷ map head_of loops) n
    behind (k, low, is) = (suc k, omega (arith, low), is)

-- a listed number is a head
pub listed_head : (loops : List Loop) (n : ℕ) → Contains (map head_of loops) n → is_head loops n ≡ true
listed_head [] n has = absurd (none_in n has)
listed_head (one ∷ loops) n (zero, low, is) = or_left (n == one.head) (is_head loops n) (eq-eqb n one.head (sym is))
listed_head (one ∷ loops) n (suc k, low, is) = or_right (n == one.head) (is_head loops n) (listed_head loops n (k, omega (arith, low), is))

-- a node that leads to another has an edge
leaves : (edge : ℕ → ℕ → Bool) (heads : List ℕ) (n m : ℕ) (between : List ℕ) → IsWalk (cut edge heads) n (between ++ m ∷ []) → (k : ℕ) × (edge n k ≡ true)
leaves edge heads n m [] walk = (m, (and_parts (edge n m) (not (has heads m)) walk.0).0)
leaves edge heads n m (k ∷ between) walk = (k, (and_parts (edge n k) (not (has heads k)) walk.0).0)

module _ (graph : List (List ℕ)) (entry : ℕ) where
  abbrev edge : ℕ → ℕ → Bool
  edge = is_edge graph

  -- a head is a node of the graph
  head_within : (loops : List Loop) → IsLoopNest edge entry loops → (n : ℕ) → is_head loops n ≡ true → n < length graph
  head_within loops is n head =
      let chain : IsChain edge entry (n ∷ is.nest.outer n) = is.is.chain n (is.heads n ∙ head) in
      let round : Reaches (cut edge (is.nest.outer n)) n n = chain.2.entered.inside.there in
      let out = leaves edge (is.nest.outer n) n n round.between round.walk in
      edge_from graph n out.0 out.1

  -- the heads of a nest are those of every nest of the graph, and no part of this is entered at two nodes
  pub heads_match : (loops : List Loop) (nodes : List ℕ) → IsLoopNest edge entry loops → nodes ≡ map head_of loops → AreMatching graph entry nodes
  heads_match loops nodes is same = record {
    within = λ n has. head_within loops is n (listed_head loops n (subst (λ (l : List ℕ). Contains l n) same has));
    each = λ n low. (
      λ has. inl (record { loops = loops; nest = is; head = listed_head loops n (subst (λ (l : List ℕ). Contains l n) same has) }),
      λ matches. elim matches [
        | inl other ↦
            let one : AreSame other.nest.nest is.nest = one_nest edge entry other.nest.nest is.nest other.nest.is is.is in
            let head : is_head loops n ≡ true = sym (is.heads n) ∙ sym (one.has n) ∙ other.nest.heads n ∙ other.head in
            subst (λ (l : List ℕ). Contains l n) (sym same) (head_listed loops n head)
        | inr two ↦ absurd (entries_no_nest edge entry two.one two.two two.are is.nest is.is)
      ],
    );
  }

  -- where some part is entered at two nodes, all nodes match
  pub all_match : (x y : ℕ) (nodes : List ℕ) → AreFirstEntries edge entry x y → AreBelow (length graph) nodes → AreMatching graph entry nodes
  all_match x y nodes are all = record {
    within = λ n has. (all n).0 has;
    each = λ n low. (λ has. inr (record { one = x; two = y; are = are }), λ matches. (all n).1 low);
  }

-- the numbers below a number, one more
pub none_below : AreBelow 0 []
none_below n = (λ has. absurd (none_in n has), λ low. absurd (omega (arith, low)))

-- with the next number the numbers are those below the one after it
pub one_more_below : (count : ℕ) (nodes : List ℕ) → AreBelow count nodes → AreBelow (count + 1) (nodes ++ count ∷ [])
one_more_below count nodes all n = (
  λ has. elim (Contains-push_cases nodes count n has) [
    | inl before ↦ let low : n < count = (all n).0 before in omega (arith, low)
    | inr last ↦ omega (arith, last)
  ],
  λ low. elim (cases_lt n count) [
    | inl before ↦ Contains-append_left nodes (count ∷ []) n ((all n).1 before)
    | inr behind ↦
        let last : count ≡ n = omega (arith, low, behind) in
        subst (Contains (nodes ++ count ∷ [])) last (Contains-push nodes count)
  ],
)
