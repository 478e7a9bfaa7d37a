-- All program points of a context are reached from its entry.
use Rattle.std.proofs.Common.{◌≡◌, ◌==◌, ◌&&◌, ◌||◌, ◌⊎◌, ℕ, zero, suc, ◌+◌, ◌<◌, Bool, true, false, List, [], ◌∷◌, ◌++◌, length, get_or, Contains}
use Rattle.std.proofs.Common.{inl, inr, refl, sym, ap, subst, ◌∙◌, arith, zero-add}
use Rattle.std.specs.Prelude.{is_some}
use Rattle.std.specs.Ordering.{is_eq}
use Rattle.std.proofs.lemmas.Bool.{and_from, and_parts, cases_lt, eq-eqb, eqb-true, false≢true, or_cases}
use Rattle.std.proofs.lemmas.Bool.Decides.{eqb_tells}
use Rattle.std.proofs.lemmas.Cmp.{tied_itself}
use Rattle.abs_state.proofs.KeyLemmas.{keys_are_ordered}
use Rattle.abs_state.specs.Key.{compare}
use Rattle.abs_state.specs.declared.key.Key.TheVariants as key
use Rattle.abs_state.specs.declared.key.Place.{Place}
use Rattle.bt_base.specs.Graph.{is_edge}
use Rattle.context_bounds.proofs.Kept.{equal_from_is_eq}
use Rattle.context_bounds.proofs.Marks.{contexts_stand, marks_are_all}
use Rattle.context_bounds.specs.Laws.{AreMarks, ContextsAreReached}
use Rattle.context_outcomes.specs.Inside.{Shape}
use Rattle.graph_laws.proofs.Nests.{reach-trans, step_reaches}
use Rattle.graph_laws.proofs.Walks.{end-append}
use Rattle.graph_laws.specs.Nest.{IsReached, Reaches}
use Rattle.graph_view.proofs.Numbered.{one_number, or_left, or_right}
use Rattle.graph_view.specs.Numbers.{IsNumber}
use Rattle.transfer_rules.specs.Give.{Facts, entry_of}

-- whether edges lead from a node to another, with none between them but nodes below a number
abbrev leads : (ℕ → ℕ → Bool) → ℕ → ℕ → ℕ → Bool
leads edge zero a b = edge a b
leads edge (suc k) a b = leads edge k a b || (leads edge k a k && leads edge k k b)

-- what leads there reaches
leads_reach : (edge : ℕ → ℕ → Bool) (k a b : ℕ) → leads edge k a b ≡ true → Reaches edge a b
leads_reach edge zero a b is = step_reaches edge a b is
leads_reach edge (suc k) a b is = elim (or_cases (leads edge k a b) (leads edge k a k && leads edge k k b) is) [
  | inl one ↦ leads_reach edge k a b one
  | inr two ↦
      let both = and_parts (leads edge k a k) (leads edge k k b) two in
      reach-trans edge a k b (leads_reach edge k a k both.0) (leads_reach edge k k b both.1)
]

-- an edge leads there
edge_leads : (edge : ℕ → ℕ → Bool) (k a b : ℕ) → edge a b ≡ true → leads edge k a b ≡ true
edge_leads edge zero a b is = is
edge_leads edge (suc k) a b is = or_left (leads edge k a b) (leads edge k a k && leads edge k k b) (edge_leads edge k a b is)

module _ (edge : ℕ → ℕ → Bool) (k : ℕ) where
  -- to the last of the nodes it needs no passing of it
  to_last : (a : ℕ) → leads edge (suc k) a k ≡ true → leads edge k a k ≡ true
  to_last a is = elim (or_cases (leads edge k a k) (leads edge k a k && leads edge k k k) is) [
    | inl one ↦ one
    | inr two ↦ (and_parts (leads edge k a k) (leads edge k k k) two).0
  ]

  -- nor from it
  from_last : (b : ℕ) → leads edge (suc k) k b ≡ true → leads edge k k b ≡ true
  from_last b is = elim (or_cases (leads edge k k b) (leads edge k k k && leads edge k k b) is) [
    | inl one ↦ one
    | inr two ↦ (and_parts (leads edge k k k) (leads edge k k b) two).1
  ]

  -- through the last node
  through : (a b : ℕ) → leads edge k a k ≡ true → leads edge k k b ≡ true → leads edge (suc k) a b ≡ true
  through a b one two = or_right (leads edge k a b) (leads edge k a k && leads edge k k b) (and_from (leads edge k a k) (leads edge k k b) one two)

  module _ (a b d : ℕ) (on : (a b d : ℕ) → b < k → leads edge k a b ≡ true → leads edge k b d ≡ true → leads edge k a d ≡ true) (low : b < k) where
    both_ways : (leads edge k a b ≡ true) ⊎ ((leads edge k a k && leads edge k k b) ≡ true)
        → (leads edge k b d ≡ true) ⊎ ((leads edge k b k && leads edge k k d) ≡ true)
        → leads edge (suc k) a d ≡ true
    both_ways (inl one) (inl two) = or_left (leads edge k a d) (leads edge k a k && leads edge k k d) (on a b d low one two)
    both_ways (inl one) (inr two) =
        let both = and_parts (leads edge k b k) (leads edge k k d) two in
        through a d (on a b k low one both.0) both.1
    both_ways (inr one) (inl two) =
        let both = and_parts (leads edge k a k) (leads edge k k b) one in
        through a d both.0 (on k b d low both.1 two)
    both_ways (inr one) (inr two) = through a d (and_parts (leads edge k a k) (leads edge k k b) one).0 (and_parts (leads edge k b k) (leads edge k k d) two).1

-- one more edge leads on
leads_on : (edge : ℕ → ℕ → Bool) (k a b d : ℕ) → b < k → leads edge k a b ≡ true → leads edge k b d ≡ true → leads edge k a d ≡ true
leads_on edge zero a b d low one two = absurd (omega (arith, low))
leads_on edge (suc k) a b d low one two = elim (eqb_tells b k) [
  | inl same ↦
      through edge k a d (to_last edge k a (subst (λ (n : ℕ). leads edge (suc k) a n ≡ true) same.1 one))
      (from_last edge k d (subst (λ (n : ℕ). leads edge (suc k) n d ≡ true) same.1 two))
  | inr apart ↦
      let below : b < k = lower b k low apart.1 in
      both_ways edge k a b d (leads_on edge k) below (or_cases (leads edge k a b) (leads edge k a k && leads edge k k b) one)
      (or_cases (leads edge k b d) (leads edge k b k && leads edge k k d) two)
]
  where
    lower : (b k : ℕ) → b < suc k → (b ≡ k → ⊥) → b < k
    lower b k low apart = elim (cases_lt b k) [
      | inl below ↦ below
      | inr above ↦ absurd (apart (omega (arith, low, above)))
    ]

-- the nodes that are the entry or are led to from it
abbrev is_led : (ℕ → ℕ → Bool) → ℕ → ℕ → ℕ → Bool
is_led edge many entry n = (n == entry) || leads edge many entry n

-- and so from an entry
led_on : (edge : ℕ → ℕ → Bool) (many entry n m : ℕ) → n < many → is_led edge many entry n ≡ true → edge n m ≡ true → is_led edge many entry m ≡ true
led_on edge many entry n m low led is =
    or_right (m == entry) (leads edge many entry m)
    (elim (or_cases (n == entry) (leads edge many entry n) led) [
      | inl same ↦ subst (λ (k : ℕ). leads edge many k m ≡ true) (eqb-true n entry same) (edge_leads edge many n m is)
      | inr behind ↦ leads_on edge many entry n m low behind (edge_leads edge many n m is)
    ])

-- what is led to from an entry is reached
led_is_reached : (edge : ℕ → ℕ → Bool) (many entry n : ℕ) → is_led edge many entry n ≡ true → IsReached edge entry n
led_is_reached edge many entry n led = elim (or_cases (n == entry) (leads edge many entry n) led) [
  | inl same ↦ record { rest = []; walk = tt; ends = sym (eqb-true n entry same) }
  | inr behind ↦
      let by : Reaches edge entry n = leads_reach edge many entry n behind in
      record { rest = by.between ++ n ∷ []; walk = by.walk; ends = end-append entry n by.between [] }
]

-- a program point among those of a list has a test's mark by its number, where these are counted from one on
abbrev is_marked : (ℕ → Bool) → ℕ → List Place → Place → Bool
is_marked test n [] p = false
is_marked test n (q ∷ nodes) p = (is_eq (compare (key.Node q) (key.Node p)) && test n) || is_marked test (suc n) nodes p

-- program points are one where their keys are
node_key : (p q : Place) → key.Node p ≡ key.Node q → p ≡ q
node_key p q same = cc

-- and where these compare equal
same_place : (p q : Place) → is_eq (compare (key.Node q) (key.Node p)) ≡ true → q ≡ p
same_place p q is = node_key q p (keys_are_ordered.exact (key.Node q) (key.Node p) (equal_from_is_eq (compare (key.Node q) (key.Node p)) is))

-- one program point compares equal
same_test : (p q : Place) → q ≡ p → is_eq (compare (key.Node q) (key.Node p)) ≡ true
same_test p q is =
    ap (λ (r : Place). is_eq (compare (key.Node r) (key.Node p))) is ∙ ap is_eq (tied_itself keys_are_ordered.total (key.Node p))

-- a program point whose number passes has a mark
marked_from : (test : ℕ → Bool) (n : ℕ) (nodes : List Place) (p : Place) (i : ℕ) → i < length nodes → get_or nodes i p ≡ p → test (n + i) ≡ true
    → is_marked test n nodes p ≡ true
marked_from test n [] p i low at is = absurd (omega (arith, low))
marked_from test n (q ∷ nodes) p zero low at is =
    or_left (is_eq (compare (key.Node q) (key.Node p)) && test n) (is_marked test (suc n) nodes p)
    (and_from (is_eq (compare (key.Node q) (key.Node p))) (test n) (same_test p q at)
    (let same : n + 0 ≡ n = omega arith in subst (λ (k : ℕ). test k ≡ true) same is))
marked_from test n (q ∷ nodes) p (suc i) low at is =
    or_right (is_eq (compare (key.Node q) (key.Node p)) && test n) (is_marked test (suc n) nodes p)
    (marked_from test (suc n) nodes p i (omega (arith, low)) at
    (let same : n + suc i ≡ suc n + i = omega arith in subst (λ (k : ℕ). test k ≡ true) same is))

-- the number of a program point that has a mark
record HasMark (test : ℕ → Bool) (n : ℕ) (nodes : List Place) (p : Place) : Type 0 where
  number : ℕ
  within : number < length nodes
  at : get_or nodes number p ≡ p
  passes : test (n + number) ≡ true

-- and one with a mark has such a number
mark_of : (test : ℕ → Bool) (n : ℕ) (nodes : List Place) (p : Place) → is_marked test n nodes p ≡ true → HasMark test n nodes p
mark_of test n [] p is = absurd (false≢true is)
mark_of test n (q ∷ nodes) p is = elim (or_cases (is_eq (compare (key.Node q) (key.Node p)) && test n) (is_marked test (suc n) nodes p) is) [
  | inl here ↦
      let both = and_parts (is_eq (compare (key.Node q) (key.Node p))) (test n) here in
      record {
        number = 0;
        within = omega arith;
        at = same_place p q both.0;
        passes = let same : n ≡ n + 0 = omega arith in subst (λ (k : ℕ). test k ≡ true) same both.1;
      }
  | inr later ↦
      let rest : HasMark test (suc n) nodes p = mark_of test (suc n) nodes p later in
      record {
        number = suc rest.number;
        within = let low : rest.number < length nodes = rest.within in omega (arith, low);
        at = rest.at;
        passes = let same : suc n + rest.number ≡ n + suc rest.number = omega arith in subst (λ (k : ℕ). test k ≡ true) same rest.passes;
      }
]

-- within a list no default matters
any_default : (nodes : List Place) (n : ℕ) (d e : Place) → n < length nodes → get_or nodes n d ≡ get_or nodes n e
any_default [] n d e low = absurd (omega (arith, low))
any_default (p ∷ nodes) zero d e low = refl
any_default (p ∷ nodes) (suc n) d e low = any_default nodes n d e (omega (arith, low))

-- a program point that stands at a number has it
pub numbered : (nodes : List Place) (p : Place) (n : ℕ) → n < length nodes → get_or nodes n p ≡ p → IsNumber nodes p n
numbered nodes p n low at = record { within = low; is = λ d. any_default nodes n d p low ∙ at }

-- Facts with the ends of their steps, of which marks that begin at the entry and follow steps have all program points: each of
-- these is reached.
module _ (s : Facts) (sub : ℕ) (ends : (p q : Place) → is_some (s (key.Edge p q)) ≡ true → is_some (s (key.Node q)) ≡ true)
    (all : (mark : Place → Bool) → AreMarks s sub mark → (p : Place) → is_some (s (key.Node p)) ≡ true → mark p ≡ true)
    (shape : Shape s sub) where
  -- whether the entry leads to a node
  abbrev test : ℕ → Bool
  test n = is_led (is_edge shape.graph) (length shape.nodes) shape.entry n

  -- whether it leads to a program point
  abbrev mark : Place → Bool
  mark p = is_marked test 0 shape.nodes p

  -- a program point has the mark where its number passes
  marked_at : (p : Place) (n : ℕ) → IsNumber shape.nodes p n → test n ≡ true → mark p ≡ true
  marked_at p n number is = marked_from test 0 shape.nodes p n number.within (number.is p) (subst (λ (k : ℕ). test k ≡ true) (sym (zero-add n)) is)

  -- and its number passes where it has
  passing : (p : Place) (found : HasMark test 0 shape.nodes p) → test found.number ≡ true
  passing p found = subst (λ (k : ℕ). test k ≡ true) (zero-add found.number) found.passes

  -- the marks begin at the entry and follow steps
  marks : AreMarks s sub mark
  marks = record { entry = begun; onward = onward } where
    begun : mark (entry_of sub) ≡ true
    begun =
        marked_at (entry_of sub) shape.entry shape.begins
        (or_left (shape.entry == shape.entry) (leads (is_edge shape.graph) (length shape.nodes) shape.entry shape.entry) (eq-eqb shape.entry shape.entry refl))

    onward : (p q : Place) → mark p ≡ true → is_some (s (key.Edge p q)) ≡ true → mark q ≡ true
    onward p q marked there =
        let tail : HasMark test 0 shape.nodes p = mark_of test 0 shape.nodes p marked in
        let found : Contains shape.nodes q = (shape.points.each q).1 (ends p q there) in
        let number : IsNumber shape.nodes q found.0 = numbered shape.nodes q found.0 found.1 found.2 in
        let edge : is_edge shape.graph tail.number found.0 ≡ true =
        (shape.steps.edges tail.number found.0).1
        (record { from = p; to = q; tail = numbered shape.nodes p tail.number tail.within tail.at; head = number; there = there }) in
        marked_at q found.0 number
        (led_on (is_edge shape.graph) (length shape.nodes) shape.entry tail.number found.0 tail.within (passing p tail) edge)

  -- so each node is reached
  pub marks_reach : (n : ℕ) → n < length shape.nodes → IsReached (is_edge shape.graph) shape.entry n
  marks_reach n low =
      let p : Place = get_or shape.nodes n (entry_of sub) in
      let number : IsNumber shape.nodes p n = record { within = low; is = λ d. any_default shape.nodes n d (entry_of sub) low } in
      let there : is_some (s (key.Node p)) ≡ true = (shape.points.each p).0 (n, low, number.is p) in
      let marked = all mark marks p there in
      let found : HasMark test 0 shape.nodes p = mark_of test 0 shape.nodes p marked in
      let same : found.number ≡ n =
      one_number shape.nodes shape.points.rising p found.number n (numbered shape.nodes p found.number found.within found.at) number in
      led_is_reached (is_edge shape.graph) (length shape.nodes) shape.entry n (subst (λ (k : ℕ). test k ≡ true) same (passing p found))

-- each program point of a context is reached
pub contexts_are_reached : ContextsAreReached
contexts_are_reached t more f g m x sub args keep fixed s lawful closed entry kept restricts least shape =
    marks_reach s sub ends
    (λ mark marks p there. marks_are_all t more f g m x sub args keep fixed s mark lawful closed entry kept restricts least marks p there) shape
  where
    ends : (p q : Place) → is_some (s (key.Edge p q)) ≡ true → is_some (s (key.Node q)) ≡ true
    ends p q there =
        let stand = contexts_stand t more f g m x sub args keep fixed s lawful closed entry kept restricts least (key.Edge p q) there in
        let both = and_parts (is_some (s (key.Node p))) (is_some (s (key.Node q)) && (p.sub == q.sub)) stand in
        (and_parts (is_some (s (key.Node q))) (p.sub == q.sub) both.1).0
