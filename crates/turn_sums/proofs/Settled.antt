-- Labels that are lowered round by round until all that is asked of them is met.
use Rattle.std.proofs.Common.{◌≡◌, ◌==◌, ◌&&◌, ◌⊎◌, ℕ, suc, ◌+◌, ◌*◌, ◌^◌, ◌<◌, ◌≤◌, inl, inr, Bool, true, false, not, cond, List, [], ◌∷◌}
use Rattle.std.proofs.Common.{◌++◌, length}
use Rattle.std.proofs.Common.{Option, Some, None, refl, sym, ap, subst, ◌∙◌, arith}
use Rattle.std.specs.Prelude.{min}
use Rattle.std.proofs.lemmas.Bool.{cases_lt, eq-eqb}
use Rattle.std.proofs.lemmas.Bool.Decides.{eqb_tells}
use Rattle.std.proofs.lemmas.List.{length-append}
use Rattle.bt_base.specs.Graph.{has}
use Rattle.graph_laws.specs.Walk.{IsWalk, passes, end_of}
use Rattle.graph_laws.specs.Counter.{Changes}
use Rattle.graph_laws.proofs.Walks.{passes-append, passes_here, passes_other, walk-append, walk_front, walk_back, end-append}
use Rattle.turn_sums.specs.Label.{label, least_of, lowered}
use Rattle.turn_sums.specs.Search.{sum_before, HasPath, AreFound, AreBalanced, IsLow, AreLower, IsAnswered, AreSettled, base}
use Rattle.turn_sums.proofs.Paths.{sum_before-append, sum_before-le, HasLast, last_of, IsShort, short_path}

some_is : {a b : ℕ} → ◌≡◌ {A = Option ℕ} (Some a) (Some b) → a ≡ b
some_is e = cc

-- labels only fall
lower_by : (o : Option ℕ) (sum v : ℕ) → o ≡ Some v → IsLow (least_of o sum) 0 v
lower_by None sum v e = cc
lower_by (Some old) sum v e = let s : old ≡ v = some_is e in record { value = min old sum; is = refl; low = omega (arith, s) }

lower_if : (b : Bool) (o : Option ℕ) (sum v : ℕ) → o ≡ Some v → IsLow (cond b (least_of o sum) o) 0 v
lower_if true o sum v e = lower_by o sum v e
lower_if false o sum v e = record { value = v; is = e; low = omega arith }

low_same : (o p : Option ℕ) (more most : ℕ) → o ≡ p → IsLow o more most → IsLow p more most
low_same o p more most e l = record { value = l.value; is = sym e ∙ l.is; low = l.low }

pub lowered_lower : (nodes : List ℕ) (head sum : ℕ) (old new : List (Option ℕ)) → ((n : ℕ) → label new n ≡ lowered nodes head sum n (label old n))
    → AreLower old new
lowered_lower nodes head sum old new h n v e =
    low_same (lowered nodes head sum n (label old n)) (label new n) 0 v (sym (h n)) (lower_if (has nodes n && not (n == head)) (label old n) sum v e)

pub same_lower : (old new : List (Option ℕ)) → ((n : ℕ) → label new n ≡ label old n) → AreLower old new
same_lower old new h n v e = record { value = v; is = h n ∙ e; low = omega arith }

-- lower labels go on from one list to the next
pub lower_trans : (old cur new : List (Option ℕ)) → AreLower old cur → AreLower cur new → AreLower old new
lower_trans old cur new a b n v e =
    let one : IsLow (label cur n) 0 v = a n v e in
    let two : IsLow (label new n) 0 one.value = b n one.value one.is in
    let l : one.value + 0 ≤ v = one.low in let m : two.value + 0 ≤ one.value = two.low in
    record { value = two.value; is = two.is; low = omega (arith, l, m) }

-- a label that is lowered to a sum is that sum at most
least_low : (o : Option ℕ) (sum : ℕ) → IsLow (least_of o sum) 0 sum
least_low None sum = record { value = sum; is = refl; low = omega arith }
least_low (Some old) sum = record { value = min old sum; is = refl; low = omega arith }

by_has : (in_row is_head : Bool) (o : Option ℕ) (sum : ℕ) → in_row ≡ true → is_head ≡ false → IsLow (cond (in_row && not is_head) (least_of o sum) o) 0 sum
by_has true false o sum a b = least_low o sum
by_has true true o sum a b = cc
by_has false is_head o sum a b = cc

sums_on : (sum behind up down ups downs ups_on downs_on : ℕ) → behind + down ≡ sum + up → sum + downs ≡ base + ups → ups_on ≡ ups + up → downs_on ≡ downs + down
    → behind + downs_on ≡ base + ups_on
sums_on sum behind up down ups downs ups_on downs_on a b c d = omega (arith, a, b, c, d)

chain : (two one down up downs ups downs_on ups_on : ℕ) → two + down ≤ one + up → one + downs ≤ base + ups → downs_on ≡ downs + down + 0 → ups_on ≡ ups + up + 0
    → two + downs_on ≤ base + ups_on
chain two one down up downs ups downs_on ups_on a b c d = omega (arith, a, b, c, d)

cut_sum : (low v up down ups downs ups_on downs_on ups_short downs_short : ℕ) → low + downs_short ≤ base + ups_short → v + downs ≡ base + ups
    → ups_on + downs_short ≡ ups_short + downs_on → ups_on ≡ ups + up → downs_on ≡ downs + down → low + down ≤ v + up
cut_sum low v up down ups downs ups_on downs_on ups_short downs_short a b c d e = omega (arith, a, b, c, d, e)

head_stays : (in_row is_head : Bool) (o : Option ℕ) (sum : ℕ) → is_head ≡ true → cond (in_row && not is_head) (least_of o sum) o ≡ o
head_stays true true o sum e = refl
head_stays true false o sum e = cc
head_stays false is_head o sum e = refl

module _ (edge : ℕ → ℕ → Bool) (head : ℕ) (changes : Changes) where
  -- a node whose successors are lowered has its answer
  pub lowered_answers : (nodes : List ℕ) (sum behind : ℕ) (old new : List (Option ℕ)) (n : ℕ) → ((m : ℕ) → edge n m ≡ true → has nodes m ≡ true)
      → label old n ≡ Some sum → behind + changes.down n ≡ sum + changes.up n → ((m : ℕ) → label new m ≡ lowered nodes head behind m (label old m))
      → IsAnswered edge head changes old new n
  lowered_answers nodes sum behind old new n rows e b h m v f leads other =
      let same : sum ≡ v = some_is (sym e ∙ f) in
      let low : IsLow (label new m) 0 behind = low_same (lowered nodes head behind m (label old m)) (label new m) 0 behind (sym (h m)) (by_has (has nodes m)
      (m == head) (label old m) behind (rows m leads) other) in
      let l : low.value + 0 ≤ behind = low.low in
      record { value = low.value; is = low.is; low = omega (arith, l, b, same) }

  pub none_answers : (old new : List (Option ℕ)) (n : ℕ) → label old n ≡ None → IsAnswered edge head changes old new n
  none_answers old new n e m v f leads other = cc

  -- an answer to later labels is one to earlier ones
  pub answered_by : (old cur new : List (Option ℕ)) (n : ℕ) → AreLower old cur → IsAnswered edge head changes cur new n → IsAnswered edge head changes old new n
  answered_by old cur new n low a m v e leads other =
      let one : IsLow (label cur n) 0 v = low n v e in
      let two : IsLow (label new m) (changes.down n) (one.value + changes.up n) = a m one.value one.is leads other in
      let l : one.value + 0 ≤ v = one.low in let k : two.value + changes.down n ≤ one.value + changes.up n = two.low in
      record { value = two.value; is = two.is; low = omega (arith, l, k) }

  -- an answer stays one as labels fall
  pub answered_later : (old cur new : List (Option ℕ)) (n : ℕ) → IsAnswered edge head changes old cur n → AreLower cur new
      → IsAnswered edge head changes old new n
  answered_later old cur new n a low m v e leads other =
      let one : IsLow (label cur m) (changes.down n) (v + changes.up n) = a m v e leads other in
      let two : IsLow (label new m) 0 one.value = low m one.value one.is in
      let l : one.value + changes.down n ≤ v + changes.up n = one.low in let k : two.value + 0 ≤ one.value = two.low in
      record { value = two.value; is = two.is; low = omega (arith, l, k) }

  -- an edge that doesn't lead to the head makes a longer path
  path_on : (n m sum behind : ℕ) → HasPath edge head changes n sum → edge n m ≡ true → (m == head) ≡ false → behind + changes.down n ≡ sum + changes.up n
      → HasPath edge head changes m behind
  path_on n m sum behind p leads other b =
      let ups : sum_before changes.up head (p.rest ++ m ∷ []) ≡ sum_before changes.up head p.rest + changes.up (end_of head p.rest) + 0 =
      sum_before-append changes.up head m p.rest [] in
      let downs : sum_before changes.down head (p.rest ++ m ∷ []) ≡ sum_before changes.down head p.rest + changes.down (end_of head p.rest) + 0 =
      sum_before-append changes.down head m p.rest [] in
      let up_is : changes.up (end_of head p.rest) ≡ changes.up n = ap changes.up p.ends in
      let down_is : changes.down (end_of head p.rest) ≡ changes.down n = ap changes.down p.ends in
      let is : sum + sum_before changes.down head p.rest ≡ base + sum_before changes.up head p.rest = p.is in
      let a : passes head (p.rest ++ m ∷ []) ≡ passes head p.rest + passes head (m ∷ []) = passes-append head p.rest (m ∷ []) in
      let o : passes head (m ∷ []) ≡ 0 = passes_other head m [] other in
      let none : passes head p.rest ≡ 0 = p.once in
      record {
        rest = p.rest ++ m ∷ [];
        walk = walk-append edge head p.rest (m ∷ []) p.walk (subst (λ (x : ℕ). IsWalk edge x (m ∷ [])) (sym p.ends) (leads, tt));
        ends = end-append head m p.rest [];
        once = omega (arith, a, o, none);
        is = sums_on sum behind (changes.up n) (changes.down n) (sum_before changes.up head p.rest) (sum_before changes.down head p.rest)
            (sum_before changes.up head (p.rest ++ m ∷ [])) (sum_before changes.down head (p.rest ++ m ∷ [])) b is
            (let x : sum_before changes.up head (p.rest ++ m ∷ []) ≡ sum_before changes.up head p.rest + changes.up n = omega (arith, ups, up_is) in x)
            (let x : sum_before changes.down head (p.rest ++ m ∷ []) ≡ sum_before changes.down head p.rest + changes.down n =
            omega (arith, downs, down_is) in x);
      }

  -- a lowered label is an old one or the sum itself
  least_is : (o : Option ℕ) (sum v : ℕ) → least_of o sum ≡ Some v → (o ≡ Some v) ⊎ (sum ≡ v)
  least_is None sum v e = inr (some_is e)
  least_is (Some old) sum v e = let m : min old sum ≡ v = some_is e in elim (cases_lt old sum) [
    | inl l ↦ inl (ap (λ (x : ℕ). Some x) (let s : old ≡ v = omega (arith, m, l) in s))
    | inr l ↦ inr (omega (arith, m, l))
  ]

  lowered_is : (in_row is_head : Bool) (o : Option ℕ) (sum v : ℕ) → cond (in_row && not is_head) (least_of o sum) o ≡ Some v
      → (o ≡ Some v) ⊎ ((in_row ≡ true) × (is_head ≡ false) × (sum ≡ v))
  lowered_is true true o sum v e = inl e
  lowered_is true false o sum v e = elim (least_is o sum v e) [ inl a ↦ inl a | inr a ↦ inr (refl, refl, a) ]
  lowered_is false is_head o sum v e = inl e

  -- labels that are lowered by what a node asks are found
  pub lowered_found : (nodes : List ℕ) (n sum behind : ℕ) (old new : List (Option ℕ)) → AreFound edge head changes old → ((m : ℕ) → has nodes m ≡ true
      → edge n m ≡ true)
      → label old n ≡ Some sum → behind + changes.down n ≡ sum + changes.up n → ((m : ℕ) → label new m ≡ lowered nodes head behind m (label old m))
      → AreFound edge head changes new
  lowered_found nodes n sum behind old new f rows e b h = record {
    head_label = h head ∙ (head_stays (has nodes head) (head == head) (label old head) behind (eq-eqb head head refl) ∙ f.head_label);
    paths = λ m v g. elim (lowered_is (has nodes m) (m == head) (label old m) behind v (sym (h m) ∙ g)) [
      | inl a ↦ f.paths m v a
      | inr a ↦ subst (HasPath edge head changes m) a.2 (path_on n m sum behind (f.paths n sum e) (rows m a.0) a.1 b)
    ];
  }

  -- labels that meet all that is asked bound the sums of all walks from the head
  pub low_along : (labels : List (Option ℕ)) → AreSettled edge head changes labels → (n v : ℕ) (rest : List ℕ) → label labels n ≡ Some v
      → IsWalk edge n rest → passes head rest ≡ 0
      → IsLow (label labels (end_of n rest)) (sum_before changes.down n rest) (v + sum_before changes.up n rest)
  low_along labels s n v [] e w p = record { value = v; is = e; low = omega arith }
  low_along labels s n v (m ∷ rest) e w p = elim (eqb_tells m head) [
    | inl a ↦ let here : passes head (m ∷ rest) ≡ 1 + passes head rest = passes_here head m rest a.1 in absurd (omega (arith, here, p))
    | inr a ↦
        let one : IsLow (label labels m) (changes.down n) (v + changes.up n) = s n m v e w.0 a.0 in
        let skip : passes head (m ∷ rest) ≡ passes head rest = passes_other head m rest a.0 in
        let two : IsLow (label labels (end_of m rest)) (sum_before changes.down m rest) (one.value + sum_before changes.up m rest) =
        low_along labels s m one.value rest one.is w.1 (sym skip ∙ p) in
        let l : one.value + changes.down n ≤ v + changes.up n = one.low in
        let k : two.value + sum_before changes.down m rest ≤ one.value + sum_before changes.up m rest = two.low in
        record { value = two.value; is = two.is; low = omega (arith, l, k) }
  ]

  -- labels bound the sums of all walks of at most so many steps
  abbrev pub CoversWalks : List (Option ℕ) → ℕ → Type 0
  CoversWalks labels steps = (rest : List ℕ) → IsWalk edge head rest → passes head rest ≡ 0 → length rest ≤ steps
      → IsLow (label labels (end_of head rest)) (sum_before changes.down head rest) (base + sum_before changes.up head rest)

  -- labels that are found cover the walks of no edge
  pub covers_none : (labels : List (Option ℕ)) → AreFound edge head changes labels → CoversWalks labels 0
  covers_none labels f [] w p l = record { value = base; is = f.head_label; low = omega arith }
  covers_none labels f (m ∷ rest) w p l = absurd (omega arith)

  covers_by : (old new : List (Option ℕ)) (steps : ℕ) → ((n : ℕ) → IsAnswered edge head changes old new n) → AreLower old new → CoversWalks old steps
      → (front : List ℕ) (m : ℕ) → IsWalk edge head (front ++ m ∷ []) → passes head (front ++ m ∷ []) ≡ 0 → length (front ++ m ∷ []) ≤ suc steps
      → IsLow (label new (end_of head (front ++ m ∷ []))) (sum_before changes.down head (front ++ m ∷ [])) (base + sum_before changes.up head (front ++ m ∷ []))
  covers_by old new steps answered low covers front m w p l =
      let size : length (front ++ m ∷ []) ≡ length front + length (m ∷ []) = length-append front (m ∷ []) in
      let a : passes head (front ++ m ∷ []) ≡ passes head front + passes head (m ∷ []) = passes-append head front (m ∷ []) in
      let one : IsLow (label old (end_of head front)) (sum_before changes.down head front) (base + sum_before changes.up head front) =
      covers front (walk_front edge head front (m ∷ []) w) (omega (arith, a, p)) (omega (arith, size, l)) in
      let leads = walk_back edge head front (m ∷ []) w in
      elim (eqb_tells m head) [
        | inl e ↦ let here : passes head (m ∷ []) ≡ 1 + passes head [] = passes_here head m [] e.1 in absurd (omega (arith, here, a, p))
        | inr e ↦
            let two : IsLow (label new m) (changes.down (end_of head front)) (one.value + changes.up (end_of head front)) =
            answered (end_of head front) m one.value one.is leads.0 e.0 in
            let ups : sum_before changes.up head (front ++ m ∷ []) ≡ sum_before changes.up head front + changes.up (end_of head front) + 0 =
            sum_before-append changes.up head m front [] in
            let downs : sum_before changes.down head (front ++ m ∷ []) ≡ sum_before changes.down head front + changes.down (end_of head front) + 0 =
            sum_before-append changes.down head m front [] in
            let k : one.value + sum_before changes.down head front ≤ base + sum_before changes.up head front = one.low in
            let j : two.value + changes.down (end_of head front) ≤ one.value + changes.up (end_of head front) = two.low in
            low_same (label new m) (label new (end_of head (front ++ m ∷ []))) (sum_before changes.down head (front ++ m ∷ [])) (base
            + sum_before changes.up head (front ++ m ∷ []))
            (ap (label new) (sym (end-append head m front [])))
            (record {
              value = two.value;
              is = two.is;
              low = chain two.value one.value (changes.down (end_of head front)) (changes.up (end_of head front))
                  (sum_before changes.down head front) (sum_before changes.up head front)
                  (sum_before changes.down head (front ++ m ∷ [])) (sum_before changes.up head (front ++ m ∷ [])) j k downs ups;
            })
      ]

  -- a round more
  pub covers_more : (old new : List (Option ℕ)) (steps : ℕ) → ((n : ℕ) → IsAnswered edge head changes old new n) → AreLower old new → CoversWalks old steps
      → CoversWalks new (steps + 1)
  covers_more old new steps answered low covers [] w p l =
      let one : IsLow (label old head) 0 (base + 0) = covers [] tt refl (omega arith) in
      let two : IsLow (label new head) 0 one.value = low head one.value one.is in
      let k : one.value + 0 ≤ base + 0 = one.low in let j : two.value + 0 ≤ one.value = two.low in
      record { value = two.value; is = two.is; low = omega (arith, k, j) }
  covers_more old new steps answered low covers (x ∷ rest) w p l =
      let s : HasLast (x ∷ rest) = last_of x rest in
      let P : List ℕ → Type 0 = λ z. IsLow (label new (end_of head z)) (sum_before changes.down head z) (base + sum_before changes.up head z) in
      subst P (sym s.is) (covers_by old new steps answered low covers s.front s.last (subst (IsWalk edge head) s.is w) (subst (λ (z : List ℕ). passes head z
      ≡ 0) s.is p)
      (let e : length (x ∷ rest) ≡ length (s.front ++ s.last ∷ []) = ap length s.is in omega (arith, e, l)))

  -- where a round has changed nothing, all that is asked is met
  pub settled_same : (old new : List (Option ℕ)) → ((n : ℕ) → IsAnswered edge head changes old new n) → ((n : ℕ) → label new n ≡ label old n)
      → AreSettled edge head changes new
  settled_same old new answered same n m v e leads other = answered n m v (sym (same n) ∙ e) leads other

  module _ (count : ℕ) (below : (n m : ℕ) → edge n m ≡ true → m < count) (balanced : AreBalanced edge head changes) where
    -- and where walks of as many steps as there are nodes are covered
    pub settled_covered : (labels : List (Option ℕ)) → AreFound edge head changes labels → CoversWalks labels count → AreSettled edge head changes labels
    settled_covered labels f covers n m v e leads other =
        let on : HasPath edge head changes n v = f.paths n v e in
        let a : passes head (on.rest ++ m ∷ []) ≡ passes head on.rest + passes head (m ∷ []) = passes-append head on.rest (m ∷ []) in
        let o : passes head (m ∷ []) ≡ 0 = passes_other head m [] other in
        let none : passes head on.rest ≡ 0 = on.once in
        let walk : IsWalk edge head (on.rest ++ m ∷ []) = walk-append edge head on.rest (m ∷ []) on.walk (subst (λ (x : ℕ). IsWalk edge x (m ∷ []))
        (sym on.ends) (leads, tt)) in
        let s : IsShort edge head changes count (on.rest ++ m ∷ []) = short_path edge head changes count below balanced (on.rest ++ m ∷ []) walk (omega
        (arith, a, o, none)) in
        let low : IsLow (label labels (end_of head s.path)) (sum_before changes.down head s.path) (base + sum_before changes.up head s.path) =
        covers s.path s.walk s.once s.short in
        let ups : sum_before changes.up head (on.rest ++ m ∷ []) ≡ sum_before changes.up head on.rest + changes.up (end_of head on.rest) + 0 =
        sum_before-append changes.up head m on.rest [] in
        let downs : sum_before changes.down head (on.rest ++ m ∷ []) ≡ sum_before changes.down head on.rest + changes.down (end_of head on.rest) + 0 =
        sum_before-append changes.down head m on.rest [] in
        let up_is : changes.up (end_of head on.rest) ≡ changes.up n = ap changes.up on.ends in
        let down_is : changes.down (end_of head on.rest) ≡ changes.down n = ap changes.down on.ends in
        let is : v + sum_before changes.down head on.rest ≡ base + sum_before changes.up head on.rest = on.is in
        let same : sum_before changes.up head (on.rest ++ m ∷ []) + sum_before changes.down head s.path ≡ sum_before changes.up head s.path
        + sum_before changes.down head (on.rest ++ m ∷ []) = s.same in
        let l : low.value + sum_before changes.down head s.path ≤ base + sum_before changes.up head s.path = low.low in
        low_same (label labels (end_of head s.path)) (label labels m) (changes.down n) (v + changes.up n) (ap (label labels)
        (s.ends ∙ end-append head m on.rest []))
        (record {
          value = low.value;
          is = low.is;
          low = cut_sum low.value v (changes.up n) (changes.down n) (sum_before changes.up head on.rest) (sum_before changes.down head on.rest)
              (sum_before changes.up head (on.rest ++ m ∷ []))
              (sum_before changes.down head (on.rest ++ m ∷ [])) (sum_before changes.up head s.path) (sum_before changes.down head s.path) l is same
              (let x : sum_before changes.up head (on.rest ++ m ∷ []) ≡ sum_before changes.up head on.rest + changes.up n = omega (arith, ups, up_is) in x)
              (let x : sum_before changes.down head (on.rest ++ m ∷ []) ≡ sum_before changes.down head on.rest + changes.down n =
              omega (arith, downs, down_is) in x);
        })

    -- labels are near the base
    pub near_base : (labels : List (Option ℕ)) → AreFound edge head changes labels → count < 2 ^ 32 → ((n : ℕ) → changes.up n < 2 ^ 32) → ((n : ℕ)
        → changes.down n < 2 ^ 32)
        → (n v : ℕ) → label labels n ≡ Some v → (v ≤ base + 2 ^ 64) × (base ≤ v + 2 ^ 64)
    near_base labels f few up_below down_below n v e =
        let on : HasPath edge head changes n v = f.paths n v e in
        let s : IsShort edge head changes count on.rest = short_path edge head changes count below balanced on.rest on.walk on.once in
        let ups : sum_before changes.up head s.path ≤ length s.path * 2 ^ 32 = sum_before-le changes.up up_below head s.path in
        let downs : sum_before changes.down head s.path ≤ length s.path * 2 ^ 32 = sum_before-le changes.down down_below head s.path in
        let same : sum_before changes.up head on.rest + sum_before changes.down head s.path ≡ sum_before changes.up head s.path
        + sum_before changes.down head on.rest = s.same in
        let is : v + sum_before changes.down head on.rest ≡ base + sum_before changes.up head on.rest = on.is in
        let short : length s.path ≤ count = s.short in
        (omega (arith, ups, downs, same, is, short, few), omega (arith, ups, downs, same, is, short, few))
