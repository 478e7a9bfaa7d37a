-- The addresses of the calls inside call cycles.
use Rattle.std.proofs.Common.{◌≡◌, ◌≢◌, ◌↔◌, ℕ, zero, suc, ◌+◌, ◌<◌, ◌≤◌, ◌⊎◌, inl, inr, Bool, true, List, [], ◌∷◌, ◌++◌, length, get_or, set, map, replicate, take, Option, Some, None, is_some, Contains, Vec, Global, refl, sym, ap, ◌∙◌, subst, arith}
use Rattle.std.specs.Prelude.{IfSome}
use Rattle.std.specs.List.Sorted.{IsStrictlyIncreasing}
use Rattle.std.proofs.lemmas.Bool.{cases_lt, false≢true}
use Rattle.std.proofs.lemmas.Bool.Decides.{eqb_tells}
use Rattle.std.proofs.lemmas.List.{length-map, length-replicate, get_or-set_same, get_or-set_other, map-set}
use Rattle.bt_base.proofs.Rows.{row_at}
use Rattle.bt_base.specs.Graph.{is_edge, rows_of}
use Rattle.cyclic_parts.specs.Parts.{name_of, AreTogether, AreParts}
use Rattle.graph_laws.specs.Nest.{SamePart}
use Rattle.graph_laws.proofs.Nests.{part-sym, part-trans}
use Rattle.graph_view.proofs.CallGraphs.{one_at, part_is, part_to, part_at, first_of_more, last_of_more, more_is}
use Rattle.graph_view.proofs.Stands.{has_from, has_to, has_front, has_back, has_either}
use Rattle.graph_view.specs.CallGraph.{IsAt, IsCallGraph}
use Rattle.graph_view.specs.Cycles.{IsCycleCall, AreCycleCalls, IsInCycle, AreInside, AreInOne, IsInside, row_of, PutsCall, IsNamedCall, AreGathered, IsRisenAt, AreRisen, cycle_row}
use Rattle.graph_view.specs.Need.{calls_of, AreCallers}
use Rattle.graph_view.specs.Sites.{call_address}
use Rattle.graph_view.specs.declared.lists.Calling.{Calling}

pub some_is : (a b : ℕ) → Some a ≡ Some b → a ≡ b
some_is a b e = cc

pub none_some : (n : ℕ) → None ≡ Some n → ⊥
none_some n e = cc

-- the name of a listed subprogram
pub in_cycle : (subs : List ℕ) (names : List (Option ℕ)) (sub n : ℕ) → IsAt subs sub n → (o : Option ℕ) → name_of names n ≡ o → IfSome o (IsInCycle subs names sub)
in_cycle subs names sub n at None e = tt
in_cycle subs names sub n at (Some v) e = record { number = n; at = at; named = e }

pub name_is : (subs : List ℕ) (names : List (Option ℕ)) (sub n name : ℕ) → IsStrictlyIncreasing subs → IsAt subs sub n → IsInCycle subs names sub name → name_of names n ≡ Some name
name_is subs names sub n name rise at is = subst (λ k. name_of names k ≡ Some name) (one_at subs rise sub is.number n is.at at) is.named

-- rows of numbers

pub end_or_front : (xs : List ℕ) (y x : ℕ) → Contains (xs ++ y ∷ []) x → Contains xs x ⊎ (y ≡ x)
end_or_front xs y x h = elim (has_either xs (y ∷ []) x (has_from (xs ++ y ∷ []) x h)) [
  | inl front ↦ inl (has_to xs x front)
  | inr end ↦ elim end [ inl is ↦ inr is | inr none ↦ absurd none ]
]

pub in_front : (xs : List ℕ) (y x : ℕ) → Contains xs x → Contains (xs ++ y ∷ []) x
in_front xs y x h = has_to (xs ++ y ∷ []) x (has_front xs (y ∷ []) x (has_from xs x h))

pub at_end : (xs : List ℕ) (y : ℕ) → Contains (xs ++ y ∷ []) y
at_end xs y = has_to (xs ++ y ∷ []) y (has_back xs (y ∷ []) y (inl refl))

module _ (rows : List (List ℕ)) (row : ℕ) (numbers : List ℕ) (low : row < length rows) where
  pub set_at : row_of (set rows row numbers) row ≡ numbers
  set_at = get_or-set_same rows row numbers [] low

  pub set_off : (n : ℕ) → n ≢ row → row_of (set rows row numbers) n ≡ row_of rows n
  set_off n other = get_or-set_other rows row n numbers [] other

-- a call whose address is put into its row
module _ (subs : List ℕ) (names : List (Option ℕ)) (calling : Calling) (old new : List (List ℕ)) where
  pub puts_none : old ≡ new → ((name : ℕ) → IsInside subs names calling name → None ≡ Some name) → PutsCall subs names calling old new
  puts_none same never = record {
    has = λ name address h. inl (subst (λ g. Contains (row_of g name) address) (sym same) h);
    keeps = λ name address h. subst (λ g. Contains (row_of g name) address) same h;
    adds = λ name inside. absurd (none_some name (never name inside));
  }

  module _ (name : ℕ) (low : name < length old) (inside : IsInside subs names calling name) (one : (other : ℕ) → IsInside subs names calling other → Some name ≡ Some other)
      (is : new ≡ set old name (row_of old name ++ call_address calling ∷ [])) where
    at_row : row_of new name ≡ row_of old name ++ call_address calling ∷ []
    at_row = ap (λ g. row_of g name) is ∙ set_at old name (row_of old name ++ call_address calling ∷ []) low

    off_row : (n : ℕ) → n ≢ name → row_of new n ≡ row_of old n
    off_row n other = ap (λ g. row_of g n) is ∙ set_off old name (row_of old name ++ call_address calling ∷ []) low n other

    put_has : (n address : ℕ) → Contains (row_of new n) address → Contains (row_of old n) address ⊎ (IsInside subs names calling n × (address ≡ call_address calling))
    put_has n address h = elim (eqb_tells n name) [
      | inl here ↦
          subst (λ m. Contains (row_of old m) address ⊎ (IsInside subs names calling m × (address ≡ call_address calling))) (sym here.1)
          (elim (end_or_front (row_of old name) (call_address calling) address (subst (λ l. Contains l address) (ap (row_of new) here.1 ∙ at_row) h)) [
            | inl front ↦ inl front
            | inr end ↦ inr (inside, sym end)
          ])
      | inr other ↦ inl (subst (λ l. Contains l address) (off_row n other.1) h)
    ]

    put_keeps : (n address : ℕ) → Contains (row_of old n) address → Contains (row_of new n) address
    put_keeps n address h = elim (eqb_tells n name) [
      | inl here ↦
          subst (λ l. Contains l address) (sym (ap (row_of new) here.1 ∙ at_row))
          (in_front (row_of old name) (call_address calling) address (subst (λ m. Contains (row_of old m) address) here.1 h))
      | inr other ↦ subst (λ l. Contains l address) (sym (off_row n other.1)) h
    ]

    put_adds : (n : ℕ) → IsInside subs names calling n → Contains (row_of new n) (call_address calling)
    put_adds n there =
        subst (λ m. Contains (row_of new m) (call_address calling)) (some_is name n (one n there))
        (subst (λ l. Contains l (call_address calling)) (sym at_row) (at_end (row_of old name) (call_address calling)))

    pub puts_one : PutsCall subs names calling old new
    puts_one = record { has = put_has; keeps = put_keeps; adds = put_adds }

-- the calls gone through, one more
pub gathered_none : (subs : List ℕ) (names : List (Option ℕ)) (rows : List (List ℕ)) → ((n : ℕ) → row_of rows n ≡ []) → AreGathered subs names [] rows
gathered_none subs names rows empty = record {
  has = λ name address h. let t : Contains [] address = subst (λ l. Contains l address) (empty name) h in absurd (omega (arith, t.1));
  all = λ name address call. absurd (omega (arith, call.among.1));
}

pub gathered_more : (subs : List ℕ) (names : List (Option ℕ)) (callings : List Calling) (i : ℕ) (d : Calling) (old new : List (List ℕ)) → i < length callings
    → AreGathered subs names (take i callings) old → PutsCall subs names (get_or callings i d) old new → AreGathered subs names (take (i + 1) callings) new
gathered_more subs names callings i d old new less gathered puts = record {
  has = λ name address h. elim (puts.has name address h) [
    | inl before ↦
        let call : IsNamedCall subs names (take i callings) name address = gathered.has name address before in
        record { calling = call.calling; among = first_of_more callings i d call.calling less call.among; inside = call.inside; is = call.is }
    | inr added ↦ record { calling = get_or callings i d; among = last_of_more callings i d less; inside = added.0; is = added.1 }
  ];
  all = λ name address call. elim (more_is callings i d call.calling less call.among) [
    | inl front ↦ puts.keeps name address (gathered.all name address (record { calling = call.calling; among = front; inside = call.inside; is = call.is }))
    | inr end ↦
        subst (λ a. Contains (row_of new name) a) (ap call_address end ∙ sym call.is)
        (puts.adds name (subst (λ c. IsInside subs names c name) (sym end) call.inside))
  ];
}

-- rows that are put in order
module _ (rows : List (Vec ℕ Global)) (row : ℕ) (v w : Vec ℕ Global) (low : row < length rows) (at : v ≡ get_or rows row v) where
  rows_after : rows_of (set rows row w) ≡ set (rows_of rows) row w.items
  rows_after = map-set (λ (x : Vec ℕ Global). x.items) rows row w

  low_rows : row < length (rows_of rows)
  low_rows = let size : length (rows_of rows) ≡ length rows = length-map rows (λ (x : Vec ℕ Global). x.items) in omega (arith, size, low)

  pub pushed_at : (numbers : List ℕ) → w.items ≡ v.items ++ numbers → rows_of (set rows row w) ≡ set (rows_of rows) row (row_of (rows_of rows) row ++ numbers)
  pushed_at numbers is = rows_after ∙ ap (set (rows_of rows) row) (is ∙ ap (λ l. l ++ numbers) (sym (row_at rows row v low at)))

  new_at : row_of (rows_of (set rows row w)) row ≡ w.items
  new_at = ap (λ g. row_of g row) rows_after ∙ set_at (rows_of rows) row w.items low_rows

  pub risen_at : IsStrictlyIncreasing w.items → ((k : ℕ) → Contains v.items k → Contains w.items k) → ((k : ℕ) → Contains w.items k → Contains v.items k)
      → IsRisenAt (rows_of rows) row (rows_of (set rows row w))
  risen_at rising keeps adds_none = record {
    rising = subst IsStrictlyIncreasing (sym new_at) rising;
    keeps = λ k h. subst (λ l. Contains l k) (sym new_at) (keeps k (subst (λ l. Contains l k) (row_at rows row v low at) h));
    adds_none = λ k h. subst (λ l. Contains l k) (sym (row_at rows row v low at)) (adds_none k (subst (λ l. Contains l k) new_at h));
    others = λ n other. ap (λ g. row_of g n) rows_after ∙ set_off (rows_of rows) row w.items low_rows n other;
  }

pub risen_none : (rows : List (List ℕ)) → AreRisen rows 0 rows
risen_none rows = record { rising = λ n less. absurd (omega (arith, less)); keeps = λ n k h. h; adds_none = λ n k h. h }

pub risen_more : (first old new : List (List ℕ)) (row : ℕ) → AreRisen first row old → IsRisenAt old row new → AreRisen first (row + 1) new
risen_more first old new row before now = record {
  rising = λ n less. elim (eqb_tells n row) [
    | inl here ↦ subst (λ m. IsStrictlyIncreasing (row_of new m)) (sym here.1) now.rising
    | inr other ↦
        let apart : n ≡ row → ⊥ = other.1 in
        subst IsStrictlyIncreasing (sym (now.others n other.1)) (before.rising n (elim (cases_lt n row) [
          | inl below ↦ below
          | inr above ↦ let e : n ≡ row = omega (arith, less, above) in absurd (apart e)
        ]))
  ];
  keeps = λ n k h. elim (eqb_tells n row) [
    | inl here ↦ subst (λ m. Contains (row_of new m) k) (sym here.1) (now.keeps k (subst (λ m. Contains (row_of old m) k) here.1 (before.keeps n k h)))
    | inr other ↦ subst (λ l. Contains l k) (sym (now.others n other.1)) (before.keeps n k h)
  ];
  adds_none = λ n k h. elim (eqb_tells n row) [
    | inl here ↦ before.adds_none n k (subst (λ m. Contains (row_of old m) k) (sym here.1) (now.adds_none k (subst (λ m. Contains (row_of new m) k) here.1 h)))
    | inr other ↦ before.adds_none n k (subst (λ l. Contains l k) (now.others n other.1) h)
  ];
}

-- the row of a subprogram's cycle has the calls inside it
module _ (subs : List ℕ) (callings : List Calling) (graph : List (List ℕ)) (names : List (Option ℕ)) (rows risen : List (List ℕ)) (callers : AreCallers callings subs) (is : IsCallGraph subs callings graph)
    (parts : AreParts (is_edge graph) (length graph) names) (gathered : AreGathered subs names callings rows) (count : ℕ) (rises : AreRisen rows count risen) (counted : length subs ≤ count)
    (n : ℕ) (low : n < length subs) where
  abbrev here : ℕ
  here = get_or subs n 0

  low_node : n < length graph
  low_node = omega (arith, low, is.count)

  none_inside : name_of names n ≡ None → (address : ℕ) → IsCycleCall callings here address → ⊥
  none_inside none address call =
      let itself : SamePart (calls_of callings) here here =
      part-trans (calls_of callings) here call.calling.from.sub here call.caller (part-sym (calls_of callings) here call.calling.from.sub call.caller) in
      let at : IsAt subs here n = record { within = low; is = refl } in
      let both : AreTogether (name_of names) n n = parts.all n n low_node (part_to subs callings graph callers is here here n n at at itself) in
      none_some both.name (sym none ∙ both.one)

  module _ (name : ℕ) (named : name_of names n ≡ Some name) where
    abbrev edges : ℕ → ℕ → Bool
    edges = is_edge graph

    from_cycle : (sub : ℕ) → IsInCycle subs names sub name → SamePart (calls_of callings) here sub
    from_cycle sub at =
        subst (SamePart (calls_of callings) here) at.at.is
        (part_is subs callings graph callers is n at.number
        (part-trans edges n name at.number (part-sym edges name n (parts.named n name named)) (parts.named at.number name at.named)))

    to_cycle : (sub : ℕ) → SamePart (calls_of callings) here sub → IsInCycle subs names sub name
    to_cycle sub same =
        let m : (m : ℕ) × IsAt subs sub m = part_at subs callings graph callers is here sub same in
        let both : AreTogether (name_of names) n m.0 =
        parts.all n m.0 low_node (part_to subs callings graph callers is here sub n m.0 (record { within = low; is = refl }) m.1 same) in
        record { number = m.0; at = m.1; named = both.other ∙ sym both.one ∙ named }

    inside_calls : AreCycleCalls callings here (row_of risen name)
    inside_calls = record {
      rising = rises.rising name (let w : name < length graph = parts.within n name named in omega (arith, w, is.count, counted));
      has = λ address h.
          let call : IsNamedCall subs names callings name address = gathered.has name address (rises.adds_none name address h) in
          record {
            calling = call.calling;
            among = call.among;
            caller = from_cycle call.calling.from.sub call.inside.caller;
            callee = from_cycle call.calling.callee call.inside.callee;
            is = call.is;
          };
      all = λ address call.
          rises.keeps name address (gathered.all name address (record {
            calling = call.calling;
            among = call.among;
            inside = record { caller = to_cycle call.calling.from.sub call.caller; callee = to_cycle call.calling.callee call.callee };
            is = call.is;
          }));
    }

  by_name : (o : Option ℕ) → name_of names n ≡ o → AreCycleCalls callings here (cycle_row risen o)
  by_name None none = record {
    rising = λ k less. absurd (omega (arith, less));
    has = λ address h. absurd (omega (arith, h.1));
    all = λ address call. absurd (none_inside none address call);
  }
  by_name (Some name) named = inside_calls name named

  pub cycles_are : AreCycleCalls callings here (cycle_row risen (name_of names n))
  cycles_are = by_name (name_of names n) refl

-- rows that are all empty

abbrev no_row : List ℕ
no_row = []

pub empty_count : (rows : List (Vec ℕ Global)) (count : ℕ) → rows_of rows ≡ replicate count [] → length rows ≡ count
empty_count rows count is =
    sym (length-map rows (λ (x : Vec ℕ Global). x.items)) ∙ (ap (λ (l : List (List ℕ)). length l) is ∙ length-replicate count no_row)

pub empty_at : (rows : List (List ℕ)) (count : ℕ) → rows ≡ replicate count [] → (n : ℕ) → row_of rows n ≡ []
empty_at rows count is n = ap (λ (l : List (List ℕ)). row_of l n) is ∙ none count n
  where
    none : (count n : ℕ) → row_of (replicate count []) n ≡ []
    none zero n = refl
    none (suc count) zero = refl
    none (suc count) (suc n) = none count n

pub rows_low : (rows : List (Vec ℕ Global)) (n : ℕ) → n < length rows → n < length (rows_of rows)
rows_low rows n low = let size : length (rows_of rows) ≡ length rows = length-map rows (λ (x : Vec ℕ Global). x.items) in omega (arith, size, low)

pub risen_up : (first rows : List (List ℕ)) (count fewer : ℕ) → fewer ≤ count → AreRisen first count rows → AreRisen first fewer rows
risen_up first rows count fewer less risen = record { rising = λ n low. risen.rising n (omega (arith, low, less)); keeps = risen.keeps; adds_none = risen.adds_none }

-- exactly those that lead to each other are in one cycle
module _ (subs : List ℕ) (callings : List Calling) (graph : List (List ℕ)) (names : List (Option ℕ)) (callers : AreCallers callings subs) (is : IsCallGraph subs callings graph)
    (parts : AreParts (is_edge graph) (length graph) names) (one other : ℕ) where
  led_together : AreInOne subs names one other → SamePart (calls_of callings) one other
  led_together both =
      let n : ℕ = both.inside.caller.number in
      let m : ℕ = both.inside.callee.number in
      subst (λ x. SamePart (calls_of callings) x other) both.inside.caller.at.is
      (subst (SamePart (calls_of callings) (get_or subs n 0)) both.inside.callee.at.is
      (part_is subs callings graph callers is n m
      (part-trans (is_edge graph) n both.name m (part-sym (is_edge graph) both.name n (parts.named n both.name both.inside.caller.named))
      (parts.named m both.name both.inside.callee.named))))

  in_one : SamePart (calls_of callings) one other → AreInOne subs names one other
  in_one same =
      let m : (m : ℕ) × IsAt subs other m = part_at subs callings graph callers is one other same in
      let n : (n : ℕ) × IsAt subs one n = part_at subs callings graph callers is other one (part-sym (calls_of callings) one other same) in
      let low : n.0 < length graph = omega (arith, n.1.within, is.count) in
      let both : AreTogether (name_of names) n.0 m.0 = parts.all n.0 m.0 low (part_to subs callings graph callers is one other n.0 m.0 n.1 m.1 same) in
      record {
        name = both.name;
        inside = record { caller = record { number = n.0; at = n.1; named = both.one }; callee = record { number = m.0; at = m.1; named = both.other } };
      }

  pub cycles_are_one : AreInOne subs names one other ↔ SamePart (calls_of callings) one other
  cycles_are_one = (led_together, in_one)

-- a name that two are found to share tells whether they are in one cycle
pub name_tells : (subs : List ℕ) (names : List (Option ℕ)) (one other : ℕ) (o : Option ℕ) → IfSome o (AreInside subs names one other)
    → ((name : ℕ) → AreInside subs names one other name → o ≡ Some name) → (is_some o ≡ true) ↔ AreInOne subs names one other
name_tells subs names one other None is all = (λ e. absurd (false≢true e), λ both. absurd (none_some both.name (all both.name both.inside)))
name_tells subs names one other (Some n) is all = (λ e. record { name = n; inside = is }, λ both. refl)
