-- Each kind of step on a table of parts keeps its rule.
use Rattle.std.proofs.Common.{◌≡◌, ◌≢◌, ℕ, zero, suc, ◌+◌, ◌-◌, ◌<◌, ◌≤◌, ◌⊎◌, List, [], ◌∷◌, ◌++◌, map, length, replicate, set, get_or, sym, refl}
use Rattle.std.proofs.Common.{ap, ◌∙◌, subst, inl, inr, ⊎_elim, arith, length-set, get_or-set_same, get_or-set_other, Option, Some}
use Rattle.std.proofs.lemmas.List.Sums.{sum_by_push}
use mathlib.Core.Logic.{dite}
use mathlib.Core.Option.{some, none, some-injective, some-ne-none}
use mathlib.Core.Option as maybe
use native.Mathlib.Decide.{ℕ_discrete}
use lib.ListN.{get_elem?, length-map, length-replicate}
use Rattle.atomic_table.specs.Table.{opening}
use Rattle.atomic_table.proofs.Lists.{at_set, set_here, set_else, at_snoc}
use Rattle.shard_slots.specs.Hold.{times, hold, without}
use Rattle.shard_slots.specs.Table.{Table, IsHome, IsOut, IsKept, holders, weight_of}
use Rattle.shard_slots.specs.Step.{IsOpening, IsSplit, IsJoin, IsTake, IsPut, IsMiss, IsLoad}
use Rattle.shard_slots.specs.declared.hold.Hold.{Hold}
use Rattle.shard_slots.proofs.Counts.{same_here, same_else, times_without, sum_set, term_le}

ones : (n k : ℕ) → k < n → get_or (replicate {A = ℕ} n 1) k 0 ≡ 1
ones zero k near = absurd (omega arith)
ones (suc n) zero near = refl
ones (suc n) (suc k) near = ones n k (omega arith)

module _ {T : Type 0} where
  -- the table after a step on the word n by the seat id
  abbrev pub after : Table T → ℕ → ℕ → ℕ → maybe.Option (Option T) → Hold → Table T
  after s id n word slot seat = record { words = set s.words n word; homes = set s.homes n slot; views = set s.views id seat }

  holders_after : (s : Table T) (id k : ℕ) (v w : Hold) → get_elem? s.views id ≡ some v
      → holders k (set s.views id w) + times k v.held ≡ holders k s.views + times k w.held
  holders_after s id k v w at = sum_set (λ (seat : Hold). times k seat.held) s.views id v w at

  weights_after : (s : Table T) (id : ℕ) (v w : Hold) → get_elem? s.views id ≡ some v → weight_of (set s.views id w) + v.weight ≡ weight_of s.views + w.weight
  weights_after s id v w at = sum_set (λ (seat : Hold). seat.weight) s.views id v w at

  home_else : (s : Table T) (id n k word : ℕ) (slot : maybe.Option (Option T)) (v w : Hold) → get_elem? s.views id ≡ some v → k ≢ n
      → times k w.held ≡ times k v.held → IsHome s k → IsHome (after s id n word slot w) k
  home_else s id n k word slot v w at apart alike home = record {
    word = get_or-set_other s.words n k word 0 apart ∙ home.word;
    part = home.part;
    slot = set_else s.homes n k slot apart ∙ home.slot;
    unheld = omega (arith, holders_after s id k v w at, alike, home.unheld);
  }

  out_else : (s : Table T) (id n k word : ℕ) (slot : maybe.Option (Option T)) (v w : Hold) → get_elem? s.views id ≡ some v → k ≢ n
      → times k w.held ≡ times k v.held → IsOut s k → IsOut (after s id n word slot w) k
  out_else s id n k word slot v w at apart alike out = record {
    word = get_or-set_other s.words n k word 0 apart ∙ out.word;
    slot = set_else s.homes n k slot apart ∙ out.slot;
    held_once = omega (arith, holders_after s id k v w at, alike, out.held_once);
  }

  -- a step of one seat on one word, after which that part is home or out, keeps the rule
  pub changed : (s : Table T) (id n word : ℕ) (slot : maybe.Option (Option T)) (v w : Hold) → IsKept s → get_elem? s.views id ≡ some v
      → w.weight ≡ v.weight → 1 ≤ v.weight
      → ((k : ℕ) → k ≢ n → times k w.held ≡ times k v.held) → IsHome (after s id n word slot w) n ⊎ IsOut (after s id n word slot w) n
      → IsKept (after s id n word slot w)
  changed s id n word slot v w kept at weighs heavy alike here = record {
    words = length-set s.words n word ∙ kept.words ∙ sym (length-set s.homes n slot);
    parts = λ k near. dite (ℕ_discrete k n)
        (λ e. subst (λ (m : ℕ). IsHome (after s id n word slot w) m ⊎ IsOut (after s id n word slot w) m) (sym e) here)
        (λ apart. ⊎_elim (λ home. inl (home_else s id n k word slot v w at apart (alike k apart) home))
        (λ out. inr (out_else s id n k word slot v w at apart (alike k apart) out))
        (kept.parts k (subst (λ (m : ℕ). k < m) (length-set s.homes n slot) near)));
    weights = omega (arith, weights_after s id v w at, weighs, kept.weights);
    light = λ i seat is none. ⊎_elim (λ (x : (i ≡ id) × (w ≡ seat)). absurd (omega (arith, ap (λ (u : Hold). u.weight) x.1, none, weighs, heavy)))
        (λ (x : (i ≢ id) × (get_elem? s.views i ≡ some seat)). kept.light i seat x.1 none) (at_set s.views id i w seat is);
  }

  -- a take keeps the rule
  pub takes_keep : (id n : ℕ) (t u : Table T) → IsKept t → IsTake id n t u → IsKept u
  takes_keep id n t u kept take = subst IsKept (sym take.after)
      (changed t id n 0 none take.seat (hold take.seat.weight (n ∷ take.seat.held)) kept take.here refl take.heavy
      (λ k apart. omega (arith, same_else n k (λ e. apart (sym e))))
      (inr (⊎_elim (λ (home : IsHome t n). record {
        word = get_or-set_same t.words n 0 0 (omega (arith, kept.words, take.part));
        slot = set_here t.homes n none take.part;
        held_once = omega (arith, holders_after t id n take.seat (hold take.seat.weight (n ∷ take.seat.held)) take.here, home.unheld, same_here n n refl);
      }) (λ (out : IsOut t n). absurd (omega (arith, out.word, take.found))) (kept.parts n take.part))))

  -- a seat that holds a part weighs something
  pub weighs : (s : Table T) (id n : ℕ) (v : Hold) → IsKept s → get_elem? s.views id ≡ some v → 1 ≤ times n v.held → 1 ≤ v.weight
  weighs s id n v kept at held = dite (ℕ_discrete v.weight 0) (λ e. absurd (omega (arith, ap (times n) (kept.light id v at e), held))) (λ e. omega arith)

  -- a part that a seat holds is out
  pub held_is_out : (s : Table T) (id n : ℕ) (v : Hold) → IsKept s → get_elem? s.views id ≡ some v → n < length s.homes → 1 ≤ times n v.held → IsOut s n
  held_is_out s id n v kept at near held =
      ⊎_elim (λ (home : IsHome s n). absurd (omega (arith, home.unheld, held, term_le (λ (seat : Hold). times n seat.held) s.views id v at)))
      (λ out. out) (kept.parts n near)

  -- a put keeps the rule
  pub puts_keep : (id n : ℕ) (part : T) (t u : Table T) → IsKept t → IsPut id n part t u → IsKept u
  puts_keep id n part t u kept put = let out = held_is_out t id n put.seat kept put.here put.within put.held in
      subst IsKept (sym put.after) (changed t id n 1 (some (Some part)) put.seat (hold put.seat.weight (without n put.seat.held)) kept put.here refl
      (weighs t id n put.seat kept put.here put.held)
      (λ k apart. omega (arith, times_without n k put.seat.held put.held, same_else n k (λ e. apart (sym e))))
      (inl record {
        word = get_or-set_same t.words n 1 0 (omega (arith, kept.words, put.within));
        part = part;
        slot = set_here t.homes n (some (Some part)) put.within;
        unheld = omega (
          arith,
          holders_after t id n put.seat
              (hold put.seat.weight (without n put.seat.held)) put.here,
          out.held_once,
          times_without n n put.seat.held put.held,
          same_here n n refl,
        );
      }))

  -- views that change while each part has as many holders
  seats_keep : (t : Table T) (views : List Hold) → IsKept t → ((k : ℕ) → holders k views ≡ holders k t.views) → weight_of views ≡ 128
      → ((id : ℕ) (seat : Hold) → get_elem? views id ≡ some seat → seat.weight ≡ 0 → seat.held ≡ [])
      → IsKept record { words = t.words; homes = t.homes; views = views }
  seats_keep t views kept alike weights light = record {
    words = kept.words;
    parts = λ k near. ⊎_elim (λ (home : IsHome t k). inl record { word = home.word; part = home.part; slot = home.slot; unheld = alike k ∙ home.unheld })
        (λ (out : IsOut t k). inr record { word = out.word; slot = out.slot; held_once = alike k ∙ out.held_once }) (kept.parts k near);
    weights = weights;
    light = light;
  }

  -- a split keeps the rule
  pub splits_keep : (id : ℕ) (t u : Table T) → IsKept t → IsSplit id t u → IsKept u
  splits_keep id t u kept split = let left : Hold = hold (split.seat.weight - 1) split.seat.held in let vs : List Hold = set t.views id left in
      subst IsKept (sym split.after) (seats_keep t (vs ++ hold 1 [] ∷ []) kept
      (λ k. omega (arith, sum_by_push (λ (seat : Hold). times k seat.held) vs (hold 1 []), holders_after t id k split.seat left split.here))
      (omega (arith, sum_by_push (λ (seat : Hold). seat.weight) vs (hold 1 []), weights_after t id split.seat left split.here, split.heavy, kept.weights))
      (λ i seat is none. ⊎_elim (λ old. ⊎_elim (λ (x : (i ≡ id) × (left ≡ seat)). absurd (omega (arith, ap (λ (w : Hold). w.weight) x.1, none, split.heavy)))
      (λ (x : (i ≢ id) × (get_elem? t.views i ≡ some seat)). kept.light i seat x.1 none) (at_set t.views id i left seat old))
      (λ (new : hold 1 [] ≡ seat). absurd (omega (arith, ap (λ (w : Hold). w.weight) new, none))) (at_snoc vs (hold 1 []) seat i is)))

  -- a join keeps the rule
  pub joins_keep : (id other : ℕ) (t u : Table T) → IsKept t → IsJoin id other t u → IsKept u
  joins_keep id other t u kept join = let both : Hold = hold (join.seat.weight + join.joined.weight) join.seat.held in let vs : List Hold =
      set t.views id both in
      let there : get_elem? vs other ≡ some join.joined = set_else t.views id other both join.apart ∙ join.there in
      subst IsKept (sym join.after) (seats_keep t (set vs other (hold 0 [])) kept
      (λ k. omega (
        arith,
        sum_set (λ (seat : Hold). times k seat.held) vs other join.joined (hold 0 []) there,
        ap
            (times k) join.bare,
        holders_after t id k join.seat both join.here,
      ))
      (omega (arith, sum_set (λ (seat : Hold). seat.weight) vs other join.joined (hold 0 []) there, weights_after t id join.seat both join.here, kept.weights))
      (λ i seat is none. ⊎_elim (λ (x : (i ≡ other) × (hold 0 [] ≡ seat)). sym (ap (λ (w : Hold). w.held) x.1))
      (λ (x : (i ≢ other) × (get_elem? vs i ≡ some seat)). ⊎_elim
      (λ (y : (i ≡ id) × (both ≡ seat)). sym (ap (λ (w : Hold). w.held) y.1)
      ∙ kept.light id join.seat join.here (omega (arith, ap (λ (w : Hold). w.weight) y.1, none)))
      (λ (y : (i ≢ id) × (get_elem? t.views i ≡ some seat)). kept.light i seat y.1 none) (at_set t.views id i both seat x.1))
      (at_set vs other i (hold 0 []) seat is)))

  -- a miss keeps the rule
  pub misses_keep : (n : ℕ) (t u : Table T) → IsKept t → IsMiss n t u → IsKept u
  misses_keep n t u kept miss = subst IsKept (sym miss.after) kept

  -- a load keeps the rule
  pub loads_keep : (t u : Table T) → IsKept t → IsLoad t u → IsKept u
  loads_keep t u kept load = subst IsKept (sym load) kept

  some_part : (l : List T) (i : ℕ) → i < length l → (a : T) × (get_elem? (map some (map Some l)) i ≡ some (some (Some a)))
  some_part [] i near = absurd (omega arith)
  some_part (x ∷ xs) zero near = (x, refl)
  some_part (x ∷ xs) (suc i) near = some_part xs i (omega arith)

  -- the opening makes a table that keeps the rule
  pub opening_keeps : (parts : List T) (t : Table T) → IsOpening parts t → IsKept t
  opening_keeps parts t is = let wide : length (map some (map Some parts)) ≡ length parts = length-map (map Some parts) some ∙ length-map parts Some in
      subst IsKept (sym is) record {
        words = length-replicate (length parts) 1 ∙ sym wide;
        parts = λ k near. let there : k < length parts = subst (λ (m : ℕ). k < m) wide near in let part = some_part parts k there in
            inl record { word = ones (length parts) k there; part = part.0; slot = part.1; unheld = refl };
        weights = refl;
        light = λ i seat is none. ⊎_elim (λ (e : get_elem? [] i ≡ some seat). absurd (some-ne-none seat (sym e)))
            (λ (e : hold 128 [] ≡ seat). absurd (omega (arith, ap (λ (w : Hold). w.weight) e, none))) (at_snoc [] (hold 128 []) seat i is);
      }

  -- the table of parts that are shared
  pub opens : (parts : List T) (words : List ℕ) (slots : List (Option T)) (n : ℕ) → words ≡ replicate n 1 → n ≡ length parts → slots ≡ map Some parts
      → IsKept (opening words slots (hold 128 []))
  opens parts words slots n ones_are counts slots_are =
      opening_keeps parts _ (λ k. record {
        words = (ones_are ∙ ap (λ (m : ℕ). replicate m 1) counts) k;
        homes = map some (slots_are k);
        views = hold 128 [] ∷ [];
      })
