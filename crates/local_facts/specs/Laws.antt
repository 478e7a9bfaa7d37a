-- A restricted system has the laws that its system has.
use Rattle.std.proofs.Common.{◌≡◌, ◌≤◌, Bool, true, false, ◌&&◌, cond, List, [], ◌∷◌, length, Option, Some, Ordering, IsTrue, Contains, refl, sym, ap}
use Rattle.std.proofs.Common.{◌∙◌, arith, zero, suc}
use Rattle.std.specs.List.{filter}
use Rattle.std.specs.List.Sorted.{IsStrictlySortedBy-prop}
use Rattle.std.proofs.Props.{props}
use Rattle.flow_system.specs.Facts.{fact_at}
use Rattle.flow_system.specs.Rules.{Rules}
use Rattle.flow_system.specs.State.{AllFit, ContainsPiece, IsBelow, IsCovered}
use Rattle.flow_system.specs.Laws.{IsLawful}
use Rattle.local_facts.specs.Restricted.{is_listed, beside, kept_pieces, restricted, IsRestriction}

pub IsRestriction-prop : {K V : Type 0} (cmp : K → K → Ordering) (m : Rules K V) (starts : List (K × V)) (keep : List K) (fixed : List (K × V))
    → IsProp (IsRestriction cmp m starts keep fixed)
IsRestriction-prop cmp m starts keep fixed = hlevel (props, IsStrictlySortedBy-prop)

both_true : (b c : Bool) → (b && c) ≡ true → (b ≡ true) × (c ≡ true)
both_true true c h = (refl, h)
both_true false c h = absurd (cc)

pub true_both : (b c : Bool) → b ≡ true → c ≡ true → (b && c) ≡ true
true_both true c hb hc = hc
true_both false c hb hc = absurd (cc)

module _ {X : Type 0} (p : X → Bool) where
  -- what a filter keeps is in the list, and passes
  pub kept_listed : (xs : List X) (x : X) → Contains (filter p xs) x → Contains xs x × (p x ≡ true)
  kept_listed [] x h = absurd (omega (arith, h.1))
  kept_listed (y ∷ ys) x h = kept_cases (λ r. kept_listed ys x r) (p y) refl h
    where
      kept_cases : (Contains (filter p ys) x → Contains ys x × (p x ≡ true)) → (b : Bool) → p y ≡ b
          → Contains (cond b (y ∷ filter p ys) (filter p ys)) x → Contains (y ∷ ys) x × (p x ≡ true)
      kept_cases rest true t (zero, below, is) = ((zero, omega arith, is), ap p (sym is) ∙ t)
      kept_cases rest true t (suc i, below, is) =
          let r = rest (i, omega arith, is) in
          ((suc r.0.0, omega (arith, r.0.1), r.0.2), r.1)
      kept_cases rest false t h =
          let r = rest h in
          ((suc r.0.0, omega (arith, r.0.1), r.0.2), r.1)

  pub listed_kept : (xs : List X) (x : X) → Contains xs x → p x ≡ true → Contains (filter p xs) x
  listed_kept [] x h passes = absurd (omega (arith, h.1))
  listed_kept (y ∷ ys) x (zero, below, is) passes = here_cases (p y) refl
    where
      here_cases : (b : Bool) → p y ≡ b → Contains (cond b (y ∷ filter p ys) (filter p ys)) x
      here_cases true t = (zero, omega arith, is)
      here_cases false t = let e : p y ≡ p x = ap p is in absurd (cc)
  listed_kept (y ∷ ys) x (suc i, below, is) passes = there_cases (p y) (listed_kept ys x (i, omega arith, is) passes)
    where
      there_cases : (b : Bool) → Contains (filter p ys) x → Contains (cond b (y ∷ filter p ys) (filter p ys)) x
      there_cases true r = (suc r.0, omega (arith, r.1), r.2)
      there_cases false r = r

  pub filter_short : (xs : List X) → length (filter p xs) ≤ length xs
  filter_short [] = omega arith
  filter_short (y ∷ ys) = short_cases (p y) (filter_short ys)
    where
      short_cases : (b : Bool) → length (filter p ys) ≤ length ys → length (cond b (y ∷ filter p ys) (filter p ys)) ≤ length (y ∷ ys)
      short_cases true h = omega arith
      short_cases false h = omega arith

module _ {K V : Type 0} (cmp : K → K → Ordering) (m : Rules K V) (law : IsLawful cmp m) (starts : List (K × V)) (keep : List K)
    (fixed : List (K × V)) (sound : IsRestriction cmp m starts keep fixed) where
  -- what fits a kept key fits it in the whole system
  pub fits_whole : (k : K) (v : V) → IsTrue ((restricted cmp m starts keep fixed).fits k v) → IsTrue (m.fits k v)
  fits_whole k v h = (both_true (is_listed cmp keep k) (m.fits k v) h).1

  pub fits_kept : (k : K) (v : V) → IsTrue ((restricted cmp m starts keep fixed).fits k v) → is_listed cmp keep k ≡ true
  fits_kept k v h = (both_true (is_listed cmp keep k) (m.fits k v) h).0

  -- the state with the fixed facts beside it fits
  pub beside_fits : (s : K → Option V) → AllFit (restricted cmp m starts keep fixed) s → AllFit m (beside cmp keep fixed s)
  beside_fits s fs k v = fit_cases (is_listed cmp keep k)
    where
      fit_cases : (b : Bool) → cond b (s k) (fact_at cmp fixed k) ≡ Some v → IsTrue (m.fits k v)
      fit_cases true found = fits_whole k v (fs k v found)
      fit_cases false found = sound.fixed_fit k v found

  -- over a greater state there is no less beside the fixed facts
  pub beside_below : (s t : K → Option V) → IsBelow (restricted cmp m starts keep fixed) s t → IsBelow m (beside cmp keep fixed s) (beside cmp keep fixed t)
  beside_below s t below k v = below_cases (is_listed cmp keep k) refl
    where
      below_cases : (b : Bool) → is_listed cmp keep k ≡ b → cond b (s k) (fact_at cmp fixed k) ≡ Some v → ContainsPiece m (beside cmp keep fixed t) k v
      below_cases true e found =
          let p = below k v found in
          record { fact = p.fact; found = ap (λ b. cond b (t k) (fact_at cmp fixed k)) e ∙ p.found; above = p.above }
      below_cases false e found =
          record { fact = v; found = ap (λ b. cond b (t k) (fact_at cmp fixed k)) e ∙ found; above = law.order.same k v (sound.fixed_fit k v found) }

  pub beside_same : (s t : K → Option V) (k : K) → s k ≡ t k → beside cmp keep fixed s k ≡ beside cmp keep fixed t k
  beside_same s t k e = ap (λ x. cond (is_listed cmp keep k) x (fact_at cmp fixed k)) e

  -- the pieces of kept keys cover those of kept keys
  pub covered_kept : (pieces others : List (K × V)) → IsCovered m pieces others
      → IsCovered (restricted cmp m starts keep fixed) (kept_pieces cmp keep pieces) (kept_pieces cmp keep others)
  covered_kept pieces others covered k v listed =
      let r = kept_listed (λ (piece : K × V). is_listed cmp keep piece.0) pieces (k, v) listed in
      let c = covered k v r.0 in
      record { fact = c.fact; listed = listed_kept (λ (piece : K × V). is_listed cmp keep piece.0) others (k, c.fact) c.listed r.1; above = c.above }

  -- the laws of the restricted system
  pub restricted_lawful : IsLawful cmp (restricted cmp m starts keep fixed)
  restricted_lawful = record {
    keys = law.keys;
    fit = record {
      starts = λ k v listed. true_both (is_listed cmp keep k) (m.fits k v) (sound.starts_kept k v listed) (sound.starts_fit k v listed);
      gives = λ j s fs k v listed.
          let r = kept_listed (λ (piece : K × V). is_listed cmp keep piece.0) (m.gives j (beside cmp keep fixed s)) (k, v) listed in
          true_both (is_listed cmp keep k) (m.fits k v) r.1 (law.fit.gives j (beside cmp keep fixed s) (beside_fits s fs) k v r.0);
      join = λ k a b fa fb. true_both (is_listed cmp keep k) (m.fits k (m.join a b)) (fits_kept k a fa)
          (law.fit.join k a b (fits_whole k a fa) (fits_whole k b fb));
    };
    order = record {
      same = λ k a fa. law.order.same k a (fits_whole k a fa);
      onward = λ k a b c fa fb fc. law.order.onward k a b c (fits_whole k a fa) (fits_whole k b fb) (fits_whole k c fc);
      both = λ k a b fa fb. law.order.both k a b (fits_whole k a fa) (fits_whole k b fb);
    };
    least = record {
      first = λ k a b fa fb. law.least.first k a b (fits_whole k a fa) (fits_whole k b fb);
      second = λ k a b fa fb. law.least.second k a b (fits_whole k a fa) (fits_whole k b fb);
      least = λ k a b c fa fb fc. law.least.least k a b c (fits_whole k a fa) (fits_whole k b fb) (fits_whole k c fc);
    };
    monotone = λ s t fs ft below k. covered_kept (m.gives k (beside cmp keep fixed s)) (m.gives k (beside cmp keep fixed t))
        (law.monotone (beside cmp keep fixed s) (beside cmp keep fixed t) (beside_fits s fs) (beside_fits t ft) (beside_below s t below) k);
    looks = record {
      itself = law.looks.itself;
      looks = λ s t fs ft k same. ap (λ pieces. kept_pieces cmp keep pieces)
          (law.looks.looks (beside cmp keep fixed s) (beside cmp keep fixed t) (beside_fits s fs) (beside_fits t ft) k
          (λ j read. beside_same s t j (same j read)));
    };
    limits = record {
      rises = λ k a b fa fb. law.limits.rises k a b (fits_whole k a fa) (fits_whole k b fb);
      limit = λ k a fa. law.limits.limit k a (fits_whole k a fa);
      reads = law.limits.reads;
      gives = λ k s fs. omega (
        arith,
        filter_short (λ (piece : K × V). is_listed cmp keep piece.0)
            (m.gives k (beside cmp keep fixed s)),
        law.limits.gives k (beside cmp keep fixed s) (beside_fits s fs),
      );
      counted = λ k s h. ap (λ pieces. kept_pieces cmp keep pieces) (law.limits.counted k (beside cmp keep fixed s) h);
    };
  }
