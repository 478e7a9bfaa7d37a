-- The laws of a system, over facts that fit their keys.
use Rattle.std.specs.Prelude.{◌≡◌, ℕ, ◌<◌, ◌≤◌, Bool, true, false, List, [], length, Option, Some, IsTrue, Contains}
use Rattle.std.specs.declared.cmp.Ordering.{Ordering}
use Rattle.std.specs.Cmp.{IsTotalOrder}
use Rattle.std.specs.declared.cmp.Ordering.TheVariants.{Equal}
use Rattle.flow_system.specs.Rules.{Rules}
use Rattle.flow_system.specs.State.{AllFit, ContainsAll, IsBelow, IsCovered}

-- the keys have one order, which tells all of them apart
pub record OrdersKeys {K : Type 0} (cmp : K → K → Ordering) : Type 0 where
  pub total : IsTotalOrder cmp
  pub exact : (j k : K) → cmp j k ≡ Equal → j ≡ k

module _ {K V : Type 0} where
  -- what the system hands out fits its key
  pub record KeepsFit (m : Rules K V) : Type 0 where
    pub starts : (k : K) (v : V) → Contains m.starts (k, v) → IsTrue (m.fits k v)
    pub gives : (j : K) (s : K → Option V) → AllFit m s → (k : K) (v : V) → Contains (m.gives j s) (k, v) → IsTrue (m.fits k v)
    pub join : (k : K) (a b : V) → IsTrue (m.fits k a) → IsTrue (m.fits k b) → IsTrue (m.fits k (m.join a b))

  -- `at_most` is an order
  pub record OrdersFacts (m : Rules K V) : Type 0 where
    pub same : (k : K) (a : V) → IsTrue (m.fits k a) → IsTrue (m.at_most a a)
    pub onward : (k : K) (a b c : V) → IsTrue (m.fits k a) → IsTrue (m.fits k b) → IsTrue (m.fits k c) → IsTrue (m.at_most a b) → IsTrue (m.at_most b c)
        → IsTrue (m.at_most a c)
    pub both : (k : K) (a b : V) → IsTrue (m.fits k a) → IsTrue (m.fits k b) → IsTrue (m.at_most a b) → IsTrue (m.at_most b a) → a ≡ b

  -- `join` is the least fact that is at least both
  pub record JoinsLeast (m : Rules K V) : Type 0 where
    pub first : (k : K) (a b : V) → IsTrue (m.fits k a) → IsTrue (m.fits k b) → IsTrue (m.at_most a (m.join a b))
    pub second : (k : K) (a b : V) → IsTrue (m.fits k a) → IsTrue (m.fits k b) → IsTrue (m.at_most b (m.join a b))
    pub least : (k : K) (a b c : V) → IsTrue (m.fits k a) → IsTrue (m.fits k b) → IsTrue (m.fits k c) → IsTrue (m.at_most a c) → IsTrue (m.at_most b c)
        → IsTrue (m.at_most (m.join a b) c)

  -- over a greater state a key gives no less
  abbrev pub GivesMonotone : Rules K V → Type 0
  GivesMonotone m = (s t : K → Option V) → AllFit m s → AllFit m t → IsBelow m s t → (k : K) → IsCovered m (m.gives k s) (m.gives k t)

  -- `reads` names the key itself, and all that `gives` looks at
  pub record LooksAtReads (m : Rules K V) : Type 0 where
    pub itself : (k : K) → Contains (m.reads k) k
    pub looks : (s t : K → Option V) → AllFit m s → AllFit m t → (k : K) → ((j : K) → Contains (m.reads k) j → s j ≡ t j) → m.gives k s ≡ m.gives k t

  -- ranks rise with each strict step and have a limit, lists are short, and only a counted key gives anything
  pub record HasLimits (m : Rules K V) : Type 0 where
    pub rises : (k : K) (a b : V) → IsTrue (m.fits k a) → IsTrue (m.fits k b) → IsTrue (m.at_most a b) → m.at_most b a ≡ false → m.rank a < m.rank b
    pub limit : (k : K) (a : V) → IsTrue (m.fits k a) → m.rank a ≤ m.top
    pub reads : (k : K) → length (m.reads k) ≤ m.most
    pub gives : (k : K) (s : K → Option V) → AllFit m s → length (m.gives k s) ≤ m.most
    pub counted : (k : K) (s : K → Option V) → m.counted k ≡ false → m.gives k s ≡ []

  -- the laws of a system over keys in this order
  pub record IsLawful (cmp : K → K → Ordering) (m : Rules K V) : Type 0 where
    pub keys : OrdersKeys cmp
    pub fit : KeepsFit m
    pub order : OrdersFacts m
    pub least : JoinsLeast m
    pub monotone : GivesMonotone m
    pub looks : LooksAtReads m
    pub limits : HasLimits m

  -- both facts may stand at one key
  pub record FitOneKey (m : Rules K V) (a b : V) : Type 0 where
    pub key : K
    pub first : IsTrue (m.fits key a)
    pub second : IsTrue (m.fits key b)
