-- What is contained and what is due, over states as functions.
use Rattle.std.proofs.Common.{◌≡◌, ℕ, ◌<◌, Bool, true, false, List, [], ◌∷◌, Option, Some, None, Ordering, IsSome, IsTrue, Contains, refl, sym, ap, ◌∙◌}
use Rattle.std.proofs.Common.{subst, arith}
use Rattle.flow_system.specs.Laws.{IsLawful}
use Rattle.flow_system.specs.Rules.{Rules}
use Rattle.flow_system.specs.State.{AllFit, ContainsPiece, ContainsAll, IsBelow, IsCovered, IsClosed, IsDue, AllDue, HoldsDue, IsDueGraph}
use Rattle.flow_core.specs.Core.{Joins}
use Rattle.flow_core.specs.Staged.{PiecesFit}
use Rattle.flow_core.proofs.QueueLemmas.{some_when, some_from_IsSome}

module _ {K V : Type 0} (cmp : K → K → Ordering) (m : Rules K V) (law : IsLawful cmp m) where
  -- a greater state contains a piece that a lesser one contains
  pub piece_onward : (s t : K → Option V) → AllFit m s → AllFit m t → IsBelow m s t → (k : K) (v : V) → IsTrue (m.fits k v) → ContainsPiece m s k v
      → ContainsPiece m t k v
  piece_onward s t fs ft below k v fv p =
      let q = below k p.fact p.found in
      record {
        fact = q.fact;
        found = q.found;
        above = law.order.onward k v p.fact q.fact fv (fs k p.fact p.found) (ft k q.fact q.found) p.above q.above;
      }

  -- a state is below itself
  pub below_itself : (s : K → Option V) → AllFit m s → IsBelow m s s
  below_itself s fs k v found = record { fact = v; found = found; above = law.order.same k v (fs k v found) }

  -- the order of states goes on from one to the next
  pub below_onward : (s t u : K → Option V) → AllFit m s → AllFit m t → AllFit m u → IsBelow m s t → IsBelow m t u → IsBelow m s u
  below_onward s t u fs ft fu st tu k v found = piece_onward t u ft fu tu k v (fs k v found) (st k v found)

  -- a greater state contains all that a lesser one contains
  pub all_onward : (s t : K → Option V) → AllFit m s → AllFit m t → IsBelow m s t → (pieces : List (K × V)) → PiecesFit m pieces → ContainsAll m s pieces
      → ContainsAll m t pieces
  all_onward s t fs ft below pieces fp has k v listed = piece_onward s t fs ft below k v (fp k v listed) (has k v listed)

  pub covered_contained : (t : K → Option V) → AllFit m t → (pieces others : List (K × V)) → PiecesFit m pieces → PiecesFit m others
      → IsCovered m pieces others → ContainsAll m t others → ContainsAll m t pieces
  covered_contained t ft pieces others fp fo covered has k v listed =
      let c = covered k v listed in
      let p = has k c.fact c.listed in
      record {
        fact = p.fact;
        found = p.found;
        above = law.order.onward k v c.fact p.fact (fp k v listed) (fo k c.fact c.listed) (ft k p.fact p.found) c.above p.above;
      }

  -- what a key gives over facts that fit fits
  pub gives_fit : (s : K → Option V) → AllFit m s → (j : K) → PiecesFit m (m.gives j s)
  gives_fit s fs j k v listed = law.fit.gives j s fs k v listed

  -- the start pieces fit
  pub starts_fit : PiecesFit m m.starts
  starts_fit = law.fit.starts

  -- what a key gives over due facts, its own among them, is due
  pub given_due : (s : K → Option V) → AllFit m s → HoldsDue m s → (j : K) → IsSome (s j) → AllDue m (m.gives j s)
  given_due s fs due j own k v listed t closed =
      let st : IsBelow m s t = λ q w found. due q w found t closed in
      let key : IsSome (t j) = some_from_IsSome (s j) own (λ w found. some_when (t j) (st j w found).fact (st j w found).found) in
      covered_contained t closed.fit (m.gives j s) (m.gives j t) (gives_fit s fs j) (gives_fit t closed.fit j) (law.monotone s t fs closed.fit st j)
      (closed.given j key) k v listed

  -- the start pieces are due
  pub starts_due : AllDue m m.starts
  starts_due k v listed t closed = closed.starts k v listed

  -- facts that are due, joined with due pieces, are due
  pub joins_due : (old new : K → Option V) (pieces : List (K × V)) → Joins m old pieces new → HoldsDue m old → AllDue m pieces → HoldsDue m new
  joins_due old new pieces joined due listed k v found t closed =
      joined.least t closed.fit (λ q w f. due q w f t closed) (λ q w l. listed q w l t closed) k v found

  -- states that agree on what a key reads are given the same by it
  pub same_gives : (s t : K → Option V) → AllFit m s → AllFit m t → (k : K) → ((r : K) → Contains (m.reads k) r → s r ≡ t r) → m.gives k s ≡ m.gives k t
  same_gives = law.looks.looks
