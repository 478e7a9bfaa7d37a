-- The events of a core, one relation between states for each, and their runs.
use Rattle.std.specs.Prelude.{◌≡◌, ℕ, Bool, true, false, List, [], ◌∷◌, ◌++◌, Option, Some, IsSome, IsTrue, is_some, if◌then◌else◌, Contains, ◌⊎◌}
use Rattle.std.specs.declared.cmp.Ordering.{Ordering}
use Rattle.flow_system.specs.Facts.{fact_at}
use Rattle.flow_system.specs.Rules.{Rules}
use Rattle.flow_core.specs.Claim.{ClaimState, AnswerState, IsClaimOf, IsAnswerOf, IsFresh}
use Rattle.flow_core.specs.Core.{CoreState, IsKey, IsPending, IsKept, IsUnchanged, Joins, has_grown, grown_count, strike}
use Rattle.flow_core.specs.Queue.{IsLeast, with_mark}

-- a take, a merge of an answer, or the giving back of a claim
pub data Event (K V : Type 0) : Type 0 where
  take : Event K V
  merge : AnswerState K V → Event K V
  give_back : ClaimState K V → Event K V

module _ {K V : Type 0} (cmp : K → K → Ordering) where
  -- the key is no longer pending, and a claim of it is out
  abbrev pub with_claim : CoreState K V → K → CoreState K V
  with_claim s k = record {
    facts = s.facts;
    marks = with_mark cmp s.marks k false;
    out = s.out ++ k ∷ [];
    readers = s.readers;
    count = s.count;
    limit = s.limit;
  }

  -- a claim of the key is out no longer
  abbrev pub struck : CoreState K V → K → CoreState K V
  struck s k = record {
    facts = s.facts;
    marks = s.marks;
    out = strike cmp s.out k;
    readers = s.readers;
    count = s.count;
    limit = s.limit;
  }

  -- a claim of the key is out no longer, and the key, where the facts have it, is pending
  abbrev pub without_claim : CoreState K V → K → CoreState K V
  without_claim s k = record {
    facts = s.facts;
    marks = (if is_some (fact_at cmp s.facts k) then with_mark cmp s.marks k true else s.marks);
    out = strike cmp s.out k;
    readers = s.readers;
    count = s.count;
    limit = s.limit;
  }

module _ {K V : Type 0} (cmp : K → K → Ordering) (m : Rules K V) where
  -- the least pending key goes out with copies of exactly the facts that it reads
  pub record Takes (old : CoreState K V) (claim : ClaimState K V) (new : CoreState K V) : Type 0 where
    pub least : IsLeast cmp old.marks claim.key
    pub copies : IsFresh cmp m old.facts claim
    pub read : (r : K) → IsSome (fact_at cmp claim.copies r) → Contains (m.reads claim.key) r
    pub state : new ≡ with_claim cmp old claim.key

  -- the key reads a fact that has grown
  pub record ReadsGrown (old new : CoreState K V) (k : K) : Type 0 where
    pub at : K
    pub read : Contains (m.reads k) at
    pub grown : IsTrue (has_grown m (fact_at cmp old.facts at) (fact_at cmp new.facts at))

  -- why a key is pending after a merge: it was, it reads what has grown, or its own answer was made from older facts
  pub data IsWoken (old : CoreState K V) (answer : AnswerState K V) (new : CoreState K V) (k : K) : Type 0 where
    still : IsPending cmp old k → IsWoken old answer new k
    reads : ReadsGrown old new k → IsWoken old answer new k
    stale : k ≡ answer.claim.key → (IsFresh cmp m old.facts answer.claim → ⊥) → IsWoken old answer new k

  -- the pieces are joined to the facts, n of which grow, the claim leaves the list, and exactly the keys that have to be looked at again are pending
  pub record Merges (old : CoreState K V) (answer : AnswerState K V) (new : CoreState K V) (n : ℕ) : Type 0 where
    pub joined : Joins m (fact_at cmp old.facts) answer.pieces (fact_at cmp new.facts)
    pub grown : n ≡ grown_count cmp m old.facts new.facts
    pub stays : (k : K) → IsPending cmp old k → IsPending cmp new k
    pub wakes : (k : K) → IsKey cmp new k → ReadsGrown old new k → IsPending cmp new k
    pub again : IsFresh cmp m old.facts answer.claim ⊎ (IsKey cmp new answer.claim.key → IsPending cmp new answer.claim.key)
    pub only : (k : K) → IsPending cmp new k → IsKey cmp new k × IsWoken old answer new k
    pub out : new.out ≡ strike cmp old.out answer.claim.key
    pub limit : new.limit ≡ old.limit
    pub kept : IsKept cmp m new

  -- what an event makes of a state; each may also be refused
  pub data Follows (event : Event K V) (old new : CoreState K V) : Type 0 where
    took : (claim : ClaimState K V) → event ≡ take → Takes old claim new → Follows event old new
    merged : (answer : AnswerState K V) (n : ℕ) → event ≡ merge answer → IsAnswerOf cmp m answer → Merges old answer new n → Follows event old new
    given_back : (claim : ClaimState K V) → event ≡ give_back claim → IsClaimOf cmp m claim → new ≡ without_claim cmp old claim.key → Follows event old new
    refused : IsUnchanged cmp m old new → Follows event old new

  -- the events, one after another, lead from one state to another
  abbrev pub IsRun : List (Event K V) → CoreState K V → CoreState K V → Type 0
  IsRun [] first last = last ≡ first
  IsRun (event ∷ events) first last = (next : CoreState K V) × Follows event first next × IsRun events next last
