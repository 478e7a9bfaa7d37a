-- Of which kind facts are, and what it is to fit a key, in parts.
use Rattle.std.proofs.Common.{◌≡◌, ℕ, ◌&&◌, Bool, true, false, List, refl}
use Rattle.std.proofs.lemmas.Bool.{and_from, and_parts, false≢true}
use Rattle.abs_state.specs.declared.key.Key.{Key}
use Rattle.transfer_rules.specs.Fact.{Kind, OfState, OfArgs, OfEffects, OfMark, fits, is_fact_over, is_kind, kind_at, names_depths}
use Rattle.transfer_rules.specs.declared.fact.Fact.{Fact}
use Rattle.transfer_rules.specs.declared.fact.Fact.TheVariants.{State, Args, Sum, Mark}

-- both facts are of one kind
abbrev pub are_alike : Fact → Fact → Bool
are_alike (State s) (State u) = true
are_alike (Args list) (Args other) = true
are_alike (Sum a) (Sum b) = true
are_alike Mark Mark = true
are_alike _ _ = false

pub alike : (kind : Kind) (a b : Fact) → is_kind a kind ≡ true → is_kind b kind ≡ true → are_alike a b ≡ true
alike OfState (State s) (State u) one two = refl
alike OfState (State s) _ one two = absurd (false≢true two)
alike OfState _ b one two = absurd (false≢true one)
alike OfArgs (Args s) (Args u) one two = refl
alike OfArgs (Args s) _ one two = absurd (false≢true two)
alike OfArgs _ b one two = absurd (false≢true one)
alike OfEffects (Sum s) (Sum u) one two = refl
alike OfEffects (Sum s) _ one two = absurd (false≢true two)
alike OfEffects _ b one two = absurd (false≢true one)
alike OfMark Mark Mark one two = refl
alike OfMark Mark _ one two = absurd (false≢true two)
alike OfMark _ b one two = absurd (false≢true one)

-- a fact that fits a key, in parts
pub record IsFitting (t : List ℕ) (k : Key) (v : Fact) : Type 0 where
  pub kind : is_kind v (kind_at k) ≡ true
  pub depths : names_depths k ≡ true
  pub over : is_fact_over t v ≡ true

-- a fact that fits a key is of its kind, at depths below 2, and over the thresholds
pub fitting : (t : List ℕ) (k : Key) (v : Fact) → fits t k v ≡ true → IsFitting t k v
fitting t k v is =
    let first = and_parts (is_kind v (kind_at k)) (names_depths k && is_fact_over t v) is in
    let rest = and_parts (names_depths k) (is_fact_over t v) first.1 in
    record { kind = first.0; depths = rest.0; over = rest.1 }

-- such a fact fits the key
pub from_fitting : (t : List ℕ) (k : Key) (v : Fact) → IsFitting t k v → fits t k v ≡ true
from_fitting t k v is =
    and_from (is_kind v (kind_at k)) (names_depths k && is_fact_over t v) is.kind (and_from (names_depths k) (is_fact_over t v) is.depths is.over)

-- two facts that fit one key
pub fit_alike : (t : List ℕ) (k : Key) (a b : Fact) → fits t k a ≡ true → fits t k b ≡ true → are_alike a b ≡ true
fit_alike t k a b one two = alike (kind_at k) a b (fitting t k a one).kind (fitting t k b two).kind
