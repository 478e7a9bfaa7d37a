-- Copies of all facts are the same.
use Rattle.std.proofs.Common.{◌≡◌, ◌+◌, ◌<◌, ℕ, zero, suc, Bool, true, false, List, [], ◌∷◌, length, get_or, take, refl, sym, ap, subst, ◌∙◌, arith}
use Rattle.std.proofs.Common.{Option, Some, None, Result, Ok, Err, IfOk}
use Rattle.std.specs.Prelude.{is_some, if◌then◌else◌}
use Rattle.std.specs.Map.{keys_of}
use Rattle.std.proofs.lemmas.Bool.{false≢true}
use Rattle.abs_state.specs.Key.{compare}
use Rattle.abs_state.specs.declared.key.Key.{Key}
use Rattle.context_bounds.proofs.Shapes.{keys_order}
use Rattle.flow_core.proofs.WritingLemmas.{key_listed, listed_key}
use Rattle.flow_core.proofs.StagingLemmas.{copy_more}
use Rattle.flow_core.specs.Staged.{CopiesFact, IsCopy, over}
use Rattle.flow_system.specs.Facts.{fact_at}
use Rattle.flow_system.specs.Rules.{Rules}
use Rattle.local_facts.specs.Restricted.{IsLeastLocal}
use Rattle.transfer_fns.specs.Setting.{rules_over}
use Rattle.transfer_fns.specs.declared.system.SparcSystem.{SparcSystem}
use Rattle.transfer_rules.specs.Fact.{Piece}
use Rattle.transfer_rules.specs.Give.{Facts}
use Rattle.transfer_rules.specs.declared.fact.Fact.{Fact}

-- where neither is there, both are the same
none_both : (one two : Option Fact) → two ≡ None → (is_some one ≡ true → is_some two ≡ true) → one ≡ two
none_both None two none only = sym none
none_both (Some v) two none only = absurd (false≢true (sym (ap is_some none) ∙ only refl))

-- a copy at all keys of facts has the same fact at each key, or none
pub copied_whole : (facts copies : List Piece) → IsCopy compare facts (keys_of facts) copies → (k : Key) → fact_at compare copies k ≡ fact_at compare facts k
copied_whole facts copies is k = by (fact_at compare facts k) refl where
  by : (o : Option Fact) → fact_at compare facts k ≡ o → fact_at compare copies k ≡ fact_at compare facts k
  by (Some v) found = is.same k (key_listed compare keys_order facts k (ap is_some found))
  by None found =
      none_both (fact_at compare copies k) (fact_at compare facts k) found (λ there. listed_key compare keys_order facts k (is.only k there))

-- nothing is copied where nothing is there
pub none_copied : (b : Bool) (found old : Option Fact) → None ≡ found → old ≡ (if b then over found old else old)
none_copied true found old none = ap (λ (o : Option Fact). over o old) none
none_copied false found old none = refl

-- within a list it doesn't matter what stands beyond it
any_default : (ks : List Key) (i : ℕ) (d e : Key) → i < length ks → get_or ks i d ≡ get_or ks i e
any_default [] i d e low = absurd (omega (arith, low))
any_default (k ∷ ks) zero d e low = refl
any_default (k ∷ ks) (suc i) d e low = any_default ks i d e (omega (arith, low))

-- one key more is copied
pub copied_more : (facts : List Piece) (ks : List Key) (i : ℕ) (d : Key) (old new : List Piece) → i < length ks → IsCopy compare facts (take i ks) old
    → CopiesFact compare facts (get_or ks i d) old new → IsCopy compare facts (take (i + 1) ks) new
copied_more facts ks i d old new low before step =
    copy_more compare keys_order facts ks i (get_or ks i d) old new low (any_default ks i d (get_or ks i d) low) before step

-- what holds of a result where it is there
pub if_ok : {X E : Type 0} {P Q : X → Type 0} (r : Result X E) → IfOk r P → ((x : X) → P x → Q x) → IfOk r Q
if_ok (Ok x) is on = on x is
if_ok (Err e) is on = tt

-- the rules of the same system over the same thresholds are the same
pub same_rules : (t more : List ℕ) (one two : SparcSystem) → t ≡ more → one ≡ two
    → rules_over t one.image one.binding one.eight ≡ rules_over more two.image two.binding two.eight
same_rules t more one two over same = λ i. rules_over (over i) (same i).image (same i).binding (same i).eight

-- what is least over some rules is least over the same, and so are copies of it
pub least_copied : (rules others : Rules Key Fact) (starts : List Piece) (keep : List Key) (fixed closed given copies : List Piece)
    → rules ≡ others → given ≡ closed
    → ((k : Key) → fact_at compare copies k ≡ fact_at compare given k) → IsLeastLocal compare rules starts keep fixed (fact_at compare closed)
    → IsLeastLocal compare others starts keep fixed (fact_at compare copies)
least_copied rules others starts keep fixed closed given copies same is copied least =
    let one : (k : Key) → fact_at compare closed k ≡ fact_at compare copies k = λ k.
    sym (copied k ∙ ap (λ (ps : List Piece). fact_at compare ps k) is) in
    let all : fact_at compare closed ≡ fact_at compare copies = λ i k. one k i in
    subst (λ (s : Facts). IsLeastLocal compare others starts keep fixed s) all
    (subst (λ (r : Rules Key Fact). IsLeastLocal compare r starts keep fixed (fact_at compare closed)) same least)
