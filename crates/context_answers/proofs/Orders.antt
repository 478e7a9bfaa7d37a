-- The order of reasons tells all of them apart, so that those that are put in order stand each once.
use Rattle.std.proofs.Common.{◌≡◌, ℕ, Bool, true, false, List, [], Ordering, refl, sym, ap, ◌∙◌}
use Rattle.std.specs.Cmp.{IsEquivalence, IsTotalOrder}
use Rattle.std.specs.List.{dedup}
use Rattle.std.specs.List.Sorted.{IsPermutation, IsSorted}
use Rattle.std.specs.List.Retain.{DiffersFromLast, IsFiltered}
use Rattle.std.specs.Ordering.{is_eq, nat_cmp, ordering_then}
use Rattle.std.specs.declared.cmp.Ordering.TheVariants.{Less, Equal, Greater}
use Rattle.std.proofs.lemmas.Bool.{false≢true}
use Rattle.std.proofs.lemmas.List.Filters.{dedup_is}
use Rattle.std.proofs.lemmas.List.Kept.{Contains-dedup, Contains-from_dedup, IsStrictlySortedBy-dedup}
use Rattle.std.proofs.lemmas.List.Sorted.{Contains-permutation, IsPermutation-sym}
use Rattle.abs_state.proofs.KeyLemmas.{keys_are_ordered}
use Rattle.abs_state.specs.declared.key.Key.TheVariants.{Node, Summary}
use Rattle.abs_state.specs.declared.key.Place.{Place}
use Rattle.context_answers.specs.Adding.{IsPutInOrder}
use Rattle.context_outcomes.specs.Outcomes.{reason_cmp}
use Rattle.graph_view.specs.Numbers.{place_cmp}
use Rattle.wcet_report.specs.contracts.reason.ReasonEq.TheImpl as reason_equiv
use Rattle.wcet_report.specs.contracts.reason.ReasonOrd.TheImpl as reason_ord
use Rattle.wcet_report.specs.contracts.reason.ReasonPartialEq.TheImpl as reason_same
use Rattle.wcet_report.specs.declared.reason.Reason.{Reason}
use Rattle.wcet_report.specs.declared.reason.Reason.TheVariants as reason

-- whether two reasons are one
abbrev pub is_same : Reason → Reason → Bool
is_same = (reason_same.ghosts).eq

total : IsTotalOrder reason_cmp
total = reason_ord.Laws.total-law

ties : (a b : Reason) → is_same a b ≡ is_eq (reason_cmp a b)
ties = reason_ord.Laws.matches_eq-law

alike : IsEquivalence is_same
alike = reason_equiv.Laws.laws-law

equal_from : (o : Ordering) → is_eq o ≡ true → o ≡ Equal
equal_from Less e = absurd (false≢true e)
equal_from Equal e = refl
equal_from Greater e = absurd (false≢true e)

node_key : (p q : Place) → Node p ≡ Node q → p ≡ q
node_key p q same = cc

place_exact : (p q : Place) → place_cmp p q ≡ Equal → p ≡ q
place_exact p q tie = node_key p q (keys_are_ordered.exact (Node p) (Node q) tie)

summary_key : (a b : ℕ) → Summary a ≡ Summary b → a ≡ b
summary_key a b same = cc

nat_exact : (a b : ℕ) → nat_cmp a b ≡ Equal → a ≡ b
nat_exact a b tie = summary_key a b (keys_are_ordered.exact (Summary a) (Summary b) tie)

both : (a b : Ordering) → ordering_then a b ≡ Equal → (a ≡ Equal) × (b ≡ Equal)
both Less b e = absurd (false≢true (ap is_eq e))
both Equal b e = (refl, e)
both Greater b e = absurd (false≢true (ap is_eq e))

off : (a b : Reason) → reason_cmp a b ≡ Equal → is_eq (reason_cmp a b) ≡ false → a ≡ b
off a b e f = absurd (false≢true (sym f ∙ ap is_eq e))

-- reasons that tie are one
exact : (a b : Reason) → reason_cmp a b ≡ Equal → a ≡ b
exact (reason.Jump a) (reason.Jump b) e = ap (λ (n : ℕ). reason.Jump n) (nat_exact a b e)
exact (reason.Call a) (reason.Call b) e = ap (λ (n : ℕ). reason.Call n) (nat_exact a b e)
exact (reason.Instr a) (reason.Instr b) e = ap (λ (n : ℕ). reason.Instr n) (nat_exact a b e)
exact (reason.Loop p) (reason.Loop q) e = ap (λ (r : Place). reason.Loop r) (place_exact p q e)
exact (reason.Irreducible p q) (reason.Irreducible r s) e =
    let h = both _ _ e in let a = place_exact p r h.0 in let b = place_exact q s h.1 in λ i. reason.Irreducible (a i) (b i)
exact (reason.Callee a b) (reason.Callee c d) e =
    let h = both _ _ e in let x = nat_exact a c h.0 in let y = nat_exact b d h.1 in λ i. reason.Callee (x i) (y i)
exact (reason.Recursion a) (reason.Recursion b) e = ap (λ (n : ℕ). reason.Recursion n) (nat_exact a b e)
exact (reason.Windows a) (reason.Windows b) e = ap (λ (n : ℕ). reason.Windows n) (nat_exact a b e)
exact (reason.TooLarge p) (reason.TooLarge q) e = ap (λ (r : Place). reason.TooLarge r) (place_exact p q e)
exact a b e = off a b e refl

same_exact : (a b : Reason) → is_same a b ≡ true → a ≡ b
same_exact a b e = exact a b (equal_from (reason_cmp a b) (sym (ties a b) ∙ e))

pub put_once : (old mid new : List Reason) → IsPermutation old mid → IsSorted reason_cmp mid → IsFiltered (DiffersFromLast is_same) [] mid new → IsPutInOrder old new
put_once old mid new moved sorted kept =
    let is : new ≡ dedup is_same mid = dedup_is is_same mid new kept in
    record {
      rising = rw is (IsStrictlySortedBy-dedup total ties mid sorted);
      keeps = λ one has. rw is (Contains-dedup alike same_exact mid one (Contains-permutation old mid one moved has));
      adds_none = λ one has. Contains-permutation mid old one (IsPermutation-sym old mid moved) (Contains-from_dedup is_same mid one (rw is at has));
    }
