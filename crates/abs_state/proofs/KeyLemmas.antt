-- The order of keys is total and tells all of them apart.
use Rattle.std.proofs.Common.{◌≡◌, ◌≢◌, ℕ, ◌<◌, ◌≤◌, ◌⊎◌, inl, inr, Bool, true, false, cond, refl, sym, ap, subst, ◌∙◌, arith}
use Rattle.std.specs.Prelude.{◌==◌, nat_lt}
use Rattle.std.specs.Cmp.{IsTotalOrder}
use Rattle.std.specs.Ordering.{nat_cmp, ordering_then}
use Rattle.std.specs.declared.cmp.Ordering.{Ordering}
use Rattle.std.specs.declared.cmp.Ordering.TheVariants.{Less, Equal, Greater}
use Rattle.std.proofs.lemmas.Bool.{cases_lt, cases_eq}
use Rattle.std.proofs.lemmas.Bool.Decides.{nat_tests}
use Rattle.abs_state.specs.Key.{compare, KeysAreOrdered}
use Rattle.abs_state.specs.contracts.key.GapKindOrd.TheImpl as kind_ord
use Rattle.abs_state.specs.contracts.key.KeyOrd.TheImpl as key_ord
use Rattle.abs_state.specs.contracts.key.NextOrd.TheImpl as next_ord
use Rattle.abs_state.specs.contracts.key.PlaceOrd.TheImpl as place_ord
use Rattle.abs_state.specs.declared.key.GapKind.{GapKind}
use Rattle.abs_state.specs.declared.key.GapKind.TheVariants as gap_kind
use Rattle.abs_state.specs.declared.key.Key.{Key}
use Rattle.abs_state.specs.declared.key.Key.TheVariants.{Node, Edge, Call, Summary, Gap}
use Rattle.abs_state.specs.declared.key.Next.{Next}
use Rattle.abs_state.specs.declared.key.Next.TheVariants.{At, Into, Back}
use Rattle.abs_state.specs.declared.key.Place.{Place}

place_cmp : Place → Place → Ordering
place_cmp = (place_ord.ghosts).cmp

next_cmp : Next → Next → Ordering
next_cmp = (next_ord.ghosts).cmp

kind_cmp : GapKind → GapKind → Ordering
kind_cmp = (kind_ord.ghosts).cmp

total : IsTotalOrder compare
total = key_ord.Laws.total-law

both : (a b : Ordering) → ordering_then a b ≡ Equal → (a ≡ Equal) × (b ≡ Equal)
both Less b e = absurd (let f : Less ≡ Equal = e in cc)
both Equal b e = (refl, e)
both Greater b e = absurd (let f : Greater ≡ Equal = e in cc)

nat_exact : (a b : ℕ) → nat_cmp a b ≡ Equal → a ≡ b
nat_exact a b e =
    elim (cases_lt a b) [
      | inl lt ↦ absurd (let t : nat_lt a b ≡ true = grind (arith, nat_tests) in let f : Less ≡ Equal = sym (rw t refl) ∙ e in cc)
      | inr ge ↦
          elim (cases_eq a b) [
            | inl eq ↦ eq
            | inr ne ↦ absurd (let t : nat_lt a b ≡ false = grind (arith, nat_tests) in let u : (a == b) ≡ false =
                grind (arith, nat_tests) in let f : Greater ≡ Equal = sym (rw (t, u) refl) ∙ e in cc)
          ]
    ]

next_exact : (n m : Next) → next_cmp n m ≡ Equal → n ≡ m
unfolding next_cmp
next_exact (At a) (At b) e = ap (λ (x : ℕ). At x) (nat_exact a b e)
next_exact (At a) (Into b) e = absurd (let f : Less ≡ Equal = e in cc)
next_exact (At a) Back e = absurd (let f : Less ≡ Equal = e in cc)
next_exact (Into a) (At b) e = absurd (let f : Greater ≡ Equal = e in cc)
next_exact (Into a) (Into b) e = ap (λ (x : ℕ). Into x) (nat_exact a b e)
next_exact (Into a) Back e = absurd (let f : Less ≡ Equal = e in cc)
next_exact Back (At b) e = absurd (let f : Greater ≡ Equal = e in cc)
next_exact Back (Into b) e = absurd (let f : Greater ≡ Equal = e in cc)
next_exact Back Back e = refl

kind_exact : (w v : GapKind) → kind_cmp w v ≡ Equal → w ≡ v
unfolding kind_cmp
kind_exact gap_kind.Jump gap_kind.Jump e = refl
kind_exact gap_kind.Jump gap_kind.Call e = absurd (let f : Less ≡ Equal = e in cc)
kind_exact gap_kind.Jump gap_kind.Instr e = absurd (let f : Less ≡ Equal = e in cc)
kind_exact gap_kind.Call gap_kind.Jump e = absurd (let f : Greater ≡ Equal = e in cc)
kind_exact gap_kind.Call gap_kind.Call e = refl
kind_exact gap_kind.Call gap_kind.Instr e = absurd (let f : Less ≡ Equal = e in cc)
kind_exact gap_kind.Instr gap_kind.Jump e = absurd (let f : Greater ≡ Equal = e in cc)
kind_exact gap_kind.Instr gap_kind.Call e = absurd (let f : Greater ≡ Equal = e in cc)
kind_exact gap_kind.Instr gap_kind.Instr e = refl

place_exact : (p q : Place) → place_cmp p q ≡ Equal → p ≡ q
unfolding place_cmp next_cmp
place_exact p q e =
    let sub = both _ _ e in
    let pc = both _ _ sub.1 in
    let rest = both _ _ pc.1 in
    same (nat_exact p.sub q.sub sub.0) (nat_exact p.pc q.pc pc.0) (next_exact p.next q.next rest.0) (nat_exact p.depth q.depth rest.1)
  where
    same : p.sub ≡ q.sub → p.pc ≡ q.pc → p.next ≡ q.next → p.depth ≡ q.depth → p ≡ q
    same a b c d = λ i. record { sub = a i; pc = b i; next = c i; depth = d i }

exact : (j k : Key) → compare j k ≡ Equal → j ≡ k
unfolding place_cmp kind_cmp
exact (Node p) (Node q) e = ap (λ (x : Place). Node x) (place_exact p q e)
exact (Edge p q) (Edge r s) e = let h = both _ _ e in (let a = place_exact p r h.0 in let b = place_exact q s h.1 in cc)
exact (Call p c) (Call q d) e = let h = both _ _ e in (let a = place_exact p q h.0 in let b = nat_exact c d h.1 in cc)
exact (Summary s) (Summary t) e = ap (λ (x : ℕ). Summary x) (nat_exact s t e)
exact (Gap s p w) (Gap t q v) e =
    let h = both _ _ e in let g = both _ _ h.1 in (let a = nat_exact s t h.0 in let b = nat_exact p q g.0 in let c = kind_exact w v g.1 in cc)
exact (Node p) (Edge r s) e = absurd (let f : Less ≡ Equal = e in cc)
exact (Node p) (Call q d) e = absurd (let f : Less ≡ Equal = e in cc)
exact (Node p) (Summary t) e = absurd (let f : Less ≡ Equal = e in cc)
exact (Node p) (Gap t q v) e = absurd (let f : Less ≡ Equal = e in cc)
exact (Edge p q) (Node r) e = absurd (let f : Greater ≡ Equal = e in cc)
exact (Edge p q) (Call r d) e = absurd (let f : Less ≡ Equal = e in cc)
exact (Edge p q) (Summary t) e = absurd (let f : Less ≡ Equal = e in cc)
exact (Edge p q) (Gap t r v) e = absurd (let f : Less ≡ Equal = e in cc)
exact (Call p c) (Node q) e = absurd (let f : Greater ≡ Equal = e in cc)
exact (Call p c) (Edge r s) e = absurd (let f : Greater ≡ Equal = e in cc)
exact (Call p c) (Summary t) e = absurd (let f : Less ≡ Equal = e in cc)
exact (Call p c) (Gap t q v) e = absurd (let f : Less ≡ Equal = e in cc)
exact (Summary s) (Node q) e = absurd (let f : Greater ≡ Equal = e in cc)
exact (Summary s) (Edge r t) e = absurd (let f : Greater ≡ Equal = e in cc)
exact (Summary s) (Call q d) e = absurd (let f : Greater ≡ Equal = e in cc)
exact (Summary s) (Gap t q v) e = absurd (let f : Less ≡ Equal = e in cc)
exact (Gap s p w) (Node q) e = absurd (let f : Greater ≡ Equal = e in cc)
exact (Gap s p w) (Edge r t) e = absurd (let f : Greater ≡ Equal = e in cc)
exact (Gap s p w) (Call q d) e = absurd (let f : Greater ≡ Equal = e in cc)
exact (Gap s p w) (Summary t) e = absurd (let f : Greater ≡ Equal = e in cc)

-- keys have one order, which tells all of them apart
pub keys_are_ordered : KeysAreOrdered
keys_are_ordered = record { total = total; exact = exact }
