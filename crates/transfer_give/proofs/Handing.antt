-- What a call hands on, and the pieces of the delay instruction of a call.
use Rattle.std.proofs.Common.{◌≡◌, ℕ, ◌<◌, ◌&&◌, Bool, true, false, List, [], ◌∷◌, ◌++◌, Option, All, refl, subst, sym, nat_lt}
use Rattle.std.specs.List.{list_all}
use Rattle.std.proofs.lemmas.List.Elements.{All-nil, All-cons}
use borrow.Author.Tests.{ltb-true}
use Rattle.abs_state.specs.State.{State}
use Rattle.abs_state.specs.declared.key.Next.{Next}
use Rattle.abs_state.specs.declared.key.Next.TheVariants.{Into}
use Rattle.abs_state.specs.declared.key.Place.{Place}
use Rattle.call_effects.specs.declared.summary.Summary.{Summary as Effects}
use Rattle.transfer_give.specs.Handed.{call_gives, entered_from, handed_on}
use Rattle.transfer_rules.specs.Family.{Program}
use Rattle.transfer_rules.specs.Give.{argument_registers, beside_to, entered_to, here_to}

both : (a b : Bool) → (a && b) ≡ true → (a ≡ true) × (b ≡ true)
both true true h = (refl, refl)
both true false h = cc
both false b h = cc

below : (xs : List ℕ) → list_all (λ r. nat_lt r 32) xs ≡ true → All (λ r. r < 32) xs
below [] h = All-nil (λ r. r < 32)
below (x ∷ xs) h =
    let parts = both (nat_lt x 32) (list_all (λ r. nat_lt r 32) xs) h in
    All-cons (λ r. r < 32) x xs (ltb-true x 32 parts.0) (below xs parts.1)

-- the registers of the arguments are registers
pub registers_fit : All (λ r. r < 32) argument_registers
registers_fit = below argument_registers refl

-- where control goes on into a subprogram, the pieces are those of its call
into_gives : (m : Program) (p : Place) (t depth : ℕ) (callee : Option Effects) (s : State)
    → call_gives m p t depth callee s ≡ beside_to (Into t) m p depth callee s ++ (here_to (Into t) p depth callee s ++ entered_to (Into t) m depth s)
unfolding handed_on entered_from
into_gives m p t depth callee s = refl

-- what a delay instruction of a call gives, in three lists
pub call_is : (m : Program) (p : Place) (next : Next) (t depth : ℕ) (callee : Option Effects) (s : State) → next ≡ Into t
    → call_gives m p t depth callee s ≡ beside_to next m p depth callee s ++ (here_to next p depth callee s ++ entered_to next m depth s)
call_is m p next t depth callee s same =
    subst (λ (n : Next). call_gives m p t depth callee s ≡ beside_to n m p depth callee s ++ (here_to n p depth callee s ++ entered_to n m depth s))
    (sym same) (into_gives m p t depth callee s)
