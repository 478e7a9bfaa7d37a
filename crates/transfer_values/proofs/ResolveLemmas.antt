-- Targets: a lesser state goes to fewer, is known sooner to go nowhere else, and none has more than the widest.
use Rattle.std.proofs.Common.{◌≡◌, ℕ, ◌+◌, ◌^◌, ◌<◌, ◌≤◌, ◌&&◌, Bool, true, false, eqb, List, [], ◌∷◌, length, Option, Some, None, Contains, refl}
use Rattle.std.proofs.Common.{sym, ap, ◌∙◌, arith, length-append}
use Rattle.std.specs.Prelude.{if◌then◌else◌}
use Rattle.std.specs.List.{find}
use Rattle.std.specs.Option.{option_and_then}
use Rattle.std.specs.Set.{is_member}
use Rattle.std.proofs.lemmas.Bool.{and_parts}
use Rattle.std.proofs.lemmas.List.Elements.{All-contains}
use Rattle.bt_image.specs.Section.{is_loaded}
use Rattle.bt_image.specs.Symbol.{functions}
use Rattle.assert_bind.specs.Binding.{speaks_of, listed, targets_in}
use Rattle.assert_bind.specs.declared.body.BoundAssertion.{BoundAssertion}
use Rattle.assert_bind.specs.declared.subject.Subject.TheVariants.{Targets}
use Rattle.jump_resolve.proofs.TargetLemmas.{targets_rise, targets_are_few}
use Rattle.value_lattice.proofs.SetLemmas.{length_rising_in}
use Rattle.value_lattice.proofs.TestLemmas.{member_decides}
use Rattle.value_lattice.proofs.WordsBelowLemmas.{words_rise, words_fit, words_pass, passing_is_there}
use Rattle.value_lattice.specs.Laws.{AreMore}
use Rattle.value_lattice.specs.Passing.{words_below}
use Rattle.value_lattice.specs.Test.{is_at_most}
use Rattle.value_lattice.specs.Thresholds.{IsThresholds}
use Rattle.value_lattice.specs.declared.value.Value.{Value}
use Rattle.value_ops.proofs.ApplyLemmas.{apply_falls}
use Rattle.value_ops.specs.Operation.{apply}
use Rattle.value_ops.specs.declared.op.Op.TheVariants.{Add}
use Rattle.abs_state.specs.State.{State, is_state_over, is_at_most as is_state_at_most}
use Rattle.abs_state.specs.declared.flags.Right.{Right}
use Rattle.transfer_rules.specs.declared.act.Aim.{Aim}
use Rattle.transfer_rules.specs.declared.act.Aim.TheVariants.{Fixed, Computed}
use Rattle.transfer_rules.specs.declared.act.Candidates.{Candidates}
use Rattle.transfer_rules.specs.declared.act.Candidates.TheVariants.{Functions, Labels}
use Rattle.jump_resolve.specs.Target.{targets}
use Rattle.transfer_values.specs.Law.{TargetsFall}
use Rattle.transfer_values.specs.Resolve.{stands_in_word, taken_functions, is_label, is_near, labels, labels_near, candidates, targets_among}
use Rattle.transfer_values.specs.Resolve.{resolved, to_of, all_listed, widest}
use Rattle.transfer_values.specs.Source.{operand}
use Rattle.transfer_values.proofs.SourceLemmas.{operand_over, operand_up}

-- an address, and a sum of operands
sum_up : (t more : List ℕ) (a b : State) (left right : Right) → IsThresholds t → IsThresholds more → AreMore t more
    → is_state_over more a ≡ true → is_state_over t b ≡ true → is_state_at_most a b ≡ true
    → is_at_most (apply more Add (operand a left) (operand a right)) (apply t Add (operand b left) (operand b right)) ≡ true
sum_up t more a b left right is is_more in_more lesser greater up =
    apply_falls t more Add (operand b left) (operand b right) (operand a left) (operand a right) is is_more in_more
    (operand_over t b left is greater) (operand_over t b right is greater) (operand_over more a left is_more lesser) (operand_over more a right is_more lesser)
    (operand_up t a b left is up) (operand_up t a b right is up)

among_list : (image : List ℕ) (v u : Value) (o : Option (List ℕ)) (others : List ℕ) (x : ℕ) → is_at_most v u ≡ true
    → Contains (targets_among image v o others).list x → Contains (targets_among image u o others).list x
among_list image v u (Some to) others x up there = targets_rise.list image v u to true x up there
among_list image v u None others x up there = targets_rise.list image v u others false x up there

among_whole : (image : List ℕ) (v u : Value) (o : Option (List ℕ)) (others : List ℕ) → is_at_most v u ≡ true
    → (targets_among image u o others).whole ≡ true → (targets_among image v o others).whole ≡ true
among_whole image v u (Some to) others up whole = refl
among_whole image v u None others up whole = targets_rise.whole image v u others false up whole

-- how many there are
listed_first : (x : BoundAssertion) (rest : List BoundAssertion) (b : Bool) (to : List ℕ) (o : Option BoundAssertion)
    → (option_and_then (λ assertion. targets_in assertion.body) o ≡ Some to → length to ≤ length (all_listed rest))
    → option_and_then (λ assertion. targets_in assertion.body) (if b then Some x else o) ≡ Some to → length to ≤ length (all_listed (x ∷ rest))
listed_first x rest true to o later here =
    let both : length (all_listed (x ∷ rest)) ≡ length (to_of (targets_in x.body)) + length (all_listed rest) =
    length-append (to_of (targets_in x.body)) (all_listed rest) in
    let same : length (to_of (targets_in x.body)) ≡ length to = ap (λ (o : Option (List ℕ)). length (to_of o)) here in
    omega arith
listed_first x rest false to o later there =
    let both : length (all_listed (x ∷ rest)) ≡ length (to_of (targets_in x.body)) + length (all_listed rest) =
    length-append (to_of (targets_in x.body)) (all_listed rest) in
    let h : length to ≤ length (all_listed rest) = later there in
    omega arith

listed_there : (list : List BoundAssertion) (p : BoundAssertion → Bool) (to : List ℕ)
    → option_and_then (λ assertion. targets_in assertion.body) (find p list) ≡ Some to
    → length to ≤ length (all_listed list)
listed_there [] p to is = cc
listed_there (x ∷ rest) p to is = listed_first x rest (p x) to (find p rest) (λ later. listed_there rest p to later) is

taken_few : (image : List ℕ) → length (taken_functions image) ≤ length (functions image)
unfolding taken_functions
taken_few image =
    length_rising_in (words_below (2 ^ 32) (λ a. is_member eqb (functions image) a && stands_in_word is_loaded image a)) (functions image)
    (words_rise (2 ^ 32) (λ a. is_member eqb (functions image) a && stands_in_word is_loaded image a))
    (λ a there. (member_decides (functions image) a).0
    (and_parts (is_member eqb (functions image) a) (stands_in_word is_loaded image a)
    (words_pass (2 ^ 32) (λ b. is_member eqb (functions image) b && stands_in_word is_loaded image b) a there)).0)

near_few : (image : List ℕ) (pc : ℕ) → length (labels_near image pc) ≤ length (labels image)
unfolding labels_near labels
near_few image pc =
    length_rising_in (words_below (2 ^ 32) (λ a. is_label image a && is_near image pc a)) (words_below (2 ^ 32) (is_label image))
    (words_rise (2 ^ 32) (λ a. is_label image a && is_near image pc a))
    (λ a there.
    let fits : a < 2 ^ 32 = All-contains (λ w. w < 2 ^ 32) (words_below (2 ^ 32) (λ b. is_label image b && is_near image pc b)) a
    (words_fit (2 ^ 32) (λ b. is_label image b && is_near image pc b)) there in
    passing_is_there (2 ^ 32) (is_label image) a fits
    (and_parts (is_label image a) (is_near image pc a) (words_pass (2 ^ 32) (λ b. is_label image b && is_near image pc b) a there)).0)

candidates_few : (image : List ℕ) (pc : ℕ) (kind : Candidates) → length (candidates image pc kind) ≤ length (functions image) + length (labels image)
candidates_few image pc Functions = omega (arith, taken_few image)
candidates_few image pc Labels = omega (arith, near_few image pc)

among_few : (image : List ℕ) (v : Value) (list : List BoundAssertion) (pc : ℕ) (kind : Candidates) (o : Option (List ℕ)) → listed list pc ≡ o
    → length (targets_among image v o (candidates image pc kind)).list ≤ widest image list
unfolding widest
among_few image v list pc kind (Some to) is =
    let few = targets_are_few image v to true in
    let there = listed_there list (speaks_of (Targets pc)) to is in
    omega (arith, few, there)
among_few image v list pc kind None is =
    let few = targets_are_few image v (candidates image pc kind) false in
    omega (arith, few, candidates_few image pc kind)

resolved_fewer : (t more image : List ℕ) (list : List BoundAssertion) (pc : ℕ) (aim : Aim) (a b : State) → IsThresholds t → IsThresholds more → AreMore t more
    → is_state_over more a ≡ true → is_state_over t b ≡ true → is_state_at_most a b ≡ true
    → (x : ℕ) → Contains (resolved more image list pc aim a).list x → Contains (resolved t image list pc aim b).list x
unfolding resolved
resolved_fewer t more image list pc (Fixed to) a b is is_more in_more lesser greater up x there = there
resolved_fewer t more image list pc (Computed left right kind) a b is is_more in_more lesser greater up x there =
    among_list image (apply more Add (operand a left) (operand a right)) (apply t Add (operand b left) (operand b right)) (listed list pc)
    (candidates image pc kind) x
    (sum_up t more a b left right is is_more in_more lesser greater up) there

resolved_whole : (t more image : List ℕ) (list : List BoundAssertion) (pc : ℕ) (aim : Aim) (a b : State) → IsThresholds t → IsThresholds more → AreMore t more
    → is_state_over more a ≡ true → is_state_over t b ≡ true → is_state_at_most a b ≡ true
    → (resolved t image list pc aim b).whole ≡ true → (resolved more image list pc aim a).whole ≡ true
unfolding resolved
resolved_whole t more image list pc (Fixed to) a b is is_more in_more lesser greater up known = refl
resolved_whole t more image list pc (Computed left right kind) a b is is_more in_more lesser greater up known =
    among_whole image (apply more Add (operand a left) (operand a right)) (apply t Add (operand b left) (operand b right)) (listed list pc)
    (candidates image pc kind)
    (sum_up t more a b left right is is_more in_more lesser greater up) known

resolved_few : (t image : List ℕ) (list : List BoundAssertion) (pc : ℕ) (aim : Aim) (s : State)
    → length (resolved t image list pc aim s).list ≤ widest image list
unfolding resolved widest
resolved_few t image list pc (Fixed to) s = omega arith
resolved_few t image list pc (Computed left right kind) s =
    among_few image (apply t Add (operand s left) (operand s right)) list pc kind (listed list pc) refl

-- a lesser state goes to fewer targets, and is known sooner to go nowhere else; no transfer has more targets than the
-- widest one
pub targets_fall : TargetsFall
targets_fall = record { list = resolved_fewer; whole = resolved_whole; few = resolved_few }

-- what the code resolves
pub resolved_listed : (t image : List ℕ) (list : List BoundAssertion) (pc : ℕ) (aim : Aim) (left right : Right) (kind : Candidates) (s : State)
    (v : Value) (to : List ℕ)
    → aim ≡ Computed left right kind → v ≡ apply t Add (operand s left) (operand s right) → Some to ≡ listed list pc
    → targets image v to true ≡ resolved t image list pc aim s
unfolding resolved
resolved_listed t image list pc aim left right kind s v to is value there =
    ap (λ (u : Value). targets image u to true) value
    ∙ ap (λ (o : Option (List ℕ)). targets_among image (apply t Add (operand s left) (operand s right)) o (candidates image pc kind)) there
    ∙ ap (λ (x : Aim). resolved t image list pc x s) (sym is)

-- where no assertion lists them, the targets are among the candidates
pub resolved_others : (t image : List ℕ) (list : List BoundAssertion) (pc : ℕ) (aim : Aim) (left right : Right) (kind : Candidates) (s : State)
    (v : Value) (others : List ℕ)
    → aim ≡ Computed left right kind → v ≡ apply t Add (operand s left) (operand s right) → None ≡ listed list pc → others ≡ candidates image pc kind
    → targets image v others false ≡ resolved t image list pc aim s
unfolding resolved
resolved_others t image list pc aim left right kind s v others is value none are =
    ap (λ (u : Value). targets image u others false) value
    ∙ ap (λ (xs : List ℕ). targets image (apply t Add (operand s left) (operand s right)) xs false) are
    ∙ ap (λ (o : Option (List ℕ)). targets_among image (apply t Add (operand s left) (operand s right)) o (candidates image pc kind)) none
    ∙ ap (λ (x : Aim). resolved t image list pc x s) (sym is)

-- a fixed target is the one target
pub resolved_fixed : (t image : List ℕ) (list : List BoundAssertion) (pc a : ℕ) (aim : Aim) (s : State) → aim ≡ Fixed a
    → record { list = a ∷ []; whole = true } ≡ resolved t image list pc aim s
unfolding resolved
resolved_fixed t image list pc a aim s is = ap (λ (x : Aim). resolved t image list pc x s) (sym is)
