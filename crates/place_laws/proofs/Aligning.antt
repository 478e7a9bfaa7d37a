-- What aligned places give stays aligned.
use Rattle.std.proofs.Common.{◌≡◌, ℕ, zero, suc, ◌%◌, ◌&&◌, Bool, true, false, List, [], ◌∷◌, ◌++◌, Option, Some, None, Contains, refl, subst, arith, eqb, if◌then◌else◌}
use borrow.Author.Tests.{eqb-true}
use Rattle.std.specs.Prelude.{not}
use Rattle.std.specs.List.{All, flat_map}
use Rattle.std.proofs.lemmas.List.Elements.{All-append, All-cons, All-contains, All-nil, Contains-append_right}
use Rattle.abs_state.specs.State.{State, cell_at, without}
use Rattle.abs_state.specs.declared.key.GapKind.TheVariants as why
use Rattle.abs_state.specs.declared.key.Key.{Key}
use Rattle.abs_state.specs.declared.key.Key.TheVariants as key
use Rattle.abs_state.specs.declared.key.Next.{Next}
use Rattle.abs_state.specs.declared.key.Next.TheVariants.{At, Into, Back}
use Rattle.abs_state.specs.declared.key.Place.{Place}
use Rattle.assert_bind.specs.Binding.{listed}
use Rattle.assert_bind.specs.declared.body.BoundAssertion.{BoundAssertion}
use Rattle.bt_image.specs.Image.{is_code}
use Rattle.call_effects.specs.Mask.{after_call}
use Rattle.call_effects.specs.declared.summary.Summary.{Summary as Effects}
use Rattle.jump_resolve.proofs.TargetLemmas.{in_list}
use Rattle.value_lattice.specs.Test.{is_at_most as is_value_at_most}
use Rattle.value_lattice.specs.Value.{is_ret}
use Rattle.value_lattice.specs.declared.value.Value.{Value}
use Rattle.value_lattice.specs.declared.value.Value.TheVariants.{Ret}
use Rattle.transfer_acts.specs.Program.{program_of}
use Rattle.transfer_rules.specs.Fact.{Piece, state_in}
use Rattle.transfer_rules.specs.Family.{Family, Program}
use Rattle.transfer_rules.specs.Give.{Facts, act_beside, act_entered, act_gives, act_here, arguments, behind, beside, beside_to, called, called_effects, called_to}
use Rattle.transfer_rules.specs.Give.{callee_of, delayed, effects, entered, entered_to, entered_with, entry_of, exits, gap, given_if, gives, goes, here, here_to, is_behind}
use Rattle.transfer_rules.specs.Give.{is_known, jumped_to, mask_of, node_gives, onward, pieces_of, place}
use Rattle.transfer_rules.specs.declared.act.Act.{Act}
use Rattle.transfer_rules.specs.declared.act.Act.TheVariants.{Dead, Open, Acts}
use Rattle.transfer_rules.specs.declared.act.Aim.{Aim}
use Rattle.transfer_rules.specs.declared.act.Aim.TheVariants.{Fixed, Computed}
use Rattle.transfer_rules.specs.declared.act.Exit.{Exit}
use Rattle.transfer_rules.specs.declared.act.Way.{Way}
use Rattle.transfer_rules.specs.declared.act.Way.TheVariants.{Onward, Forks, CallsTo, JumpsTo, ReturnsBy}
use Rattle.transfer_rules.specs.declared.fact.Fact.TheVariants as fact
use Rattle.transfer_rules.specs.declared.step.Step.{Step}
use Rattle.transfer_values.specs.Family.{family}
use Rattle.transfer_values.specs.Resolve.{candidates, resolved, targets_among}
use Rattle.place_laws.specs.Aligned.{IsAligned, IsAlignedNext, PlacesStayAligned}
use Rattle.place_laws.proofs.Acts.{ActAligned, AimAligned, ExitAligned, WayAligned, act_aligned, behind_aligned}

-- a program point, where the key is one, is aligned
abbrev KeyAligned : Key → Type 0
KeyAligned (key.Node q) = IsAligned q
KeyAligned (key.Edge a b) = Unit {0}
KeyAligned (key.Call q t) = Unit {0}
KeyAligned (key.Summary sub) = Unit {0}
KeyAligned (key.Gap sub pc kind) = Unit {0}

abbrev PieceAligned : Piece → Type 0
PieceAligned piece = KeyAligned piece.0

abbrev AreAligned : List Piece → Type 0
AreAligned ps = All PieceAligned ps

none : AreAligned []
none = All-nil PieceAligned

one : (piece : Piece) → PieceAligned piece → AreAligned (piece ∷ [])
one piece is = All-cons PieceAligned piece [] is none

both : (ps qs : List Piece) → AreAligned ps → AreAligned qs → AreAligned (ps ++ qs)
both ps qs first second = All-append PieceAligned ps qs first second

on_if : (b : Bool) (ps : List Piece) → AreAligned ps → AreAligned (given_if b ps)
on_if true ps are = are
on_if false ps are = none

on_some : {A : Type 0} (o : Option A) (give : A → List Piece) → ((a : A) → AreAligned (give a)) → AreAligned (pieces_of o give)
on_some None give are = none
on_some (Some a) give are = are a

on_each : (give : ℕ → List Piece) (xs : List ℕ) → ((a : ℕ) → Contains xs a → AreAligned (give a)) → AreAligned (flat_map give xs)
on_each give [] are = none
on_each give (x ∷ xs) are =
    both (give x) (flat_map give xs) (are x (0, omega arith, refl)) (on_each give xs (λ a has. are a (Contains-append_right (x ∷ []) xs a has)))

-- a step to an aligned place
on_goes : (p q : Place) (s : State) → IsAligned q → AreAligned (goes p q s)
on_goes p q s is = All-cons PieceAligned (key.Node q, fact.State s) ((key.Edge p q, fact.Mark) ∷ []) is (one (key.Edge p q, fact.Mark) tt)

onward_aligned : (p : Place) (pc depth : ℕ) → pc % 4 ≡ 0 → IsAligned (onward p pc depth)
onward_aligned p pc depth is = record { pc = is; aimed = behind_aligned pc 4 is refl }

delayed_aligned : (p : Place) (next : Next) → p.pc % 4 ≡ 0 → IsAlignedNext next → IsAligned (delayed p next)
delayed_aligned p next is to = record { pc = behind_aligned p.pc 4 is refl; aimed = to }

on_called : (p : Place) (depth : ℕ) (e : Effects) (s : State) → p.pc % 4 ≡ 0 → AreAligned (called p depth e s)
on_called p depth e s is =
    both (given_if e.returns (goes p (onward p (behind p.pc 4) depth) (without s (after_call e.written depth))))
    (given_if e.skips (goes p (onward p (behind p.pc 8) depth) (without s (after_call e.written depth))))
    (on_if e.returns (goes p (onward p (behind p.pc 4) depth) (without s (after_call e.written depth))) (on_goes p (onward p (behind p.pc 4) depth) (without s (after_call e.written depth))
    (onward_aligned p (behind p.pc 4) depth (behind_aligned p.pc 4 is refl))))
    (on_if e.skips (goes p (onward p (behind p.pc 8) depth) (without s (after_call e.written depth))) (on_goes p (onward p (behind p.pc 8) depth) (without s (after_call e.written depth))
    (onward_aligned p (behind p.pc 8) depth (behind_aligned p.pc 8 is refl))))

on_here_to : (next : Next) (p : Place) (depth : ℕ) (c : Option Effects) (s : State) → p.pc % 4 ≡ 0 → IsAlignedNext next → AreAligned (here_to next p depth c s)
on_here_to (At n) p depth c s is to = on_goes p (onward p n depth) s (onward_aligned p n depth to)
on_here_to (Into t) p depth c s is to = on_some c (λ there. called p depth there s) (λ e. on_called p depth e s is)
on_here_to Back p depth c s is to = none

on_beside_to : (next : Next) (m : Program) (p : Place) (depth : ℕ) (c : Option Effects) (s : State) → AreAligned (beside_to next m p depth c s)
on_beside_to (At n) m p depth c s = none
on_beside_to (Into t) m p depth c s =
    All-cons PieceAligned (key.Call p t, fact.Args (arguments depth s)) (pieces_of c (called_effects p depth)) tt
    (on_some c (called_effects p depth) (λ e. one (effects p.sub false false (after_call e.written depth)) tt))
on_beside_to Back m p depth c s = by (eqb depth 0) where
  by : (b : Bool) → AreAligned (if b then effects p.sub (not (m.skips p)) (m.skips p) 0 ∷ [] else gap p why.Instr ∷ [])
  by true = one (effects p.sub (not (m.skips p)) (m.skips p) 0) tt
  by false = one (gap p why.Instr) tt

on_entered_to : (next : Next) (m : Program) (depth : ℕ) (s : State) → IsAlignedNext next → AreAligned (entered_to next m depth s)
on_entered_to (At n) m depth s to = none
on_entered_to (Into t) m depth s to =
    on_if (not (m.is_stub t)) ((key.Node (entry_of t), fact.State (entered_with (arguments depth s))) ∷ [])
    (one (key.Node (entry_of t), fact.State (entered_with (arguments depth s))) (record { pc = to; aimed = behind_aligned t 4 to refl }))
on_entered_to Back m depth s to = none

module _ (f : Family) (m : Program) (p : Place) (is : IsAligned p)
    (lists : (aim : Aim) (s : State) → AimAligned aim → (a : ℕ) → Contains (f.resolve p.pc aim s).list a → a % 4 ≡ 0) where
  on_exit : (exit : Option Exit) (s : State) → ExitAligned exit → AreAligned (exits f p exit s)
  on_exit None s to = none
  on_exit (Some exit) s to =
      on_some (f.test exit.test s) (goes p (place p exit.pc (At exit.npc) p.depth))
      (λ u. on_goes p (place p exit.pc (At exit.npc) p.depth) u (record { pc = to.0; aimed = to.1 }))

  on_here : (step : Step) (way : Way) (c : Option Effects) (before s : State) → WayAligned way → AreAligned (here f p step way c before s)
  on_here step Onward c before s to = on_here_to p.next p step.depth c s is.pc is.aimed
  on_here step (Forks first second) c before s to = both (exits f p first s) (exits f p second s) (on_exit first s to.0) (on_exit second s to.1)
  on_here step (CallsTo aim) c before s to =
      on_each (called_to p s) (f.resolve p.pc aim before).list
      (λ a has. on_if (not (is_behind p a)) (goes p (delayed p (Into a)) s) (on_goes p (delayed p (Into a)) s (delayed_aligned p (Into a) is.pc (lists aim before to a has))))
  on_here step (JumpsTo aim) c before s to =
      on_each (jumped_to p s) (f.resolve p.pc aim before).list
      (λ a has. on_goes p (delayed p (At a)) s (delayed_aligned p (At a) is.pc (lists aim before to a has)))
  on_here step (ReturnsBy cell) c before s to =
      on_if (is_value_at_most Ret (cell_at before cell)) (goes p (delayed p Back) s) (on_goes p (delayed p Back) s (delayed_aligned p Back is.pc tt))

  on_beside : (step : Step) (way : Way) (c : Option Effects) (before s : State) → AreAligned (beside f m p step way c before s)
  on_beside step Onward c before s = on_beside_to p.next m p step.depth c s
  on_beside step (Forks first second) c before s = none
  on_beside step (CallsTo aim) c before s =
      on_if (not (is_known p (f.resolve p.pc aim before))) (gap p why.Call ∷ []) (one (gap p why.Call) tt)
  on_beside step (JumpsTo aim) c before s = on_if (not (f.resolve p.pc aim before).whole) (gap p why.Jump ∷ []) (one (gap p why.Jump) tt)
  on_beside step (ReturnsBy cell) c before s = on_if (not (is_ret (cell_at before cell))) (gap p why.Jump ∷ []) (one (gap p why.Jump) tt)

  on_entered : (step : Step) (way : Way) (s : State) → AreAligned (entered m p step way s)
  on_entered step Onward s = on_entered_to p.next m step.depth s is.aimed
  on_entered step (Forks first second) s = none
  on_entered step (CallsTo aim) s = none
  on_entered step (JumpsTo aim) s = none
  on_entered step (ReturnsBy cell) s = none

  on_act : (act : Act) (c : Option Effects) (s : State) → ActAligned act → AreAligned (act_gives f m p act c s)
  on_act Dead c s to = none
  on_act (Open kind) c s to = one (gap p kind) tt
  on_act (Acts step way) c s to =
      both (act_beside f m p (Acts step way) c s) (act_here f p (Acts step way) c s ++ act_entered f m p (Acts step way) s)
      (All-cons PieceAligned (effects p.sub false false (mask_of step)) (pieces_of (f.step step s) (beside f m p step way c s)) tt
      (on_some (f.step step s) (beside f m p step way c s) (λ u. on_beside step way c s u)))
      (both (act_here f p (Acts step way) c s) (act_entered f m p (Acts step way) s)
      (on_some (f.step step s) (here f p step way c s) (λ u. on_here step way c s u to))
      (on_some (f.step step s) (entered m p step way) (λ u. on_entered step way u)))

  on_gives : (x : Facts) → ActAligned (m.act p) → AreAligned (gives f m (key.Node p) x)
  on_gives x to =
      on_some (state_in (x (key.Node p))) (node_gives f m p (callee_of p.next x))
      (λ s. on_some (f.narrow p s) (act_gives f m p (m.act p) (callee_of p.next x)) (λ u. on_act (m.act p) (callee_of p.next x) u to))

both_hold : (a b : Bool) → (a && b) ≡ true → a ≡ true
both_hold true b h = refl
both_hold false b h = cc

-- an address of code is a multiple of 4
code_aligned : (image : List ℕ) (a : ℕ) → is_code image a ≡ true → a % 4 ≡ 0
code_aligned image a code = eqb-true (a % 4) 0 (both_hold (eqb (a % 4) 0) _ code)

-- the targets of a transfer are multiples of 4
listed_aligned : (image : List ℕ) (v : Value) (to : Option (List ℕ)) (others : List ℕ) (a : ℕ) → Contains (targets_among image v to others).list a → a % 4 ≡ 0
listed_aligned image v (Some to) others a has = code_aligned image a (in_list image v to a has).code
listed_aligned image v None others a has = code_aligned image a (in_list image v others a has).code

-- the one of one
only : (t a : ℕ) → Contains (t ∷ []) a → t ≡ a
only t a (zero, below, is) = is
only t a (suc k, below, is) = absurd (omega (arith, below))

targets_aligned : (t image : List ℕ) (list : List BoundAssertion) (pc : ℕ) (aim : Aim) (s : State) → AimAligned aim
    → (a : ℕ) → Contains (resolved t image list pc aim s).list a → a % 4 ≡ 0
unfolding resolved
targets_aligned t image list pc (Fixed target) s to a has = subst (λ (n : ℕ). n % 4 ≡ 0) (only target a has) to
targets_aligned t image list pc (Computed left right kind) s to a has = listed_aligned image _ (listed list pc) (candidates image pc kind) a has

pub stay_aligned : PlacesStayAligned
stay_aligned t image list eight widest p q v x is has =
    All-contains PieceAligned (gives (family t image list) (program_of image list eight widest) (key.Node p) x) (key.Node q, v)
    (on_gives (family t image list) (program_of image list eight widest) p is (λ aim s. targets_aligned t image list p.pc aim s) x
    (act_aligned image list eight p is.pc)) has
