-- The worked run, its frames, and the assertions that it meets and breaks.
use Rattle.std.proofs.Common.{◌≡◌, ℕ, zero, suc, pos, neg_ℤ, ◌+◌, ◌^◌, ◌<◌, ◌≤◌, true, false, List, [], ◌∷◌, ◌++◌, replicate}
use Rattle.std.proofs.Common.{map, All, Contains, refl, sym, ap, subst, ◌∙◌, arith, eq-eqb}
use Rattle.std.specs.List.{list_all}
use Rattle.std.specs.Prelude.{◌==◌, nat_lt}
use Rattle.std.specs.Int.Signed.{le_z_yes}
use Rattle.std.proofs.lemmas.Bool.{false≢true, ltb-true}
use Rattle.std.proofs.lemmas.List.Sums.{AllPass-from_list_all}
use Rattle.std.proofs.lemmas.List.Elements.{All-set, All-replicate}
use Rattle.assert_bind.specs.declared.body.BoundAssertion.{BoundAssertion}
use Rattle.assert_bind.specs.declared.body.BoundBody.{BoundBody}
use Rattle.assert_bind.specs.declared.body.BoundBody.TheVariants as body
use Rattle.bt_image.specs.Checked.{IsAccepted}
use Rattle.bt_image.specs.File.{word_field, half_field}
use Rattle.bt_image.specs.Image.{holder, held}
use Rattle.bt_image.specs.Refusal.{first_refusal, checked_refusal, header_refusal, headers_refusal, sections_refusal, section_fault}
use Rattle.bt_image.specs.Refusal.{overlap_refusal, overlap, symbols_refusal, limits_refusal}
use Rattle.bt_image.specs.Section.{section_at}
use Rattle.bt_image.specs.Symbol.{functions, symbol_count}
use Rattle.graph_laws.proofs.Walks.{passes-append}
use Rattle.graph_laws.specs.Walk.{passes}
use Rattle.sparc_decode.specs.Instr.{instruction_of}
use Rattle.sparc_machine.specs.Frame.{Frame, IsFree, StepsTo, root_frame, machine_at}
use Rattle.sparc_machine.specs.declared.free.Free.{Free}
use Rattle.sparc_runs.specs.Activation.{Activation, activations_at, places_of}
use Rattle.sparc_runs.specs.Meets.{IsShown, KeepsLoops, KeepsStubs, Meets}
use Rattle.sparc_runs.specs.Stub.{StubKeeps}
use Rattle.sparc_runs.specs.Worked.{image, costs, first_registers, at_call, at_delay, at_entry, at_return, at_head}
use Rattle.sparc_runs.specs.Worked.{at_turn, at_head_again, behind, the_frame, heads, kept, broken, IsWorkedRun}
use Rattle.sparc_runs.specs.Worked.{HasWorkedFrames, RunsMeetAndBreak}

abbrev nothing : Free
nothing = record { first = 0; second = 0; flags = 0; taken = false }

nothing_free : IsFree nothing
nothing_free = record { first = omega arith; second = omega arith; flags = omega arith }

step_one : StepsTo image costs at_call at_delay
unfolding holder held word_field half_field section_at instruction_of
step_one = record { free = nothing; within = nothing_free; steps = refl }

step_two : StepsTo image costs at_delay at_entry
unfolding holder held word_field half_field section_at instruction_of
step_two = record { free = nothing; within = nothing_free; steps = refl }

step_three : StepsTo image costs at_entry at_return
unfolding holder held word_field half_field section_at instruction_of
step_three = record { free = nothing; within = nothing_free; steps = refl }

step_four : StepsTo image costs at_return at_head
unfolding holder held word_field half_field section_at instruction_of
step_four = record { free = nothing; within = nothing_free; steps = refl }

step_five : StepsTo image costs at_head at_turn
unfolding holder held word_field half_field section_at instruction_of
step_five = record { free = nothing; within = nothing_free; steps = refl }

step_six : StepsTo image costs at_turn at_head_again
unfolding holder held word_field half_field section_at instruction_of
step_six = record { free = nothing; within = nothing_free; steps = refl }

-- numbers that pass the test are bytes
bytes_from : (xs : List ℕ) → list_all (λ byte. nat_lt byte 256) xs ≡ true → All (λ byte. byte < 256) xs
bytes_from xs h k d less = ltb-true _ 256 (AllPass-from_list_all (λ byte. nat_lt byte 256) xs h k d less)

-- the file is accepted
accepted : IsAccepted image
unfolding first_refusal checked_refusal header_refusal headers_refusal sections_refusal section_fault overlap_refusal overlap
    symbols_refusal limits_refusal functions symbol_count word_field half_field section_at
accepted = record { unrefused = refl; bytes = bytes_from image refl }

registers_are_words : All (λ (word : ℕ). word < 2 ^ 32) first_registers
registers_are_words =
    All-set (λ (word : ℕ). word < 2 ^ 32) (replicate 136 0) 8 4112 (omega arith) (All-replicate (λ (word : ℕ). word < 2 ^ 32) 136 0 (omega arith))

-- it is a run
pub worked_run : IsWorkedRun
worked_run = record {
  accepted = accepted;
  begins = record {
    machine =
        record {
          registers = refl;
          words = registers_are_words;
          pc = omega arith;
          npc = omega arith;
          window = omega arith;
          mask = omega arith;
          loaded = omega arith;
        };
    pc = refl;
    npc = refl;
    mask = (1, omega arith, refl, λ same. omega arith);
  };
  runs = (step_one, (step_two, (step_three, (step_four, (step_five, (step_six, tt))))));
}

-- frames that differ in their start
other_start : (F G : Frame) (rest more : List Frame) → (F ∷ rest) ≡ (G ∷ more) → F.start.cycles ≡ G.start.cycles
other_start F G rest more same = let e : F ≡ G = cc in ap (λ (x : Frame). x.start.cycles) e

-- its frames
pub worked_frames : HasWorkedFrames
unfolding holder held word_field half_field section_at instruction_of
worked_frames = record {
  calls = refl;
  before = refl;
  pushed = refl;
  not_call = λ same. (let e : 2 ≡ 0 = other_start the_frame (record the_frame { start = at_call }) _ _ same in omega arith);
  returns = refl;
  stays = refl;
  popped = refl;
  kinds = record { leaves = refl; skips = refl; stays = refl };
}

-- numbers that differ aren't equal
other : {P : Type 0} (a b : ℕ) → (a == b) ≡ false → a ≡ b → P
other a b differ same = absurd (false≢true (sym differ ∙ eq-eqb a b same))

abbrev Shown : BoundBody → Type 0
Shown says = IsShown image at_call behind says

met_at : Shown (body.At 4096 8 (pos 0) (pos 5000))
met_at zero within = λ at. record { least = le_z_yes tt; most = le_z_yes tt }
met_at (suc zero) within = other 4100 4096 refl
met_at (suc (suc zero)) within = other 4112 4096 refl
met_at (suc (suc (suc zero))) within = other 4116 4096 refl
met_at (suc (suc (suc (suc zero)))) within = other 4104 4096 refl
met_at (suc (suc (suc (suc (suc zero))))) within = other 4108 4096 refl
met_at (suc (suc (suc (suc (suc (suc zero)))))) within = other 4104 4096 refl
met_at (suc (suc (suc (suc (suc (suc (suc i))))))) within = absurd (omega arith)

met_never : Shown (body.Never 4120)
met_never zero within = other 4096 4120 refl
met_never (suc zero) within = other 4100 4120 refl
met_never (suc (suc zero)) within = other 4112 4120 refl
met_never (suc (suc (suc zero))) within = other 4116 4120 refl
met_never (suc (suc (suc (suc zero)))) within = other 4104 4120 refl
met_never (suc (suc (suc (suc (suc zero))))) within = other 4108 4120 refl
met_never (suc (suc (suc (suc (suc (suc zero)))))) within = other 4104 4120 refl
met_never (suc (suc (suc (suc (suc (suc (suc i))))))) within = absurd (omega arith)

met_jump : Shown (body.Jump 4112 (4104 ∷ 4120 ∷ []))
unfolding holder held word_field half_field section_at instruction_of
met_jump zero within = other 4096 4112 refl
met_jump (suc zero) within = other 4100 4112 refl
met_jump (suc (suc zero)) within = λ at. (0, omega arith, refl)
met_jump (suc (suc (suc zero))) within = other 4116 4112 refl
met_jump (suc (suc (suc (suc zero)))) within = other 4104 4112 refl
met_jump (suc (suc (suc (suc (suc zero))))) within = other 4108 4112 refl
met_jump (suc (suc (suc (suc (suc (suc zero)))))) within = other 4104 4112 refl
met_jump (suc (suc (suc (suc (suc (suc (suc i))))))) within = absurd (omega arith)

met_call : Shown (body.CallTo 4096 (4112 ∷ []))
unfolding holder held word_field half_field section_at instruction_of
met_call zero within = λ at. (0, omega arith, refl)
met_call (suc zero) within = other 4100 4096 refl
met_call (suc (suc zero)) within = other 4112 4096 refl
met_call (suc (suc (suc zero))) within = other 4116 4096 refl
met_call (suc (suc (suc (suc zero)))) within = other 4104 4096 refl
met_call (suc (suc (suc (suc (suc zero))))) within = other 4108 4096 refl
met_call (suc (suc (suc (suc (suc (suc zero)))))) within = other 4104 4096 refl
met_call (suc (suc (suc (suc (suc (suc (suc i))))))) within = absurd (omega arith)

-- what holds of each activation of a list holds of one in it
abbrev Each : (Activation → Type 0) → List Activation → Type 0
Each P [] = Unit {0}
Each P (a ∷ rest) = P a × Each P rest

of_each : (P : Activation → Type 0) (these above : List Activation) (a : Activation) (below : List Activation) → Each P these → these ≡ above ++ a ∷ below → P a
of_each P [] [] a below each is = cc
of_each P [] (x ∷ above) a below each is = cc
of_each P (y ∷ these) [] a below each is = (let same : y ≡ a = cc in subst P same each.0)
of_each P (y ∷ these) (x ∷ above) a below each is = of_each P these above a below each.1 cc

-- the nodes of an activation pass the head twice at most
abbrev Few : Activation → Type 0
Few a = passes 4104 (map (λ k. (machine_at image at_call behind k).pc) (places_of a)) ≤ 2

few : (i : ℕ) → i ≤ 6 → Each Few (activations_at image at_call behind i)
unfolding holder held word_field half_field section_at instruction_of
few zero within = (omega arith, tt)
few (suc zero) within = (omega arith, tt)
few (suc (suc zero)) within = (omega arith, (omega arith, tt))
few (suc (suc (suc zero))) within = (omega arith, (omega arith, tt))
few (suc (suc (suc (suc zero)))) within = (omega arith, tt)
few (suc (suc (suc (suc (suc zero))))) within = (omega arith, tt)
few (suc (suc (suc (suc (suc (suc zero)))))) within = (omega arith, tt)
few (suc (suc (suc (suc (suc (suc (suc i))))))) within = absurd (omega arith)

-- a stretch passes a head no more often than the whole
part_passes : (h : ℕ) (before stretch after nodes : List ℕ) → before ++ (stretch ++ after) ≡ nodes → passes h stretch ≤ passes h nodes
part_passes h before stretch after nodes is =
    let whole : passes h (before ++ (stretch ++ after)) ≡ passes h nodes = ap (passes h) is in
    let front = passes-append h before (stretch ++ after) in
    let back = passes-append h stretch after in
    omega arith

met_loop : KeepsLoops image heads at_call behind 4104 2
met_loop i above a below within is h before stretch after has pc split inside =
    let one : Few a = of_each Few (activations_at image at_call behind i) above a below (few i within) is in
    let at : h ≡ 4104 = pc in
    let part = part_passes h before stretch after (map (λ k. (machine_at image at_call behind k).pc) (places_of a)) split in
    let same : passes h (map (λ k. (machine_at image at_call behind k).pc) (places_of a)) ≡ passes 4104
    (map (λ k. (machine_at image at_call behind k).pc) (places_of a)) =
    ap (λ (x : ℕ). passes x (map (λ k. (machine_at image at_call behind k).pc) (places_of a))) at in
    omega arith

-- the pop of the worked frame
popped : StubKeeps 0 2 the_frame at_head
popped = record { returns = record { pc = refl; window = refl; kept = λ k r less low high. refl }; spends = omega arith }

met_stub : KeepsStubs image at_call behind 4112 2
unfolding holder held word_field half_field section_at instruction_of
met_stub zero F G below within due frames sub = cc
met_stub (suc zero) F G below within due frames sub = cc
met_stub (suc (suc zero)) F G below within due frames sub = cc
met_stub (suc (suc (suc zero))) F G below within due frames sub =
    let same : the_frame ≡ F = cc in subst (λ (x : Frame). StubKeeps 0 2 x at_head) same popped
met_stub (suc (suc (suc (suc zero)))) F G below within due frames sub = cc
met_stub (suc (suc (suc (suc (suc zero))))) F G below within due frames sub = cc
met_stub (suc (suc (suc (suc (suc (suc i)))))) F G below within due frames sub = absurd (omega arith)

met : Meets image heads at_call behind kept
met zero d less = tt
met (suc zero) d less = met_at
met (suc (suc zero)) d less = met_never
met (suc (suc (suc zero))) d less = met_jump
met (suc (suc (suc (suc zero)))) d less = met_call
met (suc (suc (suc (suc (suc zero))))) d less = met_loop
met (suc (suc (suc (suc (suc (suc zero)))))) d less = met_stub
met (suc (suc (suc (suc (suc (suc (suc i))))))) d less = absurd (omega (arith, less))

-- addresses that aren't listed
not_listed : (a b : ℕ) → (a == b) ≡ false → Contains {X = ℕ} (a ∷ []) b → ⊥
not_listed a b differ (zero, less, is) = other a b differ is
not_listed a b differ (suc k, less, is) = absurd (omega (arith, less))

breaks_at : Shown (body.At 4096 8 (neg_ℤ (pos 1)) (pos 4111)) → ⊥
breaks_at shown = absurd (((shown 0 (omega arith)) refl).most.le)

breaks_never : Shown (body.Never 4112) → ⊥
breaks_never shown = shown 2 (omega arith) refl

breaks_jump : Shown (body.Jump 4112 (4108 ∷ [])) → ⊥
unfolding holder held word_field half_field section_at instruction_of
breaks_jump shown = not_listed 4108 4104 refl (shown 2 (omega arith) refl)

breaks_call : Shown (body.CallTo 4096 (4104 ∷ [])) → ⊥
unfolding holder held word_field half_field section_at instruction_of
breaks_call shown = not_listed 4104 4112 refl (shown 0 (omega arith) refl)

breaks_loop : KeepsLoops image heads at_call behind 4104 1 → ⊥
unfolding holder held word_field half_field section_at instruction_of
breaks_loop keeps =
    let root : Activation = record { frame = root_frame at_call; first = 0; later = 1 ∷ 4 ∷ 5 ∷ 6 ∷ [] } in
    let most : 2 ≤ 1 = keeps 6 [] root [] (omega arith) refl 4104 (4096 ∷ 4100 ∷ []) (4104 ∷ 4108 ∷ 4104 ∷ []) [] refl refl refl (refl, (refl, (refl, tt))) in
    absurd (omega arith)

breaks_stub : KeepsStubs image at_call behind 4112 1 → ⊥
unfolding holder held word_field half_field section_at instruction_of
breaks_stub keeps =
    let h : StubKeeps 0 1 the_frame at_head = keeps 3 the_frame (root_frame at_call) [] (omega arith) refl refl refl in
    let most : 4 ≤ 2 + 1 = h.spends in
    absurd (omega arith)

any : BoundAssertion
any = record { line = 0; body = body.Root 0 }

breaks : All (λ assertion. ¬ Meets image heads at_call behind (assertion ∷ [])) broken
breaks zero d less = λ meets. breaks_at (meets 0 any (omega arith))
breaks (suc zero) d less = λ meets. breaks_never (meets 0 any (omega arith))
breaks (suc (suc zero)) d less = λ meets. breaks_jump (meets 0 any (omega arith))
breaks (suc (suc (suc zero))) d less = λ meets. breaks_call (meets 0 any (omega arith))
breaks (suc (suc (suc (suc zero)))) d less = λ meets. breaks_loop (meets 0 any (omega arith))
breaks (suc (suc (suc (suc (suc zero))))) d less = λ meets. breaks_stub (meets 0 any (omega arith))
breaks (suc (suc (suc (suc (suc (suc i)))))) d less = absurd (omega (arith, less))

-- it meets the one list and breaks the other
pub meet_and_break : RunsMeetAndBreak
meet_and_break = record { met = met; broken = breaks }
