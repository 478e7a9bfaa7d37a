-- The worked run and its states.
use Rattle.std.proofs.Common.{◌≡◌, ℕ, zero, suc, ◌^◌, ◌<◌, true, false, [], Option, Some, None, refl, subst, arith}
use Rattle.std.specs.Prelude.{nat_lt}
use Rattle.std.specs.List.{list_all}
use Rattle.std.specs.List.Sorted.{IsStrictlyIncreasing}
use Rattle.std.specs.Option.{option_and_then}
use Rattle.std.proofs.lemmas.Bool.{lt-ltb, ltb-true}
use Rattle.std.proofs.lemmas.Bool.Decides.{Decides-by_and}
use Rattle.std.proofs.lemmas.List.Elements.{All-replicate}
use Rattle.abs_state.proofs.WriteLemmas.{writes_stand}
use Rattle.abs_state.specs.State.{State, entry_state}
use Rattle.abs_state.specs.declared.key.Place.{Place}
use Rattle.bt_image.specs.File.{word_field, half_field}
use Rattle.bt_image.specs.Image.{holder, held}
use Rattle.bt_image.specs.Refusal.{first_refusal, checked_refusal, header_refusal, headers_refusal, sections_refusal, section_fault, overlap_refusal}
use Rattle.bt_image.specs.Refusal.{overlap, symbols_refusal, limits_refusal}
use Rattle.bt_image.specs.Section.{section_at}
use Rattle.bt_image.specs.Symbol.{symbol_count, functions}
use Rattle.sparc_decode.specs.Instr.{instruction_of}
use Rattle.sparc_machine.specs.Effect.{flags_in}
use Rattle.sparc_machine.specs.Frame.{BeginsAt, IsFree, StepsTo, root_frame}
use Rattle.sparc_machine.specs.Machine.{IsMachine}
use Rattle.sparc_machine.specs.declared.free.Free.{Free}
use Rattle.sparc_machine.specs.declared.machine.Machine.{Machine}
use Rattle.sparc_runs.proofs.StepLaws.{keeps_machines}
use Rattle.sparc_runs.specs.Sound.{AreBytes}
use Rattle.state_covers.proofs.CoverLemmas.{entries_cover}
use Rattle.step_covers.proofs.CoveredLemmas.{steps_cover, tests_cover}
use Rattle.step_covers.proofs.DoLemmas.{steps_do}
use Rattle.step_covers.specs.Covered.{IsCoveredSome}
use Rattle.step_covers.specs.Does.{IsHere}
use Rattle.step_covers.specs.Says.{IsTaken}
use Rattle.step_covers.specs.Worked.{image, costs, thresholds, place_at, annulling_way, branch_way, load_step, compare_step, delay_step}
use Rattle.step_covers.specs.Worked.{difference_step, rest_step, goes_on_by, reached, IsWorkedStep, WorkedRunIsCovered, at_entry, at_load, at_compare}
use Rattle.step_covers.specs.Worked.{at_annulling, at_branch, at_delay, at_difference, at_rest, at_last_but_one, at_last}
use Rattle.transfer_acts.specs.Act.{act_at}
use Rattle.transfer_acts.specs.Step.{nothing, sets}
use Rattle.transfer_rules.specs.declared.act.Act.TheVariants.{Acts}
use Rattle.transfer_rules.specs.declared.act.Test.{Test}
use Rattle.transfer_rules.specs.declared.act.Test.TheVariants.{Always, When}
use Rattle.transfer_rules.specs.declared.act.Way.{Way}
use Rattle.transfer_rules.specs.declared.act.Way.TheVariants.{Onward}
use Rattle.transfer_rules.specs.declared.step.Source.TheVariants.{Exactly}
use Rattle.transfer_rules.specs.declared.step.Step.{Step}
use Rattle.transfer_values.specs.Step.{stepped}
use Rattle.transfer_values.specs.Test.{tested}
use Rattle.value_lattice.specs.Thresholds.{IsThresholds}

accepted : first_refusal image ≡ None
unfolding first_refusal checked_refusal header_refusal headers_refusal sections_refusal section_fault overlap_refusal overlap symbols_refusal
    limits_refusal word_field half_field section_at symbol_count functions
accepted = refl

bytes : AreBytes image
bytes = (Decides-by_and (λ b. nat_lt b 256) (λ b. b < 256) (list_all (λ b. nat_lt b 256)) (λ b. (ltb-true b 256, lt-ltb b 256)) refl
    (λ x xs. refl) image).0 refl

abbrev free : Free
free = record { first = 0; second = 0; flags = 0; taken = false }

is_free : IsFree free
is_free = record { first = omega arith; second = omega arith; flags = omega arith }

step_one : StepsTo image costs at_entry at_load
unfolding holder held word_field half_field section_at instruction_of
step_one = record { free = free; within = is_free; steps = refl }

step_two : StepsTo image costs at_load at_compare
unfolding holder held word_field half_field section_at instruction_of
step_two = record { free = free; within = is_free; steps = refl }

step_three : StepsTo image costs at_compare at_annulling
unfolding holder held word_field half_field section_at instruction_of
step_three = record { free = free; within = is_free; steps = refl }

step_four : StepsTo image costs at_annulling at_branch
unfolding holder held word_field half_field section_at instruction_of
step_four = record { free = free; within = is_free; steps = refl }

step_five : StepsTo image costs at_branch at_delay
unfolding holder held word_field half_field section_at instruction_of
step_five = record { free = free; within = is_free; steps = refl }

step_six : StepsTo image costs at_delay at_difference
unfolding holder held word_field half_field section_at instruction_of
step_six = record { free = free; within = is_free; steps = refl }

step_seven : StepsTo image costs at_difference at_rest
unfolding holder held word_field half_field section_at instruction_of
step_seven = record { free = free; within = is_free; steps = refl }

step_eight : StepsTo image costs at_rest at_last_but_one
unfolding holder held word_field half_field section_at instruction_of
step_eight = record { free = free; within = is_free; steps = refl }

step_nine : StepsTo image costs at_last_but_one at_last
unfolding holder held word_field half_field section_at instruction_of
step_nine = record { free = free; within = is_free; steps = refl }

-- at its entry
begins : BeginsAt 4096 at_entry
begins =
    record {
      machine =
          record {
            registers = refl;
            words = All-replicate (λ (word : ℕ). word < 2 ^ 32) 136 0 (omega arith);
            pc = omega arith;
            npc = omega arith;
            window = omega arith;
            mask = omega arith;
            loaded = omega arith;
          };
      pc = refl;
      npc = refl;
      mask = (1, omega arith, refl, λ same. omega arith);
    }

-- where a machine of the run stands
here_at : (m : Machine) (pc npc : ℕ) → IsMachine m → m.cwp ≡ 0 → m.pc ≡ pc → IsHere image (place_at pc npc) 0 m
here_at m pc npc machine window at =
    record {
      accepted = accepted;
      bytes = bytes;
      machine = machine;
      at = record { window = omega arith; shallow = omega arith; is = window; size = machine.registers };
      pc = at;
    }

-- a step of the run, of a machine in window 0
worked : (pc npc : ℕ) (step : Step) (way : Way) (m next : Machine) → IsMachine m → m.cwp ≡ 0 → m.pc ≡ pc
    → act_at image [] false (place_at pc npc) ≡ Acts step way
    → StepsTo image costs m next → IsWorkedStep (place_at pc npc) step way m next
worked pc npc step way m next machine window at act steps =
    record {
      here = here_at m pc npc machine window at;
      act = act;
      steps = steps;
      does = steps_do image costs [] false (place_at pc npc) step way 0 m next (here_at m pc npc machine window at) act steps;
    }

one : IsWorkedStep (place_at 4096 4100) (sets 0 8 (Exactly 4096) None) Onward at_entry at_load
unfolding holder held word_field half_field section_at instruction_of
one = worked 4096 4100 (sets 0 8 (Exactly 4096) None) Onward at_entry at_load begins.machine refl refl refl step_one

two : IsWorkedStep (place_at 4100 4104) load_step Onward at_load at_compare
unfolding holder held word_field half_field section_at instruction_of
two = worked 4100 4104 load_step Onward at_load at_compare (keeps_machines image costs at_entry at_load bytes begins.machine step_one) refl refl refl step_two

three : IsWorkedStep (place_at 4104 4108) compare_step Onward at_compare at_annulling
unfolding holder held word_field half_field section_at instruction_of
three =
    worked 4104 4108 compare_step Onward at_compare at_annulling
    (keeps_machines image costs at_load at_compare bytes two.here.machine step_two) refl refl refl step_three

four : IsWorkedStep (place_at 4108 4112) (nothing 0) annulling_way at_annulling at_branch
unfolding holder held word_field half_field section_at instruction_of
four =
    worked 4108 4112 (nothing 0) annulling_way at_annulling at_branch
    (keeps_machines image costs at_compare at_annulling bytes three.here.machine step_three) refl refl
    refl step_four

five : IsWorkedStep (place_at 4116 4120) (nothing 0) branch_way at_branch at_delay
unfolding holder held word_field half_field section_at instruction_of
five =
    worked 4116 4120 (nothing 0) branch_way at_branch at_delay
    (keeps_machines image costs at_annulling at_branch bytes four.here.machine step_four) refl refl refl step_five

six : IsWorkedStep (place_at 4120 4136) delay_step Onward at_delay at_difference
unfolding holder held word_field half_field section_at instruction_of
six =
    worked 4120 4136 delay_step Onward at_delay at_difference
    (keeps_machines image costs at_branch at_delay bytes five.here.machine step_five) refl refl refl step_six

seven : IsWorkedStep (place_at 4136 4140) difference_step Onward at_difference at_rest
unfolding holder held word_field half_field section_at instruction_of
seven =
    worked 4136 4140 difference_step Onward at_difference at_rest
    (keeps_machines image costs at_delay at_difference bytes six.here.machine step_six) refl refl refl step_seven

eight : IsWorkedStep (place_at 4140 4144) rest_step Onward at_rest at_last_but_one
unfolding holder held word_field half_field section_at instruction_of
eight =
    worked 4140 4144 rest_step Onward at_rest at_last_but_one
    (keeps_machines image costs at_difference at_rest bytes seven.here.machine step_seven) refl refl refl
    step_eight

nine : IsWorkedStep (place_at 4144 4148) rest_step Onward at_last_but_one at_last
unfolding holder held word_field half_field section_at instruction_of
nine =
    worked 4144 4148 rest_step Onward at_last_but_one at_last
    (keeps_machines image costs at_rest at_last_but_one bytes eight.here.machine step_eight) refl refl refl
    step_nine

-- the thresholds are some
rises : IsStrictlyIncreasing thresholds
rises zero within = omega arith
rises (suc k) within = absurd (omega arith)

are_thresholds : IsThresholds thresholds
are_thresholds =
    record {
      rising = rises;
      places =
          (Decides-by_and (λ k. nat_lt k (2 ^ 32)) (λ k. k < 2 ^ 32) (list_all (λ k. nat_lt k (2 ^ 32))) (λ k. (ltb-true k (2 ^ 32), lt-ltb k (2 ^ 32))) refl
          (λ x xs. refl) thresholds).0 refl;
      least = (0, omega arith, refl);
      greatest = (1, omega arith, refl);
    }

-- a state behind a step in a direction of it covers the next machine
covered_on : (p : Place) (step : Step) (way : Way) (test : Test) (m next : Machine) (o : Option State) → IsWorkedStep p step way m next → step.depth ≡ 0
    → IsTaken test (flags_in next) → IsCoveredSome thresholds o 0 (root_frame at_entry) m
    → IsCoveredSome thresholds (goes_on_by o step test) 0 (root_frame at_entry) next
covered_on p step way test m next None is shallow taken covered = covered
covered_on p step way test m next (Some s) is shallow taken covered =
    tested_on (stepped thresholds image step s)
    (subst (λ (d : ℕ). IsCoveredSome thresholds (stepped thresholds image step s) d (root_frame at_entry) next) shallow
    (steps_cover thresholds image step way s 0 (root_frame at_entry) m next covered (keeps_machines image costs m next bytes is.here.machine is.steps) is.does))
  where
    tested_on : (r : Option State) → IsCoveredSome thresholds r 0 (root_frame at_entry) next
        → IsCoveredSome thresholds (option_and_then (tested thresholds test) r) 0 (root_frame at_entry) next
    tested_on None there = there
    tested_on (Some r) there = tests_cover thresholds test r 0 (root_frame at_entry) next there taken

-- the entry's state covers the first machine
entered : IsCoveredSome thresholds (Some entry_state) 0 (root_frame at_entry) at_entry
entered =
    record {
      thresholds = are_thresholds;
      over = (writes_stand.entry) thresholds are_thresholds;
      machine = begins.machine;
      word = omega arith;
      covers = entries_cover (root_frame at_entry) begins.machine refl;
    }

covered : IsCoveredSome thresholds reached 0 (root_frame at_entry) at_last
covered =
    covered_on _ rest_step Onward Always at_last_but_one at_last _ nine refl tt
    (covered_on _ rest_step Onward Always at_rest at_last_but_one _ eight refl tt
    (covered_on _ difference_step Onward Always at_difference at_rest _ seven refl tt
    (covered_on _ delay_step Onward Always at_delay at_difference _ six refl tt
    (covered_on _ (nothing 0) branch_way (When 1 true) at_branch at_delay _ five refl (omega arith, refl)
    (covered_on _ (nothing 0) annulling_way (When 9 false) at_annulling at_branch _ four refl (omega arith, refl)
    (covered_on _ compare_step Onward Always at_compare at_annulling _ three refl tt
    (covered_on _ load_step Onward Always at_load at_compare _ two refl tt
    (covered_on _ (sets 0 8 (Exactly 4096) None) Onward Always at_entry at_load (Some entry_state) one refl tt entered))))))))

-- ten machines over an accepted file, with a load of a constant, a comparison, an annulling branch that isn't taken and a
-- branch that is: each step does what the act of its place says, and the state to which the steps lead covers the last
pub worked_run : WorkedRunIsCovered
worked_run =
    record {
      accepted = accepted;
      begins = begins;
      sets_address = one;
      loads = two;
      compares = three;
      annuls = four;
      branches = five;
      adds = six;
      subtracts = seven;
      rests = eight;
      ends = nine;
      covered = covered;
    }
