-- Straight code bounds its runs, and is one.
use Rattle.std.proofs.Common.{◌≡◌, ◌≢◌, ℕ, suc, ◌+◌, ◌-◌, ◌*◌, ◌<◌, ◌≤◌, ◌⊎◌, inl, inr, Bool, true, false, List, Some, refl, sym, ap, subst, ◌∙◌, arith}
use Rattle.std.proofs.lemmas.Bool.{cases_lt}
use Rattle.std.specs.Option.{option_map}
use Rattle.sparc_decode.specs.Instr.{instruction_of}
use Rattle.sparc_decode.specs.Register.{mask_of, registers_loaded}
use Rattle.sparc_decode.specs.declared.instruction.Instr.{Instr}
use Rattle.sparc_machine.specs.Effect.{code_word, step_cost}
use Rattle.sparc_machine.specs.Frame.{root_frame}
use Rattle.sparc_machine.specs.Run.{BoundsRuns}
use Rattle.sparc_machine.specs.Straight.{IsStraight, only_computes, leaves_link, passes, code_instruction, loads}
use Rattle.sparc_machine.specs.Straight.{loaded_before, cost_alone, code_cost, return_word, StraightCodeIsOne}
use Rattle.sparc_machine.specs.Straight.{IsBlocked, ArePassed, Leaves}
use Rattle.sparc_machine.proofs.StraightRuns.{code_cost_next, pair_most, from_place, the_return}

-- every run of straight code is straight, and within the cost of its words
pub bounded : (image costs : List ℕ) (entry count : ℕ) → IsStraight image entry count → BoundsRuns image costs entry count (code_cost image costs entry count)
bounded image costs entry count s first rest begins steps ends =
    let within = s.within in
    let long = s.long in
    let run = from_place image costs entry count s first.cycles 0 first rest (root_frame first) long
    (record { pc = begins.pc ∙ omega arith; spent = omega arith; behind = pair_most costs first.loaded })
    (begins.npc ∙ omega arith) steps (λ i h. ends i (omega arith)) in
    record {
      ends = omega (arith, run.ends);
      places = λ i m w e. (let at : m.pc ≡ entry + 4 * (0 + i) = run.places i m (omega arith) e in omega arith);
      spends = run.spends;
    }

-- the return doesn't compute alone
return_is_no_computation : passes only_computes (Some (instruction_of return_word)) ≡ false
return_is_no_computation = ap (λ x. only_computes x) the_return

no_computation_at : (image : List ℕ) (a : ℕ) → code_word image a ≡ Some return_word → passes only_computes (code_instruction image a) ≡ true → ⊥
no_computation_at image a word computes =
    let here : passes only_computes (code_instruction image a) ≡ false =
    ap (λ w. passes only_computes (option_map instruction_of w)) word ∙ return_is_no_computation in
    cc

-- straight code isn't shorter than straight code
not_shorter : (image : List ℕ) (entry m n : ℕ) → IsStraight image entry m → IsStraight image entry n → m < n → ⊥
not_shorter image entry m n a b less =
    let long = a.long in
    no_computation_at image (entry + 4 * (m - 2)) a.leave (b.compute (m - 2) (omega arith) (λ e. omega arith))

-- where the code from an entry on is straight, it is so with one number of words
pub is_one : StraightCodeIsOne
is_one image entry m n a b = elim (cases_lt m n) [
  | inl less ↦ absurd (not_shorter image entry m n a b less)
  | inr more ↦ elim (cases_lt n m) [
    | inl less ↦ absurd (not_shorter image entry n m b a less)
    | inr same ↦ omega arith
  ]
]

-- one word more that passes
pub passed_next : (image : List ℕ) (entry n : ℕ) (this : Instr) → ArePassed image entry n → code_instruction image (entry + 4 * n) ≡ Some this
    → only_computes this ≡ true → leaves_link this ≡ true → ArePassed image entry (n + 1)
passed_next image entry n this before here computes leaves =
    record {
      compute = each only_computes before.compute computes;
      link = each leaves_link before.link leaves;
    } where
      each : (test : Instr → Bool) → ((k : ℕ) → k < n → passes test (code_instruction image (entry + 4 * k)) ≡ true) → test this ≡ true
          → (k : ℕ) → k < n + 1 → passes test (code_instruction image (entry + 4 * k)) ≡ true
      each test earlier last k h = elim (cases_lt k n) [
        | inl less ↦ earlier k less
        | inr more ↦
            let is : n ≡ k = omega arith in
            subst (λ (x : ℕ). passes test (code_instruction image (entry + 4 * x)) ≡ true) is (ap (passes test) here ∙ last)
      ]

-- what is loaded before the word behind one
pub loaded_next : (image : List ℕ) (entry n : ℕ) (this : Instr) → code_instruction image (entry + 4 * n) ≡ Some this
    → mask_of (registers_loaded this) ≡ loaded_before image entry (n + 1)
loaded_next image entry n this here =
    let place : suc n ≡ n + 1 = omega arith in
    sym (ap loads here) ∙ ap (loaded_before image entry) place

-- what one word more costs
pub cost_next : (image costs : List ℕ) (entry n before : ℕ) (this : Instr) → code_instruction image (entry + 4 * n) ≡ Some this
    → before ≡ loaded_before image entry n
    → code_cost image costs entry (n + 1) ≡ code_cost image costs entry n + step_cost costs before this false
cost_next image costs entry n before this here is =
    code_cost_next image costs entry n
    ∙ (λ i. code_cost image costs entry n + cost_alone costs (sym is i) (here i))

-- words that pass, and a return with its delay instruction behind them, are straight code
pub straight_of : (image costs : List ℕ) (entry i spent : ℕ) → i ≤ 131070 → ArePassed image entry i → Leaves image costs entry i spent
    → IsStraight image entry (i + 2)
straight_of image costs entry i spent few before last =
    record {
      long = omega arith;
      few = omega arith;
      within = last.within;
      leave = (let same : i + 2 - 2 ≡ i = omega arith in subst (λ (k : ℕ). code_word image (entry + 4 * k) ≡ Some return_word) (sym same) last.leave);
      compute = computes;
      link = λ k h. before.link k (omega arith);
    } where
      computes : (k : ℕ) → k < i + 2 → k + 2 ≢ i + 2 → passes only_computes (code_instruction image (entry + 4 * k)) ≡ true
      computes k h other = elim (cases_lt k i) [
        | inl less ↦ before.compute k less
        | inr more ↦
            let is : i + 1 ≡ k = elim (cases_lt i k) [ inl above ↦ omega arith | inr same ↦ absurd (other (omega arith)) ] in
            subst (λ (x : ℕ). passes only_computes (code_instruction image (entry + 4 * x)) ≡ true) is last.delay
      ]

-- and they are all the straight code there is
pub all_straight : (image costs : List ℕ) (entry i count : ℕ) → i ≤ 131070 → ArePassed image entry i → (i ≡ 131070) ⊎ IsBlocked image entry i
    → IsStraight image entry count → Leaves image costs entry i
    (cost_alone costs (loaded_before image entry i) (code_instruction image (entry + 4 * i))
    + cost_alone costs (loaded_before image entry (suc i)) (code_instruction image (entry + 4 * (i + 1))))
all_straight image costs entry i count few before stops s =
    let long = s.long in let short = s.few in let within = s.within in
    let same : i + 2 ≡ count = elim (cases_lt (i + 2) count) [
      | inl less ↦ elim stops [
        | inl limit ↦ absurd (omega arith)
        | inr blocked ↦
            let no = blocked (omega arith) (s.compute i (omega arith) (λ e. omega arith)) in
            let yes = s.link i (omega arith) in
            cc
      ]
      | inr more ↦ elim (cases_lt count (i + 2)) [
        | inl less ↦ absurd (no_computation_at image (entry + 4 * (count - 2)) s.leave (before.compute (count - 2) (omega arith)))
        | inr is ↦ omega arith
      ]
    ] in
    let place : count - 2 ≡ i = omega arith in
    record {
      within = omega arith;
      leave = subst (λ (k : ℕ). code_word image (entry + 4 * k) ≡ Some return_word) place s.leave;
      delay = s.compute (i + 1) (omega arith) (λ e. omega arith);
      cost = refl;
    }

-- the cost of the words before the return, and of that and its delay instruction
pub whole_cost : (image costs : List ℕ) (entry i before spent : ℕ) → before ≡ code_cost image costs entry i → Leaves image costs entry i spent
    → before + spent ≡ code_cost image costs entry (i + 2)
whole_cost image costs entry i before spent are last =
    let place : i + 1 ≡ suc i = omega arith in
    let next : code_cost image costs entry (i + 1 + 1) ≡ code_cost image costs entry (i + 1) + cost_alone costs (loaded_before image entry (suc i))
    (code_instruction image (entry + 4 * (i + 1))) =
    code_cost_next image costs entry (i + 1)
    ∙ ap (λ (these : ℕ). code_cost image costs entry (i + 1) + cost_alone costs these (code_instruction image (entry + 4 * (i + 1))))
    (ap (loaded_before image entry) place) in
    let first = code_cost_next image costs entry i in
    let same : code_cost image costs entry (i + 1 + 1) ≡ code_cost image costs entry (i + 2) = ap (code_cost image costs entry) (omega arith) in
    let own = last.cost in
    omega arith
