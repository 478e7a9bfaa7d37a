-- What states say of cells.
use Rattle.std.proofs.Common.{◌≡◌, ◌≢◌, ℕ, zero, suc, ◌+◌, ◌^◌, ◌<◌, ◌⊎◌, inl, inr, Bool, true, false, List, [], ◌∷◌, length, refl, sym, ap, subst, ◌∙◌, arith}
use Rattle.std.specs.Prelude.{◌==◌, if◌then◌else◌, slice_set}
use Rattle.std.proofs.lemmas.Bool.{cases_lt, and_parts}
use Rattle.std.proofs.lemmas.Bool.Decides.{nat_tests, eqb_tells}
use Rattle.std.proofs.lemmas.List.{get_or_past, get_or-set_same, get_or-set_other}
use Rattle.std.proofs.lemmas.List.FromFn.{get_or-map-range_with_len}
use Rattle.abs_state.proofs.CellsLemmas.{cells_at, cells_length}
use Rattle.abs_state.proofs.FlagsLemmas.{up_cases}
use Rattle.abs_state.specs.Flags.{flags_at_most}
use Rattle.abs_state.specs.State.{cell_in, cell_at, entry_cell, entry_cells, entry_state, with_value, forgotten, forgotten_from}
use Rattle.abs_state.specs.declared.flags.Flags.{Flags as Known}
use Rattle.call_effects.specs.Mask.{has_cell}
use Rattle.cell_places.proofs.PlaceLemmas.{content_word, registers_hold_contents, with_content-same, with_content-other, with_content-zero}
use Rattle.cell_places.specs.Place.{content_of, with_content, window_at}
use Rattle.sparc_machine.specs.Effect.{flags_in}
use Rattle.sparc_machine.specs.Machine.{register_of}
use Rattle.sparc_runs.proofs.Bounds.{register_word}
use Rattle.state_covers.proofs.FlagLemmas.{mean_written}
use Rattle.state_covers.specs.Covers.{AreContents, FlagsMean}
use Rattle.state_covers.specs.Law.{EntriesCover, EntriesSay, GreaterStatesCover, GreaterStatesSay, MachinesHaveContents, WritesSay}
use Rattle.value_lattice.proofs.TestLemmas.{ordered, under_any}
use Rattle.value_lattice.specs.Height.{are_at_most}
use Rattle.value_lattice.specs.Least.{top}
use Rattle.value_lattice.specs.Value.{Has}
use Rattle.value_lattice.specs.declared.value.Value.{Value}
use Rattle.value_lattice.specs.declared.value.Value.TheVariants.{Words, Ret}

-- any word is one that top has
pub top_has : (w ra : ℕ) → w < 2 ^ 32 → Has top w ra
top_has w ra within = (under_any Ret).words w w within within refl

-- the cells of a machine's frame hold words, and cell 0 holds 0
pub machines_have_contents : MachinesHaveContents
machines_have_contents m cwp is = record { words = λ c low. content_word cwp m c is; zero_cell = refl }

-- a state that is at least one that is right about cells and condition codes is right about them
pub greater_states_say : GreaterStatesSay
greater_states_say a b ra contents f up are address says =
    record {
      cells = cells;
      flags = elim (up_cases a.flags b.flags parts.1) [
        | inl same ↦ subst (λ (k : Known). FlagsMean k contents f) same says.flags
        | inr none ↦ subst (λ (k : Known). FlagsMean k contents f) (sym none) tt
      ];
    }
  where
    parts : (are_at_most a.cells b.cells ≡ true) × (flags_at_most a.flags b.flags ≡ true)
    parts = and_parts (are_at_most a.cells b.cells) (flags_at_most a.flags b.flags) up

    cells : (c : ℕ) → c < 48 → Has (cell_at b c) (contents c) ra
    cells c low = elim (cases_lt c (length a.cells)) [
      | inl inside ↦
          (ordered (cell_at a c) (cell_at b c) (cells_at a.cells b.cells c parts.0 inside)).up.words (contents c) ra ((are.words) c low) address
          ((says.cells) c low)
      | inr past ↦
          (let same = cells_length a.cells b.cells parts.0 in
          subst (λ (v : Value). Has v (contents c) ra) (sym (get_or_past b.cells c top (omega arith))) (top_has (contents c) ra ((are.words) c low)))
    ]

-- a state that is at least one that covers a machine covers it
pub greater_states_cover : GreaterStatesCover
greater_states_cover a b depth F m up is address covers =
    record {
      window = covers.window;
      says = greater_states_say a b F.caller (content_of m F.start.cwp) (flags_in m) up (machines_have_contents m F.start.cwp is) address covers.says;
    }

-- the value of a cell behind a write of a cell
pub value_there : (cells : List Value) (c : ℕ) (v : Value) → c ≢ 0 → c < length cells → cell_in (with_value cells c v) c ≡ v
value_there cells c v some inside =
    let t : (c == 0) ≡ false = grind (arith, nat_tests) in
    rw t (get_or-set_same cells c v top inside)

pub value_elsewhere : (cells : List Value) (c k : ℕ) (v : Value) → (k ≢ c) ⊎ (c ≡ 0) → cell_in (with_value cells c v) k ≡ cell_in cells k
value_elsewhere cells c k v (inr none) = let t : (c == 0) ≡ true = grind (arith, nat_tests) in rw t refl
value_elsewhere cells c k v (inl other) = by (c == 0) where
  by : (b : Bool) → cell_in (if b then cells else slice_set cells c v) k ≡ cell_in cells k
  by true = refl
  by false = get_or-set_other cells c k v top other

-- a cell is the one that is written, or it stays
data Hit (c k : ℕ) : Type 0 where
  hit : k ≡ c → c ≢ 0 → Hit c k
  missed : (k ≢ c) ⊎ (c ≡ 0) → Hit c k

hits : (c k : ℕ) → Hit c k
hits c k = elim (eqb_tells k c) [
  | inr other ↦ missed (inl other.1)
  | inl same ↦ elim (eqb_tells c 0) [ inl none ↦ missed (inr none.1) | inr some ↦ hit same.1 some.1 ]
]

content_elsewhere : (contents : ℕ → ℕ) (c w k : ℕ) → (k ≢ c) ⊎ (c ≡ 0) → with_content contents c w k ≡ contents k
content_elsewhere contents c w k (inl other) = with_content-other contents c w k other
content_elsewhere contents c w k (inr none) = with_content-zero contents c w k none

-- what a written cell holds its value has
written : (cells : List Value) (ra : ℕ) (contents : ℕ → ℕ) (c w : ℕ) (v : Value) → length cells ≡ 48 → Has v w ra
    → ((k : ℕ) → k < 48 → Has (cell_in cells k) (contents k) ra) → (k : ℕ) → k < 48 → Has (cell_in (with_value cells c v) k) (with_content contents c w k) ra
written cells ra contents c w v size has each k low = go (hits c k) where
  go : Hit c k → Has (cell_in (with_value cells c v) k) (with_content contents c w k) ra
  go (hit same some) =
      subst (λ (j : ℕ). Has (cell_in (with_value cells c v) j) (with_content contents c w j) ra) (sym same)
      (subst (λ (u : Value). Has u (with_content contents c w c) ra) (sym (value_there cells c v some (omega arith)))
      (subst (λ (x : ℕ). Has v x ra) (sym (with_content-same contents c w some)) has))
  go (missed other) =
      subst (λ (u : Value). Has u (with_content contents c w k) ra) (sym (value_elsewhere cells c k v other))
      (subst (λ (x : ℕ). Has (cell_in cells k) x ra) (sym (content_elsewhere contents c w k other)) (each k low))

-- another value of what a cell holds
valued : (cells : List Value) (ra : ℕ) (contents : ℕ → ℕ) (c : ℕ) (v : Value) → length cells ≡ 48 → Has v (contents c) ra
    → ((k : ℕ) → k < 48 → Has (cell_in cells k) (contents k) ra) → (k : ℕ) → k < 48 → Has (cell_in (with_value cells c v) k) (contents k) ra
valued cells ra contents c v size has each k low = go (hits c k) where
  go : Hit c k → Has (cell_in (with_value cells c v) k) (contents k) ra
  go (hit same some) =
      subst (λ (j : ℕ). Has (cell_in (with_value cells c v) j) (contents j) ra) (sym same)
      (subst (λ (u : Value). Has u (contents c) ra) (sym (value_there cells c v some (omega arith))) has)
  go (missed other) = subst (λ (u : Value). Has u (contents k) ra) (sym (value_elsewhere cells c k v other)) (each k low)

-- the value of a cell behind forgetting
forgotten_at : (mask j : ℕ) (cells : List Value) (i : ℕ) → i < length cells
    → cell_in (forgotten_from mask j cells) i ≡ (if has_cell mask (j + i) then top else cell_in cells i)
forgotten_at mask j [] i inside = absurd (omega arith)
forgotten_at mask j (v ∷ vs) zero inside = let e : j + 0 ≡ j = omega arith in ap (λ (k : ℕ). if has_cell mask k then top else v) (sym e)
forgotten_at mask j (v ∷ vs) (suc i) inside =
    let e : j + 1 + i ≡ j + suc i = omega arith in
    forgotten_at mask (j + 1) vs i (omega arith) ∙ ap (λ (k : ℕ). if has_cell mask k then top else cell_in vs i) e

forgets : (mask : ℕ) (cells : List Value) (ra : ℕ) (old new : ℕ → ℕ) → length cells ≡ 48 → AreContents new → old 0 ≡ 0
    → ((c : ℕ) → c < 48 → has_cell mask c ≡ false → new c ≡ old c) → ((k : ℕ) → k < 48 → Has (cell_in cells k) (old k) ra)
    → (k : ℕ) → k < 48 → Has (cell_in (forgotten mask cells) k) (new k) ra
forgets mask [] ra old new size are none same each k low = absurd (omega arith)
forgets mask (v ∷ vs) ra old new size are none same each zero low = subst (λ (x : ℕ). Has v x ra) (none ∙ sym are.zero_cell) (each 0 low)
forgets mask (v ∷ vs) ra old new size are none same each (suc k) low =
    let e : 1 + k ≡ suc k = omega arith in
    subst (λ (u : Value). Has u (new (suc k)) ra)
    (sym (forgotten_at mask 1 vs k (omega arith) ∙ ap (λ (j : ℕ). if has_cell mask j then top else cell_in vs k) e)) (by (has_cell mask (suc k)) refl)
  where
    by : (b : Bool) → has_cell mask (suc k) ≡ b → Has (if b then top else cell_in vs k) (new (suc k)) ra
    by true is = top_has (new (suc k)) ra ((are.words) (suc k) low)
    by false is = subst (λ (x : ℕ). Has (cell_in vs k) x ra) (sym (same (suc k) low is)) (each (suc k) low)

-- a state stays right where what is written to it is written to the cells
pub writes_say : WritesSay
writes_say =
    record {
      cell = λ s ra contents f c w v size has says. record {
        cells = written s.cells ra contents c w v size has says.cells;
        flags = mean_written s.flags contents f c w says.flags;
      };
      value = λ s ra contents f c v size has says. record { cells = valued s.cells ra contents c v size has says.cells; flags = says.flags };
      flags = λ s ra contents f next known means says. record { cells = says.cells; flags = means };
      forgotten = λ s ra mask old new f next size are none same says.
          record { cells = forgets mask s.cells ra old new size are none same says.cells; flags = tt };
    }

-- the value of a cell at an entry
pub entry_at : (c : ℕ) → c < 48 → cell_at entry_state c ≡ entry_cell c
unfolding entry_cells
entry_at c low = get_or-map-range_with_len entry_cell 0 48 c c top low (omega arith)

-- the state of a subprogram's entry is right where r15 holds the return address
pub entries_say : EntriesSay
entries_say ra contents f are link address = record { cells = cells; flags = tt } where
  cells : (c : ℕ) → c < 48 → Has (cell_at entry_state c) (contents c) ra
  cells c low = subst (λ (v : Value). Has v (contents c) ra) (sym (entry_at c low)) (elim (eqb_tells c 0) [
    | inl none ↦ subst (λ (k : ℕ). Has (entry_cell k) (contents k) ra) (sym none.1)
        (subst (λ (x : ℕ). Has (Words (0 ∷ [])) x ra) (sym are.zero_cell) (0, omega arith, refl))
    | inr some ↦ elim (eqb_tells c 15) [
      | inl is ↦ subst (λ (k : ℕ). Has (entry_cell k) (contents k) ra) (sym is.1) link
      | inr other ↦ (let t = some.0 in let u = other.0 in rw (t, u) (top_has (contents c) ra ((are.words) c low)))
    ]
  ])

-- the state of a subprogram's entry covers the first machine of its frame
pub entries_cover : EntriesCover
entries_cover F is link =
    let w = is.window in
    let at : F.start.cwp ≡ window_at F.start.cwp 0 = omega arith in
    let own : register_of F.start 15 ≡ content_of F.start F.start.cwp 15 =
    (registers_hold_contents.read) F.start.cwp 0 F.start 15 (record { window = is.window; shallow = omega arith; is = at; size = is.registers })
    (omega arith) in
    record {
      window = at;
      says = entries_say F.caller (content_of F.start F.start.cwp) (flags_in F.start) (machines_have_contents F.start F.start.cwp is) (sym own ∙ link)
          (subst (λ (x : ℕ). x < 2 ^ 32) link (register_word F.start 15 is));
    }
