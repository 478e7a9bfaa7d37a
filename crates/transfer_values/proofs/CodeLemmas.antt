-- What the code comes to, step by step.
use Rattle.std.proofs.Common.{◌≡◌, ℕ, suc, ◌+◌, ◌-◌, ◌^◌, ◌<◌, ◌≤◌, Bool, true, false, List, [], ◌∷◌, ◌++◌, length, get_or, drop, Option, Some, None}
use Rattle.std.proofs.Common.{refl, sym, ap, subst, ◌∙◌, arith, append_assoc, append-nil}
use Rattle.std.specs.Prelude.{ℤ, filter, if◌then◌else◌}
use Rattle.std.specs.List.{range_with_len}
use Rattle.std.proofs.lemmas.List.Elements.{All-contains}
use Rattle.std.specs.Option.{option_map, option_and_then}
use Rattle.std.proofs.lemmas.List.{at_drop_more, at_drop_all}
use Rattle.bt_image.specs.Image.{word}
use Rattle.value_lattice.proofs.TestLemmas.{over_decides}
use Rattle.value_lattice.specs.Least.{top}
use Rattle.value_lattice.specs.Test.{is_over_or_none as is_value_over_or_none}
use Rattle.value_lattice.specs.Thresholds.{IsThresholds}
use Rattle.value_lattice.specs.Value.{IsOver, IsValue, is_some_ret}
use Rattle.value_lattice.specs.declared.value.Value.{Value}
use Rattle.value_lattice.specs.declared.value.Value.TheVariants.{Words, Range, Ret}
use Rattle.value_ops.specs.Operation.{apply}
use Rattle.value_ops.specs.declared.op.Op.{Op}
use Rattle.value_ops.specs.declared.op.Op.TheVariants.{Add}
use Rattle.assert_bind.specs.Binding.{range}
use Rattle.assert_bind.specs.declared.body.BoundAssertion.{BoundAssertion}
use Rattle.call_effects.specs.Cell.{cell_of}
use Rattle.abs_state.specs.State.{State, cell_at, is_state_over}
use Rattle.abs_state.specs.declared.flags.Right.{Right}
use Rattle.abs_state.specs.declared.key.Place.{Place}
use Rattle.transfer_rules.specs.declared.step.Source.{Source}
use Rattle.transfer_rules.specs.declared.step.Source.TheVariants.{Anything, Exactly, Ranged, Applied, Loaded}
use Rattle.transfer_rules.specs.declared.step.Step.{Step}
use Rattle.transfer_values.specs.Narrow.{narrowed_to, narrowed_by, narrowed_from, narrowed}
use Rattle.transfer_values.specs.Source.{word_of, operand, is_aligned, words_at, loaded_from, loaded, ranged, source_value}
use Rattle.transfer_values.specs.Step.{outcome, written, flagged, stepped}
use Rattle.transfer_values.specs.Test.{left_with}
use Rattle.transfer_values.specs.declared.stepping.Outcome.{Outcome}
use Rattle.transfer_values.proofs.PartLemmas.{cell_over, left_over, some_over}
use Rattle.transfer_values.proofs.SourceLemmas.{operand_over, source_over, AreReadIn, read_in, are_read}

-- a cell is over the thresholds
pub cell_is_over : (t : List ℕ) (s : State) (c : ℕ) → IsThresholds t → is_state_over t s ≡ true → IsOver t (cell_at s c)
cell_is_over t s c is fits = (over_decides t (cell_at s c)).0 (cell_over t s c is fits)

-- an operand is over the thresholds
pub operand_is_over : (t : List ℕ) (s : State) (r : Right) → IsThresholds t → is_state_over t s ≡ true → IsOver t (operand s r)
operand_is_over t s r is fits = (over_decides t (operand s r)).0 (operand_over t s r is fits)

-- words that are read one after the other
map_same : (o : Option (List ℕ)) → option_map (λ ws. [] ++ ws) o ≡ o
map_same None = refl
map_same (Some ws) = refl

pub words_begin : (image addresses : List ℕ) → option_map (λ ws. [] ++ ws) (words_at image (drop 0 addresses)) ≡ words_at image addresses
words_begin image addresses = map_same (words_at image addresses)

map_more : (read : List ℕ) (w : ℕ) (o : Option (List ℕ))
    → option_map (λ ws. (read ++ w ∷ []) ++ ws) o ≡ option_map (λ ws. read ++ ws) (option_map (λ ws. w ∷ ws) o)
map_more read w None = refl
map_more read w (Some ws) = ap Some (append_assoc read (w ∷ []) ws)

pub words_more : (image addresses read all : List ℕ) (i w d : ℕ) → i < length addresses → w < 2 ^ 32 → Some w ≡ word image (get_or addresses i d)
    → option_map (λ ws. read ++ ws) (words_at image (drop i addresses)) ≡ words_at image all
    → option_map (λ ws. (read ++ w ∷ []) ++ ws) (words_at image (drop (i + 1) addresses)) ≡ words_at image all
words_more image addresses read all i w d within fits is before =
    let rest : List ℕ = drop (i + 1) addresses in
    let whole : word_of w ≡ w = omega arith in
    let here : words_at image (drop i addresses) ≡ words_at image (get_or addresses i d ∷ rest) = at_drop_more (words_at image) addresses i d within in
    let next : words_at image (get_or addresses i d ∷ rest) ≡ option_map (λ ws. word_of w ∷ ws) (words_at image rest) =
    ap (λ (o : Option ℕ). option_and_then (λ v. option_map (λ ws. word_of v ∷ ws) (words_at image rest)) o) (sym is) in
    let so : words_at image (drop i addresses) ≡ option_map (λ ws. w ∷ ws) (words_at image rest) =
    here ∙ next ∙ ap (λ (v : ℕ). option_map (λ ws. v ∷ ws) (words_at image rest)) whole in
    map_more read w (words_at image rest) ∙ ap (option_map (λ ws. read ++ ws)) (sym so) ∙ before

pub words_stop : (image addresses read all : List ℕ) (i d : ℕ) → i < length addresses → None ≡ word image (get_or addresses i d)
    → option_map (λ ws. read ++ ws) (words_at image (drop i addresses)) ≡ words_at image all → None ≡ words_at image all
words_stop image addresses read all i d within is before =
    let rest : List ℕ = drop (i + 1) addresses in
    let here : words_at image (drop i addresses) ≡ words_at image (get_or addresses i d ∷ rest) = at_drop_more (words_at image) addresses i d within in
    let next : words_at image (get_or addresses i d ∷ rest) ≡ None =
    ap (λ (o : Option ℕ). option_and_then (λ v. option_map (λ ws. word_of v ∷ ws) (words_at image rest)) o) (sym is) in
    sym (ap (option_map (λ ws. read ++ ws)) (here ∙ next)) ∙ before

pub words_end : (image addresses read all : List ℕ) (i : ℕ) → length addresses ≤ i
    → option_map (λ ws. read ++ ws) (words_at image (drop i addresses)) ≡ words_at image all → Some read ≡ words_at image all
words_end image addresses read all i past before =
    let gone : words_at image (drop i addresses) ≡ Some [] = at_drop_all (words_at image) addresses i past in
    ap Some (sym (append-nil read)) ∙ sym (ap (option_map (λ ws. read ++ ws)) gone) ∙ before

-- as many words are read as there are addresses
pub words-length : (image addresses words : List ℕ) → Some words ≡ words_at image addresses → length words ≡ length addresses
words-length image addresses words is =
    let r : AreReadIn image addresses words = read_in image addresses words (λ a there. are_read image addresses words (sym is) a there) in
    let same : words ≡ r.read = let e = is ∙ r.are in cc in
    ap length same ∙ r.many

-- what is loaded
pub loaded_words : (t image words members addresses slice : List ℕ) (v : Value) → v ≡ Words words → members ≡ words → addresses ≡ filter is_aligned members
    → slice ≡ addresses → loaded_from t image slice ≡ loaded t image v
unfolding loaded
loaded_words t image words members addresses slice v is same kept also =
    ap (loaded_from t image) (also ∙ kept ∙ ap (filter is_aligned) same) ∙ ap (loaded t image) (sym is)

-- a load from a range of addresses is any word
pub loaded_range : (t image : List ℕ) (lo hi : ℤ) (v u : Value) → v ≡ Range lo hi → u ≡ top → Some u ≡ loaded t image v
unfolding loaded
loaded_range t image lo hi v u is same = ap Some same ∙ ap (loaded t image) (sym is)

-- a load from the return address is any word
pub loaded_ret : (t image : List ℕ) (v u : Value) → v ≡ Ret → u ≡ top → Some u ≡ loaded t image v
unfolding loaded
loaded_ret t image v u is same = ap Some same ∙ ap (loaded t image) (sym is)

-- what a source writes
module _ (t image : List ℕ) (s : State) (source : Source) (u : Value) where
  -- a source of anything is any word
  pub source_anything : source ≡ Anything → u ≡ top → Some u ≡ source_value t image s source
  unfolding source_value
  source_anything is same = ap Some same ∙ ap (source_value t image s) (sym is)

  -- a source of a word is that word
  pub source_exactly : (w : ℕ) → source ≡ Exactly w → u ≡ Words (w ∷ []) → IsOver t u → Some u ≡ source_value t image s source
  unfolding source_value
  source_exactly w is same over =
      let o : IsOver t (Words (w ∷ [])) = subst (IsOver t) same over in
      let fits : w < 2 ^ 32 = All-contains (λ x. x < 2 ^ 32) (w ∷ []) w o.value.fits (0, omega arith, refl) in
      let whole : w ≡ word_of w = omega arith in
      ap Some same ∙ ap (λ (n : ℕ). Some (Words (n ∷ []))) whole ∙ ap (source_value t image s) (sym is)

  -- a source of a range is the range
  pub source_ranged : (lo hi : ℤ) → source ≡ Ranged lo hi → u ≡ ranged t lo hi → Some u ≡ source_value t image s source
  unfolding source_value
  source_ranged lo hi is same = ap Some same ∙ ap (source_value t image s) (sym is)

  -- a source of an operation is its result
  pub source_applied : (op : Op) (left right : Right) → source ≡ Applied op left right → u ≡ apply t op (operand s left) (operand s right)
      → Some u ≡ source_value t image s source
  unfolding source_value
  source_applied op left right is same = ap Some same ∙ ap (source_value t image s) (sym is)

  -- a loaded source is what is loaded from the sum
  pub source_loaded : (left right : Right) → source ≡ Loaded left right → u ≡ apply t Add (operand s left) (operand s right)
      → loaded t image u ≡ source_value t image s source
  unfolding source_value
  source_loaded left right is same = ap (loaded t image) same ∙ ap (source_value t image s) (sym is)

-- what a source comes to is a value over the thresholds
pub source_is_value : (t image : List ℕ) (s : State) (source : Source) (o : Option Value) (v : Value) → IsThresholds t → is_state_over t s ≡ true
    → o ≡ source_value t image s source → o ≡ Some v → IsValue v
source_is_value t image s source o v is fits here some =
    ((over_decides t v).0 (ap (is_value_over_or_none t) (sym some ∙ here) ∙ source_over t image s source is fits)).value

-- the state behind a step
if_true : (b : Bool) (s : State) (o : Option State) → (if b then Some s else None) ≡ o → b ≡ true → Some s ≡ o
if_true true s o is yes_it_is = is
if_true false s o is it_is_not = cc

if_false : (b : Bool) (s : State) (o : Option State) → (if b then Some s else None) ≡ o → b ≡ false → None ≡ o
if_false true s o is it_is_not = cc
if_false false s o is yes_it_is = is

module _ (t image : List ℕ) (step : Step) (s : State) (o : Outcome) (b : Bool) (u : State)
    (first : (v : State) → outcome o v ≡ written t image s step.first v) (wrote : (if b then Some u else None) ≡ outcome o s) where
  -- a step stops where its first write has no value
  pub stops_first : b ≡ false → None ≡ stepped t image step s
  unfolding stepped
  stops_first none =
      let e : None ≡ written t image s step.first s = if_false b u (outcome o s) wrote none ∙ first s in
      ap (λ (x : Option State). option_map (flagged step.flags) (option_and_then (written t image s step.second) x)) e

  behind_first : b ≡ true → option_map (flagged step.flags) (written t image s step.second u) ≡ stepped t image step s
  unfolding stepped
  behind_first some =
      let e : Some u ≡ written t image s step.first s = if_true b u (outcome o s) wrote some ∙ first s in
      ap (λ (x : Option State). option_map (flagged step.flags) (option_and_then (written t image s step.second) x)) e

  module _ (p : Outcome) (d : Bool) (x : State) (some : b ≡ true)
      (second : (v : State) → outcome p v ≡ written t image s step.second v) (also : (if d then Some x else None) ≡ outcome p u) where
    -- a step stops where its second write has no value
    pub stops_second : d ≡ false → None ≡ stepped t image step s
    stops_second none =
        let e : None ≡ written t image s step.second u = if_false d x (outcome p u) also none ∙ second u in
        ap (option_map (flagged step.flags)) e ∙ behind_first some

    -- a step goes on where both writes have values
    pub goes_on : (y : State) → d ≡ true → y ≡ flagged step.flags x → Some y ≡ stepped t image step s
    goes_on y more is =
        let e : Some x ≡ written t image s step.second u = if_true d x (outcome p u) also more ∙ second u in
        ap Some is ∙ ap (option_map (flagged step.flags)) e ∙ behind_first some

-- what is left of a cell
pub keep_over : (t : List ℕ) (s : State) (c : ℕ) (r : Option Value) (b : Bool) (u : State) → (if b then Some u else None) ≡ left_with c s r
    → is_state_over t s ≡ true → is_value_over_or_none t r ≡ true → is_some_ret r ≡ false → b ≡ true → is_state_over t u ≡ true
keep_over t s c r b u is fits over words some =
    some_over t (left_with c s r) u (left_over t s c r fits over words) (sym (if_true b u (left_with c s r) is some))

-- one register more is narrowed
pub narrow_begins : (t : List ℕ) (list : List BoundAssertion) (p : Place) (s u : State) → u ≡ s → narrowed_from t list p 1 u ≡ narrowed t list p s
unfolding narrowed narrowed_from
narrow_begins t list p s u is = ap (narrowed_by t list p (range_with_len 1 31)) is

from_less : (t : List ℕ) (list : List BoundAssertion) (p : Place) (r : ℕ) (s : State) → r < 32
    → narrowed_from t list p r s ≡ option_and_then (narrowed_from t list p (r + 1)) (narrowed_to t (range list p.pc r) (cell_of p.depth r) s)
unfolding narrowed_from
from_less t list p r s low =
    let e : 32 - r ≡ suc (32 - (r + 1)) = omega arith in
    ap (λ (n : ℕ). narrowed_by t list p (range_with_len r n) s) e

from_end : (t : List ℕ) (list : List BoundAssertion) (p : Place) (r : ℕ) (s : State) → 32 ≤ r → narrowed_from t list p r s ≡ Some s
unfolding narrowed_from
from_end t list p r s past = let e : 32 - r ≡ 0 = omega arith in ap (λ (n : ℕ). narrowed_by t list p (range_with_len r n) s) e

-- the ranges of one register more are met
pub narrow_more : (t : List ℕ) (list : List BoundAssertion) (p : Place) (r c : ℕ) (o : Option (ℤ × ℤ)) (b : Bool) (s u all : State) → r < 32
    → o ≡ range list p.pc r → c ≡ cell_of p.depth r → (if b then Some u else None) ≡ narrowed_to t o c s → b ≡ true
    → narrowed_from t list p r s ≡ narrowed t list p all → narrowed_from t list p (r + 1) u ≡ narrowed t list p all
narrow_more t list p r c o b s u all low asserted cell is some before =
    ap (option_and_then (narrowed_from t list p (r + 1)))
    (if_true b u (narrowed_to t o c s) is some ∙ ap (λ (x : Option (ℤ × ℤ)). narrowed_to t x c s) asserted
    ∙ ap (λ (k : ℕ). narrowed_to t (range list p.pc r) k s) cell)
    ∙ sym (from_less t list p r s low) ∙ before

-- the state stops where a register meets no word of its range
pub narrow_stops : (t : List ℕ) (list : List BoundAssertion) (p : Place) (r c : ℕ) (o : Option (ℤ × ℤ)) (b : Bool) (s u all : State) → r < 32
    → o ≡ range list p.pc r → c ≡ cell_of p.depth r → (if b then Some u else None) ≡ narrowed_to t o c s → b ≡ false
    → narrowed_from t list p r s ≡ narrowed t list p all → None ≡ narrowed t list p all
narrow_stops t list p r c o b s u all low asserted cell is none before =
    ap (option_and_then (narrowed_from t list p (r + 1)))
    (if_false b u (narrowed_to t o c s) is none ∙ ap (λ (x : Option (ℤ × ℤ)). narrowed_to t x c s) asserted
    ∙ ap (λ (k : ℕ). narrowed_to t (range list p.pc r) k s) cell)
    ∙ sym (from_less t list p r s low) ∙ before

-- behind the last register nothing more is narrowed
pub narrow_ends : (t : List ℕ) (list : List BoundAssertion) (p : Place) (r : ℕ) (s all : State) → 32 ≤ r
    → narrowed_from t list p r s ≡ narrowed t list p all → Some s ≡ narrowed t list p all
narrow_ends t list p r s all past before = sym (from_end t list p r s past) ∙ before
