-- A walk over words without a fault keeps that the rows are fit, and so do the defaults after it.
use Rattle.std.proofs.Common.{◌≡◌, ◌&&◌, ◌||◌, ℕ, Bool, cond, true, false, zero, suc, List, [], ◌∷◌, length, drop, Option, Some, None, refl, subst}
use Rattle.std.proofs.Common.{is_some, arith, ne_eqb}
use Rattle.std.specs.Prelude.{encode_utf8, slice_get}
use Rattle.std.specs.List.{fold}
use Rattle.std.specs.Option.{option_map_or}
use Rattle.std.specs.Str.{bytes_eq, chars}
use Rattle.clap.specs.Lexer.{long_of, short_of}
use Rattle.clap.specs.Kinds.{Kinds, or_else, request_kinds}
use Rattle.clap.specs.Faults.{bundle_fault, bundle_step_fault, check_fault, default_fault, defaults_fault, flag_word_fault, flags_fault}
use Rattle.clap.specs.Faults.{given_default_fault, level_fault, long_fault, option_fault, other_fault, positional_fault, react_fault, settle_fault}
use Rattle.clap.specs.Faults.{short_fault, step_fault, stray_fault, turn_fault, use_fault, walk_fault, word_fault}
use Rattle.clap.specs.Simple.{Shape}
use Rattle.clap.specs.Walk.{Held, Names, Outcome, Row, Rule, Step, Text, Waiting, Walk, action_of, done, waits, plain, refused, idle, option}
use Rattle.clap.specs.Walk.{positional, next, trailing, subcommand, value, after_flag, after_step, arg_by_id, arg_by_index, arg_by_long, arg_by_short}
use Rattle.clap.specs.Walk.{attached_value, bundle, bundle_met, bundle_step, default_rows, flag_met, has_row, is_empty, is_pending, long_met}
use Rattle.clap.specs.Walk.{long_or_other, nothing_held, option_met, option_word, plain_word, positional_held, reacted, reading_by, rows_after}
use Rattle.clap.specs.Walk.{settled, settled_rows, short_met, short_or_plain, subcommand_met, subcommand_or_other, takes_several, takes_values}
use Rattle.clap.specs.Walk.{to_positional, used_by_id, walk, walk_from, walked, walked_from, with_default, word_met}
use Rattle.clap.specs.declared.error.ErrorKind.TheVariants as kind
use Rattle.clap.specs.declared.parser.matches.ValueSource.TheVariants.{DefaultValue}
use Rattle.bt_words.proofs.Rows.{Each, IsFit, IsPlainRule, both_pass, each_found, use_fits, with_values_fit}

module _ (c : List Rule) (again : Bool) (plain_rules : Each (IsPlainRule c) c) where
  abbrev AreFit : Held → Type 0
  AreFit h = Each (IsFit c) h.rows

  -- ---- what is pending

  settled_by : (found : Option Rule) (values : List Text) (rows : List Row) → ((a : Rule) → found ≡ Some a → IsPlainRule c a)
      → option_map_or (λ a. use_fault again a values rows) found [] ≡ [] → Each (IsFit c) rows → Each (IsFit c) (used_by_id found values rows)
  settled_by None values rows one e h = h
  settled_by (Some a) values rows one e h = use_fits c again a values rows (one a refl) e h

  settled_rows_fit : (pending : Option (Text × List Text)) (rows : List Row)
      → option_map_or (λ p. option_map_or (λ a. use_fault again a p.1 rows) (arg_by_id c p.0) []) pending [] ≡ []
      → Each (IsFit c) rows → Each (IsFit c) (settled_rows c pending rows)
  settled_rows_fit None rows e h = h
  settled_rows_fit (Some p) rows e h = settled_by (arg_by_id c p.0) p.1 rows
      (λ a is. each_found (IsPlainRule c) (λ a. bytes_eq a.id p.0) c a plain_rules is) e h

  settled_fit : (h : Held) → settle_fault c again h ≡ [] → AreFit h → AreFit (settled c h)
  settled_fit h e fit = settled_rows_fit h.pending h.rows e fit

  reacted_fit : (a : Rule) (values : List Text) (h : Held) → IsPlainRule c a → react_fault c again a values h ≡ [] → AreFit h → AreFit (reacted c a values h)
  reacted_fit a values h one e fit =
      let parts = both_pass (settle_fault c again h) _ e in
      use_fits c again a values (settled c h).rows one parts.1 (settled_fit h parts.0 fit)

  -- ---- a flag word

  option_fit : (a : Rule) (v : Option Text) (h : Held) → IsPlainRule c a → option_fault c again a v h ≡ [] → AreFit h → AreFit (option_met c a v h).0
  option_fit a (Some v) h one e fit = reacted_fit a (v ∷ []) h one e fit
  option_fit a None h one e fit = settled_fit h e fit

  flag_fit : (a : Rule) (v : Option Text) (h : Held) → IsPlainRule c a → cond (is_some v) (kind.TooManyValues ∷ []) (react_fault c again a [] h) ≡ [] → AreFit h
      → AreFit (flag_met c a v h).0
  flag_fit a (Some v) h one e fit = fit
  flag_fit a None h one e fit = reacted_fit a [] h one e fit

  long_fit : (found : Option Rule) (v : Option Text) (h : Held) → ((a : Rule) → found ≡ Some a → IsPlainRule c a) → long_fault c again found v h ≡ [] → AreFit h
      → AreFit (long_met c found v h).0
  long_fit None v h one e fit = fit
  long_fit (Some a) v h one e fit = go (takes_values a) e
    where
      go : (b : Bool) → cond b (option_fault c again a v h) (cond (is_some v) (kind.TooManyValues ∷ []) (react_fault c again a [] h)) ≡ []
          → AreFit (cond b (option_met c a v h) (flag_met c a v h)).0
      go true e = option_fit a v h (one a refl) e fit
      go false e = flag_fit a v h (one a refl) e fit

  short_fit : (found : Option Rule) (rest : Text) (h : Held) (step : Held → Held × Outcome) (faults : Held → Kinds)
      → ((a : Rule) → found ≡ Some a → IsPlainRule c a)
      → ((k : Held) → faults k ≡ [] → AreFit k → AreFit (step k).0) → short_fault c again found rest h faults ≡ [] → AreFit h
      → AreFit (short_met c found rest h step).0
  short_fit None rest h step faults one after e fit = fit
  short_fit (Some a) rest h step faults one after e fit = go (takes_values a) e
    where
      go : (b : Bool) → cond b (option_fault c again a (attached_value rest) h) (or_else (react_fault c again a [] h) (faults (reacted c a [] h))) ≡ []
          → AreFit (cond b (option_met c a (attached_value rest) h) (step (reacted c a [] h))).0
      go true e = option_fit a (attached_value rest) h (one a refl) e fit
      go false e =
          let parts = both_pass (react_fault c again a [] h) _ e in
          after (reacted c a [] h) parts.1 (reacted_fit a [] h (one a refl) parts.0 fit)

  bundle_step_fit : (first : Option ℕ) (flags : Text) (skip : ℕ) (so_far : Outcome) (h : Held) (step : Text → ℕ → Outcome → Held → Held × Outcome)
      (faults : Text → ℕ → Held → Kinds) → ((t : Text) (s : ℕ) (o : Outcome) (k : Held) → faults t s k ≡ [] → AreFit k → AreFit (step t s o k).0)
      → bundle_step_fault c again first flags skip h faults ≡ [] → AreFit h → AreFit (bundle_step c first flags skip so_far h step).0
  bundle_step_fit None flags skip so_far h step faults after e fit = fit
  bundle_step_fit (Some x) flags zero so_far h step faults after e fit =
      let rest = drop (length (encode_utf8 x)) flags in
      short_fit (arg_by_short c x) rest h (step rest 0 done) (faults rest 0) (λ a is. each_found (IsPlainRule c) _ c a plain_rules is)
      (λ k. after rest 0 done k) e fit
  bundle_step_fit (Some x) flags (suc skip) so_far h step faults after e fit = after (drop (length (encode_utf8 x)) flags) skip so_far h e fit

  bundle_fit : (k : ℕ) (flags : Text) (skip : ℕ) (so_far : Outcome) (h : Held) → flags_fault c again k flags skip h ≡ [] → AreFit h
      → AreFit (bundle_met c k flags skip so_far h).0
  unfolding bundle_met flags_fault
  bundle_fit zero flags skip so_far h e fit = fit
  bundle_fit (suc k) flags skip so_far h e fit =
      bundle_step_fit (slice_get (chars flags) 0) flags skip so_far h (bundle_met c k) (flags_fault c again k) (λ t s o j. bundle_fit k t s o j) e fit

  -- ---- a word

  option_word_fit : (found : Option Rule) (id word : Text) (h : Held) → AreFit h → AreFit (option_word found id word h).0
  option_word_fit None id word h fit = fit
  option_word_fit (Some a) id word h fit = fit

  plain_fit : (waiting : Waiting) (word : Text) (h : Held) → AreFit h → AreFit (plain_word c waiting word h).0
  plain_fit idle word h fit = fit
  plain_fit (option id) word h fit = option_word_fit (arg_by_id c id) id word h fit
  plain_fit positional word h fit = fit

  after_flag_fit : (waiting : Waiting) (word : Text) (h : Held) (o : Outcome) → AreFit h → AreFit (after_flag c waiting word h o).0
  after_flag_fit waiting word h done fit = fit
  after_flag_fit waiting word h (waits id) fit = fit
  after_flag_fit waiting word h plain fit = plain_fit waiting word h fit
  after_flag_fit waiting word h refused fit = plain_fit waiting word h fit

  short_word_fit : (waiting : Waiting) (word : Text) (flags : Option Text) (h : Held) → option_map_or (λ f. bundle_fault c again f h) flags [] ≡ [] → AreFit h
      → AreFit (short_or_plain c waiting word flags h).0
  short_word_fit waiting word None h e fit = plain_fit waiting word h fit
  short_word_fit waiting word (Some flags) h e fit =
      after_flag_fit waiting word (bundle c flags h).0 (bundle c flags h).1 (bundle_fit (length flags) flags h.skip plain (record h { skip = 0 }) e fit)

  long_word_fit : (waiting : Waiting) (word : Text) (long : Option (Text × Option Text)) (h : Held) → flag_word_fault c again long word h ≡ [] → AreFit h
      → AreFit (long_or_other c waiting word long h).0
  long_word_fit waiting word None h e fit = short_word_fit waiting word (short_of word) h e fit
  long_word_fit waiting word (Some p) h e fit =
      let met = long_met c (arg_by_long c p.0) p.1 h in
      after_flag_fit waiting word met.0 met.1 (long_fit (arg_by_long c p.0) p.1 h (λ a is. each_found (IsPlainRule c) _ c a plain_rules is) e fit)

  other_fit : (met : Option Text) (waiting : Waiting) (position : ℕ) (word : Text) (h : Held)
      → (met ≡ None → cond (bytes_eq word (45 ∷ 45 ∷ [])) [] (flag_word_fault c again (long_of word) word h) ≡ []) → AreFit h
      → AreFit (subcommand_or_other c met waiting position word h).0
  other_fit (Some name) waiting position word h e fit = fit
  other_fit None waiting position word h e fit = go (bytes_eq word (45 ∷ 45 ∷ [])) (e refl)
    where
      go : (b : Bool) → cond b [] (flag_word_fault c again (long_of word) word h) ≡ []
          → AreFit (cond b (h, trailing position) (long_or_other c waiting word (long_of word) h)).0
      go true e = fit
      go false e = long_word_fit waiting word (long_of word) h e fit

  -- ---- a value of a positional

  positional_fit : (a : Rule) (word : Text) (h : Held) → positional_fault c again a h ≡ [] → AreFit h → AreFit (positional_held c a word h)
  positional_fit a word h e fit = go (is_pending a h.pending && takes_several a) e
    where
      go : (b : Bool) → cond b [] (settle_fault c again h) ≡ [] → AreFit (cond b h (settled c h))
      go true e = fit
      go false e = settled_fit h e fit

  to_positional_fit : (found : Option Rule) (word : Text) (w : Walk) (h : Held) (stray : Kinds)
      → option_map_or (λ a. positional_fault c again a h) found stray ≡ []
      → AreFit h → AreFit (to_positional c found word w h).held
  to_positional_fit None word w h stray e fit = fit
  to_positional_fit (Some a) word w h stray e fit = positional_fit a word h e fit

module _ (s : Shape) (plain_rules : Each (IsPlainRule s.rules) s.rules) where
  abbrev AreFitRows : List Row → Type 0
  AreFitRows rows = Each (IsFit s.rules) rows

  word_fit : (names : Names) (w : Walk) (word : Text) → word_fault s names w.is_trailing w.waiting word w.held ≡ [] → AreFitRows w.held.rows
      → AreFitRows (word_met s.rules names w.is_trailing w.waiting w.position word w.held).0.rows
  word_fit names w word e fit = go (subcommand_met names w.waiting word) w.is_trailing e
    where
      go : (met : Option Text) (b : Bool) → cond b [] (other_fault s met word w.held) ≡ []
          → AreFitRows (cond b (w.held, value) (subcommand_or_other s.rules met w.waiting w.position word w.held)).0.rows
      go met true e = fit
      go met false e = other_fit s.rules s.args_override_self plain_rules met w.waiting w.position word w.held
          (λ none. subst (λ (o : Option Text). other_fault s o word w.held ≡ []) none e) fit

  step_fit : (w : Walk) (word : Text) (h : Held) (step : Step) → step_fault s w.position h step ≡ [] → AreFitRows h.rows
      → AreFitRows (after_step s.rules word w h step).held.rows
  step_fit w word h (next waiting) e fit = fit
  step_fit w word h (trailing position) e fit = fit
  step_fit w word h (subcommand name) e fit = fit
  step_fit w word h value e fit = to_positional_fit s.rules s.args_override_self plain_rules (arg_by_index s.rules w.position) word w h (stray_fault s) e fit

  turn_fit : (names : Names) (w : Walk) (word : Text) → turn_fault s names w word ≡ [] → AreFitRows w.held.rows
      → AreFitRows (walked s.rules names w word).held.rows
  unfolding walked
  turn_fit names w word e fit = go w.stopped e
    where
      go : (o : Option (Text × List Text))
          → cond (is_some o) [] (or_else (word_fault s names w.is_trailing w.waiting word w.held)
          (step_fault s w.position (word_met s.rules names w.is_trailing w.waiting w.position word w.held).0
          (word_met s.rules names w.is_trailing w.waiting w.position word w.held).1)) ≡ []
          → AreFitRows (walked_from s.rules names o w word).held.rows
      go (Some p) e = fit
      go None e =
          let met = word_met s.rules names w.is_trailing w.waiting w.position word w.held in
          let parts = both_pass (word_fault s names w.is_trailing w.waiting word w.held) _ e in
          step_fit w word met.0 met.1 parts.1 (word_fit names w word parts.0 fit)

  walk_fit : (names : Names) (w : Walk) (words : List Text) → walk_fault s names w words ≡ [] → AreFitRows w.held.rows
      → AreFitRows (fold (walked s.rules names) w words).held.rows
  unfolding walk_fault
  walk_fit names w [] e fit = fit
  walk_fit names w (x ∷ xs) e fit =
      let parts = both_pass (turn_fault s names w x) _ e in
      walk_fit names (walked s.rules names w x) xs parts.1 (turn_fit names w x parts.0 fit)

  -- ---- after the walk

  default_fit : (rows : List Row) (a : Rule) → IsPlainRule s.rules a → default_fault rows a ≡ [] → AreFitRows rows → AreFitRows (with_default rows a)
  default_fit rows a one e fit = go (has_row a.id rows) a.defaults e
    where
      go : (b : Bool) (vs : List Text) → cond (b || is_empty vs) [] (given_default_fault a vs) ≡ []
          → AreFitRows (cond b rows (default_rows a.id (reading_by a) vs rows))
      go true vs e = fit
      go false [] e = fit
      go false (v ∷ vs) e =
          let some : is_empty (v ∷ vs) ≡ false = ne_eqb _ _ (λ z. omega arith) in
          with_values_fit s.rules a DefaultValue v vs rows one (both_pass (request_kinds (action_of a)) _ (rw some at e)).1 fit

  defaults_fit : (rows : List Row) (rules : List Rule) → Each (IsPlainRule s.rules) rules → defaults_fault rows rules ≡ [] → AreFitRows rows
      → AreFitRows (fold with_default rows rules)
  unfolding defaults_fault
  defaults_fit rows [] ones e fit = fit
  defaults_fit rows (a ∷ rest) ones e fit =
      let parts = both_pass (default_fault rows a) _ e in
      defaults_fit (with_default rows a) rest ones.1 parts.1 (default_fit rows a ones.0 parts.0 fit)

  -- the matches of a level without a fault are fit, and the level is checked
  pub level_fits : (names : Names) (words : List Text) (has : Bool) (below : Kinds) → level_fault s names nothing_held words has below ≡ []
      → AreFitRows (rows_after s.rules names words) × (below ≡ []) × (check_fault s (rows_after s.rules names words) has ≡ [])
  level_fits names words has below e =
      let end = (walk s.rules names nothing_held words).held in
      let walked = both_pass (walk_fault s names (walk_from nothing_held) words) _ e in
      let under = both_pass below _ walked.1 in
      let settling = both_pass (settle_fault s.rules s.args_override_self end) _ under.1 in
      let ends = both_pass (defaults_fault (settled s.rules end).rows s.rules) _ settling.1 in
      let fit = walk_fit names (walk_from nothing_held) words walked.0 tt in (
        defaults_fit (settled s.rules end).rows s.rules plain_rules ends.0 (settled_fit s.rules s.args_override_self plain_rules end settling.0 fit),
        under.0,
        ends.1,
      )
