-- Calls that are written out but for their names.
use Rattle.std.proofs.Common.{◌≡◌, ◌∙◌, ◌&&◌, ◌==◌, Bool, cond, codes, true, false, not, List, [], ◌∷◌, Some, None, refl, sym, ap, ap₂, arith, true≢false}
use Rattle.std.specs.Prelude.{option_and_then, pos}
use Rattle.std.specs.List.{fold}
use Rattle.std.specs.Str.{bytes_eq}
use Rattle.clap.specs.Lexer.{long_of, long_of_rest, short_of, short_of_rest, strip_byte}
use Rattle.clap.specs.Faults.{check_fault, defaults_fault, level_fault, settle_fault, step_fault, turn_fault, walk_fault, word_fault}
use Rattle.clap.specs.Kinds.{Kinds, or_else, value_kinds}
use Rattle.clap.specs.Simple.{Shape}
use Rattle.clap.specs.Words.{without_minus}
use Rattle.clap.specs.Walk.{Held, Step, Text, Walk, after_step, arg_by_index, finished, idle, option, plain_word, settled, to_positional, value, walk_from, walked, word_met, nothing_held}
use Rattle.clap.specs.Values.{IsSignedIn, refused_kind}
use Rattle.clap.specs.declared.builder.value_parser.ValueParser.TheVariants as vp
use Rattle.clap.proofs.ValueTestLemmas.{Accepts-accepts}
use Rattle.clap.proofs.OnLiterals.{clap_on_literals}
use Rattle.bt_words.proofs.Matches.{decode_built, files_built, gen_built}
use Rattle.bt_words.proofs.Numbers.{number_as_it_is, number_is_name, number_within}
use Rattle.bt_words.specs.Request.{IsRequest, asked_by, bounds, generates, graphs, lists, number_of, requested}
use Rattle.bt_words.specs.Law.{is_name}

-- what the lexer makes of a name
name_is : (w : Text) → is_name w ≡ true → (bytes_eq w (45 ∷ 45 ∷ []) ≡ false) × (long_of w ≡ None) × (short_of w ≡ None)
name_is [] e = (refl, refl, refl)
name_is (x ∷ []) e = go (x == 45)
  where
    go : (b : Bool) → ((b && false) ≡ false) × (option_and_then long_of_rest (option_and_then (strip_byte 45) (cond b (Some []) None)) ≡ None)
        × (option_and_then short_of_rest (cond b (Some []) None) ≡ None)
    go true = (refl, refl, refl)
    go false = (refl, refl, refl)
name_is (x ∷ y ∷ rest) e = go (x == 45) e
  where
    go : (b : Bool) → not b ≡ true → ((b && bytes_eq (y ∷ rest) (45 ∷ [])) ≡ false)
        × (option_and_then long_of_rest (option_and_then (strip_byte 45) (cond b (Some (y ∷ rest)) None)) ≡ None)
        × (option_and_then short_of_rest (cond b (Some (y ∷ rest)) None) ≡ None)
    go true e = absurd (true≢false (sym e))
    go false e = (refl, refl, refl)

-- the walk after a name, where nothing waits for a value
abbrev put : Shape → Walk → Text → Walk
put s w word = to_positional s.rules (arg_by_index s.rules w.position) word w w.held

module _ (s : Shape) (w : Walk) (word : Text) (name : is_name word ≡ true) where
  met_name : word_met s.rules [] false idle w.position word w.held ≡ (w.held, value)
  met_name =
      let n = name_is word name in
      rw (n.0, n.1, n.2) refl

  no_word_fault : word_fault s [] false idle word w.held ≡ []
  no_word_fault =
      let n = name_is word name in
      rw (n.0, n.1, n.2) refl

  abbrev at : Walk
  at = record w { waiting = idle; is_trailing = false; stopped = None }

  put_is : walked s.rules [] at word ≡ put s at word
  unfolding walked
  put_is = ap (λ (p : Held × Step). after_step s.rules word at p.0 p.1) met_name

  name_then : (rest : List Text) → step_fault s w.position w.held value ≡ [] → walk_fault s [] at (word ∷ rest) ≡ walk_fault s [] (put s at word) rest
  unfolding walk_fault
  name_then rest passed =
      let step = ap (λ (p : Held × Step). step_fault s w.position p.0 p.1) met_name ∙ passed in
      ap₂ or_else (ap₂ or_else no_word_fault step) (ap (λ (v : Walk). walk_fault s [] v rest) put_is)

-- the walk after a name that an option waits for
abbrev put_in_option : Shape → Walk → Text → Text → Walk
put_in_option s w id word = after_step s.rules word w (plain_word s.rules (option id) word w.held).0 (plain_word s.rules (option id) word w.held).1

module _ (s : Shape) (w : Walk) (id word : Text) (name : is_name word ≡ true) where
  met_value : word_met s.rules [] false (option id) w.position word w.held ≡ plain_word s.rules (option id) word w.held
  met_value =
      let n = name_is word name in
      rw (n.0, n.1, n.2) refl

  no_value_fault : word_fault s [] false (option id) word w.held ≡ []
  no_value_fault =
      let n = name_is word name in
      rw (n.0, n.1, n.2) refl

  abbrev waits_at : Walk
  waits_at = record w { waiting = option id; is_trailing = false; stopped = None }

  option_is : walked s.rules [] waits_at word ≡ put_in_option s waits_at id word
  unfolding walked
  option_is = ap (λ (p : Held × Step). after_step s.rules word waits_at p.0 p.1) met_value

  option_then : (rest : List Text) → walk_fault s [] waits_at (word ∷ rest) ≡ walk_fault s [] (put_in_option s waits_at id word) rest
  unfolding walk_fault
  option_then rest =
      let step = ap (λ (p : Held × Step). step_fault s w.position p.0 p.1) met_value in
      ap₂ or_else (ap₂ or_else no_value_fault step) (ap (λ (v : Walk). walk_fault s [] v rest) option_is)

both_none : (a b : Kinds) → a ≡ [] → b ≡ [] → or_else a b ≡ []
both_none a b e f = ap (λ k. or_else k b) e ∙ f

-- the checks after a walk of a level with no subcommand
abbrev after_walk : Shape → Held → Kinds
after_walk s end =
    or_else (settle_fault s.rules s.args_override_self end)
    (or_else (defaults_fault (settled s.rules end).rows s.rules) (check_fault s (finished s.rules end) false))

-- ---- three names

module _ (command image cycles assertions : Text) (is_image : is_name image ≡ true) (is_cycles : is_name cycles ≡ true) (is_assertions : is_name assertions ≡ true) where
  abbrev before : Walk
  before = walk_from nothing_held

  abbrev one : Walk
  one = put (files_built command) before image

  abbrev two : Walk
  two = put (files_built command) one cycles

  abbrev three : Walk
  three = put (files_built command) two assertions

  three_walked : fold (walked (files_built command).rules []) before (image ∷ cycles ∷ assertions ∷ []) ≡ three
  three_walked =
      ap (λ (v : Walk). walked (files_built command).rules [] (walked (files_built command).rules [] v cycles) assertions) (put_is (files_built command) before image is_image)
      ∙ ap (λ (v : Walk). walked (files_built command).rules [] v assertions) (put_is (files_built command) one cycles is_cycles)
      ∙ put_is (files_built command) two assertions is_assertions

  three_fault : (rest : List Text) → walk_fault (files_built command) [] before (image ∷ cycles ∷ assertions ∷ rest) ≡ walk_fault (files_built command) [] three rest
  three_fault rest =
      name_then (files_built command) before image is_image (cycles ∷ assertions ∷ rest) refl ∙ name_then (files_built command) one cycles is_cycles (assertions ∷ rest) refl
      ∙ name_then (files_built command) two assertions is_assertions rest refl

  -- a level of which the walk ends here without a fault, and the checks after it
  three_level : level_fault (files_built command) [] nothing_held (image ∷ cycles ∷ assertions ∷ []) false [] ≡ []
  unfolding clap_on_literals
  three_level =
      both_none _ _ (three_fault []) (ap (λ (v : Walk). after_walk (files_built command) v.held) three_walked)

  -- ---- and a number of workers

  abbrev four : Walk
  four = record {
    held = record { rows = (settled (files_built command).rules three.held).rows; pending = Some (codes "workers", []); skip = 0 };
    waiting = option (codes "workers");
    position = 4;
    is_trailing = false;
    stopped = None;
  }

  four_walked : walked (files_built command).rules [] three (codes "--workers") ≡ four
  unfolding clap_on_literals
  four_walked = refl

  four_fault : (rest : List Text) → walk_fault (files_built command) [] three (codes "--workers" ∷ rest) ≡ walk_fault (files_built command) [] four rest
  unfolding clap_on_literals
  four_fault rest = refl

  module _ (number : Text) (within : IsSignedIn (pos 1) (pos 64) number) where
    abbrev five : Walk
    five = put_in_option (files_built command) four (codes "workers") number

    five_walked : fold (walked (files_built command).rules []) before (image ∷ cycles ∷ assertions ∷ codes "--workers" ∷ number ∷ []) ≡ five
    five_walked =
        ap (λ (v : Walk). walked (files_built command).rules [] (walked (files_built command).rules [] v (codes "--workers")) number) three_walked
        ∙ ap (λ (v : Walk). walked (files_built command).rules [] v number) four_walked
        ∙ option_is (files_built command) four (codes "workers") number (number_is_name 64 number within)

    five_fault : walk_fault (files_built command) [] before (image ∷ cycles ∷ assertions ∷ codes "--workers" ∷ number ∷ []) ≡ []
    unfolding clap_on_literals
    five_fault =
        three_fault (codes "--workers" ∷ number ∷ []) ∙ four_fault (number ∷ [])
        ∙ option_then (files_built command) four (codes "workers") number (number_is_name 64 number within) []

    five_checked : after_walk (files_built command) five.held ≡ []
    unfolding clap_on_literals
    five_checked =
        let accepted = Accepts-accepts false (vp.Signed (pos 1) (pos 64)) number within in
        let passed : value_kinds false (vp.Signed (pos 1) (pos 64)) number ≡ [] = ap (λ b. cond b [] (refused_kind (vp.Signed (pos 1) (pos 64)) ∷ [])) accepted in
        both_none _ _ (both_none (value_kinds false (vp.Signed (pos 1) (pos 64)) number) [] passed refl) refl

    five_level : level_fault (files_built command) [] nothing_held (image ∷ cycles ∷ assertions ∷ codes "--workers" ∷ number ∷ []) false [] ≡ []
    five_level = both_none _ _ five_fault (ap (λ (v : Walk). after_walk (files_built command) v.held) five_walked ∙ five_checked)

-- ---- the commands by their names

module _ (image cycles assertions : Text) (is_image : is_name image ≡ true) (is_cycles : is_name cycles ≡ true) (is_assertions : is_name assertions ≡ true) where
  bound_three_rows : requested (codes "bound" ∷ image ∷ cycles ∷ assertions ∷ []) ≡ Some (bounds image cycles assertions 1)
  unfolding clap_on_literals
  bound_three_rows =
      ap (λ (v : Walk). asked_by (codes "bound") (finished (files_built (codes "bound")).rules v.held))
      (three_walked (codes "bound") image cycles assertions is_image is_cycles is_assertions)

  pub bound_three_asked : IsRequest (codes "bound" ∷ image ∷ cycles ∷ assertions ∷ []) (bounds image cycles assertions 1)
  unfolding clap_on_literals
  bound_three_asked = record {
    faultless = both_none (level_fault (files_built (codes "bound")) [] nothing_held (image ∷ cycles ∷ assertions ∷ []) false []) _
        (three_level (codes "bound") image cycles assertions is_image is_cycles is_assertions) refl;
    asks = bound_three_rows;
    workers = (omega arith, omega arith);
    functions = tt;
  }

  graph_three_rows : requested (codes "graph" ∷ image ∷ cycles ∷ assertions ∷ []) ≡ Some (graphs image cycles assertions 1)
  unfolding clap_on_literals
  graph_three_rows =
      ap (λ (v : Walk). asked_by (codes "graph") (finished (files_built (codes "graph")).rules v.held))
      (three_walked (codes "graph") image cycles assertions is_image is_cycles is_assertions)

  pub graph_three_asked : IsRequest (codes "graph" ∷ image ∷ cycles ∷ assertions ∷ []) (graphs image cycles assertions 1)
  unfolding clap_on_literals
  graph_three_asked = record {
    faultless = both_none (level_fault (files_built (codes "graph")) [] nothing_held (image ∷ cycles ∷ assertions ∷ []) false []) _
        (three_level (codes "graph") image cycles assertions is_image is_cycles is_assertions) refl;
    asks = graph_three_rows;
    workers = (omega arith, omega arith);
    functions = tt;
  }

  module _ (number : Text) (within : IsSignedIn (pos 1) (pos 64) number) where
    bound_five_rows : requested (codes "bound" ∷ image ∷ cycles ∷ assertions ∷ codes "--workers" ∷ number ∷ []) ≡ Some (bounds image cycles assertions (number_of number))
    unfolding clap_on_literals
    bound_five_rows =
        ap (λ (v : Walk). asked_by (codes "bound") (finished (files_built (codes "bound")).rules v.held))
        (five_walked (codes "bound") image cycles assertions is_image is_cycles is_assertions number within)
        ∙ ap (λ (t : Text). Some (bounds image cycles assertions (number_of t))) (number_as_it_is 64 number within)

    pub bound_five_asked : IsRequest (codes "bound" ∷ image ∷ cycles ∷ assertions ∷ codes "--workers" ∷ number ∷ []) (bounds image cycles assertions (number_of number))
    unfolding clap_on_literals
    bound_five_asked = record {
      faultless = both_none (level_fault (files_built (codes "bound")) [] nothing_held (image ∷ cycles ∷ assertions ∷ codes "--workers" ∷ number ∷ []) false []) _
          (five_level (codes "bound") image cycles assertions is_image is_cycles is_assertions number within) refl;
      asks = bound_five_rows;
      workers = number_within 64 number within;
      functions = tt;
    }

    graph_five_rows : requested (codes "graph" ∷ image ∷ cycles ∷ assertions ∷ codes "--workers" ∷ number ∷ []) ≡ Some (graphs image cycles assertions (number_of number))
    unfolding clap_on_literals
    graph_five_rows =
        ap (λ (v : Walk). asked_by (codes "graph") (finished (files_built (codes "graph")).rules v.held))
        (five_walked (codes "graph") image cycles assertions is_image is_cycles is_assertions number within)
        ∙ ap (λ (t : Text). Some (graphs image cycles assertions (number_of t))) (number_as_it_is 64 number within)

    pub graph_five_asked : IsRequest (codes "graph" ∷ image ∷ cycles ∷ assertions ∷ codes "--workers" ∷ number ∷ []) (graphs image cycles assertions (number_of number))
    unfolding clap_on_literals
    graph_five_asked = record {
      faultless = both_none (level_fault (files_built (codes "graph")) [] nothing_held (image ∷ cycles ∷ assertions ∷ codes "--workers" ∷ number ∷ []) false []) _
          (five_level (codes "graph") image cycles assertions is_image is_cycles is_assertions number within) refl;
      asks = graph_five_rows;
      workers = number_within 64 number within;
      functions = tt;
    }

-- ---- one name

module _ (image : Text) (is_image : is_name image ≡ true) where
  abbrev listed : Walk
  listed = put decode_built (walk_from nothing_held) image

  listed_walked : fold (walked decode_built.rules []) (walk_from nothing_held) (image ∷ []) ≡ listed
  listed_walked = put_is decode_built (walk_from nothing_held) image is_image

  listed_level : level_fault decode_built [] nothing_held (image ∷ []) false [] ≡ []
  unfolding clap_on_literals
  listed_level =
      both_none _ _ (name_then decode_built (walk_from nothing_held) image is_image [] refl) (ap (λ (v : Walk). after_walk decode_built v.held) listed_walked)

  listed_rows : requested (codes "decode" ∷ image ∷ []) ≡ Some (lists image)
  unfolding clap_on_literals
  listed_rows = ap (λ (v : Walk). asked_by (codes "decode") (finished decode_built.rules v.held)) listed_walked

  pub listed_asked : IsRequest (codes "decode" ∷ image ∷ []) (lists image)
  unfolding clap_on_literals
  listed_asked = record {
    faultless = both_none (level_fault decode_built [] nothing_held (image ∷ []) false []) _ listed_level refl;
    asks = listed_rows;
    workers = tt;
    functions = tt;
  }

-- ---- a number of functions

module _ (functions : Text) (few : IsSignedIn (pos 1) (pos 4000) functions) where
  functions_pass : value_kinds false (vp.Signed (pos 1) (pos 4000)) functions ≡ []
  functions_pass = ap (λ b. cond b [] (refused_kind (vp.Signed (pos 1) (pos 4000)) ∷ [])) (Accepts-accepts false (vp.Signed (pos 1) (pos 4000)) functions few)

  abbrev first : Walk
  first = put gen_built (walk_from nothing_held) functions

  first_walked : walked gen_built.rules [] (walk_from nothing_held) functions ≡ first
  first_walked = put_is gen_built (walk_from nothing_held) functions (number_is_name 4000 functions few)

  first_fault : (rest : List Text) → walk_fault gen_built [] (walk_from nothing_held) (functions ∷ rest) ≡ walk_fault gen_built [] first rest
  first_fault rest = name_then gen_built (walk_from nothing_held) functions (number_is_name 4000 functions few) rest refl

  first_checked : after_walk gen_built first.held ≡ []
  unfolding clap_on_literals
  first_checked = both_none _ _ (both_none (value_kinds false (vp.Signed (pos 1) (pos 4000)) functions) [] functions_pass refl) refl

  first_level : level_fault gen_built [] nothing_held (functions ∷ []) false [] ≡ []
  unfolding clap_on_literals
  first_level = both_none _ _ (first_fault []) (ap (λ (v : Walk). after_walk gen_built v.held) first_walked ∙ first_checked)

  first_rows : requested (codes "gen" ∷ functions ∷ []) ≡ Some (generates (number_of functions) 1)
  unfolding clap_on_literals
  first_rows =
      ap (λ (v : Walk). asked_by (codes "gen") (finished gen_built.rules v.held)) first_walked
      ∙ ap (λ (t : Text). Some (generates (number_of t) 1)) (number_as_it_is 4000 functions few)

  pub functions_asked : IsRequest (codes "gen" ∷ functions ∷ []) (generates (number_of functions) 1)
  unfolding clap_on_literals
  functions_asked = record {
    faultless = both_none (level_fault gen_built [] nothing_held (functions ∷ []) false []) _ first_level refl;
    asks = first_rows;
    workers = (omega arith, omega arith);
    functions = number_within 4000 functions few;
  }

  -- and of workers

  abbrev second : Walk
  second = record {
    held = record { rows = (settled gen_built.rules first.held).rows; pending = Some (codes "workers", []); skip = 0 };
    waiting = option (codes "workers");
    position = 2;
    is_trailing = false;
    stopped = None;
  }

  second_walked : walked gen_built.rules [] first (codes "--workers") ≡ second
  unfolding clap_on_literals
  second_walked = refl

  second_turn : turn_fault gen_built [] first (codes "--workers") ≡ []
  unfolding clap_on_literals
  second_turn = both_none _ _ (both_none (value_kinds false (vp.Signed (pos 1) (pos 4000)) functions) [] functions_pass refl) refl

  second_fault : (rest : List Text) → walk_fault gen_built [] first (codes "--workers" ∷ rest) ≡ walk_fault gen_built [] second rest
  unfolding walk_fault
  second_fault rest =
      ap₂ or_else second_turn (ap (λ (v : Walk). walk_fault gen_built [] v rest) second_walked)

  module _ (number : Text) (within : IsSignedIn (pos 1) (pos 64) number) where
    abbrev third : Walk
    third = put_in_option gen_built second (codes "workers") number

    third_walked : fold (walked gen_built.rules []) (walk_from nothing_held) (functions ∷ codes "--workers" ∷ number ∷ []) ≡ third
    third_walked =
        ap (λ (v : Walk). walked gen_built.rules [] (walked gen_built.rules [] v (codes "--workers")) number) first_walked
        ∙ ap (λ (v : Walk). walked gen_built.rules [] v number) second_walked
        ∙ option_is gen_built second (codes "workers") number (number_is_name 64 number within)

    third_fault : walk_fault gen_built [] (walk_from nothing_held) (functions ∷ codes "--workers" ∷ number ∷ []) ≡ []
    unfolding clap_on_literals
    third_fault =
        first_fault (codes "--workers" ∷ number ∷ []) ∙ second_fault (number ∷ [])
        ∙ option_then gen_built second (codes "workers") number (number_is_name 64 number within) []

    third_checked : after_walk gen_built third.held ≡ []
    unfolding clap_on_literals
    third_checked =
        let passed : value_kinds false (vp.Signed (pos 1) (pos 64)) number ≡ [] =
        ap (λ b. cond b [] (refused_kind (vp.Signed (pos 1) (pos 64)) ∷ [])) (Accepts-accepts false (vp.Signed (pos 1) (pos 64)) number within) in
        both_none _ _ (both_none (value_kinds false (vp.Signed (pos 1) (pos 64)) number) [] passed refl) refl

    third_level : level_fault gen_built [] nothing_held (functions ∷ codes "--workers" ∷ number ∷ []) false [] ≡ []
    third_level = both_none _ _ third_fault (ap (λ (v : Walk). after_walk gen_built v.held) third_walked ∙ third_checked)

    third_rows : requested (codes "gen" ∷ functions ∷ codes "--workers" ∷ number ∷ []) ≡ Some (generates (number_of functions) (number_of number))
    unfolding clap_on_literals
    third_rows =
        ap (λ (v : Walk). asked_by (codes "gen") (finished gen_built.rules v.held)) third_walked
        ∙ ap (λ (t : Text). Some (generates (number_of t) (number_of (without_minus number)))) (number_as_it_is 4000 functions few)
        ∙ ap (λ (t : Text). Some (generates (number_of functions) (number_of t))) (number_as_it_is 64 number within)

    pub functions_and_workers_asked : IsRequest (codes "gen" ∷ functions ∷ codes "--workers" ∷ number ∷ []) (generates (number_of functions) (number_of number))
    unfolding clap_on_literals
    functions_and_workers_asked = record {
      faultless = both_none (level_fault gen_built [] nothing_held (functions ∷ codes "--workers" ∷ number ∷ []) false []) _ third_level refl;
      asks = third_rows;
      workers = number_within 64 number within;
      functions = number_within 4000 functions few;
    }
