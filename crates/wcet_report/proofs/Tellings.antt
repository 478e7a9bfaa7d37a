-- A report tells the outcomes that it is of.
use Rattle.std.proofs.Common.{◌≡◌, ℕ, ◌+◌, ◌*◌, ◌^◌, ◌<◌, Bool, true, false, List, [], ◌∷◌, ◌++◌, map, get_or, refl, ap, sym, ◌∙◌, subst, arith}
use Rattle.std.proofs.Common.{append_assoc, codes, if◌then◌else◌}
use Rattle.std.specs.List.{flat_map, AllZip}
use Rattle.std.specs.Prelude.{◌&&◌, ◌==◌, All, IfSome, Option, Some}
use Rattle.std.proofs.lemmas.List.Concat.{flat_map-append}
use Rattle.std.proofs.lemmas.List.Sorted.{All-permutation}
use Rattle.wcet_report.proofs.ContextTexts.{context_words_tell, no_argument_bound}
use Rattle.wcet_report.proofs.LineTexts.{Words, words_text, IsClean, AllClean, AreClean, lines_text, lines_tell, clean-cons, clean-append, word_clean}
use Rattle.wcet_report.proofs.LineTexts.{words_clean}
use Rattle.wcet_report.proofs.LineWords.{function_clean, function_tells, bound_clean, bound_tells, context_clean, by_clean, by_tells, node_clean}
use Rattle.wcet_report.proofs.LineWords.{reason_clean, reason_tells}
use Rattle.wcet_report.proofs.Points.{node_tells}
use Rattle.wcet_report.proofs.Sortings.{Each, each_of_all}
use Rattle.wcet_report.specs.Context.{HasArguments, context_word, context_rest, is_open}
use Rattle.wcet_report.specs.Laws.{AreAlike, AreProper, ByInRange, IsPointOf, IsProper, IsReasonOf, ReportTells}
use Rattle.wcet_report.specs.Line.{line_of, function_words}
use Rattle.wcet_report.specs.Node.{node_text}
use Rattle.wcet_report.specs.Order.{AreByHead}
use Rattle.wcet_report.specs.Outcome.{bound_words, by_words, reason_words, context_line, loop_line, reason_line}
use Rattle.wcet_report.specs.Report.{AreLines, IsReport, flattened, open_bound, root_bound, root_line}
use Rattle.wcet_report.specs.declared.loops.LoopOutcome.{LoopOutcome}
use Rattle.wcet_report.specs.declared.outcome.Outcome.{Outcome}
use Rattle.wcet_report.specs.declared.outcome.Outcomes.{Outcomes}
use Rattle.wcet_report.specs.declared.reason.Reason.{Reason}

-- the words of each kind of line
abbrev root_words : List ℕ → List Outcome → ℕ → Words
root_words image list root = record { first = codes "root"; rest = function_words image root ++ bound_words (root_bound list root) }

abbrev context_words : List ℕ → Outcome → Words
context_words image o = record {
  first = codes "context";
  rest = function_words image o.sub ++ (context_word o.context ∷ (context_rest o.context ++ bound_words o.bound));
}

abbrev loop_words : LoopOutcome → Words
loop_words each = record { first = codes "loop"; rest = node_text each.head ∷ by_words each.by }

abbrev why_words : List ℕ → Reason → Words
why_words image reason = record { first = codes "reason"; rest = reason_words image reason }

abbrev title_words : Words
title_words = record { first = codes "boundt"; rest = codes "report" ∷ codes "1" ∷ [] }

abbrev last_words : Words
last_words = record { first = codes "end"; rest = [] }

no_words : Words
no_words = record { first = []; rest = [] }

-- two bytes of the first word of a first line, which tell the kinds of lines apart
abbrev pub mark : List Words → ℕ
mark [] = 0
mark (line ∷ lines) = get_or line.first 0 0 * 256 + get_or line.first 1 0

pub first_line : List Words → Words
unfolding no_words
first_line [] = no_words
first_line (line ∷ lines) = line

pub lines_behind : List Words → List Words
lines_behind [] = []
lines_behind (line ∷ lines) = lines

-- lines of one kind before a line of another kind tell what they are of and what follows
pub cut_items : {X : Type 0} (f g : X → Words) (m : ℕ) (P : X → Type 0) → ((x : X) (ls : List Words) → mark (f x ∷ ls) ≡ m)
    → ((x : X) (ls : List Words) → mark (g x ∷ ls) ≡ m) → ((x y : X) → P x → P y → f x ≡ g y → x ≡ y) → (xs ys : List X) (r s : List Words)
    → Each P xs → Each P ys → (mark r ≡ m → ⊥) → (mark s ≡ m → ⊥) → map f xs ++ r ≡ map g ys ++ s → (xs ≡ ys) × (r ≡ s)
unfolding first_line lines_behind
cut_items f g m P f_mark g_mark tells [] [] r s at also r_ends s_ends same = (refl, same)
cut_items f g m P f_mark g_mark tells [] (y ∷ ys) r s at also r_ends s_ends same =
    absurd (r_ends (ap mark same ∙ g_mark y (map g ys ++ s)))
cut_items f g m P f_mark g_mark tells (x ∷ xs) [] r s at also r_ends s_ends same =
    absurd (s_ends (sym (ap mark same) ∙ f_mark x (map f xs ++ r)))
cut_items f g m P f_mark g_mark tells (x ∷ xs) (y ∷ ys) r s at also r_ends s_ends same =
    let one : x ≡ y = tells x y at.0 also.0 (ap first_line same) in
    let rest : (xs ≡ ys) × (r ≡ s) =
    cut_items f g m P f_mark g_mark tells xs ys r s at.1 also.1 r_ends s_ends (ap lines_behind same) in
    (cc (one, rest.0), rest.1)

-- each kind of line tells what it is of

root_tells : (image : List ℕ) (list also : List Outcome) (a b : ℕ) → a < 2 ^ 32 → b < 2 ^ 32 → root_words image list a ≡ root_words image also b → a ≡ b
root_tells image list also a b a_less b_less same =
    (function_tells image a b (bound_words (root_bound list a)) (bound_words (root_bound also b)) a_less b_less
    (ap (λ (line : Words). line.rest) same)).0

-- an outcome with its numbers in their ranges and a value for each argument
abbrev IsGood : Outcome → Type 0
IsGood o = IsProper o × HasArguments o.context

context_tells : (image : List ℕ) (o p : Outcome) → IsGood o → IsGood p → context_words image o ≡ context_words image p
    → (o.sub ≡ p.sub) × (o.context ≡ p.context) × (o.bound ≡ p.bound)
context_tells image o p at_o at_p same =
    let cut : (o.sub ≡ p.sub)
    × (context_word o.context ∷ (context_rest o.context ++ bound_words o.bound) ≡ context_word p.context ∷ (context_rest p.context ++ bound_words p.bound)) =
    function_tells image o.sub p.sub (context_word o.context ∷ (context_rest o.context ++ bound_words o.bound))
    (context_word p.context ∷ (context_rest p.context ++ bound_words p.bound)) at_o.0.sub at_p.0.sub (ap (λ (line : Words). line.rest) same) in
    let words : (o.context ≡ p.context) × (bound_words o.bound ≡ bound_words p.bound) =
    context_words_tell o.context p.context (bound_words o.bound) (bound_words p.bound) at_o.0.context at_p.0.context at_o.1 at_p.1
    (no_argument_bound o.bound) (no_argument_bound p.bound) cut.1 in
    (cut.0, words.0, bound_tells o.bound p.bound at_o.0.bound at_p.0.bound words.1)

abbrev IsLoopOf : ℕ → LoopOutcome → Type 0
IsLoopOf sub each = IsPointOf sub each.head × ByInRange each.by

behind_word : List (List ℕ) → List (List ℕ)
behind_word [] = []
behind_word (word ∷ words) = words

loop_tells : (sub : ℕ) (a b : LoopOutcome) → IsLoopOf sub a → IsLoopOf sub b → loop_words a ≡ loop_words b → a ≡ b
unfolding behind_word
loop_tells sub a b at_a at_b same =
    let heads : a.head ≡ b.head = node_tells sub a.head b.head at_a.0 at_b.0 (ap (λ (line : Words). get_or line.rest 0 []) same) in
    let bys : a.by ≡ b.by = by_tells a.by b.by at_a.1 at_b.1 (ap (λ (line : Words). behind_word line.rest) same) in
    λ i. record { head = heads i; by = bys i }

why_tells : (image : List ℕ) (sub : ℕ) (a b : Reason) → IsReasonOf sub a → IsReasonOf sub b → why_words image a ≡ why_words image b → a ≡ b
why_tells image sub a b at_a at_b same = reason_tells image sub a b at_a at_b (ap (λ (line : Words). line.rest) same)

-- the lines of outcomes and the last one
all_lines : (image : List ℕ) (list : List Outcome) (parts : List (List ℕ)) → AllZip (AreLines image) list parts → List Words
all_lines image [] parts each = last_words ∷ []
all_lines image (o ∷ os) [] each = []
all_lines image (o ∷ os) (p ∷ ps) each =
    context_words image o ∷ (map loop_words each.0.loops ++ (map (why_words image) o.reasons ++ all_lines image os ps each.1))

lines_ends : (m : ℕ) → (25455 ≡ m → ⊥) → (25966 ≡ m → ⊥) → (0 ≡ m → ⊥) → (image : List ℕ) (list : List Outcome) (parts : List (List ℕ))
    → (each : AllZip (AreLines image) list parts) → mark (all_lines image list parts each) ≡ m → ⊥
unfolding all_lines
lines_ends m context last none image [] parts each same = last same
lines_ends m context last none image (o ∷ os) [] each same = none same
lines_ends m context last none image (o ∷ os) (p ∷ ps) each same = context same

whys_end : (image : List ℕ) (reasons : List Reason) (rest : List Words) → (mark rest ≡ 27759 → ⊥)
    → mark (map (why_words image) reasons ++ rest) ≡ 27759 → ⊥
whys_end image [] rest ends same = ends same
whys_end image (r ∷ rs) rest ends same = let wrong : 29285 ≡ 27759 = same in omega (arith, wrong)

loops_of : (o : Outcome) (loops : List LoopOutcome) → IsProper o → AreByHead o.loops loops → Each (IsLoopOf o.sub) loops
loops_of o loops proper by_head =
    each_of_all (IsLoopOf o.sub) loops (All-permutation (IsLoopOf o.sub) o.loops loops by_head.same proper.loops)

-- equal lines are of outcomes that are alike
all_tell : (image : List ℕ) (list also : List Outcome) (ps qs : List (List ℕ)) (each : AllZip (AreLines image) list ps)
    (other : AllZip (AreLines image) also qs) → Each IsGood list → Each IsGood also → all_lines image list ps each ≡ all_lines image also qs other
    → AllZip AreAlike list also
unfolding all_lines first_line lines_behind
all_tell image [] [] ps qs each other good fine same = tt
all_tell image [] (p ∷ also) ps [] each other good fine same = absurd other
all_tell image [] (p ∷ also) ps (q ∷ qs) each other good fine same =
    let wrong : 25966 ≡ 25455 = ap mark same in absurd (omega (arith, wrong))
all_tell image (o ∷ list) also [] qs each other good fine same = absurd each
all_tell image (o ∷ list) [] (p ∷ ps) qs each other good fine same =
    let wrong : 25455 ≡ 25966 = ap mark same in absurd (omega (arith, wrong))
all_tell image (o ∷ list) (u ∷ also) (p ∷ ps) [] each other good fine same = absurd other
all_tell image (o ∷ list) (u ∷ also) (p ∷ ps) (q ∷ qs) each other good fine same =
    let head : (o.sub ≡ u.sub) × (o.context ≡ u.context) × (o.bound ≡ u.bound) =
    context_tells image o u good.0 fine.0 (ap first_line same) in
    let rest : List Words = all_lines image list ps each.1 in
    let more : List Words = all_lines image also qs other.1 in
    let ends : (m : ℕ) → (25455 ≡ m → ⊥) → (25966 ≡ m → ⊥) → (0 ≡ m → ⊥) → mark rest ≡ m → ⊥ =
    λ m a b c. lines_ends m a b c image list ps each.1 in
    let stops : (m : ℕ) → (25455 ≡ m → ⊥) → (25966 ≡ m → ⊥) → (0 ≡ m → ⊥) → mark more ≡ m → ⊥ =
    λ m a b c. lines_ends m a b c image also qs other.1 in
    let loops : (each.0.loops ≡ other.0.loops) × (map (why_words image) o.reasons ++ rest ≡ map (why_words image) u.reasons ++ more) =
    cut_items loop_words loop_words 27759 (IsLoopOf o.sub) (λ x ls. refl) (λ x ls. refl) (loop_tells o.sub) each.0.loops other.0.loops
    (map (why_words image) o.reasons ++ rest) (map (why_words image) u.reasons ++ more) (loops_of o each.0.loops good.0.0 each.0.by_head)
    (subst (λ sub. Each (IsLoopOf sub) other.0.loops) (sym head.0) (loops_of u other.0.loops fine.0.0 other.0.by_head))
    (whys_end image o.reasons rest (ends 27759 (λ e. omega (arith, e)) (λ e. omega (arith, e)) (λ e. omega (arith, e))))
    (whys_end image u.reasons more (stops 27759 (λ e. omega (arith, e)) (λ e. omega (arith, e)) (λ e. omega (arith, e))))
    (ap lines_behind same) in
    let whys : (o.reasons ≡ u.reasons) × (rest ≡ more) =
    cut_items (why_words image) (why_words image) 29285 (IsReasonOf o.sub) (λ x ls. refl) (λ x ls. refl) (why_tells image o.sub) o.reasons u.reasons
    rest more (each_of_all (IsReasonOf o.sub) o.reasons good.0.0.reasons)
    (subst (λ sub. Each (IsReasonOf sub) u.reasons) (sym head.0) (each_of_all (IsReasonOf u.sub) u.reasons fine.0.0.reasons))
    (ends 29285 (λ e. omega (arith, e)) (λ e. omega (arith, e)) (λ e. omega (arith, e)))
    (stops 29285 (λ e. omega (arith, e)) (λ e. omega (arith, e)) (λ e. omega (arith, e))) loops.1 in
    let alike : AreAlike o u = record {
      sub = head.0;
      context = head.1;
      bound = head.2;
      reasons = whys.0;
      loops = each.0.loops;
      by_head = each.0.by_head;
      other_by_head = subst (λ list. AreByHead u.loops list) (sym loops.0) other.0.by_head;
    } in
    (alike, all_tell image list also ps qs each.1 other.1 good.1 fine.1 whys.1)

-- the texts of lines

pub mapped_text : {X : Type 0} (f : X → Words) (xs : List X) → lines_text (map f xs) ≡ flat_map (λ x. words_text (f x)) xs
mapped_text f [] = refl
mapped_text f (x ∷ xs) = ap (λ text. words_text (f x) ++ text) (mapped_text f xs)

pub lines-append : (ls ms : List Words) → lines_text (ls ++ ms) ≡ lines_text ls ++ lines_text ms
lines-append ls ms = flat_map-append words_text ls ms

all_text : (image : List ℕ) (list : List Outcome) (parts : List (List ℕ)) (each : AllZip (AreLines image) list parts)
    → lines_text (all_lines image list parts each) ≡ flat_map (λ part. part) parts ++ codes "end\n"
unfolding all_lines line_of
all_text image [] [] each = refl
all_text image [] (p ∷ ps) each = absurd each
all_text image (o ∷ os) [] each = absurd each
all_text image (o ∷ os) (p ∷ ps) each =
    let loops : List ℕ = flat_map loop_line each.0.loops in
    let whys : List ℕ = flat_map (reason_line image) o.reasons in
    let tail : List ℕ = flat_map (λ part. part) ps ++ codes "end\n" in
    let rest : List Words = all_lines image os ps each.1 in
    let back : lines_text (map (why_words image) o.reasons ++ rest) ≡ whys ++ tail =
    lines-append (map (why_words image) o.reasons) rest
    ∙ ap (λ text. text ++ lines_text rest) (mapped_text (why_words image) o.reasons)
    ∙ ap (λ text. whys ++ text) (all_text image os ps each.1) in
    let middle : lines_text (map loop_words each.0.loops ++ (map (why_words image) o.reasons ++ rest)) ≡ loops ++ (whys ++ tail) =
    lines-append (map loop_words each.0.loops) (map (why_words image) o.reasons ++ rest)
    ∙ ap (λ text. text ++ lines_text (map (why_words image) o.reasons ++ rest)) (mapped_text loop_words each.0.loops)
    ∙ ap (λ text. loops ++ text) back in
    let part : p ++ tail ≡ context_line image o ++ (loops ++ (whys ++ tail)) =
    ap (λ text. text ++ tail) each.0.is
    ∙ append_assoc (context_line image o) (loops ++ whys) tail
    ∙ ap (λ text. context_line image o ++ text) (append_assoc loops whys tail) in
    ap (λ text. context_line image o ++ text) middle ∙ sym part
    ∙ sym (append_assoc p (flat_map (λ part. part) ps) (codes "end\n"))

report_lines : (image : List ℕ) (outcomes : Outcomes) (text : List ℕ) → IsReport image outcomes text → List Words
report_lines image outcomes text report =
    title_words ∷ (map (root_words image outcomes.list) outcomes.roots ++ all_lines image report.ordered report.parts report.each)

title_is : words_text title_words ≡ codes "boundt report 1\n"
unfolding line_of
title_is = refl

report_text : (image : List ℕ) (outcomes : Outcomes) (text : List ℕ) (report : IsReport image outcomes text)
    → text ≡ lines_text (report_lines image outcomes text report)
unfolding report_lines
report_text image outcomes text report =
    let roots : List ℕ = flat_map (root_line image outcomes.list) outcomes.roots in
    let rest : List Words = all_lines image report.ordered report.parts report.each in
    let back : lines_text (map (root_words image outcomes.list) outcomes.roots ++ rest)
    ≡ roots ++ (flat_map (λ part. part) report.parts ++ codes "end\n") =
    lines-append (map (root_words image outcomes.list) outcomes.roots) rest
    ∙ ap (λ t. t ++ lines_text rest) (mapped_text (root_words image outcomes.list) outcomes.roots)
    ∙ ap (λ t. roots ++ t) (all_text image report.ordered report.parts report.each) in
    report.is ∙ ap (λ t. t ++ (roots ++ (flat_map (λ part. part) report.parts ++ codes "end\n"))) (sym title_is)
    ∙ ap (λ t. words_text title_words ++ t) (sym back)

-- the lines of a report of proper outcomes are clean

pub clean_items : {X : Type 0} (f : X → Words) (P : X → Type 0) → ((x : X) → P x → IsClean (f x)) → (xs : List X) (rest : List Words) → Each P xs
    → AllClean rest → AllClean (map f xs ++ rest)
clean_items f P clean [] rest at others = others
clean_items f P clean (x ∷ xs) rest at others = (clean x at.0, clean_items f P clean xs rest at.1 others)

context_is_clean : (image : List ℕ) (o : Outcome) → IsProper o → IsClean (context_words image o)
context_is_clean image o proper =
    let context : AreClean (context_word o.context ∷ context_rest o.context) = context_clean o.context proper.context in record {
      first = record { is = refl };
      rest =
          clean-append (function_words image o.sub) (context_word o.context ∷ (context_rest o.context ++ bound_words o.bound))
          (function_clean image o.sub)
          (clean-cons (context_word o.context) (context_rest o.context ++ bound_words o.bound)
          (word_clean (context_word o.context) (context_rest o.context) context)
          (clean-append (context_rest o.context) (bound_words o.bound) (words_clean (context_word o.context) (context_rest o.context) context)
          (bound_clean o.bound proper.bound)));
    }

loop_is_clean : (sub : ℕ) (each : LoopOutcome) → IsLoopOf sub each → IsClean (loop_words each)
loop_is_clean sub each at = record {
  first = record { is = refl };
  rest = clean-cons (node_text each.head) (by_words each.by) (node_clean sub each.head at.0) (by_clean each.by at.1);
}

why_is_clean : (image : List ℕ) (sub : ℕ) (reason : Reason) → IsReasonOf sub reason → IsClean (why_words image reason)
why_is_clean image sub reason at = record { first = record { is = refl }; rest = reason_clean image sub reason at }

all_clean : (image : List ℕ) (list : List Outcome) (parts : List (List ℕ)) (each : AllZip (AreLines image) list parts) → Each IsGood list
    → AllClean (all_lines image list parts each)
unfolding all_lines
all_clean image [] parts each good = (record { first = record { is = refl }; rest = record { is = refl } }, tt)
all_clean image (o ∷ os) [] each good = absurd each
all_clean image (o ∷ os) (p ∷ ps) each good = (
  context_is_clean image o good.0.0,
  clean_items loop_words (IsLoopOf o.sub) (loop_is_clean o.sub) each.0.loops (map (why_words image) o.reasons ++ all_lines image os ps each.1)
      (loops_of o each.0.loops good.0.0 each.0.by_head)
      (clean_items (why_words image) (IsReasonOf o.sub) (why_is_clean image o.sub) o.reasons (all_lines image os ps each.1)
      (each_of_all (IsReasonOf o.sub) o.reasons good.0.0.reasons) (all_clean image os ps each.1 good.1)),
)

bound_by : (b : Bool) (root : ℕ) (bound : Option ℕ) (found : Option (Option ℕ)) → IfSome bound (λ n. n < 2 ^ 64)
    → IfSome (flattened found) (λ n. n < 2 ^ 64) → IfSome (flattened (if b then Some bound else found)) (λ n. n < 2 ^ 64)
bound_by true root bound found one rest = one
bound_by false root bound found one rest = rest

root_small : (list : List Outcome) (root : ℕ) → Each IsGood list → IfSome (root_bound list root) (λ n. n < 2 ^ 64)
root_small [] root good = tt
root_small (o ∷ os) root good =
    bound_by (o.sub == root && is_open o.context) root o.bound (open_bound root os) good.0.0.bound (root_small os root good.1)

root_is_clean : (image : List ℕ) (list : List Outcome) → Each IsGood list → (root : ℕ) → root < 2 ^ 32 → IsClean (root_words image list root)
root_is_clean image list good root less = record {
  first = record { is = refl };
  rest =
      clean-append (function_words image root) (bound_words (root_bound list root)) (function_clean image root)
      (bound_clean (root_bound list root) (root_small list root good));
}

good_from : (list : List Outcome) → All IsProper list → All (λ o. HasArguments o.context) list → Each IsGood list
good_from list proper long = each_of_all IsGood list (λ k d less. (proper k d less, long k d less))

good_list : (outcomes : Outcomes) → AreProper outcomes → Each IsGood outcomes.list
good_list outcomes proper = good_from outcomes.list proper.each proper.reportable.arguments

good_ordered : (image : List ℕ) (outcomes : Outcomes) (text : List ℕ) → AreProper outcomes → (report : IsReport image outcomes text)
    → Each IsGood report.ordered
good_ordered image outcomes text proper report =
    good_from report.ordered (All-permutation IsProper outcomes.list report.ordered report.order.same proper.each)
    (All-permutation (λ o. HasArguments o.context) outcomes.list report.ordered report.order.same proper.reportable.arguments)

report_clean : (image : List ℕ) (outcomes : Outcomes) (text : List ℕ) → AreProper outcomes → (report : IsReport image outcomes text)
    → AllClean (report_lines image outcomes text report)
unfolding report_lines
report_clean image outcomes text proper report = (
  record { first = record { is = refl }; rest = record { is = refl } },
  clean_items (root_words image outcomes.list) (λ root. root < 2 ^ 32) (root_is_clean image outcomes.list (good_list outcomes proper)) outcomes.roots
      (all_lines image report.ordered report.parts report.each) (each_of_all (λ root. root < 2 ^ 32) outcomes.roots proper.roots)
      (all_clean image report.ordered report.parts report.each (good_ordered image outcomes text proper report)),
)

-- what a report is of can be read back from it: the roots, and each outcome
pub report_tells : ReportTells
unfolding report_lines lines_behind
report_tells image one other text proper also report another =
    let lines : report_lines image one text report ≡ report_lines image other text another =
    lines_tell (report_lines image one text report) (report_lines image other text another) (report_clean image one text proper report)
    (report_clean image other text also another)
    (sym (report_text image one text report) ∙ report_text image other text another) in
    let cut : (one.roots ≡ other.roots)
    × (all_lines image report.ordered report.parts report.each ≡ all_lines image another.ordered another.parts another.each) =
    cut_items (root_words image one.list) (root_words image other.list) 29295 (λ root. root < 2 ^ 32) (λ x ls. refl) (λ x ls. refl)
    (root_tells image one.list other.list) one.roots other.roots (all_lines image report.ordered report.parts report.each)
    (all_lines image another.ordered another.parts another.each)
    (each_of_all (λ root. root < 2 ^ 32) one.roots proper.roots) (each_of_all (λ root. root < 2 ^ 32) other.roots also.roots)
    (lines_ends 29295 (λ e. omega (arith, e)) (λ e. omega (arith, e)) (λ e. omega (arith, e)) image report.ordered report.parts report.each)
    (lines_ends 29295 (λ e. omega (arith, e)) (λ e. omega (arith, e)) (λ e. omega (arith, e)) image another.ordered another.parts another.each)
    (ap lines_behind lines) in record {
      roots = cut.0;
      list = report.ordered;
      also = another.ordered;
      order = report.order;
      also_order = another.order;
      alike =
          all_tell image report.ordered another.ordered report.parts another.parts report.each another.each
          (good_ordered image one text proper report) (good_ordered image other text also another) cut.1;
    }
