-- Outcomes have one report.
use Rattle.std.proofs.Common.{◌≡◌, ℕ, List, [], ◌∷◌, ◌++◌, refl, ap, sym, ◌∙◌, subst, append_assoc, codes}
use Rattle.std.specs.Cmp.{IsTotalOrder, on_total, then_total, nat_cmp_total}
use Rattle.std.specs.Cmp.Lexicographic.{slice_cmp, on_texts}
use Rattle.std.specs.FinMap.{nat_cmp-IsAntisymmetric, slice_cmp-IsAntisymmetric}
use Rattle.std.specs.List.{flat_map, AllZip}
use Rattle.std.specs.Ordering.{nat_cmp, ordering_then}
use Rattle.std.specs.Prelude.{All, Contains}
use Rattle.std.specs.declared.cmp.Ordering.{Ordering}
use Rattle.std.specs.declared.cmp.Ordering.TheVariants.{Less, Equal, Greater}
use Rattle.std.proofs.lemmas.List.Elements.{All-head, All-tail, All-weaker}
use Rattle.std.proofs.lemmas.List.Sorted.{All-permutation}
use Rattle.abs_state.proofs.KeyLemmas.{keys_are_ordered}
use Rattle.abs_state.specs.declared.key.Key.TheVariants.{Node}
use Rattle.abs_state.specs.declared.key.Place.{Place}
use Rattle.wcet_report.proofs.ContextTexts.{context_words_tell, no_argument_any}
use Rattle.wcet_report.proofs.LineTexts.{Words, IsClean, line_tells, word_clean, words_clean}
use Rattle.wcet_report.proofs.LineWords.{context_clean}
use Rattle.wcet_report.proofs.Sortings.{sorted_once, alike_once}
use Rattle.wcet_report.specs.Context.{HasArguments, context_text, context_word, context_rest}
use Rattle.wcet_report.specs.Laws.{AreProper, ContextInRange, IsProper, ReportIsOne}
use Rattle.wcet_report.specs.Line.{spaced, line_of}
use Rattle.wcet_report.specs.Order.{place_cmp, known_rank, outcome_cmp, AreOrdered, AreByHead}
use Rattle.wcet_report.specs.Outcome.{context_line, loop_line, reason_line}
use Rattle.wcet_report.specs.Report.{AreApart, AreLines, IsReport, root_line}
use Rattle.wcet_report.specs.declared.context.Context.{Context}
use Rattle.wcet_report.specs.declared.loops.LoopOutcome.{LoopOutcome}
use Rattle.wcet_report.specs.declared.outcome.Outcome.{Outcome}
use Rattle.wcet_report.specs.declared.outcome.Outcomes.{Outcomes}

-- program points

node_key : (p q : Place) → Node p ≡ Node q → p ≡ q
node_key p q same = cc

place_exact : (p q : Place) → place_cmp p q ≡ Equal → p ≡ q
place_exact p q tie = node_key p q (keys_are_ordered.exact (Node p) (Node q) tie)

place_total : IsTotalOrder place_cmp
place_total = record {
  antisymm = λ p q. keys_are_ordered.total.antisymm (Node p) (Node q);
  trans = λ p q r. keys_are_ordered.total.trans (Node p) (Node q) (Node r);
  congr = λ p q r. keys_are_ordered.total.congr (Node p) (Node q) (Node r);
}

abbrev head_cmp : LoopOutcome → LoopOutcome → Ordering
head_cmp a b = place_cmp a.head b.head

head_total : IsTotalOrder head_cmp
head_total = on_total (λ (each : LoopOutcome). each.head) place_total

-- loops with heads of their own have one order by head
pub loops_once : (loops one other : List LoopOutcome) → AreApart (λ a b. a.head ≡ b.head) loops → AreByHead loops one → AreByHead loops other
    → one ≡ other
loops_once loops one other apart by_head also =
    sorted_once head_cmp head_total loops one other
    (λ a b has_a has_b tie. alike_once (λ a b. a.head ≡ b.head) loops apart (λ a b same. sym same) a b has_a has_b (place_exact a.head b.head tie))
    by_head.same also.same by_head.rise also.rise

-- contexts

text_line : (context : Context) → context_text context ++ codes "\n" ≡ line_of (context_word context) (context_rest context)
unfolding context_text line_of
text_line context = append_assoc (context_word context) (spaced (context_rest context)) (codes "\n")

words_of : Context → Words
words_of context = record { first = context_word context; rest = context_rest context }

words_are_clean : (context : Context) → ContextInRange context → IsClean (words_of context)
unfolding words_of
words_are_clean context at = record {
  first = word_clean (context_word context) (context_rest context) (context_clean context at);
  rest = words_clean (context_word context) (context_rest context) (context_clean context at);
}

same_words : (a b : Context) → ContextInRange a → ContextInRange b → context_text a ≡ context_text b → words_of a ≡ words_of b
unfolding words_of
same_words a b at_a at_b same =
    (line_tells (words_of a) (words_of b) [] [] (words_are_clean a at_a) (words_are_clean b at_b)
    (ap (λ text. text ++ []) (sym (text_line a) ∙ ap (λ text. text ++ codes "\n") same ∙ text_line b))).0

-- the text of a context tells it
pub context_text_tells : (a b : Context) → ContextInRange a → ContextInRange b → HasArguments a → HasArguments b → context_text a ≡ context_text b
    → a ≡ b
unfolding words_of
context_text_tells a b at_a at_b long also same =
    (context_words_tell a b (codes "any" ∷ []) (codes "any" ∷ []) at_a at_b long also no_argument_any no_argument_any
    (ap (λ (line : Words). line.first ∷ (line.rest ++ (codes "any" ∷ []))) (same_words a b at_a at_b same))).0

-- outcomes

outcome_total : IsTotalOrder outcome_cmp
outcome_total =
    then_total (on_total (λ (o : Outcome). o.sub) nat_cmp_total)
    (then_total (on_total (λ (o : Outcome). known_rank o.context) nat_cmp_total) (on_texts (λ (o : Outcome). context_text o.context)))

both : (a b : Ordering) → ordering_then a b ≡ Equal → (a ≡ Equal) × (b ≡ Equal)
both Less b tie = absurd (let wrong : Less ≡ Equal = tie in cc)
both Equal b tie = (refl, tie)
both Greater b tie = absurd (let wrong : Greater ≡ Equal = tie in cc)

of_member : {X : Type 0} (P : X → Type 0) (xs : List X) (x : X) → All P xs → Contains xs x → P x
of_member P xs x all (k, less, is) = subst P is (all k x less)

-- outcomes of a list whose contexts are apart are one where they tie
outcome_exact : (list : List Outcome) → AreApart (λ a b. (a.sub ≡ b.sub) × (a.context ≡ b.context)) list
    → All (λ outcome. ContextInRange outcome.context) list → All (λ outcome. HasArguments outcome.context) list
    → (a b : Outcome) → Contains list a → Contains list b → outcome_cmp a b ≡ Equal → a ≡ b
outcome_exact list apart range long a b has_a has_b tie =
    let first : (nat_cmp a.sub b.sub ≡ Equal)
    × (ordering_then (nat_cmp (known_rank a.context) (known_rank b.context)) (slice_cmp nat_cmp (context_text a.context) (context_text b.context)) ≡ Equal) =
    both (nat_cmp a.sub b.sub)
    (ordering_then (nat_cmp (known_rank a.context) (known_rank b.context)) (slice_cmp nat_cmp (context_text a.context) (context_text b.context))) tie in
    let texts : slice_cmp nat_cmp (context_text a.context) (context_text b.context) ≡ Equal =
    (both (nat_cmp (known_rank a.context) (known_rank b.context)) (slice_cmp nat_cmp (context_text a.context) (context_text b.context)) first.1).1 in
    let subs : a.sub ≡ b.sub = nat_cmp-IsAntisymmetric a.sub b.sub first.0 in
    let contexts : a.context ≡ b.context =
    context_text_tells a.context b.context (of_member (λ outcome. ContextInRange outcome.context) list a range has_a)
    (of_member (λ outcome. ContextInRange outcome.context) list b range has_b)
    (of_member (λ outcome. HasArguments outcome.context) list a long has_a)
    (of_member (λ outcome. HasArguments outcome.context) list b long has_b)
    (slice_cmp-IsAntisymmetric nat_cmp-IsAntisymmetric (context_text a.context) (context_text b.context) texts) in
    alike_once (λ a b. (a.sub ≡ b.sub) × (a.context ≡ b.context)) list apart (λ a b same. (sym same.0, sym same.1)) a b has_a has_b (subs, contexts)

-- contexts of a list that are apart have one order
ordered_once : (list one other : List Outcome) → AreApart (λ a b. (a.sub ≡ b.sub) × (a.context ≡ b.context)) list
    → All (λ outcome. ContextInRange outcome.context) list → All (λ outcome. HasArguments outcome.context) list → AreOrdered list one → AreOrdered list other
    → one ≡ other
ordered_once list one other apart range long order also =
    sorted_once outcome_cmp outcome_total list one other (outcome_exact list apart range long) order.same also.same order.rise also.rise

-- the contexts of proper outcomes have their values in range
in_range : (list : List Outcome) → All IsProper list → All (λ outcome. ContextInRange outcome.context) list
in_range list proper = All-weaker IsProper (λ outcome. ContextInRange outcome.context) (λ outcome is. is.context) list proper

-- proper outcomes have one order
pub order_once : (outcomes : Outcomes) (one other : List Outcome) → AreProper outcomes → AreOrdered outcomes.list one
    → AreOrdered outcomes.list other → one ≡ other
order_once outcomes one other proper order also =
    ordered_once outcomes.list one other proper.reportable.apart (in_range outcomes.list proper.each) proper.reportable.arguments order also

-- whole reports

lines_once : (image : List ℕ) (outcome : Outcome) (one other : List ℕ) → AreApart (λ a b. a.head ≡ b.head) outcome.loops
    → AreLines image outcome one → AreLines image outcome other → one ≡ other
lines_once image outcome one other apart lines also =
    let loops : lines.loops ≡ also.loops = loops_once outcome.loops lines.loops also.loops apart lines.by_head also.by_head in
    lines.is
    ∙ ap (λ list. context_line image outcome ++ (flat_map loop_line list ++ flat_map (reason_line image) outcome.reasons)) loops
    ∙ sym also.is

parts_once : (image : List ℕ) (list : List Outcome) (ps qs : List (List ℕ)) → All (λ outcome. AreApart (λ a b. a.head ≡ b.head) outcome.loops) list
    → AllZip (AreLines image) list ps → AllZip (AreLines image) list qs → ps ≡ qs
parts_once image [] [] [] apart each also = refl
parts_once image [] [] (q ∷ qs) apart each also = absurd also
parts_once image [] (p ∷ ps) qs apart each also = absurd each
parts_once image (o ∷ os) [] qs apart each also = absurd each
parts_once image (o ∷ os) (p ∷ ps) [] apart each also = absurd also
parts_once image (o ∷ os) (p ∷ ps) (q ∷ qs) apart each also =
    let one : p ≡ q =
    lines_once image o p q (All-head (λ outcome. AreApart (λ a b. a.head ≡ b.head) outcome.loops) o os apart) each.0 also.0 in
    let rest : ps ≡ qs =
    parts_once image os ps qs (All-tail (λ outcome. AreApart (λ a b. a.head ≡ b.head) outcome.loops) o os apart) each.1 also.1 in
    cc (one, rest)

-- outcomes that are told apart have at most one report
pub report_once : (image : List ℕ) (outcomes : Outcomes) (one other : List ℕ) → AreApart (λ a b. (a.sub ≡ b.sub) × (a.context ≡ b.context)) outcomes.list
    → All (λ outcome. AreApart (λ a b. a.head ≡ b.head) outcome.loops) outcomes.list → All (λ outcome. ContextInRange outcome.context) outcomes.list
    → All (λ outcome. HasArguments outcome.context) outcomes.list → IsReport image outcomes one → IsReport image outcomes other → one ≡ other
report_once image outcomes one other apart heads range long report also =
    let order : report.ordered ≡ also.ordered =
    ordered_once outcomes.list report.ordered also.ordered apart range long report.order also.order in
    let of_each : All (λ outcome. AreApart (λ a b. a.head ≡ b.head) outcome.loops) also.ordered =
    All-permutation (λ outcome. AreApart (λ a b. a.head ≡ b.head) outcome.loops) outcomes.list also.ordered also.order.same heads in
    let parts : report.parts ≡ also.parts =
    parts_once image also.ordered report.parts also.parts of_each
    (subst (λ list. AllZip (AreLines image) list report.parts) order report.each) also.each in
    report.is
    ∙ ap (λ list. codes "boundt report 1\n" ++ (flat_map (root_line image outcomes.list) outcomes.roots
    ++ (flat_map (λ part. part) list ++ codes "end\n"))) parts
    ∙ sym also.is

-- so proper outcomes have
pub report_is_one : ReportIsOne
report_is_one image outcomes one other proper report also =
    report_once image outcomes one other proper.reportable.apart proper.reportable.heads (in_range outcomes.list proper.each)
    proper.reportable.arguments report also
