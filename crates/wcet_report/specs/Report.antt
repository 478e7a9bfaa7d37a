-- The report of the outcomes of an image.
use Rattle.std.specs.Prelude.{◌≡◌, ℕ, ◌<◌, ◌==◌, ◌&&◌, Bool, List, [], ◌∷◌, ◌++◌, All, Option, Some, None, codes, length, slice_index_or, if◌then◌else◌}
use Rattle.std.specs.List.{filter, flat_map, AllZip}
use Rattle.wcet_report.specs.Context.{HasArguments, is_open}
use Rattle.wcet_report.specs.Line.{line_of, function_words}
use Rattle.wcet_report.specs.Order.{AreOrdered, AreByHead}
use Rattle.wcet_report.specs.Outcome.{HasCell, bound_words, context_line, loop_line, reason_line}
use Rattle.wcet_report.specs.declared.loops.LoopOutcome.{LoopOutcome}
use Rattle.wcet_report.specs.declared.outcome.Outcome.{Outcome}
use Rattle.wcet_report.specs.declared.outcome.Outcomes.{Outcomes}

-- the lines of one context: its own, its loops by rising head, and its reasons in their order
pub record AreLines (image : List ℕ) (outcome : Outcome) (text : List ℕ) : Type 0 where
  pub loops : List LoopOutcome
  pub by_head : AreByHead outcome.loops loops
  pub is : text ≡ context_line image outcome ++ (flat_map loop_line loops ++ flat_map (reason_line image) outcome.reasons)

-- whether an outcome is that of a subprogram called with nothing known of its arguments
abbrev pub is_of_root : ℕ → Outcome → Bool
is_of_root root outcome = outcome.sub == root && is_open outcome.context

-- the bound of the first such outcome of a subprogram, where there is one
abbrev pub open_bound : ℕ → List Outcome → Option (Option ℕ)
open_bound root [] = None
open_bound root (outcome ∷ rest) = if is_of_root root outcome then Some outcome.bound else open_bound root rest

abbrev pub flattened : Option (Option ℕ) → Option ℕ
flattened None = None
flattened (Some bound) = bound

-- the bound of a root, by the outcome that it has
abbrev pub root_bound : List Outcome → ℕ → Option ℕ
root_bound list root = flattened (open_bound root list)

-- the line of a root with a bound
abbrev pub bounded_line : List ℕ → ℕ → Option ℕ → List ℕ
bounded_line image root bound = line_of (codes "root") (function_words image root ++ bound_words bound)

-- the line of a root
abbrev pub root_line : List ℕ → List Outcome → ℕ → List ℕ
root_line image list root = bounded_line image root (root_bound list root)

-- the text is the report of the outcomes: its first line, the roots in their order, the contexts in order, its last line
pub record IsReport (image : List ℕ) (outcomes : Outcomes) (text : List ℕ) : Type 0 where
  pub ordered : List Outcome
  pub order : AreOrdered outcomes.list ordered
  pub parts : List (List ℕ)
  pub each : AllZip (AreLines image) ordered parts
  pub is : text ≡ codes "boundt report 1\n" ++ (flat_map (root_line image outcomes.list) outcomes.roots
      ++ (flat_map (λ part. part) parts ++ codes "end\n"))

-- no two items of a list, at different places, are alike
abbrev pub AreApart : {X : Type 0} → (X → X → Type 0) → List X → Type 0
AreApart {X} alike list = (j k : ℕ) (d : X) → j < k → k < length list → alike (slice_index_or list j d) (slice_index_or list k d) → ⊥

-- how many outcomes a root has
abbrev pub outcomes_of : ℕ → List Outcome → ℕ
outcomes_of root list = length (filter (is_of_root root) list)

-- the outcomes can be reported: each root has exactly one, no context stands twice, and in each no head of a loop stands
-- twice, the counters are cells, and there is a value for each argument
pub record AreReportable (outcomes : Outcomes) : Type 0 where
  pub rooted : All (λ root. outcomes_of root outcomes.list ≡ 1) outcomes.roots
  pub apart : AreApart (λ a b. (a.sub ≡ b.sub) × (a.context ≡ b.context)) outcomes.list
  pub heads : All (λ outcome. AreApart (λ a b. a.head ≡ b.head) outcome.loops) outcomes.list
  pub cells : All (λ outcome. All (λ each. HasCell each.by) outcome.loops) outcomes.list
  pub arguments : All (λ outcome. HasArguments outcome.context) outcomes.list
