-- The lines of an outcome: its context with its bound, its loops, and its reasons.
use Rattle.std.specs.Prelude.{ℕ, ◌<◌, List, [], ◌∷◌, ◌++◌, Option, Some, None, codes, decimal}
use Rattle.std.specs.Fmt.{signed_decimal}
use Rattle.bt_base.specs.Text.{hex8_of}
use Rattle.wcet_report.specs.Context.{context_word, context_rest}
use Rattle.wcet_report.specs.Line.{line_of, function_words}
use Rattle.wcet_report.specs.Node.{node_text, cell_text}
use Rattle.wcet_report.specs.declared.loops.By.{By}
use Rattle.wcet_report.specs.declared.loops.By.TheVariants.{Counter, Asserted, Nothing}
use Rattle.wcet_report.specs.declared.loops.LoopOutcome.{LoopOutcome}
use Rattle.wcet_report.specs.declared.outcome.Outcome.{Outcome}
use Rattle.wcet_report.specs.declared.reason.Reason.{Reason}
use Rattle.wcet_report.specs.declared.reason.Reason.TheVariants.{Jump, Call, Instr, Loop, Irreducible, Callee, Recursion, Windows, TooLarge}

-- a bound in cycles, or that there is none
abbrev pub bound_words : Option ℕ → List (List ℕ)
bound_words (Some bound) = codes "bounded" ∷ decimal bound ∷ []
bound_words None = codes "unbounded" ∷ []

-- how often a loop's head is passed at most, and by what
abbrev pub by_words : By → List (List ℕ)
by_words (Counter b) =
    codes "at" ∷ codes "most" ∷ decimal b.passes ∷ codes "by" ∷ cell_text b.cell ∷ codes "step" ∷ signed_decimal b.step
    ∷ codes "from" ∷ signed_decimal b.lo ∷ codes "to" ∷ signed_decimal b.hi ∷ []
by_words (Asserted count) = codes "at" ∷ codes "most" ∷ decimal count ∷ codes "by" ∷ codes "assertion" ∷ []
by_words Nothing = codes "unbounded" ∷ []

-- why there is no bound
abbrev pub reason_words : List ℕ → Reason → List (List ℕ)
reason_words image (Jump pc) = codes "jump" ∷ hex8_of pc ∷ []
reason_words image (Call pc) = codes "call" ∷ hex8_of pc ∷ []
reason_words image (Instr pc) = codes "instr" ∷ hex8_of pc ∷ []
reason_words image (Loop head) = codes "loop" ∷ node_text head ∷ []
reason_words image (Irreducible x y) = codes "irreducible" ∷ node_text x ∷ node_text y ∷ []
reason_words image (Callee call callee) = codes "callee" ∷ hex8_of call ∷ function_words image callee
reason_words image (Recursion pc) = codes "recursion" ∷ hex8_of pc ∷ []
reason_words image (Windows need) = codes "windows" ∷ decimal need ∷ []
reason_words image (TooLarge node) = codes "toolarge" ∷ node_text node ∷ []

-- the line of a context
abbrev pub context_line : List ℕ → Outcome → List ℕ
context_line image outcome =
    line_of (codes "context")
    (function_words image outcome.sub ++ (context_word outcome.context ∷ (context_rest outcome.context ++ bound_words outcome.bound)))

-- the line of a loop
abbrev pub loop_line : LoopOutcome → List ℕ
loop_line each = line_of (codes "loop") (node_text each.head ∷ by_words each.by)

-- the line of a reason
abbrev pub reason_line : List ℕ → Reason → List ℕ
reason_line image reason = line_of (codes "reason") (reason_words image reason)

-- a counter is one of the cells
abbrev pub HasCell : By → Type 0
HasCell (Counter b) = b.cell < 48
HasCell (Asserted count) = Unit {0}
HasCell Nothing = Unit {0}
