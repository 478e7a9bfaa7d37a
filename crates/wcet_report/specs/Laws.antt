-- Facts about reports.
use Rattle.std.specs.Prelude.{◌≡◌, ℕ, ◌^◌, ◌<◌, List, ◌++◌, All, Contains, FitsSigned, IfSome}
use Rattle.std.specs.Int.{w32, w64}
use Rattle.std.specs.List.{AllZip}
use Rattle.abs_state.specs.declared.key.Next.{Next}
use Rattle.abs_state.specs.declared.key.Next.TheVariants.{At, Into, Back}
use Rattle.abs_state.specs.declared.key.Place.{Place}
use Rattle.value_lattice.specs.Value.{IsValue}
use Rattle.wcet_report.specs.Order.{AreOrdered, AreByHead}
use Rattle.wcet_report.specs.Outcome.{context_line, loop_line, reason_line}
use Rattle.wcet_report.specs.Report.{AreReportable, IsReport, root_line}
use Rattle.wcet_report.specs.declared.context.Context.{Context}
use Rattle.wcet_report.specs.declared.context.Context.TheVariants.{Plain, With}
use Rattle.wcet_report.specs.declared.loops.By.{By}
use Rattle.wcet_report.specs.declared.loops.By.TheVariants.{Counter, Asserted, Nothing}
use Rattle.wcet_report.specs.declared.loops.LoopOutcome.{LoopOutcome}
use Rattle.wcet_report.specs.declared.outcome.Outcome.{Outcome}
use Rattle.wcet_report.specs.declared.outcome.Outcomes.{Outcomes}
use Rattle.wcet_report.specs.declared.reason.Reason.{Reason}
use Rattle.wcet_report.specs.declared.reason.Reason.TheVariants.{Jump, Call, Instr, Loop, Irreducible, Callee, Recursion, Windows, TooLarge}

-- the addresses of what comes next are words
abbrev pub NextInRange : Next → Type 0
NextInRange (At n) = n < 2 ^ 32
NextInRange (Into t) = t < 2 ^ 32
NextInRange Back = Unit {0}

-- a program point of a subprogram, with its numbers in their ranges
pub record IsPointOf (sub : ℕ) (place : Place) : Type 0 where
  pub of : place.sub ≡ sub
  pub address : place.pc < 2 ^ 32
  pub next : NextInRange place.next
  pub depth : place.depth < 256

-- what bounds a loop has its numbers in their ranges
abbrev pub ByInRange : By → Type 0
ByInRange (Counter b) =
    (b.cell < 48) × (b.passes < 2 ^ 64) × FitsSigned w64 b.step × FitsSigned w32 b.lo × FitsSigned w32 b.hi
ByInRange (Asserted count) = count < 2 ^ 64
ByInRange Nothing = Unit {0}

-- a reason of a subprogram, with its numbers in their ranges
abbrev pub IsReasonOf : ℕ → Reason → Type 0
IsReasonOf sub (Jump pc) = pc < 2 ^ 32
IsReasonOf sub (Call pc) = pc < 2 ^ 32
IsReasonOf sub (Instr pc) = pc < 2 ^ 32
IsReasonOf sub (Loop head) = IsPointOf sub head
IsReasonOf sub (Irreducible x y) = IsPointOf sub x × IsPointOf sub y
IsReasonOf sub (Callee call callee) = (call < 2 ^ 32) × (callee < 2 ^ 32)
IsReasonOf sub (Recursion pc) = pc < 2 ^ 32
IsReasonOf sub (Windows need) = need < 2 ^ 32
IsReasonOf sub (TooLarge node) = IsPointOf sub node

-- the values of a context are values
abbrev pub ContextInRange : Context → Type 0
ContextInRange Plain = Unit {0}
ContextInRange (With args) = All IsValue args

-- an outcome speaks of its own subprogram, with its numbers in their ranges
pub record IsProper (outcome : Outcome) : Type 0 where
  pub sub : outcome.sub < 2 ^ 32
  pub context : ContextInRange outcome.context
  pub loops : All (λ each. IsPointOf outcome.sub each.head × ByInRange each.by) outcome.loops
  pub reasons : All (IsReasonOf outcome.sub) outcome.reasons
  pub bound : IfSome outcome.bound (λ bound. bound < 2 ^ 64)

-- outcomes that can be reported, with their numbers in their ranges
pub record AreProper (outcomes : Outcomes) : Type 0 where
  pub reportable : AreReportable outcomes
  pub roots : All (λ root. root < 2 ^ 32) outcomes.roots
  pub each : All IsProper outcomes.list

-- outcomes have at most one report
abbrev pub ReportIsOne : Type 0
ReportIsOne = (image : List ℕ) (outcomes : Outcomes) (one other : List ℕ)
    → AreProper outcomes → IsReport image outcomes one → IsReport image outcomes other → one ≡ other

-- a text has some lines within it
pub record HasWithin (part text : List ℕ) : Type 0 where
  pub before : List ℕ
  pub after : List ℕ
  pub is : text ≡ before ++ (part ++ after)

-- the line of each root stands in the report
abbrev pub ReportHasRoots : Type 0
ReportHasRoots = (image : List ℕ) (outcomes : Outcomes) (text : List ℕ) (root : ℕ)
    → IsReport image outcomes text → Contains outcomes.roots root → HasWithin (root_line image outcomes.list root) text

-- the lines of each outcome stand in the report: that of its context, and of each loop and each reason
abbrev pub ReportHasEach : Type 0
ReportHasEach = (image : List ℕ) (outcomes : Outcomes) (text : List ℕ) (outcome : Outcome)
    → IsReport image outcomes text → Contains outcomes.list outcome → HasWithin (context_line image outcome) text

abbrev pub ReportHasLoops : Type 0
ReportHasLoops = (image : List ℕ) (outcomes : Outcomes) (text : List ℕ) (outcome : Outcome) (each : LoopOutcome)
    → IsReport image outcomes text → Contains outcomes.list outcome → Contains outcome.loops each → HasWithin (loop_line each) text

abbrev pub ReportHasReasons : Type 0
ReportHasReasons = (image : List ℕ) (outcomes : Outcomes) (text : List ℕ) (outcome : Outcome) (reason : Reason)
    → IsReport image outcomes text → Contains outcomes.list outcome → Contains outcome.reasons reason
    → HasWithin (reason_line image reason) text

-- two outcomes that differ at most in the order of their loops
pub record AreAlike (one other : Outcome) : Type 0 where
  pub sub : one.sub ≡ other.sub
  pub context : one.context ≡ other.context
  pub bound : one.bound ≡ other.bound
  pub reasons : one.reasons ≡ other.reasons
  pub loops : List LoopOutcome
  pub by_head : AreByHead one.loops loops
  pub other_by_head : AreByHead other.loops loops

-- outcomes that differ at most in the order of the contexts and of their loops
pub record AreSameOutcomes (one other : Outcomes) : Type 0 where
  pub roots : one.roots ≡ other.roots
  pub list : List Outcome
  pub also : List Outcome
  pub order : AreOrdered one.list list
  pub also_order : AreOrdered other.list also
  pub alike : AllZip AreAlike list also

-- what a report says can be read back from it
abbrev pub ReportTells : Type 0
ReportTells = (image : List ℕ) (one other : Outcomes) (text : List ℕ)
    → AreProper one → AreProper other → IsReport image one text → IsReport image other text → AreSameOutcomes one other
