-- What a refusal says of a call.
use Rattle.std.proofs.Common.{◌≡◌, ℕ, List, Option, Result, Ok, Err, ap, subst, ◌∙◌}
use Rattle.std.specs.Prelude.{IsErrOf}
use Rattle.assert_bind.specs.declared.body.BoundAssertion.{BoundAssertion}
use Rattle.bound_task.specs.Problem.{IsProblemOf}
use Rattle.bound_task.specs.declared.problem.Problem.{Problem}
use Rattle.bt_command.specs.Bound.{BoundSays, BoundShows}
use Rattle.bt_command.specs.Call.{Call, Reading, HasImage, HasCosts, StatesNothing}
use Rattle.bt_command.specs.Files.{Names, HasFiles, IsProblemOfFiles, RefusesAssertions}
use Rattle.bt_command.specs.Graph.{GraphSays, GraphShows}
use Rattle.bt_command.specs.Program.{RefusesProgram}
use Rattle.bt_command.specs.Refusal.{Refuses}
use Rattle.bt_command.specs.declared.status.AssertFault.TheVariants.{Parse, Bind, Unmatched}
use Rattle.bt_command.specs.declared.status.AssertFault.{AssertFault}
use Rattle.bt_command.specs.declared.status.LimitFault.TheVariants.{TooLong, Nodes, Contexts}
use Rattle.bt_command.specs.declared.status.Status.{Status}
use Rattle.bt_command.specs.declared.status.Status.TheVariants.{Bounded, Unbounded, Usage, Image, Cycles, Assertions, ReadFault, WriteFault, Want, Limit}

-- the refusal of the program that the files are is one of the files
pub refuses_program : (names : Names) (read : Reading) (image costs : List ℕ) (those : List BoundAssertion) (status : Status)
    → HasFiles read names image costs those → RefusesProgram image costs those status → Refuses names read status
refuses_program names read image costs those Bounded f h = h
refuses_program names read image costs those Unbounded f h = h
refuses_program names read image costs those Usage f h = h
refuses_program names read image costs those (Image refusal) f h = absurd h
refuses_program names read image costs those (Cycles refusal) f h = absurd h
refuses_program names read image costs those (Assertions (Parse refusal)) f h = absurd h
refuses_program names read image costs those (Assertions (Bind refusal)) f h = absurd h
refuses_program names read image costs those (Assertions (Unmatched line)) f h =
    record { image = image; costs = costs; those = those; files = f; refused = h }
refuses_program names read image costs those (ReadFault file) f h = absurd h
refuses_program names read image costs those (WriteFault written) f h = h
refuses_program names read image costs those Want f h = h
refuses_program names read image costs those (Limit (TooLong file limit)) f h = absurd h
refuses_program names read image costs those (Limit (Nodes count)) f h =
    record { image = image; costs = costs; those = those; files = f; refused = h }
refuses_program names read image costs those (Limit (Contexts count)) f h =
    record { image = image; costs = costs; those = those; files = f; refused = h }

-- the same of the problem of the files
pub refuses_problem : (names : Names) (read : Reading) (p : Problem) (status : Status) → (is : IsProblemOfFiles read names p)
    → ((image costs : List ℕ) (those : List BoundAssertion) → IsProblemOf image costs those p → RefusesProgram image costs those status)
    → Refuses names read status
refuses_problem names read p status is h =
    refuses_program names read is.image is.costs is.those status is.files (h is.image is.costs is.those is.problem)

-- a refusal is one of the command `bound`
pub refused_bound : (names : Names) (call : Call) (status : Status) → Refuses names call.read status → BoundSays names call status
refused_bound names call Bounded h = absurd h
refused_bound names call Unbounded h = absurd h
refused_bound names call Usage h = h
refused_bound names call (Image refusal) h = h
refused_bound names call (Cycles refusal) h = h
refused_bound names call (Assertions fault) h = h
refused_bound names call (ReadFault file) h = h
refused_bound names call (WriteFault written) h = absurd h
refused_bound names call Want h = h
refused_bound names call (Limit fault) h = h

-- and one of the command `graph`
pub refused_graph : (names : Names) (call : Call) (status : Status) → Refuses names call.read status → GraphSays names call status
refused_graph names call Bounded h = absurd h
refused_graph names call Unbounded h = h
refused_graph names call Usage h = h
refused_graph names call (Image refusal) h = h
refused_graph names call (Cycles refusal) h = h
refused_graph names call (Assertions fault) h = h
refused_graph names call (ReadFault file) h = h
refused_graph names call (WriteFault written) h = absurd h
refused_graph names call Want h = h
refused_graph names call (Limit fault) h = h

-- a refusal shows nothing
pub unshown_bound : (names : Names) (call : Call) (status : Status) → Refuses names call.read status → BoundShows names call status
unshown_bound names call Bounded h = absurd h
unshown_bound names call Unbounded h = absurd h
unshown_bound names call Usage h = record {}
unshown_bound names call (Image refusal) h = record {}
unshown_bound names call (Cycles refusal) h = record {}
unshown_bound names call (Assertions fault) h = record {}
unshown_bound names call (ReadFault file) h = record {}
unshown_bound names call (WriteFault written) h = record {}
unshown_bound names call Want h = record {}
unshown_bound names call (Limit fault) h = record {}

-- so is it of the command `graph`
pub unshown_graph : (names : Names) (call : Call) (status : Status) → Refuses names call.read status → GraphShows names call status
unshown_graph names call Bounded h = absurd h
unshown_graph names call Unbounded h = record {}
unshown_graph names call Usage h = record {}
unshown_graph names call (Image refusal) h = record {}
unshown_graph names call (Cycles refusal) h = record {}
unshown_graph names call (Assertions fault) h = record {}
unshown_graph names call (ReadFault file) h = record {}
unshown_graph names call (WriteFault written) h = record {}
unshown_graph names call Want h = record {}
unshown_graph names call (Limit fault) h = record {}

-- what the assertions state nothing by is a refusal
pub refused_assertions : (names : Names) (read : Reading) (fault : AssertFault) → RefusesAssertions read names fault
    → Refuses names read (Assertions fault)
refused_assertions names read (Parse refusal) h = h
refused_assertions names read (Bind refusal) h = h
refused_assertions names read (Unmatched line) h = absurd h.refused

abbrev error_or : {X E : Type 0} → E → Result X E → E
error_or other (Ok x) = other
error_or other (Err e) = e

-- so is a status that is that of these assertions, behind an accepted image and an accepted table
pub refused_as : (names : Names) (read : Reading) (image costs : List ℕ) (told there : Option (List ℕ)) (fault other : AssertFault) (status : Status)
    → HasImage (read.told names.image) image → HasCosts told costs → told ≡ read.told names.cycles → StatesNothing there image fault
    → there ≡ read.told names.assertions → fault ≡ other → IsErrOf {T = Problem} {E = Status} (Err (Assertions other)) status
    → Refuses names read status
refused_as names read image costs told there fault other status has table same nothing alike equal is =
    let fault_is : Assertions fault ≡ status = ap (λ (f : AssertFault). Assertions f) equal ∙ ap (error_or (Assertions other)) is in
    subst (Refuses names read) fault_is
    (refused_assertions names read fault
    (record {
      image = image;
      has_image = has;
      costs = record { costs = costs; has = subst (λ (t : Option (List ℕ)). HasCosts t costs) same table };
      refused = subst (λ (t : Option (List ℕ)). StatesNothing t image fault) alike nothing;
    }))
