-- What a status of the command `graph` says of files that are told, where no fault rises: it is what their bytes come to, or memory
-- is wanting; and the whole graph is written where their program is within the limits.
use Rattle.std.proofs.Common.{◌≡◌, ℕ, ◌⊎◌, inl, inr, List, Result, Ok, refl, subst}
use Rattle.assert_bind.specs.declared.body.BoundAssertion.{BoundAssertion}
use Rattle.bound_task.specs.Text.{IsGraphTextOf}
use Rattle.bt_command.proofs.Refusals.{refusal_exact, stated}
use Rattle.bt_command.proofs.Told.{agrees, accepted_files}
use Rattle.bt_command.specs.Call.{Call}
use Rattle.bt_command.specs.Files.{Names}
use Rattle.bt_command.specs.Graph.{GraphSays, GraphIsExact, GraphIsWhole, IsGraphStatus}
use Rattle.bt_command.specs.Order.{Stated, ComeTo, of_files}
use Rattle.bt_command.specs.Program.{RefusesProgram, IsWithinLimits}
use Rattle.bt_command.specs.declared.status.AssertFault.TheVariants.{Parse, Bind, Unmatched}
use Rattle.bt_command.specs.declared.status.LimitFault.TheVariants.{TooLong, Nodes, Contexts}
use Rattle.bt_command.specs.declared.status.Status.{Status}
use Rattle.bt_command.specs.declared.status.Status.TheVariants.{Bounded, Unbounded, Usage, Image, Cycles, Assertions, ReadFault, WriteFault, Want, Limit}

-- a refusal of a program is a status that it comes to
fits : (image costs : List ℕ) (those : List BoundAssertion) (status : Status) → RefusesProgram image costs those status
    → IsGraphStatus image costs those status
fits image costs those Bounded h = absurd h
fits image costs those Unbounded h = absurd h
fits image costs those Usage h = absurd h
fits image costs those (Image refusal) h = absurd h
fits image costs those (Cycles refusal) h = absurd h
fits image costs those (Assertions (Parse refusal)) h = absurd h
fits image costs those (Assertions (Bind refusal)) h = absurd h
fits image costs those (Assertions (Unmatched line)) h = h
fits image costs those (ReadFault file) h = absurd h
fits image costs those (WriteFault written) h = absurd h
fits image costs those Want h = h
fits image costs those (Limit (TooLong file limit)) h = absurd h
fits image costs those (Limit (Nodes count)) h = h
fits image costs those (Limit (Contexts count)) h = h

pub graph_exact : (names : Names) (call : Call) (status : Status) → GraphSays names call status → GraphIsExact names call status
graph_exact names call Bounded says image table text t n =
    let is = says.is in
    let same : is.image ≡ image = agrees (call.read.told names.image) is.image image is.files.has_image.file.same t.image_is in
    stated (IsGraphStatus image) (of_files image table text) is.costs is.those Bounded
    (accepted_files call.read names image table text is.image is.costs is.those t is.files)
    (says.text, subst (λ (i : List ℕ). IsGraphTextOf i is.costs is.those says.text) same is.graph)
graph_exact names call Unbounded says image table text t n = absurd says
graph_exact names call Usage says image table text t n = absurd says
graph_exact names call (Image refusal) says image table text t n =
    refusal_exact IsGraphStatus fits names call (Image refusal) image table text t n says
graph_exact names call (Cycles refusal) says image table text t n =
    refusal_exact IsGraphStatus fits names call (Cycles refusal) image table text t n says
graph_exact names call (Assertions fault) says image table text t n =
    refusal_exact IsGraphStatus fits names call (Assertions fault) image table text t n says
graph_exact names call (ReadFault file) says image table text t n =
    refusal_exact IsGraphStatus fits names call (ReadFault file) image table text t n says
graph_exact names call (WriteFault written) says image table text t n = absurd (n.of_sink says.rose)
graph_exact names call Want says image table text t n = inl refl
graph_exact names call (Limit fault) says image table text t n =
    refusal_exact IsGraphStatus fits names call (Limit fault) image table text t n says

-- a program within the limits comes to a whole graph
within : (image costs : List ℕ) (those : List BoundAssertion) (status : Status) → IsWithinLimits image costs those
    → IsGraphStatus image costs those status → (status ≡ Bounded) ⊎ (status ≡ Want)
within image costs those Bounded w h = inl refl
within image costs those Unbounded w h = absurd h
within image costs those Usage w h = absurd h
within image costs those (Image refusal) w h = absurd h
within image costs those (Cycles refusal) w h = absurd h
within image costs those (Assertions (Parse refusal)) w h = absurd h
within image costs those (Assertions (Bind refusal)) w h = absurd h
within image costs those (Assertions (Unmatched line)) w h = absurd (w.loops line h)
within image costs those (ReadFault file) w h = absurd h
within image costs those (WriteFault written) w h = absurd h
within image costs those Want w h = inr refl
within image costs those (Limit (TooLong file limit)) w h = absurd h
within image costs those (Limit (Nodes count)) w h = absurd (w.nodes h.1)
within image costs those (Limit (Contexts count)) w h = absurd (w.contexts count h.1)

-- what comes to a program within the limits is a whole graph
whole : (image costs : List ℕ) (those : List BoundAssertion) (r : Result Stated Status) (status : Status) → IsWithinLimits image costs those
    → r ≡ Ok (record { costs = costs; those = those }) → (status ≡ Want) ⊎ ComeTo (IsGraphStatus image) r status
    → (status ≡ Bounded) ⊎ (status ≡ Want)
whole image costs those r status w e (inl want) = inr want
whole image costs those r status w e (inr comes) =
    within image costs those status w (subst (λ (x : Result Stated Status). ComeTo (IsGraphStatus image) x status) e comes)

pub graph_whole : (names : Names) (call : Call) (status : Status) → GraphSays names call status → GraphIsWhole names call status
graph_whole names call status says image table text costs those told accepted w faults =
    whole image costs those (of_files image table text) status w accepted (graph_exact names call status says image table text told faults)
