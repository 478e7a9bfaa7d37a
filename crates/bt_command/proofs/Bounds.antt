-- What a status of the command `bound` says of files that are told, where no fault rises: it is what their bytes come to, or memory
-- is wanting; and the whole report is written where their program is within the limits.
use Rattle.std.proofs.Common.{◌≡◌, ℕ, ◌⊎◌, inl, inr, Bool, true, false, List, Result, Ok, refl, subst}
use Rattle.assert_bind.specs.declared.body.BoundAssertion.{BoundAssertion}
use Rattle.bound_task.specs.Outcomes.{AreOutcomesOf}
use Rattle.bt_command.proofs.Refusals.{refusal_exact, stated}
use Rattle.bt_command.proofs.Told.{agrees, accepted_files}
use Rattle.bt_command.specs.Bound.{BoundSays, BoundIsExact, BoundIsWhole, IsBoundText, IsBoundStatus, HasOutcomes}
use Rattle.bt_command.specs.Call.{Call, Reading}
use Rattle.bt_command.specs.Files.{Names, AreTold}
use Rattle.bt_command.specs.Order.{Stated, ComeTo, of_files}
use Rattle.bt_command.specs.Program.{RefusesProgram, IsWithinLimits, IsReportOf}
use Rattle.bt_command.specs.declared.status.AssertFault.TheVariants.{Parse, Bind, Unmatched}
use Rattle.bt_command.specs.declared.status.LimitFault.TheVariants.{TooLong, Nodes, Contexts}
use Rattle.bt_command.specs.declared.status.Status.{Status}
use Rattle.bt_command.specs.declared.status.Status.TheVariants.{Bounded, Unbounded, Usage, Image, Cycles, Assertions, ReadFault, WriteFault, Want, Limit}

-- a refusal of a program is a status that it comes to
fits : (image costs : List ℕ) (those : List BoundAssertion) (status : Status) → RefusesProgram image costs those status
    → IsBoundStatus image costs those status
fits image costs those Bounded h = absurd h
fits image costs those Unbounded h = absurd h
fits image costs those Usage h = absurd h
fits image costs those (Image refusal) h = absurd h
fits image costs those (Cycles refusal) h = absurd h
fits image costs those (Assertions (Parse refusal)) h = absurd h
fits image costs those (Assertions (Bind refusal)) h = absurd h
fits image costs those (Assertions (Unmatched line)) h = h
fits image costs those (ReadFault file) h = absurd h
fits image costs those (WriteFault written) h = absurd h
fits image costs those Want h = h
fits image costs those (Limit (TooLong file limit)) h = absurd h
fits image costs those (Limit (Nodes count)) h = h
fits image costs those (Limit (Contexts count)) h = h

-- a report that is written shows outcomes of the program that the files are
shown : (read : Reading) (names : Names) (bounded : Bool) (status : Status) (image table text report : List ℕ) → AreTold read names image table text
    → IsBoundText read names bounded report
    → ((costs : List ℕ) (those : List BoundAssertion) → HasOutcomes image costs those bounded → IsBoundStatus image costs those status)
    → (status ≡ Want) ⊎ ComeTo (IsBoundStatus image) (of_files image table text) status
shown read names bounded status image table text report t is fit =
    let same : is.image ≡ image = agrees (read.told names.image) is.image image is.files.has_image.file.same t.image_is in
    let of : IsReportOf image is.costs is.those bounded report = subst (λ (i : List ℕ). IsReportOf i is.costs is.those bounded report) same is.report in
    stated (IsBoundStatus image) (of_files image table text) is.costs is.those status
    (accepted_files read names image table text is.image is.costs is.those t is.files)
    (fit is.costs is.those (record { outcomes = of.outcomes; are = of.are; roots = of.roots }))

pub bound_exact : (names : Names) (call : Call) (status : Status) → BoundSays names call status → BoundIsExact names call status
bound_exact names call Bounded says image table text t n =
    shown call.read names true Bounded image table text says.text t says.is (λ costs those h. h)
bound_exact names call Unbounded says image table text t n =
    shown call.read names false Unbounded image table text says.text t says.is (λ costs those h. h)
bound_exact names call Usage says image table text t n = absurd says
bound_exact names call (Image refusal) says image table text t n =
    refusal_exact IsBoundStatus fits names call (Image refusal) image table text t n says
bound_exact names call (Cycles refusal) says image table text t n =
    refusal_exact IsBoundStatus fits names call (Cycles refusal) image table text t n says
bound_exact names call (Assertions fault) says image table text t n =
    refusal_exact IsBoundStatus fits names call (Assertions fault) image table text t n says
bound_exact names call (ReadFault file) says image table text t n =
    refusal_exact IsBoundStatus fits names call (ReadFault file) image table text t n says
bound_exact names call (WriteFault written) says image table text t n = absurd (n.of_sink says.1.rose)
bound_exact names call Want says image table text t n = inl refl
bound_exact names call (Limit fault) says image table text t n =
    refusal_exact IsBoundStatus fits names call (Limit fault) image table text t n says

-- a program within the limits comes to a whole report
within : (image costs : List ℕ) (those : List BoundAssertion) (status : Status) → IsWithinLimits image costs those
    → IsBoundStatus image costs those status → (status ≡ Bounded) ⊎ ((status ≡ Unbounded) ⊎ (status ≡ Want))
within image costs those Bounded w h = inl refl
within image costs those Unbounded w h = inr (inl refl)
within image costs those Usage w h = absurd h
within image costs those (Image refusal) w h = absurd h
within image costs those (Cycles refusal) w h = absurd h
within image costs those (Assertions (Parse refusal)) w h = absurd h
within image costs those (Assertions (Bind refusal)) w h = absurd h
within image costs those (Assertions (Unmatched line)) w h = absurd (w.loops line h)
within image costs those (ReadFault file) w h = absurd h
within image costs those (WriteFault written) w h = absurd h
within image costs those Want w h = inr (inr refl)
within image costs those (Limit (TooLong file limit)) w h = absurd h
within image costs those (Limit (Nodes count)) w h = absurd (w.nodes h.1)
within image costs those (Limit (Contexts count)) w h = absurd (w.contexts count h.1)

-- what comes to a program within the limits is a whole report
whole : (image costs : List ℕ) (those : List BoundAssertion) (r : Result Stated Status) (status : Status) → IsWithinLimits image costs those
    → r ≡ Ok (record { costs = costs; those = those }) → (status ≡ Want) ⊎ ComeTo (IsBoundStatus image) r status
    → (status ≡ Bounded) ⊎ ((status ≡ Unbounded) ⊎ (status ≡ Want))
whole image costs those r status w e (inl want) = inr (inr want)
whole image costs those r status w e (inr comes) =
    within image costs those status w (subst (λ (x : Result Stated Status). ComeTo (IsBoundStatus image) x status) e comes)

pub bound_whole : (names : Names) (call : Call) (status : Status) → BoundSays names call status → BoundIsWhole names call status
bound_whole names call status says image table text costs those told accepted w faults =
    whole image costs those (of_files image table text) status w accepted (bound_exact names call status says image table text told faults)
