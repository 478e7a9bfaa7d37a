-- What refusals of the files of `bound` and `graph` say of files that are told, where no fault rises.
use Rattle.std.proofs.Common.{◌≡◌, ℕ, zero, suc, ◌≤◌, ◌<◌, ◌⊎◌, inl, inr, Bool, cond, List, length, Option, Some, Result, Ok, Err, refl, sym, ap, subst, ◌∙◌}
use Rattle.assert_bind.specs.Binding.{binding}
use Rattle.assert_bind.specs.declared.body.BoundAssertion.{BoundAssertion}
use Rattle.assert_lang.specs.Text.{assertions_of}
use Rattle.bt_command.proofs.Told.{agrees, over, told_over, past_image, past_table, told_image, told_table, told_text, past_both, accepted_files}
use Rattle.bt_command.specs.Call.{Call, longest_image, longest_table, longest_assertions, Reading}
use Rattle.bt_command.specs.Files.{Names, RefusesAssertions, AreTold, HasNoFault}
use Rattle.bt_command.specs.Order.{Stated, of_bound, of_parsed, of_text, of_costs, of_table, of_check, of_files, ComeTo}
use Rattle.bt_command.specs.Program.{RefusesProgram}
use Rattle.bt_command.specs.Refusal.{HasNoOutcome, Refuses}
use Rattle.bt_command.specs.declared.status.AssertFault.TheVariants.{Parse, Bind, Unmatched}
use Rattle.bt_command.specs.declared.status.AssertFault.{AssertFault}
use Rattle.bt_command.specs.declared.status.LimitFault.TheVariants.{TooLong, Nodes, Contexts}
use Rattle.bt_command.specs.declared.status.Status.{Status}
use Rattle.bt_command.specs.declared.status.Status.TheVariants.{Bounded, Unbounded, Usage, Image, Cycles, Assertions, ReadFault, WriteFault, Want, Limit}
use Rattle.bt_image.specs.Refusal.{first_refusal}
use Rattle.cycle_table.specs.Table.{table_of}

-- what comes to a refusal
refused : (Fits : List ℕ → List BoundAssertion → Status → Type 0) (r : Result Stated Status) (status : Status) → r ≡ Err status
    → (status ≡ Want) ⊎ ComeTo Fits r status
refused Fits r status e = inr (subst (λ (x : Result Stated Status). ComeTo Fits x status) (sym e) refl)

-- what comes to a program
pub stated : (Fits : List ℕ → List BoundAssertion → Status → Type 0) (r : Result Stated Status) (costs : List ℕ) (those : List BoundAssertion) (status : Status)
    → r ≡ Ok (record { costs = costs; those = those }) → Fits costs those status → (status ≡ Want) ⊎ ComeTo Fits r status
stated Fits r costs those status e h = inr (subst (λ (x : Result Stated Status). ComeTo Fits x status) (sym e) h)

-- refused assertions
refused_text : (read : Reading) (names : Names) (image table text : List ℕ) (fault : AssertFault) → AreTold read names image table text
    → RefusesAssertions read names fault → of_files image table text ≡ Err (Assertions fault)
refused_text read names image table text (Parse refusal) t r =
    past_both read names image table text r.image r.costs.costs t r.has_image r.costs.has
    ∙ told_text (read.told names.assertions) image r.costs.costs r.refused.text text (Err refusal) r.refused.file.same r.refused.file.within
    r.refused.refused t.text_is
refused_text read names image table text (Bind refusal) t r =
    let same : r.image ≡ image = agrees (read.told names.image) r.image image r.has_image.file.same t.image_is in
    let bound : binding image r.refused.list ≡ Err refusal = subst (λ (i : List ℕ). binding i r.refused.list ≡ Err refusal) same r.refused.refused in
    past_both read names image table text r.image r.costs.costs t r.has_image r.costs.has
    ∙ told_text (read.told names.assertions) image r.costs.costs r.refused.text text (Ok r.refused.list) r.refused.file.same r.refused.file.within
    r.refused.parsed t.text_is
    ∙ ap (of_bound r.costs.costs) bound
refused_text read names image table text (Unmatched line) t r = absurd r.refused

module _ (Fits : List ℕ → List ℕ → List BoundAssertion → Status → Type 0)
    (fits : (image costs : List ℕ) (those : List BoundAssertion) (status : Status) → RefusesProgram image costs those status → Fits image costs those status) where
  -- a program that is refused
  no_outcome : (read : Reading) (names : Names) (image table text : List ℕ) (status : Status) → AreTold read names image table text
      → HasNoOutcome read names status → (status ≡ Want) ⊎ ComeTo (Fits image) (of_files image table text) status
  no_outcome read names image table text status t out =
      let same : out.image ≡ image = agrees (read.told names.image) out.image image out.files.has_image.file.same t.image_is in
      stated (Fits image) (of_files image table text) out.costs out.those status
      (accepted_files read names image table text out.image out.costs out.those t out.files)
      (fits image out.costs out.those status (subst (λ (i : List ℕ). RefusesProgram i out.costs out.those status) same out.refused))

  -- a refusal is what the bytes of the files come to
  pub refusal_exact : (names : Names) (call : Call) (status : Status) (image table text : List ℕ) → AreTold call.read names image table text
      → HasNoFault call names → Refuses names call.read status → (status ≡ Want) ⊎ ComeTo (Fits image) (of_files image table text) status
  refusal_exact names call Bounded image table text t n says = absurd says
  refusal_exact names call Unbounded image table text t n says = absurd says
  refusal_exact names call Usage image table text t n says = absurd says
  refusal_exact names call (Image refusal) image table text t n says =
      let same : says.image ≡ image = agrees (call.read.told names.image) says.image image says.file.same t.image_is in
      let within : length image ≤ longest_image = subst (λ (i : List ℕ). length i ≤ longest_image) same says.file.within in
      let is : first_refusal image ≡ Some refusal = subst (λ (i : List ℕ). first_refusal i ≡ Some refusal) same says.refused in
      refused (Fits image) (of_files image table text) (Image refusal) (past_image image table text within ∙ ap (of_check image table text) is)
  refusal_exact names call (Cycles refusal) image table text t n says =
      let no = says.1 in
      let same : no.table ≡ table = agrees (call.read.told names.cycles) no.table table no.file.same t.table_is in
      let within : length table ≤ longest_table = subst (λ (t : List ℕ). length t ≤ longest_table) same no.file.within in
      let is : table_of table ≡ Err refusal = subst (λ (t : List ℕ). table_of t ≡ Err refusal) same no.refused in
      refused (Fits image) (of_files image table text) (Cycles refusal)
      (told_image (call.read.told names.image) says.0.image image table text says.0.has t.image_is
      ∙ past_table image table text within
      ∙ ap (of_costs image text) is)
  refusal_exact names call (Assertions (Parse refusal)) image table text t n says =
      refused (Fits image) (of_files image table text) (Assertions (Parse refusal)) (refused_text call.read names image table text (Parse refusal) t says)
  refusal_exact names call (Assertions (Bind refusal)) image table text t n says =
      refused (Fits image) (of_files image table text) (Assertions (Bind refusal)) (refused_text call.read names image table text (Bind refusal) t says)
  refusal_exact names call (Assertions (Unmatched line)) image table text t n says =
      no_outcome call.read names image table text (Assertions (Unmatched line)) t says
  refusal_exact names call (ReadFault zero) image table text t n says = absurd says.before
  refusal_exact names call (ReadFault (suc zero)) image table text t n says = absurd (n.of_image says.rose)
  refusal_exact names call (ReadFault (suc (suc zero))) image table text t n says = absurd (n.of_cycles says.rose)
  refusal_exact names call (ReadFault (suc (suc (suc zero)))) image table text t n says = absurd (n.of_assertions says.rose)
  refusal_exact names call (ReadFault (suc (suc (suc (suc f))))) image table text t n says = absurd says.before
  refusal_exact names call (WriteFault written) image table text t n says = absurd says
  refusal_exact names call Want image table text t n says = inl refl
  refusal_exact names call (Limit (TooLong zero limit)) image table text t n says = absurd says.before
  refusal_exact names call (Limit (TooLong (suc zero) limit)) image table text t n says =
      let more : limit < length image = told_over (call.read.told names.image) limit image t.image_is says.longer in
      let long : longest_image < length image = subst (λ (l : ℕ). l < length image) says.limit_is more in
      refused (Fits image) (of_files image table text) (Limit (TooLong 1 limit))
      (ap (λ (b : Bool). cond b (Err (Limit (TooLong 1 longest_image))) (of_check image table text (first_refusal image))) (over longest_image image long)
      ∙ ap (λ (l : ℕ). Err (Limit (TooLong 1 l))) (sym says.limit_is))
  refusal_exact names call (Limit (TooLong (suc (suc zero)) limit)) image table text t n says =
      let more : limit < length table = told_over (call.read.told names.cycles) limit table t.table_is says.longer in
      let long : longest_table < length table = subst (λ (l : ℕ). l < length table) says.limit_is more in
      refused (Fits image) (of_files image table text) (Limit (TooLong 2 limit))
      (told_image (call.read.told names.image) says.before.image image table text says.before.has t.image_is
      ∙ ap (λ (b : Bool). cond b (Err (Limit (TooLong 2 longest_table))) (of_costs image text (table_of table))) (over longest_table table long)
      ∙ ap (λ (l : ℕ). Err (Limit (TooLong 2 l))) (sym says.limit_is))
  refusal_exact names call (Limit (TooLong (suc (suc (suc zero))) limit)) image table text t n says =
      let more : limit < length text = told_over (call.read.told names.assertions) limit text t.text_is says.longer in
      let long : longest_assertions < length text = subst (λ (l : ℕ). l < length text) says.limit_is more in
      let costs = says.before.1.costs in
      refused (Fits image) (of_files image table text) (Limit (TooLong 3 limit))
      (past_both call.read names image table text says.before.0.image costs t says.before.0.has says.before.1.has
      ∙ ap (λ (b : Bool). cond b (Err (Limit (TooLong 3 longest_assertions))) (of_parsed image costs (assertions_of text))) (over longest_assertions text long)
      ∙ ap (λ (l : ℕ). Err (Limit (TooLong 3 l))) (sym says.limit_is))
  refusal_exact names call (Limit (TooLong (suc (suc (suc (suc f)))) limit)) image table text t n says = absurd says.before
  refusal_exact names call (Limit (Nodes count)) image table text t n says = no_outcome call.read names image table text (Limit (Nodes count)) t says
  refusal_exact names call (Limit (Contexts count)) image table text t n says = no_outcome call.read names image table text (Limit (Contexts count)) t says
