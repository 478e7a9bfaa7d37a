-- What a status of the command `gen` says of its image: it is what the image comes to, or memory is wanting; and the whole line is
-- written where the program of the image is within the limits.
use Rattle.std.proofs.Common.{◌≡◌, ℕ, ◌⊎◌, inl, inr, List, [], ◌∷◌, Option, Some, None, Result, Ok, Err, refl, sym, ap, subst, ◌∙◌}
use Rattle.assert_bind.specs.Binding.{binding}
use Rattle.assert_bind.specs.declared.body.BoundAssertion.{BoundAssertion}
use Rattle.assert_bind.specs.declared.refusal.BindRefusal.{BindRefusal}
use Rattle.assert_bind.specs.Body.{IsRefusalOf}
use Rattle.assert_bind.specs.declared.refusal.BindRefusal.TheVariants as bind
use Rattle.bound_task.specs.Problem.{IsProblemOf}
use Rattle.bt_image.specs.Refusal.{IsRefusal, first_refusal}
use Rattle.bt_image.specs.declared.refusal.ImageRefusal.{ImageRefusal}
use Rattle.bt_image.specs.declared.refusal.ImageRefusal.TheVariants as image
use Rattle.bt_words.specs.Request.{generates, IsRequest}
use Rattle.gen_image.specs.File.{file_of}
use Rattle.bt_command.proofs.Refusals.{stated}
use Rattle.bt_command.specs.Answer.{HoldsOfRuns, Writes}
use Rattle.bt_command.specs.Call.{Call}
use Rattle.bt_command.specs.Generated.{GenSays, GenIsExact, GenIsWhole, IsGenProblem, IsGenStatus, RefusesGen, generated, of_made, ones, root_main}
use Rattle.bt_command.specs.Order.{Stated, ComeTo, of_bound}
use Rattle.bt_command.specs.Program.{RefusesProgram, IsWithinLimits}
use Rattle.bound_task.specs.declared.problem.Problem.{Problem}
use Rattle.bt_command.specs.declared.status.AssertFault.TheVariants.{Parse, Bind, Unmatched}
use Rattle.bt_command.specs.declared.status.LimitFault.TheVariants.{TooLong, Nodes, Contexts}
use Rattle.bt_command.specs.declared.status.Status.{Status}
use Rattle.bt_command.specs.declared.status.Status.TheVariants.{Bounded, Unbounded, Usage, Image, Cycles, Assertions, ReadFault, WriteFault, Want, Limit}

-- an answered error is one
pub error_is : {X : Type 0} (a b : Status) (r : Result X Status) → r ≡ Err a → r ≡ Err b → a ≡ b
error_is a b r e f = cc

-- ---- what is made

-- the first refusal of the image is what the image comes to
pub image_refused : (n : ℕ) (e : ImageRefusal) (status : Status) → IsRefusal (first_refusal (file_of n)) e → (e ≡ image.Want → status ≡ Want)
    → ((e ≡ image.Want → ⊥) → status ≡ Image e) → (status ≡ Want) ⊎ (generated n ≡ Err status)
image_refused n (image.Short need have) status h want other = inr (ap (of_made (file_of n)) h ∙ ap Err (sym (other (λ e. cc))))
image_refused n image.Magic status h want other = inr (ap (of_made (file_of n)) h ∙ ap Err (sym (other (λ e. cc))))
image_refused n (image.Class got) status h want other = inr (ap (of_made (file_of n)) h ∙ ap Err (sym (other (λ e. cc))))
image_refused n (image.Order got) status h want other = inr (ap (of_made (file_of n)) h ∙ ap Err (sym (other (λ e. cc))))
image_refused n (image.Kind got) status h want other = inr (ap (of_made (file_of n)) h ∙ ap Err (sym (other (λ e. cc))))
image_refused n (image.Machine got) status h want other = inr (ap (of_made (file_of n)) h ∙ ap Err (sym (other (λ e. cc))))
image_refused n (image.HeaderSize got) status h want other = inr (ap (of_made (file_of n)) h ∙ ap Err (sym (other (λ e. cc))))
image_refused n (image.SectionOutside k) status h want other = inr (ap (of_made (file_of n)) h ∙ ap Err (sym (other (λ e. cc))))
image_refused n (image.SectionOverlap a b) status h want other = inr (ap (of_made (file_of n)) h ∙ ap Err (sym (other (λ e. cc))))
image_refused n (image.Alignment k) status h want other = inr (ap (of_made (file_of n)) h ∙ ap Err (sym (other (λ e. cc))))
image_refused n (image.SymbolTable k) status h want other = inr (ap (of_made (file_of n)) h ∙ ap Err (sym (other (λ e. cc))))
image_refused n (image.Limit what count) status h want other = inr (ap (of_made (file_of n)) h ∙ ap Err (sym (other (λ e. cc))))
image_refused n (image.Compressed k) status h want other = inr (ap (of_made (file_of n)) h ∙ ap Err (sym (other (λ e. cc))))
image_refused n image.Want status h want other = inl (want refl)

-- what an accepted image and its root come to
made_of_root : (n : ℕ) (r : Result (List BoundAssertion) BindRefusal) → first_refusal (file_of n) ≡ None → binding (file_of n) (root_main ∷ []) ≡ r
    → generated n ≡ of_bound ones r
made_of_root n r none h = ap (of_made (file_of n)) none ∙ ap (of_bound ones) h

-- the refusal of the root is what an accepted image comes to
pub root_refused : (n : ℕ) (over : List ℕ) (e : BindRefusal) (status : Status) → over ≡ file_of n → first_refusal (file_of n) ≡ None
    → IsRefusalOf (binding over (root_main ∷ [])) e → (e ≡ bind.Want → status ≡ Want)
    → ((e ≡ bind.Want → ⊥) → status ≡ Assertions (Bind e)) → (status ≡ Want) ⊎ (generated n ≡ Err status)
root_refused n over e status same none h want other =
    go e (subst (λ (i : List ℕ). IsRefusalOf (binding i (root_main ∷ [])) e) same h) want other
  where
    go : (e : BindRefusal) → IsRefusalOf (binding (file_of n) (root_main ∷ [])) e → (e ≡ bind.Want → status ≡ Want)
        → ((e ≡ bind.Want → ⊥) → status ≡ Assertions (Bind e)) → (status ≡ Want) ⊎ (generated n ≡ Err status)
    go (bind.NoName line) h want other = inr (made_of_root n (Err (bind.NoName line)) none h ∙ ap Err (sym (other (λ e. cc))))
    go (bind.NotCode line addr) h want other = inr (made_of_root n (Err (bind.NotCode line addr)) none h ∙ ap Err (sym (other (λ e. cc))))
    go (bind.EmptyRange line) h want other = inr (made_of_root n (Err (bind.EmptyRange line)) none h ∙ ap Err (sym (other (λ e. cc))))
    go (bind.Conflict line earlier) h want other = inr (made_of_root n (Err (bind.Conflict line earlier)) none h ∙ ap Err (sym (other (λ e. cc))))
    go bind.Want h want other = inl (want refl)

-- the problem of what is made
pub made_problem : (n : ℕ) (over costs : List ℕ) (those : List BoundAssertion) (p : Problem) → over ≡ file_of n → costs ≡ ones
    → first_refusal (file_of n) ≡ None → binding over (root_main ∷ []) ≡ Ok those → IsProblemOf over costs those p → IsGenProblem n p
made_problem n over costs those p same ones_are none bound problem = record {
  those = those;
  stated = made_of_root n (Ok those) none (subst (λ (i : List ℕ). binding i (root_main ∷ []) ≡ Ok those) same bound);
  problem = subst (λ (i : List ℕ). IsProblemOf i ones those p) same (subst (λ (k : List ℕ). IsProblemOf over k those p) ones_are problem);
}

-- ---- refusals

-- a refusal of what is made is what the image comes to
pub refused_made : (n : ℕ) (status : Status) → (status ≡ Want) ⊎ (generated n ≡ Err status) → RefusesGen n status
refused_made n status (inl want) = inl want
refused_made n status (inr e) = inr (subst (λ (r : Result Stated Status). ComeTo (RefusesProgram (file_of n)) r status) (sym e) refl)

-- and so is a refusal of its program
pub refused_program : (n : ℕ) (p : Problem) (status : Status) → (is : IsGenProblem n p) → RefusesProgram (file_of n) ones is.those status → RefusesGen n status
refused_program n p status is h =
    stated (RefusesProgram (file_of n)) (generated n) ones is.those status is.stated h

-- what is made is refused for its image or its root
abbrev IsOfMaking : Status → Type 0
IsOfMaking (Image refusal) = Unit {0}
IsOfMaking (Assertions (Bind refusal)) = Unit {0}
IsOfMaking _ = ⊥

of_making_bound : (b : Result (List BoundAssertion) BindRefusal) (status : Status) → of_bound ones b ≡ Err status → IsOfMaking status
of_making_bound (Ok those) status e = cc
of_making_bound (Err refusal) status e = subst IsOfMaking (error_of status e) tt
  where
    error_of : (status : Status) → of_bound ones (Err refusal) ≡ Err status → Assertions (Bind refusal) ≡ status
    error_of status e = cc

of_making : (file : List ℕ) (o : Option ImageRefusal) (status : Status) → of_made file o ≡ Err status → IsOfMaking status
of_making file None status e = of_making_bound (binding file (root_main ∷ [])) status e
of_making file (Some refusal) status e = subst IsOfMaking (error_of status e) tt
  where
    error_of : (status : Status) → of_made file (Some refusal) ≡ Err status → Image refusal ≡ status
    error_of status e = cc

-- a refusal is none of these three
never : (file : List ℕ) (r : Result Stated Status) (status : Status) → ((s : Status) → r ≡ Err s → IsOfMaking s)
    → (IsOfMaking status → ⊥) → ((costs : List ℕ) (those : List BoundAssertion) → RefusesProgram file costs those status → ⊥)
    → ComeTo (RefusesProgram file) r status → ⊥
never file (Ok s) status made other free h = free s.costs s.those h
never file (Err refusal) status made other free h = other (subst IsOfMaking (sym h) (made refusal refl))

none_of : (n : ℕ) (status : Status) → (status ≡ Want → ⊥) → (IsOfMaking status → ⊥)
    → ((costs : List ℕ) (those : List BoundAssertion) → RefusesProgram (file_of n) costs those status → ⊥) → RefusesGen n status → ⊥
none_of n status want other free (inl e) = want e
none_of n status want other free (inr h) =
    never (file_of n) (generated n) status (of_making (file_of n) (first_refusal (file_of n))) other free h

-- a refusal is what the status says
pub refused_gen : (n : ℕ) (call : Call) (status : Status) → RefusesGen n status → GenSays n call status
refused_gen n call Bounded h = absurd (none_of n Bounded (λ e. cc) (λ x. x) (λ c t x. x) h)
refused_gen n call Unbounded h = h
refused_gen n call Usage h = h
refused_gen n call (Image refusal) h = h
refused_gen n call (Cycles refusal) h = h
refused_gen n call (Assertions fault) h = h
refused_gen n call (ReadFault file) h = h
refused_gen n call (WriteFault written) h = absurd (none_of n (WriteFault written) (λ e. cc) (λ x. x) (λ c t x. x) h)
refused_gen n call Want h = h
refused_gen n call (Limit fault) h = h

-- nothing is written of it
pub unwritten : (call : Call) (status : Status) → call.written_after ≡ call.written → call.sink_faults_after ≡ call.sink_faults → Writes call status
unwritten call Bounded told faults = tt
unwritten call Unbounded told faults = tt
unwritten call Usage told faults = record { told = told; faults = faults }
unwritten call (Image refusal) told faults = record { told = told; faults = faults }
unwritten call (Cycles refusal) told faults = record { told = told; faults = faults }
unwritten call (Assertions fault) told faults = record { told = told; faults = faults }
unwritten call (ReadFault file) told faults = record { told = told; faults = faults }
unwritten call (WriteFault written) told faults = tt
unwritten call Want told faults = record { told = told; faults = faults }
unwritten call (Limit fault) told faults = record { told = told; faults = faults }

-- a line that is written holds of the runs of the image
pub gen_shown : (words : List (List ℕ)) (call : Call) (n workers : ℕ) (status : Status) → IsRequest words (generates n workers) → GenSays n call status
    → HoldsOfRuns words call status
gen_shown words call n workers Bounded request says = record { asked = generates n workers; request = request; holds = says }
gen_shown words call n workers Unbounded request says = absurd (none_of n Unbounded (λ e. cc) (λ x. x) (λ c t x. x) says)
gen_shown words call n workers Usage request says = tt
gen_shown words call n workers (Image refusal) request says = tt
gen_shown words call n workers (Cycles refusal) request says = tt
gen_shown words call n workers (Assertions fault) request says = tt
gen_shown words call n workers (ReadFault file) request says = tt
gen_shown words call n workers (WriteFault written) request says = tt
gen_shown words call n workers Want request says = tt
gen_shown words call n workers (Limit fault) request says = tt

-- ---- exact

-- a refusal of a program is a status that it comes to
fits : (bytes costs : List ℕ) (those : List BoundAssertion) (status : Status) → RefusesProgram bytes costs those status
    → IsGenStatus bytes costs those status
fits bytes costs those Bounded h = absurd h
fits bytes costs those Unbounded h = absurd h
fits bytes costs those Usage h = absurd h
fits bytes costs those (Image refusal) h = absurd h
fits bytes costs those (Cycles refusal) h = absurd h
fits bytes costs those (Assertions (Parse refusal)) h = absurd h
fits bytes costs those (Assertions (Bind refusal)) h = absurd h
fits bytes costs those (Assertions (Unmatched line)) h = h
fits bytes costs those (ReadFault file) h = absurd h
fits bytes costs those (WriteFault written) h = absurd h
fits bytes costs those Want h = h
fits bytes costs those (Limit (TooLong file limit)) h = absurd h
fits bytes costs those (Limit (Nodes count)) h = h
fits bytes costs those (Limit (Contexts count)) h = h

come_to : (file : List ℕ) (r : Result Stated Status) (status : Status) → ComeTo (RefusesProgram file) r status → ComeTo (IsGenStatus file) r status
come_to file (Ok s) status h = fits file s.costs s.those status h
come_to file (Err refusal) status h = h

refusal_exact : (n : ℕ) (status : Status) → RefusesGen n status → (status ≡ Want) ⊎ ComeTo (IsGenStatus (file_of n)) (generated n) status
refusal_exact n status (inl want) = inl want
refusal_exact n status (inr h) = inr (come_to (file_of n) (generated n) status h)

pub gen_exact : (n : ℕ) (call : Call) (status : Status) → GenSays n call status → GenIsExact n call status
gen_exact n call Bounded says f =
    let is = says.is in
    stated (IsGenStatus (file_of n)) (generated n) ones is.those Bounded is.stated (is.outcomes, is.are)
gen_exact n call Unbounded says f = refusal_exact n Unbounded says
gen_exact n call Usage says f = refusal_exact n Usage says
gen_exact n call (Image refusal) says f = refusal_exact n (Image refusal) says
gen_exact n call (Cycles refusal) says f = refusal_exact n (Cycles refusal) says
gen_exact n call (Assertions fault) says f = refusal_exact n (Assertions fault) says
gen_exact n call (ReadFault file) says f = refusal_exact n (ReadFault file) says
gen_exact n call (WriteFault written) says f = absurd (f says.rose)
gen_exact n call Want says f = inl refl
gen_exact n call (Limit fault) says f = refusal_exact n (Limit fault) says

-- ---- whole

-- a program within the limits comes to a whole line
within : (bytes costs : List ℕ) (those : List BoundAssertion) (status : Status) → IsWithinLimits bytes costs those
    → IsGenStatus bytes costs those status → (status ≡ Bounded) ⊎ (status ≡ Want)
within bytes costs those Bounded w h = inl refl
within bytes costs those Unbounded w h = absurd h
within bytes costs those Usage w h = absurd h
within bytes costs those (Image refusal) w h = absurd h
within bytes costs those (Cycles refusal) w h = absurd h
within bytes costs those (Assertions (Parse refusal)) w h = absurd h
within bytes costs those (Assertions (Bind refusal)) w h = absurd h
within bytes costs those (Assertions (Unmatched line)) w h = absurd (w.loops line h)
within bytes costs those (ReadFault file) w h = absurd h
within bytes costs those (WriteFault written) w h = absurd h
within bytes costs those Want w h = inr refl
within bytes costs those (Limit (TooLong file limit)) w h = absurd h
within bytes costs those (Limit (Nodes count)) w h = absurd (w.nodes h.1)
within bytes costs those (Limit (Contexts count)) w h = absurd (w.contexts count h.1)

whole : (file costs : List ℕ) (those : List BoundAssertion) (r : Result Stated Status) (status : Status) → IsWithinLimits file costs those
    → r ≡ Ok (record { costs = costs; those = those }) → (status ≡ Want) ⊎ ComeTo (IsGenStatus file) r status
    → (status ≡ Bounded) ⊎ (status ≡ Want)
whole file costs those r status w e (inl want) = inr want
whole file costs those r status w e (inr comes) =
    within file costs those status w (subst (λ (x : Result Stated Status). ComeTo (IsGenStatus file) x status) e comes)

pub gen_whole : (n : ℕ) (call : Call) (status : Status) → GenSays n call status → GenIsWhole n call status
gen_whole n call status says those accepted w faults =
    whole (file_of n) ones those (generated n) status w accepted (gen_exact n call status says faults)
