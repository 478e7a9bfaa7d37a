-- Assertions bound one after the other.
use Rattle.std.proofs.Common.{◌≡◌, ℕ, ◌+◌, ◌<◌, ◌≤◌, Bool, true, false, cond, List, [], ◌∷◌, ◌++◌, length, drop, get_or}
use Rattle.std.proofs.Common.{Some, None, Result, Ok, Err, All, refl, sym, ◌∙◌, ap, add-one, drop-cons}
use Rattle.std.specs.List.{AllPairs, cons_option}
use Rattle.std.proofs.lemmas.List.Quantifiers.{all_pairs_push}
use Rattle.std.proofs.lemmas.List.{drop_all}
use Rattle.std.proofs.lemmas.List.Elements.{All-push, All-cons, All-tail, All-head, All-nil}
use Rattle.std.proofs.lemmas.Option.{none-some}
use Rattle.assert_lang.specs.declared.assertion.Assertion.{Assertion}
use Rattle.assert_bind.specs.Binding.{about, all_behind, bound_behind, loop_in, loops}
use Rattle.assert_bind.specs.Body.{followed, IsWithin, SaysWithin}
use Rattle.assert_bind.specs.Index.{AreApart, CountsWithin, IsSound}
use Rattle.assert_bind.specs.Subject.{is_same, subject_of}
use Rattle.assert_bind.specs.declared.body.BoundAssertion.{BoundAssertion}
use Rattle.assert_bind.specs.declared.body.BoundBody.{BoundBody}
use Rattle.assert_bind.specs.declared.body.BoundBody.TheVariants as body
use Rattle.assert_bind.specs.declared.body.LoopLine.{LoopLine}
use Rattle.assert_bind.specs.declared.refusal.BindRefusal.{BindRefusal}
use Rattle.assert_bind.specs.declared.subject.Subject.{Subject}

-- the binding where these assertions are bound and those from k on are left
abbrev pub left_of : List ℕ → List Assertion → List BoundAssertion → ℕ → Result (List BoundAssertion) BindRefusal
left_of image assertions list k = all_behind image list (drop k assertions)

next : (image : List ℕ) (assertions : List Assertion) (list : List BoundAssertion) (k : ℕ) (d : Assertion) → k < length assertions
    → left_of image assertions list k ≡ followed (λ bound. left_of image assertions (list ++ bound ∷ []) (k + 1))
    (bound_behind image list (get_or assertions k d))
next image assertions list k d less =
    let split : drop k assertions ≡ get_or assertions k d ∷ drop (k + 1) assertions = rw add-one (drop-cons assertions k d less) in
    ap (all_behind image list) split

-- the next assertion is bound
pub one_more : (image : List ℕ) (assertions : List Assertion) (list : List BoundAssertion) (k : ℕ) (d : Assertion)
    (bound : BoundAssertion) → k < length assertions
    → bound_behind image list (get_or assertions k d) ≡ Ok bound → left_of image assertions list k ≡ left_of image assertions (list ++ bound ∷ []) (k + 1)
one_more image assertions list k d bound less is =
    next image assertions list k d less
    ∙ ap (followed (λ bound. left_of image assertions (list ++ bound ∷ []) (k + 1))) is

-- the next assertion is refused
pub refused_next : (image : List ℕ) (assertions : List Assertion) (list : List BoundAssertion) (k : ℕ) (d : Assertion)
    (why : BindRefusal) → k < length assertions
    → bound_behind image list (get_or assertions k d) ≡ Err why → left_of image assertions list k ≡ Err why
refused_next image assertions list k d why less is =
    next image assertions list k d less
    ∙ ap (followed (λ bound. left_of image assertions (list ++ bound ∷ []) (k + 1))) is

-- no assertion is left
pub no_more : (image : List ℕ) (assertions : List Assertion) (list : List BoundAssertion) (k : ℕ) → length assertions ≤ k
    → left_of image assertions list k ≡ Ok list
no_more image assertions list k all = ap (all_behind image list) (drop_all k assertions all)

-- where no assertion speaks of a subject, each speaks of another one
none_of : (x : BoundAssertion) (xs : List BoundAssertion) (s : Subject) (b : Bool) → is_same (subject_of x.body) s ≡ b → about (x ∷ xs) s ≡ None
    → (is_same (subject_of x.body) s ≡ false) × (about xs s ≡ None)
none_of x xs s true e none = absurd (none-some x (sym none ∙ ap (λ c. cond c (Some x) (about xs s)) e))
none_of x xs s false e none = (e, sym (ap (λ c. cond c (Some x) (about xs s)) e) ∙ none)

-- the assertion speaks of another subject
abbrev IsElsewhere : Subject → BoundAssertion → Type 0
IsElsewhere s x = is_same (subject_of x.body) s ≡ false

none_at : (list : List BoundAssertion) (s : Subject) → about list s ≡ None → All (IsElsewhere s) list
none_at [] s none = All-nil (IsElsewhere s)
none_at (x ∷ xs) s none =
    let p = none_of x xs s (is_same (subject_of x.body) s) refl none in
    All-cons (IsElsewhere s) x xs p.0 (none_at xs s p.1)

-- a list whose assertions speak of different things, with one more that none of them speaks of
pub apart_more : (list : List BoundAssertion) (x : BoundAssertion) → AllPairs AreApart list → about list (subject_of x.body) ≡ None
    → AllPairs AreApart (list ++ x ∷ [])
apart_more list x apart none = all_pairs_push AreApart list x apart (none_at list (subject_of x.body) none)

-- a list that is sound, with one more assertion
pub sound_more : (list : List BoundAssertion) (x : BoundAssertion) → IsSound list → SaysWithin x
    → about list (subject_of x.body) ≡ None → IsSound (list ++ x ∷ [])
sound_more list x sound within none = record { within = All-push SaysWithin list x sound.within within; apart = apart_more list x sound.apart none }

loop_within : (line : ℕ) (says : BoundBody) (more : List LoopLine) → IsWithin says → All CountsWithin more
    → All CountsWithin (cons_option (loop_in line says) more)
loop_within line (body.Root entry) more within rest = rest
loop_within line (body.Never pc) more within rest = rest
loop_within line (body.At pc reg lo hi) more within rest = rest
loop_within line (body.Jump pc to) more within rest = rest
loop_within line (body.CallTo pc to) more within rest = rest
loop_within line (body.Loop pc count) more within rest = All-cons CountsWithin (record { line = line; pc = pc; count = count }) more within rest
loop_within line (body.Stub entry time) more within rest = rest

-- the loops of a list have counts
pub loops_within : (list : List BoundAssertion) → All SaysWithin list → All CountsWithin (loops list)
loops_within [] within = All-nil CountsWithin
loops_within (x ∷ xs) within = loop_within x.line x.body (loops xs) (All-head SaysWithin x xs within) (loops_within xs (All-tail SaysWithin x xs within))
