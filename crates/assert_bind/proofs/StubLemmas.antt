-- The stubs that a binding lists are those that have a time, each once.
use Rattle.std.proofs.Common.{◌≡◌, ◌≢◌, ℕ, zero, suc, ◌<◌, true, false, List, [], ◌∷◌, length, get_or, Option, Some}
use Rattle.std.proofs.Common.{None, All, Contains, is_some, refl, sym, ◌∙◌, ap, subst, arith}
use Rattle.std.specs.List.{AllPairs, cons_option}
use Rattle.std.specs.Option.{IsSome, option_and_then}
use Rattle.std.proofs.lemmas.Bool.{eqb-true, false≢true}
use Rattle.std.proofs.lemmas.List.Elements.{Contains-get_or}
use Rattle.std.proofs.lemmas.List.Kept.{AllPairs-cons}
use Rattle.assert_bind.specs.Binding.{about, stub, stubs, stub_in, time_in}
use Rattle.assert_bind.specs.Index.{AreApart}
use Rattle.assert_bind.specs.Stubs.{StubsAreThose}
use Rattle.assert_bind.specs.Subject.{is_same, subject_of}
use Rattle.assert_bind.specs.declared.body.BoundAssertion.{BoundAssertion}
use Rattle.assert_bind.specs.declared.body.BoundBody.{BoundBody}
use Rattle.assert_bind.specs.declared.body.BoundBody.TheVariants as body
use Rattle.assert_bind.specs.declared.subject.Subject.{Subject}
use Rattle.assert_bind.specs.declared.subject.Subject.TheVariants as of
use Rattle.assert_bind.proofs.AboutLemmas.{apart_tail, finds_itself, found}
use Rattle.assert_bind.proofs.SubjectLemmas.{same_itself}

-- the entry of an assertion, where it is a stub
abbrev entry_in : BoundAssertion → Option ℕ
entry_in assertion = stub_in assertion.body

-- a stub of a list with this entry
record IsFrom (list : List BoundAssertion) (entry : ℕ) : Type 0 where
  pub place : ℕ
  pub item : BoundAssertion
  pub within : place < length list
  pub there : get_or list place item ≡ item
  pub gives : entry_in item ≡ Some entry

further : (x : BoundAssertion) (xs : List BoundAssertion) (entry : ℕ) → IsFrom xs entry → IsFrom (x ∷ xs) entry
further x xs entry f = record { place = suc f.place; item = f.item; within = omega (arith, f.within); there = f.there; gives = f.gives }

from_front : (x : BoundAssertion) (xs : List BoundAssertion) (entry : ℕ) (first : Option ℕ) → entry_in x ≡ first
    → (Contains (stubs xs) entry → IsFrom xs entry) → Contains (cons_option first (stubs xs)) entry → IsFrom (x ∷ xs) entry
from_front x xs entry None is each c = further x xs entry (each c)
from_front x xs entry (Some a) is each (zero, less, same) = record {
  place = 0;
  item = x;
  within = omega arith;
  there = refl;
  gives = is ∙ ap (λ (e : ℕ). Some e) same;
}
from_front x xs entry (Some a) is each (suc k, less, same) = further x xs entry (each (k, omega (arith, less), same))

-- an entry that is listed is that of a stub
is_from : (list : List BoundAssertion) (entry : ℕ) → Contains (stubs list) entry → IsFrom list entry
is_from [] entry (k, less, same) = absurd (omega (arith, less))
is_from (x ∷ xs) entry c = from_front x xs entry (entry_in x) refl (λ later. is_from xs entry later) c

behind_first : (first : Option ℕ) (l : List ℕ) (entry : ℕ) → Contains l entry → Contains (cons_option first l) entry
behind_first None l entry c = c
behind_first (Some a) l entry (k, less, same) = (suc k, omega (arith, less), same)

-- and the entry of a stub is listed
is_listed : (list : List BoundAssertion) (k : ℕ) (d : BoundAssertion) (entry : ℕ) → k < length list
    → entry_in (get_or list k d) ≡ Some entry → Contains (stubs list) entry
is_listed [] k d entry less is = absurd (omega (arith, less))
is_listed (x ∷ xs) zero d entry less is =
    subst (λ (first : Option ℕ). Contains (cons_option first (stubs xs)) entry) (sym is) (0, omega arith, refl)
is_listed (x ∷ xs) (suc k) d entry less is = behind_first (entry_in x) (stubs xs) entry (is_listed xs k d entry (omega (arith, less)) is)

-- a stub speaks of its entry, and has a time
stub_subject : (says : BoundBody) (entry : ℕ) → stub_in says ≡ Some entry → subject_of says ≡ of.Entry entry
stub_subject (body.Root a) entry is = cc
stub_subject (body.Never a) entry is = cc
stub_subject (body.At a reg lo hi) entry is = cc
stub_subject (body.Jump a to) entry is = cc
stub_subject (body.CallTo a to) entry is = cc
stub_subject (body.Loop a count) entry is = cc
stub_subject (body.Stub a time) entry is = let same : a ≡ entry = cc in ap (λ (e : ℕ). of.Entry e) same

stub_time : (says : BoundBody) (entry : ℕ) → stub_in says ≡ Some entry → IsSome (time_in says)
stub_time (body.Root a) entry is = cc
stub_time (body.Never a) entry is = cc
stub_time (body.At a reg lo hi) entry is = cc
stub_time (body.Jump a to) entry is = cc
stub_time (body.CallTo a to) entry is = cc
stub_time (body.Loop a count) entry is = cc
stub_time (body.Stub a time) entry is = refl

-- what speaks of an entry and has a time is a stub with it
timed_stub : (says : BoundBody) (entry : ℕ) → is_same (subject_of says) (of.Entry entry) ≡ true → IsSome (time_in says) → stub_in says ≡ Some entry
timed_stub (body.Root a) entry same time = absurd (false≢true time)
timed_stub (body.Never a) entry same time = absurd (false≢true time)
timed_stub (body.At a reg lo hi) entry same time = absurd (false≢true time)
timed_stub (body.Jump a to) entry same time = absurd (false≢true time)
timed_stub (body.CallTo a to) entry same time = absurd (false≢true time)
timed_stub (body.Loop a count) entry same time = absurd (false≢true time)
timed_stub (body.Stub a t) entry same time = ap (λ (e : ℕ). Some e) (eqb-true a entry same)

-- the time of an assertion, where it is a stub
abbrev time_of : BoundAssertion → Option ℕ
time_of assertion = time_in assertion.body

has_time : (list : List BoundAssertion) (entry : ℕ) → AllPairs AreApart list → IsFrom list entry → IsSome (stub list entry)
has_time list entry apart f =
    let at : about list (subject_of f.item.body) ≡ Some f.item =
    subst (λ (x : BoundAssertion). about list (subject_of x.body) ≡ Some x) f.there
    (finds_itself list f.place f.item apart f.within) in
    let is : about list (of.Entry entry) ≡ Some f.item = subst (λ (s : Subject). about list s ≡ Some f.item) (stub_subject f.item.body entry f.gives) at in
    ap (λ (o : Option BoundAssertion). is_some (option_and_then time_of o)) is ∙ stub_time f.item.body entry f.gives

is_timed : (list : List BoundAssertion) (entry : ℕ) (x : Option BoundAssertion) → about list (of.Entry entry) ≡ x
    → IsSome (option_and_then time_of x) → Contains (stubs list) entry
is_timed list entry None is time = absurd (false≢true time)
is_timed list entry (Some x) is time =
    let a = found list (of.Entry entry) x is in
    is_listed list a.place x entry a.within (ap entry_in a.there ∙ timed_stub x.body entry a.same time)

-- no stub behind the first has its entry
differs : (x : BoundAssertion) (xs : List BoundAssertion) (a : ℕ) → AllPairs AreApart (x ∷ xs) → entry_in x ≡ Some a → All (λ y. a ≢ y) (stubs xs)
differs x xs a apart is k d less = λ same.
    let f = is_from xs (get_or (stubs xs) k d) (Contains-get_or (stubs xs) k d less) in
    let one : subject_of x.body ≡ of.Entry a = stub_subject x.body a is in
    let two : subject_of f.item.body ≡ of.Entry a = stub_subject f.item.body (get_or (stubs xs) k d) f.gives ∙ ap (λ (e : ℕ). of.Entry e) (sym same) in
    let both : is_same (subject_of x.body) (subject_of f.item.body) ≡ true =
    ap (λ (s : Subject). is_same s (subject_of f.item.body)) (one ∙ sym two) ∙ same_itself (subject_of f.item.body) in
    let other : is_same (subject_of x.body) (subject_of f.item.body) ≡ false =
    subst (λ (y : BoundAssertion). is_same (subject_of x.body) (subject_of y.body) ≡ false) f.there
    (apart 0 (suc f.place) f.item (omega arith) (omega (arith, f.within))) in
    false≢true (sym other ∙ both)

once_front : (x : BoundAssertion) (xs : List BoundAssertion) (first : Option ℕ) → AllPairs AreApart (x ∷ xs) → entry_in x ≡ first
    → AllPairs (λ y z. y ≢ z) (stubs xs) → AllPairs (λ y z. y ≢ z) (cons_option first (stubs xs))
once_front x xs None apart is rest = rest
once_front x xs (Some a) apart is rest = AllPairs-cons (λ y z. y ≢ z) a (stubs xs) (differs x xs a apart is) rest

listed_once : (list : List BoundAssertion) → AllPairs AreApart list → AllPairs (λ y z. y ≢ z) (stubs list)
listed_once [] apart = λ i j d less within. absurd (omega (arith, less, within))
listed_once (x ∷ xs) apart = once_front x xs (entry_in x) apart refl (listed_once xs (apart_tail x xs apart))

-- the subprograms that aren't looked into are those of the statements
pub stubs_those : StubsAreThose
stubs_those list sound = record {
  each = λ entry. (λ c. has_time list entry sound.apart (is_from list entry c), λ time. is_timed list entry (about list (of.Entry entry)) refl time);
  once = listed_once list sound.apart;
}
