-- The binding of a list is what it means that it is bound, and its refusal is that of the first that is refused.
use Rattle.std.proofs.Common.{◌≡◌, ℕ, true, List, [], ◌∷◌, ◌++◌, Option, Some, None, Result, Ok, Err, Contains, refl}
use Rattle.std.proofs.Common.{sym, ◌∙◌, ap, subst, append_assoc, append-nil, ◌⊎◌, inl, inr, arith}
use Rattle.std.specs.List.{AllPairs}
use Rattle.assert_lang.specs.declared.assertion.Assertion.{Assertion}
use Rattle.assert_bind.specs.Binding.{about, all_behind, alone, binding, bound_behind}
use Rattle.assert_bind.specs.Body.{bound_body, followed}
use Rattle.assert_bind.specs.Bound.{IsBoundTo, AreBoundTo, IsBound, IsRefusedBehind, IsFirstRefused, BindingsAreMeant, RefusalsAreFirst}
use Rattle.assert_bind.specs.Index.{AreApart}
use Rattle.assert_bind.specs.Subject.{is_same, subject_of}
use Rattle.assert_bind.specs.declared.body.BoundAssertion.{BoundAssertion}
use Rattle.assert_bind.specs.declared.body.BoundBody.{BoundBody}
use Rattle.assert_bind.specs.declared.refusal.BindRefusal.{BindRefusal}
use Rattle.assert_bind.specs.declared.refusal.BindRefusal.TheVariants.{Conflict}
use Rattle.assert_bind.specs.declared.subject.Subject.{Subject}
use Rattle.assert_bind.proofs.AboutLemmas.{finds_itself, found, none_before}
use Rattle.assert_bind.proofs.BindingLemmas.{apart_more}
use Rattle.assert_bind.proofs.SaysLemmas.{IsFollowed, followed_ok, followed_err, said, is_said, nothing_said, says_nothing}
use Rattle.assert_bind.proofs.SubjectLemmas.{same_exact}

-- what an assertion is looked for and put behind earlier ones with
abbrev behind : List BoundAssertion → ℕ → BoundBody → Result BoundAssertion BindRefusal
behind earlier line says = alone line says (about earlier (subject_of says))

-- an assertion is bound behind earlier ones
record IsBehind (image : List ℕ) (earlier : List BoundAssertion) (assertion : Assertion) (bound : BoundAssertion) : Type 0 where
  pub to : IsBoundTo image assertion bound
  pub fresh : about earlier (subject_of bound.body) ≡ None

alone_ok : (image : List ℕ) (earlier : List BoundAssertion) (assertion : Assertion) (says : BoundBody) (bound : BoundAssertion)
    (other : Option BoundAssertion) → about earlier (subject_of says) ≡ other
    → bound_body image assertion.line assertion.body ≡ Ok says → alone assertion.line says other ≡ Ok bound → IsBehind image earlier assertion bound
alone_ok image earlier assertion says bound None is body e =
    let same : record { line = assertion.line; body = says } ≡ bound = cc in
    subst (IsBehind image earlier assertion) same (record {
      to = record { line = refl; says = is_said image assertion.line assertion.body says body };
      fresh = is;
    })
alone_ok image earlier assertion says bound (Some other) is body e = cc

is_behind : (image : List ℕ) (earlier : List BoundAssertion) (assertion : Assertion) (bound : BoundAssertion)
    → bound_behind image earlier assertion ≡ Ok bound → IsBehind image earlier assertion bound
is_behind image earlier assertion bound e =
    let f = followed_ok (behind earlier assertion.line) (bound_body image assertion.line assertion.body) bound e in
    alone_ok image earlier assertion f.value bound (about earlier (subject_of f.value)) refl f.is f.gives

-- and where it is one that none speaks of, it is bound so
goes_behind : (image : List ℕ) (earlier : List BoundAssertion) (assertion : Assertion) (bound : BoundAssertion)
    → IsBoundTo image assertion bound → about earlier (subject_of bound.body) ≡ None
    → bound_behind image earlier assertion ≡ Ok bound
goes_behind image earlier assertion bound to none =
    ap (followed (behind earlier assertion.line)) (said image assertion.line assertion.body bound.body to.says)
    ∙ ap (alone assertion.line bound.body) none
    ∙ ap (λ (line : ℕ). Ok (record { line = line; body = bound.body })) (sym to.line)

-- assertions that are bound behind earlier ones
record AreBehind (image : List ℕ) (earlier : List BoundAssertion) (assertions : List Assertion) (list : List BoundAssertion) : Type 0 where
  pub tail : List BoundAssertion
  pub are : list ≡ earlier ++ tail
  pub each : AreBoundTo image assertions tail
  pub apart : AllPairs AreApart earlier → AllPairs AreApart list

are_behind : (image : List ℕ) (earlier : List BoundAssertion) (assertions : List Assertion) (list : List BoundAssertion)
    → all_behind image earlier assertions ≡ Ok list → AreBehind image earlier assertions list
are_behind image earlier [] list e =
    let same : earlier ≡ list = cc in
    record { tail = []; are = sym same ∙ sym (append-nil earlier); each = AreBoundTo.NoneYet; apart = λ apart. subst (AllPairs AreApart) same apart }
are_behind image earlier (x ∷ xs) list e =
    let f = followed_ok (λ bound. all_behind image (earlier ++ bound ∷ []) xs) (bound_behind image earlier x) list e in
    let b = is_behind image earlier x f.value f.is in
    let r = are_behind image (earlier ++ f.value ∷ []) xs list f.gives in
    record {
      tail = f.value ∷ r.tail;
      are = r.are ∙ append_assoc earlier (f.value ∷ []) r.tail;
      each = AreBoundTo.OneMore x f.value xs r.tail b.to r.each;
      apart = λ apart. r.apart (apart_more earlier f.value apart b.fresh);
    }

go_behind : (image : List ℕ) (earlier : List BoundAssertion) (assertions : List Assertion) (tail : List BoundAssertion)
    (later : List Assertion) → AreBoundTo image assertions tail → AllPairs AreApart (earlier ++ tail)
    → all_behind image earlier (assertions ++ later) ≡ all_behind image (earlier ++ tail) later
go_behind image earlier assertions tail later AreBoundTo.NoneYet apart = ap (λ (l : List BoundAssertion). all_behind image l later) (sym (append-nil earlier))
go_behind image earlier assertions tail later (AreBoundTo.OneMore x bound xs more to rest) apart =
    let one = goes_behind image earlier x bound to (none_before earlier bound more apart) in
    let all = append_assoc earlier (bound ∷ []) more in
    ap (followed (λ b. all_behind image (earlier ++ b ∷ []) (xs ++ later))) one
    ∙ go_behind image (earlier ++ bound ∷ []) xs more later rest (subst (AllPairs AreApart) (sym all) apart)
    ∙ ap (λ (l : List BoundAssertion). all_behind image l later) all

no_pairs : AllPairs AreApart []
no_pairs i j d less within = absurd (omega (arith, less, within))

-- a list is bound exactly where each statement says what is written and no two speak of the same
pub bindings_meant : BindingsAreMeant
bindings_meant image assertions list = (there, back)
  where
    there : binding image assertions ≡ Ok list → IsBound image assertions list
    there e =
        let r = are_behind image [] assertions list e in
        record { each = subst (AreBoundTo image assertions) (sym r.are) r.each; apart = r.apart no_pairs }

    back : IsBound image assertions list → binding image assertions ≡ Ok list
    back b = ap (all_behind image []) (sym (append-nil assertions)) ∙ go_behind image [] assertions list [] b.each b.apart

-- an assertion is refused behind earlier ones
alone_err : (image : List ℕ) (earlier : List BoundAssertion) (assertion : Assertion) (says : BoundBody) (why : BindRefusal)
    (other : Option BoundAssertion) → about earlier (subject_of says) ≡ other
    → bound_body image assertion.line assertion.body ≡ Ok says → alone assertion.line says other ≡ Err why → IsRefusedBehind image earlier assertion why
alone_err image earlier assertion says why None is body e = cc
alone_err image earlier assertion says why (Some other) is body e =
    let same : Conflict assertion.line other.line ≡ why = cc in
    let a = found earlier (subject_of says) other is in
    subst (IsRefusedBehind image earlier assertion) same
    (IsRefusedBehind.ForAnother says other (is_said image assertion.line assertion.body says body) (a.place, a.within, a.there) a.same)

is_refused : (image : List ℕ) (earlier : List BoundAssertion) (assertion : Assertion) (why : BindRefusal)
    → bound_behind image earlier assertion ≡ Err why → IsRefusedBehind image earlier assertion why
is_refused image earlier assertion why e = of (followed_err (behind earlier assertion.line) (bound_body image assertion.line assertion.body) why e) where
  of : (bound_body image assertion.line assertion.body ≡ Err why)
      ⊎ IsFollowed (behind earlier assertion.line) (bound_body image assertion.line assertion.body) (Err why)
      → IsRefusedBehind image earlier assertion why
  of (inl n) = IsRefusedBehind.OfItself why (says_nothing image assertion.line assertion.body why n)
  of (inr f) = alone_err image earlier assertion f.value why (about earlier (subject_of f.value)) refl f.is f.gives

-- the first of some assertions that is refused behind earlier ones
record IsRefusedPast (image : List ℕ) (bound : List BoundAssertion) (assertions : List Assertion) (why : BindRefusal) : Type 0 where
  pub earlier : List Assertion
  pub assertion : Assertion
  pub later : List Assertion
  pub tail : List BoundAssertion
  pub are : assertions ≡ earlier ++ assertion ∷ later
  pub each : AreBoundTo image earlier tail
  pub apart : AllPairs AreApart bound → AllPairs AreApart (bound ++ tail)
  pub refused : IsRefusedBehind image (bound ++ tail) assertion why

refused_past : (image : List ℕ) (bound : List BoundAssertion) (assertions : List Assertion) (why : BindRefusal)
    → all_behind image bound assertions ≡ Err why → IsRefusedPast image bound assertions why
refused_past image bound [] why e = cc
refused_past image bound (x ∷ xs) why e = of (followed_err (λ b. all_behind image (bound ++ b ∷ []) xs)
    (bound_behind image bound x) why e) (λ b. refused_past image (bound ++ b ∷ []) xs why) where
      of : (bound_behind image bound x ≡ Err why) ⊎ IsFollowed (λ b. all_behind image (bound ++ b ∷ []) xs) (bound_behind image bound x) (Err why)
          → ((b : BoundAssertion) → all_behind image (bound ++ b ∷ []) xs ≡ Err why → IsRefusedPast image (bound ++ b ∷ []) xs why)
          → IsRefusedPast image bound (x ∷ xs) why
      of (inl n) each = record {
        earlier = [];
        assertion = x;
        later = xs;
        tail = [];
        are = refl;
        each = AreBoundTo.NoneYet;
        apart = λ apart. subst (AllPairs AreApart) (sym (append-nil bound)) apart;
        refused = subst (λ (l : List BoundAssertion). IsRefusedBehind image l x why) (sym (append-nil bound)) (is_refused image bound x why n);
      }
      of (inr f) each =
          let b = is_behind image bound x f.value f.is in
          let r = each f.value f.gives in
          let all = append_assoc bound (f.value ∷ []) r.tail in
          record {
            earlier = x ∷ r.earlier;
            assertion = r.assertion;
            later = r.later;
            tail = f.value ∷ r.tail;
            are = ap (λ (l : List Assertion). x ∷ l) r.are;
            each = AreBoundTo.OneMore x f.value r.earlier r.tail b.to r.each;
            apart = λ apart. subst (AllPairs AreApart) all (r.apart (apart_more bound f.value apart b.fresh));
            refused = subst (λ (l : List BoundAssertion). IsRefusedBehind image l r.assertion why) all r.refused;
          }

-- the assertion about what an earlier one speaks of is that one
about_other : (list : List BoundAssertion) (says : BoundBody) (other : BoundAssertion) → AllPairs AreApart list
    → Contains list other → is_same (subject_of other.body) (subject_of says) ≡ true → about list (subject_of says) ≡ Some other
about_other list says other apart (k, less, at) same =
    subst (λ (s : Subject). about list s ≡ Some other) (same_exact (subject_of other.body) (subject_of says) same)
    (subst (λ (x : BoundAssertion). about list (subject_of x.body) ≡ Some x) at (finds_itself list k other apart less))

refuses : (image : List ℕ) (list : List BoundAssertion) (assertion : Assertion) (why : BindRefusal) → AllPairs AreApart list
    → IsRefusedBehind image list assertion why → bound_behind image list assertion ≡ Err why
refuses image list assertion why apart (IsRefusedBehind.OfItself same nothing) =
    ap (followed (behind list assertion.line)) (nothing_said image assertion.line assertion.body same nothing)
refuses image list assertion why apart (IsRefusedBehind.ForAnother says other is contains same) =
    ap (followed (behind list assertion.line)) (said image assertion.line assertion.body says is)
    ∙ ap (alone assertion.line says) (about_other list says other apart contains same)

-- a refusal is that of the first statement that has one
pub refusals_first : RefusalsAreFirst
refusals_first image assertions why = (there, back)
  where
    there : binding image assertions ≡ Err why → IsFirstRefused image assertions why
    there e =
        let r = refused_past image [] assertions why e in
        record {
          earlier = r.earlier;
          assertion = r.assertion;
          later = r.later;
          list = r.tail;
          are = r.are;
          before = record { each = r.each; apart = r.apart no_pairs };
          refused = r.refused;
        }

    back : IsFirstRefused image assertions why → binding image assertions ≡ Err why
    back r =
        ap (all_behind image []) r.are
        ∙ go_behind image [] r.earlier r.list (r.assertion ∷ r.later) r.before.each r.before.apart
        ∙ ap (followed (λ b. all_behind image (r.list ++ b ∷ []) r.later)) (refuses image r.list r.assertion why r.before.apart r.refused)
