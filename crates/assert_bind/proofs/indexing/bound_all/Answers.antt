use Rattle.std.proofs.Common.{◌≡◌, ◌<◌, ◌+◌, List, [], ◌∷◌, ◌++◌, length, get_or, Ok, None, All, sym, ◌∙◌, ap, subst}
use Rattle.std.proofs.lemmas.List.Elements.{All-push}
use Rattle.assert_lang.specs.Bounds.{AssertsWithin}
use Rattle.assert_lang.specs.declared.assertion.Assertion.{Assertion}
use Rattle.assert_bind.specs.Binding.{about, bound_behind}
use Rattle.assert_bind.specs.Body.{SpeaksOfCodeIn}
use Rattle.assert_bind.specs.Index.{IsSound}
use Rattle.assert_bind.specs.Subject.{subject_of}
use Rattle.assert_bind.specs.declared.body.BoundAssertion.{BoundAssertion}
use Rattle.assert_bind.proofs.BindingLemmas.{left_of, one_more, sound_more}
use Rattle.assert_bind.proofs.indexing.bound_all.Goals as goal

pub loop-assertion-preserved : goal.loop-assertion-preserved
loop-assertion-preserved c =
    let image = c.args.image.now in
    let all = c.args.assertions.now in
    let list = c.loop-assertion.list.items in
    let k = c.loop-assertion.assertion-index in
    let item = c.assertion-item.result in
    let bound = c.in_ok-bound.bound in
    let less : k < length all = c.loop-assertion-test.true in
    let read : get_or all k item ≡ item = sym {A = Assertion} c.assertion-item.is in
    let seen : list ≡ c.deref.result.now = sym {A = List BoundAssertion} c.deref.ensures.value in
    let next : bound_behind image list (get_or all k item) ≡ Ok bound = ap (bound_behind image list) read
    ∙ ap (λ (l : List BoundAssertion). bound_behind image l item) seen ∙ c.in_ok-bound.ensures.value in
    let fresh : about list (subject_of bound.body) ≡ None = ap (λ (l : List BoundAssertion). about l (subject_of bound.body)) seen
    ∙ c.in_ok-bound.ensures.fresh in
    let within = c.in_ok-bound.ensures.within (subst AssertsWithin read (c.requires k item less)) in
    let items : list ++ bound ∷ [] ≡ c.add.new.list.items = sym {A = List BoundAssertion} c.in_ok-add.ensures.list in
    record {
      same = c.loop-assertion.invariant.same ∙ one_more image all list k item bound less next
          ∙ ap (λ (l : List BoundAssertion). left_of image all l (k + 1)) items;
      index = c.in_ok-add.ensures.index;
      sound = subst IsSound items (sound_more list bound c.loop-assertion.invariant.sound within fresh);
      code = subst (λ (l : List BoundAssertion). All (SpeaksOfCodeIn image) l) items
          (All-push (SpeaksOfCodeIn image) list bound c.loop-assertion.invariant.code c.in_ok-bound.ensures.code);
    }
