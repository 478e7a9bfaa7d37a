use Rattle.std.proofs.Common.{◌≡◌, ℕ, List, length, Some, sym, ap, subst}
use Rattle.std.specs.BTreeMap.{Updates}
use Rattle.assert_bind.specs.Index.{IsIndex, subject_cmp}
use Rattle.assert_bind.specs.Subject.{subject_of}
use Rattle.assert_bind.specs.declared.body.BoundAssertion.{BoundAssertion}
use Rattle.assert_bind.specs.declared.subject.Subject.{Subject}
use Rattle.assert_bind.proofs.IndexLemmas.{index_more}
use Rattle.assert_bind.proofs.indexing.add.Goals as goal

pub returns-clause-index : goal.returns-clause-index
returns-clause-index c =
    let old = c.args.places.now in
    let new = c.insert.new.self in
    let at_subject = subst (λ (s : Subject). Updates subject_cmp old new s (Some (length c.as_slice-place.result.now)))
    c.subject_of.ensures c.in_ok-insert.ensures.updates in
    let count : length c.as_slice-place.result.now ≡ length c.args.list.now.items = ap length c.as_slice-place.ensures.value in
    let at_place = subst (λ (n : ℕ). Updates subject_cmp old new (subject_of c.args.assertion.body) (Some n)) count at_subject in
    subst (λ (l : List BoundAssertion). IsIndex l new) (sym {A = List BoundAssertion} c.in_ok-push.ensures.items)
    (index_more c.args.list.now.items c.args.assertion old new c.requires.index c.requires.fresh at_place)
