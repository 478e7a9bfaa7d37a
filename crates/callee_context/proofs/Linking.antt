-- Where the calls of a context lead, as the list of contexts grows.
use Rattle.std.proofs.Common.{◌≡◌, ℕ, ◌+◌, ◌<◌, ◌⊎◌, List, [], ◌∷◌, ◌++◌, length, get_or, Option, Some, None, inl, inr, sym, ap, subst, ◌∙◌, arith}
use Rattle.std.specs.Prelude.{slice_get}
use Rattle.std.proofs.lemmas.List.{length-append}
use Rattle.std.proofs.lemmas.Option.{slice_get-get_or, slice_get_within}
use Rattle.abs_state.specs.declared.key.Place.{Place}
use Rattle.callee_context.proofs.Growing.{get_last}
use Rattle.callee_context.specs.Worklist.{GrowsTo, IsBegun}
use Rattle.context_list.specs.Numbered.{One}
use Rattle.context_order.specs.Opened.{AreLinks, AreOpened, IsLink, IsOpened}
use Rattle.context_order.specs.declared.opened.Opened.{Opened}
use Rattle.context_outcomes.specs.Setting.{Setting}
use Rattle.transfer_rules.specs.Give.{Facts}

some_same : {X : Type 0} {x y : X} → Some x ≡ Some y → x ≡ y
some_same e = cc

module _ (S : Setting) (old new : List One) (grows : GrowsTo S old new) where
  -- a link stays one
  link_kept : (sub : ℕ) (facts : Facts) (p : Place) (link : Option ℕ) → IsLink S old sub facts p link → IsLink S new sub facts p link
  link_kept sub facts p None is = is
  link_kept sub facts p (Some number) is = record {
    target = is.target;
    enters = is.enters;
    context = is.context;
    leads = is.leads;
    at = grows.kept number (is.target, is.context) is.at;
  }

  pub links_kept : (sub : ℕ) (facts : Facts) (nodes : List Place) (many : ℕ) (links : List (Option ℕ)) → AreLinks S old sub facts nodes many links
      → AreLinks S new sub facts nodes many links
  links_kept sub facts nodes many links are = record {
    count = are.count;
    each = λ n p link here there. link_kept sub facts p link (are.each n p link here there);
  }

  pub begun_kept : (root : ℕ) → IsBegun S old root → IsBegun S new root
  begun_kept root is = record {
    context = is.context;
    chosen = is.chosen;
    number = is.number;
    at = grows.kept is.number (root, is.context) is.at;
  }

  opened_kept : (one : One) (o : Opened) → IsOpened S old one o → IsOpened S new one o
  opened_kept one o is = record { inside = is.inside; links = links_kept _ _ _ _ _ is.links }

  module _ (sub : ℕ) (facts : Facts) (nodes : List Place) (many : ℕ) (links : List (Option ℕ)) (are : AreLinks S old sub facts nodes many links) (p : Place)
      (link : Option ℕ) (at : slice_get nodes many ≡ Some p) (is : IsLink S new sub facts p link) where
    each : (n : ℕ) (q : Place) (other : Option ℕ) → slice_get nodes n ≡ Some q
        → (slice_get links n ≡ Some other) ⊎ ((n ≡ length links) × (link ≡ other)) → IsLink S new sub facts q other
    each n q other here (inl there) = link_kept sub facts q other (are.each n q other here there)
    each n q other here (inr last) =
        let same : p ≡ q = some_same (sym at ∙ (ap (slice_get nodes) (sym (last.0 ∙ are.count)) ∙ here)) in
        subst (λ (r : Place). IsLink S new sub facts r other) same (subst (λ (l : Option ℕ). IsLink S new sub facts p l) last.1 is)

    -- one more is found
    pub links_next : AreLinks S new sub facts nodes (many + 1) (links ++ link ∷ [])
    links_next = record {
      count = let count = are.count in let more = length-append links (link ∷ []) in omega (arith, count, more);
      each = λ n q other here there. each n q other here (get_last links link other n there);
    }

  module _ (all : List Opened) (are : AreOpened S old all) (one : One) (o : Opened) (at : slice_get old (length all) ≡ Some one) (is : IsOpened S new one o) where
    opened_each : (n : ℕ) (two : One) (other : Opened) → slice_get new n ≡ Some two
        → (slice_get all n ≡ Some other) ⊎ ((n ≡ length all) × (o ≡ other)) → IsOpened S new two other
    opened_each n two other here (inl there) =
        let less : n < length all = slice_get_within all n other there in
        let low = are.low in
        let at_old : slice_get old n ≡ Some (get_or old n two) = slice_get-get_or old n two (omega (arith, less, low)) in
        let same : get_or old n two ≡ two = some_same (sym (grows.kept n (get_or old n two) at_old) ∙ here) in
        opened_kept two other (are.each n two other (at_old ∙ ap (λ (x : One). Some x) same) there)
    opened_each n two other here (inr last) =
        let same : one ≡ two = some_same (sym (grows.kept (length all) one at) ∙ (ap (slice_get new) (sym last.0) ∙ here)) in
        subst (λ (r : One). IsOpened S new r other) same (subst (λ (l : Opened). IsOpened S new one l) last.1 is)

    -- one more context is opened
    pub opened_next : AreOpened S new (all ++ o ∷ [])
    opened_next = record {
      low =
          let less : length all < length old = slice_get_within old (length all) one at in
          let longer = grows.longer in
          let more = length-append all (o ∷ []) in
          omega (arith, less, longer, more);
      each = λ n two other here there. opened_each n two other here (get_last all o other n there);
    }
