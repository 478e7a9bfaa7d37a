-- Call sites, one more and one more.
use Rattle.std.proofs.Common.{◌≡◌, ℕ, zero, suc, ◌+◌, ◌<◌, inl, inr, List, [], ◌∷◌, ◌++◌, length, get_or, take, refl, sym, ap, ◌∙◌, subst, arith}
use Rattle.std.proofs.lemmas.Bool.{cases_lt}
use Rattle.std.proofs.lemmas.List.{length-append, take_more}
use Rattle.abs_state.specs.declared.key.Place.{Place}
use Rattle.graph_view.specs.Sites.{IsSite, AddsSite, AreSites}
use Rattle.graph_view.specs.declared.lists.Calling.{Calling}
use Rattle.graph_view.specs.declared.sites.CallSite.{CallSite}

in_front : {X : Type 0} (xs ys : List X) (k : ℕ) (d : X) → k < length xs → get_or (xs ++ ys) k d ≡ get_or xs k d
in_front [] ys k d less = absurd (omega (arith, less))
in_front (x ∷ xs) ys zero d less = refl
in_front (x ∷ xs) ys (suc k) d less = in_front xs ys k d (omega (arith, less))

at_end : {X : Type 0} (xs : List X) (x d : X) (k : ℕ) → k ≡ length xs → get_or (xs ++ x ∷ []) k d ≡ x
at_end [] x d k is = ap (λ j. get_or (x ∷ []) j d) is
at_end (y ∷ xs) x d k is = ap (λ j. get_or (y ∷ (xs ++ x ∷ [])) j d) is ∙ at_end xs x d (length xs) refl

pub none_sited : (nodes : List Place) → AreSites nodes [] []
none_sited nodes = record { count = refl; each = λ k c s less. absurd (omega (arith, less)) }

more_sites : (nodes : List Place) (cs : List Calling) (calling : Calling) (old new : List CallSite) → AreSites nodes cs old → AddsSite nodes calling old new
    → AreSites nodes (cs ++ calling ∷ []) new
more_sites nodes cs calling old new sites added =
    let one : length (cs ++ calling ∷ []) ≡ length cs + 1 = length-append cs (calling ∷ []) in
    let two : length (old ++ added.site ∷ []) ≡ length old + 1 = length-append old (added.site ∷ []) in
    let three : length new ≡ length (old ++ added.site ∷ []) = ap length added.added in
    let same : length old ≡ length cs = sites.count in
    record {
      count = omega (arith, one, two, three, same);
      each = λ k c s less. subst (λ list. IsSite nodes (get_or (cs ++ calling ∷ []) k c) (get_or list k s)) (sym added.added) (elim (cases_lt k (length cs)) [
        | inl front ↦
            subst (λ x. IsSite nodes x (get_or (old ++ added.site ∷ []) k s)) (sym (in_front cs (calling ∷ []) k c front))
            (subst (λ y. IsSite nodes (get_or cs k c) y) (sym (in_front old (added.site ∷ []) k s (omega (arith, front, same)))) (sites.each k c s front))
        | inr end ↦
            let at : k ≡ length cs = omega (arith, end, less, one) in
            subst (λ x. IsSite nodes x (get_or (old ++ added.site ∷ []) k s)) (sym (at_end cs calling c k at))
            (subst (λ y. IsSite nodes calling y) (sym (at_end old added.site s k (omega (arith, at, same)))) added.is)
      ]);
    }

pub sites_more : (nodes : List Place) (cs : List Calling) (i : ℕ) (d : Calling) (old new : List CallSite) → i < length cs
    → AreSites nodes (take i cs) old → AddsSite nodes (get_or cs i d) old new → AreSites nodes (take (i + 1) cs) new
sites_more nodes cs i d old new less sites added =
    subst (λ list. AreSites nodes list new) (sym (take_more cs i d less)) (more_sites nodes (take i cs) (get_or cs i d) old new sites added)
