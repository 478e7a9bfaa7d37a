-- Rising lists of program points with the same members are the same.
use Rattle.std.proofs.Common.{◌≡◌, true, List, [], ◌∷◌, map, Option, Some, None, Contains, refl, sym, ap, subst, ◌∙◌}
use Rattle.std.specs.Prelude.{is_some}
use Rattle.std.specs.List.Sorted.{IsStrictlySortedBy}
use Rattle.std.specs.Map.{keys_of}
use Rattle.std.proofs.lemmas.Bool.{false≢true}
use Rattle.abs_state.proofs.KeyLemmas.{keys_are_ordered}
use Rattle.abs_state.specs.declared.key.Key.TheVariants as key
use Rattle.abs_state.specs.declared.key.Place.{Place}
use Rattle.flow_core.proofs.EntryLemmas.{same_entries}
use Rattle.flow_core.proofs.WritingLemmas.{key_listed, listed_key}
use Rattle.flow_system.specs.Facts.{KeysRise, fact_at}
use Rattle.flow_system.specs.Laws.{OrdersKeys}
use Rattle.graph_view.specs.Numbers.{place_cmp}

-- a program point is told by its key
node_key : (p q : Place) → key.Node p ≡ key.Node q → p ≡ q
node_key p q same = cc

-- the order of program points is that of their keys
place_order : OrdersKeys place_cmp
place_order = record {
  total = record {
    antisymm = λ p q. keys_are_ordered.total.antisymm (key.Node p) (key.Node q);
    trans = λ p q r. keys_are_ordered.total.trans (key.Node p) (key.Node q) (key.Node r);
    congr = λ p q r. keys_are_ordered.total.congr (key.Node p) (key.Node q) (key.Node r);
  };
  exact = λ p q tie. node_key p q (keys_are_ordered.exact (key.Node p) (key.Node q) tie);
}

-- a list as entries that say nothing
abbrev entry : Place → Place × Unit {0}
entry p = (p, tt)

-- the keys of these entries are the list
keys_are : (ps : List Place) → keys_of (map entry ps) ≡ ps
keys_are [] = refl
keys_are (p ∷ ps) = ap (λ (l : List Place). p ∷ l) (keys_are ps)

-- two that are there together are the same, where nothing is said
same_unit : (a b : Option (Unit {0})) → (is_some a ≡ true → is_some b ≡ true) → (is_some b ≡ true → is_some a ≡ true) → a ≡ b
same_unit None None there back = refl
same_unit None (Some v) there back = absurd (false≢true (back refl))
same_unit (Some u) None there back = absurd (false≢true (there refl))
same_unit (Some u) (Some v) there back = refl

-- the entries of a rising list rise
rise_of : (ps : List Place) → IsStrictlySortedBy place_cmp ps → KeysRise place_cmp (map entry ps)
rise_of ps rise = subst (IsStrictlySortedBy place_cmp) (sym (keys_are ps)) rise

-- a program point is an entry's key where it is in the list
entered : (ps : List Place) (p : Place) → Contains ps p → is_some (fact_at place_cmp (map entry ps) p) ≡ true
entered ps p has = listed_key place_cmp place_order (map entry ps) p (subst (λ (l : List Place). Contains l p) (sym (keys_are ps)) has)

-- and in the list where it is an entry's key
listed : (ps : List Place) (p : Place) → is_some (fact_at place_cmp (map entry ps) p) ≡ true → Contains ps p
listed ps p there = subst (λ (l : List Place). Contains l p) (keys_are ps) (key_listed place_cmp place_order (map entry ps) p there)

-- rising lists that have the same program points are the same
pub same_places : (ps qs : List Place) → IsStrictlySortedBy place_cmp ps → IsStrictlySortedBy place_cmp qs → ((p : Place) → Contains ps p → Contains qs p)
    → ((p : Place) → Contains qs p → Contains ps p) → ps ≡ qs
same_places ps qs rise other there back =
    sym (keys_are ps)
    ∙ ap (λ (es : List (Place × Unit {0})). keys_of es)
    (same_entries place_cmp place_order (map entry ps) (map entry qs) (rise_of ps rise) (rise_of qs other)
    (λ p. same_unit (fact_at place_cmp (map entry ps) p) (fact_at place_cmp (map entry qs) p)
    (λ some. entered qs p (there p (listed ps p some))) (λ some. entered ps p (back p (listed qs p some)))))
    ∙ keys_are qs
