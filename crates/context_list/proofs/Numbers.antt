-- The numbers of contexts by their codes.
use Rattle.std.proofs.Common.{◌≡◌, ℕ, zero, suc, Bool, true, false, cond, List, [], ◌∷◌, ◌++◌, length, Option, Some, None, Contains, Vec, Global, refl, sym, ap, ◌∙◌}
use Rattle.std.specs.Prelude.{ℤ, slice_get}
use Rattle.std.specs.BTreeMap.{BTreeMap, IsEmpty, get, is_at}
use Rattle.std.specs.Cmp.{int_cmp_total}
use Rattle.std.specs.Cmp.Lexicographic.{slice_cmp}
use Rattle.std.specs.Map.{lookup}
use Rattle.std.specs.Ordering.{int_cmp, is_eq, ordering_then}
use Rattle.std.specs.declared.cmp.Ordering.{Ordering}
use Rattle.std.specs.declared.cmp.Ordering.TheVariants.{Less, Equal, Greater}
use Rattle.std.proofs.lemmas.Cmp.{tied_itself}
use Rattle.std.proofs.lemmas.Map.Lookups.{exact_signed}
use Rattle.std.proofs.lemmas.Option.{get_or_from_slice_get, none-some, same_Some, slice_get-get_or, slice_get_within}
use Rattle.context_list.proofs.Telling.{codes_apart}
use Rattle.context_list.specs.Code.{code_of}
use Rattle.context_list.specs.Numbered.{AreNumbered, HasCodeAt, IsNumberOf, One, code_cmp}

then_equal : (a b : Ordering) → ordering_then a b ≡ Equal → (a ≡ Equal) × (b ≡ Equal)
then_equal Less b e = absurd (cc)
then_equal Equal b e = (refl, e)
then_equal Greater b e = absurd (cc)

-- codes that compare alike are one
exact_codes : (xs ys : List ℤ) → slice_cmp int_cmp xs ys ≡ Equal → xs ≡ ys
exact_codes [] [] e = refl
exact_codes [] (y ∷ ys) e = absurd (cc)
exact_codes (x ∷ xs) [] e = absurd (cc)
exact_codes (x ∷ xs) (y ∷ ys) e =
    let parts = then_equal (int_cmp x y) (slice_cmp int_cmp xs ys) e in
    let first : x ≡ y = exact_signed x y parts.0 in
    let rest : xs ≡ ys = exact_codes xs ys parts.1 in
    cc

same_codes : (xs : List ℤ) → slice_cmp int_cmp xs xs ≡ Equal
same_codes [] = refl
same_codes (x ∷ xs) = ap (λ (o : Ordering). ordering_then o (slice_cmp int_cmp xs xs)) (tied_itself int_cmp_total x) ∙ same_codes xs

eq_is : (o : Ordering) → is_eq o ≡ true → o ≡ Equal
eq_is Less e = absurd (cc)
eq_is Equal e = refl
eq_is Greater e = absurd (cc)

-- no map has the numbers of no contexts but the empty one
pub none_numbered : (numbers : BTreeMap (Vec ℤ Global) ℕ) → IsEmpty numbers → AreNumbered [] numbers
none_numbered numbers empty = record {
  has = λ q n found. absurd (none-some n (sym (ap (lookup (is_at (code_cmp q))) empty) ∙ found));
  all = λ q n one at is. absurd (none-some one at);
}

among : (list : List One) (n : ℕ) (one : One) → slice_get list n ≡ Some one → Contains list one
among list n one at = (n, slice_get_within list n one at, get_or_from_slice_get list n one one at)

pub at_place : (list : List One) (one : One) → (has : Contains list one) → slice_get list has.0 ≡ Some one
at_place list one has = slice_get-get_or list has.0 one has.1 ∙ ap (λ (x : One). Some x) has.2

module _ (list : List One) (numbers : BTreeMap (Vec ℤ Global) ℕ) (are : AreNumbered list numbers) (q : Vec ℤ Global) (one : One) (is : q.items ≡ code_of one) where
  -- what a look-up finds is the number
  pub number_found : (o : Option ℕ) → get code_cmp numbers q ≡ o → IsNumberOf list one o
  number_found None found = λ has.
      none-some has.0 (sym found ∙ are.all q has.0 one (at_place list one has) (sym is))
  number_found (Some n) found =
      let there : HasCodeAt list n q.items = are.has q n found in
      there.at ∙ ap (λ (x : One). Some x) (codes_apart there.one one (there.is ∙ is))

front_at : (list : List One) (one other : One) (n : ℕ) → slice_get list n ≡ Some other → slice_get (list ++ one ∷ []) n ≡ Some other
front_at [] one other n at = absurd (none-some other at)
front_at (x ∷ list) one other zero at = at
front_at (x ∷ list) one other (suc n) at = front_at list one other n at

end_at : (list : List One) (one : One) → slice_get (list ++ one ∷ []) (length list) ≡ Some one
end_at [] one = refl
end_at (x ∷ list) one = end_at list one

-- what stands in a longer list stood there, or is its end
data IsFrontOrEnd (list : List One) (one : One) (n : ℕ) (other : One) : Type 0 where
  front : slice_get list n ≡ Some other → IsFrontOrEnd list one n other
  end : n ≡ length list → one ≡ other → IsFrontOrEnd list one n other

front_or_end : (list : List One) (one other : One) (n : ℕ) → slice_get (list ++ one ∷ []) n ≡ Some other → IsFrontOrEnd list one n other
front_or_end [] one other zero at = end refl (same_Some one other at)
front_or_end [] one other (suc n) at = absurd (none-some other at)
front_or_end (x ∷ list) one other zero at = front at
front_or_end (x ∷ list) one other (suc n) at = elim (front_or_end list one other n at) [
  | front there ↦ front there
  | end last is ↦ end (ap suc last) is
]

-- a new one at the end, with its number
module _ (list : List One) (old new : BTreeMap (Vec ℤ Global) ℕ) (are : AreNumbered list old) (q : Vec ℤ Global) (one : One) (is : q.items ≡ code_of one)
    (fresh : get code_cmp old q ≡ None)
    (put : (p : Vec ℤ Global) → get code_cmp new p ≡ cond (is_eq (code_cmp q p)) (Some (length list)) (get code_cmp old p)) where
  old_there : (p : Vec ℤ Global) → p.items ≡ q.items → get code_cmp old p ≡ get code_cmp old q
  old_there p e = ap (λ (items : List ℤ). lookup (λ (y : Vec ℤ Global). is_eq (slice_cmp int_cmp items y.items)) old.entries) e

  pub put_has : (p : Vec ℤ Global) (n : ℕ) → get code_cmp new p ≡ Some n → HasCodeAt (list ++ one ∷ []) n p.items
  put_has p n found = by (is_eq (code_cmp q p)) refl (sym (put p) ∙ found)
    where
      by : (b : Bool) → is_eq (code_cmp q p) ≡ b → cond b (Some (length list)) (get code_cmp old p) ≡ Some n → HasCodeAt (list ++ one ∷ []) n p.items
      by true e there = record {
        one = one;
        at = ap (slice_get (list ++ one ∷ [])) (sym (same_Some (length list) n there)) ∙ end_at list one;
        is = sym is ∙ exact_codes q.items p.items (eq_is (code_cmp q p) e);
      }
      by false e there =
          let had : HasCodeAt list n p.items = are.has p n there in
          record { one = had.one; at = front_at list one had.one n had.at; is = had.is }

  same_cmp : (p : Vec ℤ Global) → q.items ≡ p.items → is_eq (code_cmp q p) ≡ true
  same_cmp p e = ap is_eq (ap (λ (items : List ℤ). slice_cmp int_cmp q.items items) (sym e) ∙ same_codes q.items)

  pub put_all : (p : Vec ℤ Global) (n : ℕ) (other : One) → slice_get (list ++ one ∷ []) n ≡ Some other → code_of other ≡ p.items → get code_cmp new p ≡ Some n
  put_all p n other at same = elim (front_or_end list one other n at) [
    | front there ↦ before there (is_eq (code_cmp q p)) refl
    | end last e ↦
        put p
        ∙ (ap (λ (b : Bool). cond b (Some (length list)) (get code_cmp old p)) (same_cmp p (is ∙ (ap code_of e ∙ same)))
        ∙ ap (λ (k : ℕ). Some k) (sym last))
  ] where
    before : slice_get list n ≡ Some other → (b : Bool) → is_eq (code_cmp q p) ≡ b → get code_cmp new p ≡ Some n
    before there true e =
        absurd (none-some n (sym fresh ∙ (sym (old_there p (sym (exact_codes q.items p.items (eq_is (code_cmp q p) e)))) ∙ are.all p n other there same)))
    before there false e =
        put p ∙ (ap (λ (b : Bool). cond b (Some (length list)) (get code_cmp old p)) e ∙ are.all p n other there same)

  pub put_numbered : AreNumbered (list ++ one ∷ []) new
  put_numbered = record { has = put_has; all = put_all }
