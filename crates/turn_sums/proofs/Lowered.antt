-- Labels that are lowered to a sum, one node after the other.
use Rattle.std.proofs.Common.{◌≡◌, ◌==◌, ◌&&◌, ◌||◌, ℕ, ◌+◌, ◌<◌, ◌≤◌, Bool, true, false, not, cond, List, length, take, get_or}
use Rattle.std.proofs.Common.{Option, Some, None, refl, sym, ap, ◌∙◌, arith}
use Rattle.std.specs.Prelude.{min}
use Rattle.bt_base.specs.Graph.{has}
use Rattle.turn_sums.specs.Label.{least_of, lowered}
use Rattle.turn_sums.proofs.Lists.{has_take_more, has_take_all, same_number}

least_again : (o : Option ℕ) (sum : ℕ) → least_of (least_of o sum) sum ≡ least_of o sum
least_again None sum = ap (λ (x : ℕ). Some x) (let e : min sum sum ≡ sum = omega arith in e)
least_again (Some old) sum = ap (λ (x : ℕ). Some x) (let e : min (min old sum) sum ≡ min old sum = omega arith in e)

-- a node more, by tests: whether it was among the first ones, whether it is the next, whether it is the head
by_tests : (in_first is_next is_head : Bool) (sum : ℕ) (old : Option ℕ) → (is_next ≡ true → is_head ≡ false)
    → cond is_next (least_of (cond (in_first && not is_head) (least_of old sum) old) sum) (cond (in_first && not is_head) (least_of old sum) old)
    ≡ cond ((in_first || is_next) && not is_head) (least_of old sum) old
by_tests true true true sum old h = absurd (let e : true ≡ false = h refl in cc)
by_tests true true false sum old h = least_again old sum
by_tests true false true sum old h = refl
by_tests true false false sum old h = refl
by_tests false true true sum old h = absurd (let e : true ≡ false = h refl in cc)
by_tests false true false sum old h = refl
by_tests false false true sum old h = refl
by_tests false false false sum old h = refl

skip_tests : (in_first is_next is_head : Bool) (sum : ℕ) (old : Option ℕ) → (is_next ≡ true → is_head ≡ true)
    → cond (in_first && not is_head) (least_of old sum) old ≡ cond ((in_first || is_next) && not is_head) (least_of old sum) old
skip_tests true is_next is_head sum old h = refl
skip_tests false true true sum old h = refl
skip_tests false true false sum old h = absurd (let e : false ≡ true = h refl in cc)
skip_tests false false is_head sum old h = refl

next_head : (n x head : ℕ) (b : Bool) → (x == head) ≡ b → (n == x) ≡ true → (n == head) ≡ b
next_head n x head b e s = let same : n ≡ x = same_number n x s in ap (λ (y : ℕ). y == head) same ∙ e

by_next : (n x head sum : ℕ) (b : Bool) (cur new : Option ℕ) → (x == head) ≡ b → new ≡ cond ((n == x) && not (x == head)) (least_of cur sum) cur
    → new ≡ cond ((n == x) && not b) (least_of cur sum) cur
by_next n x head sum b cur new e s = s ∙ ap (λ (z : Bool). cond ((n == x) && not z) (least_of cur sum) cur) e

and_not_false : (a : Bool) → (a && not false) ≡ a
and_not_false true = refl
and_not_false false = refl

and_not_true : (a : Bool) → (a && not true) ≡ false
and_not_true true = refl
and_not_true false = refl

more_by : (nodes : List ℕ) (head sum i n : ℕ) (b : Bool) (old cur new : Option ℕ) → i < length nodes → (get_or nodes i 0 == head) ≡ b
    → cur ≡ lowered (take i nodes) head sum n old → new ≡ cond ((n == get_or nodes i 0) && not b) (least_of cur sum) cur
    → new ≡ lowered (take (i + 1) nodes) head sum n old
more_by nodes head sum i n false old cur new l other before step =
    step ∙ ap (λ (z : Bool). cond z (least_of cur sum) cur) (and_not_false (n == get_or nodes i 0))
    ∙ ap (λ (x : Option ℕ). cond (n == get_or nodes i 0) (least_of x sum) x) before
    ∙ by_tests (has (take i nodes) n) (n == get_or nodes i 0) (n == head) sum old (next_head n (get_or nodes i 0) head false other)
    ∙ ap (λ (b : Bool). cond (b && not (n == head)) (least_of old sum) old) (sym (has_take_more nodes i n l))
more_by nodes head sum i n true old cur new l same before step =
    step ∙ ap (λ (z : Bool). cond z (least_of cur sum) cur) (and_not_true (n == get_or nodes i 0))
    ∙ before ∙ skip_tests (has (take i nodes) n) (n == get_or nodes i 0) (n == head) sum old (next_head n (get_or nodes i 0) head true same)
    ∙ ap (λ (b : Bool). cond (b && not (n == head)) (least_of old sum) old) (sym (has_take_more nodes i n l))

-- the next node's label is lowered, unless it is the head
pub lowered_more : (nodes : List ℕ) (head sum i n : ℕ) (old cur new : Option ℕ) → i < length nodes
    → cur ≡ lowered (take i nodes) head sum n old
    → new ≡ cond ((n == get_or nodes i 0) && not (get_or nodes i 0 == head)) (least_of cur sum) cur → new ≡ lowered (take (i + 1) nodes) head sum n old
lowered_more nodes head sum i n old cur new l before step =
    more_by nodes head sum i n (get_or nodes i 0 == head) old cur new l refl before step

-- behind the last successor nothing more is lowered
pub lowered_all : (nodes : List ℕ) (head sum i n : ℕ) (old : Option ℕ) → length nodes ≤ i → lowered (take i nodes) head sum n old ≡ lowered nodes head sum n old
lowered_all nodes head sum i n old l = ap (λ (b : Bool). cond (b && not (n == head)) (least_of old sum) old) (has_take_all nodes i n l)
