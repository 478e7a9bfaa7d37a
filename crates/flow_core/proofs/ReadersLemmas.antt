-- The lists of readers, over plain entries.
use Rattle.std.proofs.Common.{◌≡◌, ℕ, Bool, true, false, cond, List, [], ◌∷◌, ◌++◌, Option, Some, None, Result, Ok, Err, Ordering, IsSome, OnErr, OnOk, Vec}
use Rattle.std.proofs.Common.{Global, refl, sym, ap, ◌∙◌, subst}
use Rattle.std.proofs.lemmas.Cmp.{eq_by_cmp_equiv}
use Rattle.std.specs.Cmp.{IsTotalOrder, IsEquivalence}
use Rattle.std.specs.Option.{option_map}
use Rattle.std.specs.Ordering.{is_eq, eq_by_cmp}
use Rattle.std.specs.Map.{lookup, set_value}
use Rattle.std.specs.BTreeMap.{is_at}
use Rattle.flow_system.specs.Facts.{fact_at}
use Rattle.flow_core.specs.Readers.{lists_of, list_or_none, readers_of, AddsReader, SameReaders}
use Rattle.flow_core.proofs.QueueLemmas.{alike, at_set, some_when}

-- what always holds holds on a refusal
pub on_err_always : {T E P : Type 0} (r : Result T E) → P → OnErr r P
on_err_always (Ok x) p = tt
on_err_always (Err e) p = p

pub on_ok_always : {T E P : Type 0} (r : Result T E) → P → OnOk r P
on_ok_always (Ok x) p = p
on_ok_always (Err e) p = tt

-- what the list at a key holds, if there is one
abbrev held : {K : Type 0} → Option (Vec K Global) → List K
held None = []
held (Some list) = list.items

module _ {K : Type 0} (cmp : K → K → Ordering) where
  readers-is : (es : List (K × Vec K Global)) (q : K) → readers_of cmp (lists_of es) q ≡ held (fact_at cmp es q)
  readers-is [] q = refl
  readers-is (e ∷ es) q = readers_cases (is_eq (cmp q e.0)) (readers-is es q)
    where
      readers_cases : (b : Bool) → readers_of cmp (lists_of es) q ≡ held (fact_at cmp es q)
          → list_or_none (cond b (Some e.1.items) (fact_at cmp (lists_of es) q)) ≡ held (cond b (Some e.1) (fact_at cmp es q))
      readers_cases true rest = refl
      readers_cases false rest = rest

  -- a key without a list has no readers
  pub readers_none : (es : List (K × Vec K Global)) (q : K) → fact_at cmp es q ≡ None → readers_of cmp (lists_of es) q ≡ []
  readers_none es q h = readers-is es q ∙ ap held h

  -- the readers of a key are those of its list
  pub readers_some : (es : List (K × Vec K Global)) (q : K) (list : Vec K Global) → Some list ≡ fact_at cmp es q → readers_of cmp (lists_of es) q ≡ list.items
  readers_some es q list h = readers-is es q ∙ ap held (sym h)

  module _ (total : IsTotalOrder cmp) (es es' : List (K × Vec K Global)) (k : K) (w : Vec K Global)
      (written : (q : K) → fact_at cmp es' q ≡ cond (is_eq (cmp k q)) (Some w) (fact_at cmp es q)) where
    readers_written : (q : K) → readers_of cmp (lists_of es') q ≡ cond (is_eq (cmp k q)) w.items (readers_of cmp (lists_of es) q)
    readers_written q = readers-is es' q ∙ ap held (written q) ∙ written_cases (is_eq (cmp k q))
      where
        written_cases : (b : Bool) → held (cond b (Some w) (fact_at cmp es q)) ≡ cond b w.items (readers_of cmp (lists_of es) q)
        written_cases true = refl
        written_cases false = sym (readers-is es q)

    -- a list with one reader more adds it
    pub adds_reader : (reader : K) → w.items ≡ readers_of cmp (lists_of es) k ++ reader ∷ [] → AddsReader cmp (lists_of es) (lists_of es') k reader
    adds_reader reader h q = readers_written q ∙ ap (λ list. cond (is_eq (cmp k q)) list (readers_of cmp (lists_of es) q)) h

    -- a list with the same readers changes none
    pub same_readers : w.items ≡ readers_of cmp (lists_of es) k → SameReaders cmp (lists_of es) (lists_of es')
    same_readers h q = readers_written q ∙ same_cases (is_eq (cmp k q)) refl
      where
        same_cases : (b : Bool) → is_eq (cmp k q) ≡ b → cond b w.items (readers_of cmp (lists_of es) q) ≡ readers_of cmp (lists_of es) q
        same_cases true e = h ∙ readers-is es k ∙ ap held (sym (alike cmp total es k q e)) ∙ sym (readers-is es q)
        same_cases false e = refl

  -- a list that is changed is found at its key, and the others as they were
  pub set_written : (total : IsTotalOrder cmp) (es es' : List (K × Vec K Global)) (k : K) (list w : Vec K Global) → Some list ≡ fact_at cmp es k
      → es' ≡ set_value (is_at (cmp k)) es w → (q : K) → fact_at cmp es' q ≡ cond (is_eq (cmp k q)) (Some w) (fact_at cmp es q)
  set_written total es es' k list w h is q = subst (λ entries. fact_at cmp entries q ≡ cond (is_eq (cmp k q)) (Some w) (fact_at cmp es q)) (sym is)
      (at_set cmp total es k w (some_when _ list (sym h)) q)
