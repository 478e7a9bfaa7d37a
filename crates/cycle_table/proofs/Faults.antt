-- The first fault of a list of lines, and what lines without a fault give.
use Rattle.std.proofs.Common.{◌≡◌, ◌≢◌, ℕ, zero, suc, ◌+◌, ◌<◌, ◌≤◌, inl, inr, Bool, false, List, [], ◌∷◌, ◌++◌, length, take, get_or, Option, Some}
use Rattle.std.proofs.Common.{None, Result, Ok, Err, refl, sym, ap, subst, ◌∙◌, arith, eqb, append_assoc, MatchOption}
use Rattle.std.specs.Prelude.{slice_get, find}
use Rattle.std.proofs.lemmas.Bool.{cases_Bool, cases_eq, cases_lt, eqb-false, eq-eqb, ne_eqb, cases_order}
use Rattle.std.proofs.lemmas.List.{append-nil, get_or_past}
use Rattle.std.proofs.lemmas.List.Sums.{sum_by-append}
use Rattle.cycle_table.proofs.Tables.{new_cost, length-costs_of, costs_of_at, cost_in_more}
use Rattle.cycle_table.proofs.Versions.{same_class, inside_all, as_many, stands_in, says_within}
use Rattle.cycle_table.specs.Class.{classes_of, place_of, count_of, cost_at, first_free, version_of}
use Rattle.cycle_table.specs.Law.{fault_from, fault_at, IsFirstFault, GivesCost, IsWhole}
use Rattle.cycle_table.specs.Row.{Row, says}
use Rattle.cycle_table.specs.Table.{cost_for, cost_in, costs_of, fault_said, fault_of, first_of, first_fault, complete, unless, body_of}
use Rattle.cycle_table.specs.declared.classes.Version.{Version}
use Rattle.cycle_table.specs.declared.classes.Version.TheVariants.{One, Two}
use Rattle.cycle_table.specs.declared.refusal.CycleRefusal.{CycleRefusal}
use Rattle.cycle_table.specs.declared.refusal.Why.{Why}
use Rattle.sparc_decode.specs.declared.cost_class.CostClass.{CostClass}
use Rattle.sparc_decode.specs.declared.cost_class.CostClass.TheVariants.{Loaduse, Unmodelled}

-- where nothing is found, nothing passes
none_found : (p : CostClass → Bool) (xs : List CostClass) (k : ℕ) (d : CostClass) → find p xs ≡ None → k < length xs → p (get_or xs k d) ≡ false
none_found p [] k d none within = absurd (omega arith)
none_found p (x ∷ xs) zero d none within = elim (cases_Bool (p x)) [
  | inl passes ↦ (let e = rw passes at none in cc)
  | inr fails ↦ fails
]
none_found p (x ∷ xs) (suc k) d none within = elim (cases_Bool (p x)) [
  | inl passes ↦ (let e = rw passes at none in cc)
  | inr fails ↦ none_found p xs k d (rw fails at none) (omega arith)
]

-- the first lines have what all have there
get_take : (rows : List Row) (k n : ℕ) → k < n → slice_get (take n rows) k ≡ slice_get rows k
get_take rows k zero before = absurd (omega arith)
get_take [] k (suc n) before = refl
get_take (row ∷ rows) zero (suc n) before = refl
get_take (row ∷ rows) (suc k) (suc n) before = get_take rows k n (omega arith)

module _ (version : Version) where
  -- what is wrong with the line at a place of the rest, after the earlier lines and those before it
  abbrev after : List Row → List Row → ℕ → Option CycleRefusal
  after earlier rest k = fault_from version (earlier ++ take k rest) (slice_get rest k)

  -- the first fault of the rest, after the earlier lines
  record IsFirst (earlier rest : List Row) (fault : CycleRefusal) : Type 0 where
    pub place : ℕ
    pub bad : after earlier rest place ≡ Some fault
    pub fine : (k : ℕ) → k < place → after earlier rest k ≡ None

  abbrev Firsts : List Row → List Row → Option CycleRefusal → Type 0
  Firsts earlier rest found = MatchOption found ((k : ℕ) → after earlier rest k ≡ None) (λ fault. IsFirst earlier rest fault)

  -- one line further on
  after_head : (earlier : List Row) (row : Row) (rest : List Row) → after earlier (row ∷ rest) zero ≡ fault_of version earlier row
  after_head earlier row rest = ap (λ (rows : List Row). fault_of version rows row) (append-nil earlier)

  after_next : (earlier : List Row) (row : Row) (rest : List Row) (k : ℕ) → after earlier (row ∷ rest) (suc k) ≡ after (earlier ++ row ∷ []) rest k
  after_next earlier row rest k = ap (λ (rows : List Row). fault_from version rows (slice_get rest k)) (sym (append_assoc earlier (row ∷ []) (take k rest)))

  firsts_here : (earlier : List Row) (row : Row) (rest : List Row) (fault : CycleRefusal) → fault_of version earlier row ≡ Some fault
      → Firsts earlier (row ∷ rest) (Some fault)
  firsts_here earlier row rest fault bad = record { place = 0; bad = after_head earlier row rest ∙ bad; fine = λ k before. absurd (omega arith) }

  firsts_later : (earlier : List Row) (row : Row) (rest : List Row) (found : Option CycleRefusal) → fault_of version earlier row ≡ None
      → Firsts (earlier ++ row ∷ []) rest found → Firsts earlier (row ∷ rest) found
  firsts_later earlier row rest None fine none = at where
    at : (k : ℕ) → after earlier (row ∷ rest) k ≡ None
    at zero = after_head earlier row rest ∙ fine
    at (suc k) = after_next earlier row rest k ∙ none k
  firsts_later earlier row rest (Some fault) fine first =
      record { place = suc first.place; bad = after_next earlier row rest first.place ∙ first.bad; fine = at } where
        at : (k : ℕ) → k < suc first.place → after earlier (row ∷ rest) k ≡ None
        at zero before = after_head earlier row rest ∙ fine
        at (suc k) before = after_next earlier row rest k ∙ first.fine k (omega arith)

  firsts : (earlier rest : List Row) → Firsts earlier rest (first_fault version earlier rest)
  firsts earlier [] = λ k. refl
  firsts earlier (row ∷ rest) = cases (fault_of version earlier row) refl (firsts (earlier ++ row ∷ []) rest) where
    cases : (found : Option CycleRefusal) → fault_of version earlier row ≡ found
        → Firsts (earlier ++ row ∷ []) rest (first_fault version (earlier ++ row ∷ []) rest)
        → Firsts earlier (row ∷ rest) (first_of found (first_fault version (earlier ++ row ∷ []) rest))
    cases None fine later = firsts_later earlier row rest (first_fault version (earlier ++ row ∷ []) rest) fine later
    cases (Some fault) bad later = firsts_here earlier row rest fault bad

  -- the first fault of a body is at the first line that has one
  pub faults_first : (body : List Row)
      → MatchOption (first_fault version [] body) ((k : ℕ) → fault_at version body k ≡ None) (λ fault. IsFirstFault version body fault)
  faults_first body = of (first_fault version [] body) (firsts [] body) where
    of : (found : Option CycleRefusal) → Firsts [] body found
        → MatchOption found ((k : ℕ) → fault_at version body k ≡ None) (λ fault. IsFirstFault version body fault)
    of None none = none
    of (Some fault) first = record { place = first.place; bad = first.bad; fine = first.fine }

  -- no fault of a line and none of those behind it
  no_fault : (found later : Option CycleRefusal) → first_of found later ≡ None → (found ≡ None) × (later ≡ None)
  no_fault None later none = (refl, none)
  no_fault (Some fault) later none = cc

  -- a line that gives a place a cost
  record Giver (said : Result (CostClass × ℕ) Why) (place : ℕ) : Type 0 where
    pub class : CostClass
    pub cost : ℕ
    pub given : said ≡ Ok (class, cost)
    pub at : place_of class ≡ place
    pub is : cost_for said place ≡ cost

  giver : (said : Result (CostClass × ℕ) Why) (place : ℕ) → cost_for said place ≢ 0 → Giver said place
  giver (Err why) place some = absurd (some refl)
  giver (Ok (class, cost)) place some = elim (cases_eq (place_of class) place) [
    | inl same ↦ record { class = class; cost = cost; given = refl; at = same; is = rw (eq-eqb (place_of class) place same) refl }
    | inr other ↦ absurd (some (rw (ne_eqb (place_of class) place other) refl))
  ]

  abbrev fault_of_said : List Row → ℕ → Result (CostClass × ℕ) Why → Option CycleRefusal
  fault_of_said earlier number said = fault_said (costs_of version earlier) number said

  abbrev ok_of : CostClass → ℕ → Result (CostClass × ℕ) Why
  ok_of class cost = Ok (class, cost)

  -- where a line without a fault gives a place a cost, no earlier one does
  unseen : (earlier : List Row) (row : Row) (class : CostClass) (cost : ℕ) → place_of class < count_of version → fault_of version earlier row ≡ None
      → says version row.words ≡ Ok (class, cost) → (cost ≢ 0) × (cost_in version earlier (place_of class) ≡ 0)
  unseen earlier row class cost within fine said =
      let new = new_cost (costs_of version earlier) row.number class cost
      (ap (λ (s : Result (CostClass × ℕ) Why). fault_of_said earlier row.number s) (sym said) ∙ fine) in
      (new.some, sym (costs_of_at version earlier (place_of class) (inside_all version (place_of class) within)) ∙ new.none)

  -- a line in front
  cost_in_head : (row : Row) (rest : List Row) (place : ℕ)
      → cost_in version (row ∷ rest) place ≡ cost_for (says version row.words) place + cost_in version rest place
  cost_in_head row rest place = sum_by-append (λ (r : Row). cost_for (says version r.words) place) (row ∷ []) rest ∙ (omega arith)

  -- lines give nothing to a class that the version hasn't
  says_nothing : (words : List (List ℕ)) (place : ℕ) → count_of version ≤ place → cost_for (says version words) place ≡ 0
  says_nothing words place beyond = go (says version words) refl where
    go : (said : Result (CostClass × ℕ) Why) → says version words ≡ said → cost_for said place ≡ 0
    go (Err why) is = refl
    go (Ok (class, cost)) is = rw (ne_eqb (place_of class) place (λ same. absurd (let within = says_within version words class cost is in omega arith))) refl

  nothing_in : (rows : List Row) (place : ℕ) → count_of version ≤ place → cost_in version rows place ≡ 0
  nothing_in [] place beyond = refl
  nothing_in (row ∷ rows) place beyond =
      let head = cost_in_head row rows place in
      let own = says_nothing row.words place beyond in
      let rest = nothing_in rows place beyond in
      omega arith

  -- and so it costs 0
  pub none_beyond : (rows : List Row) (class : CostClass) → count_of version ≤ place_of class → cost_at (costs_of version rows) class ≡ 0
  none_beyond rows class beyond = elim (cases_lt (place_of class) 30) [
    | inl inside ↦ costs_of_at version rows (place_of class) inside ∙ nothing_in rows (place_of class) beyond
    | inr past ↦ get_or_past (costs_of version rows) (place_of class) 0 (subst (λ (n : ℕ). n ≤ place_of class) (sym (length-costs_of version rows)) past)
  ]

  -- what earlier lines give isn't given again
  not_again : (earlier rest : List Row) (place : ℕ) → place < count_of version → first_fault version earlier rest ≡ None
      → cost_in version earlier place ≢ 0 → cost_in version rest place ≡ 0
  not_again earlier [] place within fine some = refl
  not_again earlier (row ∷ rest) place within fine some =
      let parts = no_fault (fault_of version earlier row) (first_fault version (earlier ++ row ∷ []) rest) fine in
      let more = cost_in_more version earlier row place in
      let head = cost_in_head row rest place in
      elim (cases_eq (cost_for (says version row.words) place) 0) [
        | inl none ↦
            let later : cost_in version rest place ≡ 0 = not_again (earlier ++ row ∷ []) rest place within parts.1 (λ z. some (omega arith)) in
            omega arith
        | inr gives ↦
            let g = giver (says version row.words) place gives in
            let before = unseen earlier row g.class g.cost (subst (λ (n : ℕ). n < count_of version) (sym g.at) within) parts.0 g.given in
            absurd (some (ap (cost_in version earlier) (sym g.at) ∙ before.1))
      ]

  -- the one line that gives a place its cost
  record GivesAt (rest : List Row) (place total : ℕ) : Type 0 where
    pub line : ℕ
    pub row : Row
    pub stands : slice_get rest line ≡ Some row
    pub class : CostClass
    pub given : says version row.words ≡ Ok (class, total)
    pub at : place_of class ≡ place

  given_once : (earlier rest : List Row) (place : ℕ) → place < count_of version → first_fault version earlier rest ≡ None
      → cost_in version earlier place ≡ 0 → cost_in version rest place ≢ 0 → GivesAt rest place (cost_in version rest place)
  given_once earlier [] place within fine none some = absurd (some refl)
  given_once earlier (row ∷ rest) place within fine none some =
      let parts = no_fault (fault_of version earlier row) (first_fault version (earlier ++ row ∷ []) rest) fine in
      let more = cost_in_more version earlier row place in
      let head = cost_in_head row rest place in
      elim (cases_eq (cost_for (says version row.words) place) 0) [
        | inl nothing ↦
            let same : cost_in version rest place ≡ cost_in version (row ∷ rest) place = omega arith in
            let later = given_once (earlier ++ row ∷ []) rest place within parts.1 (omega arith) (λ z. some (sym same ∙ z)) in
            record {
              line = suc later.line;
              row = later.row;
              stands = later.stands;
              class = later.class;
              given = later.given ∙ ap (λ (n : ℕ). ok_of later.class n) same;
              at = later.at;
            }
        | inr gives ↦
            let g = giver (says version row.words) place gives in
            let after_all : cost_in version rest place ≡ 0 = not_again (earlier ++ row ∷ []) rest place within parts.1 (λ z. gives (omega arith)) in
            let is = g.is in
            let total : g.cost ≡ cost_in version (row ∷ rest) place = omega arith in
            record { line = 0; row = row; stands = refl; class = g.class; given = g.given ∙ ap (λ (n : ℕ). ok_of g.class n) total; at = g.at }
      ]

  -- where no class is without a cost, each of the version has one
  pub none_free : (costs : List ℕ) (class : CostClass) → first_free version costs ≡ None → place_of class < count_of version → cost_at costs class ≢ 0
  unfolding first_free
  none_free costs class none within =
      let fails : eqb (cost_at costs (get_or (classes_of version) (place_of class) Unmodelled)) 0 ≡ false =
      none_found (λ c. eqb (cost_at costs c) 0) (classes_of version) (place_of class) Unmodelled none
      (subst (λ (n : ℕ). place_of class < n) (sym (as_many version)) within) in
      eqb-false (cost_at costs class) 0 (subst (λ (c : CostClass). eqb (cost_at costs c) 0 ≡ false) (stands_in version class within) fails)

  -- where no class is missing, each costs at least 1
  pub none_missing : (costs : List ℕ) (class : CostClass) → first_free version costs ≡ None → place_of class < count_of version → 1 ≤ cost_at costs class
  none_missing costs class none within =
      let some = none_free costs class none within in
      elim (cases_eq (cost_at costs class) 0) [
        | inl free ↦ absurd (some free)
        | inr paid ↦ omega arith
      ]

  -- where each class of a version costs something and no other does, the costs tell the version
  pub tells_version : (costs : List ℕ) → ((class : CostClass) → place_of class < count_of version → cost_at costs class ≢ 0)
      → ((class : CostClass) → count_of version ≤ place_of class → cost_at costs class ≡ 0) → version_of costs ≡ version
  tells_version costs some none = by version some none where
    by : (v : Version) → ((class : CostClass) → place_of class < count_of v → cost_at costs class ≢ 0)
        → ((class : CostClass) → count_of v ≤ place_of class → cost_at costs class ≡ 0) → version_of costs ≡ v
    by One each other = rw (eq-eqb (cost_at costs Loaduse) 0 (other Loaduse (omega arith))) refl
    by Two each other = rw (ne_eqb (cost_at costs Loaduse) 0 (each Loaduse (omega arith))) refl

  -- what a line gives is part of what all give
  part_of : (rows : List Row) (k : ℕ) (row : Row) (place : ℕ) → slice_get rows k ≡ Some row
      → cost_for (says version row.words) place ≤ cost_in version rows place
  part_of [] k row place stands = cc
  part_of (first ∷ rows) zero row place stands =
      let same : first ≡ row = cc in
      let is : cost_for (says version first.words) place ≡ cost_for (says version row.words) place =
      ap (λ (r : Row). cost_for (says version r.words) place) same in
      let head = cost_in_head first rows place in
      omega arith
  part_of (first ∷ rows) (suc k) row place stands =
      let rest = part_of rows k row place stands in
      let head = cost_in_head first rows place in
      omega arith

  -- of two lines of a class the later is refused
  twice : (body : List Row) (class : CostClass) (cost other : ℕ) → ((k : ℕ) → fault_at version body k ≡ None) → place_of class < count_of version
      → (one : GivesCost version body class cost) (two : GivesCost version body class other) → one.place < two.place → ⊥
  twice body class cost other fine within one two before =
      let first : fault_of version (take one.place body) one.row ≡ None =
      subst (λ (r : Option Row). fault_from version (take one.place body) r ≡ None) one.stands (fine one.place) in
      let second : fault_of version (take two.place body) two.row ≡ None =
      subst (λ (r : Option Row). fault_from version (take two.place body) r ≡ None) two.stands (fine two.place) in
      let some = unseen (take one.place body) one.row class cost within first one.given in
      let none = unseen (take two.place body) two.row class other within second two.given in
      let part : cost_for (says version one.row.words) (place_of class) ≤ cost_in version (take two.place body) (place_of class) =
      part_of (take two.place body) one.place one.row (place_of class) (get_take body one.place two.place before ∙ one.stands) in
      let is : cost_for (says version one.row.words) (place_of class) ≡ cost =
      ap (λ (s : Result (CostClass × ℕ) Why). cost_for s (place_of class)) one.given ∙ rw (eq-eqb (place_of class) (place_of class) refl) refl in
      some.0 (let z = none.1 in omega arith)

  -- what lines are that are a table
  record IsTable (body : List Row) (costs : List ℕ) : Type 0 where
    pub fine : first_fault version [] body ≡ None
    pub free : first_free version (costs_of version body) ≡ None
    pub given : costs ≡ costs_of version body

  is_table : (body : List Row) (costs : List ℕ) → body_of version body ≡ Ok costs → IsTable body costs
  is_table body costs = cases (first_fault version [] body) refl (first_free version (costs_of version body)) refl where
    cases : (found : Option CycleRefusal) → first_fault version [] body ≡ found → (free : Option CostClass)
        → first_free version (costs_of version body) ≡ free → unless found (complete free (costs_of version body)) ≡ Ok costs → IsTable body costs
    cases None fine None free is = record { fine = fine; free = free; given = (let e = is in cc) }
    cases None fine (Some class) free is = cc
    cases (Some fault) fine free none is = cc

  -- a body that is accepted gives each class of the version its cost once
  pub tables_whole : (body : List Row) (costs : List ℕ) → body_of version body ≡ Ok costs → IsWhole version body costs
  tables_whole body costs is = record { each = each; some = some; once = once; none = none; told = tells_version costs some none } where
    table : IsTable body costs
    table = is_table body costs is

    total : (class : CostClass) → place_of class < count_of version → cost_at costs class ≡ cost_in version body (place_of class)
    total class within =
        ap (λ (c : List ℕ). cost_at c class) table.given ∙ costs_of_at version body (place_of class) (inside_all version (place_of class) within)

    some : (class : CostClass) → place_of class < count_of version → cost_at costs class ≢ 0
    some class within z = none_free (costs_of version body) class table.free within (ap (λ (c : List ℕ). cost_at c class) (sym table.given) ∙ z)

    each : (class : CostClass) → place_of class < count_of version → GivesCost version body class (cost_at costs class)
    each class within =
        let gives = given_once [] body (place_of class) within table.fine refl (λ z. some class within (total class within ∙ z)) in
        record {
          place = gives.line;
          row = gives.row;
          stands = gives.stands;
          given = gives.given ∙ (λ i. ok_of (same_class gives.class class gives.at i) (sym (total class within) i));
        }

    none : (class : CostClass) → count_of version ≤ place_of class → cost_at costs class ≡ 0
    none class beyond = ap (λ (c : List ℕ). cost_at c class) table.given ∙ none_beyond body class beyond

    once : (class : CostClass) (cost other : ℕ) → place_of class < count_of version
        → (one : GivesCost version body class cost) (two : GivesCost version body class other) → one.place ≡ two.place
    once class cost other within one two =
        let fine : (k : ℕ) → fault_at version body k ≡ None =
        subst (λ (f : Option CycleRefusal). MatchOption f ((k : ℕ) → fault_at version body k ≡ None) (λ fault. IsFirstFault version body fault)) table.fine
        (faults_first body) in
        elim (cases_order one.place two.place) [
          | inl same ↦ same
          | inr (inl before) ↦ absurd (twice body class cost other fine within one two before)
          | inr (inr behind) ↦ absurd (twice body class other cost fine within two one behind)
        ]
