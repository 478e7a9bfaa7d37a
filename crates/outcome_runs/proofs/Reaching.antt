-- Whether calls of a list lead from one subprogram to another is decided by going through the list.
use Rattle.std.proofs.Common.{◌≡◌, ◌↔◌, ◌⊎◌, ℕ, zero, suc, ◌+◌, ◌<◌, Bool, true, false, List, [], ◌∷◌, ◌++◌, length, get_or, map, Contains, inl, inr, refl, sym, ap, subst, ◌∙◌, arith}
use Rattle.std.specs.Prelude.{◌==◌, ◌&&◌, ◌||◌, if◌then◌else◌}
use Rattle.std.proofs.lemmas.Bool.{and_from, and_parts, eq-eqb, eqb-true, false≢true}
use Rattle.bt_base.specs.Graph.{has}
use Rattle.graph_laws.proofs.Nests.{reach-trans, step_reaches}
use Rattle.graph_laws.specs.Nest.{Reaches, SamePart}
use Rattle.graph_laws.specs.Walk.{IsWalk}
use Rattle.graph_view.specs.Need.{callee_of, calls_of}
use Rattle.graph_view.specs.Subs.{calling_sub, of_one}
use Rattle.graph_view.specs.declared.lists.Calling.{Calling}

-- by calls of the list, one after the other: before the first one, then by it, then behind it
abbrev pub Leads : List Calling → ℕ → ℕ → Type 0
Leads [] a b = ⊥
Leads (c ∷ cs) a b = Leads cs a b ⊎ (((a ≡ c.from.sub) ⊎ Leads cs a c.from.sub) × ((c.callee ≡ b) ⊎ Leads cs c.callee b))

leads_on : (cs : List Calling) (a b d : ℕ) → Leads cs a b → Leads cs b d → Leads cs a d
leads_on [] a b d one two = absurd one
leads_on (c ∷ cs) a b d (inl one) (inl two) = inl (leads_on cs a b d one two)
leads_on (c ∷ cs) a b d (inl one) (inr (inl same, behind)) = inr (inr (subst (λ (n : ℕ). Leads cs a n) same one), behind)
leads_on (c ∷ cs) a b d (inl one) (inr (inr before, behind)) = inr (inr (leads_on cs a b c.from.sub one before), behind)
leads_on (c ∷ cs) a b d (inr (before, inl same)) (inl two) = inr (before, inr (subst (λ (n : ℕ). Leads cs n d) (sym same) two))
leads_on (c ∷ cs) a b d (inr (before, inr behind)) (inl two) = inr (before, inr (leads_on cs c.callee b d behind two))
leads_on (c ∷ cs) a b d (inr (before, behind)) (inr (other, last)) = inr (before, last)

decide_either : (P Q : Type 0) → P ⊎ (P → ⊥) → Q ⊎ (Q → ⊥) → (P ⊎ Q) ⊎ ((P ⊎ Q) → ⊥)
decide_either P Q (inl p) q = inl (inl p)
decide_either P Q (inr never_p) (inl q) = inl (inr q)
decide_either P Q (inr never_p) (inr none) = inr never where
  never : P ⊎ Q → ⊥
  never (inl p) = never_p p
  never (inr q) = none q

decide_both : (P Q : Type 0) → P ⊎ (P → ⊥) → Q ⊎ (Q → ⊥) → (P × Q) ⊎ ((P × Q) → ⊥)
decide_both P Q (inl p) (inl q) = inl (p, q)
decide_both P Q (inl p) (inr none) = inr (λ both. none both.1)
decide_both P Q (inr never_p) q = inr (λ both. never_p both.0)

pub decide_same : (a b : ℕ) → (a ≡ b) ⊎ ((a ≡ b) → ⊥)
decide_same a b = by (a == b) refl where
  by : (t : Bool) → (a == b) ≡ t → (a ≡ b) ⊎ ((a ≡ b) → ⊥)
  by true e = inl (eqb-true a b e)
  by false e = inr (λ same. false≢true (sym e ∙ eq-eqb a b same))

pub decide_leads : (cs : List Calling) (a b : ℕ) → Leads cs a b ⊎ (Leads cs a b → ⊥)
decide_leads [] a b = inr (λ none. none)
decide_leads (c ∷ cs) a b =
    decide_either (Leads cs a b) (((a ≡ c.from.sub) ⊎ Leads cs a c.from.sub) × ((c.callee ≡ b) ⊎ Leads cs c.callee b)) (decide_leads cs a b)
    (decide_both ((a ≡ c.from.sub) ⊎ Leads cs a c.from.sub) ((c.callee ≡ b) ⊎ Leads cs c.callee b)
    (decide_either (a ≡ c.from.sub) (Leads cs a c.from.sub) (decide_same a c.from.sub) (decide_leads cs a c.from.sub))
    (decide_either (c.callee ≡ b) (Leads cs c.callee b) (decide_same c.callee b) (decide_leads cs c.callee b)))

-- each of the calls is an edge
abbrev AreEdges : (ℕ → ℕ → Bool) → List Calling → Type 0
AreEdges edge [] = Unit {0}
AreEdges edge (c ∷ cs) = (edge c.from.sub c.callee ≡ true) × AreEdges edge cs

reaches_by : (edge : ℕ → ℕ → Bool) (cs : List Calling) (a b : ℕ) → AreEdges edge cs → Leads cs a b → Reaches edge a b
reaches_by edge [] a b are leads = absurd leads
reaches_by edge (c ∷ cs) a b are (inl leads) = reaches_by edge cs a b are.1 leads
reaches_by edge (c ∷ cs) a b are (inr (before, behind)) =
    first before (λ l. reaches_by edge cs a c.from.sub are.1 l) (last behind (λ l. reaches_by edge cs c.callee b are.1 l)) where
      last : ((c.callee ≡ b) ⊎ Leads cs c.callee b) → (Leads cs c.callee b → Reaches edge c.callee b) → Reaches edge c.from.sub b
      last (inl same) more = subst (λ (n : ℕ). Reaches edge c.from.sub n) same (step_reaches edge c.from.sub c.callee are.0)
      last (inr on) more = reach-trans edge c.from.sub c.callee b (step_reaches edge c.from.sub c.callee are.0) (more on)

      first : ((a ≡ c.from.sub) ⊎ Leads cs a c.from.sub) → (Leads cs a c.from.sub → Reaches edge a c.from.sub) → Reaches edge c.from.sub b → Reaches edge a b
      first (inl same) more on = subst (λ (n : ℕ). Reaches edge n b) (sym same) on
      first (inr by) more on = reach-trans edge a c.from.sub b (more by) on

-- an edge is one of the calls
or_here : (t rest : Bool) → t ≡ true → (t || rest) ≡ true
or_here true rest is = refl
or_here false rest is = absurd (false≢true is)

or_there : (t rest : Bool) → t ≡ false → (t || rest) ≡ true → rest ≡ true
or_there true rest e some = absurd (false≢true (sym e))
or_there false rest e some = some

or_more : (t rest : Bool) → rest ≡ true → (t || rest) ≡ true
or_more true rest is = refl
or_more false rest is = is

-- those of one subprogram, by the first of them
abbrev callees_if : Bool → Calling → ℕ → List Calling → List ℕ
callees_if t c a cs = map callee_of (if t then c ∷ of_one calling_sub a cs else of_one calling_sub a cs)

calls_lead : (cs : List Calling) (a b : ℕ) → calls_of cs a b ≡ true → Leads cs a b
calls_lead [] a b is = absurd (false≢true is)
calls_lead (c ∷ cs) a b is = by (c.from.sub == a) refl (λ rest. calls_lead cs a b rest) is where
  here : (t : Bool) → (b == c.callee) ≡ t → (a ≡ c.from.sub) → (calls_of cs a b ≡ true → Leads cs a b)
      → has (c.callee ∷ map callee_of (of_one calling_sub a cs)) b ≡ true → Leads (c ∷ cs) a b
  here true same own later found = inr (inl own, inl (sym (eqb-true b c.callee same)))
  here false other own later found = inl (later (or_there (b == c.callee) (has (map callee_of (of_one calling_sub a cs)) b) other found))

  by : (t : Bool) → (c.from.sub == a) ≡ t → (calls_of cs a b ≡ true → Leads cs a b) → has (callees_if t c a cs) b ≡ true → Leads (c ∷ cs) a b
  by true same later found = here (b == c.callee) refl (sym (eqb-true c.from.sub a same)) later found
  by false other later found = inl (later found)

calls_more : (c : Calling) (cs : List Calling) (a b : ℕ) → calls_of cs a b ≡ true → calls_of (c ∷ cs) a b ≡ true
calls_more c cs a b is = by (c.from.sub == a) where
  by : (t : Bool) → has (callees_if t c a cs) b ≡ true
  by true = or_more (b == c.callee) (has (map callee_of (of_one calling_sub a cs)) b) is
  by false = is

calls_first : (c : Calling) (cs : List Calling) → calls_of (c ∷ cs) c.from.sub c.callee ≡ true
calls_first c cs = by (c.from.sub == c.from.sub) (eq-eqb c.from.sub c.from.sub refl) where
  by : (t : Bool) → t ≡ true → has (callees_if t c c.from.sub cs) c.callee ≡ true
  by true e = or_here (c.callee == c.callee) (has (map callee_of (of_one calling_sub c.from.sub cs)) c.callee) (eq-eqb c.callee c.callee refl)
  by false e = absurd (false≢true e)

edges_more : (edge more : ℕ → ℕ → Bool) (cs : List Calling) → ((n m : ℕ) → edge n m ≡ true → more n m ≡ true) → AreEdges edge cs → AreEdges more cs
edges_more edge more [] up are = tt
edges_more edge more (c ∷ cs) up are = (up c.from.sub c.callee are.0, edges_more edge more cs up are.1)

calls_are_edges : (cs : List Calling) → AreEdges (calls_of cs) cs
calls_are_edges [] = tt
calls_are_edges (c ∷ cs) = (calls_first c cs, edges_more (calls_of cs) (calls_of (c ∷ cs)) cs (calls_more c cs) (calls_are_edges cs))

walk_leads : (cs : List Calling) (a b : ℕ) (between : List ℕ) → IsWalk (calls_of cs) a (between ++ b ∷ []) → Leads cs a b
walk_leads cs a b [] walk = calls_lead cs a b walk.0
walk_leads cs a b (n ∷ between) walk = leads_on cs a n b (calls_lead cs a n walk.0) (walk_leads cs n b between walk.1)

abbrev is_left : {P Q : Type 0} → P ⊎ Q → Bool
is_left (inl p) = true
is_left (inr q) = false

left_of : {P Q : Type 0} → (e : P ⊎ Q) → is_left e ≡ true → P
left_of (inl p) is = p
left_of (inr q) is = absurd (false≢true is)

left_is : {P : Type 0} → (e : P ⊎ (P → ⊥)) → P → is_left e ≡ true
left_is (inl p) q = refl
left_is (inr never_p) q = absurd (never_p q)

-- whether two subprograms are in one call cycle
abbrev pub is_cycle : List Calling → ℕ → ℕ → Bool
is_cycle cs a b = is_left (decide_leads cs a b) && is_left (decide_leads cs b a)

pub cycles_decided : (cs : List Calling) (a b : ℕ) → (is_cycle cs a b ≡ true) ↔ SamePart (calls_of cs) a b
cycles_decided cs a b = (there, back) where
  there : is_cycle cs a b ≡ true → SamePart (calls_of cs) a b
  there is =
      let both = and_parts (is_left (decide_leads cs a b)) (is_left (decide_leads cs b a)) is in
      record {
        there = reaches_by (calls_of cs) cs a b (calls_are_edges cs) (left_of (decide_leads cs a b) both.0);
        back = reaches_by (calls_of cs) cs b a (calls_are_edges cs) (left_of (decide_leads cs b a) both.1);
      }

  back : SamePart (calls_of cs) a b → is_cycle cs a b ≡ true
  back part =
      and_from (is_left (decide_leads cs a b)) (is_left (decide_leads cs b a))
      (left_is (decide_leads cs a b) (walk_leads cs a b part.there.between part.there.walk))
      (left_is (decide_leads cs b a) (walk_leads cs b a part.back.between part.back.walk))
