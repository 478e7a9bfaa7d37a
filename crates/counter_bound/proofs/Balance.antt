-- A walk inside a body that comes back to a node but not to the head stays in one loop inside.
use Rattle.std.proofs.Common.{◌≡◌, ◌≢◌, ◌==◌, ◌&&◌, ◌+◌, inl, inr, ℕ, Bool, true, false, not, List, [], ◌∷◌, ◌++◌, refl, sym, ap, subst, ◌∙◌, arith}
use Rattle.std.proofs.lemmas.Bool.{eq-eqb}
use Rattle.std.proofs.lemmas.Bool.Decides.{eqb_tells}
use Rattle.bt_base.specs.Graph.{has}
use Rattle.graph_laws.specs.Walk.{IsWalk, AreInside, passes, total}
use Rattle.graph_laws.specs.Loops.{edges_inside}
use Rattle.graph_laws.specs.Nest.{cut, edges_below, Reaches, SamePart, InScope, IsHead, IsChain, HasHead, Nest, IsNest}
use Rattle.graph_laws.specs.Counter.{Changes}
use Rattle.graph_laws.proofs.Nests.{two_true, reach-trans, part-sym, part-trans, step_reaches, end_free, head_of_itself, scope_of_part, parts_below, neither}
use Rattle.graph_laws.proofs.Walks.{passes_here, passes_other}

-- a loop inside another one
pub record IsInnerLoop (nest : Nest) (h k : ℕ) : Type 0 where
  pub loop : nest.has k ≡ true
  pub within : nest.body h k ≡ true
  pub other : h ≢ k

not_head : (h n : ℕ) (rest : List ℕ) → passes h (n ∷ rest) ≡ 0 → ((n == h) ≡ false) × (passes h rest ≡ 0)
not_head h n rest p = elim (eqb_tells n h) [
  | inl a ↦ let here : passes h (n ∷ rest) ≡ 1 + passes h rest = passes_here h n rest a.1 in absurd (omega (arith, here, p))
  | inr a ↦ (a.0, sym (passes_other h n rest a.0) ∙ p)
]

-- a walk that doesn't come to the head
below_walk : (edge : ℕ → ℕ → Bool) (body : ℕ → Bool) (h n last : ℕ) (rest : List ℕ) → (n == h) ≡ false → (last == h) ≡ false → passes h rest ≡ 0
    → IsWalk (edges_inside edge body) n (rest ++ last ∷ []) → IsWalk (edges_below edge body h) n (rest ++ last ∷ [])
below_walk edge body h n last [] a l p w =
    (two_true (edges_inside edge body n last) (not (n == h) && not (last == h)) w.0 (two_true (not (n == h)) (not (last == h)) (ap not a) (ap not l)), tt)
below_walk edge body h n last (m ∷ rest) a l p w =
    let q = not_head h m rest p in (
      two_true (edges_inside edge body n m) (not (n == h) && not (m == h)) w.0 (two_true (not (n == h)) (not (m == h)) (ap not a) (ap not q.0)),
      below_walk edge body h m last rest q.0 l q.1 w.1,
    )

module _ (edge : ℕ → ℕ → Bool) (entry : ℕ) (nest : Nest) (is : IsNest edge entry nest) (h : ℕ) (loop : nest.has h ≡ true) where
  abbrev below : ℕ → ℕ → Bool
  below = edges_below edge (nest.body h) h

  abbrev heads : List ℕ
  heads = h ∷ nest.outer h

  -- the loop inside that holds a part below the head
  record Holds (n : ℕ) : Type 0 where
    pub inner : ℕ
    pub is_inner : IsInnerLoop nest h inner
    pub part : (y : ℕ) → SamePart below n y → nest.body inner y ≡ true

  held_by : (n k : ℕ) → nest.body h n ≡ true → (n == h) ≡ false → IsHead edge entry heads n k → Holds n
  held_by n k b a head =
      let inside : SamePart (cut edge heads) n k = head.entered.inside in
      let scope_n : InScope edge heads n = (is.body h n loop).0 b in
      let scope_k : InScope edge heads k = scope_of_part edge heads n k scope_n inside in
      let chain : IsChain edge entry (k ∷ heads) = (is.chain h loop, scope_k, head_of_itself edge entry heads n k head) in
      let at = is.loop k heads chain in
      record {
        inner = k;
        is_inner = record {
          loop = at.0;
          within = (is.body h k loop).1 scope_k;
          other = λ e.
              let free : has heads k ≡ false = end_free edge heads n k inside.there.between inside.there.walk in
              let same : (k == h) ≡ true = eq-eqb k h (sym e) in
              let none : (k == h) ≡ false = (neither (k == h) (has (nest.outer h) k) free).0 in cc;
        };
        part = λ y p.
            let q : SamePart (cut edge heads) n y = (parts_below edge entry nest is h n y loop b a).1 p in
            let r : SamePart (cut edge heads) k y = part-trans (cut edge heads) k n y (part-sym (cut edge heads) n k inside) q in
            (is.body k y at.0).1 (subst (λ (l : List ℕ). SamePart (cut edge l) k y) (sym at.1) r);
      }

  holds : (n : ℕ) → nest.body h n ≡ true → (n == h) ≡ false → SamePart below n n → Holds n
  holds n b a p =
      let q : SamePart (cut edge heads) n n = (parts_below edge entry nest is h n n loop b a).1 p in
      let r : HasHead edge entry heads n = is.parts heads n (is.chain h loop) ((is.body h n loop).0 b) q in
      held_by n r.head b a r.is

  -- the nodes of a walk back to its first node are in one part
  around : (n x k : ℕ) (rest : List ℕ) → ((y : ℕ) → SamePart below n y → nest.body k y ≡ true) → Reaches below n x → IsWalk below x (rest ++ n ∷ [])
      → AreInside (nest.body k) rest
  around n x k [] p r w = tt
  around n x k (y ∷ rest) p r w =
      let there : Reaches below n y = reach-trans below n x y r (step_reaches below x y w.0) in
      (p y (record { there = there; back = record { between = rest; walk = w.1 } }), around n y k rest p there w.1)

  -- they are in a loop inside
  pub record IsRound (n : ℕ) (between : List ℕ) : Type 0 where
    pub inner : ℕ
    pub is_inner : IsInnerLoop nest h inner
    pub inside : AreInside (nest.body inner) (n ∷ between)

  pub is_round : (n : ℕ) (between : List ℕ) → nest.body h n ≡ true → IsWalk (edges_inside edge (nest.body h)) n (between ++ n ∷ [])
      → passes h (n ∷ between) ≡ 0 → IsRound n between
  is_round n between b w p =
      let q = not_head h n between p in
      let walk : IsWalk below n (between ++ n ∷ []) = below_walk edge (nest.body h) h n n between q.0 q.0 q.1 w in
      let self : Reaches below n n = record { between = between; walk = walk } in
      let part : SamePart below n n = record { there = self; back = self } in
      let k : Holds n = holds n b q.0 part in
      record { inner = k.inner; is_inner = k.is_inner; inside = (k.part n part, around n n k.inner between k.part self walk) }

-- where no node of a body changes the cell, a list of its nodes adds as much as it takes
pub even_inside : (body : ℕ → Bool) (changes : Changes) (nodes : List ℕ) → ((n : ℕ) → body n ≡ true → changes.up n ≡ changes.down n) → AreInside body nodes
    → total changes.up nodes ≡ total changes.down nodes
even_inside body changes [] keep i = refl
even_inside body changes (n ∷ nodes) keep i =
    let a : changes.up n ≡ changes.down n = keep n i.0 in
    let e : total changes.up nodes ≡ total changes.down nodes = even_inside body changes nodes keep i.1 in omega (arith, a, e)
