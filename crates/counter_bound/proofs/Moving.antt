-- Turns of one graph that are turns of another, with the same sums.
use Rattle.std.proofs.Common.{◌≡◌, ◌==◌, ◌+◌, ◌≤◌, inl, inr, ℕ, Bool, true, false, List, [], ◌∷◌, ◌++◌, map, refl, sym, subst, ◌∙◌, arith}
use Rattle.std.proofs.lemmas.Bool.Decides.{eqb_tells}
use Rattle.graph_laws.specs.Walk.{IsWalk, AreInside, passes, total}
use Rattle.graph_laws.specs.Counter.{Changes, IsTurn}
use Rattle.graph_laws.proofs.Walks.{passes_here, passes_other}
use Rattle.turn_sums.specs.Step.{IsStep, IsLeastRise, IsLeastFall}
use Rattle.turn_sums.specs.declared.step.TurnStep.{TurnStep}
use Rattle.turn_sums.specs.declared.step.TurnStep.TheVariants.{Rises, Falls}

-- a node goes over into another graph
pub record IsMoved (inside : ℕ → Bool) (head : ℕ) (from to : Changes) (h f n : ℕ) : Type 0 where
  pub body : inside f ≡ true
  pub apart : f ≡ head → n ≡ h
  pub up : to.up f ≡ from.up n
  pub down : to.down f ≡ from.down n

-- edges between the nodes of a body, and their ends, go over into another graph
pub record Moves (edge : ℕ → ℕ → Bool) (body : ℕ → Bool) (h : ℕ) (from : Changes) (other : ℕ → ℕ → Bool) (inside : ℕ → Bool) (head : ℕ) (to : Changes)
    (f : ℕ → ℕ) : Type 0 where
  pub here : body h ≡ true
  pub head_is : f h ≡ head
  pub edges : (n m : ℕ) → body n ≡ true → body m ≡ true → edge n m ≡ true → other (f n) (f m) ≡ true
  pub moved : (n m : ℕ) → body n ≡ true → body m ≡ true → edge n m ≡ true → IsMoved inside head from to h (f m) m
  pub up : to.up head ≡ from.up h
  pub down : to.down head ≡ from.down h

pub other_node : (x y : ℕ) → (x ≡ y → ⊥) → (x == y) ≡ false
other_node x y ne = elim (eqb_tells x y) [ inl a ↦ absurd (ne a.1) | inr a ↦ a.0 ]

module _ (edge : ℕ → ℕ → Bool) (body : ℕ → Bool) (h : ℕ) (from : Changes) (other : ℕ → ℕ → Bool) (inside : ℕ → Bool) (head : ℕ) (to : Changes) (f : ℕ → ℕ)
    (move : Moves edge body h from other inside head to f) where
  -- a walk that ends inside
  pub walk_moves : (n last : ℕ) (rest : List ℕ) → body n ≡ true → body last ≡ true → AreInside body rest → IsWalk edge n (rest ++ last ∷ [])
      → IsWalk other (f n) (map f rest ++ f last ∷ [])
  walk_moves n last [] b l i w = (move.edges n last b l w.0, tt)
  walk_moves n last (m ∷ rest) b l i w = (move.edges n m b i.0 w.0, walk_moves m last rest i.0 l i.1 w.1)

  pub inside_moves : (n : ℕ) (rest ends : List ℕ) → body n ≡ true → AreInside body rest → IsWalk edge n (rest ++ ends) → AreInside inside (map f rest)
  inside_moves n [] ends b i w = tt
  inside_moves n (m ∷ rest) ends b i w = ((move.moved n m b i.0 w.0).body, inside_moves m rest ends i.0 i.1 w.1)

  pub once_moves : (n : ℕ) (rest ends : List ℕ) → body n ≡ true → AreInside body rest → IsWalk edge n (rest ++ ends) → passes h rest ≡ 0
      → passes head (map f rest) ≡ 0
  once_moves n [] ends b i w p = refl
  once_moves n (m ∷ rest) ends b i w p = elim (eqb_tells m h) [
    | inl a ↦ let here : passes h (m ∷ rest) ≡ 1 + passes h rest = passes_here h m rest a.1 in absurd (omega (arith, here, p))
    | inr a ↦
        let skip : passes h (m ∷ rest) ≡ passes h rest = passes_other h m rest a.0 in
        passes_other head (f m) (map f rest) (other_node (f m) head (λ e. a.1 ((move.moved n m b i.0 w.0).apart e)))
        ∙ once_moves m rest ends i.0 i.1 w.1 (sym skip ∙ p)
  ]

  pub ups_move : (n : ℕ) (rest ends : List ℕ) → body n ≡ true → AreInside body rest → IsWalk edge n (rest ++ ends) → total to.up (map f rest) ≡ total from.up rest
  ups_move n [] ends b i w = refl
  ups_move n (m ∷ rest) ends b i w =
      let a : to.up (f m) ≡ from.up m = (move.moved n m b i.0 w.0).up in
      let e : total to.up (map f rest) ≡ total from.up rest = ups_move m rest ends i.0 i.1 w.1 in omega (arith, a, e)

  pub downs_move : (n : ℕ) (rest ends : List ℕ) → body n ≡ true → AreInside body rest → IsWalk edge n (rest ++ ends)
      → total to.down (map f rest) ≡ total from.down rest
  downs_move n [] ends b i w = refl
  downs_move n (m ∷ rest) ends b i w =
      let a : to.down (f m) ≡ from.down m = (move.moved n m b i.0 w.0).down in
      let e : total to.down (map f rest) ≡ total from.down rest = downs_move m rest ends i.0 i.1 w.1 in omega (arith, a, e)

  pub turn_moves : (between : List ℕ) → IsTurn edge body h between → IsTurn other inside head (map f between)
  turn_moves between t = record {
    walk = subst (λ (x : ℕ). IsWalk other x (map f between ++ x ∷ [])) move.head_is (walk_moves h h between move.here move.here t.inside t.walk);
    inside = inside_moves h between (h ∷ []) move.here t.inside t.walk;
    once = once_moves h between (h ∷ []) move.here t.inside t.walk t.once;
  }

  pub turn_ups : (between : List ℕ) → IsTurn edge body h between → total to.up (head ∷ map f between) ≡ total from.up (h ∷ between)
  turn_ups between t =
      let a : to.up head ≡ from.up h = move.up in
      let e : total to.up (map f between) ≡ total from.up between = ups_move h between (h ∷ []) move.here t.inside t.walk in omega (arith, a, e)

  pub turn_downs : (between : List ℕ) → IsTurn edge body h between → total to.down (head ∷ map f between) ≡ total from.down (h ∷ between)
  turn_downs between t =
      let a : to.down head ≡ from.down h = move.down in
      let e : total to.down (map f between) ≡ total from.down between = downs_move h between (h ∷ []) move.here t.inside t.walk in omega (arith, a, e)

-- a step goes over where the turns go over both ways
module _ (edge : ℕ → ℕ → Bool) (body : ℕ → Bool) (h : ℕ) (from : Changes) (other : ℕ → ℕ → Bool) (inside : ℕ → Bool) (head : ℕ) (to : Changes)
    (f g : ℕ → ℕ) (there : Moves edge body h from other inside head to f) (back : Moves other inside head to edge body h from g) where
  rise_moves : (by : ℕ) → IsLeastRise edge body h from by → IsLeastRise other inside head to by
  rise_moves by s = record {
    one = s.one;
    rise = λ between t.
        let r : total from.down (h ∷ map g between) + by ≤ total from.up (h ∷ map g between) =
        s.rise (map g between) (turn_moves other inside head to edge body h from g back between t) in
        let up : total from.up (h ∷ map g between) ≡ total to.up (head ∷ between) = turn_ups other inside head to edge body h from g back between t in
        let down : total from.down (h ∷ map g between) ≡ total to.down (head ∷ between) = turn_downs other inside head to edge body h from g back between t in
        omega (arith, r, up, down);
    between = map f s.between;
    turn = turn_moves edge body h from other inside head to f there s.between s.turn;
    is =
        let i : total from.down (h ∷ s.between) + by ≡ total from.up (h ∷ s.between) = s.is in
        let up : total to.up (head ∷ map f s.between) ≡ total from.up (h ∷ s.between) = turn_ups edge body h from other inside head to f there s.between s.turn in
        let down : total to.down (head ∷ map f s.between) ≡ total from.down (h ∷ s.between) = turn_downs edge body h from other inside head to f there s.between s.turn in
        omega (arith, i, up, down);
  }

  fall_moves : (by : ℕ) → IsLeastFall edge body h from by → IsLeastFall other inside head to by
  fall_moves by s = record {
    one = s.one;
    fall = λ between t.
        let r : total from.up (h ∷ map g between) + by ≤ total from.down (h ∷ map g between) =
        s.fall (map g between) (turn_moves other inside head to edge body h from g back between t) in
        let up : total from.up (h ∷ map g between) ≡ total to.up (head ∷ between) = turn_ups other inside head to edge body h from g back between t in
        let down : total from.down (h ∷ map g between) ≡ total to.down (head ∷ between) = turn_downs other inside head to edge body h from g back between t in
        omega (arith, r, up, down);
    between = map f s.between;
    turn = turn_moves edge body h from other inside head to f there s.between s.turn;
    is =
        let i : total from.up (h ∷ s.between) + by ≡ total from.down (h ∷ s.between) = s.is in
        let up : total to.up (head ∷ map f s.between) ≡ total from.up (h ∷ s.between) = turn_ups edge body h from other inside head to f there s.between s.turn in
        let down : total to.down (head ∷ map f s.between) ≡ total from.down (h ∷ s.between) = turn_downs edge body h from other inside head to f there s.between s.turn in
        omega (arith, i, up, down);
  }

  pub step_moves : (step : TurnStep) → IsStep edge body h from step → IsStep other inside head to step
  step_moves (Rises by) s = rise_moves by s
  step_moves (Falls by) s = fall_moves by s
