-- What an edge leads to from a node that is reached is reached.
use Rattle.std.proofs.Common.{◌≡◌, ◌<◌, ℕ, inl, inr, Bool, true, List, [], ◌∷◌, ◌++◌, length, get_or, set, refl, ap, subst, sym, ◌∙◌}
use Rattle.std.proofs.lemmas.Bool.Decides.{eqb_tells}
use Rattle.bt_base.specs.Graph.{is_edge}
use Rattle.graph_laws.specs.Walk.{end_of}
use Rattle.graph_laws.specs.Nest.{IsReached}
use Rattle.graph_laws.proofs.Walks.{walk-append}
use Rattle.loop_nest.proofs.Lists.{has_at}
use Rattle.loop_nest.proofs.Marks.{marked-set_other}
use Rattle.graph_rows.specs.Reaching.{AreMarksOfReached}

pub reached_first : (edge : ℕ → ℕ → Bool) (entry : ℕ) → IsReached edge entry entry
reached_first edge entry = record { rest = []; walk = tt; ends = refl }

pub reached_on : (edge : ℕ → ℕ → Bool) (entry n m : ℕ) → IsReached edge entry n → edge n m ≡ true → IsReached edge entry m
reached_on edge entry n m r e = record {
  rest = r.rest ++ m ∷ [];
  walk = walk-append edge entry r.rest (m ∷ []) r.walk (ap (λ (x : ℕ). edge x m) r.ends ∙ e, tt);
  ends = last entry r.rest;
}
  where
    last : (k : ℕ) (rest : List ℕ) → end_of k (rest ++ m ∷ []) ≡ m
    last k [] = refl
    last k (x ∷ rest) = last x rest

-- a mark for a node to which an edge leads from one that is reached
pub marks_on : (graph : List (List ℕ)) (marks : List Bool) (node i : ℕ) → IsReached (is_edge graph) 0 node → i < length (get_or graph node [])
    → AreMarksOfReached graph marks → AreMarksOfReached graph (set marks (get_or (get_or graph node []) i 0) true)
marks_on graph marks node i r l all n m =
    let x : ℕ = get_or (get_or graph node []) i 0 in
    elim (eqb_tells n x) [
      | inl a ↦ subst (λ (k : ℕ). IsReached (is_edge graph) 0 k) (sym a.1) (reached_on (is_edge graph) 0 node x r (has_at (get_or graph node []) i l))
      | inr a ↦ all n (sym (marked-set_other marks x n true a.1) ∙ m)
    ]
