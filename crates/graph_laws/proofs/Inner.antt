-- The loops inside a body are loops of the graph of its nodes.
use Rattle.std.proofs.Common.{◌≡◌, ◌&&◌, inl, inr, true, false}
use Rattle.std.proofs.lemmas.Bool.Decides.{eqb_tells}
use Rattle.graph_laws.specs.Labels.{LoopsInsideAreLoops}
use Rattle.graph_laws.proofs.Stretches.{both}

-- inside a body the loops are those of the graph of its nodes, entered at its head; so what holds of walks from the entry
-- holds of walks inside the body from its head
pub inner_loops : LoopsInsideAreLoops
inner_loops edge entry loops h ok has = record {
  head = λ k a. ok.head k (both (loops.has k) (loops.body h k) a).0;
  entered = λ k n m a e. ok.entered k n m (both (loops.has k) (loops.body h k) a).0 (both (edge n m) (loops.body h n && loops.body h m) e).0;
  at_entry = λ k a b. elim (eqb_tells h k) [
    | inl e ↦ e.1
    | inr e ↦
        let p : (loops.has k ≡ true) × (loops.body h k ≡ true) = both (loops.has k) (loops.body h k) a in
        let q : loops.body h k ≡ false = ok.apart h k has p.0 b e.1 in cc
  ];
  within = λ j k n a b. ok.within j k n (both (loops.has j) (loops.body h j) a).0 (both (loops.has k) (loops.body h k) b).0;
  apart = λ j k a b. ok.apart j k (both (loops.has j) (loops.body h j) a).0 (both (loops.has k) (loops.body h k) b).0;
}
