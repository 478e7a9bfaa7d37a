-- What follows from either of two facts.
use Rattle.std.specs.Prelude.{◌⊎◌}
use Rattle.std.proofs.Common.{inl, inr}

pub either_way : {A B C : Type 0} → (A → C) → (B → C) → A ⊎ B → C
either_way f g (inl a) = f a
either_way f g (inr b) = g b
