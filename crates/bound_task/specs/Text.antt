-- The text of the due graph of an image, of the costs of a table of cycles and of assertions.
use Rattle.std.specs.Prelude.{ℕ, List}
use Rattle.std.specs.Map.{keys_of}
use Rattle.abs_state.specs.declared.key.Key.{Key}
use Rattle.assert_bind.specs.declared.body.BoundAssertion.{BoundAssertion}
use Rattle.graph_text.specs.Text.{IsGraphText}
use Rattle.transfer_rules.specs.declared.fact.Fact.{Fact}
use Rattle.bound_task.specs.Graph.{IsGraphOf}
use Rattle.bound_task.specs.Returning.{returning_in}

-- the text is that of the keys of the due graph and of the subprograms that return by it
pub record IsGraphTextOf (image costs : List ℕ) (those : List BoundAssertion) (text : List ℕ) : Type 0 where
  pub facts : List (Key × Fact)
  pub graph : IsGraphOf image costs those facts
  pub is : IsGraphText image (keys_of facts) (returning_in facts) text
