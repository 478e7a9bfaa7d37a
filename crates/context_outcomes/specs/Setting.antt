-- What contexts are judged by: a program with what is known of it, and what is read off these.
use Rattle.std.specs.Prelude.{ℕ, Bool, List}
use Rattle.std.specs.Map.{keys_of}
use Rattle.abs_state.specs.Key.{compare}
use Rattle.abs_state.specs.declared.key.Key.{Key}
use Rattle.assert_bind.specs.declared.body.BoundAssertion.{BoundAssertion}
use Rattle.flow_system.specs.Facts.{fact_at}
use Rattle.flow_system.specs.Rules.{Rules}
use Rattle.graph_view.specs.View.{ByKind, by_kind}
use Rattle.transfer_fns.specs.Setting.{program_in, rules_over}
use Rattle.transfer_rules.specs.Fact.{Piece}
use Rattle.transfer_rules.specs.Family.{Program}
use Rattle.transfer_rules.specs.Give.{Facts}
use Rattle.transfer_rules.specs.declared.fact.Fact.{Fact}

-- An image and the assertions that are bound to it, the costs of the classes of instructions, whether multiplications and
-- divisions are followed, the thresholds of the program, and the facts of all its runs, by rising keys.
pub record Setting : Type 0 where
  pub image : List ℕ
  pub binding : List BoundAssertion
  pub costs : List ℕ
  pub eight : Bool
  pub thresholds : List ℕ
  pub pieces : List Piece

-- its facts, by keys
abbrev pub facts_in : Setting → Facts
facts_in S = fact_at compare S.pieces

-- the program points, steps, calls and open points of its facts
abbrev pub view_in : Setting → ByKind
view_in S = by_kind (keys_of S.pieces)

-- what its instructions do
abbrev pub program_of : Setting → Program
program_of S = program_in S.image S.binding S.eight

-- its rules over thresholds
abbrev pub rules_with : Setting → List ℕ → Rules Key Fact
rules_with S t = rules_over t S.image S.binding S.eight
