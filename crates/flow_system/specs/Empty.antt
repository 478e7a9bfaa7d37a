-- The system that starts with nothing and gives nothing.
use Rattle.std.specs.Prelude.{ℕ, Bool, true, false, []}
use Rattle.flow_system.specs.Rules.{Rules}

-- no pieces, and one order of facts in which all are alike
abbrev pub empty_rules : {K V : Type 0} → Rules K V
empty_rules = record {
  starts = [];
  reads = λ k. [];
  gives = λ k s. [];
  join = λ a b. a;
  at_most = λ a b. true;
  counted = λ k. false;
  fits = λ k v. false;
  rank = λ v. 0;
  top = 0;
  most = 0;
}
