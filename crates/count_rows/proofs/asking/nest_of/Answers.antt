use Rattle.count_rows.proofs.asking.nest_of.Goals as goal

pub returns-in-Ok : goal.returns-in-Ok
returns-in-Ok c = record {
  entry = 0;
  within = c.in_ok-all_are_led_to.ensures.some c.if-not-branch.false;
  reached = c.in_ok-all_are_led_to.ensures.reached c.if-not-branch.false;
  nest = c.in-Ok.ensures;
}
