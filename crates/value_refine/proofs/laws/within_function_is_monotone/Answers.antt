use Rattle.value_refine.proofs.RefineFunctions.{within_over, within_left, within_address, within_falls, within_has}
use Rattle.value_refine.proofs.laws.within_function_is_monotone.Goals as goal

pub returns : goal.returns
returns c = record { over = within_over; left = within_left; address = within_address; falls = within_falls; covers = within_has }
