-- The laws of the functions, together.
use Rattle.transfer_values.specs.Law.{StatesStayOver, StatesFall, FamiliesAreLawful}
use Rattle.transfer_values.proofs.ResolveLemmas.{targets_fall}
use Rattle.transfer_values.proofs.NarrowLemmas.{narrowed_over, narrowed_falls}
use Rattle.transfer_values.proofs.StepLemmas.{stepped_over, stepped_falls}
use Rattle.transfer_values.proofs.TestLemmas.{tested_over, tested_falls}

-- what is made of a state that may stand where there are thresholds may stand there
pub states_stay_over : StatesStayOver
states_stay_over = record { narrowed = narrowed_over; stepped = stepped_over; tested = tested_over }

-- of a lesser state, and over more thresholds, what is made of it is at most what it was
pub states_fall : StatesFall
states_fall = record {
  narrowed = λ t more list p a b is is_more in_more lesser greater up. narrowed_falls t more list p a b is is_more in_more up;
  stepped = stepped_falls;
  tested = tested_falls;
}

-- the functions over thresholds, of an image and assertions, are lawful, and over more thresholds they give no more
pub families_are_lawful : FamiliesAreLawful
families_are_lawful = record {
  lawful = λ t image list is. record {
    thresholds = is;
    narrow = λ p s fits. narrowed_over t list p s is fits;
    step = λ step s fits. stepped_over t image step s is fits;
    test = λ test s fits. tested_over t test s is fits;
    few = λ pc aim s fits. targets_fall.few t image list pc aim s;
  };
  finer = λ t more image list is is_more in_more. record {
    thresholds = in_more;
    narrow = λ p a b lesser greater up. narrowed_falls t more list p a b is is_more in_more up;
    step = λ step a b lesser greater up. stepped_falls t more image step a b is is_more in_more lesser greater up;
    test = λ test a b lesser greater up. tested_falls t more test a b is is_more in_more lesser greater up;
    list = λ pc aim a b lesser greater up. targets_fall.list t more image list pc aim a b is is_more in_more lesser greater up;
    whole = λ pc aim a b lesser greater up. targets_fall.whole t more image list pc aim a b is is_more in_more lesser greater up;
  };
}
