-- Where a jump or call to a value may go.
use Rattle.std.specs.Prelude.{◌==◌, ℕ, ◌%◌, ◌^◌, ◌&&◌, ◌||◌, Bool, not, eqb, List}
use Rattle.std.specs.Set.{is_member}
use Rattle.bt_image.specs.Image.{is_code}
use Rattle.value_lattice.specs.Passing.{words_below, passes_some}
use Rattle.value_lattice.specs.Test.{may_have}
use Rattle.value_lattice.specs.declared.value.Value.{Value}
use Rattle.jump_resolve.specs.declared.resolved.Resolved.{Resolved}

-- whether an address of code is one that a value may be
abbrev pub may_go : List ℕ → Value → ℕ → Bool
may_go image v a = may_have v a && is_code image a

-- whether it is one of the candidates too
abbrev pub is_target : List ℕ → Value → List ℕ → ℕ → Bool
is_target image v candidates a = is_member eqb candidates a && may_go image v a

-- the targets among the candidates, rising
unfoldable pub target_list : List ℕ → Value → List ℕ → List ℕ
target_list image v candidates = words_below (2 ^ 32) (is_target image v candidates)

-- whether a word is a multiple of 4 that a value may be and a list lacks
abbrev pub is_other : Value → List ℕ → ℕ → Bool
is_other v list a = (a % 4 == 0) && (may_have v a && not (is_member eqb list a))

-- whether a list has each multiple of 4 that a value may be
unfoldable pub is_whole : Value → List ℕ → Bool
is_whole v list = not (passes_some (is_other v list))

-- the targets of a jump or call to a value, and whether there are no others
abbrev pub targets : List ℕ → Value → List ℕ → Bool → Resolved
targets image v candidates asserted =
    record { list = target_list image v candidates; whole = asserted || is_whole v (target_list image v candidates) }
