-- Where a transfer goes.
use Rattle.std.specs.Prelude.{◌==◌, ℕ, ◌+◌, ◌^◌, Bool, true, false, ◌&&◌, ◌||◌, not, eqb, nat_lt, nat_le, List, [], ◌∷◌, length, Option, Some, None}
use Rattle.std.specs.List.{list_all, list_any, flat_map, range_with_len}
use Rattle.std.specs.Set.{is_member}
use Rattle.bt_image.specs.File.{section_count}
use Rattle.bt_image.specs.Image.{is_code, holder, word_of}
use Rattle.bt_image.specs.Section.{section_at, is_loaded, is_code_section, is_read_only_section}
use Rattle.bt_image.specs.Symbol.{functions}
use Rattle.bt_image.specs.declared.section.Section.{Section}
use Rattle.assert_bind.specs.Binding.{listed, targets_in}
use Rattle.assert_bind.specs.declared.body.BoundAssertion.{BoundAssertion}
use Rattle.value_lattice.specs.Passing.{words_below}
use Rattle.value_lattice.specs.declared.value.Value.{Value}
use Rattle.value_ops.specs.Operation.{apply}
use Rattle.value_ops.specs.declared.op.Op.TheVariants.{Add}
use Rattle.jump_resolve.specs.Target.{targets}
use Rattle.jump_resolve.specs.declared.resolved.Resolved.{Resolved}
use Rattle.abs_state.specs.State.{State}
use Rattle.transfer_rules.specs.declared.act.Aim.{Aim}
use Rattle.transfer_rules.specs.declared.act.Aim.TheVariants.{Fixed, Computed}
use Rattle.transfer_rules.specs.declared.act.Candidates.{Candidates}
use Rattle.transfer_rules.specs.declared.act.Candidates.TheVariants.{Functions, Labels}
use Rattle.transfer_values.specs.Source.{operand}

-- there is a word, and it is this one
abbrev pub is_word : ℕ → Option ℕ → Bool
is_word a None = false
is_word a (Some w) = w == a

-- a number stands in an aligned word of a section that passes a test
unfoldable pub stands_in_word : (Section → Bool) → List ℕ → ℕ → Bool
stands_in_word test image a =
    list_any (λ k. list_any (λ i. is_word a (word_of test image ((section_at image k).address + i))) (range_with_len 0 (section_at image k).size))
    (range_with_len 0 (section_count image))

-- the functions whose entries stand in words, rising
unfoldable pub taken_functions : List ℕ → List ℕ
taken_functions image = words_below (2 ^ 32) (λ a. is_member eqb (functions image) a && stands_in_word is_loaded image a)

-- an address of the section
abbrev pub is_of : ℕ → Option Section → Bool
is_of a None = false
is_of a (Some s) = nat_le s.address a && nat_lt a (s.address + s.size)

-- a function begins between two addresses
abbrev pub parts : ℕ → ℕ → ℕ → Bool
parts a b f = (nat_lt a f && nat_le f b) || (nat_lt b f && nat_le f a)

-- an address is in the section of code of another, and no function begins between them
abbrev pub is_within : List ℕ → ℕ → ℕ → Bool
is_within image pc a = is_of a (holder is_code_section image pc 4) && list_all (λ f. not (parts pc a f)) (functions image)

-- an address is in the extent of a code address: both are in one section of code, and no function begins between them
unfoldable pub is_near : List ℕ → ℕ → ℕ → Bool
is_near image pc a = is_code image pc && is_within image pc a

-- a code address that stands in a word which no run writes
abbrev pub is_label : List ℕ → ℕ → Bool
is_label image a = is_code image a && stands_in_word is_read_only_section image a

-- all labels, rising
unfoldable pub labels : List ℕ → List ℕ
labels image = words_below (2 ^ 32) (is_label image)

-- the labels in the extent of an address, rising
unfoldable pub labels_near : List ℕ → ℕ → List ℕ
labels_near image pc = words_below (2 ^ 32) (λ a. is_label image a && is_near image pc a)

-- the addresses that a computed transfer may go to where no assertion lists them
abbrev pub candidates : List ℕ → ℕ → Candidates → List ℕ
candidates image pc Functions = taken_functions image
candidates image pc Labels = labels_near image pc

-- the targets among those that an assertion lists, else among the others
abbrev pub targets_among : List ℕ → Value → Option (List ℕ) → List ℕ → Resolved
targets_among image v (Some to) others = targets image v to true
targets_among image v None others = targets image v others false

-- where the transfer at an address goes, of the state before it
unfoldable pub resolved : List ℕ → List ℕ → List BoundAssertion → ℕ → Aim → State → Resolved
resolved t image list pc (Fixed a) s = record { list = a ∷ []; whole = true }
resolved t image list pc (Computed left right kind) s =
    targets_among image (apply t Add (operand s left) (operand s right)) (listed list pc) (candidates image pc kind)

-- the targets that an assertion lists
abbrev pub to_of : Option (List ℕ) → List ℕ
to_of None = []
to_of (Some to) = to

-- all targets that assertions list
abbrev pub all_listed : List BoundAssertion → List ℕ
all_listed list = flat_map (λ assertion. to_of (targets_in assertion.body)) list

-- no transfer has more targets
unfoldable pub widest : List ℕ → List BoundAssertion → ℕ
widest image list = length (all_listed list) + length (functions image) + length (labels image) + 1
