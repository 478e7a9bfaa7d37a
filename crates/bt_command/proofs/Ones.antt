-- The table in which each class costs one cycle.
use Rattle.std.proofs.Common.{◌≡◌, Ok, codes, refl}
use Rattle.cycle_table.specs.Class.{class_named, first_free}
use Rattle.cycle_table.specs.Table.{costs_of, table_of}
use Rattle.bt_command.specs.Generated.{ones}

-- it is read as those costs
pub ones_read : table_of (codes "cycles 1\nalu 1\nshift 1\nsethi 1\ntagged 1\nmulscc 1\nsave 1\nrestore 1\nbranch 1\nfloatbranch 1\ncall 1\njump 1\nload 1\nloaddouble 1\nstore 1\nstoredouble 1\natomic 1\nready 1\nwritey 1\nflush 1\nfloatop 1\nfloatcmp 1\nfloatload 1\nfloatloaddouble 1\nfloatstore 1\nfloatstoredouble 1\ntrap 1\nannulled 1\n") ≡ Ok ones
unfolding table_of costs_of class_named first_free
ones_read = refl
