-- The command line of boundt, as what a parse reads of it: the command `boundt`, which has no argument of its
-- own, with its subcommands `bound`, `graph`, `decode` and `gen`.
use Rattle.std.specs.Prelude.{true, false, Some, [], ◌∷◌, codes, pos}
use Rattle.clap.specs.Words.{App, Rule, Shape, Text, new_rule}
use Rattle.clap.specs.Simple.{new_shape}
use Rattle.clap.specs.declared.builder.value_parser.ValueParser.TheVariants as vp

-- a name that has to be there
abbrev pub name_rule : Text → Rule
name_rule id = record (new_rule id) { required = true }

-- `--workers N`: a number from 1 to 64, and 1 where none is given
abbrev pub workers_rule : Rule
workers_rule = record (new_rule (codes "workers")) {
  long = Some (codes "workers");
  defaults = codes "1" ∷ [];
  parser = Some (vp.Signed (pos 1) (pos 64));
}

-- a subcommand that is given `IMAGE CYCLES ASSERTIONS [--workers N]`
abbrev pub files_shape : Text → Shape
files_shape command = record (new_shape command) {
  rules = name_rule (codes "IMAGE") ∷ name_rule (codes "CYCLES") ∷ name_rule (codes "ASSERTIONS")
      ∷ workers_rule ∷ [];
}

abbrev pub files_app : Text → App
files_app command = record { top = files_shape command; subs = [] }

-- `bound IMAGE CYCLES ASSERTIONS [--workers N]`
abbrev pub bound_shape : Shape
bound_shape = files_shape (codes "bound")

abbrev pub bound_app : App
bound_app = record { top = bound_shape; subs = [] }

-- `graph IMAGE CYCLES ASSERTIONS [--workers N]`
abbrev pub graph_shape : Shape
graph_shape = files_shape (codes "graph")

abbrev pub graph_app : App
graph_app = record { top = graph_shape; subs = [] }

-- `decode IMAGE`
abbrev pub decode_shape : Shape
decode_shape = record (new_shape (codes "decode")) { rules = name_rule (codes "IMAGE") ∷ [] }

abbrev pub decode_app : App
decode_app = record { top = decode_shape; subs = [] }

-- `N` of `gen`: a number from 1 to 4,000, which has to be there
abbrev pub functions_rule : Rule
functions_rule = record (new_rule (codes "N")) { required = true; parser = Some (vp.Signed (pos 1) (pos 4000)) }

-- `gen N [--workers N]`
abbrev pub gen_shape : Shape
gen_shape = record (new_shape (codes "gen")) { rules = functions_rule ∷ workers_rule ∷ [] }

abbrev pub gen_app : App
gen_app = record { top = gen_shape; subs = [] }

-- the words are those after the program's name, one subcommand has to be there, and neither help nor a version
-- is offered
abbrev pub boundt_shape : Shape
boundt_shape = record (new_shape (codes "boundt")) {
  is_leaf = false;
  no_binary_name = true;
  disable_help_flag = true;
  disable_help_subcommand = true;
  subcommand_required = true;
}

-- with its first two subcommands, and with all
abbrev pub two_app : App
two_app = record { top = boundt_shape; subs = bound_shape ∷ graph_shape ∷ [] }

abbrev pub boundt_app : App
boundt_app = record { top = boundt_shape; subs = bound_shape ∷ graph_shape ∷ decode_shape ∷ gen_shape ∷ [] }
