-- How the context of a call is written: what is known of its arguments.
use Rattle.std.specs.Prelude.{◌≡◌, ℕ, Bool, true, ◌&&◌, List, [], ◌∷◌, ◌++◌, codes, length, if◌then◌else◌}
use Rattle.value_lattice.specs.declared.value.Value.{Value}
use Rattle.wcet_report.specs.Line.{spaced}
use Rattle.wcet_report.specs.Value.{value_text, is_any}
use Rattle.wcet_report.specs.declared.context.Context.{Context}
use Rattle.wcet_report.specs.declared.context.Context.TheVariants.{Plain, With}

-- the registers of the arguments, in their order
abbrev pub argument_names : List (List ℕ)
argument_names =
    codes "%o0" ∷ codes "%o1" ∷ codes "%o2" ∷ codes "%o3" ∷ codes "%o4" ∷ codes "%o5"
    ∷ codes "%g1" ∷ codes "%g2" ∷ codes "%g3" ∷ codes "%g4" ∷ codes "%g5" ∷ codes "%g6" ∷ codes "%g7" ∷ []

-- an argument, where something is known of it: its register and its value
abbrev pub argument_words : List ℕ → Value → List (List ℕ)
argument_words name value = if is_any value then [] else (name ++ (codes "=" ++ value_text value)) ∷ []

-- each argument of which something is known
abbrev pub known : List (List ℕ) → List Value → List (List ℕ)
known (name ∷ names) (value ∷ values) = argument_words name value ++ known names values
known _ _ = []

-- whether nothing is known of any argument
abbrev pub are_any : List Value → Bool
are_any [] = true
are_any (value ∷ values) = is_any value && are_any values

abbrev pub known_or_any : List (List ℕ) → List (List ℕ)
known_or_any [] = codes "any" ∷ []
known_or_any (word ∷ words) = word ∷ words

-- the first word of a context
abbrev pub context_word : Context → List ℕ
context_word Plain = codes "plain"
context_word (With args) = codes "args"

-- the words behind it
abbrev pub context_rest : Context → List (List ℕ)
context_rest Plain = []
context_rest (With args) = known_or_any (known argument_names args)

-- the text of a context
unfoldable pub context_text : Context → List ℕ
context_text context = context_word context ++ spaced (context_rest context)

-- whether a context is one in which nothing is known of the arguments
abbrev pub is_open : Context → Bool
is_open Plain = true
is_open (With args) = are_any args

-- a context has a value for each argument
abbrev pub HasArguments : Context → Type 0
HasArguments Plain = Unit {0}
HasArguments (With args) = length args ≡ 13
