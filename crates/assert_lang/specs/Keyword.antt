-- The first words of statements.
use Rattle.std.specs.Prelude.{ℕ, List, [], ◌∷◌, Option, find, codes}
use Rattle.std.specs.Str.{bytes_eq}
use Rattle.assert_lang.specs.declared.keyword.Keyword.{Keyword}
use Rattle.assert_lang.specs.declared.keyword.Keyword.TheVariants.{Root, Never, At, Jump, Call, Loop, Stub}

-- all keywords
abbrev pub keywords : List Keyword
keywords = Root ∷ Never ∷ At ∷ Jump ∷ Call ∷ Loop ∷ Stub ∷ []

-- how a keyword is written
abbrev pub name_of : Keyword → List ℕ
name_of Root = codes "root"
name_of Never = codes "never"
name_of At = codes "at"
name_of Jump = codes "jump"
name_of Call = codes "call"
name_of Loop = codes "loop"
name_of Stub = codes "stub"

-- the keyword that a word is
unfoldable pub keyword_of : List ℕ → Option Keyword
keyword_of word = find (λ keyword. bytes_eq (name_of keyword) word) keywords
