-- Lines are refused at the first word that doesn't fit.
use Rattle.std.proofs.Common.{◌≡◌, ℕ, Bool, true, false, List, [], ◌∷◌, ◌++◌, map, Option, Some, None, Result, Ok, Err, refl, sym, ap, subst, ◌∙◌}
use Rattle.std.proofs.Common.{codes, pos, if◌then◌else◌, append_assoc}
use Rattle.std.specs.Str.{bytes_eq}
use Rattle.assert_lang.specs.Grammar.{IsWritten}
use Rattle.assert_lang.specs.Keyword.{keyword_of}
use Rattle.assert_lang.specs.Misfit.{IsBegun, IsRefusedAt, MisfitsAreFirst, bare}
use Rattle.assert_lang.specs.Number.{count_of, range_of}
use Rattle.assert_lang.specs.Phrase.{Token, Phrase}
use Rattle.assert_lang.specs.Register.{register_of}
use Rattle.assert_lang.specs.Spot.{spot_of}
use Rattle.assert_lang.specs.Statement.{fitting, first_as, followed, place, register, range, count, itself, the_word, end, in_front, listed, made}
use Rattle.assert_lang.specs.Statement.{places, form, statement}
use Rattle.assert_lang.specs.declared.assertion.Body.{Body}
use Rattle.assert_lang.specs.declared.assertion.Body.TheVariants as body
use Rattle.assert_lang.specs.declared.keyword.Keyword.{Keyword}
use Rattle.assert_lang.specs.declared.keyword.Keyword.TheVariants as first
use Rattle.assert_lang.specs.declared.refusal.Expected.{Expected}
use Rattle.assert_lang.specs.declared.refusal.Expected.TheVariants as wanted
use Rattle.assert_lang.specs.declared.refusal.Fault.{Fault}
use Rattle.assert_lang.specs.declared.refusal.Fault.TheVariants.{Misfit}
use Rattle.assert_lang.specs.declared.spot.Spot.{Spot}
use Rattle.assert_lang.specs.declared.spot.Spot.TheVariants.{Name}
use Rattle.assert_lang.proofs.Grammars.{statements_written, itself_found, keyword_found}

-- a line of these words is read
record IsTaken {B : Type 0} (p : Phrase → Result B Fault) (tokens : List Token) : Type 0 where
  pub stop : ℕ
  pub value : B
  pub is : p (record { tokens = tokens; end = stop }) ≡ Ok value

-- where a line of these words is refused
data Refused {B : Type 0} (p : Phrase → Result B Fault) (tokens : List Token) (stop : ℕ) (column : ℕ) : Type 0 where
  AtWord : (earlier : List Token) (token : Token) (later more : List Token) → tokens ≡ earlier ++ token ∷ later → IsTaken p (earlier ++ more)
      → ((more : List Token) → ¬ IsTaken p (earlier ++ token ∷ more)) → column ≡ token.column → Refused p tokens stop column
  AtEnd : (more : List Token) → IsTaken p (tokens ++ more) → ¬ IsTaken p tokens → column ≡ stop → Refused p tokens stop column

-- what reads a line refuses it at its first misfit
abbrev IsStrict : {B : Type 0} → (Phrase → Result B Fault) → Type 0
IsStrict p = (tokens : List Token) (stop column : ℕ) (expected : Expected)
    → p (record { tokens = tokens; end = stop }) ≡ Err (Misfit column expected) → Refused p tokens stop column

-- some line is read
record IsLive {B : Type 0} (p : Phrase → Result B Fault) : Type 0 where
  pub tokens : List Token
  pub taken : IsTaken p tokens

-- a word as a token
abbrev as_token : List ℕ → Token
as_token word = record { word = word; column = 0 }

abbrev misfit : {B : Type 0} → ℕ → Expected → Result B Fault
misfit column expected = Err (Misfit column expected)

same_column : {B : Type 0} (column other : ℕ) (expected wanted : Expected) → misfit {B = B} other wanted ≡ misfit column expected → column ≡ other
same_column column other expected wanted is = cc

-- what one reads behind a word is refused where another refuses it
lift : {A B : Type 0} (p : Phrase → Result A Fault) (q : Phrase → Result B Fault) (token : Token) (rest : List Token) (stop column : ℕ)
    → ((ts : List Token) → IsTaken q ts → IsTaken p (token ∷ ts)) → ((ts : List Token) → IsTaken p (token ∷ ts) → IsTaken q ts)
    → Refused q rest stop column → Refused p (token ∷ rest) stop column
lift p q token rest stop column more less (Refused.AtWord earlier other behind others stands begun stuck at) =
    Refused.AtWord (token ∷ earlier) other behind others (ap (λ (ts : List Token). token ∷ ts) stands) (more (earlier ++ others) begun)
    (λ others t. stuck others (less (earlier ++ other ∷ others) t)) at
lift p q token rest stop column more less (Refused.AtEnd others begun stuck at) =
    Refused.AtEnd others (more (rest ++ others) begun) (λ t. stuck (less rest t)) at

-- the same with no word in front
through : {A B : Type 0} (p : Phrase → Result A Fault) (q : Phrase → Result B Fault) (tokens : List Token) (stop column : ℕ)
    → ((ts : List Token) → IsTaken q ts → IsTaken p ts) → ((ts : List Token) → IsTaken p ts → IsTaken q ts) → Refused q tokens stop column
    → Refused p tokens stop column
through p q tokens stop column more less (Refused.AtWord earlier other behind others stands begun stuck at) =
    Refused.AtWord earlier other behind others stands (more (earlier ++ others) begun) (λ others t. stuck others (less (earlier ++ other ∷ others) t)) at
through p q tokens stop column more less (Refused.AtEnd others begun stuck at) =
    Refused.AtEnd others (more (tokens ++ others) begun) (λ t. stuck (less tokens t)) at

module _ {A B : Type 0} (read : List ℕ → Option A) (expected : Expected) (more : A → Phrase → Result B Fault) where
  -- the first word as something, and what follows it
  abbrev both : Phrase → Result B Fault
  both phrase = followed more (first_as read expected phrase)

  -- a first word that is read leaves what follows
  steps : (token : Token) (rest : List Token) (stop : ℕ) (value : A) → read token.word ≡ Some value
      → both (record { tokens = token ∷ rest; end = stop }) ≡ more value (record { tokens = rest; end = stop })
  steps token rest stop value is = ap (λ (found : Option A). followed more
      (fitting (Misfit token.column expected) (record { tokens = rest; end = stop }) found)) is

  refuses : (token : Token) (rest : List Token) (stop : ℕ) → read token.word ≡ None
      → both (record { tokens = token ∷ rest; end = stop }) ≡ Err (Misfit token.column expected)
  refuses token rest stop is = ap (λ (found : Option A). followed more (fitting (Misfit token.column expected) (record { tokens = rest; end = stop }) found)) is

  taken_more : (token : Token) (rest : List Token) (value : A) → read token.word ≡ Some value → IsTaken (more value) rest → IsTaken both (token ∷ rest)
  taken_more token rest value is t = record { stop = t.stop; value = t.value; is = steps token rest t.stop value is ∙ t.is }

  taken_less : (token : Token) (rest : List Token) (value : A) → read token.word ≡ Some value → IsTaken both (token ∷ rest) → IsTaken (more value) rest
  taken_less token rest value is t = record { stop = t.stop; value = t.value; is = sym (steps token rest t.stop value is) ∙ t.is }

  not_taken : (token : Token) (rest : List Token) → read token.word ≡ None → ¬ IsTaken both (token ∷ rest)
  not_taken token rest is t = let e : misfit {B = B} token.column expected ≡ Ok t.value = sym (refuses token rest t.stop is) ∙ t.is in cc

  none_taken : ¬ IsTaken both []
  none_taken t = let e = t.is in cc

  live : (word : List ℕ) (value : A) → read word ≡ Some value → IsLive (more value) → IsLive both
  live word value is l = record { tokens = as_token word ∷ l.tokens; taken = taken_more (as_token word) l.tokens value is l.taken }

  strict : IsLive both → ((value : A) → IsStrict (more value)) → IsStrict both
  strict l each [] stop column wanted is = Refused.AtEnd l.tokens l.taken none_taken (same_column {B = B} column stop wanted expected is)
  strict l each (token ∷ rest) stop column wanted is = of (read token.word) refl where
    of : (found : Option A) → read token.word ≡ found → Refused both (token ∷ rest) stop column
    of None none = Refused.AtWord [] token rest l.tokens refl l.taken (λ others. not_taken token others none)
        (same_column {B = B} column token.column wanted expected (sym (refuses token rest stop none) ∙ is))
    of (Some value) some = lift both (more value) token rest stop column (λ ts. taken_more token ts value some)
        (λ ts. taken_less token ts value some) (each value rest stop column wanted (sym (steps token rest stop value some) ∙ is))

-- nothing follows
strict_end : {B : Type 0} (value : B) → IsStrict (end value)
strict_end value [] stop column expected is = cc
strict_end {B} value (token ∷ rest) stop column expected is =
    Refused.AtWord [] token rest [] refl (record { stop = 0; value = value; is = refl }) (λ others t. (let e = t.is in cc))
    (same_column {B = B} column token.column expected wanted.End is)

live_end : {B : Type 0} (value : B) → IsLive (end value)
live_end value = record { tokens = []; taken = record { stop = 0; value = value; is = refl } }

-- the list of places that begins with one, or goes on behind one
abbrev reading : Bool → Phrase → Result (List Spot) Fault
reading first phrase = listed first phrase.end phrase.tokens

-- the place `f`
abbrev some_spot : Token
some_spot = as_token (codes "f")

list_live : IsTaken (reading true) (some_spot ∷ [])
list_live = record { stop = 0; value = Name (codes "f") ∷ []; is = refl }

front_fails : (fault : Fault) (spot : Spot) (later : Result (List Spot) Fault) (column : ℕ) (expected : Expected)
    → in_front fault (Some spot) later ≡ misfit column expected → later ≡ misfit column expected
front_fails fault spot (Err other) column expected is = is
front_fails fault spot (Ok spots) column expected is = cc

record IsOkay (later : Result (List Spot) Fault) : Type 0 where
  pub spots : List Spot
  pub is : later ≡ Ok spots

front_okay : (fault : Fault) (spot : Spot) (later : Result (List Spot) Fault) (to : List Spot) → in_front fault (Some spot) later ≡ Ok to → IsOkay later
front_okay fault spot (Err other) to is = cc
front_okay fault spot (Ok spots) to is = record { spots = spots; is = refl }

spot_steps : (token : Token) (rest : List Token) (stop : ℕ) (found : Option Spot) → spot_of token.word ≡ found
    → listed true stop (token ∷ rest) ≡ in_front (Misfit token.column wanted.Place) found (listed false stop rest)
spot_steps token rest stop found is = ap (λ (f : Option Spot). in_front (Misfit token.column wanted.Place) f (listed false stop rest)) is

comma_steps : (token : Token) (rest : List Token) (stop : ℕ) (same : Bool) → bytes_eq token.word (codes ",") ≡ same
    → listed false stop (token ∷ rest) ≡ (if same then listed true stop rest else misfit token.column wanted.End)
comma_steps token rest stop same is = ap (λ (s : Bool). if s then listed true stop rest else misfit token.column wanted.End) is

spot_more : (token : Token) (spot : Spot) (rest : List Token) → spot_of token.word ≡ Some spot → IsTaken (reading false) rest
    → IsTaken (reading true) (token ∷ rest)
spot_more token spot rest is t = record {
  stop = t.stop;
  value = spot ∷ t.value;
  is = spot_steps token rest t.stop (Some spot) is ∙ ap (in_front (Misfit token.column wanted.Place) (Some spot)) t.is;
}

spot_less : (token : Token) (spot : Spot) (rest : List Token) → spot_of token.word ≡ Some spot → IsTaken (reading true) (token ∷ rest)
    → IsTaken (reading false) rest
spot_less token spot rest is t =
    let o = front_okay (Misfit token.column wanted.Place) spot (listed false t.stop rest) t.value (sym (spot_steps token rest t.stop (Some spot) is) ∙ t.is) in
    record { stop = t.stop; value = o.spots; is = o.is }

no_spot : (token : Token) (rest : List Token) → spot_of token.word ≡ None → ¬ IsTaken (reading true) (token ∷ rest)
no_spot token rest is t = let e : misfit {B = List Spot} token.column wanted.Place ≡ Ok t.value = sym (spot_steps token rest t.stop None is) ∙ t.is in cc

no_comma : (token : Token) (rest : List Token) → bytes_eq token.word (codes ",") ≡ false → ¬ IsTaken (reading false) (token ∷ rest)
no_comma token rest is t = let e : misfit {B = List Spot} token.column wanted.End ≡ Ok t.value = sym (comma_steps token rest t.stop false is) ∙ t.is in cc

no_list : ¬ IsTaken (reading true) []
no_list t = let e = t.is in cc

-- a list whose first word is a place is refused where what follows is, and one that goes on by a comma too
at_spot : (token : Token) (rest : List Token) (stop column : ℕ) (expected : Expected) (found : Option Spot) → spot_of token.word ≡ found
    → (listed false stop rest ≡ misfit column expected → Refused (reading false) rest stop column)
    → listed true stop (token ∷ rest) ≡ misfit column expected
    → Refused (reading true) (token ∷ rest) stop column
at_spot token rest stop column expected None none each is =
    Refused.AtWord [] token rest (some_spot ∷ []) refl list_live (λ others. no_spot token others none)
    (same_column {B = List Spot} column token.column expected wanted.Place (sym (spot_steps token rest stop None none) ∙ is))
at_spot token rest stop column expected (Some spot) some each is =
    lift (reading true) (reading false) token rest stop column (λ ts. spot_more token spot ts some) (λ ts. spot_less token spot ts some)
    (each (front_fails (Misfit token.column wanted.Place) spot (listed false stop rest) column expected
    (sym (spot_steps token rest stop (Some spot) some) ∙ is)))

at_comma : (token : Token) (rest : List Token) (stop column : ℕ) (expected : Expected) (same : Bool) → bytes_eq token.word (codes ",") ≡ same
    → (listed true stop rest ≡ misfit column expected → Refused (reading true) rest stop column)
    → listed false stop (token ∷ rest) ≡ misfit column expected
    → Refused (reading false) (token ∷ rest) stop column
at_comma token rest stop column expected true same each is =
    lift (reading false) (reading true) token rest stop column
    (λ ts t. record { stop = t.stop; value = t.value; is = comma_steps token ts t.stop true same ∙ t.is })
    (λ ts t. record { stop = t.stop; value = t.value; is = sym (comma_steps token ts t.stop true same) ∙ t.is })
    (each (sym (comma_steps token rest stop true same) ∙ is))
at_comma token rest stop column expected false other each is =
    Refused.AtWord [] token rest [] refl (record { stop = 0; value = []; is = refl }) (λ others. no_comma token others other)
    (same_column {B = List Spot} column token.column expected wanted.End (sym (comma_steps token rest stop false other) ∙ is))

strict_list : (tokens : List Token) (first : Bool) (stop column : ℕ) (expected : Expected) → listed first stop tokens ≡ misfit column expected
    → Refused (reading first) tokens stop column
strict_list [] true stop column expected is =
    Refused.AtEnd (some_spot ∷ []) list_live no_list (same_column {B = List Spot} column stop expected wanted.Place is)
strict_list [] false stop column expected is = cc
strict_list (token ∷ rest) true stop column expected is =
    at_spot token rest stop column expected (spot_of token.word) refl (strict_list rest false stop column expected) is
strict_list (token ∷ rest) false stop column expected is =
    at_comma token rest stop column expected (bytes_eq token.word (codes ",")) refl (strict_list rest true stop column expected) is

made_fails : (make : List Spot → Body) (list : Result (List Spot) Fault) (column : ℕ) (expected : Expected) → made make list ≡ misfit column expected
    → list ≡ misfit column expected
made_fails make (Err fault) column expected is = let same : fault ≡ Misfit column expected = cc in ap (λ (f : Fault). Err f) same
made_fails make (Ok to) column expected is = cc

made_okay : (make : List Spot → Body) (list : Result (List Spot) Fault) (value : Body) → made make list ≡ Ok value → IsOkay list
made_okay make (Err fault) value is = cc
made_okay make (Ok to) value is = record { spots = to; is = refl }

made_more : (make : List Spot → Body) (tokens : List Token) → IsTaken (reading true) tokens → IsTaken (places make) tokens
made_more make tokens t = record { stop = t.stop; value = make t.value; is = ap (made make) t.is }

made_less : (make : List Spot → Body) (tokens : List Token) → IsTaken (places make) tokens → IsTaken (reading true) tokens
made_less make tokens t = let o = made_okay make (listed true t.stop tokens) t.value t.is in record { stop = t.stop; value = o.spots; is = o.is }

strict_places : (make : List Spot → Body) → IsStrict (places make)
strict_places make tokens stop column expected is =
    through (places make) (reading true) tokens stop column (made_more make) (made_less make)
    (strict_list tokens true stop column expected (made_fails make (listed true stop tokens) column expected is))

live_places : (make : List Spot → Body) → IsLive (places make)
live_places make = record { tokens = some_spot ∷ []; taken = made_more make (some_spot ∷ []) list_live }

-- what each form reads
abbrev counting : (Spot → ℕ → Body) → List ℕ → Expected → Spot → Phrase → Result Body Fault
counting make link expected spot = the_word link expected (λ _. count (λ n. end (make spot n)))

abbrev aiming : (Spot → List Spot → Body) → Spot → Phrase → Result Body Fault
aiming make spot = the_word (codes "to") wanted.To (λ _. places (make spot))

live_spot : (more : Spot → Phrase → Result Body Fault) → IsLive (more (Name (codes "f"))) → IsLive (place more)
live_spot more l = live spot_of wanted.Place more (codes "f") (Name (codes "f")) refl l

live_count : (make : ℕ → Body) → IsLive (count (λ n. end (make n)))
live_count make = live count_of wanted.Count (λ n. end (make n)) (codes "1") 1 refl (live_end (make 1))

live_counting : (make : Spot → ℕ → Body) (link : List ℕ) (expected : Expected) (spot : Spot) → IsLive (counting make link expected spot)
live_counting make link expected spot = live (itself link) expected (λ _. count (λ n. end (make spot n))) link link (itself_found link) (live_count (make spot))

strict_counting : (make : Spot → ℕ → Body) (link : List ℕ) (expected : Expected) (spot : Spot) → IsStrict (counting make link expected spot)
strict_counting make link expected spot =
    strict (itself link) expected (λ _. count (λ n. end (make spot n))) (live_counting make link expected spot)
    (λ _. strict count_of wanted.Count (λ n. end (make spot n)) (live_count (make spot)) (λ n. strict_end (make spot n)))

live_aiming : (make : Spot → List Spot → Body) (spot : Spot) → IsLive (aiming make spot)
live_aiming make spot = live (itself (codes "to")) wanted.To (λ _. places (make spot)) (codes "to") (codes "to") refl (live_places (make spot))

strict_aiming : (make : Spot → List Spot → Body) (spot : Spot) → IsStrict (aiming make spot)
strict_aiming make spot = strict (itself (codes "to")) wanted.To (λ _. places (make spot)) (live_aiming make spot) (λ _. strict_places (make spot))

live_range : (spot : Spot) (reg : ℕ) → IsLive (range (λ ends. end (body.At spot reg ends.0 ends.1)))
live_range spot reg = live range_of wanted.Range (λ ends. end (body.At spot reg ends.0 ends.1)) (codes "0..0") (pos 0, pos 0) refl
    (live_end (body.At spot reg (pos 0) (pos 0)))

live_register : (spot : Spot) → IsLive (register (λ reg. range (λ ends. end (body.At spot reg ends.0 ends.1))))
live_register spot = live register_of wanted.Register (λ reg. range (λ ends. end (body.At spot reg ends.0 ends.1))) (codes "%g1") 1 refl (live_range spot 1)

strict_register : (spot : Spot) → IsStrict (register (λ reg. range (λ ends. end (body.At spot reg ends.0 ends.1))))
strict_register spot =
    strict register_of wanted.Register (λ reg. range (λ ends. end (body.At spot reg ends.0 ends.1))) (live_register spot)
    (λ reg. strict range_of wanted.Range (λ ends. end (body.At spot reg ends.0 ends.1)) (live_range spot reg)
    (λ ends. strict_end (body.At spot reg ends.0 ends.1)))

live_form : (keyword : Keyword) → IsLive (form keyword)
live_form first.Root = live_spot (λ spot. end (body.Root spot)) (live_end (body.Root (Name (codes "f"))))
live_form first.Never = live_spot (λ spot. end (body.Never spot)) (live_end (body.Never (Name (codes "f"))))
live_form first.At = live_spot (λ spot. register (λ reg. range (λ ends. end (body.At spot reg ends.0 ends.1)))) (live_register (Name (codes "f")))
live_form first.Jump = live_spot (aiming body.Jump) (live_aiming body.Jump (Name (codes "f")))
live_form first.Call = live_spot (aiming body.CallTo) (live_aiming body.CallTo (Name (codes "f")))
live_form first.Loop = live_spot (counting body.Loop (codes "repeats") wanted.Repeats)
    (live_counting body.Loop (codes "repeats") wanted.Repeats (Name (codes "f")))
live_form first.Stub = live_spot (counting body.Stub (codes "time") wanted.Time) (live_counting body.Stub (codes "time") wanted.Time (Name (codes "f")))

strict_form : (keyword : Keyword) → IsStrict (form keyword)
strict_form first.Root = strict spot_of wanted.Place (λ spot. end (body.Root spot)) (live_form first.Root) (λ spot. strict_end (body.Root spot))
strict_form first.Never = strict spot_of wanted.Place (λ spot. end (body.Never spot)) (live_form first.Never) (λ spot. strict_end (body.Never spot))
strict_form first.At = strict spot_of wanted.Place (λ spot. register (λ reg. range (λ ends. end (body.At spot reg ends.0 ends.1))))
    (live_form first.At) strict_register
strict_form first.Jump = strict spot_of wanted.Place (aiming body.Jump) (live_form first.Jump) (strict_aiming body.Jump)
strict_form first.Call = strict spot_of wanted.Place (aiming body.CallTo) (live_form first.Call) (strict_aiming body.CallTo)
strict_form first.Loop = strict spot_of wanted.Place (counting body.Loop (codes "repeats") wanted.Repeats) (live_form first.Loop)
    (strict_counting body.Loop (codes "repeats") wanted.Repeats)
strict_form first.Stub = strict spot_of wanted.Place (counting body.Stub (codes "time") wanted.Time) (live_form first.Stub)
    (strict_counting body.Stub (codes "time") wanted.Time)

strict_statement : IsStrict statement
strict_statement =
    strict keyword_of wanted.Keyword form
    (live keyword_of wanted.Keyword form (codes "root") first.Root (keyword_found first.Root) (live_form first.Root)) strict_form

-- words of tokens, one after the other
bare_both : (one other : List Token) → bare (one ++ other) ≡ bare one ++ bare other
bare_both [] other = refl
bare_both (token ∷ one) other = ap (λ (ws : List (List ℕ)). token.word ∷ ws) (bare_both one other)

bare_tokens : (words : List (List ℕ)) → bare (map as_token words) ≡ words
bare_tokens [] = refl
bare_tokens (word ∷ words) = ap (λ (ws : List (List ℕ)). word ∷ ws) (bare_tokens words)

-- words that begin a line that is read begin a statement
begun : (earlier more : List Token) → IsTaken statement (earlier ++ more) → IsBegun (bare earlier)
begun earlier more t = record {
  more = bare more;
  body = t.value;
  written = subst (λ (ws : List (List ℕ)). IsWritten ws t.value) (bare_both earlier more)
      ((statements_written (record { tokens = earlier ++ more; end = t.stop }) t.value).0 t.is);
}

-- words that write a statement are read
taken : (tokens : List Token) (value : Body) → IsWritten (bare tokens) value → IsTaken statement tokens
taken tokens value written = record { stop = 0; value = value; is = (statements_written (record { tokens = tokens; end = 0 }) value).1 written }

taken_begun : (earlier : List Token) (token : Token) → (b : IsBegun (bare earlier ++ token.word ∷ []))
    → IsTaken statement (earlier ++ token ∷ map as_token b.more)
taken_begun earlier token b =
    let words : bare (earlier ++ token ∷ map as_token b.more) ≡ (bare earlier ++ token.word ∷ []) ++ b.more =
    bare_both earlier (token ∷ map as_token b.more) ∙ ap (λ (ws : List (List ℕ)). bare earlier ++ token.word ∷ ws) (bare_tokens b.more)
    ∙ sym (append_assoc (bare earlier) (token.word ∷ []) b.more) in
    taken (earlier ++ token ∷ map as_token b.more) b.body (subst (λ (ws : List (List ℕ)). IsWritten ws b.body) (sym words) b.written)

refused_at : (phrase : Phrase) (column : ℕ) → Refused statement phrase.tokens phrase.end column → IsRefusedAt phrase column
refused_at phrase column (Refused.AtWord earlier token later more stands some stuck at) =
    IsRefusedAt.Unfit earlier token later stands (begun earlier more some) (λ b. stuck (map as_token b.more) (taken_begun earlier token b)) at
refused_at phrase column (Refused.AtEnd more some stuck at) =
    IsRefusedAt.Wanting (begun phrase.tokens more some) (λ value written. stuck (taken phrase.tokens value written)) at

-- a refusal names the first word that doesn't fit
pub misfits_first : MisfitsAreFirst
misfits_first phrase column expected is = refused_at phrase column (strict_statement phrase.tokens phrase.end column expected is)
