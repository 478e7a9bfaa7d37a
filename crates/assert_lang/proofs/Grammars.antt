-- Lines are read as the statements that their words write.
use Rattle.std.proofs.Common.{◌≡◌, ℕ, Bool, true, false, List, [], ◌∷◌, map, Option, Some, None, Result, Ok, Err, refl, sym, ap, subst, ◌∙◌, inl, inr}
use Rattle.std.proofs.Common.{codes, if◌then◌else◌, find}
use Rattle.std.specs.Str.{bytes_eq}
use Rattle.std.proofs.lemmas.Bool.{cases_Bool}
use Rattle.std.proofs.lemmas.Slice.Eq.{bytes_eq-Decides}
use Rattle.assert_lang.specs.Grammar.{IsPlaced, IsCounted, IsListed, IsAimed, IsWritten, StatementsAreWritten, words_of}
use Rattle.assert_lang.specs.Keyword.{keywords, keyword_of, name_of}
use Rattle.assert_lang.specs.Number.{count_of, range_of}
use Rattle.assert_lang.specs.Phrase.{Token, Phrase}
use Rattle.assert_lang.specs.Register.{register_of}
use Rattle.assert_lang.specs.Spot.{spot_of}
use Rattle.assert_lang.specs.Statement.{fitting, first_of, first_as, followed, place, register, range, count, itself, the_word, ended, end, in_front}
use Rattle.assert_lang.specs.Statement.{listed, made, places, form, statement}
use Rattle.assert_lang.specs.declared.assertion.Body.{Body}
use Rattle.assert_lang.specs.declared.assertion.Body.TheVariants as body
use Rattle.assert_lang.specs.declared.keyword.Keyword.{Keyword}
use Rattle.assert_lang.specs.declared.keyword.Keyword.TheVariants as first
use Rattle.assert_lang.specs.declared.refusal.Expected.{Expected}
use Rattle.assert_lang.specs.declared.refusal.Expected.TheVariants as wanted
use Rattle.assert_lang.specs.declared.refusal.Fault.{Fault}
use Rattle.assert_lang.specs.declared.refusal.Fault.TheVariants.{Misfit}
use Rattle.assert_lang.specs.declared.spot.Spot.{Spot}

-- the first word of a line was read as a value
record IsRead {A : Type 0} (read : List ℕ → Option A) (phrase : Phrase) (value : A) (rest : Phrase) : Type 0 where
  pub token : Token
  pub stands : phrase.tokens ≡ token ∷ rest.tokens
  pub is : read token.word ≡ Some value

from_fitting : {A : Type 0} (read : List ℕ → Option A) (fault : Fault) (token : Token) (next rest : Phrase) (value : A) (found : Option A)
    → read token.word ≡ found → fitting fault next found ≡ Ok (value, rest)
    → IsRead read (record { tokens = token ∷ next.tokens; end = next.end }) value rest
from_fitting read fault token next rest value None was is = cc
from_fitting {A} read fault token next rest value (Some other) was is =
    let pair : (other, next) ≡ (value, rest) = cc in
    record {
      token = token;
      stands = ap (λ (p : A × Phrase). token ∷ p.1.tokens) pair;
      is = was ∙ ap (λ (p : A × Phrase). Some p.0) pair;
    }

was_read : {A : Type 0} (read : List ℕ → Option A) (expected : Expected) (tokens : List Token) (end : ℕ) (value : A) (rest : Phrase)
    → first_of read expected end tokens ≡ Ok (value, rest)
    → IsRead read (record { tokens = tokens; end = end }) value rest
was_read read expected [] end value rest is = cc
was_read read expected (token ∷ more) end value rest is =
    from_fitting read (Misfit token.column expected) token (record { tokens = more; end = end }) rest value (read token.word) refl is

-- the first word, and what follows it
record Step {A B : Type 0} (read : List ℕ → Option A) (more : A → Phrase → Result B Fault) (phrase : Phrase) (result : B) : Type 0 where
  pub value : A
  pub rest : Phrase
  pub taken : IsRead read phrase value rest
  pub goes_on : more value rest ≡ Ok result

step : {A B : Type 0} (read : List ℕ → Option A) (expected : Expected) (more : A → Phrase → Result B Fault) (phrase : Phrase) (result : B)
    → followed more (first_as read expected phrase) ≡ Ok result → Step read more phrase result
step {A} {B} read expected more phrase result = of (first_as read expected phrase) refl where
  of : (answer : Result (A × Phrase) Fault) → first_as read expected phrase ≡ answer → followed more answer ≡ Ok result → Step read more phrase result
  of (Err fault) was is = cc
  of (Ok (value, rest)) was is = record { value = value; rest = rest; taken = was_read read expected phrase.tokens phrase.end value rest was; goes_on = is }

-- nothing follows
all_read : {B : Type 0} (value result : B) (tokens : List Token) → ended value tokens ≡ Ok result → (tokens ≡ []) × (value ≡ result)
all_read value result [] is = (refl, (let same : value ≡ result = cc in same))
all_read value result (token ∷ more) is = cc

-- the words of a line are the first and the others
words_first : {A : Type 0} {read : List ℕ → Option A} {phrase : Phrase} {value : A} {rest : Phrase} → (taken : IsRead read phrase value rest)
    → words_of phrase ≡ taken.token.word ∷ words_of rest
words_first taken = ap (λ (tokens : List Token). map (λ token. token.word) tokens) taken.stands

words_last : (phrase : Phrase) → phrase.tokens ≡ [] → words_of phrase ≡ []
words_last phrase none = ap (λ (tokens : List Token). map (λ token. token.word) tokens) none

-- a word that is another
itself_is : (text word value : List ℕ) → itself text word ≡ Some value → word ≡ text
itself_is text word value is = of (bytes_eq word text) refl is where
  of : (same : Bool) → bytes_eq word text ≡ same → (if same then Some text else None) ≡ Some value → word ≡ text
  of true passes found = (bytes_eq-Decides word text).0 passes
  of false fails found = cc

-- a keyword and a place
placed : (keyword : List ℕ) (make : Spot → Body) (phrase : Phrase) (result : Body)
    → ((spot : Spot) → IsPlaced keyword (keyword ∷ words_of phrase) spot → IsWritten (keyword ∷ words_of phrase) (make spot))
    → place (λ spot. end (make spot)) phrase ≡ Ok result → IsWritten (keyword ∷ words_of phrase) result
placed keyword make phrase result each is =
    let s = step spot_of wanted.Place (λ spot. end (make spot)) phrase result is in
    let e = all_read (make s.value) result s.rest.tokens s.goes_on in
    let ws : words_of phrase ≡ s.taken.token.word ∷ [] = words_first s.taken ∙ ap (λ (l : List (List ℕ)). s.taken.token.word ∷ l) (words_last s.rest e.0) in
    subst (IsWritten (keyword ∷ words_of phrase)) e.1
    (each s.value (record { place = s.taken.token.word; are = ap (λ (l : List (List ℕ)). keyword ∷ l) ws; spelled = s.taken.is }))

-- a keyword, a place, a word that leads on and a count
counted : (keyword link : List ℕ) (expected : Expected) (make : Spot → ℕ → Body) (phrase : Phrase) (result : Body)
    → ((spot : Spot) (n : ℕ) → IsCounted keyword link (keyword ∷ words_of phrase) spot n → IsWritten (keyword ∷ words_of phrase) (make spot n))
    → place (λ spot. the_word link expected (λ _. count (λ n. end (make spot n)))) phrase ≡ Ok result → IsWritten (keyword ∷ words_of phrase) result
counted keyword link expected make phrase result each is =
    let s = step spot_of wanted.Place (λ spot. the_word link expected (λ _. count (λ n. end (make spot n)))) phrase result is in
    let l = step (itself link) expected (λ _. count (λ n. end (make s.value n))) s.rest result s.goes_on in
    let k = step count_of wanted.Count (λ n. end (make s.value n)) l.rest result l.goes_on in
    let e = all_read (make s.value k.value) result k.rest.tokens k.goes_on in
    let third : words_of l.rest ≡ k.taken.token.word ∷ [] =
    words_first k.taken ∙ ap (λ (ws : List (List ℕ)). k.taken.token.word ∷ ws) (words_last k.rest e.0) in
    let second : words_of s.rest ≡ link ∷ k.taken.token.word ∷ [] =
    words_first l.taken ∙ (λ i. itself_is link l.taken.token.word l.value l.taken.is i ∷ third i) in
    let all : words_of phrase ≡ s.taken.token.word ∷ link ∷ k.taken.token.word ∷ [] =
    words_first s.taken ∙ ap (λ (ws : List (List ℕ)). s.taken.token.word ∷ ws) second in
    subst (IsWritten (keyword ∷ words_of phrase)) e.1
    (each s.value k.value (record {
      place = s.taken.token.word;
      number = k.taken.token.word;
      are = ap (λ (ws : List (List ℕ)). keyword ∷ ws) all;
      spelled = s.taken.is;
      counted = k.taken.is;
    }))

-- a place, a register and a range
ranged : (phrase : Phrase) (result : Body) → form first.At phrase ≡ Ok result → IsWritten (codes "at" ∷ words_of phrase) result
ranged phrase result is =
    let s = step spot_of wanted.Place (λ spot. register (λ reg. range (λ ends. end (body.At spot reg ends.0 ends.1)))) phrase result is in
    let r = step register_of wanted.Register (λ reg. range (λ ends. end (body.At s.value reg ends.0 ends.1))) s.rest result s.goes_on in
    let k = step range_of wanted.Range (λ ends. end (body.At s.value r.value ends.0 ends.1)) r.rest result r.goes_on in
    let e = all_read (body.At s.value r.value k.value.0 k.value.1) result k.rest.tokens k.goes_on in
    let third : words_of r.rest ≡ k.taken.token.word ∷ [] =
    words_first k.taken ∙ ap (λ (ws : List (List ℕ)). k.taken.token.word ∷ ws) (words_last k.rest e.0) in
    let second : words_of s.rest ≡ r.taken.token.word ∷ k.taken.token.word ∷ [] =
    words_first r.taken ∙ ap (λ (ws : List (List ℕ)). r.taken.token.word ∷ ws) third in
    let all : words_of phrase ≡ s.taken.token.word ∷ r.taken.token.word ∷ k.taken.token.word ∷ [] =
    words_first s.taken ∙ ap (λ (ws : List (List ℕ)). s.taken.token.word ∷ ws) second in
    subst (IsWritten (codes "at" ∷ words_of phrase)) e.1
    (record {
      place = s.taken.token.word;
      register = r.taken.token.word;
      range = k.taken.token.word;
      are = ap (λ (ws : List (List ℕ)). codes "at" ∷ ws) all;
      spelled = s.taken.is;
      named = r.taken.is;
      bounded = k.taken.is;
    })

-- one place at the end of a list
one_listed : (fault : Fault) (word : List ℕ) (found : Option Spot) (to : List Spot) → spot_of word ≡ found → in_front fault found (Ok []) ≡ Ok to
    → IsListed (word ∷ []) to
one_listed fault word None to was is = cc
one_listed fault word (Some spot) to was is = let same : spot ∷ [] ≡ to = cc in subst (IsListed (word ∷ [])) same (IsListed.One word spot was)

-- a place in front of a list
more_listed : (fault : Fault) (word : List ℕ) (words : List (List ℕ)) (found : Option Spot) (later : Result (List Spot) Fault) (to : List Spot)
    → spot_of word ≡ found → ((spots : List Spot) → later ≡ Ok spots → IsListed words spots)
    → in_front fault found later ≡ Ok to → IsListed (word ∷ codes "," ∷ words) to
more_listed fault word words None later to was each is = cc
more_listed fault word words (Some spot) (Err other) to was each is = cc
more_listed fault word words (Some spot) (Ok spots) to was each is =
    let same : spot ∷ spots ≡ to = cc in
    subst (IsListed (word ∷ codes "," ∷ words)) same (IsListed.More word spot words spots was (each spots refl))

-- two words or more of a list: a place, and a comma in front of others
comma_listed : (stop : ℕ) (token comma : Token) (rest : List Token) (to : List Spot) (same : Bool) → bytes_eq comma.word (codes ",") ≡ same
    → ((spots : List Spot) → listed true stop rest ≡ Ok spots → IsListed (map (λ token. token.word) rest) spots)
    → in_front (Misfit token.column wanted.Place) (spot_of token.word) (if same then listed true stop rest else Err (Misfit comma.column wanted.End)) ≡ Ok to
    → IsListed (token.word ∷ comma.word ∷ map (λ token. token.word) rest) to
comma_listed stop token comma rest to true passes each is =
    subst (λ (word : List ℕ). IsListed (token.word ∷ word ∷ map (λ token. token.word) rest) to) (sym ((bytes_eq-Decides comma.word (codes ",")).0 passes))
    (more_listed (Misfit token.column wanted.Place) token.word (map (λ token. token.word) rest) (spot_of token.word) (listed true stop rest) to refl each is)
comma_listed stop token comma rest to false fails each is = refused (spot_of token.word) is where
  refused : (found : Option Spot) → in_front (Misfit token.column wanted.Place) found (Err (Misfit comma.column wanted.End)) ≡ Ok to
      → IsListed (token.word ∷ comma.word ∷ map (λ token. token.word) rest) to
  refused None is = cc
  refused (Some spot) is = cc

listed_is : (stop : ℕ) (tokens : List Token) (to : List Spot) → listed true stop tokens ≡ Ok to → IsListed (map (λ token. token.word) tokens) to
listed_is stop [] to is = cc
listed_is stop (token ∷ []) to is = one_listed (Misfit token.column wanted.Place) token.word (spot_of token.word) to refl is
listed_is stop (token ∷ comma ∷ rest) to is = comma_listed stop token comma rest to (bytes_eq comma.word (codes ",")) refl (listed_is stop rest) is

-- a body made of a list
record IsMade (make : List Spot → Body) (answer : Result (List Spot) Fault) (result : Body) : Type 0 where
  pub to : List Spot
  pub list : answer ≡ Ok to
  pub is : make to ≡ result

made_ok : (make : List Spot → Body) (answer : Result (List Spot) Fault) (result : Body) → made make answer ≡ Ok result → IsMade make answer result
made_ok make (Err fault) result is = cc
made_ok make (Ok to) result is = record { to = to; list = refl; is = (let same : make to ≡ result = cc in same) }

-- a keyword, a place, `to` and a list of places
aimed : (keyword : List ℕ) (make : Spot → List Spot → Body) (phrase : Phrase) (result : Body)
    → ((spot : Spot) (to : List Spot) → IsAimed keyword (keyword ∷ words_of phrase) spot to → IsWritten (keyword ∷ words_of phrase) (make spot to))
    → place (λ spot. the_word (codes "to") wanted.To (λ _. places (make spot))) phrase ≡ Ok result → IsWritten (keyword ∷ words_of phrase) result
aimed keyword make phrase result each is =
    let s = step spot_of wanted.Place (λ spot. the_word (codes "to") wanted.To (λ _. places (make spot))) phrase result is in
    let l = step (itself (codes "to")) wanted.To (λ _. places (make s.value)) s.rest result s.goes_on in
    let m = made_ok (make s.value) (listed true l.rest.end l.rest.tokens) result l.goes_on in
    let second : words_of s.rest ≡ codes "to" ∷ words_of l.rest =
    words_first l.taken ∙ ap (λ (w : List ℕ). w ∷ words_of l.rest) (itself_is (codes "to") l.taken.token.word l.value l.taken.is) in
    let all : words_of phrase ≡ s.taken.token.word ∷ codes "to" ∷ words_of l.rest =
    words_first s.taken ∙ ap (λ (ws : List (List ℕ)). s.taken.token.word ∷ ws) second in
    subst (IsWritten (keyword ∷ words_of phrase)) m.is
    (each s.value m.to (record {
      place = s.taken.token.word;
      list = words_of l.rest;
      are = ap (λ (ws : List (List ℕ)). keyword ∷ ws) all;
      spelled = s.taken.is;
      listed = listed_is l.rest.end l.rest.tokens m.to m.list;
    }))

-- what follows a keyword
form_is : (keyword : Keyword) (phrase : Phrase) (result : Body) → form keyword phrase ≡ Ok result → IsWritten (name_of keyword ∷ words_of phrase) result
form_is first.Root phrase result is = placed (codes "root") body.Root phrase result (λ spot p. p) is
form_is first.Never phrase result is = placed (codes "never") body.Never phrase result (λ spot p. p) is
form_is first.At phrase result is = ranged phrase result is
form_is first.Jump phrase result is = aimed (codes "jump") body.Jump phrase result (λ spot to p. p) is
form_is first.Call phrase result is = aimed (codes "call") body.CallTo phrase result (λ spot to p. p) is
form_is first.Loop phrase result is = counted (codes "loop") (codes "repeats") wanted.Repeats body.Loop phrase result (λ spot n p. p) is
form_is first.Stub phrase result is = counted (codes "stub") (codes "time") wanted.Time body.Stub phrase result (λ spot n p. p) is

-- what is found passes
found_passes : (p : Keyword → Bool) (keywords : List Keyword) (keyword : Keyword) → find p keywords ≡ Some keyword → p keyword ≡ true
found_passes p [] keyword is = cc
found_passes p (other ∷ rest) keyword is = elim (cases_Bool (p other)) [
  | inl passes ↦ (let same : other ≡ keyword = (let e = rw passes at is in cc) in subst (λ (k : Keyword). p k ≡ true) same passes)
  | inr fails ↦ found_passes p rest keyword (rw fails at is)
]

-- a keyword is written by its name
keyword_is : (word : List ℕ) (keyword : Keyword) → keyword_of word ≡ Some keyword → word ≡ name_of keyword
unfolding keyword_of
keyword_is word keyword is = sym ((bytes_eq-Decides (name_of keyword) word).0 (found_passes (λ k. bytes_eq (name_of k) word) keywords keyword is))

read_is_written : (phrase : Phrase) (result : Body) → statement phrase ≡ Ok result → IsWritten (words_of phrase) result
read_is_written phrase result is =
    let s = step keyword_of wanted.Keyword form phrase result is in
    let words : words_of phrase ≡ name_of s.value ∷ words_of s.rest =
    words_first s.taken ∙ ap (λ (w : List ℕ). w ∷ words_of s.rest) (keyword_is s.taken.token.word s.value s.taken.is) in
    subst (λ (ws : List (List ℕ)). IsWritten ws result) (sym words) (form_is s.value s.rest result s.goes_on)

-- the tokens of words
record Shape (tokens : List Token) (word : List ℕ) (words : List (List ℕ)) : Type 0 where
  pub token : Token
  pub rest : List Token
  pub stands : tokens ≡ token ∷ rest
  pub spells : word ≡ token.word
  pub goes_on : map (λ token. token.word) rest ≡ words

shape : (tokens : List Token) (word : List ℕ) (words : List (List ℕ)) → map (λ token. token.word) tokens ≡ word ∷ words → Shape tokens word words
shape [] word words is = cc
shape (token ∷ rest) word words is = record { token = token; rest = rest; stands = refl; spells = cc; goes_on = cc }

-- a word that is what it is to be is read, and then what follows
go : {A B : Type 0} (read : List ℕ → Option A) (expected : Expected) (more : A → Phrase → Result B Fault) (phrase : Phrase) (word : List ℕ)
    (words : List (List ℕ)) (value : A) (result : B)
    → words_of phrase ≡ word ∷ words → read word ≡ Some value → ((rest : Phrase) → words_of rest ≡ words → more value rest ≡ Ok result)
    → followed more (first_as read expected phrase) ≡ Ok result
go read expected more phrase word words value result are is each =
    let s = shape phrase.tokens word words are in
    let rest : Phrase = record { tokens = s.rest; end = phrase.end } in
    ap (λ (tokens : List Token). followed more (first_of read expected phrase.end tokens)) s.stands
    ∙ ap (λ (found : Option _). followed more (fitting (Misfit s.token.column expected) rest found)) (ap read (sym s.spells) ∙ is)
    ∙ each rest s.goes_on

-- nothing follows
stop_here : {B : Type 0} (value : B) (phrase : Phrase) → words_of phrase ≡ [] → end value phrase ≡ Ok value
stop_here value phrase none = of phrase.tokens none where
  of : (tokens : List Token) → map (λ token. token.word) tokens ≡ [] → ended value tokens ≡ Ok value
  of [] none = refl
  of (token ∷ more) none = cc

-- a text is itself
pub itself_found : (text : List ℕ) → itself text text ≡ Some text
itself_found text = rw ((bytes_eq-Decides text text).1 refl) refl

-- each keyword is found by its name
pub keyword_found : (keyword : Keyword) → keyword_of (name_of keyword) ≡ Some keyword
unfolding keyword_of
keyword_found first.Root = refl
keyword_found first.Never = refl
keyword_found first.At = refl
keyword_found first.Jump = refl
keyword_found first.Call = refl
keyword_found first.Loop = refl
keyword_found first.Stub = refl

no_tokens : (tokens : List Token) → map (λ token. token.word) tokens ≡ [] → tokens ≡ []
no_tokens [] none = refl
no_tokens (token ∷ more) none = cc

-- a place of a list, and what follows it
place_read : (word : List ℕ) (words : List (List ℕ)) (spot : Spot) (spots : List Spot) (stop : ℕ) (tokens : List Token) → spot_of word ≡ Some spot
    → (s : Shape tokens word words) → listed false stop s.rest ≡ Ok spots → listed true stop tokens ≡ Ok (spot ∷ spots)
place_read word words spot spots stop tokens is s later =
    ap (listed true stop) s.stands
    ∙ ap (λ (found : Option Spot). in_front (Misfit s.token.column wanted.Place) found (listed false stop s.rest)) (ap spot_of (sym s.spells) ∙ is)
    ∙ ap (in_front (Misfit s.token.column wanted.Place) (Some spot)) later

-- a comma, and what follows it
comma_read : (words : List (List ℕ)) (stop : ℕ) (tokens : List Token) → (s : Shape tokens (codes ",") words)
    → listed false stop tokens ≡ listed true stop s.rest
comma_read words stop tokens s =
    ap (listed false stop) s.stands
    ∙ ap (λ (word : List ℕ). if bytes_eq word (codes ",") then listed true stop s.rest else Err (Misfit s.token.column wanted.End)) (sym s.spells)

-- a list that is written is read
list_read : (words : List (List ℕ)) (to : List Spot) → IsListed words to → (stop : ℕ) (tokens : List Token)
    → map (λ token. token.word) tokens ≡ words → listed true stop tokens ≡ Ok to
list_read words to (IsListed.One word spot is) stop tokens are =
    let s = shape tokens word [] are in
    place_read word [] spot [] stop tokens is s (ap (listed false stop) (no_tokens s.rest s.goes_on))
list_read words to (IsListed.More word spot behind spots is later) stop tokens are =
    let s = shape tokens word (codes "," ∷ behind) are in
    let c = shape s.rest (codes ",") behind s.goes_on in
    place_read word (codes "," ∷ behind) spot spots stop tokens is s (comma_read behind stop s.rest c ∙ list_read behind spots later stop c.rest c.goes_on)

with_keyword : (keyword : Keyword) (phrase : Phrase) (words : List (List ℕ)) (result : Body) → words_of phrase ≡ name_of keyword ∷ words
    → ((rest : Phrase) → words_of rest ≡ words → form keyword rest ≡ Ok result) → statement phrase ≡ Ok result
with_keyword keyword phrase words result are each =
    go keyword_of wanted.Keyword form phrase (name_of keyword) words keyword result are (keyword_found keyword) each

counted_read : (keyword : Keyword) (link : List ℕ) (expected : Expected) (make : Spot → ℕ → Body) (spot : Spot) (n : ℕ) (phrase : Phrase)
    → ((rest : Phrase) → form keyword rest ≡ place (λ spot. the_word link expected (λ _. count (λ n. end (make spot n)))) rest)
    → IsCounted (name_of keyword) link (words_of phrase) spot n → statement phrase ≡ Ok (make spot n)
counted_read keyword link expected make spot n phrase same w =
    with_keyword keyword phrase (w.place ∷ link ∷ w.number ∷ []) (make spot n) w.are
    (λ rest are.
    same rest
    ∙ go spot_of wanted.Place (λ spot. the_word link expected (λ _. count (λ n. end (make spot n)))) rest w.place (link ∷ w.number ∷ []) spot
    (make spot n) are w.spelled
    (λ second more.
    go (itself link) expected (λ _. count (λ n. end (make spot n))) second link (w.number ∷ []) link (make spot n) more (itself_found link)
    (λ third last. go count_of wanted.Count (λ n. end (make spot n)) third w.number [] n (make spot n) last w.counted (stop_here (make spot n)))))

aimed_read : (keyword : Keyword) (make : Spot → List Spot → Body) (spot : Spot) (to : List Spot) (phrase : Phrase)
    → ((rest : Phrase) → form keyword rest ≡ place (λ spot. the_word (codes "to") wanted.To (λ _. places (make spot))) rest)
    → IsAimed (name_of keyword) (words_of phrase) spot to → statement phrase ≡ Ok (make spot to)
aimed_read keyword make spot to phrase same w =
    with_keyword keyword phrase (w.place ∷ codes "to" ∷ w.list) (make spot to) w.are
    (λ rest are.
    same rest
    ∙ go spot_of wanted.Place (λ spot. the_word (codes "to") wanted.To (λ _. places (make spot))) rest w.place (codes "to" ∷ w.list) spot
    (make spot to) are w.spelled
    (λ second more.
    go (itself (codes "to")) wanted.To (λ _. places (make spot)) second (codes "to") w.list (codes "to") (make spot to) more (itself_found (codes "to"))
    (λ third last. ap (made (make spot)) (list_read w.list to w.listed third.end third.tokens last))))

written_is_read : (phrase : Phrase) (result : Body) → IsWritten (words_of phrase) result → statement phrase ≡ Ok result
written_is_read phrase (body.Root spot) w =
    with_keyword first.Root phrase (w.place ∷ []) (body.Root spot) w.are
    (λ rest are. go spot_of wanted.Place (λ spot. end (body.Root spot)) rest w.place [] spot (body.Root spot) are w.spelled (stop_here (body.Root spot)))
written_is_read phrase (body.Never spot) w =
    with_keyword first.Never phrase (w.place ∷ []) (body.Never spot) w.are
    (λ rest are. go spot_of wanted.Place (λ spot. end (body.Never spot)) rest w.place [] spot (body.Never spot) are w.spelled (stop_here (body.Never spot)))
written_is_read phrase (body.At spot reg lo hi) w =
    with_keyword first.At phrase (w.place ∷ w.register ∷ w.range ∷ []) (body.At spot reg lo hi) w.are
    (λ rest are.
    go spot_of wanted.Place (λ spot. register (λ reg. range (λ ends. end (body.At spot reg ends.0 ends.1)))) rest w.place
    (w.register ∷ w.range ∷ []) spot (body.At spot reg lo hi) are w.spelled
    (λ second more.
    go register_of wanted.Register (λ reg. range (λ ends. end (body.At spot reg ends.0 ends.1))) second w.register (w.range ∷ []) reg
    (body.At spot reg lo hi) more w.named
    (λ third last. go range_of wanted.Range (λ ends. end (body.At spot reg ends.0 ends.1)) third w.range [] (lo, hi)
    (body.At spot reg lo hi) last w.bounded (stop_here (body.At spot reg lo hi)))))
written_is_read phrase (body.Jump spot to) w = aimed_read first.Jump body.Jump spot to phrase (λ rest. refl) w
written_is_read phrase (body.CallTo spot to) w = aimed_read first.Call body.CallTo spot to phrase (λ rest. refl) w
written_is_read phrase (body.Loop spot n) w = counted_read first.Loop (codes "repeats") wanted.Repeats body.Loop spot n phrase (λ rest. refl) w
written_is_read phrase (body.Stub spot n) w = counted_read first.Stub (codes "time") wanted.Time body.Stub spot n phrase (λ rest. refl) w

-- words are read as a statement exactly where the grammar writes it so
pub statements_written : StatementsAreWritten
statements_written phrase result = (read_is_written phrase result, written_is_read phrase result)
