-- The places of a list, one after the other.
use Rattle.std.proofs.Common.{◌≡◌, ℕ, true, false, List, [], ◌∷◌, ◌++◌, Option, Some, None, Result, Ok, Err, refl, sym, ap, ◌∙◌}
use Rattle.std.proofs.lemmas.List.{append-nil, append_assoc}
use Rattle.assert_lang.specs.Phrase.{Token, Phrase}
use Rattle.assert_lang.specs.Spot.{spot_of}
use Rattle.assert_lang.specs.Statement.{first_as, fitting, in_front, listed, IsFaultOf}
use Rattle.assert_lang.specs.declared.refusal.Fault.{Fault}
use Rattle.assert_lang.specs.declared.refusal.Fault.TheVariants.{Misfit, Want}
use Rattle.assert_lang.specs.declared.refusal.Expected.TheVariants as wanted
use Rattle.assert_lang.specs.declared.spot.Spot.{Spot}

-- places in front of others
abbrev pub behind : List Spot → Result (List Spot) Fault → Result (List Spot) Fault
behind spots (Err fault) = Err fault
behind spots (Ok more) = Ok (spots ++ more)

-- the list that begins with a place, and what goes on behind one
abbrev pub left : Phrase → Result (List Spot) Fault
left phrase = listed true phrase.end phrase.tokens

-- what is left of a list of places behind one of them
abbrev pub further : Phrase → Result (List Spot) Fault
further phrase = listed false phrase.end phrase.tokens

pub nothing_yet : (rest : Result (List Spot) Fault) → rest ≡ behind [] rest
nothing_yet (Err fault) = refl
nothing_yet (Ok more) = refl

one_in_front : (fault : Fault) (spot : Spot) (rest : Result (List Spot) Fault) → in_front fault (Some spot) rest ≡ behind (spot ∷ []) rest
one_in_front fault spot (Err later) = refl
one_in_front fault spot (Ok more) = refl

behind_both : (xs ys : List Spot) (rest : Result (List Spot) Fault) → behind xs (behind ys rest) ≡ behind (xs ++ ys) rest
behind_both xs ys (Err fault) = refl
behind_both xs ys (Ok more) = ap (λ (l : List Spot). Ok l) (sym (append_assoc xs ys more))

-- what a first word is that is a place
taken : (fault : Fault) (found : Option Spot) (spot : Spot) (next rest : Phrase) → fitting fault next found ≡ Ok (spot, rest)
    → in_front fault found (further next) ≡ behind (spot ∷ []) (further rest)
taken fault None spot next rest is = cc
taken fault (Some other) spot next rest is =
    let pair : (other, next) ≡ (spot, rest) = cc in
    let same : other ≡ spot = ap (λ (p : Spot × Phrase). p.0) pair in
    let onward : next ≡ rest = ap (λ (p : Spot × Phrase). p.1) pair in
    one_in_front fault other (further next) ∙ (λ i. behind (same i ∷ []) (further (onward i)))

first_taken : (tokens : List Token) (end : ℕ) (spot : Spot) (rest : Phrase)
    → first_as spot_of wanted.Place (record { tokens = tokens; end = end }) ≡ Ok (spot, rest)
    → listed true end tokens ≡ behind (spot ∷ []) (further rest)
first_taken [] end spot rest is = cc
first_taken (token ∷ tokens) end spot rest is =
    taken (Misfit token.column wanted.Place) (spot_of token.word) spot (record { tokens = tokens; end = end }) rest is

-- one place more
pub one_more : (all : Result (List Spot) Fault) (spots : List Spot) (words rest : Phrase) (spot : Spot) → all ≡ behind spots (left words)
    → first_as spot_of wanted.Place words ≡ Ok (spot, rest)
    → all ≡ behind (spots ++ spot ∷ []) (further rest)
one_more all spots words rest spot so_far is =
    so_far ∙ ap (behind spots) (first_taken words.tokens words.end spot rest is) ∙ behind_both spots (spot ∷ []) (further rest)

-- the fault of what comes next is that of the list
pub fault_next : (all : Result (List Spot) Fault) (spots : List Spot) (fault : Fault) (next : Result (List Spot) Fault) → all ≡ behind spots next
    → IsFaultOf next fault → IsFaultOf all fault
fault_next all spots Want next is fails = tt
fault_next all spots (Misfit column expected) next is fails = is ∙ ap (behind spots) fails

-- a list that is a fault has that fault
pub is_fault : {A : Type 0} (defined : Result A Fault) (fault : Fault) → defined ≡ Err fault → IsFaultOf defined fault
is_fault defined Want is = tt
is_fault defined (Misfit column expected) is = is

place_fault : (fault : Fault) (found : Option Spot) (next : Phrase) (why : Fault) → fitting fault next found ≡ Err why
    → in_front fault found (further next) ≡ Err why
place_fault fault None next why is = let same : fault ≡ why = cc in ap (λ (f : Fault). Err f) same
place_fault fault (Some spot) next why is = cc

first_fault : (tokens : List Token) (end : ℕ) (why : Fault) → first_as spot_of wanted.Place (record { tokens = tokens; end = end }) ≡ Err why
    → listed true end tokens ≡ Err why
first_fault [] end why is = let same : Misfit end wanted.Place ≡ why = cc in ap (λ (f : Fault). Err f) same
first_fault (token ∷ tokens) end why is = place_fault (Misfit token.column wanted.Place) (spot_of token.word) (record { tokens = tokens; end = end }) why is

-- the fault of a word that is no place is that of the list that begins with it
pub no_place : (words : Phrase) (fault : Fault) → IsFaultOf (first_as spot_of wanted.Place words) fault → IsFaultOf (left words) fault
no_place words Want fails = tt
no_place words (Misfit column expected) fails = first_fault words.tokens words.end (Misfit column expected) fails

-- the list ends
pub no_more : (all : Result (List Spot) Fault) (spots : List Spot) (next : Result (List Spot) Fault) → all ≡ behind spots next → next ≡ Ok [] → all ≡ Ok spots
no_more all spots next is none = is ∙ ap (behind spots) none ∙ ap (λ (l : List Spot). Ok l) (append-nil spots)
