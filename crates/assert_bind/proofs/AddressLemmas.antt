-- The addresses of places, one after the other.
use Rattle.std.proofs.Common.{◌≡◌, ℕ, ◌+◌, ◌<◌, ◌≤◌, List, [], ◌∷◌, ◌++◌, length, drop, get_or, Result, Ok, Err, refl}
use Rattle.std.proofs.Common.{sym, ◌∙◌, ap, append_assoc, append-nil, add-one, drop-cons}
use Rattle.std.proofs.lemmas.List.{drop_all}
use Rattle.assert_lang.specs.declared.spot.Spot.{Spot}
use Rattle.assert_bind.specs.Address.{bound_place, bound_places, in_front}
use Rattle.assert_bind.specs.Body.{IsRefusalOf}
use Rattle.assert_bind.specs.declared.refusal.BindRefusal.{BindRefusal}
use Rattle.assert_bind.specs.declared.refusal.BindRefusal.TheVariants as refusal

-- addresses in front of others
abbrev pub fronted : List ℕ → Result (List ℕ) BindRefusal → Result (List ℕ) BindRefusal
fronted list (Err why) = Err why
fronted list (Ok more) = Ok (list ++ more)

fronted_none : (rest : Result (List ℕ) BindRefusal) → rest ≡ fronted [] rest
fronted_none (Err why) = refl
fronted_none (Ok more) = refl

fronted_more : (list : List ℕ) (a : ℕ) (rest : Result (List ℕ) BindRefusal) → fronted list (in_front (Ok a) rest) ≡ fronted (list ++ a ∷ []) rest
fronted_more list a (Err why) = refl
fronted_more list a (Ok more) = ap (λ (l : List ℕ). Ok l) (sym (append_assoc list (a ∷ []) more))

-- what the places from k on give behind these addresses
abbrev pub left_of : List ℕ → ℕ → List Spot → List ℕ → ℕ → Result (List ℕ) BindRefusal
left_of image line spots list k = fronted list (bound_places image line (drop k spots))

pub nothing_yet : (image : List ℕ) (line : ℕ) (spots : List Spot) → bound_places image line spots ≡ left_of image line spots [] 0
nothing_yet image line spots = fronted_none (bound_places image line spots)

next : (image : List ℕ) (line : ℕ) (spots : List Spot) (list : List ℕ) (k : ℕ) (d : Spot) → k < length spots
    → left_of image line spots list k ≡ fronted list (in_front (bound_place image line (get_or spots k d)) (bound_places image line (drop (k + 1) spots)))
next image line spots list k d less =
    let split : drop k spots ≡ get_or spots k d ∷ drop (k + 1) spots = rw add-one (drop-cons spots k d less) in
    ap (λ (l : List Spot). fronted list (bound_places image line l)) split

-- the next place has an address
pub one_more : (image : List ℕ) (line : ℕ) (spots : List Spot) (list : List ℕ) (k : ℕ) (d : Spot) (a : ℕ) → k < length spots
    → bound_place image line (get_or spots k d) ≡ Ok a → left_of image line spots list k ≡ left_of image line spots (list ++ a ∷ []) (k + 1)
one_more image line spots list k d a less is =
    next image line spots list k d less
    ∙ ap (λ (r : Result ℕ BindRefusal). fronted list (in_front r (bound_places image line (drop (k + 1) spots)))) is
    ∙ fronted_more list a (bound_places image line (drop (k + 1) spots))

-- the next place has none
pub refused_next : (image : List ℕ) (line : ℕ) (spots : List Spot) (list : List ℕ) (k : ℕ) (d : Spot) (why : BindRefusal) → k < length spots
    → bound_place image line (get_or spots k d) ≡ Err why → left_of image line spots list k ≡ Err why
refused_next image line spots list k d why less is =
    next image line spots list k d less
    ∙ ap (λ (r : Result ℕ BindRefusal). fronted list (in_front r (bound_places image line (drop (k + 1) spots)))) is

-- no place is left
pub no_more : (image : List ℕ) (line : ℕ) (spots : List Spot) (list : List ℕ) (k : ℕ) → length spots ≤ k → left_of image line spots list k ≡ Ok list
no_more image line spots list k all =
    ap (λ (l : List Spot). fronted list (bound_places image line l)) (drop_all k spots all) ∙ ap (λ (l : List ℕ). Ok l) (append-nil list)

-- what something is refused with is its refusal
pub is_refusal : {A : Type 0} (defined : Result A BindRefusal) (why : BindRefusal) → defined ≡ Err why → IsRefusalOf defined why
is_refusal defined (refusal.NoName line) e = e
is_refusal defined (refusal.NotCode line addr) e = e
is_refusal defined (refusal.EmptyRange line) e = e
is_refusal defined (refusal.Conflict line other) e = e
is_refusal defined refusal.Want e = tt
