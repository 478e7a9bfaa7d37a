-- What a statement is bound to is what it says, and what refuses it is why it says nothing.
use Rattle.std.proofs.Common.{◌≡◌, ℕ, ℤ, ◌≤ℤ◌, ◌<ℤ◌, Bool, true, false, List, [], ◌∷◌, ◌++◌, Option, Some, None, Result}
use Rattle.std.proofs.Common.{Ok, Err, refl, ◌∙◌, ap, subst, arith, ◌⊎◌, inl, inr, if◌then◌else◌}
use Rattle.std.specs.Prelude.{int_le}
use Rattle.assert_lang.specs.declared.assertion.Body.{Body}
use Rattle.assert_lang.specs.declared.assertion.Body.TheVariants as written
use Rattle.assert_lang.specs.declared.spot.Spot.{Spot}
use Rattle.bt_image.specs.Image.{is_code}
use Rattle.assert_bind.specs.Address.{address_of, bound_place, bound_places, code_address, in_front}
use Rattle.assert_bind.specs.Body.{IsCode, bound_body, followed, made, ranged}
use Rattle.assert_bind.specs.Says.{IsAddressOf, AreAddressesOf, Says, IsMisplaced, IsFirstMisplaced, SaysNothing, places_of}
use Rattle.assert_bind.specs.declared.body.BoundBody.{BoundBody}
use Rattle.assert_bind.specs.declared.body.BoundBody.TheVariants as body
use Rattle.assert_bind.specs.declared.refusal.BindRefusal.{BindRefusal}
use Rattle.assert_bind.specs.declared.refusal.BindRefusal.TheVariants.{NoName, NotCode, EmptyRange}

-- a value that something follows, with what it gives
pub record IsFollowed {A B : Type 0} (more : A → Result B BindRefusal) (first : Result A BindRefusal) (answer : Result B BindRefusal) : Type 0 where
  pub value : A
  pub is : first ≡ Ok value
  pub gives : more value ≡ answer

-- an answer of two steps is that of the second behind the first
pub followed_ok : {A B : Type 0} (more : A → Result B BindRefusal) (first : Result A BindRefusal) (b : B)
    → followed more first ≡ Ok b → IsFollowed more first (Ok b)
followed_ok more (Err why) b is = cc
followed_ok more (Ok a) b is = record { value = a; is = refl; gives = is }

-- a refusal of two steps is that of the first, or of the second behind it
pub followed_err : {A B : Type 0} (more : A → Result B BindRefusal) (first : Result A BindRefusal) (why : BindRefusal)
    → followed more first ≡ Err why → (first ≡ Err why) ⊎ IsFollowed more first (Err why)
followed_err more (Err other) why is = let same : other ≡ why = cc in inl (ap (λ (w : BindRefusal). Err w) same)
followed_err more (Ok a) why is = inr (record { value = a; is = refl; gives = is })

record IsMade {A B : Type 0} (make : A → B) (first : Result A BindRefusal) (b : B) : Type 0 where
  pub value : A
  pub is : first ≡ Ok value
  pub gives : make value ≡ b

made_ok : {A B : Type 0} (make : A → B) (first : Result A BindRefusal) (b : B) → made make first ≡ Ok b → IsMade make first b
made_ok make (Err why) b is = cc
made_ok make (Ok a) b is = record { value = a; is = refl; gives = (let same : make a ≡ b = cc in same) }

made_err : {A B : Type 0} (make : A → B) (first : Result A BindRefusal) (why : BindRefusal) → made make first ≡ Err why → first ≡ Err why
made_err make (Err other) why is = let same : other ≡ why = cc in ap (λ (w : BindRefusal). Err w) same
made_err make (Ok a) why is = cc

-- one place
placed : (image : List ℕ) (line : ℕ) (spot : Spot) (a : ℕ) → IsAddressOf image spot a → bound_place image line spot ≡ Ok a
placed image line spot a p = ap (code_address image line) p.is ∙ ap (λ (b : Bool). if b then Ok a else Err (NotCode line a)) p.code

placed_at : (image : List ℕ) (line : ℕ) (spot : Spot) (a : ℕ) (found : Option ℕ) → address_of image spot ≡ found
    → code_address image line found ≡ Ok a → IsAddressOf image spot a
placed_at image line spot a None was is = cc
placed_at image line spot a (Some b) was is = of (is_code image b) refl is where
  of : (code : Bool) → is_code image b ≡ code → (if code then Ok b else Err (NotCode line b)) ≡ Ok a → IsAddressOf image spot a
  of true code is = let same : b ≡ a = cc in record { is = was ∙ ap (λ (x : ℕ). Some x) same; code = subst (IsCode image) same code }
  of false code is = cc

is_placed : (image : List ℕ) (line : ℕ) (spot : Spot) (a : ℕ) → bound_place image line spot ≡ Ok a → IsAddressOf image spot a
is_placed image line spot a is = placed_at image line spot a (address_of image spot) refl is

misplaced_at : (image : List ℕ) (line : ℕ) (spot : Spot) (why : BindRefusal) (found : Option ℕ) → address_of image spot ≡ found
    → code_address image line found ≡ Err why → IsMisplaced image line spot why
misplaced_at image line spot why None was is = let same : NoName line ≡ why = cc in subst (IsMisplaced image line spot) same (IsMisplaced.Nameless spot was)
misplaced_at image line spot why (Some b) was is = of (is_code image b) refl is where
  of : (code : Bool) → is_code image b ≡ code → (if code then Ok b else Err (NotCode line b)) ≡ Err why → IsMisplaced image line spot why
  of true code is = cc
  of false code is = let same : NotCode line b ≡ why = cc in subst (IsMisplaced image line spot) same (IsMisplaced.Codeless spot b was code)

-- the first place is misplaced, or a later one is
at_front : (image : List ℕ) (line : ℕ) (spot : Spot) (later : List Spot) (why : BindRefusal) → bound_place image line spot ≡ Err why
    → IsFirstMisplaced image line (spot ∷ later) why
at_front image line spot later why is = record {
  earlier = [];
  spot = spot;
  later = later;
  addresses = [];
  are = refl;
  before = AreAddressesOf.NoPlace;
  misplaced = misplaced_at image line spot why (address_of image spot) refl is;
}

behind_one : (image : List ℕ) (line : ℕ) (spot : Spot) (a : ℕ) (spots : List Spot) (why : BindRefusal) → IsAddressOf image spot a
    → IsFirstMisplaced image line spots why → IsFirstMisplaced image line (spot ∷ spots) why
behind_one image line spot a spots why is m = record {
  earlier = spot ∷ m.earlier;
  spot = m.spot;
  later = m.later;
  addresses = a ∷ m.addresses;
  are = ap (λ (l : List Spot). spot ∷ l) m.are;
  before = AreAddressesOf.OneMore spot a m.earlier m.addresses is m.before;
  misplaced = m.misplaced;
}

-- places
all_placed : (image : List ℕ) (line : ℕ) (spots : List Spot) (to : List ℕ) → AreAddressesOf image spots to → bound_places image line spots ≡ Ok to
all_placed image line spots to AreAddressesOf.NoPlace = refl
all_placed image line spots to (AreAddressesOf.OneMore spot a more addresses is rest) =
    ap (λ (r : Result ℕ BindRefusal). in_front r (bound_places image line more)) (placed image line spot a is)
    ∙ ap (in_front (Ok a)) (all_placed image line more addresses rest)

more_placed : (image : List ℕ) (line : ℕ) (spot : Spot) (spots : List Spot) (to : List ℕ) (first : Result ℕ BindRefusal) (rest : Result (List ℕ) BindRefusal)
    → bound_place image line spot ≡ first → ((addresses : List ℕ) → rest ≡ Ok addresses → AreAddressesOf image spots addresses)
    → in_front first rest ≡ Ok to → AreAddressesOf image (spot ∷ spots) to
more_placed image line spot spots to (Err why) rest was each is = cc
more_placed image line spot spots to (Ok a) (Err why) was each is = cc
more_placed image line spot spots to (Ok a) (Ok addresses) was each is =
    let same : a ∷ addresses ≡ to = cc in
    subst (AreAddressesOf image (spot ∷ spots)) same (AreAddressesOf.OneMore spot a spots addresses (is_placed image line spot a was) (each addresses refl))

are_placed : (image : List ℕ) (line : ℕ) (spots : List Spot) (to : List ℕ) → bound_places image line spots ≡ Ok to → AreAddressesOf image spots to
are_placed image line [] to is = let same : [] ≡ to = cc in subst (AreAddressesOf image []) same AreAddressesOf.NoPlace
are_placed image line (spot ∷ spots) to is =
    more_placed image line spot spots to (bound_place image line spot) (bound_places image line spots) refl
    (λ addresses e. are_placed image line spots addresses e) is

more_misplaced : (image : List ℕ) (line : ℕ) (spot : Spot) (spots : List Spot) (why : BindRefusal) (first : Result ℕ BindRefusal)
    (rest : Result (List ℕ) BindRefusal)
    → bound_place image line spot ≡ first → ((w : BindRefusal) → rest ≡ Err w → IsFirstMisplaced image line spots w)
    → in_front first rest ≡ Err why → IsFirstMisplaced image line (spot ∷ spots) why
more_misplaced image line spot spots why (Err other) rest was each is =
    let same : other ≡ why = cc in at_front image line spot spots why (was ∙ ap (λ (w : BindRefusal). Err w) same)
more_misplaced image line spot spots why (Ok a) (Err other) was each is =
    let same : other ≡ why = cc in behind_one image line spot a spots why (is_placed image line spot a was) (each why (ap (λ (w : BindRefusal). Err w) same))
more_misplaced image line spot spots why (Ok a) (Ok addresses) was each is = cc

are_misplaced : (image : List ℕ) (line : ℕ) (spots : List Spot) (why : BindRefusal) → bound_places image line spots ≡ Err why
    → IsFirstMisplaced image line spots why
are_misplaced image line [] why is = cc
are_misplaced image line (spot ∷ spots) why is =
    more_misplaced image line spot spots why (bound_place image line spot) (bound_places image line spots) refl (λ w e. are_misplaced image line spots w e) is

-- ranges
range_passes : (lo hi : ℤ) → lo ≤ℤ hi → int_le lo hi ≡ true
range_passes lo hi p = grind arith

range_holds : (lo hi : ℤ) → int_le lo hi ≡ true → lo ≤ℤ hi
range_holds lo hi p = grind arith

range_fails : (lo hi : ℤ) → int_le lo hi ≡ false → hi <ℤ lo
range_fails lo hi p = grind arith

range_empty : (lo hi : ℤ) → hi <ℤ lo → int_le lo hi ≡ false
range_empty lo hi p = grind arith

-- what a statement says is what it is bound to
pub said : (image : List ℕ) (line : ℕ) (says : Body) (bound : BoundBody) → Says image says bound → bound_body image line says ≡ Ok bound
said image line says bound (Says.SaysRoot spot entry is) = ap (made body.Root) (placed image line spot entry is)
said image line says bound (Says.SaysNever spot pc is) = ap (made body.Never) (placed image line spot pc is)
said image line says bound (Says.SaysAt spot pc reg lo hi is order) =
    ap (followed (ranged line reg lo hi)) (placed image line spot pc is)
    ∙ ap (λ (b : Bool). if b then Ok (body.At pc reg lo hi) else Err (EmptyRange line)) (range_passes lo hi order)
said image line says bound (Says.SaysJump spot pc spots to is are) =
    ap (followed (λ pc. made (body.Jump pc) (bound_places image line spots))) (placed image line spot pc is)
    ∙ ap (made (body.Jump pc)) (all_placed image line spots to are)
said image line says bound (Says.SaysCallTo spot pc spots to is are) =
    ap (followed (λ pc. made (body.CallTo pc) (bound_places image line spots))) (placed image line spot pc is)
    ∙ ap (made (body.CallTo pc)) (all_placed image line spots to are)
said image line says bound (Says.SaysLoop spot pc count is) = ap (made (λ pc. body.Loop pc count)) (placed image line spot pc is)
said image line says bound (Says.SaysStub spot entry time is) = ap (made (λ entry. body.Stub entry time)) (placed image line spot entry is)

at_said : (image : List ℕ) (line : ℕ) (spot : Spot) (pc reg : ℕ) (lo hi : ℤ) (bound : BoundBody) (ordered : Bool)
    → int_le lo hi ≡ ordered → IsAddressOf image spot pc
    → (if ordered then Ok (body.At pc reg lo hi) else Err (EmptyRange line)) ≡ Ok bound → Says image (written.At spot reg lo hi) bound
at_said image line spot pc reg lo hi bound true order is e =
    let same : body.At pc reg lo hi ≡ bound = cc in
    subst (Says image (written.At spot reg lo hi)) same (Says.SaysAt spot pc reg lo hi is (range_holds lo hi order))
at_said image line spot pc reg lo hi bound false order is e = cc

-- what a statement is bound to is what it says
pub is_said : (image : List ℕ) (line : ℕ) (says : Body) (bound : BoundBody) → bound_body image line says ≡ Ok bound → Says image says bound
is_said image line (written.Root spot) bound e =
    let m = made_ok body.Root (bound_place image line spot) bound e in
    subst (Says image (written.Root spot)) m.gives (Says.SaysRoot spot m.value (is_placed image line spot m.value m.is))
is_said image line (written.Never spot) bound e =
    let m = made_ok body.Never (bound_place image line spot) bound e in
    subst (Says image (written.Never spot)) m.gives (Says.SaysNever spot m.value (is_placed image line spot m.value m.is))
is_said image line (written.At spot reg lo hi) bound e =
    let f = followed_ok (ranged line reg lo hi) (bound_place image line spot) bound e in
    at_said image line spot f.value reg lo hi bound (int_le lo hi) refl (is_placed image line spot f.value f.is) f.gives
is_said image line (written.Jump spot spots) bound e =
    let f = followed_ok (λ pc. made (body.Jump pc) (bound_places image line spots)) (bound_place image line spot) bound e in
    let m = made_ok (body.Jump f.value) (bound_places image line spots) bound f.gives in
    subst (Says image (written.Jump spot spots)) m.gives (Says.SaysJump spot f.value spots m.value
    (is_placed image line spot f.value f.is) (are_placed image line spots m.value m.is))
is_said image line (written.CallTo spot spots) bound e =
    let f = followed_ok (λ pc. made (body.CallTo pc) (bound_places image line spots)) (bound_place image line spot) bound e in
    let m = made_ok (body.CallTo f.value) (bound_places image line spots) bound f.gives in
    subst (Says image (written.CallTo spot spots)) m.gives (Says.SaysCallTo spot f.value spots m.value
    (is_placed image line spot f.value f.is) (are_placed image line spots m.value m.is))
is_said image line (written.Loop spot count) bound e =
    let m = made_ok (λ pc. body.Loop pc count) (bound_place image line spot) bound e in
    subst (Says image (written.Loop spot count)) m.gives (Says.SaysLoop spot m.value count (is_placed image line spot m.value m.is))
is_said image line (written.Stub spot time) bound e =
    let m = made_ok (λ entry. body.Stub entry time) (bound_place image line spot) bound e in
    subst (Says image (written.Stub spot time)) m.gives (Says.SaysStub spot m.value time (is_placed image line spot m.value m.is))

-- why a statement says nothing
at_nothing : (image : List ℕ) (line : ℕ) (spot : Spot) (pc reg : ℕ) (lo hi : ℤ) (why : BindRefusal) (ordered : Bool)
    → int_le lo hi ≡ ordered → IsAddressOf image spot pc
    → (if ordered then Ok (body.At pc reg lo hi) else Err (EmptyRange line)) ≡ Err why → SaysNothing image line (written.At spot reg lo hi) why
at_nothing image line spot pc reg lo hi why true order is e = cc
at_nothing image line spot pc reg lo hi why false order is e =
    let same : EmptyRange line ≡ why = cc in
    subst (SaysNothing image line (written.At spot reg lo hi)) same (SaysNothing.RangesEmpty spot pc reg lo hi is (range_fails lo hi order))

-- a statement whose one place is misplaced
one_nothing : (image : List ℕ) (line : ℕ) (says : Body) (spot : Spot) (why : BindRefusal) → spot ∷ [] ≡ places_of says
    → bound_place image line spot ≡ Err why → SaysNothing image line says why
one_nothing image line says spot why are is =
    SaysNothing.Misplaces says why (subst (λ (l : List Spot). IsFirstMisplaced image line l why) are (at_front image line spot [] why is))

-- a list of targets with a place that is misplaced, or a place before it
aimed_nothing : (image : List ℕ) (line : ℕ) (says : Body) (make : ℕ → List ℕ → BoundBody) (spot : Spot) (spots : List Spot)
    (why : BindRefusal) → spot ∷ spots ≡ places_of says
    → followed (λ pc. made (make pc) (bound_places image line spots)) (bound_place image line spot) ≡ Err why → SaysNothing image line says why
aimed_nothing image line says make spot spots why are is =
    SaysNothing.Misplaces says why (subst (λ (l : List Spot). IsFirstMisplaced image line l why) are
    (of (followed_err (λ pc. made (make pc) (bound_places image line spots)) (bound_place image line spot) why is)))
  where
    of : (bound_place image line spot ≡ Err why) ⊎ IsFollowed (λ pc. made (make pc) (bound_places image line spots))
        (bound_place image line spot) (Err why) → IsFirstMisplaced image line (spot ∷ spots) why
    of (inl e) = at_front image line spot spots why e
    of (inr f) = behind_one image line spot f.value spots why (is_placed image line spot f.value f.is)
        (are_misplaced image line spots why (made_err (make f.value) (bound_places image line spots) why f.gives))

-- a statement that is refused says nothing, for this cause
pub says_nothing : (image : List ℕ) (line : ℕ) (says : Body) (why : BindRefusal) → bound_body image line says ≡ Err why → SaysNothing image line says why
says_nothing image line (written.Root spot) why e = one_nothing image line (written.Root spot) spot why refl
    (made_err body.Root (bound_place image line spot) why e)
says_nothing image line (written.Never spot) why e = one_nothing image line (written.Never spot) spot why refl
    (made_err body.Never (bound_place image line spot) why e)
says_nothing image line (written.At spot reg lo hi) why e = of (followed_err (ranged line reg lo hi) (bound_place image line spot) why e) where
  of : (bound_place image line spot ≡ Err why) ⊎ IsFollowed (ranged line reg lo hi) (bound_place image line spot) (Err why)
      → SaysNothing image line (written.At spot reg lo hi) why
  of (inl e) = one_nothing image line (written.At spot reg lo hi) spot why refl e
  of (inr f) = at_nothing image line spot f.value reg lo hi why (int_le lo hi) refl (is_placed image line spot f.value f.is) f.gives
says_nothing image line (written.Jump spot spots) why e = aimed_nothing image line (written.Jump spot spots) body.Jump spot spots why refl e
says_nothing image line (written.CallTo spot spots) why e = aimed_nothing image line (written.CallTo spot spots) body.CallTo spot spots why refl e
says_nothing image line (written.Loop spot count) why e = one_nothing image line (written.Loop spot count) spot why refl
    (made_err (λ pc. body.Loop pc count) (bound_place image line spot) why e)
says_nothing image line (written.Stub spot time) why e = one_nothing image line (written.Stub spot time) spot why refl
    (made_err (λ entry. body.Stub entry time) (bound_place image line spot) why e)

-- a place that is misplaced has that refusal, and so have places of which it is the first
misplaced : (image : List ℕ) (line : ℕ) (place : Spot) (why : BindRefusal) → IsMisplaced image line place why → bound_place image line place ≡ Err why
misplaced image line place why (IsMisplaced.Nameless spot none) = ap (code_address image line) none
misplaced image line place why (IsMisplaced.Codeless spot a is codeless) = ap (code_address image line) is
    ∙ ap (λ (b : Bool). if b then Ok a else Err (NotCode line a)) codeless

refused_behind : (image : List ℕ) (line : ℕ) (earlier : List Spot) (addresses : List ℕ) (place : Spot) (later : List Spot)
    (why : BindRefusal) → AreAddressesOf image earlier addresses → bound_place image line place ≡ Err why
    → bound_places image line (earlier ++ place ∷ later) ≡ Err why
refused_behind image line earlier addresses place later why AreAddressesOf.NoPlace is =
    ap (λ (r : Result ℕ BindRefusal). in_front r (bound_places image line later)) is
refused_behind image line earlier addresses place later why (AreAddressesOf.OneMore spot a spots to at rest) is =
    ap (λ (r : Result ℕ BindRefusal). in_front r (bound_places image line (spots ++ place ∷ later))) (placed image line spot a at)
    ∙ ap (in_front (Ok a)) (refused_behind image line spots to place later why rest is)

first_refused : (image : List ℕ) (line : ℕ) (spots : List Spot) (why : BindRefusal) → IsFirstMisplaced image line spots why
    → bound_places image line spots ≡ Err why
first_refused image line spots why m =
    ap (bound_places image line) m.are
    ∙ refused_behind image line m.earlier m.addresses m.spot m.later why m.before (misplaced image line m.spot why m.misplaced)

one_refused : (first : Result ℕ BindRefusal) (why : BindRefusal) → in_front first (Ok []) ≡ Err why → first ≡ Err why
one_refused (Err other) why is = let same : other ≡ why = cc in ap (λ (w : BindRefusal). Err w) same
one_refused (Ok a) why is = cc

aimed_refused : (make : ℕ → List ℕ → BoundBody) (first : Result ℕ BindRefusal) (rest : Result (List ℕ) BindRefusal)
    (why : BindRefusal) → in_front first rest ≡ Err why → followed (λ pc. made (make pc) rest) first ≡ Err why
aimed_refused make (Err other) rest why is = let same : other ≡ why = cc in ap (λ (w : BindRefusal). Err w) same
aimed_refused make (Ok a) (Err other) why is = let same : other ≡ why = cc in ap (λ (w : BindRefusal). Err w) same
aimed_refused make (Ok a) (Ok addresses) why is = cc

by_places : (image : List ℕ) (line : ℕ) (says : Body) (why : BindRefusal) → bound_places image line (places_of says) ≡ Err why
    → bound_body image line says ≡ Err why
by_places image line (written.Root spot) why e = ap (made body.Root) (one_refused (bound_place image line spot) why e)
by_places image line (written.Never spot) why e = ap (made body.Never) (one_refused (bound_place image line spot) why e)
by_places image line (written.At spot reg lo hi) why e = ap (followed (ranged line reg lo hi)) (one_refused (bound_place image line spot) why e)
by_places image line (written.Jump spot spots) why e = aimed_refused body.Jump (bound_place image line spot) (bound_places image line spots) why e
by_places image line (written.CallTo spot spots) why e = aimed_refused body.CallTo (bound_place image line spot) (bound_places image line spots) why e
by_places image line (written.Loop spot count) why e = ap (made (λ pc. body.Loop pc count)) (one_refused (bound_place image line spot) why e)
by_places image line (written.Stub spot time) why e = ap (made (λ entry. body.Stub entry time)) (one_refused (bound_place image line spot) why e)

-- why a statement says nothing is its refusal
pub nothing_said : (image : List ℕ) (line : ℕ) (says : Body) (why : BindRefusal) → SaysNothing image line says why → bound_body image line says ≡ Err why
nothing_said image line says why (SaysNothing.Misplaces same is m) = by_places image line same is (first_refused image line (places_of same) is m)
nothing_said image line says why (SaysNothing.RangesEmpty spot pc reg lo hi is empty) =
    ap (followed (ranged line reg lo hi)) (placed image line spot pc is)
    ∙ ap (λ (b : Bool). if b then Ok (body.At pc reg lo hi) else Err (EmptyRange line)) (range_empty lo hi empty)
