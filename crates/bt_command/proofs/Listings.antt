-- What a status of the command `decode` says of a file that is told, where no fault rises: it is what its bytes come to, or memory is
-- wanting; and the whole listing is written where it is an image.
use Rattle.std.proofs.Common.{◌≡◌, ℕ, ◌≤◌, ◌<◌, inl, inr, Bool, cond, List, length, Option, Some, None, refl, sym, ap, subst, ◌∙◌, arith}
use Rattle.bt_command.proofs.Told.{agrees, not_over, over, told_over}
use Rattle.bt_command.specs.Call.{Call, longest_image, AgreesWith, IsTooLong}
use Rattle.bt_command.specs.Decode.{DecodeSays, DecodeIsExact, DecodeIsWhole, listing_checked, listing_status}
use Rattle.bt_command.specs.declared.status.LimitFault.TheVariants.{TooLong, Nodes, Contexts}
use Rattle.bt_command.specs.declared.status.Status.{Status}
use Rattle.bt_command.specs.declared.status.Status.TheVariants.{Bounded, Unbounded, Usage, Image, Cycles, Assertions, ReadFault, WriteFault, Want, Limit}
use Rattle.bt_image.specs.Refusal.{first_refusal}

-- the status of a listing within the limit
listing_within : (bytes : List ℕ) (r : Option _) → length bytes ≤ longest_image → first_refusal bytes ≡ r → listing_status bytes ≡ listing_checked r
listing_within bytes r h e =
    ap (λ (b : Bool). cond b (Limit (TooLong 1 longest_image)) (listing_checked (first_refusal bytes))) (not_over longest_image bytes h) ∙ ap listing_checked e

pub decode_exact : (image : List ℕ) (call : Call) (status : Status) → DecodeSays image call status → DecodeIsExact image call status
decode_exact image call Bounded says bytes e f s =
    let has = says.is.has_image in
    let same : says.is.image ≡ bytes = agrees (call.read.told image) says.is.image bytes has.file.same e in
    let fits : length bytes ≤ longest_image = subst (λ (i : List ℕ). length i ≤ longest_image) same has.file.within in
    let is : first_refusal bytes ≡ None = subst (λ (i : List ℕ). first_refusal i ≡ None) same has.accepted in
    inr (sym (listing_within bytes None fits is))
decode_exact image call Unbounded says bytes e f s = absurd says
decode_exact image call Usage says bytes e f s = absurd says
decode_exact image call (Image refusal) says bytes e f s =
    let same : says.image ≡ bytes = agrees (call.read.told image) says.image bytes says.file.same e in
    let fits : length bytes ≤ longest_image = subst (λ (i : List ℕ). length i ≤ longest_image) same says.file.within in
    let is : first_refusal bytes ≡ Some refusal = subst (λ (i : List ℕ). first_refusal i ≡ Some refusal) same says.refused in
    inr (sym (listing_within bytes (Some refusal) fits is))
decode_exact image call (Cycles refusal) says bytes e f s = absurd says
decode_exact image call (Assertions fault) says bytes e f s = absurd says
decode_exact image call (ReadFault file) says bytes e f s = absurd (f says.1)
decode_exact image call (WriteFault written) says bytes e f s = absurd (s says.rose)
decode_exact image call Want says bytes e f s = inl refl
decode_exact image call (Limit (TooLong file limit)) says bytes e f s =
    let more : limit < length bytes = told_over (call.read.told image) limit bytes e says.1.1 in
    let long : longest_image < length bytes = subst (λ (l : ℕ). l < length bytes) says.1.0 more in
    let here : listing_status bytes ≡ Limit (TooLong 1 longest_image) =
    ap (λ (b : Bool). cond b (Limit (TooLong 1 longest_image)) (listing_checked (first_refusal bytes))) (over longest_image bytes long) in
    let file_is : file ≡ 1 = says.0 in
    let limit_is : limit ≡ longest_image = says.1.0 in
    inr (ap (λ (n : ℕ). Limit (TooLong n limit)) file_is ∙ ap (λ (l : ℕ). Limit (TooLong 1 l)) limit_is ∙ sym here)
decode_exact image call (Limit (Nodes count)) says bytes e f s = absurd says
decode_exact image call (Limit (Contexts count)) says bytes e f s = absurd says

-- a file within its limit isn't too long
within : (told : Option (List ℕ)) (limit : ℕ) (bytes : List ℕ) → told ≡ Some bytes → length bytes ≤ limit → IsTooLong told limit → ⊥
within None limit bytes e h long = cc
within (Some x) limit bytes e h long =
    let same : x ≡ bytes = cc in
    let more : limit < length bytes = subst (λ (b : List ℕ). limit < length b) same long in
    omega arith

-- accepted bytes aren't refused
accepted : (told : Option (List ℕ)) (refused those : List ℕ) → (r : _) → AgreesWith told refused → first_refusal refused ≡ Some r → told ≡ Some those
    → first_refusal those ≡ None → ⊥
accepted told refused those r same is e none =
    let one : refused ≡ those = agrees told refused those same e in
    let here : first_refusal those ≡ Some r = ap first_refusal (sym one) ∙ is in
    cc

pub decode_whole : (image : List ℕ) (call : Call) (status : Status) → DecodeSays image call status → DecodeIsWhole image call status
decode_whole image call Bounded says bytes e w ok f s = inl refl
decode_whole image call Unbounded says bytes e w ok f s = absurd says
decode_whole image call Usage says bytes e w ok f s = absurd says
decode_whole image call (Image refusal) says bytes e w ok f s =
    absurd (accepted (call.read.told image) says.image bytes refusal says.file.same says.refused e ok)
decode_whole image call (Cycles refusal) says bytes e w ok f s = absurd says
decode_whole image call (Assertions fault) says bytes e w ok f s = absurd says
decode_whole image call (ReadFault file) says bytes e w ok f s = absurd (f says.1)
decode_whole image call (WriteFault written) says bytes e w ok f s = absurd (s says.rose)
decode_whole image call Want says bytes e w ok f s = inr refl
decode_whole image call (Limit (TooLong file limit)) says bytes e w ok f s =
    absurd (within (call.read.told image) limit bytes e (subst (λ (l : ℕ). length bytes ≤ l) (sym says.1.0) w) says.1.1)
decode_whole image call (Limit (Nodes count)) says bytes e w ok f s = absurd says
decode_whole image call (Limit (Contexts count)) says bytes e w ok f s = absurd says
