-- What an error of the parse says of the words.
use Rattle.std.proofs.Common.{◌≡◌, Bool, true, false, refl, inl, inr, List}
use Rattle.clap.specs.Words.{HasKind, Text, fault_of, is_simple_and_free, kind_of, takes}
use Rattle.clap.specs.declared.error.Error.{Error}
use Rattle.clap.specs.declared.error.ErrorKind.TheVariants.{OutOfMemory}
use Rattle.bt_words.specs.App.{boundt_app}
use Rattle.bt_words.specs.Request.{IsRefused}

-- the command line is one of which the words alone tell the outcome
pub simple_and_free : is_simple_and_free boundt_app ≡ true
simple_and_free = refl

not_true : (b : Bool) → (b ≡ true → ⊥) → b ≡ false
not_true true never = absurd (never refl)
not_true false never = refl

-- words that are refused for another cause than memory
pub refused : (words : List Text) (e : Error) → (takes boundt_app words ≡ true → kind_of e ≡ OutOfMemory)
    → HasKind (fault_of boundt_app words) e → (kind_of e ≡ OutOfMemory → ⊥) → IsRefused words
refused words e passes has other = elim has [
  | inl h ↦ absurd (other h)
  | inr h ↦ record { kind = kind_of e; fault = h; other = other; untaken = not_true _ (λ t. other (passes t)) }
]
