-- The first refusal of a file, step by step, and what an image keeps.
use Rattle.std.proofs.Common.{◌≡◌, ℕ, ◌<◌, List, length, All, Option, Some, None, refl, sym, ◌∙◌, ap, subst}
use Rattle.std.proofs.lemmas.List.Elements.{All-from_get_or}
use Rattle.std.specs.BTreeMap.{BTreeMap, keys}
use Rattle.std.specs.Prelude.{slice_index}
use Rattle.std.specs.Option.{option_or}
use Rattle.bt_image.specs.Checked.{IsAccepted, IsChecked, IsImage}
use Rattle.bt_image.specs.Entry.{AreEntries, AreInOrder}
use Rattle.bt_image.specs.Extent.{Rise}
use Rattle.bt_image.specs.File.{section_count}
use Rattle.bt_image.specs.Label.{AreExactly, IsLabel, IsTaken}
use Rattle.bt_image.specs.Loaded.{AreLoaded}
use Rattle.bt_image.specs.Names.{AreNames}
use Rattle.bt_image.specs.NextCode.{IsCodeTable}
use Rattle.bt_image.specs.Refusal.{IsRefusal, checked_refusal, first_refusal, limits_refusal, overlap_refusal, symbols_refusal}
use Rattle.bt_image.specs.Symbol.{functions, symbol_count, symbol_strings}
use Rattle.bt_image.specs.declared.entry.Entry.{Entry}
use Rattle.bt_image.specs.declared.names.Name.{Name}
use Rattle.bt_image.specs.declared.refusal.ImageRefusal.{ImageRefusal}
use Rattle.bt_image.specs.declared.refusal.ImageRefusal.TheVariants.{Want}
use Rattle.bt_image.specs.declared.section.Section.{Section}

-- a refusal of the first of two is one of both, and so is one of the second where the first has none
refusal_or : (a b : Option ImageRefusal) (e : ImageRefusal) → IsRefusal a e → IsRefusal (option_or a b) e
refusal_or a b Want h = tt
refusal_or a b e h = ap (λ o. option_or o b) h

refusal_after : (a b : Option ImageRefusal) (e : ImageRefusal) → a ≡ None → IsRefusal b e → IsRefusal (option_or a b) e
refusal_after a b e none h = subst (λ o. IsRefusal (option_or o b) e) (sym none) h

refusal_is : (a : Option ImageRefusal) (e : ImageRefusal) → a ≡ Some e → IsRefusal a e
refusal_is a Want h = tt
refusal_is a e h = h

-- a failed check of headers and sections is the first refusal
pub refused_checked : (file : List ℕ) (e : ImageRefusal) → checked_refusal file ≡ Some e → IsRefusal (first_refusal file) e
unfolding first_refusal
refused_checked file e h = refusal_or (checked_refusal file) _ e (refusal_is _ e h)

-- an overlap is the first refusal where no check before it fails
pub refused_overlap : (file : List ℕ) (e : ImageRefusal) → checked_refusal file ≡ None → IsRefusal (overlap_refusal file) e → IsRefusal (first_refusal file) e
unfolding first_refusal
refused_overlap file e c h = refusal_after _ _ e c (refusal_or (overlap_refusal file) _ e h)

-- a refused symbol table is the first refusal where nothing before it is
pub refused_symbols : (file : List ℕ) (e : ImageRefusal) → checked_refusal file ≡ None → overlap_refusal file ≡ None → symbols_refusal file ≡ Some e
    → IsRefusal (first_refusal file) e
unfolding first_refusal
refused_symbols file e c o h = refusal_after _ _ e c (refusal_after _ _ e o (refusal_or (symbols_refusal file) _ e (refusal_is _ e h)))

-- a passed limit is the first refusal where nothing before it is
pub refused_limits : (file : List ℕ) (e : ImageRefusal) → checked_refusal file ≡ None → overlap_refusal file ≡ None → symbols_refusal file ≡ None
    → IsRefusal (limits_refusal file) e → IsRefusal (first_refusal file) e
unfolding first_refusal
refused_limits file e c o s h = refusal_after _ _ e c (refusal_after _ _ e o (refusal_after _ _ e s h))

-- a file that no check refuses has no refusal
pub refused_none : (file : List ℕ) → checked_refusal file ≡ None → overlap_refusal file ≡ None → symbols_refusal file ≡ None
    → limits_refusal file ≡ None → first_refusal file ≡ None
unfolding first_refusal
refused_none file c o s l = rw (c, o, s, l) refl

-- bytes that fit are below 256
pub all_fit : (file : List ℕ) → ((k : ℕ) → slice_index file k < 256) → All (λ byte. byte < 256) file
all_fit file fit = All-from_get_or (λ byte. byte < 256) file 0 (λ i within. fit i)

-- the tables of an image, over a copy of the bytes
pub is_image : (file copy : List ℕ) (number : Option ℕ) (loaded code : List Section) (addresses : List ℕ) (names : BTreeMap ℕ Name)
    (entries : List Entry) (labels taken : List ℕ) → IsAccepted file → IsChecked file number → symbols_refusal file ≡ None
    → AreLoaded file (section_count file) loaded → IsCodeTable loaded (length loaded) code
    → addresses ≡ keys names → Rise addresses → AreNames file (symbol_strings file) (symbol_count file) names
    → AreEntries file (symbol_count file) entries → AreInOrder (symbol_strings file) entries
    → AreExactly (IsLabel file) labels → AreExactly (IsTaken file) taken → copy ≡ file
    → IsImage copy number loaded code addresses names entries labels taken
unfolding functions
is_image file copy number loaded code addresses names entries labels taken accepted checked sound table instructions starts rise are
    symbols_of_names order targets pointers same =
    subst (λ f. IsImage f number loaded code addresses names entries labels taken) (sym same)
    (record {
      accepted = accepted;
      checked = checked;
      symbols = sound;
      memory = table;
      instructions = instructions;
      starts = starts ∙ are.keys;
      rise = rise;
      naming = are;
      symbols_of_names = symbols_of_names;
      order = order;
      targets = targets;
      pointers = pointers;
    })

-- the addresses of the functions are the keys of their names
pub addresses_are : (file addresses : List ℕ) (names : BTreeMap ℕ Name) → addresses ≡ keys names → AreNames file (symbol_strings file) (symbol_count file) names
    → addresses ≡ functions file
unfolding functions
addresses_are file addresses names same are = same ∙ are.keys
