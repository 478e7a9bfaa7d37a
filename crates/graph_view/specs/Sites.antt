-- The calls of a subprogram, by the numbers of its program points.
use Rattle.std.specs.Prelude.{◌≡◌, ℕ, ◌<◌, ◌+◌, ◌%◌, ◌^◌, ◌-◌, List, [], ◌∷◌, ◌++◌, length, slice_index_or}
use Rattle.abs_state.specs.declared.key.Place.{Place}
use Rattle.graph_view.specs.Numbers.{IsNumber}
use Rattle.graph_view.specs.declared.lists.Calling.{Calling}
use Rattle.graph_view.specs.declared.sites.CallSite.{CallSite}

-- a call stands one word, four bytes, before its delay instruction
abbrev pub call_address : Calling → ℕ
call_address calling = (calling.from.pc + (2 ^ 32 - 4)) % 2 ^ 32

-- the call of a call site
pub record IsSite (nodes : List Place) (calling : Calling) (site : CallSite) : Type 0 where
  pub node : IsNumber nodes calling.from site.node
  pub address : site.pc ≡ call_address calling
  pub callee : site.callee ≡ calling.callee

-- one more call site, that of a call
pub record AddsSite (nodes : List Place) (calling : Calling) (old new : List CallSite) : Type 0 where
  pub site : CallSite
  pub is : IsSite nodes calling site
  pub added : new ≡ old ++ site ∷ []

-- the call sites are those of the calls, in their order
pub record AreSites (nodes : List Place) (callings : List Calling) (sites : List CallSite) : Type 0 where
  pub count : length sites ≡ length callings
  pub each : (k : ℕ) (c : Calling) (s : CallSite) → k < length callings → IsSite nodes (slice_index_or callings k c) (slice_index_or sites k s)
