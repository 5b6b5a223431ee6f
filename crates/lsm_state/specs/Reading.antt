-- What each read answers, as one fact of the tree that it reads.
use Rattle.std.specs.Prelude.{◌≡◌, ℕ, Bool, List, Option, None, Result, IfOk, IfSome, option_map, is_some}
use Rattle.std.specs.declared.ops.Bound.{Bound}
use Rattle.lsm_below.specs.Keys.{Bytes}
use Rattle.lsm_below.specs.Entries.{Entry}
use Rattle.lsm_below.specs.declared.error.Error.{Error}
use Rattle.lsm_iter.specs.Left.{SeenIter}
use Rattle.lsm_state.specs.Core.{Core}
use Rattle.lsm_state.specs.Calls.{Gives, GivesEntry, IsGetStep, RefusesRead, RefusesOld, value_size}
use Rattle.lsm_state.specs.Copies.{Copies, CopiesPrefix}
use Rattle.lsm_state.specs.Ranges.{Index, Ranges, Prefixes, IsRangeStep, IsPrefixStep}

-- it answers what P allows, or is refused as too old or for want of memory
pub record Reads {A : Type 0} (P : A → Type 0) (c : Core) (s : ℕ) (r : Result A Error) : Type 0 where
  pub ok : IfOk r P
  pub refuses : RefusesRead c s r

-- the same where it takes no memory
pub record Looks {A : Type 0} (P : A → Type 0) (c : Core) (s : ℕ) (r : Result A Error) : Type 0 where
  pub ok : IfOk r P
  pub refuses : RefusesOld c s r

-- ---- of a key

-- its value
pub record ReadsKey (c : Core) (key : Bytes) (s : ℕ) (r : Result (Option Bytes) Error) : Type 0 where
  pub ok : IfOk r (λ v. Gives c key s v)
  pub step : IfOk r (λ v. IsGetStep c key s v)
  pub refuses : RefusesRead c s r

-- the entry that gives it, under the key itself
pub record ReadsEntry (c : Core) (key : Bytes) (s : ℕ) (r : Result (Option Entry) Error) : Type 0 where
  pub ok : IfOk r (λ e. GivesEntry c key s e)
  pub asked : IfOk r (λ e. IfSome e (λ x. x.key.user_key ≡ key))
  pub value : IfOk r (λ e. Gives c key s (option_map (λ x. x.value) e))
  pub step : IfOk r (λ e. IsGetStep c key s (option_map (λ x. x.value) e))
  pub refuses : RefusesRead c s r

-- whether it has one
abbrev pub TellsValue : Core → Bytes → ℕ → Bool → Type 0
TellsValue c key s b = (v : Option Bytes) × Gives c key s v × (b ≡ is_some v)

-- the bytes of its value
abbrev pub TellsSize : Core → Bytes → ℕ → Option ℕ → Type 0
TellsSize c key s n = (v : Option Bytes) × Gives c key s v × (n ≡ option_map value_size v)

-- ---- of many keys

-- an iterator over what is shown within bounds, with what it copies; where there is no index it is a step
pub record ReadsRange (c : Core) (index : Index) (low high : Bound Bytes) (s : ℕ) (r : Result SeenIter Error) : Type 0 where
  pub ok : IfOk r (λ iter. Ranges c index low high s iter.left)
  pub held : IfOk r (λ iter. Copies c index low high s iter.held)
  pub step : index ≡ None → IfOk r (λ iter. IsRangeStep c low high s iter.left)
  pub refuses : RefusesRead c s r

-- the same of the keys that begin so
pub record ReadsPrefix (c : Core) (index : Index) (prefix : Bytes) (s : ℕ) (r : Result SeenIter Error) : Type 0 where
  pub ok : IfOk r (λ iter. Prefixes c index prefix s iter.left)
  pub held : IfOk r (λ iter. CopiesPrefix c index prefix s iter.held)
  pub step : index ≡ None → IfOk r (λ iter. IsPrefixStep c prefix s iter.left)
  pub refuses : RefusesRead c s r

-- what is shown within bounds, lent
pub record LendsRange (c : Core) (index : Index) (low high : Bound Bytes) (s : ℕ) (r : Result (List Entry) Error) : Type 0 where
  pub ok : IfOk r (λ pairs. Ranges c index low high s pairs)
  pub step : index ≡ None → IfOk r (λ pairs. IsRangeStep c low high s pairs)
  pub refuses : RefusesRead c s r

-- the same of the keys that begin so
pub record LendsPrefix (c : Core) (index : Index) (prefix : Bytes) (s : ℕ) (r : Result (List Entry) Error) : Type 0 where
  pub ok : IfOk r (λ pairs. Prefixes c index prefix s pairs)
  pub step : index ≡ None → IfOk r (λ pairs. IsPrefixStep c prefix s pairs)
  pub refuses : RefusesRead c s r
