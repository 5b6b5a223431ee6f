-- What the strategies of a run may drop, and what a caller allows them to.
use Rattle.std.specs.Prelude.{◌≡◌, ℕ, Bool, true, false, List}
use Rattle.lsm_below.specs.Ranges.{Range as Keys}
use Rattle.lsm_state.specs.Dropping.{DropsSome, NeverDrops, never_some}
use Rattle.lsm_runs.specs.Compacting.{Strategies}

-- which ranges the strategy at an index may drop
abbrev pub Drops : Type 1
Drops = ℕ → List Keys → Type 0

-- those that it may, of some version
abbrev pub may_drop : Strategies → Drops
may_drop strategies at = DropsSome (strategies.may_choose at)

-- a test of what is allowed: unlike what may be dropped it is a value, so that a clause can speak of every one
abbrev pub Allowance : Type 0
Allowance = ℕ → List Keys → Bool

abbrev pub allowed : Allowance → Drops
allowed may at ranges = may at ranges ≡ true

-- nothing is
abbrev pub no_drops : Drops
no_drops = allowed (λ at ranges. false)

-- whatever these strategies may drop is among this
abbrev pub AllowsDrops : Drops → Strategies → Type 0
AllowsDrops May strategies = (at : ℕ) (ranges : List Keys) → may_drop strategies at ranges → May at ranges

-- none of these strategies ever drops
abbrev pub NoneDrops : Strategies → Type 0
NoneDrops strategies = (at : ℕ) → NeverDrops (strategies.may_choose at)

-- ---- lemmas, for proofs of every crate

-- whatever is allowed then is enough
pub none_allows : (May : Drops) (strategies : Strategies) → NoneDrops strategies → AllowsDrops May strategies
none_allows May strategies none at ranges drops = absurd (never_some (strategies.may_choose at) (none at) ranges drops)
