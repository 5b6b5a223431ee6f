-- What Fifo may answer.
use Rattle.std.specs.Prelude.{◌≡◌, ℕ, ◌+◌, ◌-◌, ◌*◌, ◌^◌, ◌<◌, ◌≤◌, Bool, ◌&&◌, not, cond, true, false, List, [], ◌∷◌, ◌++◌, length, nat_le, nat_lt, ◌||◌, eqb, ltb, sum_by, filter}
use Rattle.std.specs.Option.{unwrap_or}
use Rattle.lsm_tables.specs.Tables.{SeenTable}
use Rattle.lsm_versions.specs.Levels.{Levels, bytes_of, is_busy}
use Rattle.lsm_pick.specs.declared.choice.Choice.{Choice}
use Rattle.lsm_pick.specs.declared.choice.ChooseError.{ChooseError}
use Rattle.lsm_pick.specs.declared.choice.ChooseError.TheVariants.{OutOfMemory, NotDisjoint, Busy, Refused}
use Rattle.lsm_pick.specs.declared.fifo.Fifo.{Fifo}
use Rattle.lsm_pick.specs.Tables.{runs_at, first_run, size, bytes_below}
use Rattle.lsm_pick.specs.Picks.{IsNothing, IsDrop}

-- the seconds to live, 0 where that is off
abbrev pub seconds : Fifo → ℕ
seconds rule = unwrap_or rule.ttl_seconds 0

-- made at or before the cutoff: the moment less the time to live, at least 0
abbrev pub is_expired : Fifo → SeenTable → Bool
is_expired rule t = nat_lt 0 (seconds rule) && nat_le t.created_at (rule.now - (seconds rule * 1000000000))

-- the tables that stay for their age
abbrev pub fresh : Fifo → List SeenTable → List SeenTable
fresh rule run = filter (λ t. not (is_expired rule t)) run

-- the bytes that are older than a table between these two lists: in the order of the run where equal
abbrev pub older_bytes : List SeenTable → SeenTable → List SeenTable → ℕ
older_bytes before t after = bytes_below (t.created_at + 1) before + bytes_below t.created_at after

-- the tables of the second list for which the older bytes don't reach the overshoot;
-- the first list stands before it
abbrev pub surplus : ℕ → List SeenTable → List SeenTable → List SeenTable
surplus over before [] = []
surplus over before (t ∷ after) =
    cond (nat_lt (older_bytes before t after) over)
    (t ∷ surplus over (before ++ t ∷ []) after)
    (surplus over (before ++ t ∷ []) after)

-- the bytes of the tables that stay for their age above the limit
abbrev pub over_of : Fifo → List SeenTable → ℕ
over_of rule run = bytes_of (fresh rule run) - rule.limit

-- the tables to drop: the expired ones, and of the others those that the overshoot takes
abbrev pub dropped : Fifo → List SeenTable → List SeenTable
dropped rule run =
    filter (is_expired rule) run ++ surplus (over_of rule run) [] (fresh rule run)

-- nothing where no table is to be dropped, else a drop of just these
abbrev pub DropsJust : List SeenTable → Choice → Type 0
DropsJust [] choice = IsNothing choice
DropsJust (t ∷ ts) choice = IsDrop choice (t ∷ ts)

-- the bytes of those made at a moment
abbrev pub bytes_at : ℕ → List SeenTable → ℕ
bytes_at moment ts = sum_by (λ t. cond (eqb t.created_at moment) (size t) 0) ts

-- made before the turn, or at it while those before it don't reach the overshoot
abbrev pub is_due : Fifo → ℕ → ℕ → ℕ → SeenTable → Bool
is_due rule over turn older t =
    not (is_expired rule t) && (ltb t.created_at turn || (eqb t.created_at turn && ltb older over))

-- the last moment before which tables of less bytes than the overshoot were made
pub record IsTurn (over : ℕ) (ts : List SeenTable) (moment : ℕ) : Type 0 where
  pub below : bytes_below moment ts < over
  pub above : (k : ℕ) → moment < k → k < 2 ^ 64 → over ≤ bytes_below k ts

-- the first level is empty or one run with no hidden table, and its tables that are due are dropped
abbrev pub MayFifo : Fifo → List ℕ → Levels → Choice → Type 0
MayFifo rule hidden levels choice =
    (length (runs_at levels 0) ≤ 1)
    × (is_busy hidden (runs_at levels 0) ≡ false)
    × DropsJust (dropped rule (first_run levels 0)) choice

-- when each refusal comes
abbrev pub MayRefuse : List ℕ → Levels → ChooseError → Type 0
MayRefuse hidden levels OutOfMemory = Unit {0}
MayRefuse hidden levels NotDisjoint = 1 < length (runs_at levels 0)
MayRefuse hidden levels Busy =
    (length (runs_at levels 0) ≡ 1) × (is_busy hidden (runs_at levels 0) ≡ true)
MayRefuse hidden levels Refused = ⊥
