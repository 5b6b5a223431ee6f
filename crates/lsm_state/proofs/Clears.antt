-- A clear keeps what a tree keeps, and is a deed of the theory of crashes.
use Rattle.std.proofs.Common.{◌≡◌, ◌⊎◌, inl, inr, ⊎_elim, ℕ, ◌+◌, ◌<◌, ◌≤◌, List, [], ◌∷◌, ◌++◌, length, Option, Some, None, IsSome, Result, Ok, Err, refl, sym, ap, subst, arith, append-nil}
use Rattle.std.specs.List.{AllByRecursion}
use Rattle.lsm_below.specs.Each.{each_left, each_weaker}
use Rattle.lsm_below.specs.Entries.{Entry}
use Rattle.lsm_below.specs.declared.error.Error.{Error}
use Rattle.lsm_below.specs.declared.error.Error.TheVariants.{OutOfMemory, Store, CommitUnknown, Unrecoverable, OutOfNumbers}
use Rattle.lsm_model.specs.Journal.{Event}
use Rattle.lsm_model.specs.Steps.{Step, Cleared}
use Rattle.lsm_model.specs.Beginnings.{ClearedTo, ClearLost}
use Rattle.lsm_model.specs.declared.journal.JournalEntry.TheVariants.{Clear}
use Rattle.lsm_memtable.specs.Memtables.{SeenMemtable, new_memtable}
use Rattle.lsm_versions.specs.Levels.{SeenVersion, empty_levels, all_of, HasOwnIds}
use Rattle.lsm_flush.specs.Jobs.{SeenOpen}
use Rattle.lsm_parts.specs.declared.version.super_version.SuperVersion.{SuperVersion}
use Rattle.lsm_parts.specs.History.{SeenHistory, versions_of}
use Rattle.lsm_parts.specs.Held.{ids_of, FallFrom}
use Rattle.lsm_state.specs.Kept.{NameHeld, NameOlder, least_named, KeepsIds, KeepsTables, IsKeptTree}
use Rattle.lsm_state.specs.Core.{Core, state_of, written_by}
use Rattle.lsm_state.specs.Commits.{counted, doubted}
use Rattle.lsm_state.specs.Deeds.{saved_of}
use Rattle.lsm_state.specs.Clearing.{cleared_in, cleared, Clears, IsClearDeed, IsLostClear, ClearDeeds, flushed_only}
use Rattle.lsm_state.proofs.Kept.{among_first, all_named_more, first_below}
use Rattle.lsm_state.proofs.Replacing.{own_first}
use Rattle.lsm_state.proofs.FlushDeeds.{none_other}
use Rattle.lsm_state.proofs.CompactionDeeds.{ok_no_err, err_is, looks_same}

-- ---- what a tree keeps

older_within : (m n : ℕ) (versions : List SuperVersion) → m ≤ n → NameOlder m versions → NameOlder n versions
older_within m n [] le h = tt
older_within m n (sv ∷ older) le h = let here : least_named sv ≤ m = h.0 in (omega (arith, le, here), h.1, h.2)

-- a new memtable in front, which a super version names alone
alone : (ts : List SeenMemtable) (n : ℕ) (older : List SuperVersion) (v : SeenVersion) (seqno : ℕ) → FallFrom n (ids_of ts) → NameHeld (ids_of ts) older → NameOlder n older → KeepsIds (new_memtable n ∷ ts) (record { latest = record { active_memtable = n; sealed_memtables = []; version = v; seqno = seqno }; older = older }) (n + 1)
alone ts n older v seqno fall held named = record {
  active = refl;
  fall = (omega arith, fall);
  held = ((among_first n (ids_of ts), tt), all_named_more n (ids_of ts) older held);
  older = (omega arith, (omega arith, tt), named);
}

active_below : (ts : List SeenMemtable) (h : SeenHistory) (n : ℕ) → KeepsIds ts h n → h.latest.active_memtable < n
active_below ts h n k = first_below n h.latest.active_memtable ts k.fall k.active

pub ids_cleared : (ts : List SeenMemtable) (h : SeenHistory) (n : ℕ) (v : SeenVersion) (seqno : ℕ) → KeepsIds ts h n → KeepsIds (new_memtable n ∷ ts) (record { latest = record { active_memtable = n; sealed_memtables = []; version = v; seqno = seqno }; older = versions_of h }) (n + 1)
ids_cleared ts h n v seqno k =
    let below = active_below ts h n k in
    alone ts n (versions_of h) v seqno k.fall k.held (older_within h.latest.active_memtable n (versions_of h) (omega (arith, below)) k.older)

pub ids_forgotten : (ts : List SeenMemtable) (h : SeenHistory) (n : ℕ) → KeepsIds ts h n → KeepsIds (new_memtable n ∷ ts) (flushed_only n h) (n + 1)
ids_forgotten ts h n k =
    let below = active_below ts h n k in
    let least : least_named h.latest ≤ h.latest.active_memtable = k.older.0 in
    alone ts n h.older h.latest.version h.latest.seqno k.fall k.held.1 (older_within (least_named h.latest) n h.older (omega (arith, below, least)) k.older.2)

pub tables_cleared : (flush : Option SeenOpen) (h : SeenHistory) (n a seqno : ℕ) → KeepsTables flush h n → KeepsTables flush (record { latest = record { active_memtable = a; sealed_memtables = []; version = record { id = h.latest.version.id + 1; log_from = seqno; levels = empty_levels }; seqno = seqno }; older = versions_of h }) n
tables_cleared flush h n a seqno k =
    let written = written_by flush in
    let now = all_of h.latest.version.levels in
    record {
      own_ids = subst HasOwnIds (sym (append-nil written)) (own_first written now k.own_ids);
      below = λ lt. subst (AllByRecursion (λ t. t.id < n)) (sym (append-nil written)) (each_left (λ t. t.id < n) written now (k.below lt));
      aged = (omega arith, each_weaker (λ sv. sv.version.id < h.latest.version.id) (λ sv. sv.version.id < h.latest.version.id + 1) (λ sv lt. omega (arith, lt)) h.older k.aged);
    }

pub tables_forgotten : (flush : Option SeenOpen) (h : SeenHistory) (n id : ℕ) → KeepsTables flush h n → KeepsTables flush (flushed_only id h) n
tables_forgotten flush h n id k = record { own_ids = k.own_ids; below = k.below; aged = k.aged }

-- ---- deeds

none_of : {A : Type 0} (o : Option A) → (IsSome o → ⊥) → o ≡ None
none_of None none = refl
none_of (Some x) none = absurd (none refl)

module _ (old : Core) (kept : IsKeptTree old) (certain : old.lost ≡ None) where
  clear_step : (opened : List Entry) (journal : List Event) → Step opened (state_of journal old) (Cleared old.seqno old.next_memtable) (state_of (journal ++ Clear old.seqno ∷ []) (cleared old))
  clear_step opened journal = (active_below old.memtables old.history old.next_memtable kept.ids, refl)

  clear_done : (new : Core) → new ≡ cleared old → IsClearDeed old.seqno old new
  clear_done new is opened journal notes = (
    saved_of (journal ++ Clear old.seqno ∷ []) (ClearedTo (length journal + 1) ∷ notes) (cleared old),
    record { answered = refl; certain = λ e. none_other old certain; step = clear_step opened journal; distinct = tt; notes = refl; others = refl },
    ap (saved_of (journal ++ Clear old.seqno ∷ []) (ClearedTo (length journal + 1) ∷ notes)) is,
  )

  clear_lost : (new : Core) → new ≡ doubted (cleared_in old) old → IsLostClear old new
  clear_lost new is = (
    cleared old,
    λ opened journal notes. (
      saved_of journal (ClearLost old.seqno (length journal) ∷ notes) (doubted (cleared_in old) old),
      record { commits = refl; certain = none_other old certain; step = clear_step opened journal; distinct = tt; state = ap (λ j. state_of j old) (sym (append-nil journal)); notes = refl; others = refl },
      ap (saved_of journal (ClearLost old.seqno (length journal) ∷ notes)) is,
    ),
  )

-- of a tree as every tree is
pub clear_deeds : (r : Result ℕ Error) (old new : Core) → IsKeptTree old → Clears r old new → ClearDeeds r old new
clear_deeds (Ok n) old new kept c = record {
  done = subst (λ m. IsClearDeed m old new) (sym c.ok.0) (clear_done old kept certain new c.ok.1);
  lost = λ h. absurd (ok_no_err n CommitUnknown h);
  refused = tt;
}
  where
    certain : old.lost ≡ None
    certain = none_of old.lost (λ some. ok_no_err n Unrecoverable (c.unrecoverable.1 some))
clear_deeds (Err e) old new kept c = record {
  done = tt;
  lost = λ h. clear_lost old kept (certain (err_is e CommitUnknown h)) new (c.unknown h);
  refused = λ known opened journal notes. looks_same old new (same known) journal notes;
}
  where
    certain : e ≡ CommitUnknown → old.lost ≡ None
    certain is = none_of old.lost (λ some. let other = err_is e Unrecoverable (c.unrecoverable.1 some) in cc (other, is))

    same : (e ≡ CommitUnknown → ⊥) → (new ≡ old) ⊎ (new ≡ counted old)
    same known =
        ⊎_elim (⊎_elim (λ (m : e ≡ OutOfMemory). c.memory (ap Err m)) (λ (m : e ≡ Store). inr (c.store (ap Err m))))
        (⊎_elim (λ (m : e ≡ CommitUnknown). absurd (known m)) (⊎_elim (λ (m : e ≡ OutOfNumbers). inl (c.before (inr (ap Err m)))) (λ (m : e ≡ Unrecoverable). inl (c.before (inl (ap Err m)))))) c.only
