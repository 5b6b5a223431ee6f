-- An installed flush is a step of the theory of reads, and leaves super versions that name older memtables.
use Rattle.std.proofs.Common.{suc, zero, ◌≡◌, ℕ, false, ◌+◌, ◌≤◌, List, [], ◌∷◌, ◌++◌, map, flat_map, take, drop, length, reverse, refl, sym, ap, ◌∙◌, subst, arith, append_assoc}
use Rattle.std.proofs.lemmas.List.{map-append, reverse-append, reverse-reverse, take-append-drop}
use Rattle.std.proofs.lemmas.List.Concat.{flat_map-cons}
use Rattle.std.proofs.lemmas.List.Elements.{filter-append}
use Rattle.std.proofs.lemmas.Grind.{flat_map-append}
use Rattle.lsm_below.specs.Keys.{Bytes, is_same}
use Rattle.lsm_below.specs.Entries.{Entry, stack, keep, IsOrdered, IsFalling}
use Rattle.lsm_model.specs.Journal.{Event}
use Rattle.lsm_model.specs.Views.{Placed, SuperVersion as Shown, held}
use Rattle.lsm_model.specs.Steps.{Step}
use Rattle.lsm_model.specs.declared.journal.JournalEntry.TheVariants.{Install}
use Rattle.lsm_model.proofs.Stacks.{falling_left, falling_right}
use Rattle.lsm_versions.specs.Levels.{placed_in, placed_of}
use Rattle.lsm_versions.specs.TableLaws.{entries_of_placed}
use Rattle.lsm_versions.specs.Installs.{FlushesAreSteps}
use Rattle.lsm_flush.specs.Jobs.{SeenWritten, IsWrittenFrom}
use Rattle.lsm_parts.specs.declared.version.super_version.SuperVersion.{SuperVersion}
use Rattle.lsm_parts.specs.History.{versions_of}
use Rattle.lsm_parts.specs.Held.{entries_of}
use Rattle.lsm_state.specs.Kept.{RiseFrom, first_or, NameOlder}
use Rattle.lsm_state.specs.Core.{Core, shown_as, state_of}
use Rattle.lsm_state.specs.Commits.{committed}
use Rattle.lsm_state.specs.Deeds.{HasOrder}
use Rattle.lsm_state.specs.Flushes.{IsCurrent, IsFlushed, flush_of, spent}

-- ---- order

-- the entries of a key, source by source
stack_sources : (k : Bytes) (xs ys : List (List Entry)) → stack k (flat_map (λ es. es) (xs ++ ys)) ≡ stack k (flat_map (λ es. es) xs) ++ stack k (flat_map (λ es. es) ys)
stack_sources k xs ys = ap (stack k) (flat_map-append (λ es. es) xs ys) ∙ filter-append (λ e. is_same k e.key.user_key) (flat_map (λ es. es) xs) (flat_map (λ es. es) ys)

-- numbers fall along a part of the sources
part_ordered : (xs ys zs : List (List Entry)) → IsOrdered (xs ++ (ys ++ zs)) → IsOrdered ys
part_ordered xs ys zs h k =
    let of = λ (l : List (List Entry)). stack k (flat_map (λ es. es) l) in
    let all : IsFalling (of xs ++ (of ys ++ of zs)) = subst IsFalling (stack_sources k xs (ys ++ zs) ∙ ap (λ l. of xs ++ l) (stack_sources k ys zs)) (h k) in
    falling_left (of ys) (of zs) (falling_right (of xs) (of ys ++ of zs) all)

flat_sources : (f : ℕ → List Entry) (ids : List ℕ) → flat_map (λ es. es) (map f ids) ≡ flat_map f ids
flat_sources f [] = refl
flat_sources f (i ∷ ids) = flat_map-cons (λ (es : List Entry). es) (f i) (map f ids) ∙ ap (λ es. f i ++ es) (flat_sources f ids) ∙ sym (flat_map-cons f i ids)

-- ---- a flush

module _ (job : SeenWritten) (c : Core) (current : IsCurrent job c) (written : IsWrittenFrom job.job job.watermark job.tables) where
  -- the sealed memtables that stay
  abbrev rest : List ℕ
  rest = reverse (drop (length job.job.ids) c.history.latest.sealed_memtables)

  sealed_split : reverse c.history.latest.sealed_memtables ≡ rest ++ job.job.ids
  sealed_split =
      let n = length job.job.ids in
      let s = c.history.latest.sealed_memtables in
      ap reverse (sym (take-append-drop n s)) ∙ reverse-append (take n s) (drop n s) ∙ ap (λ l. reverse (drop n s) ++ l) (ap reverse current.sealed ∙ reverse-reverse job.job.ids)

  -- the tables hold what is kept of the job's memtables
  kept_here : HasOrder c → (k : Bytes) → stack k (held (placed_in 0 job.tables)) ≡ keep job.watermark false (stack k (flat_map (entries_of c.memtables) job.job.ids))
  kept_here order k =
      let m = entries_of c.memtables in
      let a = c.history.latest.active_memtable in
      let tables = map (λ (p : Placed). p.table.entries) (placed_of c.history.latest.version.levels) in
      let parts : map m (a ∷ reverse c.history.latest.sealed_memtables) ++ tables ≡ map m (a ∷ rest) ++ (map m job.job.ids ++ tables) =
      ap (λ l. m a ∷ (map m l ++ tables)) sealed_split ∙ ap (λ l. m a ∷ (l ++ tables)) (map-append m rest job.job.ids) ∙ ap (λ l. m a ∷ l) (append_assoc (map m rest) (map m job.job.ids) tables) in
      let part : IsOrdered (map m job.job.ids) = part_ordered (map m (a ∷ rest)) (map m job.job.ids) tables (subst IsOrdered parts order) in
      ap (stack k) (entries_of_placed 0 job.tables) ∙ written.kept.ordered (subst IsOrdered (sym current.entries) part) k ∙ ap (λ l. keep job.watermark false (stack k l)) (ap (flat_map (λ es. es)) current.entries ∙ flat_sources m job.job.ids)

  module _ (next : SuperVersion) (flushed : IsFlushed job (spent job.job.number c) next) where
    abbrev shown_next : Shown
    shown_next = record { number = c.seqno; active = c.history.latest.active_memtable; sealed = rest; tables = placed_of next.version.levels }

    shown_is : shown_as next ≡ shown_next
    shown_is =
        let tables = placed_of next.version.levels in
        ap (λ n. record { number = n; active = next.active_memtable; sealed = reverse next.sealed_memtables; tables = tables }) flushed.seqno
        ∙ ap (λ a. record { number = c.seqno; active = a; sealed = reverse next.sealed_memtables; tables = tables }) flushed.active
        ∙ ap (λ s. record { number = c.seqno; active = c.history.latest.active_memtable; sealed = reverse s; tables = tables }) flushed.sealed

    pub flush_step : FlushesAreSteps → (opened : List Entry) (journal : List Event) → Step opened (state_of journal c) (flush_of job) (state_of (journal ++ Install c.seqno ∷ []) (committed next (spent job.job.number c)))
    flush_step law opened journal =
        subst (λ (s : Shown). Step opened (state_of journal c) (flush_of job) (record { journal = journal ++ Install c.seqno ∷ []; mems = entries_of c.memtables; latest = s; older = map shown_as (versions_of c.history) })) (sym shown_is)
        (law opened job.watermark c.seqno job.job.ids rest job.tables (state_of journal c) c.history.latest.version.levels next.version.levels refl sealed_split flushed.covers flushed.placed flushed.laid.laid kept_here)

-- ---- what it names

rise_end : (m a : ℕ) (ids : List ℕ) → RiseFrom m (ids ++ a ∷ []) → m ≤ a
rise_end m a [] h = h.0
rise_end m a (i ∷ ids) h =
    let here : m ≤ i = h.0 in
    let after = rise_end (i + 1) a ids h.1 in
    omega (arith, here, after)

-- the ids from a place on rise, from the first of them
record RisesOn (m a : ℕ) (ids : List ℕ) : Type 0 where
  over : m ≤ first_or a ids
  within : first_or a ids ≤ a
  rise : RiseFrom (first_or a ids) (ids ++ a ∷ [])

rise_whole : (m a : ℕ) (ids : List ℕ) → RiseFrom m (ids ++ a ∷ []) → RisesOn m a ids
rise_whole m a [] h = record { over = h.0; within = omega arith; rise = (omega arith, tt) }
rise_whole m a (i ∷ ids) h = let after = rise_end (i + 1) a ids h.1 in record { over = h.0; within = omega (arith, after); rise = (omega arith, h.1) }

rise_drop : (m a n : ℕ) (ids : List ℕ) → RiseFrom m (ids ++ a ∷ []) → RisesOn m a (drop n ids)
rise_drop m a zero ids h = rise_whole m a ids h
rise_drop m a (suc n) [] h = rise_whole m a [] h
rise_drop m a (suc n) (i ∷ ids) h =
    let after = rise_drop (i + 1) a n ids h.1 in
    let here : m ≤ i = h.0 in
    let over = after.over in
    record { over = omega (arith, here, over); within = after.within; rise = after.rise }

-- a super version without the oldest sealed memtables of the one after it
pub names_older : (p n : ℕ) (latest next : SuperVersion) (older : List SuperVersion) → next.active_memtable ≡ latest.active_memtable → next.sealed_memtables ≡ drop n latest.sealed_memtables → NameOlder p (latest ∷ older) → NameOlder latest.active_memtable (next ∷ (latest ∷ older))
names_older p n latest next older active sealed named =
    let a = latest.active_memtable in
    let on = rise_drop (first_or a latest.sealed_memtables) a n latest.sealed_memtables named.1 in
    let Named = λ (b : ℕ) (s : List ℕ). (first_or b s ≤ a) × RiseFrom (first_or b s) (s ++ b ∷ []) × NameOlder (first_or b s) (latest ∷ older) in
    subst (λ b. Named b next.sealed_memtables) (sym active) (subst (λ s. Named a s) (sym sealed) (on.within, on.rise, (on.over, named.1, named.2)))
