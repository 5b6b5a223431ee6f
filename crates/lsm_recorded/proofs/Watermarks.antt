-- The watermarks of open merges stay marked.
use Rattle.std.proofs.Common.{cond, ◌≡◌, ℕ, Bool, true, false, ltb, not, ◌==◌, List, [], ◌∷◌, ◌++◌, fold, sym, subst}
use Rattle.std.specs.List.{AllByRecursion}
use Rattle.std.proofs.lemmas.Grind.{fold-append}
use Rattle.lsm_below.specs.Members.{each_in}
use Rattle.lsm_model.specs.Journal.{Event, kept_after, is_kept}
use Rattle.lsm_model.specs.declared.journal.JournalEntry.TheVariants.{Write, Clear, Install, Dropped, Mark, Read}
use Rattle.lsm_compaction.specs.Merges.{SeenCompaction}
use Rattle.lsm_compaction.specs.OpenMerges.{SeenOpenMerge, IsOpenIn, without}
use Rattle.lsm_state.specs.Core.{Core}
use Rattle.lsm_state.specs.CompactionDeeds.{IsMarkedIn}
use Rattle.lsm_recorded.specs.Recorded.{AreMarked}

-- ---- one watermark

-- what is kept after an event was kept before
kept_once : (s : ℕ) (b : Bool) (x : Event) → kept_after s b x ≡ true → b ≡ true
kept_once s b (Mark w) h = elim (ltb s w) as (λ t. cond t false b ≡ true → b ≡ true) [ true ↦ λ q. absurd (cc q) | false ↦ λ q. q ] h
kept_once s b (Write e) h = h
kept_once s b (Clear n) h = h
kept_once s b (Install n) h = h
kept_once s b (Dropped ranges n) h = h
kept_once s b (Read at question answer) h = h

kept_before : (s : ℕ) (b : Bool) (more : List Event) → fold (kept_after s) b more ≡ true → b ≡ true
kept_before s b [] h = h
kept_before s b (x ∷ more) h = kept_once s b x (kept_before s (kept_after s b x) more h)

-- a mark lasts
marked_on : (w : ℕ) (journal more : List Event) → IsMarkedIn w journal → IsMarkedIn w (journal ++ more)
marked_on w journal more h = λ s k. h s (kept_before s (is_kept s journal) more (rw (fold-append (kept_after s) true journal more) at k))

-- ---- those of merges

-- the merges' watermarks are marked
abbrev pub Marked : List Event → List SeenOpenMerge → Type 0
Marked journal ms = AllByRecursion (λ m. IsMarkedIn m.settings.watermark journal) ms

all_on : (journal more : List Event) (ms : List SeenOpenMerge) → Marked journal ms → Marked (journal ++ more) ms
all_on journal more [] h = tt
all_on journal more (m ∷ ms) h = (marked_on m.settings.watermark journal more h.0, all_on journal more ms h.1)

-- after more events, where merges stay
pub still_marked : (old new : Core) (journal more : List Event) → new.merges ≡ old.merges → AreMarked journal old → AreMarked (journal ++ more) new
still_marked old new journal more same h = subst (λ ms. Marked (journal ++ more) ms.underway) (sym same) (all_on journal more old.merges.underway h)

-- after none
pub same_marked : (old new : Core) (journal : List Event) → new.merges ≡ old.merges → AreMarked journal old → AreMarked journal new
same_marked old new journal same h = subst (λ ms. Marked journal ms.underway) (sym same) h

all_without : (journal : List Event) (n : ℕ) (ms : List SeenOpenMerge) → Marked journal ms → Marked journal (without n ms)
all_without journal n [] h = tt
all_without journal n (m ∷ ms) h = elim (not (m.number == n)) as (λ b. Marked journal (cond b (m ∷ without n ms) (without n ms))) [ true ↦ (h.0, all_without journal n ms h.1) | false ↦ all_without journal n ms h.1 ]

-- after more events, where a merge is closed
pub closed_marked : (old new : Core) (journal more : List Event) (n : ℕ) → new.merges.underway ≡ without n old.merges.underway → AreMarked journal old → AreMarked (journal ++ more) new
closed_marked old new journal more n same h = subst (Marked (journal ++ more)) (sym same) (all_on journal more (without n old.merges.underway) (all_without journal n old.merges.underway h))

all_and : (journal : List Event) (ms : List SeenOpenMerge) (m : SeenOpenMerge) → Marked journal ms → IsMarkedIn m.settings.watermark journal → Marked journal (ms ++ m ∷ [])
all_and journal [] m h is = (is, tt)
all_and journal (x ∷ ms) m h is = (h.0, all_and journal ms m h.1 is)

-- after the mark of one that is opened
pub opened_marked : (old new : Core) (journal more : List Event) (m : SeenOpenMerge) → new.merges.underway ≡ old.merges.underway ++ m ∷ [] → IsMarkedIn m.settings.watermark (journal ++ more) → AreMarked journal old → AreMarked (journal ++ more) new
opened_marked old new journal more m is marks h = subst (Marked (journal ++ more)) (sym is) (all_and (journal ++ more) old.merges.underway m (all_on journal more old.merges.underway h) marks)

-- the watermark of an open job is marked
pub open_marked : (job : SeenCompaction) (c : Core) (journal : List Event) → AreMarked journal c → IsOpenIn job c.merges.underway → IsMarkedIn job.settings.watermark journal
open_marked job c journal h is_open = subst (λ w. IsMarkedIn w journal) is_open.2.watermark (each_in (λ (m : SeenOpenMerge). IsMarkedIn m.settings.watermark journal) c.merges.underway is_open.0 h is_open.1)
