-- What a crash leaves of a logged tree is numbered below whatever is above all that was opened, written and in doubt.
use Rattle.std.proofs.Common.{◌≡◌, ℕ, ◌<◌, ◌≤◌, List, [], ◌∷◌, ◌++◌, Some, None, map, reverse, refl, sym, subst, arith, ⊎_elim}
use Rattle.std.specs.List.{AllByRecursion}
use Rattle.std.proofs.lemmas.List.{reverse-reverse}
use Rattle.lsm_below.specs.Entries.{Entry, above}
use Rattle.lsm_below.specs.Each.{each_left, each_right, each_append}
use Rattle.lsm_below.specs.Members.{each_in}
use Rattle.lsm_model.specs.Journal.{Event, Map, InOrder}
use Rattle.lsm_model.specs.Counted.{OfWrite}
use Rattle.lsm_model.specs.Views.{IsIn, held}
use Rattle.lsm_model.specs.Sound.{Holds}
use Rattle.lsm_model.specs.Soundness.{Soundness}
use Rattle.lsm_model.specs.Laws.{MapsAreRead, PartsAreWhole, TablesArePlaced}
use Rattle.lsm_model.specs.Beginnings.{Saved, Deed, Done, Lost, Deeds, versions}
use Rattle.lsm_model.specs.declared.journal.JournalEntry.TheVariants.{Write}
use Rattle.lsm_model.proofs.Above.{above_each, below_each}
use Rattle.lsm_run_model.proofs.Numbers.{deeds_small}
use Rattle.lsm_log_model.specs.Records.{Batch, entries_of, entries_in, since, LogImage, counted, logged, opened_by}
use Rattle.lsm_log_model.specs.Logs.{Logged, LostBatch, lost_of, writes_of, next_from, Act, Batched, BatchLost, Did, CommitLost, Acts, AllActs, HasVersion, HasRecords, MayLeave, MayBeLeft}
use Rattle.lsm_log_model.specs.Replays.{IsReopened}
use Rattle.lsm_log_model.specs.Numbered.{LeftIsNumbered}
use Rattle.lsm_log_model.proofs.Stacks.{above-append}
use Rattle.lsm_log_model.proofs.Batches.{each_reverse, since_each}
use Rattle.lsm_log_model.proofs.Writes.{run_journal, deeds_run}
use Rattle.lsm_log_model.proofs.Growth.{act_grown, acts_order}
use Rattle.lsm_log_model.proofs.Kept.{IsKept, act_kept}
use Rattle.lsm_log_model.proofs.Crashes.{reopened_kept, from_opened}

above_reverse : (n : ℕ) (es : List Entry) → above es ≤ n → above (reverse es) ≤ n
above_reverse n es l = above_each n (reverse es) (each_reverse (λ (e : Entry). e.key.seqno < n) es (below_each n es l))

module _ (n : ℕ) where
  -- the entries of these records are numbered below
  abbrev AreLow : List Batch → Type 0
  AreLow records = AllByRecursion (λ b. above (entries_of b) ≤ n) records

  low_entries : (records : List Batch) → AreLow records → above (entries_in records) ≤ n
  low_entries [] h = omega arith
  low_entries (b ∷ records) h = let a = above-append (entries_of b) (entries_in records) in let first = h.0 in let rest = low_entries records h.1 in omega arith

  low_records : (records : List Batch) → above (entries_in records) ≤ n → AreLow records
  low_records [] h = tt
  low_records (b ∷ records) h = let a = above-append (entries_of b) (entries_in records) in (omega arith, low_records records (omega arith))

  abbrev Written : List Event → Type 0
  Written journal = AllByRecursion (OfWrite (λ e. e.key.seqno < n)) journal

  written_low : (es : List Entry) → Written (map Write es) → above es ≤ n
  written_low [] h = omega arith
  written_low (e ∷ es) h = let first = h.0 in let rest = written_low es h.1 in omega arith

  -- tables that opening may find, and records, are numbered below
  record IsLow (t : Logged) : Type 0 where
    pub tables : AllByRecursion (λ tables. above (held tables) ≤ n) (versions t.tree)
    pub records : AreLow t.records

  left_low : (t : Logged) → IsLow t → AreLow (lost_of t.lost) → (left : LogImage) → MayLeave t left → above (opened_by left) ≤ n
  left_low t low lost left m =
      let is = above-append (reverse (entries_in (counted left))) (held left.tables) in
      let a = tables m.version in
      let b = above_reverse n (entries_in (counted left)) (low_entries (counted left) (records m.records)) in omega arith
    where
      tables : HasVersion left t → above (held left.tables) ≤ n
      tables v = ⊎_elim
          (λ (h : (left.tables ≡ t.tree.state.latest.tables) × (left.log_from ≡ t.log_from)). subst (λ ts. above (held ts) ≤ n) (sym h.0) low.tables.0)
          (λ (h : IsIn left.tables t.tree.others × (left.log_from ≡ t.other_from)). each_in (λ ts. above (held ts) ≤ n) t.tree.others left.tables low.tables.1 h.0)
          v

      records : HasRecords left t → AreLow (counted left)
      records r = ⊎_elim
          (λ (h : counted left ≡ since left.log_from t.records). subst AreLow (sym h) (since_each _ left.log_from t.records low.records))
          (λ (h : (l : LostBatch) × (t.lost ≡ Some l) × (counted left ≡ since left.log_from (t.records ++ l.batch ∷ []))).
          subst AreLow (sym h.2) (since_each _ left.log_from (t.records ++ h.0.batch ∷ []) (each_append _ t.records (h.0.batch ∷ []) low.records (subst (λ l. AreLow (lost_of l)) h.1 lost))))
          r

  -- ---- acts

  module _ (theory : Soundness) (maps : MapsAreRead) (whole : PartsAreWhole) (placed : TablesArePlaced) (opened : List Entry) (start : Map) (before : above opened ≤ n) where
    act_front : (old : Logged) (act : Act) (new : Logged) → Acts opened old act new → Written new.tree.state.journal → AreLow (lost_of new.lost) → Written old.tree.state.journal × AreLow (lost_of old.lost)
    act_front old act new d w l =
        let g = act_grown opened old act new d in (
          each_left _ old.tree.state.journal g.more (subst Written g.journal w),
          ⊎_elim
              (λ (z : old.lost ≡ None). subst (λ l. AreLow (lost_of l)) (sym z) tt)
              (λ (z : new.lost ≡ old.lost). subst (λ l. AreLow (lost_of l)) z l)
              g.lost,
        )

    acts_front : (old : Logged) (acts : List Act) (new : Logged) → AllActs opened old acts new → Written new.tree.state.journal → AreLow (lost_of new.lost) → Written old.tree.state.journal × AreLow (lost_of old.lost)
    acts_front old [] new d w l = (subst (λ (t : Logged). Written t.tree.state.journal) d w, subst (λ (t : Logged). AreLow (lost_of t.lost)) d l)
    acts_front old (act ∷ acts) new d w l = let r = acts_front d.0 acts new d.2 w l in act_front old act d.0 d.1 r.0 r.1

    small : (old : Saved) (deeds : List Deed) (new : Saved) → Deeds opened old deeds new → InOrder opened new.state.journal → Written new.state.journal → Holds opened start old.state → AllByRecursion (λ tables. above (held tables) ≤ n) (versions old) → AllByRecursion (λ tables. above (held tables) ≤ n) (versions new)
    small old deeds new d o w h s = deeds_small theory opened start n old deeds new d o (record { before = before; written = w }) h s

    act_low : (old : Logged) (act : Act) (new : Logged) → Acts opened old act new → InOrder opened new.tree.state.journal → Written new.tree.state.journal → Holds opened start old.tree.state → IsLow old → IsLow new
    act_low old (Batched b) new d o w h low =
        let r = deeds_run opened old.tree new.tree (entries_of b) d.writes in
        let journal = run_journal opened old.tree.state new.tree.state (entries_of b) r.run in
        let own : Written (map Write (entries_of b)) = each_right _ old.tree.state.journal (map Write (entries_of b)) (subst Written journal w) in
        let b_low : AreLow (b ∷ []) = (written_low (entries_of b) own, tt) in
        subst IsLow (sym d.rest) (record { tables = small old.tree (writes_of (entries_of b)) new.tree d.writes o w h low.tables; records = each_append _ old.records (b ∷ []) low.records b_low })
    act_low old (BatchLost b) new d o w h low = subst IsLow (sym d.rest) (record { tables = low.tables; records = low.records })
    act_low old (Did action) new d o w h low =
        let from = next_from old.tree.state old.log_from action in
        subst IsLow (sym d.rest) (record { tables = small old.tree (Done action ∷ []) new.tree (new.tree, d.done, refl) o w h low.tables; records = since_each _ from old.records low.records })
    act_low old (CommitLost action would) new d o w h low =
        subst IsLow (sym d.rest) (record { tables = small old.tree (Lost action would ∷ []) new.tree (new.tree, d.lost, refl) o w h low.tables; records = low.records })

    found : (old : Logged) (call : List Act) (new : Logged) (d : AllActs opened old call new) → InOrder opened new.tree.state.journal → Written new.tree.state.journal → AreLow (lost_of new.lost) → IsKept opened start old → IsLow old
        → (left : LogImage) → MayBeLeft left opened old call new d → above (opened_by left) ≤ n
    found old [] new d o w l k low left m = left_low old low (subst (λ (t : Logged). AreLow (lost_of t.lost)) d l) left m
    found old (act ∷ call) new d o w l k low left m =
        let order = acts_order theory opened d.0 call new d.2 o in
        let front = acts_front d.0 call new d.2 w l in
        ⊎_elim
        (λ (i : MayLeave old left). left_low old low (act_front old act d.0 d.1 front.0 front.1).1 left i)
        (λ (i : MayBeLeft left opened d.0 call new d.2). found d.0 call new d.2 o w l (act_kept theory maps whole placed opened start old act d.0 d.1 order k) (act_low old act d.0 d.1 order front.0 k.holds low) left i)
        m

    acts_low : (old : Logged) (acts : List Act) (new : Logged) → AllActs opened old acts new → InOrder opened new.tree.state.journal → Written new.tree.state.journal → AreLow (lost_of new.lost) → IsKept opened start old → IsLow old → IsLow new
    acts_low old [] new d o w l k low = subst IsLow (sym d) low
    acts_low old (act ∷ acts) new d o w l k low =
        let order = acts_order theory opened d.0 acts new d.2 o in
        let front = acts_front d.0 acts new d.2 w l in
        acts_low d.0 acts new d.2 o w l (act_kept theory maps whole placed opened start old act d.0 d.1 order k) (act_low old act d.0 d.1 order front.0 k.holds low)

  -- ---- a tree that was just opened

  reopened_low : (image : LogImage) (t : Logged) → IsReopened image t → above (opened_by image) ≤ n → IsLow t
  reopened_low image t r l =
      let es = entries_in (counted image) in
      let parts = above-append (reverse es) (held image.tables) in
      let es_low : above es ≤ n = subst (λ fs. above fs ≤ n) (reverse-reverse es) (above_reverse n (reverse es) (omega arith)) in
      let held_low : above (held image.tables) ≤ n = omega arith in
      record {
        tables = (subst (λ ts. above (held ts) ≤ n) (sym r.tables) held_low, subst (AllByRecursion (λ tables. above (held tables) ≤ n)) (sym r.others) tt);
        records = subst AreLow (sym r.records) (low_records (counted image) es_low);
      }

pub left_numbered : Soundness → MapsAreRead → PartsAreWhole → TablesArePlaced → LeftIsNumbered
left_numbered theory maps whole placed image first old new earlier call stands r ran done order n below left m =
    let opened = opened_by image in
    let start = logged image in
    let lost = low_records n (lost_of new.lost) (above_each n (entries_in (lost_of new.lost)) below.doubtful) in
    let before = acts_order theory opened old call new done order in
    let front = acts_front n theory maps whole placed opened start below.before old call new done below.written lost in
    let kept = reopened_kept theory maps whole placed image stands first r in
    let low = acts_low n theory maps whole placed opened start below.before first earlier old ran before front.0 front.1 kept (reopened_low n image first r below.before) in
    found n theory maps whole placed opened start below.before old call new done order below.written lost (from_opened theory maps whole placed image stands first earlier old r ran before) low left m
