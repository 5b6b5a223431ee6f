-- What a crash may leave of a logged tree is numbered below the place of its counter: also what has unknown outcome.
use Rattle.std.proofs.Common.{◌≡◌, ⊎_elim, inl, inr, ℕ, ◌+◌, ◌<◌, ◌≤◌, max, List, [], ◌∷◌, ◌++◌, fold, flat_map, Some, sym, ap, ◌∙◌, subst, arith}
use Rattle.std.proofs.lemmas.Grind.{flat_map-append}
use Rattle.std.specs.List.{AllByRecursion}
use Rattle.lsm_below.specs.Each.{each_append, each_weaker}
use Rattle.lsm_below.specs.Entries.{Entry, above}
use Rattle.lsm_below.specs.Members.{IsIn}
use Rattle.lsm_model.specs.Counted.{OfWrite}
use Rattle.lsm_model.specs.Journal.{Event, Map, next_number_after}
use Rattle.lsm_model.specs.Sound.{Holds}
use Rattle.lsm_model.specs.Steps.{State, Action, Flushed, Cleared, Step}
use Rattle.lsm_model.specs.declared.journal.JournalEntry.TheVariants.{Write, Clear, Install, Dropped, Mark, Read}
use Rattle.lsm_model.proofs.Journals.{next_of-le, numbers_grow}
use Rattle.lsm_versions.specs.TableLaws.{above-append}
use Rattle.lsm_log_model.specs.Joins.{DrawsBelow}
use Rattle.lsm_log_model.specs.Logs.{Logged as Log, LostBatch, MayBeDrawn, next_from, lost_of, Act, Batched, BatchLost, Did, CommitLost, Acts, MayLeave}
use Rattle.lsm_log_model.specs.Numbered.{AreBelow}
use Rattle.lsm_log_model.specs.Records.{Batch, LogImage, counted, entries_of, since, opened_by}
use Rattle.lsm_log_model.specs.Replays.{IsReopened}
use Rattle.lsm_log_model.proofs.Batches.{each_entries, since_each}
use Rattle.lsm_log_model.proofs.Following.{mems_below}
use Rattle.lsm_log_model.proofs.Writes.{deeds_run}
use Rattle.lsm_log_runs.specs.Images.{IsNumberedBelow}
use Rattle.lsm_log_runs.specs.Standing.{IsUnder}

-- ---- acts

pub raised : (t : Log) (c d : ℕ) → c ≤ d → IsUnder c t → IsUnder d t
raised t c d le under = record {
  lost = each_weaker _ _ (λ (b : Batch) q. omega arith) (lost_of t.lost) under.lost;
  other = ⊎_elim (λ (none : t.tree.others ≡ []). inl none) (λ (low : t.other_from ≤ c). inr (omega arith)) under.other;
}

pub reopened_under : (image : LogImage) (t : Log) (c : ℕ) → IsReopened image t → IsUnder c t
reopened_under image t c r = record { lost = subst (λ l. AllByRecursion (λ (b : Batch). b.number < c) (lost_of l)) (sym r.lost) tt; other = inl r.others }

module _ (opened : List Entry) (start : Map) where
  -- a commit makes a version that reads the log from no number on that is above what is flushed, or what a clear drew
  from_low : (old : State) (action : Action) (would : State) (from n : ℕ) → Step opened old action would → from ≤ n → above (flat_map old.mems (old.latest.active ∷ old.latest.sealed)) ≤ n → would.latest.number < n → next_from old from action ≤ n
  from_low old (Flushed w job made) would from n m l low drawn =
      let a = ap (λ ids. above (flat_map old.mems (old.latest.active ∷ ids))) m.sealed ∙ ap above (flat_map-append old.mems (old.latest.active ∷ would.latest.sealed) job) ∙ above-append (flat_map old.mems (old.latest.active ∷ would.latest.sealed)) (flat_map old.mems job) in
      omega arith
  from_low old (Cleared k a) would from n m l low drawn = let z = ap (λ (t : State). t.latest.number) m.1 in omega arith
  from_low old other would from n m l low drawn = l

  pub act_under : (old : Log) (act : Act) (new : Log) (c d : ℕ) → Acts opened old act new → Holds opened start old.tree.state → MayBeDrawn opened old c → c ≤ d → DrawsBelow act new d → IsUnder c old → IsUnder d new
  act_under old (Batched b) new c d a holds next le drawn under =
      let up = raised old c d le under in
      let same = (deeds_run opened old.tree new.tree (entries_of b) a.writes).others in
      subst (IsUnder d) (sym a.rest) (record { lost = up.lost; other = ⊎_elim (λ (none : old.tree.others ≡ []). inl (same ∙ none)) (λ (low : old.other_from ≤ d). inr low) up.other })
  act_under old (BatchLost b) new c d a holds next le drawn under =
      let up = raised old c d le under in
      subst (IsUnder d) (sym a.rest) (record { lost = (drawn, tt); other = up.other })
  act_under old (Did action) new c d a holds next le drawn under =
      let up = raised old c d le under in
      subst (IsUnder d) (sym a.rest) (record { lost = up.lost; other = ⊎_elim (λ (none : old.tree.others ≡ []). inl (a.done.others ∙ none)) (λ (low : old.other_from ≤ d). inr low) up.other })
  act_under old (CommitLost action would) new c d a holds next le drawn under =
      let up = raised old c d le under in
      let q = next.above_journal in
      let v = next.above_version in
      let low = mems_below opened start old.tree.state c holds (λ key. let z = next_of-le key opened old.tree.state.journal in omega arith) in
      subst (IsUnder d) (sym a.rest) (record { lost = up.lost; other = inr (from_low old.tree.state action would old.log_from d a.lost.step (omega arith) (omega arith) drawn) })

-- ---- what is left

-- a number above all of a logged tree
abbrev pub Bounds : List Entry → Log → ℕ → Type 0
Bounds opened t c = MayBeDrawn opened t c × IsUnder c t

written_under : (n c : ℕ) (journal : List Event) → fold next_number_after n journal ≤ c → AllByRecursion (OfWrite (λ e. e.key.seqno < c)) journal
written_under n c [] low = tt
written_under n c (x ∷ journal) low = (here x low, written_under (next_number_after n x) c journal low)
  where
    here : (x : Event) → fold next_number_after (next_number_after n x) journal ≤ c → OfWrite (λ e. e.key.seqno < c) x
    here (Write e) low = let grown = numbers_grow (max n (e.key.seqno + 1)) journal in omega arith
    here (Clear m) low = tt
    here (Install m) low = tt
    here (Dropped ranges m) low = tt
    here (Mark w) low = tt
    here (Read at question told) low = tt

module _ (opened : List Entry) (t : Log) (c : ℕ) (bounds : Bounds opened t c) where
  abbrev next : MayBeDrawn opened t c
  next = bounds.0

  abbrev under : IsUnder c t
  under = bounds.1

  pub below_counter : AreBelow c opened t.tree.state.journal t.lost
  below_counter =
      let grown = numbers_grow (above opened) t.tree.state.journal in
      let all = next.above_journal in
      record {
        before = omega arith;
        written = written_under (above opened) c t.tree.state.journal all;
        doubtful = each_entries (λ n. n < c) (lost_of t.lost) under.lost;
      }

  module _ (left : LogImage) (may : MayLeave t left) where
    from_of : left.log_from ≤ c
    from_of = ⊎_elim
        (λ (h : (left.tables ≡ t.tree.state.latest.tables) × (left.log_from ≡ t.log_from)). let v = next.above_version in let e = h.1 in omega arith)
        (λ (h : IsIn left.tables t.tree.others × (left.log_from ≡ t.other_from)).
        ⊎_elim (λ (none : t.tree.others ≡ []). absurd (subst (IsIn left.tables) none h.0)) (λ (low : t.other_from ≤ c). let e = h.1 in omega arith) under.other)
        may.version

    abbrev AreUnder : List Batch → Type 0
    AreUnder bs = AllByRecursion (λ (b : Batch). b.number < c) bs

    records_of : AreUnder (counted left)
    records_of = ⊎_elim
        (λ (h : counted left ≡ since left.log_from t.records). subst AreUnder (sym h) (since_each _ left.log_from t.records next.above_records))
        (λ (h : (l : LostBatch) × (t.lost ≡ Some l) × (counted left ≡ since left.log_from (t.records ++ l.batch ∷ []))).
        subst AreUnder (sym h.2) (since_each _ left.log_from (t.records ++ h.0.batch ∷ []) (each_append _ t.records (h.0.batch ∷ []) next.above_records (subst (λ l. AreUnder (lost_of l)) h.1 under.lost))))
        may.records

    pub left_under : above (opened_by left) ≤ c → IsNumberedBelow c left
    left_under entries = record { entries = entries; records = records_of; log_from = from_of }
