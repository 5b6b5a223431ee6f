-- Acts are joined and cut, a counter stays above all that they drew, and deeds of the tree are acts.
use Rattle.std.proofs.Common.{◌≡◌, ℕ, ◌+◌, ◌<◌, ◌≤◌, max, true, false, List, [], ◌∷◌, ◌++◌, flat_map, map, refl, sym, ap, ◌∙◌, subst, arith, append-nil, ◌⊎◌, inl, inr, ⊎_elim}
use Rattle.std.specs.List.{AllByRecursion}
use Rattle.std.proofs.lemmas.Grind.{flat_map-append, fold-append}
use Rattle.lsm_below.specs.Entries.{Entry, above}
use Rattle.lsm_below.specs.Each.{each_append, each_weaker}
use Rattle.lsm_model.specs.Journal.{Map, InOrder, next_number, next_number_after}
use Rattle.lsm_model.specs.Steps.{State, Action, Wrote, Rotated, Flushed, Merged, Moved, DroppedTables, Cleared, Marked, LostDrop, Asked, Maintained, Step}
use Rattle.lsm_model.specs.Soundness.{Soundness}
use Rattle.lsm_model.specs.Laws.{MapsAreRead, PartsAreWhole, TablesArePlaced}
use Rattle.lsm_model.specs.Beginnings.{is_commit, told_lost}
use Rattle.lsm_model.specs.declared.journal.JournalEntry.TheVariants.{Write}
use Rattle.lsm_model.proofs.Above.{above_each}
use Rattle.lsm_model.proofs.Journals.{next_of-le}
use Rattle.lsm_log_model.specs.Records.{Batch, entries_of, LogImage, logged, opened_by}
use Rattle.lsm_log_model.specs.Logs.{Logged, MayBeDrawn, is_write, next_from, Act, Batched, BatchLost, Did, CommitLost, Acts, AllActs, MayLeave, MayBeLeft}
use Rattle.lsm_log_model.specs.Joins.{ActsJoin, DrawsBelow, CounterStaysAbove}
use Rattle.lsm_log_model.proofs.Stacks.{above-append}
use Rattle.lsm_log_model.proofs.Batches.{each_entry, since_each}
use Rattle.lsm_log_model.proofs.Orders.{number_writes}
use Rattle.lsm_log_model.proofs.Writes.{run_journal, deeds_run}
use Rattle.lsm_log_model.proofs.Following.{mems_below}
use Rattle.lsm_log_model.proofs.Growth.{act_grown}
use Rattle.lsm_log_model.proofs.Kept.{IsKept}
use Rattle.lsm_log_model.proofs.Crashes.{from_opened}

-- ---- acts

left_first : (left : LogImage) (opened : List Entry) (old : Logged) (acts : List Act) (new : Logged) (d : AllActs opened old acts new) → MayLeave old left → MayBeLeft left opened old acts new d
left_first left opened old [] new d m = m
left_first left opened old (act ∷ acts) new d m = inl m

left_last : (left : LogImage) (opened : List Entry) (old : Logged) (acts : List Act) (new : Logged) (d : AllActs opened old acts new) → MayLeave new left → MayBeLeft left opened old acts new d
left_last left opened old [] new d m = subst (λ (t : Logged). MayLeave t left) d m
left_last left opened old (act ∷ acts) new d m = inr (left_last left opened d.0 acts new d.2 m)

join : (opened : List Entry) (old mid new : Logged) (xs ys : List Act) (d : AllActs opened old xs mid) (e : AllActs opened mid ys new)
    → (all : AllActs opened old (xs ++ ys) new) × ((left : LogImage) → MayBeLeft left opened old xs mid d ⊎ MayBeLeft left opened mid ys new e → MayBeLeft left opened old (xs ++ ys) new all)
join opened old mid new [] ys d e =
    subst (λ t. (e : AllActs opened t ys new) → (all : AllActs opened old ys new) × ((left : LogImage) → MayLeave old left ⊎ MayBeLeft left opened t ys new e → MayBeLeft left opened old ys new all)) (sym d)
    (λ e. (e, λ left found. ⊎_elim (λ (i : MayLeave old left). left_first left opened old ys new e i) (λ (i : MayBeLeft left opened old ys new e). i) found)) e
join opened old mid new (x ∷ xs) ys d e =
    let rest = join opened d.0 mid new xs ys d.2 e in (
      (d.0, d.1, rest.0),
      λ left found. ⊎_elim
          (λ (i : MayLeave old left ⊎ MayBeLeft left opened d.0 xs mid d.2). ⊎_elim (λ (j : MayLeave old left). inl j) (λ (j : MayBeLeft left opened d.0 xs mid d.2). inr (rest.1 left (inl j))) i)
          (λ (i : MayBeLeft left opened mid ys new e). inr (rest.1 left (inr i)))
          found,
    )

cut : (opened : List Entry) (old new : Logged) (xs ys : List Act) → AllActs opened old (xs ++ ys) new → (mid : Logged) × AllActs opened old xs mid × AllActs opened mid ys new
cut opened old new [] ys d = (old, refl, d)
cut opened old new (x ∷ xs) ys d = let r = cut opened d.0 new xs ys d.2 in (r.0, (d.0, d.1, r.1), r.2)

pub acts_join : ActsJoin
acts_join = record {
  both = join;
  cut = cut;
  ends = λ left opened old new acts d m. ⊎_elim (λ (i : MayLeave old left). left_first left opened old acts new d i) (λ (i : MayLeave new left). left_last left opened old acts new d i) m;
}

-- ---- numbers

drawn_later : (opened : List Entry) (t : Logged) (c d : ℕ) → c ≤ d → MayBeDrawn opened t c → MayBeDrawn opened t d
drawn_later opened t c d l n = record {
  above_journal = let a = n.above_journal in omega arith;
  above_version = let a = n.above_version in omega arith;
  above_records = each_weaker _ _ (λ b q. omega arith) t.records n.above_records;
}

module _ (opened : List Entry) where
  -- more of a journal that has no number beside these
  next_told : (old : State) (action : Action) (new : State) (n : ℕ) → is_write action ≡ false → Step opened old action new → next_number opened old.journal ≤ n → (is_commit action ≡ true → new.latest.number < n) → next_number opened new.journal ≤ n
  next_told old (Wrote e) new n s m l c = absurd (cc s)
  next_told old (Rotated a) new n s m l c = let e = ap (λ (t : State). next_number opened t.journal) m.1 in omega arith
  next_told old (Flushed w job made) new n s m l c = let a = c refl in let e = ap (next_number opened) m.commit.journal ∙ fold-append next_number_after (above opened) old.journal _ in omega arith
  next_told old (Merged w d ids evict made) new n s m l c = let a = c refl in let e = ap (next_number opened) m.commit.journal ∙ fold-append next_number_after (above opened) old.journal _ in omega arith
  next_told old (Moved d ids moved) new n s m l c = let a = c refl in let e = ap (next_number opened) m.commit.journal ∙ fold-append next_number_after (above opened) old.journal _ in omega arith
  next_told old (DroppedTables ids) new n s m l c = let a = c refl in let e = ap (next_number opened) m.commit.journal ∙ fold-append next_number_after (above opened) old.journal _ in omega arith
  next_told old (Cleared k a) new n s m l c =
      let q = c refl in
      let z = ap (λ (t : State). t.latest.number) m.1 in
      let e = ap (λ (t : State). next_number opened t.journal) m.1 ∙ fold-append next_number_after (above opened) old.journal _ in omega arith
  next_told old (Marked w) new n s m l c = let e = ap (λ (t : State). next_number opened t.journal) m ∙ fold-append next_number_after (above opened) old.journal _ in omega arith
  next_told old (LostDrop ranges k) new n s m l c = let e = ap (λ (t : State). next_number opened t.journal) m ∙ fold-append next_number_after (above opened) old.journal _ in omega arith
  next_told old (Asked at question) new n s m l c = let e = ap (λ (t : State). next_number opened t.journal) m.3 ∙ fold-append next_number_after (above opened) old.journal _ in omega arith
  next_told old (Maintained w) new n s m l c = let e = ap (next_number opened) m.journal in omega arith

  next_lost : (old : State) (action : Action) (would : State) → next_number opened (old.journal ++ told_lost old action would) ≡ next_number opened old.journal
  next_lost old (DroppedTables ids) would = fold-append next_number_after (above opened) old.journal _
  next_lost old other would = ap (next_number opened) (append-nil old.journal)

  -- `log_from` of a version is not above what is flushed, nor above what a clear drew
  from_below : (old : State) (action : Action) (new : State) (from n : ℕ) → Step opened old action new → from ≤ n → above (flat_map old.mems (old.latest.active ∷ old.latest.sealed)) ≤ n → (is_commit action ≡ true → new.latest.number < n) → next_from old from action ≤ n
  from_below old (Flushed w job made) new from n m l low c =
      let a = ap (λ ids. above (flat_map old.mems (old.latest.active ∷ ids))) m.sealed ∙ ap above (flat_map-append old.mems (old.latest.active ∷ new.latest.sealed) job) ∙ above-append (flat_map old.mems (old.latest.active ∷ new.latest.sealed)) (flat_map old.mems job) in omega arith
  from_below old (Cleared k a) new from n m l low c = let q = c refl in let z = ap (λ (t : State). t.latest.number) m.1 in omega arith
  from_below old other new from n m l low c = l

  next_act : (start : Map) (old : Logged) (act : Act) (new : Logged) (c d : ℕ) → IsKept opened start old → Acts opened old act new → MayBeDrawn opened old c → c ≤ d → DrawsBelow act new d → MayBeDrawn opened new d
  next_act start old (Batched b) new c d k a n l w =
      let j = old.tree.state.journal in
      let es = entries_of b in
      let g = act_grown opened old (Batched b) new a in
      let high : above es ≤ b.number + 1 = above_each (b.number + 1) es (each_entry (λ m. m < b.number + 1) b (omega arith)) in
      let journal : next_number opened new.tree.state.journal ≡ max (next_number opened j) (above es) = written a in
      let q = n.above_journal in
      let v = n.above_version in
      let from = ap (λ (t : Logged). t.log_from) a.rest in
      record {
        above_journal = omega arith;
        above_version = omega arith;
        above_records = subst (λ (t : Logged). AllByRecursion (λ (b : Batch). b.number < d) t.records) (sym a.rest) (each_append _ old.records (b ∷ []) (each_weaker _ _ (λ b q. omega arith) old.records n.above_records) (w, tt));
      }
    where
      written : Acts opened old (Batched b) new → next_number opened new.tree.state.journal ≡ max (next_number opened old.tree.state.journal) (above (entries_of b))
      written a = ap (next_number opened) (run_journal opened old.tree.state new.tree.state (entries_of b) (deeds_run opened old.tree new.tree (entries_of b) a.writes).run) ∙ fold-append next_number_after (above opened) old.tree.state.journal (map Write (entries_of b)) ∙ number_writes (next_number opened old.tree.state.journal) (entries_of b)
  next_act start old (BatchLost b) new c d k a n l w = subst (λ (t : Logged). MayBeDrawn opened t d) (sym a.rest) (let z = drawn_later opened old c d l n in record { above_journal = z.above_journal; above_version = z.above_version; above_records = z.above_records })
  next_act start old (Did action) new c d k a n l w =
      let q = n.above_journal in
      let v = n.above_version in
      let low = mems_below opened start old.tree.state c k.holds (λ key. let z = next_of-le key opened old.tree.state.journal in omega arith) in
      subst (λ (t : Logged). MayBeDrawn opened t d) (sym a.rest) (record {
        above_journal = next_told old.tree.state action new.tree.state d a.silent a.done.step (omega arith) w;
        above_version = from_below old.tree.state action new.tree.state old.log_from d a.done.step (omega arith) (omega arith) w;
        above_records = since_each _ (next_from old.tree.state old.log_from action) old.records (each_weaker _ _ (λ b q. omega arith) old.records n.above_records);
      })
  next_act start old (CommitLost action would) new c d k a n l w =
      let q = n.above_journal in
      let v = n.above_version in
      let e : next_number opened new.tree.state.journal ≡ next_number opened old.tree.state.journal = ap (λ (t : State). next_number opened t.journal) a.lost.state ∙ next_lost old.tree.state action would in
      subst (λ (t : Logged). MayBeDrawn opened t d) (sym a.rest) (record {
        above_journal = omega arith;
        above_version = omega arith;
        above_records = each_weaker _ _ (λ b q. omega arith) old.records n.above_records;
      })

module _ (theory : Soundness) (maps : MapsAreRead) (whole : PartsAreWhole) (placed : TablesArePlaced) where
  pub counter_stays : CounterStaysAbove
  counter_stays = record {
    opened = λ image t c r a v b. record {
      above_journal = subst (λ j. next_number (opened_by image) j ≤ c) (sym r.journal) a;
      above_version = subst (λ m. m ≤ c) (sym r.log_from) v;
      above_records = subst (AllByRecursion (λ (b : Batch). b.number < c)) (sym r.records) b;
    };
    later = drawn_later;
    act = λ image first old new earlier act c d stands r ran a o n l w.
        let g = act_grown (opened_by image) old act new a in
        let before = theory.kept.front (opened_by image) old.tree.state.journal g.more (subst (InOrder (opened_by image)) g.journal o) in
        next_act (opened_by image) (logged image) old act new c d (from_opened theory maps whole placed image stands first earlier old r ran before) a n l w;
  }
