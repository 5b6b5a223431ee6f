-- Acts leave what a snapshot sees, but for what they write, clear or drop below it.
use Rattle.std.proofs.Common.{◌≡◌, ℕ, ◌≤◌, Bool, true, false, List, [], ◌∷◌, ◌++◌, map, Some, append-nil, append_assoc, refl, sym, ap, ap₂, ◌∙◌, subst}
use Rattle.std.specs.List.{AllByRecursion}
use Rattle.lsm_below.specs.Each.{each_left, each_right}
use Rattle.lsm_below.specs.Entries.{Entry}
use Rattle.lsm_model.specs.Journal.{Event, Map, InOrder}
use Rattle.lsm_model.specs.Beginnings.{told_lost}
use Rattle.lsm_model.specs.Sound.{Holds}
use Rattle.lsm_model.specs.Soundness.{Soundness}
use Rattle.lsm_model.specs.Steps.{State, history, among, Action, Wrote, Rotated, Flushed, Merged, Moved, DroppedTables, Cleared, Marked, LostDrop, Asked, Maintained, Step, StaysAt, IsSparedBy}
use Rattle.lsm_model.specs.Views.{SuperVersion, found_at, ranges_of}
use Rattle.lsm_model.specs.declared.journal.JournalEntry.TheVariants.{Write, Clear, Install, Dropped, Mark}
use Rattle.lsm_model.proofs.DeedReads.{found_behind}
use Rattle.lsm_log_model.specs.Records.{entries_of}
use Rattle.lsm_log_model.specs.Logs.{Logged as Log, Act, Batched, BatchLost, Did, CommitLost, Acts, AllActs}
use Rattle.lsm_log_model.proofs.Growth.{acts_order}
use Rattle.lsm_log_model.proofs.Writes.{deeds_run, run_journal}
use Rattle.lsm_state.specs.Core.{Core, state_of}
use Rattle.lsm_runs.proofs.FlushReplays.{other_found}
use Rattle.lsm_log_runs.specs.LoggedRuns.{SparesAnswers}
use Rattle.lsm_log_runs.specs.Pasts.{LogPast}

-- what was told from one state to another, and that what it spares stays
pub record Spared (old new : State) : Type 0 where
  pub events : List Event
  pub journal : new.journal ≡ old.journal ++ events
  pub stays : (s : ℕ) → AllByRecursion (IsSparedBy s) events → StaysAt s old new

-- what a snapshot finds, it finds then too
abbrev pub FindsOn : State → State → Type 0
FindsOn old new = (s : ℕ) (sv : SuperVersion) → found_at s old.latest old.older ≡ Some sv → (there : SuperVersion) × (found_at s new.latest new.older ≡ Some there)

-- does an action leave all super versions?
abbrev pub is_steady : Action → Bool
is_steady (Maintained w) = false
is_steady action = true

abbrev pub IsSteady : Act → Type 0
IsSteady (Did action) = is_steady action ≡ true
IsSteady act = ⊥

-- only the last one of some acts may forget super versions
abbrev pub ForgetLast : List Act → Type 0
ForgetLast [] = Unit {0}
ForgetLast (act ∷ []) = Unit {0}
ForgetLast (act ∷ next ∷ acts) = IsSteady act × ForgetLast (next ∷ acts)

-- ---- what is found

put_first : (old new : State) → new.older ≡ history old → FindsOn old new
put_first old new older s sv f =
    let there = found_behind s new.latest old.latest old.older sv f in
    (there.0, ap (found_at s new.latest) older ∙ there.1)

still_there : (old new : State) → new.latest ≡ old.latest → new.older ≡ old.older → FindsOn old new
still_there old new latest older s sv f = (sv, ap₂ (found_at s) latest older ∙ f)

pub found_on : (opened : List Entry) (old : State) (action : Action) (new : State) → is_steady action ≡ true → Step opened old action new → FindsOn old new
found_on opened old (Wrote e) new steady m = still_there old new m.latest m.older
found_on opened old (Rotated a) new steady m = λ s sv f.
    let r = other_found s old.latest (record { number = old.latest.number; active = a; sealed = old.latest.active ∷ old.latest.sealed; tables = old.latest.tables }) old.older sv refl f in
    (r.0, ap (λ (t : State). found_at s t.latest t.older) m.1 ∙ r.1)
found_on opened old (Flushed w job made) new steady m = put_first old new m.commit.older
found_on opened old (Merged w d ids evict made) new steady m = put_first old new m.commit.older
found_on opened old (Moved d ids moved) new steady m = put_first old new m.commit.older
found_on opened old (DroppedTables ids) new steady m = put_first old new m.commit.older
found_on opened old (Cleared n a) new steady m = put_first old new (ap (λ (t : State). t.older) m.1)
found_on opened old (Marked w) new steady m = still_there old new (ap (λ (t : State). t.latest) m) (ap (λ (t : State). t.older) m)
found_on opened old (LostDrop ranges n) new steady m = still_there old new (ap (λ (t : State). t.latest) m) (ap (λ (t : State). t.older) m)
found_on opened old (Asked at question) new steady m = still_there old new (ap (λ (t : State). t.latest) m.3) (ap (λ (t : State). t.older) m.3)
found_on opened old (Maintained w) new steady m = absurd (cc steady)

-- ---- one act

module _ (theory : Soundness) (opened : List Entry) (start : Map) where
  step_spared : (old : State) (action : Action) (new : State) → Step opened old action new → InOrder opened new.journal → Holds opened start old → Spared old new
  step_spared old (Wrote e) new m order h = record { events = Write e ∷ []; journal = m.journal; stays = λ s each. theory.spares.step opened start s old (Wrote e) new m order each.0 h }
  step_spared old (Rotated a) new m order h = record { events = []; journal = ap (λ (t : State). t.journal) m.1 ∙ sym (append-nil old.journal); stays = λ s each. theory.spares.step opened start s old (Rotated a) new m order tt h }
  step_spared old (Flushed w job made) new m order h = record { events = Install new.latest.number ∷ []; journal = m.commit.journal; stays = λ s each. theory.spares.step opened start s old (Flushed w job made) new m order tt h }
  step_spared old (Merged w d ids evict made) new m order h = record { events = Install new.latest.number ∷ []; journal = m.commit.journal; stays = λ s each. theory.spares.step opened start s old (Merged w d ids evict made) new m order tt h }
  step_spared old (Moved d ids moved) new m order h = record { events = Install new.latest.number ∷ []; journal = m.commit.journal; stays = λ s each. theory.spares.step opened start s old (Moved d ids moved) new m order tt h }
  step_spared old (DroppedTables ids) new m order h = record { events = Dropped (ranges_of (among ids) old.latest.tables) new.latest.number ∷ (Install new.latest.number ∷ []); journal = m.commit.journal; stays = λ s each. theory.spares.step opened start s old (DroppedTables ids) new m order each.0 h }
  step_spared old (Cleared n a) new m order h = record { events = Clear n ∷ []; journal = ap (λ (t : State). t.journal) m.1; stays = λ s each. theory.spares.step opened start s old (Cleared n a) new m order each.0 h }
  step_spared old (Marked w) new m order h = record { events = Mark w ∷ []; journal = ap (λ (t : State). t.journal) m; stays = λ s each. theory.spares.step opened start s old (Marked w) new m order tt h }
  step_spared old (LostDrop ranges n) new m order h = record { events = Dropped ranges n ∷ []; journal = ap (λ (t : State). t.journal) m; stays = λ s each. theory.spares.step opened start s old (LostDrop ranges n) new m order tt h }
  step_spared old (Asked at question) new m order h = record { events = _; journal = ap (λ (t : State). t.journal) m.3; stays = λ s each. theory.spares.step opened start s old (Asked at question) new m order tt h }
  step_spared old (Maintained w) new m order h = record { events = []; journal = m.journal ∙ sym (append-nil old.journal); stays = λ s each. theory.spares.step opened start s old (Maintained w) new m order tt h }

  each_write : (s : ℕ) (es : List Entry) → AllByRecursion (IsSparedBy s) (map Write es) → AllByRecursion (λ e. s ≤ e.key.seqno) es
  each_write s [] h = tt
  each_write s (e ∷ es) h = (h.0, each_write s es h.1)

  -- nothing that reads see
  same_spared : (old new : State) (events : List Event) → new ≡ record { journal = old.journal ++ events; mems = old.mems; latest = old.latest; older = old.older } → Spared old new
  same_spared old new events is = record {
    events = events;
    journal = ap (λ (t : State). t.journal) is;
    stays = λ s each. theory.spares.same s old new (ap (λ (t : State). t.mems) is) (ap (λ (t : State). t.latest) is) (ap (λ (t : State). t.older) is);
  }

  nothing_spared : (t : State) → Spared t t
  nothing_spared t = record { events = []; journal = sym (append-nil t.journal); stays = λ s each. theory.spares.same s t t refl refl refl }

  act_spared : (act : Act) (old new : Log) → Acts opened old act new → InOrder opened new.tree.state.journal → Holds opened start old.tree.state → Spared old.tree.state new.tree.state
  act_spared (Batched b) old new a order h =
      let run = (deeds_run opened old.tree new.tree (entries_of b) a.writes).run in
      record {
        events = map Write (entries_of b);
        journal = run_journal opened old.tree.state new.tree.state (entries_of b) run;
        stays = λ s each. theory.spares.writes opened start s (entries_of b) old.tree.state new.tree.state run order (each_write s (entries_of b) each) h;
      }
  act_spared (BatchLost b) old new a order h = subst (λ (t : Log). Spared old.tree.state t.tree.state) (sym a.rest) (nothing_spared old.tree.state)
  act_spared (Did action) old new a order h = step_spared old.tree.state action new.tree.state a.done.step order h
  act_spared (CommitLost action would) old new a order h = same_spared old.tree.state new.tree.state (told_lost old.tree.state action would) a.lost.state

  -- ---- acts, one after the other

  joined : (old mid new : State) → Spared old mid → FindsOn old mid → Spared mid new → Spared old new
  joined old mid new a on b = record {
    events = a.events ++ b.events;
    journal = b.journal ∙ ap (λ j. j ++ b.events) a.journal ∙ append_assoc old.journal a.events b.events;
    stays = λ s each sv sv' found found'.
        let there = on s sv found in
        a.stays s (each_left (IsSparedBy s) a.events b.events each) sv there.0 found there.1 ∙ b.stays s (each_right (IsSparedBy s) a.events b.events each) there.0 sv' there.1 found';
  }

  act_found : (act : Act) → IsSteady act → (old new : Log) → Acts opened old act new → FindsOn old.tree.state new.tree.state
  act_found (Did action) steady old new a = found_on opened old.tree.state action new.tree.state steady a.done.step
  act_found (Batched b) steady old new a = absurd steady
  act_found (BatchLost b) steady old new a = absurd steady
  act_found (CommitLost action would) steady old new a = absurd steady

  act_holds : (act : Act) → IsSteady act → (old new : Log) → Acts opened old act new → InOrder opened new.tree.state.journal → Holds opened start old.tree.state → Holds opened start new.tree.state
  act_holds (Did action) steady old new a order h = theory.kept.step opened start old.tree.state action new.tree.state a.done.step order h
  act_holds (Batched b) steady old new a order h = absurd steady
  act_holds (BatchLost b) steady old new a order h = absurd steady
  act_holds (CommitLost action would) steady old new a order h = absurd steady

  pub acts_spared : (acts : List Act) → ForgetLast acts → (old new : Log) → AllActs opened old acts new → InOrder opened new.tree.state.journal → Holds opened start old.tree.state → Spared old.tree.state new.tree.state
  acts_spared [] last old new done order h = subst (λ (t : Log). Spared old.tree.state t.tree.state) (sym done) (nothing_spared old.tree.state)
  acts_spared (act ∷ []) last old new done order h =
      subst (λ (t : Log). Spared old.tree.state t.tree.state) (sym done.2) (act_spared act old done.0 done.1 (subst (λ (t : Log). InOrder opened t.tree.state.journal) done.2 order) h)
  acts_spared (act ∷ next ∷ acts) last old new done order h =
      let mid = done.0 in
      let before = acts_order theory opened mid (next ∷ acts) new done.2 order in
      joined old.tree.state mid.tree.state new.tree.state (act_spared act old mid done.1 before h) (act_found act last.0 old mid done.1)
      (acts_spared (next ∷ acts) last.1 mid new done.2 order (act_holds act last.0 old mid done.1 before h))

-- ---- of the product's trees

pub spares_by : (past next : LogPast) (old new : Core) (t u : State) → t ≡ state_of past.journal old → u ≡ state_of next.journal new → Spared t u → SparesAnswers past next old new
spares_by past next old new t u is_old is_new spared =
    let s = subst (λ x. Spared x (state_of next.journal new)) is_old (subst (λ x. Spared t x) is_new spared) in
    (s.events, s.journal, λ n each sv sv' found found'. s.stays n each sv sv' found found')

-- a rotation leaves what each snapshot finds, and what follows of it joins
pub spares_then : (past mid next : LogPast) (old between new : Core) → SparesAnswers past mid old between → FindsOn (state_of [] old) (state_of [] between) → SparesAnswers mid next between new → SparesAnswers past next old new
spares_then past mid next old between new a on b = (
  a.0 ++ b.0,
  b.1 ∙ ap (λ j. j ++ b.0) a.1 ∙ append_assoc past.journal a.0 b.0,
  λ s each sv sv' found found'.
      let there = on s sv found in
      a.2 s (each_left (IsSparedBy s) a.0 b.0 each) sv there.0 found there.1 ∙ b.2 s (each_right (IsSparedBy s) a.0 b.0 each) there.0 sv' there.1 found',
)
