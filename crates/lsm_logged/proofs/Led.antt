-- Deeds of a tree, as acts of a logged one, and how a call leads by them.
use Rattle.std.proofs.Common.{◌≡◌, ℕ, ◌+◌, ◌<◌, ◌≤◌, Bool, true, false, List, [], ◌∷◌, ◌++◌, Option, Some, None, option_to_list, map, refl, sym, ap, ◌∙◌, subst, arith, append_assoc}
use Rattle.std.specs.Option.{is_some}
use Rattle.std.specs.List.{AllByRecursion}
use Rattle.std.proofs.lemmas.Grind.{fold-append}
use Rattle.std.proofs.lemmas.List.{same_from_push}
use Rattle.lsm_below.specs.Entries.{Entry, above}
use Rattle.lsm_model.specs.Journal.{Event, next_number, next_number_after}
use Rattle.lsm_model.specs.Views.{ranges_of}
use Rattle.lsm_model.specs.Steps.{State, Action, Wrote, Rotated, Flushed, Merged, Moved, DroppedTables, Cleared, Marked, LostDrop, Asked, Maintained, Step, among}
use Rattle.lsm_model.specs.Beginnings.{Note, Saved, Done, Lost, Deeds, IsDone, IsLost, is_commit}
use Rattle.lsm_model.specs.declared.journal.JournalEntry.TheVariants.{Install, Dropped, Mark}
use Rattle.lsm_store.specs.World.{World}
use Rattle.lsm_versions.specs.Levels.{SeenVersion, placed_of}
use Rattle.lsm_commit.specs.Foreign.{Passes}
use Rattle.lsm_log_model.specs.Records.{since}
use Rattle.lsm_log_model.specs.Logs.{Logged as Log, IsCertain, MayBeDrawn, is_write, next_from, did, doubted, Act, Did, CommitLost, AllActs}
use Rattle.lsm_log_model.proofs.Batches.{since_each, since_high}
use Rattle.lsm_state.specs.Core.{Core}
use Rattle.lsm_state.specs.Deeds.{saved_of}
use Rattle.lsm_state.specs.Commits.{UpholdsFiles}
use Rattle.lsm_logged.specs.Keeping.{SeenLogged, IsLogOf, KeepsLog}
use Rattle.lsm_logged.specs.Removing.{log_from_of}
use Rattle.lsm_logged.specs.Acting.{DrawBelow, LeadsBy}
use Rattle.lsm_logged.proofs.Left.{IsLeft, left_all, left_since, left_then, StaysIn, passes_stay}

-- ---- what is told of a commit

-- does the action end in an install?
abbrev pub is_install : Action → Bool
is_install (Flushed w job made) = true
is_install (Merged w d ids evict made) = true
is_install (Moved d ids moved) = true
is_install (DroppedTables ids) = true
is_install other = false

pub told_last : (opened : List Entry) (old : State) (action : Action) (new : State) → is_install action ≡ true → Step opened old action new → (before : List Event) × (new.journal ≡ before ++ Install new.latest.number ∷ [])
told_last opened old (Wrote e) new c m = absurd (cc c)
told_last opened old (Rotated a) new c m = absurd (cc c)
told_last opened old (Flushed w job made) new c m = (old.journal, m.commit.journal)
told_last opened old (Merged w d ids evict made) new c m = (old.journal, m.commit.journal)
told_last opened old (Moved d ids moved) new c m = (old.journal, m.commit.journal)
told_last opened old (DroppedTables ids) new c m = (
  old.journal ++ Dropped (ranges_of (among ids) old.latest.tables) new.latest.number ∷ [],
  m.commit.journal ∙ sym (append_assoc old.journal (Dropped (ranges_of (among ids) old.latest.tables) new.latest.number ∷ []) (Install new.latest.number ∷ [])),
)
told_last opened old (Cleared n a) new c m = absurd (cc c)
told_last opened old (Marked w) new c m = absurd (cc c)
told_last opened old (LostDrop ranges n) new c m = absurd (cc c)
told_last opened old (Asked at question) new c m = absurd (cc c)
told_last opened old (Maintained w) new c m = absurd (cc c)

pub last_install : (xs ys : List Event) (n m : ℕ) → xs ++ Install n ∷ [] ≡ ys ++ Install m ∷ [] → m ≡ n
last_install xs ys n m e = let z : Install m ≡ Install n = sym (same_from_push xs ys (Install n) (Install m) e).1 in cc z

-- ---- deeds as acts

-- acts lead to a log beside this tree: which `log_from` its versions have, and which records are left; the numbers drawn are below
-- this one. Where K holds, no record is left that the version has passed
pub record Lifted (opened : List Entry) (t : Log) (acts : List Act) (s : Saved) (f o c : ℕ) (K : Type 0) : Type 1 where
  pub log : Log
  pub done : AllActs opened t acts log
  pub tree : log.tree ≡ s
  pub from : log.log_from ≡ f
  pub other : log.other_from ≡ o
  pub lost : log.lost ≡ t.lost
  pub left : IsLeft log.log_from t.records log.records
  pub counts : K → AllByRecursion (λ b. log.log_from ≤ b.number) log.records
  pub drawn : DrawBelow c opened t acts log done

itself : (n : ℕ) → n ≤ n
itself n = omega arith

module _ (opened : List Entry) where
  pub stop : (t : Log) (s : Saved) (c : ℕ) (K : Type 0) → t.tree ≡ s → (K → AllByRecursion (λ b. t.log_from ≤ b.number) t.records) → Lifted opened t [] s t.log_from t.other_from c K
  stop t s c K same counts = record { log = t; done = refl; tree = same; from = refl; other = refl; lost = refl; left = left_all t.log_from t.records; counts = counts; drawn = tt }

  pub first : (t : Log) (action : Action) (m : Saved) (acts : List Act) (s : Saved) (f o c : ℕ) (K : Type 0) → is_write action ≡ false → (is_commit action ≡ true → IsCertain t × MayBeDrawn opened t m.state.latest.number × (m.state.latest.number < c)) → IsDone opened t.tree action m
      → next_from t.tree.state t.log_from action ≤ f → Lifted opened (did t action m) acts s f o c K → Lifted opened t (Did action ∷ acts) s f o c K
  first t action m acts s f o c K silent commits one le rest = record {
    log = rest.log;
    done = (did t action m, record { silent = silent; certain = λ q. (commits q).0; drawn = λ q. (commits q).1; done = one; rest = refl }, rest.done);
    tree = rest.tree;
    from = rest.from;
    other = rest.other;
    lost = rest.lost;
    left = let from = next_from t.tree.state t.log_from action in left_then from rest.log.log_from t.records (since from t.records) rest.log.records (subst (λ x. from ≤ x) (sym rest.from) le) (left_since from t.records) rest.left;
    counts = rest.counts;
    drawn = (λ q. (commits q).2, rest.drawn);
  }

  -- a mark, and acts after it
  marked : (t : Log) (w : ℕ) (m : Saved) (acts : List Act) (s : Saved) (f o c : ℕ) (K : Type 0) → IsDone opened t.tree (Marked w) m → t.log_from ≤ f → Lifted opened (did t (Marked w) m) acts s f o c K → Lifted opened t (Did (Marked w) ∷ acts) s f o c K
  marked t w m acts s f o c K one le rest = first t (Marked w) m acts s f o c K refl (λ q. absurd (cc q)) one le rest

  -- what may be drawn may be drawn after a mark
  drawn_on : (t : Log) (w : ℕ) (m : Saved) (n : ℕ) → IsDone opened t.tree (Marked w) m → MayBeDrawn opened t n → MayBeDrawn opened (did t (Marked w) m) n
  drawn_on t w m n one next = record {
    above_journal = let e = ap (λ (x : State). next_number opened x.journal) one.step ∙ fold-append next_number_after (above opened) t.tree.state.journal (Mark w ∷ []) in let a = next.above_journal in omega (arith, e, a);
    above_version = next.above_version;
    above_records = since_each (λ b. b.number < n) t.log_from t.records next.above_records;
  }

  certain_on : (t : Log) (w : ℕ) (m : Saved) → IsDone opened t.tree (Marked w) m → IsCertain t → IsCertain (did t (Marked w) m)
  certain_on t w m one certain = (one.others ∙ certain.0, certain.1)

  -- a commit, and maintenance after it
  pub kept_up : (t : Log) (n w : ℕ) (action : Action) (tree : Saved) (told : List Event) → IsCertain t → MayBeDrawn opened t n → is_write action ≡ false → is_install action ≡ true → tree.state.journal ≡ told ++ Install n ∷ []
      → t.log_from ≤ next_from t.tree.state t.log_from action → Deeds opened t.tree (Done action ∷ (Done (Maintained w) ∷ [])) tree → Lifted opened t (Did action ∷ (Did (Maintained w) ∷ [])) tree (next_from t.tree.state t.log_from action) t.other_from (n + 1) (Unit {0})
  kept_up t n w action tree told certain next silent installs journal rises d =
      let f = next_from t.tree.state t.log_from action in
      let mid = did t action d.0 in
      let last = told_last opened t.tree.state action d.0.state installs d.1.step in
      let number : d.0.state.latest.number ≡ n = last_install told last.0 n d.0.state.latest.number (sym journal ∙ ap (λ (x : Saved). x.state.journal) d.2.2 ∙ d.2.1.step.journal ∙ last.1) in
      first t action d.0 (Did (Maintained w) ∷ []) tree f t.other_from (n + 1) (Unit {0}) silent (λ q. (certain, subst (MayBeDrawn opened t) (sym number) next, omega (arith, number))) d.1 (itself f)
      (first mid (Maintained w) d.2.0 [] tree f t.other_from (n + 1) (Unit {0}) refl (λ q. absurd (cc q)) d.2.1 (itself f)
      (stop (did mid (Maintained w) d.2.0) tree (n + 1) (Unit {0}) (sym d.2.2) (λ u. since_high f (since f t.records))))

  -- a commit of unknown outcome
  pub unknown : (t : Log) (n : ℕ) (action : Action) (would : State) (m : Saved) (tree : Saved) → IsCertain t → MayBeDrawn opened t n → would.latest.number ≡ n → IsLost opened t.tree action would m → m ≡ tree
      → Lifted opened t (CommitLost action would ∷ []) tree t.log_from (next_from t.tree.state t.log_from action) (n + 1) ⊥
  unknown t n action would m tree certain next number lost same = record {
    log = doubted t action m;
    done = (doubted t action m, record { certain = certain; drawn = subst (MayBeDrawn opened t) (sym number) next; lost = lost; rest = refl }, refl);
    tree = same;
    from = refl;
    other = refl;
    lost = refl;
    left = left_all t.log_from t.records;
    counts = λ no. absurd no;
    drawn = (omega (arith, number), tt);
  }

  -- the same after a mark: `log_from` depends on the memtables alone, which a mark leaves
  module _ (t : Log) (n w : ℕ) (action : Action) (tree : Saved) (told : List Event) (certain : IsCertain t) (next : MayBeDrawn opened t n) (silent : is_write action ≡ false) (installs : is_install action ≡ true)
      (f : ℕ) (from : (x : State) → x.mems ≡ t.tree.state.mems → next_from x t.log_from action ≡ f) (rises : t.log_from ≤ f) where
    abbrev behind : Saved → Log
    behind m = did t (Marked w) m

    mems : (m : Saved) → IsDone opened t.tree (Marked w) m → next_from m.state t.log_from action ≡ f
    mems m one = from m.state (ap (λ (x : State). x.mems) one.step)

    pub done_marked : tree.state.journal ≡ told ++ Install n ∷ [] → Deeds opened t.tree (Done (Marked w) ∷ (Done action ∷ (Done (Maintained w) ∷ []))) tree → Lifted opened t (Did (Marked w) ∷ (Did action ∷ (Did (Maintained w) ∷ []))) tree f t.other_from (n + 1) (Unit {0})
    done_marked journal d =
        let same = mems d.0 d.1 in
        let up : t.log_from ≤ next_from d.0.state t.log_from action = subst (λ x. t.log_from ≤ x) (sym same) rises in
        marked t w d.0 (Did action ∷ (Did (Maintained w) ∷ [])) tree f t.other_from (n + 1) (Unit {0}) d.1 rises
        (subst (λ x. Lifted opened (behind d.0) (Did action ∷ (Did (Maintained w) ∷ [])) tree x t.other_from (n + 1) (Unit {0})) same
        (kept_up (behind d.0) n w action tree told (certain_on t w d.0 d.1 certain) (drawn_on t w d.0 n d.1 next) silent installs journal up d.2))

    pub lost_marked : (would : State) → would.journal ≡ told ++ Install n ∷ [] → Deeds opened t.tree (Done (Marked w) ∷ (Lost action would ∷ [])) tree → Lifted opened t (Did (Marked w) ∷ (CommitLost action would ∷ [])) tree t.log_from f (n + 1) ⊥
    lost_marked would journal d =
        let last = told_last opened d.0.state action would installs d.2.1.step in
        let number : would.latest.number ≡ n = last_install told last.0 n would.latest.number (sym journal ∙ last.1) in
        marked t w d.0 (CommitLost action would ∷ []) tree t.log_from f (n + 1) ⊥ d.1 (itself t.log_from)
        (subst (λ x. Lifted opened (behind d.0) (CommitLost action would ∷ []) tree t.log_from x (n + 1) ⊥) (mems d.0 d.1)
        (unknown (behind d.0) n action would d.2.0 tree (certain_on t w d.0 d.1 certain) (drawn_on t w d.0 n d.1 next) number d.2.1 (sym d.2.2)))

-- ---- a call

pub none_left : {A : Type 0} (o : Option A) → is_some o ≡ false → o ≡ None
none_left None h = refl
none_left (Some x) h = absurd (cc h)

-- no outcome is unknown
pub is_certain : (journal : List Event) (notes : List Note) (c : Core) (doubted : Bool) (t : Log) → IsLogOf journal notes c doubted t → doubted ≡ false → c.lost ≡ None → IsCertain t
is_certain journal notes c doubted t is sure none = (
  ap (λ (s : Saved). s.others) is.tree ∙ ap (λ l. map (λ v. placed_of v.levels) (option_to_list l)) none,
  none_left t.lost (is.doubt ∙ sure),
)

module _ {S : Type 0} (opened : List Entry) (journal : List Event) (notes : List Note) (t : Log) (w w' : World) (old new : SeenLogged S)
    (is : IsLogOf journal notes old.core old.doubted t) (keeps : KeepsLog w t) (files : UpholdsFiles w w' old.core new.core) (doubt : new.doubted ≡ old.doubted) where
  pub leads : (journal' : List Event) (notes' : List Note) (acts : List Act) (f o : ℕ) (K : Type 0) (l : Lifted opened t acts (saved_of journal' notes' new.core) f o new.core.seqno K) → f ≡ log_from_of new.core → ((v : SeenVersion) → new.core.lost ≡ Some v → o ≡ v.log_from)
      → old.core.seqno ≤ new.core.seqno → StaysIn w w' old.core new.core t l.log → LeadsBy opened journal' notes' t acts w w' old new
  leads journal' notes' acts f o K l from other counter stays = record {
    log = l.log;
    done = l.done;
    is = record { tree = l.tree; from = l.from ∙ from; other = λ v h. l.other ∙ other v h; doubt = ap is_some l.lost ∙ is.doubt ∙ sym doubt };
    keeps = stays.keeps;
    counter = counter;
    drawn = l.drawn;
    moments = stays.moments;
  }

  -- where foreign names are as they were
  pub leads_passing : Passes w w' → (journal' : List Event) (notes' : List Note) (acts : List Act) (f o : ℕ) (K : Type 0) → Lifted opened t acts (saved_of journal' notes' new.core) f o new.core.seqno K → t.log_from ≤ f → f ≡ log_from_of new.core → ((v : SeenVersion) → new.core.lost ≡ Some v → o ≡ v.log_from)
      → old.core.seqno ≤ new.core.seqno → LeadsBy opened journal' notes' t acts w w' old new
  leads_passing passes journal' notes' acts f o K l rises from other counter =
      leads journal' notes' acts f o K l from other counter (passes_stay w w' old.core new.core t l.log l.left l.lost (subst (λ x. t.log_from ≤ x) (sym l.from) rises) keeps files passes)

  -- nothing is done
  pub leads_nowhere : Passes w w' → saved_of journal notes new.core ≡ saved_of journal notes old.core → log_from_of new.core ≡ log_from_of old.core → new.core.lost ≡ old.core.lost → old.core.seqno ≤ new.core.seqno → LeadsBy opened journal notes t [] w w' old new
  leads_nowhere passes tree from lost counter =
      leads_passing passes journal notes [] t.log_from t.other_from ⊥ (stop opened t (saved_of journal notes new.core) new.core.seqno ⊥ (is.tree ∙ sym tree) (λ no. absurd no)) (itself t.log_from) (is.from ∙ sym from) (λ v h. is.other v (sym lost ∙ h)) counter
