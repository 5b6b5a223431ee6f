-- What holds between any two acts: whatever a crash may leave stands for a beginning of whole batches, and opening takes it.
use Rattle.std.proofs.Common.{◌≡◌, ℕ, ◌≤◌, true, false, List, [], ◌∷◌, ◌++◌, Option, Some, None, fold, take, drop, length, map, refl, sym, ap, ◌∙◌, subst, arith, append-nil, append_assoc, ◌⊎◌, inl, inr, ⊎_elim, flat_map}
use Rattle.std.specs.List.{AllByRecursion}
use Rattle.std.specs.FinMap.{get}
use Rattle.std.proofs.Math.Seq.{take-length, drop-length}
use Rattle.std.proofs.lemmas.List.{length-append}
use Rattle.std.proofs.lemmas.Grind.{fold-append}
use Rattle.lsm_below.specs.Keys.{Bytes}
use Rattle.lsm_below.specs.Entries.{Entry, above}
use Rattle.lsm_below.specs.Each.{each_left, each_append}
use Rattle.lsm_model.specs.Journal.{Event, Map, InOrder, next_number, next_number_after}
use Rattle.lsm_model.specs.Views.{SuperVersion, IsIn, HasDistinctIds, written, ranges_of}
use Rattle.lsm_model.specs.Steps.{State, among, Action, Wrote, Rotated, Flushed, Merged, Moved, DroppedTables, Cleared, Marked, LostDrop, Asked, Maintained, Step, Run}
use Rattle.lsm_model.specs.Sound.{Holds}
use Rattle.lsm_model.specs.Soundness.{Soundness}
use Rattle.lsm_model.specs.Laws.{MapsAreRead, PartsAreWhole, TablesArePlaced}
use Rattle.lsm_model.specs.Beginnings.{beginning, is_spared, spared_after, Note, ClearLost, Lost, is_commit, noted_lost, told_lost, covered}
use Rattle.lsm_model.specs.declared.journal.JournalEntry.TheVariants.{Write, Clear, Install, Dropped}
use Rattle.lsm_model.proofs.Crashes.{quiet_covered}
use Rattle.lsm_model.proofs.Journals.{next_of-le}
use Rattle.lsm_log_model.specs.Records.{Batch, entries_of, HasDistinctKeys, since, LogImage, LogStands, counted, logged, IsRising}
use Rattle.lsm_log_model.specs.Logs.{Logged, LostBatch, IsCertain, secured, MayBeDrawn, is_write, next_from, Act, Batched, BatchLost, Did, CommitLost, IsBatched, IsBatchLost, IsDid, IsCommitLost, Acts, HasVersion, HasRecords, MayLeave, lost_of, LogIsSound}
use Rattle.lsm_log_model.specs.Recovery.{IsLogFront, LogRecovers}
use Rattle.lsm_log_model.proofs.Batches.{since_all}
use Rattle.lsm_log_model.proofs.Orders.{order_join}
use Rattle.lsm_log_model.proofs.Writes.{Filled, filled, deeds_run}
use Rattle.lsm_log_model.proofs.Following.{Follows, step_follows, batch_follows, batch_falls_above, mems_below}
use Rattle.lsm_log_model.proofs.Images.{IsSure, IsImageOf, image_stands, image_value}
use Rattle.lsm_log_model.proofs.Growth.{lost_is_no_call, lost_spares, IsWithin, all_within_more, covered_within, noted_within, lost_within, written_below, HoldsTo, Grown, longer, weaken, grown_holds, act_grown}

pub record IsKept (opened : List Entry) (start : Map) (t : Logged) : Type 0 where
  pub holds : Holds opened start t.tree.state
  pub within : AllByRecursion (IsWithin (length t.tree.state.journal)) t.tree.notes
  pub reached : t.reached ≤ length t.tree.state.journal
  pub sound : LogIsSound t
  pub sure : IsCertain t → IsSure opened start t.tree.state t.log_from t.records
  pub images : (left : LogImage) → MayLeave t left → HoldsTo opened start t (secured t) left

pub secured_within : (opened : List Entry) (start : Map) (t : Logged) → AllByRecursion (IsWithin (length t.tree.state.journal)) t.tree.notes → t.reached ≤ length t.tree.state.journal → secured t ≤ length t.tree.state.journal
secured_within opened start t w r = let c = covered_within (length t.tree.state.journal) t.tree.notes w in omega arith

-- ---- at the end of the journal

nothing_behind : {A : Type 0} (x : A) (xs : List A) → IsIn x (drop (length xs) xs) → ⊥
nothing_behind x xs i = subst (IsIn x) (drop-length xs) i

-- an image that stands for a front of the whole journal
at_end : (start : Map) (journal : List Event) (notes : List Note) (lost : Option LostBatch) (least : ℕ) (left : LogImage) (front : List Event) → IsLogFront journal notes lost (length journal) front → least ≤ length journal → LogStands left
    → ((k : Bytes) → fold (spared_after k) true front ≡ true → get (logged left) k ≡ get (beginning start front) k) → LogRecovers start journal notes lost least left
at_end start journal notes lost least left front is_front enough stands shows = record {
  stands = stands;
  holds = record {
    place = length journal;
    enough = enough;
    within = omega arith;
    front = front;
    is_front = is_front;
    whole = λ e f i j q. nothing_behind (Write f) journal j;
    shows = λ k safe. shows k (sym (ap (is_spared k front) (drop-length journal)) ∙ safe);
  };
}

plain_front : (journal : List Event) (notes : List Note) (lost : Option LostBatch) → IsLogFront journal notes lost (length journal) journal
plain_front journal notes lost = inl (inl (sym (take-length journal)))

no_version : (left : LogImage) (t : Logged) → t.tree.others ≡ [] → HasVersion left t → (left.tables ≡ t.tree.state.latest.tables) × (left.log_from ≡ t.log_from)
no_version left t none v = ⊎_elim
    (λ (h : (left.tables ≡ t.tree.state.latest.tables) × (left.log_from ≡ t.log_from)). h)
    (λ (h : IsIn left.tables t.tree.others × (left.log_from ≡ t.other_from)). absurd (subst (IsIn left.tables) none h.0))
    v

no_batch : (left : LogImage) (t : Logged) → t.lost ≡ None → HasRecords left t → counted left ≡ since left.log_from t.records
no_batch left t none r = ⊎_elim
    (λ (h : counted left ≡ since left.log_from t.records). h)
    (λ (h : (l : LostBatch) × (t.lost ≡ Some l) × (counted left ≡ since left.log_from (t.records ++ l.batch ∷ []))). let bad : None ≡ Some h.0 = sym none ∙ h.1 in absurd (cc bad))
    r

one_of : {A : Type 0} (x y : A) → IsIn x (y ∷ []) → x ≡ y
one_of x y i = ⊎_elim (λ (e : y ≡ x). sym e) (λ (j : ⊥). absurd j) i

-- without a batch of unknown outcome the records are those that count
certain_sound : (t : Logged) → IsCertain t → Follows t.tree.state.mems t.tree.state.latest t.log_from t.records → LogIsSound t
certain_sound t u f =
    let is : t.records ++ lost_of t.lost ≡ t.records = ap (λ l. t.records ++ lost_of l) u.1 ∙ append-nil t.records in
    record { rising = subst IsRising (sym is) f.rising; counts = subst (AllByRecursion (λ (b : Batch). t.log_from ≤ b.number)) (sym is) f.counts; distinct = subst (AllByRecursion HasDistinctKeys) (sym is) f.distinct }

module _ (theory : Soundness) (maps : MapsAreRead) (whole : PartsAreWhole) (placed : TablesArePlaced) (opened : List Entry) (start : Map) where
  -- an image of a tree that reads right, at the end of its journal
  sure_image : (t : Logged) (from : ℕ) (records : List Batch) (left : LogImage) → IsSure opened start t.tree.state from records → IsImageOf t.tree.state from records left → secured t ≤ length t.tree.state.journal → HoldsTo opened start t (secured t) left
  unfolding at_end
  sure_image t from records left s is enough =
      let j = t.tree.state.journal in
      record {
        recovers = at_end start j t.tree.notes t.lost (secured t) left j (plain_front j t.tree.notes t.lost) enough (image_stands opened start t.tree.state from records s left is) (image_value opened start t.tree.state from records s left is theory maps whole);
        below = λ u e i. written_below (above opened) e j i;
      }

  -- the records of a version are those that count
  image_of : (t : State) (from : ℕ) (records : List Batch) (left : LogImage) → AllByRecursion (λ b. from ≤ b.number) records → left.tables ≡ t.latest.tables → left.log_from ≡ from → counted left ≡ since left.log_from records → IsImageOf t from records left
  image_of t from records left counts tables is found = record { tables = tables; log_from = is; counted = found ∙ ap (λ n. since n records) is ∙ since_all from records counts }

  certain_images : (t : Logged) → IsCertain t → IsSure opened start t.tree.state t.log_from t.records → secured t ≤ length t.tree.state.journal → (left : LogImage) → MayLeave t left → HoldsTo opened start t (secured t) left
  certain_images t u s enough left m =
      let v = no_version left t u.0 m.version in
      sure_image t t.log_from t.records left s (image_of t.tree.state t.log_from t.records left s.follows.counts v.0 v.1 (no_batch left t u.1 m.records)) enough

  -- what is left then stands for the whole journal
  pub certain_value : (t : Logged) → IsCertain t → IsSure opened start t.tree.state t.log_from t.records → (left : LogImage) → MayLeave t left → (k : Bytes) → fold (spared_after k) true t.tree.state.journal ≡ true → get (logged left) k ≡ get (beginning start t.tree.state.journal) k
  certain_value t u s left m =
      let v = no_version left t u.0 m.version in
      image_value opened start t.tree.state t.log_from t.records s left (image_of t.tree.state t.log_from t.records left s.follows.counts v.0 v.1 (no_batch left t u.1 m.records)) theory maps whole

  pub certain_kept : (t : Logged) → IsCertain t → IsSure opened start t.tree.state t.log_from t.records → AllByRecursion (IsWithin (length t.tree.state.journal)) t.tree.notes → t.reached ≤ length t.tree.state.journal → IsKept opened start t
  certain_kept t u s within reached = record {
    holds = s.holds;
    within = within;
    reached = reached;
    sound = certain_sound t u s.follows;
    sure = λ z. s;
    images = certain_images t u s (secured_within opened start t within reached);
  }

  -- ---- a batch

  drawn_above_mems : (t : Logged) (n : ℕ) → Holds opened start t.tree.state → MayBeDrawn opened t n → above (flat_map t.tree.state.mems (t.tree.state.latest.active ∷ t.tree.state.latest.sealed)) ≤ n
  drawn_above_mems t n h d = mems_below opened start t.tree.state n h (λ k. let l = next_of-le k opened t.tree.state.journal in let q = d.above_journal in omega arith)

  -- a tree to which a batch is written
  batch_sure : (t : Logged) (b : Batch) (new : State) → IsSure opened start t.tree.state t.log_from t.records → HasDistinctKeys b → MayBeDrawn opened t b.number → Run opened t.tree.state (map Wrote (entries_of b)) new → InOrder opened new.journal → Filled t.tree.state new (entries_of b) × IsSure opened start new t.log_from (t.records ++ b ∷ [])
  batch_sure t b new s distinct drawn run order =
      let old = t.tree.state in
      let low = drawn_above_mems t b.number s.holds drawn in
      let w = filled opened old new (entries_of b) run (batch_falls_above opened start old b distinct s.holds low) in (
        w,
        record {
          holds = theory.kept.run opened start old (map Wrote (entries_of b)) new run order s.holds;
          ids = subst (λ (v : SuperVersion). HasDistinctIds v.tables) (sym w.latest) s.ids;
          follows = batch_follows opened start old new b t.log_from t.records distinct s.holds low drawn.above_version drawn.above_records w s.follows;
        },
      )

  batch_kept : (old : Logged) (b : Batch) (new : Logged) → IsBatched opened old b new → InOrder opened new.tree.state.journal → IsKept opened start old → IsKept opened start new
  batch_kept old b new d o k =
      let r = deeds_run opened old.tree new.tree (entries_of b) d.writes in
      let s = batch_sure old b new.tree.state (k.sure d.certain) d.distinct d.drawn r.run o in
      let long = ap length s.0.journal ∙ length-append old.tree.state.journal (map Write (entries_of b)) in
      let t : Logged = record old { tree = new.tree; records = old.records ++ b ∷ []; reached = length new.tree.state.journal } in
      subst (IsKept opened start) (sym d.rest)
      (certain_kept t (r.others ∙ d.certain.0, d.certain.1) s.1
      (subst (AllByRecursion (IsWithin (length new.tree.state.journal))) (sym r.notes) (all_within_more (length old.tree.state.journal) (length new.tree.state.journal) old.tree.notes (omega arith) k.within))
      (omega arith))

  -- ---- a batch of unknown outcome

  -- the tree as it would be with these writes
  abbrev write_all : State → List Entry → State
  write_all t [] = t
  write_all t (e ∷ es) = write_all (record { journal = t.journal ++ Write e ∷ []; mems = written t.mems t.latest.active e; latest = t.latest; older = t.older }) es

  writes_run : (t : State) (es : List Entry) → Run opened t (map Wrote es) (write_all t es)
  writes_run t [] = refl
  writes_run t (e ∷ es) =
      let mid : State = record { journal = t.journal ++ Write e ∷ []; mems = written t.mems t.latest.active e; latest = t.latest; older = t.older } in
      (mid, record { journal = refl; mems = λ k i. refl; latest = refl; older = refl }, writes_run mid es)

  writes_journal : (t : State) (es : List Entry) → (write_all t es).journal ≡ t.journal ++ map Write es
  writes_journal t [] = sym (append-nil t.journal)
  writes_journal t (e ∷ es) = writes_journal (record { journal = t.journal ++ Write e ∷ []; mems = written t.mems t.latest.active e; latest = t.latest; older = t.older }) es ∙ append_assoc t.journal (Write e ∷ []) (map Write es)

  lost_batch_kept : (old : Logged) (b : Batch) (new : Logged) → IsBatchLost opened old b new → IsKept opened start old → IsKept opened start new
  lost_batch_kept old b new d k =
      let st = old.tree.state in
      let j = st.journal in
      let l : LostBatch = record { batch = b; place = length j } in
      let t : Logged = record old { lost = Some l } in
      let s = k.sure d.certain in
      let enough = secured_within opened start old k.within k.reached in
      let would = write_all st (entries_of b) in
      let journal = writes_journal st (entries_of b) in
      let with_it = (batch_sure old b would s d.distinct d.drawn (writes_run st (entries_of b)) (subst (InOrder opened) (sym journal) d.order)).1 in
      let latest = (batch_sure old b would s d.distinct d.drawn (writes_run st (entries_of b)) (subst (InOrder opened) (sym journal) d.order)).0.latest in
      let all : AllByRecursion (λ (c : Batch). old.log_from ≤ c.number) (old.records ++ b ∷ []) = each_append _ old.records (b ∷ []) s.follows.counts (d.drawn.above_version, tt) in
      let unsure : IsCertain t → ⊥ = λ u. let bad : Some l ≡ None = u.1 in absurd (cc bad) in
      subst (IsKept opened start) (sym d.rest) (record {
        holds = k.holds;
        within = k.within;
        reached = k.reached;
        sound = record { rising = with_it.follows.rising; counts = all; distinct = with_it.follows.distinct };
        sure = λ u. absurd (unsure u);
        images = λ left m.
            let v = no_version left t d.certain.0 m.version in
            ⊎_elim
            (λ (h : counted left ≡ since left.log_from old.records). sure_image t old.log_from old.records left s (image_of st old.log_from old.records left s.follows.counts v.0 v.1 h) enough)
            (λ (h : (q : LostBatch) × (Some l ≡ Some q) × (counted left ≡ since left.log_from (old.records ++ q.batch ∷ []))).
            let one : l ≡ h.0 = cc h.1 in
            let found : counted left ≡ since left.log_from (old.records ++ b ∷ []) = h.2 ∙ ap (λ (q : LostBatch). since left.log_from (old.records ++ q.batch ∷ [])) (sym one) in
            let is : IsImageOf would old.log_from (old.records ++ b ∷ []) left = image_of would old.log_from (old.records ++ b ∷ []) left all (v.0 ∙ ap (λ (sv : SuperVersion). sv.tables) (sym latest)) v.1 found in
            let front = take (length j) j ++ map Write (entries_of b) in
            let same : would.journal ≡ front = journal ∙ ap (λ es. es ++ map Write (entries_of b)) (sym (take-length j)) in
            record {
              recovers = at_end start j old.tree.notes (Some l) (secured old) left front (inr (b, refl, refl)) enough (image_stands opened start would old.log_from (old.records ++ b ∷ []) with_it left is)
                  (λ key safe. image_value opened start would old.log_from (old.records ++ b ∷ []) with_it left is theory maps whole key (ap (fold (spared_after key) true) same ∙ safe) ∙ ap (λ es. get (beginning start es) key) same);
              below = λ u e i. absurd (unsure u);
            })
            m.records;
      })

  -- ---- actions of the tree

  quiet_tables : (old : State) (action : Action) (new : State) → is_write action ≡ false → is_commit action ≡ false → Step opened old action new → new.latest.tables ≡ old.latest.tables
  quiet_tables old (Wrote e) new s q m = absurd (cc s)
  quiet_tables old (Rotated a) new s q m = ap (λ (t : State). t.latest.tables) m.1
  quiet_tables old (Flushed w job made) new s q m = absurd (cc q)
  quiet_tables old (Merged w d ids evict made) new s q m = absurd (cc q)
  quiet_tables old (Moved d ids moved) new s q m = absurd (cc q)
  quiet_tables old (DroppedTables ids) new s q m = absurd (cc q)
  quiet_tables old (Cleared n a) new s q m = absurd (cc q)
  quiet_tables old (Marked w) new s q m = ap (λ (t : State). t.latest.tables) m
  quiet_tables old (LostDrop ranges n) new s q m = ap (λ (t : State). t.latest.tables) m
  quiet_tables old (Asked at question) new s q m = ap (λ (t : State). t.latest.tables) m.3
  quiet_tables old (Maintained w) new s q m = let latest : old.latest ≡ new.latest = cc m.was in ap (λ (sv : SuperVersion). sv.tables) (sym latest)

  quiet_from : (old : State) (from : ℕ) (action : Action) → is_commit action ≡ false → next_from old from action ≡ from
  quiet_from old from (Flushed w job made) q = absurd (cc q)
  quiet_from old from (Cleared n a) q = absurd (cc q)
  quiet_from old from other q = refl

  -- whether an outcome is unknown
  certain_or : (t : Logged) → IsCertain t ⊎ (IsCertain t → ⊥)
  certain_or t = elim t.tree.others as (λ os. t.tree.others ≡ os → IsCertain t ⊎ (IsCertain t → ⊥)) [
    | [] ↦ λ q. elim t.lost as (λ l. t.lost ≡ l → IsCertain t ⊎ (IsCertain t → ⊥)) [
      | None ↦ λ z. inl (q, z)
      | Some l ↦ λ z. inr (λ u. let bad : Some l ≡ None = sym z ∙ u.1 in absurd (cc bad))
    ] refl
    | o ∷ os ↦ λ q. inr (λ u. let bad : o ∷ os ≡ [] = sym q ∙ u.0 in absurd (cc bad))
  ] refl

  pub did_kept : (old : Logged) (action : Action) (new : Logged) → IsDid opened old action new → InOrder opened new.tree.state.journal → IsKept opened start old → IsKept opened start new
  did_kept old action new d o k =
      let from = next_from old.tree.state old.log_from action in
      let t : Logged = record old { tree = new.tree; log_from = from; records = since from old.records } in
      let g : Grown opened old t = subst (Grown opened old) d.rest (act_grown opened old (Did action) new d) in
      let long : length old.tree.state.journal ≤ length new.tree.state.journal = longer opened old t g in
      let holds = theory.kept.step opened start old.tree.state action new.tree.state d.done.step o k.holds in
      let within : AllByRecursion (IsWithin (length new.tree.state.journal)) new.tree.notes = subst (AllByRecursion (IsWithin (length new.tree.state.journal))) (sym d.done.notes)
      (each_append _ _ old.tree.notes (noted_within opened old.tree.state action new.tree.state d.done.step long) (all_within_more (length old.tree.state.journal) (length new.tree.state.journal) old.tree.notes long k.within)) in
      let reached : old.reached ≤ length new.tree.state.journal = let r = k.reached in omega arith in
      subst (IsKept opened start) (sym d.rest)
      (⊎_elim
      (λ (u : IsCertain old).
      let s = k.sure u in
      certain_kept t (d.done.others ∙ u.0, u.1)
      (record { holds = holds; ids = d.done.distinct; follows = step_follows theory placed opened start old.tree.state action new.tree.state old.log_from old.records d.silent (λ c. (d.drawn c).above_records) d.done.step k.holds s.follows })
      within reached)
      (λ (u : IsCertain old → ⊥).
      let quiet : is_commit action ≡ false = elim (is_commit action) as (λ c. is_commit action ≡ c → c ≡ false) [ true ↦ λ z. absurd (u (d.certain z)) | false ↦ λ z. refl ] refl in
      let same : covered new.tree.notes ≡ covered old.tree.notes = ap covered d.done.notes ∙ quiet_covered old.tree.state action old.tree.notes quiet in
      let stays : from ≡ old.log_from = quiet_from old.tree.state old.log_from action quiet in
      let records : since from old.records ≡ old.records = ap (λ n. since n old.records) stays ∙ since_all old.log_from old.records (each_left (λ (b : Batch). old.log_from ≤ b.number) old.records (lost_of old.lost) k.sound.counts) in
      record {
        holds = holds;
        within = within;
        reached = reached;
        sound = record {
          rising = subst (λ rs. IsRising (rs ++ lost_of old.lost)) (sym records) k.sound.rising;
          counts = subst (λ n. AllByRecursion (λ (b : Batch). n ≤ b.number) (since from old.records ++ lost_of old.lost)) (sym stays) (subst (λ rs. AllByRecursion (λ (b : Batch). old.log_from ≤ b.number) (rs ++ lost_of old.lost)) (sym records) k.sound.counts);
          distinct = subst (λ rs. AllByRecursion HasDistinctKeys (rs ++ lost_of old.lost)) (sym records) k.sound.distinct;
        };
        sure = λ z. absurd (u (sym d.done.others ∙ z.0, z.1));
        images = λ left m.
            let version : HasVersion left old = ⊎_elim
            (λ (v : (left.tables ≡ new.tree.state.latest.tables) × (left.log_from ≡ from)). inl (v.0 ∙ quiet_tables old.tree.state action new.tree.state d.silent quiet d.done.step, v.1 ∙ stays))
            (λ (v : IsIn left.tables new.tree.others × (left.log_from ≡ old.other_from)). inr (subst (IsIn left.tables) d.done.others v.0, v.1))
            m.version in
            let was : MayLeave old left = record { version = version; records = subst (λ (rs : List Batch). (counted left ≡ since left.log_from rs) ⊎ ((l : LostBatch) × (old.lost ≡ Some l) × (counted left ≡ since left.log_from (rs ++ l.batch ∷ [])))) records m.records } in
            weaken opened start t (secured old) (secured t) left (omega arith) (grown_holds opened start old t (secured old) left g (k.images left was));
      })
      (certain_or old))

  -- ---- a commit of unknown outcome

  next_after_drop : (journal : List Event) (ranges : _) (n : ℕ) → next_number opened (journal ++ Dropped ranges n ∷ []) ≡ next_number opened journal
  next_after_drop journal ranges n = fold-append next_number_after (above opened) journal (Dropped ranges n ∷ [])

  -- what a commit would have told is in order, where it drew its number
  would_order : (old : State) (action : Action) (would : State) → is_commit action ≡ true → Step opened old action would → next_number opened old.journal ≤ would.latest.number → InOrder opened old.journal → InOrder opened would.journal
  would_order old (Flushed w job made) would q m n o = subst (InOrder opened) (sym m.commit.journal) (order_join opened [] old.journal _ o (n, tt))
  would_order old (Merged w d ids evict made) would q m n o = subst (InOrder opened) (sym m.commit.journal) (order_join opened [] old.journal _ o (n, tt))
  would_order old (Moved d ids moved) would q m n o = subst (InOrder opened) (sym m.commit.journal) (order_join opened [] old.journal _ o (n, tt))
  would_order old (DroppedTables ids) would q m n o =
      let e = next_after_drop old.journal (ranges_of (among ids) old.latest.tables) would.latest.number in
      subst (InOrder opened) (sym m.commit.journal) (order_join opened [] old.journal _ o (tt, (subst (λ x. x ≤ would.latest.number) (sym e) n, tt)))
  would_order old (Cleared c a) would q m n o =
      let is : would.latest.number ≡ c = ap (λ (t : State). t.latest.number) m.1 in
      subst (InOrder opened) (sym (ap (λ (t : State). t.journal) m.1)) (order_join opened [] old.journal _ o (omega arith, tt))
  would_order old other would q m n o = absurd (cc q)

  -- what it would have told is what is told, and its install, or its clear
  abbrev Fronts : List Event → List Note → Option LostBatch → List Event → Type 0
  Fronts journal notes lost would = (front : List Event) × IsLogFront journal notes lost (length journal) front
      × ((k : Bytes) → fold (spared_after k) true front ≡ true → fold (spared_after k) true would ≡ true) × ((k : Bytes) → get (beginning start would) k ≡ get (beginning start front) k)

  installed : (journal would : List Event) (notes : List Note) (lost : Option LostBatch) (n : ℕ) → would ≡ journal ++ Install n ∷ [] → Fronts journal notes lost would
  installed journal would notes lost n is = (
    journal,
    plain_front journal notes lost,
    λ k h. ap (fold (spared_after k) true) is ∙ fold-append (spared_after k) true journal (Install n ∷ []) ∙ h,
    λ k. ap (λ j. get (beginning start j) k) is ∙ ap (λ m. get m k) (fold-append _ start journal (Install n ∷ [])),
  )

  would_front : (old : State) (action : Action) (would : State) (notes : List Note) (lost : Option LostBatch) → is_commit action ≡ true → Step opened old action would
      → Fronts (old.journal ++ told_lost old action would) (noted_lost old action ++ notes) lost would.journal
  would_front old (Flushed w job made) would notes lost q m = installed (old.journal ++ []) would.journal notes lost would.latest.number (m.commit.journal ∙ ap (λ j. j ++ Install would.latest.number ∷ []) (sym (append-nil old.journal)))
  would_front old (Merged w d ids evict made) would notes lost q m = installed (old.journal ++ []) would.journal notes lost would.latest.number (m.commit.journal ∙ ap (λ j. j ++ Install would.latest.number ∷ []) (sym (append-nil old.journal)))
  would_front old (Moved d ids moved) would notes lost q m = installed (old.journal ++ []) would.journal notes lost would.latest.number (m.commit.journal ∙ ap (λ j. j ++ Install would.latest.number ∷ []) (sym (append-nil old.journal)))
  would_front old (DroppedTables ids) would notes lost q m =
      let dropped = Dropped (ranges_of (among ids) old.latest.tables) would.latest.number in
      installed (old.journal ++ dropped ∷ []) would.journal notes lost would.latest.number (m.commit.journal ∙ sym (append_assoc old.journal (dropped ∷ []) (Install would.latest.number ∷ [])))
  would_front old (Cleared n a) would notes lost q m =
      let j = old.journal ++ [] in
      let front = take (length j) j ++ Clear n ∷ [] in
      let is : would.journal ≡ front = ap (λ (t : State). t.journal) m.1 ∙ ap (λ es. es ++ Clear n ∷ []) (sym (take-length j ∙ append-nil old.journal)) in (
        front,
        inl (inr (n, inl (ap (λ es. ClearLost n (length es)) (sym (append-nil old.journal))), refl)),
        λ k h. ap (fold (spared_after k) true) is ∙ h,
        λ k. ap (λ es. get (beginning start es) k) is,
      )
  would_front old other would notes lost q m = absurd (cc q)

  commit_is_silent : (action : Action) → is_commit action ≡ true → is_write action ≡ false
  commit_is_silent (Wrote e) q = absurd (cc q)
  commit_is_silent other q = refl

  lost_commit_kept : (old : Logged) (action : Action) (would : State) (new : Logged) → IsCommitLost opened old action would new → InOrder opened new.tree.state.journal → IsKept opened start old → IsKept opened start new
  lost_commit_kept old action would new d o k =
      let st = old.tree.state in
      let l = d.lost in
      let s = k.sure d.certain in
      let from = next_from st old.log_from action in
      let t : Logged = record old { tree = new.tree; other_from = from } in
      let g : Grown opened old t = subst (Grown opened old) d.rest (act_grown opened old (CommitLost action would) new d) in
      let long : length st.journal ≤ length new.tree.state.journal = longer opened old t g in
      let told = st.journal ++ told_lost st action would in
      let journal : new.tree.state.journal ≡ told = ap (λ (z : State). z.journal) l.state in
      let within : AllByRecursion (IsWithin (length new.tree.state.journal)) new.tree.notes = subst (AllByRecursion (IsWithin (length new.tree.state.journal))) (sym l.notes)
      (each_append _ _ old.tree.notes (lost_within (length new.tree.state.journal) st action) (all_within_more (length st.journal) (length new.tree.state.journal) old.tree.notes long k.within)) in
      let reached : old.reached ≤ length new.tree.state.journal = let r = k.reached in omega arith in
      let enough : secured t ≤ length new.tree.state.journal = secured_within opened start t within reached in
      let before : InOrder opened st.journal = theory.kept.front opened st.journal (told_lost st action would) (subst (InOrder opened) journal o) in
      let after : InOrder opened would.journal = would_order st action would l.commits l.step d.drawn.above_journal before in
      let with_it : IsSure opened start would from (since from old.records) = record {
        holds = theory.kept.step opened start st action would l.step after k.holds;
        ids = l.distinct;
        follows = step_follows theory placed opened start st action would old.log_from old.records (commit_is_silent action l.commits) (λ z. d.drawn.above_records) l.step k.holds s.follows;
      } in
      let fronts : Fronts new.tree.state.journal new.tree.notes old.lost would.journal = subst (λ ns. Fronts new.tree.state.journal ns old.lost would.journal) (sym l.notes) (subst (λ j. Fronts j (noted_lost st action ++ old.tree.notes) old.lost would.journal) (sym journal) (would_front st action would old.tree.notes old.lost l.commits l.step)) in
      let unsure : IsCertain t → ⊥ = λ u. let bad : would.latest.tables ∷ [] ≡ [] = sym l.others ∙ u.0 in absurd (cc bad) in
      subst (IsKept opened start) (sym d.rest) (record {
        holds = theory.kept.deeds opened start old.tree (Lost action would ∷ []) new.tree (new.tree, l, refl) o k.holds;
        within = within;
        reached = reached;
        sound = record { rising = k.sound.rising; counts = k.sound.counts; distinct = k.sound.distinct };
        sure = λ u. absurd (unsure u);
        images = λ left m.
            let found = no_batch left t d.certain.1 m.records in
            ⊎_elim
            (λ (v : (left.tables ≡ new.tree.state.latest.tables) × (left.log_from ≡ old.log_from)).
            let is : IsImageOf st old.log_from old.records left = image_of st old.log_from old.records left s.follows.counts (v.0 ∙ ap (λ (z : State). z.latest.tables) l.state) v.1 found in
            record {
              recovers = at_end start new.tree.state.journal new.tree.notes old.lost (secured t) left new.tree.state.journal (plain_front new.tree.state.journal new.tree.notes old.lost) enough (image_stands opened start st old.log_from old.records s left is)
                  (λ key safe. image_value opened start st old.log_from old.records s left is theory maps whole key (lost_spares key st action would (ap (fold (spared_after key) true) (sym journal) ∙ safe)) ∙ ap (λ m. get m key) (sym (lost_is_no_call start st action would)) ∙ ap (λ j. get (beginning start j) key) (sym journal));
              below = λ u e i. absurd (unsure u);
            })
            (λ (v : IsIn left.tables new.tree.others × (left.log_from ≡ from)).
            let tables : left.tables ≡ would.latest.tables = one_of left.tables would.latest.tables (subst (IsIn left.tables) l.others v.0) in
            let is : IsImageOf would from (since from old.records) left = record { tables = tables; log_from = v.1; counted = found ∙ ap (λ n. since n old.records) v.1 } in
            record {
              recovers = at_end start new.tree.state.journal new.tree.notes old.lost (secured t) left fronts.0 fronts.1 enough (image_stands opened start would from (since from old.records) with_it left is)
                  (λ key safe. image_value opened start would from (since from old.records) with_it left is theory maps whole key (fronts.2 key safe) ∙ fronts.3 key);
              below = λ u e i. absurd (unsure u);
            })
            m.version;
      })

  -- ---- each act

  pub act_kept : (old : Logged) (act : Act) (new : Logged) → Acts opened old act new → InOrder opened new.tree.state.journal → IsKept opened start old → IsKept opened start new
  act_kept old (Batched b) new d o k = batch_kept old b new d o k
  act_kept old (BatchLost b) new d o k = lost_batch_kept old b new d k
  act_kept old (Did action) new d o k = did_kept old action new d o k
  act_kept old (CommitLost action would) new d o k = lost_commit_kept old action would new d o k
