-- A rotation of a logged tree is an act of the theory, and a flush after it acts on.
use Rattle.std.proofs.Common.{◌≡◌, ◌⊎◌, ⊎_elim, ℕ, ◌<◌, ◌≤◌, Bool, List, [], ◌∷◌, ◌++◌, length, map, Option, Some, None, option_to_list, Result, Ok, Err, IfOk, refl, sym, ap, ◌∙◌, subst, arith}
use Rattle.std.specs.FinMap.{get}
use Rattle.std.specs.List.{AllByRecursion}
use Rattle.lsm_below.specs.Entries.{Entry}
use Rattle.lsm_below.specs.declared.error.Error.{Error}
use Rattle.lsm_below.specs.declared.error.Error.TheVariants.{OutOfMemory, OutOfNumbers}
use Rattle.lsm_store.specs.World.{World}
use Rattle.lsm_model.specs.Journal.{Event, Map, next_number}
use Rattle.lsm_model.specs.Sound.{Holds}
use Rattle.lsm_model.specs.Steps.{State, Rotated, Step}
use Rattle.lsm_model.specs.Views.{HasDistinctIds}
use Rattle.lsm_model.specs.Beginnings.{Note, Saved, SealedAt, IsDone}
use Rattle.lsm_model.proofs.Installs.{rotate_sound}
use Rattle.lsm_versions.specs.Levels.{SeenVersion, placed_of}
use Rattle.lsm_commit.specs.Foreign.{AtRest}
use Rattle.lsm_flush.specs.declared.jobs.Registered.{Registered}
use Rattle.lsm_log_model.specs.Logs.{Logged as Log, MayBeDrawn, Did, did, AllActs}
use Rattle.lsm_log_model.proofs.Batches.{since_each}
use Rattle.lsm_state.specs.Core.{Core, Seen, state_of, latest_of}
use Rattle.lsm_state.specs.FlushLaws.{FlushesAreDeeds}
use Rattle.lsm_state.specs.Kept.{IsKeptTree}
use Rattle.lsm_state.specs.Calls.{Rotates}
use Rattle.lsm_state.specs.Deeds.{saved_of}
use Rattle.lsm_state.specs.Commits.{Upholds}
use Rattle.lsm_state.proofs.Upholding.{upheld_still}
use Rattle.lsm_logged.specs.Keeping.{SeenLogged, IsLogOf, KeepsLog}
use Rattle.lsm_logged.specs.Removing.{log_from_of}
use Rattle.lsm_logged.specs.Acting.{rotation_of, sealed_notes, LeadsByRotation, ActsByFlush, ActsBehind, FlushesAct, RotatesAct}
use Rattle.lsm_logged.proofs.Acted.{own_tables}
use Rattle.lsm_logged.proofs.Led.{first, stop, leads_passing, leads_nowhere}
use Rattle.lsm_logged.proofs.Seen.{logged_with}
use Rattle.lsm_logged.proofs.Removals.{rotation_keeps}

-- a rotation keeps what holds of reads
rotated_holds : (opened : List Entry) (start : Map) (old : State) (a : ℕ) (new : State) → Step opened old (Rotated a) new → Holds opened start old → Holds opened start new
rotated_holds opened start old a new m h = subst (Holds opened start) (sym m.1) (record { sound = rotate_sound opened (get start) old.journal old.mems old.latest old.older a m.0 h.sound; laid = h.laid; agrees = h.agrees; zero = h.zero })

module _ {S : Type 0} (w : World) (old mid : SeenLogged S) (doubt : mid.doubted ≡ old.doubted) (rest : AtRest w) (distinct : HasDistinctIds (latest_of old.core).tables)
    (opened : List Entry) (start : Map) (journal : List Event) (notes : List Note) (t : Log) (is : IsLogOf journal notes old.core old.doubted t) (keeps : KeepsLog w t) (next : MayBeDrawn opened t old.core.seqno) (holds : Holds opened start t.tree.state) where
  upholds : (id : Option ℕ) → Rotates old.core id mid.core → Upholds w w old.core mid.core
  upholds id r = let same = rotation_keeps id old.core mid.core r in upheld_still w old.core mid.core same.0 same.1 rest

  counter : (id : Option ℕ) → Rotates old.core id mid.core → mid.core.seqno ≡ old.core.seqno
  counter None r = ap (λ (c : Core). c.seqno) r.1
  counter (Some id) r = ap (λ (c : Core). c.seqno) r.2

  pub rotation_leads : (id : Option ℕ) → Rotates old.core id mid.core → LeadsByRotation id w old mid opened journal notes t
  rotation_leads None r =
      let up = upholds None r in
      leads_nowhere opened journal notes t w w old mid is keeps up.files doubt up.passes (ap (saved_of journal notes) r.1) (ap log_from_of r.1) (ap (λ (c : Core). c.lost) r.1) (let q = counter None r in omega (arith, q))
  rotation_leads (Some id) r =
      let up = upholds (Some id) r in
      let a = old.core.next_memtable in
      let q = counter (Some id) r in
      let notes' = SealedAt old.core.history.latest.active_memtable (length journal) ∷ notes in
      let tree : Saved = saved_of journal notes' mid.core in
      let same : HasDistinctIds (latest_of mid.core).tables = subst (λ (c : Core). HasDistinctIds (latest_of c).tables) (sym r.2) distinct in
      let lost : mid.core.lost ≡ old.core.lost = ap (λ (c : Core). c.lost) r.2 in
      let one : IsDone opened (saved_of journal notes old.core) (Rotated a) tree = record { answered = refl; certain = λ z. absurd (cc z); step = r.3 opened journal; distinct = same; notes = refl; others = ap (λ l. map (λ (v : SeenVersion). placed_of v.levels) (option_to_list l)) lost } in
      let l = first opened t (Rotated a) tree [] tree t.log_from t.other_from mid.core.seqno ⊥ refl (λ z. absurd (cc z)) (subst (λ (s : Saved). IsDone opened s (Rotated a) tree) (sym is.tree) one) (omega arith)
      (stop opened (did t (Rotated a) tree) tree mid.core.seqno ⊥ refl (λ no. absurd no)) in
      let from : log_from_of mid.core ≡ log_from_of old.core = ap log_from_of r.2 in
      leads_passing opened journal notes t w w old mid is keeps up.files doubt up.passes journal notes' (Did (Rotated a) ∷ []) t.log_from t.other_from ⊥ l (omega arith) (is.from ∙ sym from) (λ v h. is.other v (sym lost ∙ h)) (omega (arith, q))

  records_below : (n : ℕ) (id : Option ℕ) (log : Log) → AllActs opened t (rotation_of id old.core) log → AllByRecursion (λ b. b.number < n) t.records → AllByRecursion (λ b. b.number < n) log.records
  records_below n None log d below = subst (λ (x : Log). AllByRecursion (λ b. b.number < n) x.records) (sym d) below
  records_below n (Some id) log d below = subst (λ (x : Log). AllByRecursion (λ b. b.number < n) x.records) (sym (d.2 ∙ d.1.rest)) (since_each (λ b. b.number < n) t.log_from t.records below)

  holds_on : (id : Option ℕ) → Rotates old.core id mid.core → Holds opened start (state_of journal mid.core)
  holds_on None r = subst (λ (c : Core). Holds opened start (state_of journal c)) (sym r.1) (subst (λ (s : Saved). Holds opened start s.state) is.tree holds)
  holds_on (Some id) r = rotated_holds opened start (state_of journal old.core) old.core.next_memtable (state_of journal mid.core) (r.3 opened journal) (subst (λ (s : Saved). Holds opened start s.state) is.tree holds)

  version_stays : (id : Option ℕ) → Rotates old.core id mid.core → log_from_of mid.core ≡ log_from_of old.core
  version_stays None r = ap log_from_of r.1
  version_stays (Some id) r = ap log_from_of r.2

  -- what a flush does from there
  acts_behind : (watermark : ℕ) (id : Option ℕ) (r : Result (Option (ℕ × Registered)) Error) (w' : World) (new : SeenLogged S) → Rotates old.core id mid.core → FlushesAct watermark r w w' mid new → ActsBehind watermark id r w w' old new opened journal notes t
  acts_behind watermark id r w' new rotates acts =
      let one = rotation_leads id rotates in
      let q = counter id rotates in
      let v = version_stays id rotates in
      let from = is.from in
      let at = one.is.from in
      let version = next.above_version in
      let above : next_number opened journal ≤ old.core.seqno = subst (λ (s : Saved). next_number opened s.state.journal ≤ old.core.seqno) is.tree next.above_journal in
      let drawn : MayBeDrawn opened one.log mid.core.seqno = record {
        above_journal = subst (λ (s : Saved). next_number opened s.state.journal ≤ mid.core.seqno) (sym one.is.tree) (omega (arith, above, q));
        above_version = omega (arith, from, at, v, version, q);
        above_records = subst (λ n. AllByRecursion (λ b. b.number < n) one.log.records) (sym q) (records_below old.core.seqno id one.log one.done next.above_records);
      } in
      (mid, one, acts opened start journal (sealed_notes id journal old.core ++ notes) one.log one.is one.keeps drawn (subst (λ (s : Saved). Holds opened start s.state) (sym one.is.tree) (holds_on id rotates)))

-- the same of the trees before and after, of which the first one is known from inside
pub flushed_behind : {S : Type 0} (world : S → World) (tree : Seen S) (numbers : List ℕ) (doubted : Bool) (old mid new : SeenLogged S) → logged_with tree numbers doubted ≡ old → AtRest (world old.store) → FlushesAreDeeds → IsKeptTree tree.core → mid.store ≡ old.store → mid.doubted ≡ old.doubted
    → (watermark : ℕ) (id : Option ℕ) (r : Result (Option (ℕ × Registered)) Error) → Rotates old.core id mid.core → FlushesAct watermark r (world mid.store) (world new.store) mid new
    → (opened : List Entry) (start : Map) (journal : List Event) (notes : List Note) (t : Log) → IsLogOf journal notes old.core old.doubted t → KeepsLog (world old.store) t → MayBeDrawn opened t old.core.seqno → Holds opened start t.tree.state → ActsBehind watermark id r (world old.store) (world new.store) old new opened journal notes t
flushed_behind world tree numbers doubted old mid new view rest law kept store doubt watermark id r rotates acts opened start journal notes t is keeps next holds =
    let distinct = subst (λ t. HasDistinctIds (latest_of t.core).tables) view (own_tables law.spends tree.core kept) in
    acts_behind (world old.store) old mid doubt rest distinct opened start journal notes t is keeps next holds watermark id r (world new.store) new rotates (subst (λ s. FlushesAct watermark r (world s) (world new.store) mid new) store acts)

-- a refused rotation does nothing
pub refused_rotation : {S : Type 0} (watermark : ℕ) (e : Error) (w : World) (old : SeenLogged S) → AtRest w → (e ≡ OutOfNumbers) ⊎ (e ≡ OutOfMemory) → (opened : List Entry) (journal : List Event) (notes : List Note) (t : Log) → IsLogOf journal notes old.core old.doubted t → KeepsLog w t
    → ActsBehind watermark None (Err e) w w old old opened journal notes t
refused_rotation watermark e w old rest only opened journal notes t is keeps =
    let up : Upholds w w old.core old.core = upheld_still w old.core old.core refl refl rest in
    let one = leads_nowhere opened journal notes t w w old old is keeps up.files refl up.passes refl refl refl (omega arith) in
    let two = leads_nowhere opened journal notes one.log w w old old one.is one.keeps up.files refl up.passes refl refl refl (omega arith) in
    (old, one, ⊎_elim (λ m. subst (λ x. ActsByFlush watermark (Err x) w w old old opened journal notes one.log) (sym m) two) (λ m. subst (λ x. ActsByFlush watermark (Err x) w w old old opened journal notes one.log) (sym m) two) only)

-- ---- a rotation alone

rotate_acts : {S : Type 0} (w : World) (old new : SeenLogged S) → new.doubted ≡ old.doubted → AtRest w → HasDistinctIds (latest_of old.core).tables → (r : Result (Option ℕ) Error) → IfOk r (λ id. Rotates old.core id new.core) → RotatesAct r w old new
rotate_acts w old new doubt rest distinct (Ok id) rotates opened start journal notes t is keeps next holds = rotation_leads w old new doubt rest distinct opened start journal notes t is keeps next holds id rotates
rotate_acts w old new doubt rest distinct (Err e) rotates opened start journal notes t is keeps next holds = tt

-- the same of the tree as it is seen
pub rotated_acts : {S : Type 0} (world : S → World) (tree mid : Seen S) (numbers : List ℕ) (doubted : Bool) (seen : SeenLogged S) → logged_with tree numbers doubted ≡ seen → (store : S) → store ≡ tree.store → AtRest (world store) → FlushesAreDeeds → IsKeptTree tree.core
    → (r : Result (Option ℕ) Error) → IfOk r (λ id. Rotates tree.core id mid.core) → RotatesAct r (world seen.store) seen (logged_with mid numbers doubted)
rotated_acts world tree mid numbers doubted seen view store read rest law kept r rotates =
    subst (λ t. RotatesAct r (world t.store) t (logged_with mid numbers doubted)) view
    (rotate_acts (world tree.store) (logged_with tree numbers doubted) (logged_with mid numbers doubted) refl (subst (λ s. AtRest (world s)) read rest) (own_tables law.spends tree.core kept) r rotates)
