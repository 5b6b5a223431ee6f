use Rattle.std.proofs.Common.{◌≡◌, ◌∙◌, ⊎_elim, ℕ, ◌<◌, max, map, Contains, None, Err, false, refl, sym, ap, subst, arith}
use Rattle.std.proofs.lemmas.Result.{err_from_is_err_and}
use Rattle.lsm_below.specs.Sums.{capped}
use Rattle.lsm_below.specs.Entries.{above}
use Rattle.lsm_store.specs.World.{Image, LeavesOnly}
use Rattle.lsm_store.specs.Moments.{same_then}
use Rattle.lsm_model.specs.Views.{held}
use Rattle.lsm_versions.specs.Configs.{raised}
use Rattle.lsm_versions.specs.Levels.{SeenVersion, placed_of}
use Rattle.lsm_manifest.specs.declared.found.Found.{Found}
use Rattle.lsm_manifest.specs.declared.opening.Opened.{Opened}
use Rattle.lsm_manifest.specs.Looking.{Looks}
use Rattle.lsm_manifest.specs.Ready.{IsReady}
use Rattle.lsm_manifest.specs.Spelling.{ids_of}
use Rattle.lsm_manifest.specs.Told.{told_counts}
use Rattle.lsm_commit.specs.Foreign.{Passes}
use Rattle.lsm_log.specs.LogNames.{record_name}
use Rattle.lsm_log.specs.Logs.{HasGoodNames, IsLogFrom, IsLogAt, IsBadLog}
use Rattle.lsm_log.specs.Changes.{IsBelow, ClearsRecords, AreCleared}
use Rattle.lsm_log.proofs.Loaded.{gives_same}
use Rattle.lsm_state.specs.Core.{versions_left, written_of}
use Rattle.lsm_log_model.specs.Records.{LogStands}
use Rattle.lsm_logged.specs.Keeping.{AreRecordNumbers}
use Rattle.lsm_logged.specs.Meanwhile.{LeavesAsBefore}
use Rattle.lsm_logged.specs.Opening.{Files, Memory, Faulty, BadLog, image_read, TakesLog, IsNextTable, CanBeSettled, IsReopenedLog}
use Rattle.lsm_state.proofs.Blaming.{none_counted, one_failed, counted_behind, none_behind}
use Rattle.lsm_logged.proofs.Gone.{orphan_apart}
use Rattle.lsm_logged.proofs.LogNames.{record_is_foreign}
use Rattle.lsm_logged.proofs.Meanwhile.{nothing_moment, looks_read, files_left, records_left}
use Rattle.lsm_logged.proofs.Replaying.{log_read, none_lacks, small_numbers}
use Rattle.lsm_state.proofs.Reached.{looks_on}
use Rattle.lsm_logged.proofs.Reopening.{fresh_in, found_in, next_in, is_read_in, numbered_more, whole, version, table, high, replays, takes, reopens}
use Rattle.lsm_logged.proofs.logged.Logged.open.Given.{Over}
use Rattle.lsm_logged.proofs.logged.Logged.open.Goals.{In-Ok, After-take_log}
use Rattle.lsm_logged.proofs.logged.Logged.open.Goals as goal

-- once the log is checked: what the version tells of it, and which calls failed
module _ (g : Over) (c : In-Ok g) where
  from_is : c.log_from-from.result ≡ c.check_numbered.new.found.files.opened.version.log_from
  from_is = c.log_from-from.ensures ∙ (ap (λ (u : SeenVersion). u.log_from) c.version.ensures ∙ ap (λ (f : Found). f.opened.version.log_from) (sym c.in-Ok.ensures.files))

  unfailed : (g.S.Store.world c.check_numbered.new.found.store).failures ≡ (g.S.Store.world c.args.store).failures
  unfailed = none_counted (g.S.Store.world c.in_ok-found.found.store) (g.S.Store.world c.check_numbered.new.found.store) c.in-Ok.checked c.in-Ok.ensures.counts ∙ c.in_ok-found.ensures.counts

-- what was found, and the records that are there
module _ (g : Over) (c : In-Ok g) (tells : g.S.Store.tells) where
  looks : Looks (g.S.Store.world c.args.store) (g.S.Store.world c.check_numbered.new.found.store) c.check_numbered.new.found.files
  looks = looks_on (g.S.Store.world c.args.store) (g.S.Store.world c.in_ok-found.found.store) (g.S.Store.world c.check_numbered.new.found.store) c.in_ok-found.found.files c.check_numbered.new.found.files (c.in_ok-found.ensures.found tells) (c.in-Ok.ensures.same tells) c.in-Ok.ensures.files

  read : IsLogAt (g.S.Store.world c.args.store).gives c.log_from-from.result c.in-Ok.checked.log.passed.items c.in-Ok.checked.log.numbers.items
  read = subst (λ (image : Image). IsLogAt image c.log_from-from.result c.in-Ok.checked.log.passed.items c.in-Ok.checked.log.numbers.items) (gives_same (g.S.Store.world c.args.store) (g.S.Store.world c.in_ok-found.found.store) (c.in_ok-found.ensures.same tells)) (c.in-Ok.ensures.read tells)

-- once records are removed: foreign names have kept their content, and what a crash may have left reads as before
module _ (g : Over) (c : After-take_log g) (tells : g.S.Store.tells) (looked : Looks (g.S.Store.world c.args.store) (g.S.Store.world c.check_numbered.new.found.store) c.check_numbered.new.found.files) where
  passes : Passes (g.S.Store.world c.args.store) (g.S.Store.world c.in_ok-tree.tree.store)
  passes = c.openings_pass.ensures c.args.store c.in_ok-tree.tree.store _ (c.in_ok-tree.ensures.opens tells c.args.store looked) (c.in_ok-tree.ensures.leaves tells c.args.store looked)

  left : IsReady (g.S.Store.world c.args.store) → HasGoodNames (g.S.Store.world c.args.store).gives → c.log_from-from.result ≡ c.check_numbered.new.found.files.opened.version.log_from → LeavesAsBefore (g.S.Store.world c.args.store) (g.S.Store.world c.take_log.new.tree.store)
  left ready good from_is =
      let w = g.S.Store.world in
      let store = c.args.store in
      let files = c.check_numbered.new.found.files in
      let mid = c.in_ok-tree.tree.store in
      let new = c.take_log.new.tree.store in
      let core = c.in_ok-tree.tree.core in
      records_left w c.images_stand_once.ensures.found c.unread_names_dont_matter.ensures c.plain_numbers_are_read.ensures (c.ready_stores_keep_what_is_named.ensures.named tells) (c.openings_leave_what_was_read.ensures.meanwhile tells) c.foreign_names_spare.ensures c.stored_files_are_ready.ensures
      store (g.met.S.Store.gives_one tells store) ready files (looks_read (w store) (w c.check_numbered.new.found.store) files looked) good mid new (g.met.S.Store.gives_one tells mid) (λ image le may. g.met.S.Store.counts_now tells mid (w store).moment image le may) (versions_left core) (written_of core) (ap versions_left c.in_ok-tree.ensures.core) (c.in_ok-tree.ensures.leaves tells store looked)
      passes (c.in_ok-tree.ensures.stored tells store looked ready)
      (subst (λ n. ClearsRecords (IsBelow n) (w mid) (w new)) from_is (c.take_log.ensures.clears tells)) (subst (λ n. LeavesOnly (w mid) (w new) (AreCleared (IsBelow n) (w mid))) from_is (c.take_log.ensures.any_moment tells))

pub returns-in_err-found-clause-refused : goal.returns-in_err-found-clause-refused
returns-in_err-found-clause-refused g c tells =
    let p = err_from_is_err_and c.from_residual.result c.from_residual.ensures.1 in
    rw (p.1, p.2) (Files (c.in_err-found.ensures.refused tells))

pub returns-in-Err-clause-refused : goal.returns-in-Err-clause-refused
returns-in-Err-clause-refused g c tells =
    let w = g.S.Store.world in
    let store = c.args.store in
    let found = c.in_ok-found.found in
    let mid = c.check_numbered.new.found.store in
    let looked = c.in_ok-found.ensures.same tells in
    let from = c.log_from-from.result in
    let from_is : from ≡ found.files.opened.version.log_from = c.log_from-from.ensures ∙ ap (λ (u : SeenVersion). u.log_from) c.version.ensures in
    ⊎_elim (λ few. ⊎_elim (λ e. Memory e) (λ e. Faulty e (rw (c.into_store.ensures) (one_failed (w store) (w found.store) (w mid) c.in_ok-found.ensures.counts (c.in-Err.ensures.counts.store (ap Err e))))) few)
    (λ e. BadLog e (record {
      version = found.files.opened.version;
      read = looks_read (w store) (w found.store) found.files (c.in_ok-found.ensures.found tells);
      bad = subst (IsBadLog (w store).gives) from_is (subst (λ (image : Image). IsBadLog image from) (gives_same (w store) (w found.store) looked) (c.in-Err.ensures.bad tells (ap Err e)));
      same = rw (c.into_store.ensures) (same_then (w store) (w found.store) (w mid) looked (c.in-Err.ensures.same tells));
    }))
    c.in-Err.ensures.only

pub returns-in_err-tree-clause-refused : goal.returns-in_err-tree-clause-refused
returns-in_err-tree-clause-refused g c tells =
    let p = err_from_is_err_and c.from_residual-in_err-tree.result c.from_residual-in_err-tree.ensures.1 in
    rw (p.1, p.2) (Files (c.in_err-tree.ensures.opens tells c.args.store (looks g (goal.at.returns-in_err-tree-clause-refused g c).In-Ok tells)))

pub returns-in-Err-take_log-clause-refused : goal.returns-in-Err-take_log-clause-refused
returns-in-Err-take_log-clause-refused g c tells =
    let w = g.S.Store.world in
    let store = c.args.store in
    let mid = c.in_ok-tree.tree.store in
    let log = c.in-Ok.checked.log in
    let at = goal.at.returns-in-Err-take_log-clause-refused g c in
    let there = read g at.In-Ok tells in
    let same = passes g at.After-take_log tells (looks g at.In-Ok tells) in
    ⊎_elim (λ few. ⊎_elim (λ e. Memory e) (λ e. Faulty e (rw (c.into_store-in-Err-take_log.ensures) (one_failed (w store) (w mid) (w c.take_log.new.tree.store) (c.in_ok-tree.ensures.counts ∙ unfailed g at.In-Ok) (c.in-Err-take_log.ensures.counts.store (ap Err e))))) few)
    (λ e. absurd (none_lacks (w store).gives c.log_from-from.result log.passed.items log.numbers.items there (w mid).gives (λ k. same.gives (record_name k) (record_is_foreign k)) (c.in-Err-take_log.ensures.bad tells (ap Err e))))
    (c.in-Err-take_log.ensures.told tells (small_numbers (w store).gives c.log_from-from.result log.passed.items log.numbers.items there))

pub invariant_of-result : goal.invariant_of-result
invariant_of-result g c =
    let found' = c.check_numbered.new.found in
    let v : SeenVersion = found'.files.opened.version in
    let next = c.in-Ok.checked.next in
    let from : c.log_from-from.result ≡ v.log_from = from_is g (goal.at.invariant_of-result g c).In-Ok in
    let is : c.raised-config.result ≡ raised (max v.log_from next) (raised (capped (above (held (placed_of v.levels)))) c.args.config) = c.raised-config.ensures ∙ (ap (λ n. raised n c.raised.result) (c.max.ensures ∙ ap (λ n. max n next) from) ∙ ap (raised (max v.log_from next)) c.raised.ensures) in
    let le = high c.args.config c.raised-config.result v found'.files.opened.next_table_id next c.in-Ok.checked.log.passed.items c.in-Ok.checked.log.numbers.items c.in-Ok-take_log.ensures.replays.records c.in_ok-tree.tree.core c.take_log.new.tree.core c.in_ok-tree.ensures.core is c.in-Ok-take_log.ensures.replays.core in
    numbered_more next c.take_log.new.tree.core.seqno c.in-Ok.checked.log.numbers.items (omega (arith, le)) c.in-Ok.ensures.after

pub returns-in-Ok-take_log-clause-opens : goal.returns-in-Ok-take_log-clause-opens
returns-in-Ok-take_log-clause-opens g c =
    let w = g.S.Store.world in
    let store = c.args.store in
    let found' = c.check_numbered.new.found in
    let v : SeenVersion = found'.files.opened.version in
    let next = c.in-Ok.checked.next in
    let numbers = c.in-Ok.checked.log.numbers.items in
    let passed = c.in-Ok.checked.log.passed.items in
    let replayed = c.in-Ok-take_log.ensures.replays in
    let records = replayed.records in
    let cfg = c.raised-config.result in
    let id = found'.files.opened.next_table_id in
    let mid = c.in_ok-tree.tree.store in
    let new = c.take_log.new.tree.store in
    let before = c.in_ok-tree.tree.core in
    let core = c.take_log.new.tree.core in
    let at = goal.at.returns-in-Ok-take_log-clause-opens g c in
    let from : c.log_from-from.result ≡ v.log_from = from_is g at.In-Ok in
    let is : cfg ≡ raised (max v.log_from next) (raised (capped (above (held (placed_of v.levels)))) c.args.config) = c.raised-config.ensures ∙ (ap (λ n. raised n c.raised.result) (c.max.ensures ∙ ap (λ n. max n next) from) ∙ ap (raised (max v.log_from next)) c.raised.ensures) in
    let made = c.in_ok-tree.ensures.core in
    let take = replayed.core in
    let ver = version c.args.config cfg v id next passed numbers records before core made is take in
    let le = high c.args.config cfg v id next passed numbers records before core made is take in
    let below = numbered_more next core.seqno (map (λ r. r.number) records) (omega (arith, le)) (subst (AreRecordNumbers next) (sym replayed.named) c.in-Ok.ensures.after) in
    let looked = λ (tells : g.S.Store.tells). looks g at.In-Ok tells in
    let same = λ (tells : g.S.Store.tells). passes g at.After-take_log tells (looked tells) in
    let log : g.S.Store.tells → IsLogFrom (w store).gives v.log_from passed records = λ tells. log_read (w store).gives v.log_from passed numbers (subst (λ n. IsLogAt (w store).gives n passed numbers) from (read g at.In-Ok tells)) (w mid).gives (λ k. (same tells).gives (record_name k) (record_is_foreign k)) records replayed.named (replayed.records_are tells) in
    let clears : g.S.Store.tells → ClearsRecords (IsBelow v.log_from) (w mid) (w new) = λ tells. subst (λ n. ClearsRecords (IsBelow n) (w mid) (w new)) from (c.in-Ok-take_log.ensures.clears tells) in
    record {
      passed = passed;
      records = records;
      replays = replays c.args.config cfg v id next passed numbers records before core made is take new (sym replayed.named) c.in-Ok.ensures.after c.in-Ok.ensures.below c.in-Ok.ensures.just;
      next = λ tells. subst (λ u. IsNextTable (w store).gives u core.next_table) (sym ver) (subst (IsNextTable (w store).gives v) (sym (table c.args.config cfg v id next passed numbers records before core made is take)) (next_in (w store).gives found'.files (looked tells).found));
      takes = λ tells. subst (λ u. TakesLog (w store) (w new) u passed records) (sym ver) (takes (w store) (w mid) (w new) v passed records (log tells) (same tells) (clears tells) c.plain_numbers_are_read.ensures (looked tells).from (fresh_in (w store).gives found'.files (looked tells).found) (found_in (w store).gives found'.files (looked tells).found)
          (subst (λ n. (k : ℕ) → Contains passed k → k < n → (w new).gives (record_name k) ≡ None) from (c.in-Ok-take_log.ensures.gone tells))
          (c.in-Ok-take_log.ensures.others tells) (subst (λ n. LeavesOnly (w mid) (w new) (AreCleared (IsBelow n) (w mid))) from (c.in-Ok-take_log.ensures.any_moment tells)));
      reopens = λ tells. subst (λ u. LogStands (image_read u records) → CanBeSettled (w store) u.log_from → IsReopenedLog (image_read u records) (record { store = new; core = core; numbers = numbers; doubted = false }) (w new)) (sym ver)
          (λ stands can. reopens c.opened_trees_are_fresh.ensures c.replays_reopen.ensures c.counter_stays_above.ensures cfg v id passed records core (whole c.args.config cfg v id next passed numbers records before core made is take) (omega (arith, le)) below.below
          (λ k there. (((log tells).read_are k).0 there).1) stands (w store) (w mid) (w new) (log tells) (same tells) (clears tells) c.plain_numbers_are_read.ensures
          (is_read_in (w store) (w mid) v.log_from (c.openings_settle.ensures store mid _ (c.in_ok-tree.ensures.opens tells store (looked tells))) can) new numbers);
      stored = λ tells ready. (c.in-Ok-take_log.ensures.upholds tells (c.in_ok-tree.ensures.stored tells store (looked tells) ready)).0;
    }

pub returns-in-Ok-take_log-clause-removes : goal.returns-in-Ok-take_log-clause-removes
returns-in-Ok-take_log-clause-removes g c tells id ls named n orphan =
    let looked = looks g (goal.at.returns-in-Ok-take_log-clause-removes g c).In-Ok tells in
    c.in-Ok-take_log.ensures.others tells n (orphan_apart id (ids_of ls) n c.in-Ok.checked.log.passed.items orphan) ∙ ((c.in_ok-tree.ensures.opens tells c.args.store looked).removes id ls named).gone n orphan

-- ---- which calls failed

pub returns-in_err-found-clause-counts : goal.returns-in_err-found-clause-counts
returns-in_err-found-clause-counts g c =
    let w = g.S.Store.world in
    let p = err_from_is_err_and c.from_residual.result c.from_residual.ensures.1 in
    rw (p.1, p.2) (counted_behind {A = Found} (w c.args.store) (w c.args.store) _ _ refl (told_counts _ _ _ c.in_err-found.ensures.counts))

pub returns-in-Err-clause-counts : goal.returns-in-Err-clause-counts
returns-in-Err-clause-counts g c =
    let w = g.S.Store.world in
    rw (c.into_store.ensures) (counted_behind (w c.args.store) (w c.in_ok-found.found.store) (w c.check_numbered.new.found.store) _ c.in_ok-found.ensures.counts c.in-Err.ensures.counts)

pub returns-in_err-tree-clause-counts : goal.returns-in_err-tree-clause-counts
returns-in_err-tree-clause-counts g c =
    let w = g.S.Store.world in
    let p = err_from_is_err_and c.from_residual-in_err-tree.result c.from_residual-in_err-tree.ensures.1 in
    rw (p.1, p.2) (counted_behind {A = Opened} (w c.args.store) (w c.check_numbered.new.found.store) _ _ (unfailed g (goal.at.returns-in_err-tree-clause-counts g c).In-Ok) (told_counts _ _ _ c.in_err-tree.ensures.counts))

pub returns-in-Err-take_log-clause-counts : goal.returns-in-Err-take_log-clause-counts
returns-in-Err-take_log-clause-counts g c =
    let w = g.S.Store.world in
    rw (c.into_store-in-Err-take_log.ensures) (counted_behind (w c.args.store) (w c.in_ok-tree.tree.store) (w c.take_log.new.tree.store) _ (c.in_ok-tree.ensures.counts ∙ unfailed g (goal.at.returns-in-Err-take_log-clause-counts g c).In-Ok) c.in-Err-take_log.ensures.counts)

pub returns-in-Ok-take_log-clause-counts : goal.returns-in-Ok-take_log-clause-counts
returns-in-Ok-take_log-clause-counts g c =
    let w = g.S.Store.world in
    let new = c.take_log.new.tree.store in
    none_behind (w c.args.store) (w new) _ (none_counted (w c.in_ok-tree.tree.store) (w new) tt c.in-Ok-take_log.ensures.counts ∙ c.in_ok-tree.ensures.counts ∙ unfailed g (goal.at.returns-in-Ok-take_log-clause-counts g c).In-Ok)

-- ---- what a crash leaves meanwhile

pub returns-in_err-found-clause-leaves : goal.returns-in_err-found-clause-leaves
returns-in_err-found-clause-leaves g c tells ready =
    let w = g.S.Store.world in
    let p = err_from_is_err_and c.from_residual.result c.from_residual.ensures.1 in
    rw (p.1, p.2) (nothing_moment (w c.args.store) (w c.in_err-found.field-0.0.1) (g.met.S.Store.only_now tells c.args.store) (c.in_err-found.ensures.same tells) ready)

pub returns-in-Err-clause-leaves : goal.returns-in-Err-clause-leaves
returns-in-Err-clause-leaves g c tells ready =
    let w = g.S.Store.world in
    let store = c.args.store in
    let found = c.in_ok-found.found in
    let mid = c.check_numbered.new.found.store in
    rw (c.into_store.ensures) (nothing_moment (w store) (w mid) (g.met.S.Store.only_now tells store) (same_then (w store) (w found.store) (w mid) (c.in_ok-found.ensures.same tells) (c.in-Err.ensures.same tells)) ready)

pub returns-in_err-tree-clause-leaves : goal.returns-in_err-tree-clause-leaves
returns-in_err-tree-clause-leaves g c tells ready =
    let w = g.S.Store.world in
    let store = c.args.store in
    let found' = c.check_numbered.new.found in
    let at = goal.at.returns-in_err-tree-clause-leaves g c in
    let looked = looks g at.In-Ok tells in
    let p = err_from_is_err_and c.from_residual-in_err-tree.result c.from_residual-in_err-tree.ensures.1 in
    rw (p.1, p.2)
    (files_left w c.images_stand_once.ensures.found c.unread_names_dont_matter.ensures c.plain_numbers_are_read.ensures (c.ready_stores_keep_what_is_named.ensures.named tells) (c.openings_leave_what_was_read.ensures.meanwhile tells) c.foreign_names_spare.ensures c.stored_files_are_ready.ensures
    store (g.met.S.Store.gives_one tells store) ready found'.files (looks_read (w store) (w found'.store) found'.files looked) (read g at.In-Ok tells).log.are.good c.in_err-tree.field-0.0.1 (c.in_err-tree.ensures.leaves tells store looked))

pub returns-in-Err-take_log-clause-leaves : goal.returns-in-Err-take_log-clause-leaves
returns-in-Err-take_log-clause-leaves g c tells ready =
    let at = goal.at.returns-in-Err-take_log-clause-leaves g c in
    rw (c.into_store-in-Err-take_log.ensures) (left g at.After-take_log tells (looks g at.In-Ok tells) ready (read g at.In-Ok tells).log.are.good (from_is g at.In-Ok))

pub returns-in-Ok-take_log-clause-leaves : goal.returns-in-Ok-take_log-clause-leaves
returns-in-Ok-take_log-clause-leaves g c tells ready =
    let at = goal.at.returns-in-Ok-take_log-clause-leaves g c in
    left g at.After-take_log tells (looks g at.In-Ok tells) ready (read g at.In-Ok tells).log.are.good (from_is g at.In-Ok)
