-- What is opened on a store that an opening takes stands, and the steps on it are a life.
use Rattle.std.proofs.Common.{◌≡◌, ⊎_elim, inl, inr, ℕ, ◌<◌, ◌≤◌, ◌^◌, max, List, [], ◌∷◌, map, reverse, Contains, Option, Some, None, IsSome, refl, sym, ap, ◌∙◌, subst, arith}
use Rattle.std.proofs.lemmas.List.Elements.{All-contains, All-from_recursion, Contains-append_right}
use Rattle.std.specs.List.{AllByRecursion}
use Rattle.lsm_below.specs.Each.{each_left}
use Rattle.lsm_below.specs.Entries.{Entry, above}
use Rattle.lsm_below.specs.Sums.{capped}
use Rattle.lsm_manifest.specs.Names.{current_name}
use Rattle.lsm_manifest.specs.Versions.{first_version}
use Rattle.lsm_store.specs.World.{World, IsImage}
use Rattle.lsm_model.specs.Journal.{Map, next_number}
use Rattle.lsm_model.specs.Views.{held}
use Rattle.lsm_model.proofs.Above.{above_each}
use Rattle.lsm_logged.specs.Config.{Config}
use Rattle.lsm_logged.specs.Levels.{SeenVersion, placed_of}
use Rattle.lsm_log.specs.declared.record.Record.{Record}
use Rattle.lsm_log_model.specs.Logs.{lost_of}
use Rattle.lsm_log_model.specs.Records.{Batch, LogImage, LogStands, logged, counted, entries_in, opened_by}
use Rattle.lsm_log_model.proofs.Batches.{each_entries, each_reverse, since_all}
use Rattle.lsm_versions.specs.TableLaws.{above-append}
use Rattle.lsm_run_model.specs.Moments.{last_of}
use Rattle.lsm_run_model.specs.Lives.{LeavesReady}
use Rattle.lsm_runs.specs.declared.steps.Reply.{Reply}
use Rattle.lsm_runs.specs.Compacting.{Strategies}
use Rattle.lsm_runs.specs.Dropping.{Drops, AllowsDrops}
use Rattle.lsm_runs.specs.Files.{AreApart}
use Rattle.lsm_runs.proofs.Small.{found_low}
use Rattle.lsm_state.specs.Core.{Core, versions_left}
use Rattle.lsm_state.specs.Opened.{found_entries}
use Rattle.lsm_logged.specs.Keeping.{SeenLogged}
use Rattle.lsm_logged.specs.Meanwhile.{log_is_read, LeavesAsBefore}
use Rattle.lsm_logged.specs.Opening.{OpensLogged, IsJustAbove, batch_read, image_read, version_of}
use Rattle.lsm_log_runs.specs.declared.steps.LogStep.{LogStep}
use Rattle.lsm_log_runs.specs.Dropping.{DropsBy, MayDropBy}
use Rattle.lsm_log_runs.specs.Images.{ReadsLog, IsNumberedBelow, IsSmall, CanBeRead, LogMayBeOpened}
use Rattle.lsm_log_runs.specs.Living.{EachKeeps, LivesLogged}
use Rattle.lsm_log_runs.specs.LoggedRuns.{called, EachHolds, RunsWhole}
use Rattle.lsm_log_runs.specs.Pasts.{LogPast, nothing}
use Rattle.lsm_log_runs.specs.Slots.{LogStage, at_first}
use Rattle.lsm_log_runs.specs.Stages.{CalledStage, StageKeeps}
use Rattle.lsm_log_runs.specs.Standing.{StandsLogged, StandsWithJobs}
use Rattle.lsm_log_runs.proofs.Allowing.{adds_more, drops_allowed}
use Rattle.lsm_log_runs.proofs.Leading.{past_eq}
use Rattle.lsm_log_runs.proofs.Under.{reopened_under}
use Rattle.lsm_log_runs.proofs.Waiting.{first_waiting}

one_apart : (x : SeenVersion) → AreApart (x ∷ [])
one_apart x v w i j same = ⊎_elim (λ (e : x ≡ v). ⊎_elim (λ (f : x ≡ w). sym f ∙ e) (λ (no : ⊥). absurd no) j) (λ (no : ⊥). absurd no) i

module _ {S : Type 0} (tells : Type 0) (world : S → World) (store : S) (config : Config) (t : SeenLogged S) (opens : OpensLogged tells world store config t) (told : tells) where
  pub reads : ReadsLog (world store).gives (version_of t) opens.records
  reads = let takes = opens.takes told in record { version = record { version = takes.version; found = takes.found; fresh = takes.fresh }; log = log_is_read (world store).gives (version_of t).log_from opens.passed opens.records takes.log }

  -- its counter is no higher than what is above all that it read, or the configuration says
  pub starts_low : (n : ℕ) → IsNumberedBelow n (image_read (version_of t) opens.records) → t.core.seqno ≤ max config.seqno n
  starts_low n below =
      let image = image_read (version_of t) opens.records in
      let r = opens.replays in
      let counter : t.core.seqno ≡ max (max config.seqno (capped (above (found_entries t.core)))) r.least = ap (λ (c : Core). c.seqno) r.core in
      let all : above (opened_by image) ≡ max (above (reverse (entries_in (counted image)))) (above (held image.tables)) = above-append (reverse (entries_in (counted image))) (held image.tables) in
      let entries : above (opened_by image) ≤ n = below.entries in
      let found : above (found_entries t.core) ≤ n = omega (arith, all, entries) in
      let cap : capped (above (found_entries t.core)) ≤ above (found_entries t.core) = omega arith in
      let least = ⊎_elim (λ e. from_low e) (λ h. ⊎_elim (λ (p : IsJustAbove r.least opens.passed). passed_low p) (λ (p : IsJustAbove r.least (map (λ (x : Record). x.number) opens.records)). record_low p) h) r.least_is in
      omega (arith, counter, found, cap, least)
    where
      from_low : opens.replays.least ≡ (version_of t).log_from → opens.replays.least ≤ n
      from_low e = let from = below.log_from in omega (arith, e, from)

      passed_low : IsJustAbove opens.replays.least opens.passed → opens.replays.least ≤ n
      passed_low (inl zero) = omega (arith, zero)
      passed_low (inr k) =
          let one : k.0 < (version_of t).log_from = (((opens.takes told).log.passed_are k.0).0 k.1).1 in
          let is = k.2 in
          let from = below.log_from in
          omega (arith, one, is, from)

      numbered : (records : List Record) → AllByRecursion (λ b. b.number < n) (map batch_read records) → AllByRecursion (λ k. k < n) (map (λ (x : Record). x.number) records)
      numbered [] h = tt
      numbered (x ∷ records) h = (h.0, numbered records h.1)

      -- each record that is read counts
      from_on : (records : List Record) → ((k : ℕ) → Contains (map (λ (x : Record). x.number) records) k → (version_of t).log_from ≤ k) → AllByRecursion (λ b. (version_of t).log_from ≤ b.number) (map batch_read records)
      from_on [] high = tt
      from_on (x ∷ records) high = (high x.number (0, omega arith, refl), from_on records (λ k there. high k (Contains-append_right (x.number ∷ []) (map (λ (y : Record). y.number) records) k there)))

      all_count : AllByRecursion (λ b. b.number < n) (map batch_read opens.records)
      all_count = subst (AllByRecursion (λ (b : Batch). b.number < n)) (since_all (version_of t).log_from (map batch_read opens.records) (from_on opens.records (λ k there. (((opens.takes told).log.read_are k).0 there).1))) below.records

      record_low : IsJustAbove opens.replays.least (map (λ (x : Record). x.number) opens.records) → opens.replays.least ≤ n
      record_low (inl zero) = omega (arith, zero)
      record_low (inr k) =
          let names = map (λ (x : Record). x.number) opens.records in
          let one = All-contains (λ j. j < n) names k.0 (All-from_recursion (λ j. j < n) names (numbered opens.records all_count)) k.1 in
          let is = k.2 in
          omega (arith, one, is)

  -- an opening takes no tables with a number of 2^63 or more
  tables_low : (c : Option (List ℕ)) → (world store).gives current_name ≡ c → above (held (placed_of (version_of t).levels)) ≤ 2 ^ 63
  tables_low None none = subst (λ (v : SeenVersion). above (held (placed_of v.levels)) ≤ 2 ^ 63) (sym ((opens.takes told).fresh none)) (none_low (omega arith))
    where
      none_low : 0 ≤ 2 ^ 63 → above (held (placed_of first_version.levels)) ≤ 2 ^ 63
      none_low le = le
  tables_low (Some bytes) some = found_low (version_of t).levels ((opens.next told).found (subst (λ (o : Option (List ℕ)). IsSome o) (sym some) refl)).1.small

  -- and no record has such a name
  all_low : AllByRecursion (λ b. b.number < 2 ^ 63) (counted (image_read (version_of t) opens.records)) → IsSmall (image_read (version_of t) opens.records)
  all_low named =
      let image = image_read (version_of t) opens.records in
      let records = entries_in (counted image) in
      let low : AllByRecursion (λ (e : Entry). e.key.seqno < 2 ^ 63) records = each_entries (λ n. n < 2 ^ 63) (counted image) named in
      let over : above (reverse records) ≤ 2 ^ 63 = above_each (2 ^ 63) (reverse records) (each_reverse (λ (e : Entry). e.key.seqno < 2 ^ 63) records low) in
      let tables : above (held image.tables) ≤ 2 ^ 63 = tables_low ((world store).gives current_name) refl in
      let all : above (opened_by image) ≡ max (above (reverse records)) (above (held image.tables)) = above-append (reverse records) (held image.tables) in
      omega (arith, over, tables, all)

  abbrev IsNamed : Batch → Type 0
  IsNamed b = b.number < 2 ^ 63

  tree_stands : IsImage (world store).may (world store).gives → CanBeRead (world store) → StandsLogged world (image_read (version_of t) opens.records) nothing t
  tree_stands one may =
      let gives = (world store).gives in
      let stands : LogStands (image_read (version_of t) opens.records) = (may.stands gives one).reads (version_of t) opens.records reads in
      let again = opens.reopens told stands (may.settles gives (version_of t) one reads.version) in
      let r = again.reopened in
      record {
        log = again.first;
        came = record {
          stands = stands;
          first = again.first;
          reopened = r;
          acts = [];
          done = refl;
          order = tt;
          past_is = past_eq again.first nothing r.journal r.notes r.reached r.lost;
          certain = λ known. (r.others, r.lost);
        };
        is = again.is;
        keeps = again.keeps;
        next = again.next;
        under = reopened_under (image_read (version_of t) opens.records) again.first t.core.seqno r;
        stored = opens.stored told may.ready;
        apart = subst AreApart (sym (ap versions_left opens.replays.core)) (one_apart (version_of t));
        small = record { before = all_low (subst (AllByRecursion IsNamed) r.records (each_left IsNamed again.first.records (lost_of again.first.lost) again.keeps.small)); written = tt; doubtful = tt };
      }

  pub opened_stands : IsImage (world store).may (world store).gives → CanBeRead (world store) → StandsWithJobs world (image_read (version_of t) opens.records) (called (at_first t) nothing)
  opened_stands one may = record { tree = tree_stands one may; waits = first_waiting nothing }

-- ---- a life

module _ {S : Type 0} (world : S → World) where
  -- of stores what is so of the stages on them
  abbrev store_stage : CalledStage (LogStage S) → CalledStage S
  store_stage s = record { at = s.at.tree.store; past = s.past; counter = s.counter }

  stage_of : (opened : List Entry) (start : Map) (s : CalledStage (LogStage S)) → StageKeeps (λ st. world st.tree.store) opened start s → StageKeeps world opened start (store_stage s)
  stage_of opened start s k = record { now = k.now; whole = k.whole; again = k.again; small = k.small }

  kills_of : (old new : LogStage S) → LeavesReady LogMayBeOpened (λ (st : LogStage S). world st.tree.store) old new → LeavesReady LogMayBeOpened world old.tree.store new.tree.store
  kills_of old new kills cut ends =
      let t : SeenLogged S = record { store = cut; core = old.tree.core; numbers = old.tree.numbers; doubted = old.tree.doubted } in
      kills (record { tree = t; jobs = old.jobs }) (record { each = ends.each; gives = ends.gives })

  -- the stages that stores tell
  abbrev stages_of : List (LogStage S) → List LogPast → List (CalledStage S)
  stages_of [] pasts = []
  stages_of (st ∷ stages) [] = store_stage (called st nothing) ∷ stages_of stages []
  stages_of (st ∷ stages) (past ∷ pasts) = store_stage (called st past) ∷ stages_of stages pasts

  last_store : (old : LogStage S) (counter : ℕ) (past : LogPast) (stages : List (LogStage S)) (pasts : List LogPast) → (last_of (record { at = old.tree.store; past = past; counter = counter }) (stages_of stages pasts)).at ≡ (last_of old stages).tree.store
  last_store old counter past [] pasts = refl
  last_store old counter past (st ∷ stages) [] = last_store st st.tree.core.seqno nothing stages []
  last_store old counter past (st ∷ stages) (p ∷ pasts) = last_store st st.tree.core.seqno p stages pasts

  each_keeps : (strategies : Strategies) (May : Drops) → AllowsDrops May strategies → (image : LogImage) (steps : List LogStep) (replies : List Reply) (old : CalledStage (LogStage S)) (stages : List (LogStage S)) (pasts : List LogPast) → EachHolds (StandsWithJobs world image) strategies world image steps replies old stages pasts
      → EachKeeps May world (opened_by image) (logged image) steps replies (store_stage old) (stages_of stages pasts)
  each_keeps strategies May allows image [] [] old [] [] each = tt
  each_keeps strategies May allows image (x ∷ steps) (r ∷ replies) old (st ∷ stages) (past ∷ pasts) each = λ tried.
      let one = each tried in
      let k = one.0.keeps in (
        record {
          adds = adds_more (DropsBy strategies old.at.tree.core x) (MayDropBy May x) (drops_allowed strategies May allows old.at.tree.core x) old.counter x r old.past past k.adds;
          draws = k.draws;
          answers = k.answers;
          reason = k.reason;
          cause = k.cause;
          inside = k.inside;
          kills = kills_of old.at st k.kills;
          then = stage_of (opened_by image) (logged image) (called st past) k.then;
        },
        each_keeps strategies May allows image steps replies (called st past) stages pasts one.1,
      )
  each_keeps strategies May allows image [] [] old [] (past ∷ pasts) each = absurd each
  each_keeps strategies May allows image [] [] old (st ∷ stages) pasts each = absurd each
  each_keeps strategies May allows image [] (r ∷ replies) old stages pasts each = absurd each
  each_keeps strategies May allows image (x ∷ steps) [] old stages pasts each = absurd each
  each_keeps strategies May allows image (x ∷ steps) (r ∷ replies) old [] pasts each = absurd each
  each_keeps strategies May allows image (x ∷ steps) (r ∷ replies) old (st ∷ stages) [] each = absurd each

  pub lived : (strategies : Strategies) (May : Drops) → AllowsDrops May strategies → (tells : Type 0) (told : tells) (store : S) (config : Config) (t : SeenLogged S) (opens : OpensLogged tells world store config t) (steps : List LogStep) (replies : List Reply) (new : SeenLogged S)
      → LeavesAsBefore (world store) (world t.store) → (world t.store).failures ≡ (world store).failures → t.core.seqno < 2 ^ 64 → StandsWithJobs world (image_read (version_of t) opens.records) (called (at_first t) nothing) → RunsWhole tells strategies world steps replies t new → LivesLogged May world config.seqno steps replies store new.store
  lived strategies May allows tells told store config t opens steps replies new opening quiet fits stands run =
      let image = image_read (version_of t) opens.records in
      let journal = ap (λ (p : LogPast). p.journal) stands.tree.came.past_is in
      let low : above (opened_by image) ≤ t.core.seqno = subst (λ j. next_number (opened_by image) j ≤ t.core.seqno) journal stands.tree.next.above_journal in
      let holds = run.run.holds told image nothing stands in
      let stages = run.run.through.stages in
      record {
        version = version_of t;
        records = opens.records;
        read = reads tells world store config t opens told;
        first = t.store;
        counter = t.core.seqno;
        above_found = low;
        starts = λ n below. starts_low tells world store config t opens told n below;
        fits = fits;
        opening = opening;
        quiet = quiet;
        stages = stages_of stages holds.pasts;
        ends = last_store (at_first t) t.core.seqno nothing stages holds.pasts ∙ ap (λ (st : LogStage S). st.tree.store) run.run.through.ends ∙ sym run.closes.rest.store;
        begins = stage_of (opened_by image) (logged image) (called (at_first t) nothing) holds.first;
        keeps = each_keeps strategies May allows image steps replies (called (at_first t) nothing) stages holds.pasts holds.each;
      }
