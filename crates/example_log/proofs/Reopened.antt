-- What a tree with one batch is once it is opened again on what a crash left of it.
use Rattle.std.proofs.Common.{◌≡◌, ⊎_elim, inl, ℕ, ◌+◌, ◌<◌, ◌≤◌, true, List, [], ◌∷◌, ◌++◌, map, reverse, Option, Some, None, IsSome, refl, sym, ap, ◌∙◌, subst, arith}
use Rattle.std.specs.FinMap.{empty, get}
use Rattle.std.specs.Option.{option_to_list}
use Rattle.std.specs.List.{AllByRecursion}
use Rattle.std.proofs.lemmas.List.Elements.{All-contains}
use Rattle.lsm_logged.specs.Entries.{Entry, above}
use Rattle.lsm_logged.specs.Keys.{Bytes}
use Rattle.lsm_logged.specs.Members.{IsIn}
use Rattle.lsm_logged.specs.World.{Image, World, IsImage}
use Rattle.lsm_logged.specs.Beginnings.{Saved, beginning, is_spared}
use Rattle.lsm_logged.specs.Journal.{InOrder, replay}
use Rattle.lsm_logged.specs.Ops.{op_entries}
use Rattle.lsm_logged.specs.Steps.{ReadsEqualReplay}
use Rattle.lsm_logged.specs.Views.{SuperVersion, found_at, held, shown, sources, walk}
use Rattle.lsm_logged.specs.Op.{Op}
use Rattle.lsm_logged.specs.JournalEntry.TheVariants.{Write}
use Rattle.lsm_model.proofs.Above.{above_each}
use Rattle.lsm_logged.specs.Config.{Config}
use Rattle.lsm_logged.specs.Levels.{SeenVersion, empty_levels, placed_of}
use Rattle.lsm_logged.specs.Finding.{Finds}
use Rattle.lsm_logged.specs.Names.{current_name}
use Rattle.lsm_logged.specs.Standing.{StandsFor}
use Rattle.lsm_logged.specs.Versions.{named_levels}
use Rattle.lsm_logged.specs.Foreign.{AtRest}
use Rattle.lsm_logged.specs.Stored.{IsStored, HoldsOneOf}
use Rattle.lsm_logged.specs.Record.{Record}
use Rattle.lsm_logged.specs.Joins.{LogStaysSound}
use Rattle.lsm_logged.specs.Logs.{Logged as Log, LostBatch, LogIsSound, IsCertain, HasRecords, MayLeave, Batched, AllActs}
use Rattle.lsm_logged.specs.Records.{Batch, LogImage, LogStands, counted, entries_in, logged, opened_by, since}
use Rattle.lsm_logged.specs.Recovery.{EveryCrashKeepsBatches, WholeIsLogged, LoggedReadsRight}
use Rattle.lsm_logged.specs.Replays.{ReplaysAreInOrder, TablesAloneStand}
use Rattle.lsm_log_model.proofs.Batches.{each_entry, each_entries, each_reverse, since_each}
use Rattle.lsm_log_model.proofs.High.{found_latest}
use Rattle.lsm_log_model.proofs.Stacks.{above-append}
use Rattle.lsm_logged.specs.Calls.{Gives}
use Rattle.lsm_logged.specs.Core.{Core, latest_of, older_of, state_of, versions_left, written_of}
use Rattle.lsm_logged.specs.Deeds.{saved_of}
use Rattle.lsm_logged.specs.Held.{entries_of}
use Rattle.lsm_logged.specs.Images.{RecordsAreThoseRead, CountedAreRead, VersionIsToldOnce}
use Rattle.lsm_logged.specs.Keeping.{SeenLogged, KeepsLog, IsLogIn}
use Rattle.lsm_logged.specs.Meanwhile.{log_is_read}
use Rattle.lsm_logged.specs.Opening.{OpensLogged, CanBeSettled, IsReopenedLog, image_read, version_of}
use Rattle.lsm_logged.specs.Writing.{batch_of}
use Rattle.example_log.specs.Kept.{HoldsBatch}
use Rattle.example_log.specs.Written.{HasOne, fresh_image}
use Rattle.example_log.proofs.Acknowledged.{fresh_stands}
use Rattle.example_log.proofs.Batches.{in_order, spared_writes, replay_writes}

module _ {S : Type 0} (world : S → World) (ops : List (Bytes × Op)) (c : Core) (w : World) (one : HasOne ops c w) (stored : IsStored w (versions_left c) (written_of c)) (rest : AtRest w)
    (left : S) (config : Config) (t : SeenLogged S) (opens : OpensLogged (Unit {0}) world left config t) (found : IsSome ((world left).gives current_name) → Finds (world left).gives (version_of t).levels)
    (may : IsImage w.may (world left).gives) (now : w.since w.moment (world left).gives)
    (tables : TablesAloneStand) (replays : ReplaysAreInOrder) (told_once : VersionIsToldOnce) (have_log : (log : Log) (image : Image) → KeepsLog w log → IsImage w.may image → IsLogIn log image) (those_read : RecordsAreThoseRead) (are_read : CountedAreRead) (stays_sound : LogStaysSound) (recovers : EveryCrashKeepsBatches) (whole : WholeIsLogged) (right : LoggedReadsRight) where
  abbrev image : Image
  image = (world left).gives

  abbrev b : Batch
  b = batch_of one.number ops

  abbrev es : List Entry
  es = op_entries one.number ops

  abbrev log : Log
  log = one.log

  abbrev acts : AllActs [] one.first (Batched b ∷ []) log
  acts = (log, one.act, refl)

  -- ---- what was there

  records : log.records ≡ b ∷ []
  records = ap (λ (l : Log). l.records) one.act.rest ∙ ap (λ bs. bs ++ b ∷ []) one.reopened.records

  none_lost : log.lost ≡ None
  none_lost = ap (λ (l : Log). l.lost) one.act.rest ∙ one.reopened.lost

  journal : log.tree.state.journal ≡ map Write es
  journal = ap (λ (s : Saved). s.state.journal) one.is.tree

  order : InOrder [] log.tree.state.journal
  order = subst (InOrder []) (sym journal) (in_order replays b one.act.distinct)

  stands : LogStands (fresh_image one.from)
  stands = fresh_stands tables one.from

  certain : IsCertain log
  certain = (ap (λ (s : Saved). s.others) one.is.tree ∙ ap (λ l. map (λ (v : SeenVersion). placed_of v.levels) (option_to_list l)) one.certain, none_lost)

  sound : LogIsSound log
  sound = stays_sound (fresh_image one.from) one.first log (Batched b ∷ []) stands one.reopened acts order

  -- ---- what is left of it

  kept : IsLogIn log image
  kept = have_log log image one.keeps may

  holds : HoldsOneOf (versions_left c) image
  holds = (rest.leaves (versions_left c) (written_of c) stored).each image now

  abbrev u : SeenVersion
  u = holds.0

  abbrev v : SeenVersion
  v = version_of t

  is_u : c.history.latest.version ≡ u
  is_u = ⊎_elim (λ e. e) (λ no. absurd no) (subst (IsIn u) (ap (λ l. c.history.latest.version ∷ option_to_list l) one.certain) holds.1)

  stands_u : StandsFor image u.id (named_levels u.levels) u.levels
  stands_u = holds.2

  there : IsSome (image current_name)
  there = subst (λ (o : Option (List ℕ)). IsSome o) (sym stands_u.named.current) refl

  same_version : (u.levels ≡ v.levels) × (u.log_from ≡ v.log_from)
  same_version = told_once (versions_left c) image v holds (found there) ((opens.takes tt).version there)

  log_from : log.log_from ≡ v.log_from
  log_from = one.is.from ∙ ap (λ (x : SeenVersion). x.log_from) is_u ∙ same_version.1

  same_levels : c.history.latest.version.levels ≡ v.levels
  same_levels = ap (λ (x : SeenVersion). x.levels) is_u ∙ same_version.0

  no_tables : v.levels ≡ empty_levels
  no_tables = sym same_levels ∙ one.levels

  abbrev image2 : LogImage
  image2 = image_read v opens.records

  low : log.log_from ≤ v.log_from
  low = let e = log_from in omega (arith, e)

  has : HasRecords image2 log
  has = those_read image (placed_of v.levels) v.log_from opens.records log (log_is_read image v.log_from opens.passed opens.records (opens.takes tt).log) kept low sound

  is_left : MayLeave log image2
  is_left = record {
    version = inl (ap placed_of (sym same_levels) ∙ sym (ap (λ (s : Saved). s.state.latest.tables) one.is.tree), sym log_from);
    records = has;
  }

  -- ---- what is opened

  stands2 : LogStands image2
  stands2 = (recovers (fresh_image one.from) one.first log log (Batched b ∷ []) [] stands one.reopened acts refl order image2 is_left).stands

  module _ (settles : (n : ℕ) → log.log_from ≤ n → CanBeSettled (world left) n) where
    again : IsReopenedLog image2 t (world t.store)
    again = opens.reopens tt stands2 (settles v.log_from low)

    shows : (k : Bytes) → get (logged image2) k ≡ get (beginning empty (map Write es)) k
    shows k =
        whole (fresh_image one.from) one.first log (Batched b ∷ []) stands one.reopened acts order certain image2 is_left k (subst (λ j. is_spared k j [] ≡ true) (sym journal) (spared_writes k es))
        ∙ ap (λ j. get (beginning empty j) k) journal

    tree : again.first.tree ≡ saved_of [] [] t.core
    tree = again.is.tree

    reads : ReadsEqualReplay (opened_by image2) (logged image2) (state_of [] t.core)
    reads = subst (λ (s : Saved). ReadsEqualReplay (opened_by image2) (logged image2) s.state) tree
        (right image2 again.first again.first [] stands2 again.reopened refl (subst (InOrder (opened_by image2)) (sym again.reopened.journal) tt)).1

    number : (latest_of t.core).number ≡ 0
    number = sym (ap (λ (s : Saved). s.state.latest.number) tree) ∙ again.reopened.number

    -- all numbers in the records that count are the batch's
    one_number : AllByRecursion (λ x. x.number < one.number + 1) (counted image2)
    one_number = ⊎_elim
        (λ (e : counted image2 ≡ since v.log_from log.records). subst (AllByRecursion (λ (x : Batch). x.number < one.number + 1)) (sym e) (since_each (λ x. x.number < one.number + 1) v.log_from log.records (subst (AllByRecursion (λ (x : Batch). x.number < one.number + 1)) (sym records) (omega arith, tt))))
        (λ (z : (l : LostBatch) × (log.lost ≡ Some l) × (counted image2 ≡ since v.log_from (log.records ++ l.batch ∷ []))). absurd (cc (sym none_lost ∙ z.1)))
        has

    above_all : above (opened_by image2) ≤ one.number + 1
    above_all =
        let front = reverse (entries_in (counted image2)) in
        let a = above-append front (held image2.tables) in
        let r = above_each (one.number + 1) front (each_reverse (λ e. e.key.seqno < one.number + 1) (entries_in (counted image2)) (each_entries (λ m. m < one.number + 1) (counted image2) one_number)) in
        let e : above (held (placed_of v.levels)) ≡ 0 = ap (λ ls. above (held (placed_of ls))) no_tables in
        omega (arith, a, r, e)

    pub holds_batch : HoldsBatch ops t.core
    holds_batch = record { number = one.number; visible = visible; gets = gets }
      where
        visible : one.number < t.core.visible_seqno
        visible =
            let low_first : one.first.log_from ≤ one.number = one.act.drawn.above_version in
            let same = ap (λ (l : Log). l.log_from) one.act.rest in
            let e = log_from in
            let has_number = are_read image v.log_from opens.records log (log_is_read image v.log_from opens.passed opens.records (opens.takes tt).log) kept b (subst (IsIn b) (sym records) (inl refl)) (omega (arith, low_first, same, e)) in
            let lt = All-contains (λ k. k < opens.replays.least) (map (λ (r : Record). r.number) opens.records) one.number opens.replays.above_records.below has_number in
            let is = ap (λ (x : Core). x.visible_seqno) opens.replays.core in
            omega (arith, lt, is)

        gets : (s : ℕ) → one.number < s → (k : Bytes) (x : Option Bytes) → Gives t.core k s x → x ≡ get (replay empty (map Write es) s) k
        gets s lt k x gives =
            let latest = latest_of t.core in
            let mems = entries_of t.core.memtables in
            let n = number in
            let h = above_all in
            let at : found_at s latest (older_of t.core) ≡ Some latest = found_latest s latest (older_of t.core) (omega (arith, n, lt)) in
            let same : latest ≡ gives.0 = cc (sym at ∙ gives.1) in
            gives.2
            ∙ sym (ap (λ (sv : SuperVersion). shown (walk k s (sources mems sv))) same)
            ∙ ap shown (reads.walks k s).0
            ∙ sym (reads.tops k s).0
            ∙ reads.views s latest (omega (arith, h, lt)) at k refl
            ∙ shows k
            ∙ sym (ap (λ m. get m k) (replay_writes s empty es (each_entry (λ m. m < s) b lt)))
