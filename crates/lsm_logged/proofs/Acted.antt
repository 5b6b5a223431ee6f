-- A write of a logged tree is an act of the theory.
use Rattle.std.proofs.Common.{◌≡◌, ◌≢◌, ◌⊎◌, ⊎_elim, inl, inr, ℕ, ◌<◌, ◌^◌, Bool, true, false, ◌||◌, List, [], ◌∷◌, ◌++◌, map, length, cond, Option, Some, None, option_to_list, Result, Ok, Err, IsErrOf, IsSome, Contains, refl, sym, ap, ◌∙◌, subst, arith}
use Rattle.std.specs.Option.{is_some}
use Rattle.std.specs.List.{AllByRecursion, list_any}
use Rattle.lsm_below.specs.Keys.{Bytes, is_same}
use Rattle.lsm_below.specs.Entries.{Entry}
use Rattle.lsm_below.specs.Numbers.{PlainNumbersAreRead}
use Rattle.std.proofs.lemmas.Bool.Decides.{nat_tests}
use Rattle.std.proofs.lemmas.List.Elements.{Contains-append_left, Contains-append_right}
use Rattle.lsm_below.specs.declared.error.Error.{Error}
use Rattle.lsm_below.specs.declared.error.Error.TheVariants.{CommitUnknown, Unrecoverable, OutOfNumbers, KeyTooLong, ValueTooLong, DuplicateKey}
use Rattle.lsm_store.specs.World.{Image, World, Row, Only, OldOr, Same, LeavesOnly}
use Rattle.lsm_store.specs.Moments.{weakened, rests, same_or_not, same_none}
use Rattle.lsm_model.specs.Journal.{Event, InOrder}
use Rattle.lsm_model.specs.Views.{EachPair, HasDistinctIds}
use Rattle.lsm_model.specs.Steps.{Wrote}
use Rattle.lsm_model.specs.Beginnings.{Note, Saved, Deeds, Done}
use Rattle.lsm_model.specs.Ops.{op_entries, op_value, keys_of, repeats}
use Rattle.lsm_model.specs.declared.op.Op.{Op}
use Rattle.lsm_model.specs.declared.journal.JournalEntry.TheVariants.{Write}
use Rattle.lsm_model.proofs.DeedReads.{writes}
use Rattle.lsm_versions.specs.Levels.{placed_of}
use Rattle.lsm_commit.specs.Foreign.{KeepsForeign, Passes}
use Rattle.lsm_log.specs.LogNames.{record_name}
use Rattle.lsm_log.specs.Records.{IsRecordOf}
use Rattle.lsm_log.specs.Changes.{IsPut}
use Rattle.lsm_log_model.specs.Records.{Batch}
use Rattle.lsm_log_model.specs.Logs.{Logged as Log, MayBeDrawn, IsCertain, Batched, BatchLost}
use Rattle.lsm_state.specs.Core.{Core, latest_of, state_of, written_all, drawn_core}
use Rattle.lsm_state.specs.Commits.{counted, UpholdsFiles, Upholds}
use Rattle.lsm_state.specs.Deeds.{saved_of, IsMarkDeed}
use Rattle.lsm_state.specs.Kept.{IsKeptTree}
use Rattle.lsm_state.specs.Flushes.{spent}
use Rattle.lsm_state.specs.Calls.{IsWriteRun}
use Rattle.lsm_state.specs.Recording.{HasPut, WritesBehindRecord, RecordsBatch}
use Rattle.lsm_state.specs.Refusals.{is_great, is_long_key, is_long_value, batch_refusal}
use Rattle.lsm_logged.specs.Keeping.{SeenLogged, is_unsure, IsLogOf, KeepsLog, IsLogIn, AreKnown}
use Rattle.lsm_logged.specs.Removing.{log_from_of}
use Rattle.lsm_logged.specs.Acting.{LeadsBy}
use Rattle.lsm_logged.specs.Writing.{leaves_doubt, with_number, WritesLogged, Leads, WritesAct, batch_of}
use Rattle.lsm_logged.proofs.LogNames.{apart}
use Rattle.lsm_logged.proofs.Led.{none_left, leads_nowhere}
use Rattle.lsm_logged.proofs.Left.{beside_versions}
use Rattle.lsm_logged.proofs.Keeping.{narrower, with_record, with_doubt, was_absent}

-- ---- keys

pub neither : (a b : Bool) → (a || b) ≡ false → (a ≡ false) × (b ≡ false)
neither true b h = absurd (cc h)
neither false b h = (refl, h)

pub distinct_keys : (ops : List (Bytes × Op)) → repeats (keys_of ops) ≡ false → EachPair (λ p q. is_same p.0 q.0 ≡ false) ops
distinct_keys [] h = tt
distinct_keys (p ∷ ops) h =
    let two = neither (list_any (is_same p.0) (keys_of ops)) (repeats (keys_of ops)) h in
    (each ops two.0, distinct_keys ops two.1)
  where
    each : (qs : List (Bytes × Op)) → list_any (is_same p.0) (keys_of qs) ≡ false → AllByRecursion (λ q. is_same p.0 q.0 ≡ false) qs
    each [] none = tt
    each (q ∷ qs) none = let two = neither (is_same p.0 q.0) (list_any (is_same p.0) (keys_of qs)) none in (two.0, each qs two.1)

-- ---- deeds

-- where nothing was done foreign names are as they were
passes_same : (w w' : World) → Passes w w → Same w w' → Passes w w'
passes_same w w' rest same = record { gives = λ n foreign. same.gives n; may = λ n c foreign m. (same.may n c).0 m; leaves = rests w w w' (KeepsForeign w) rest.leaves same }

-- ---- acts

module _ (read : PlainNumbersAreRead) (w w' : World) (opened : List Entry) (journal : List Event) (notes : List Note) (ops : List (Bytes × Op)) (old : Core) (doubted : Bool) (t : Log)
    (is : IsLogOf journal notes old doubted t) (keeps : KeepsLog w t) (next : MayBeDrawn opened t old.seqno)
    (sure : doubted ≡ false) (none : old.lost ≡ None) (once : repeats (keys_of ops) ≡ false) (small : old.seqno < 2 ^ 63)
    (bytes : Bytes) (record_of : IsRecordOf old.seqno ops bytes) where
  abbrev b : Batch
  b = batch_of old.seqno ops

  abbrev es : List Entry
  es = op_entries old.seqno ops

  abbrev name : List ℕ
  name = record_name old.seqno

  certain : IsCertain t
  certain = (
    ap (λ s. s.others) is.tree ∙ ap (λ l. map (λ v. placed_of v.levels) (option_to_list l)) none,
    none_left t.lost (is.doubt ∙ sure),
  )

  -- what stood before, in an image
  before : (image : Image) → ((n : List ℕ) → w.may n (image n)) → IsLogIn t image
  before image all = narrower t w.may (λ n c. c ≡ image n) (λ n c e. subst (w.may n) (sym e) (all n)) keeps

  all_may : (image : Image) → IsPut old.seqno bytes w image → w.may name (image name) → (n : List ℕ) → w.may n (image n)
  all_may image put here n = ⊎_elim (λ (e : n ≡ name). subst (λ m. w.may m (image m)) (sym e) here) (λ (other : n ≢ name). put.elsewhere n other) (same_or_not n name)

  -- the record is put
  pub written : HasPut old.seqno bytes (Only (Some bytes)) w w' → HasDistinctIds (latest_of old).tables → IsWriteRun es old (drawn_core (written_all es old)) → UpholdsFiles w w' old (drawn_core (written_all es old))
      → Leads opened (journal ++ map Write es) notes t (Batched b) old (drawn_core (written_all es old)) doubted w w'
  written put distinct run files =
      let new = drawn_core (written_all es old) in
      let tree = saved_of (journal ++ map Write es) notes new in
      let reached = length (journal ++ map Write es) in
      let log : Log = record t { tree = tree; records = t.records ++ b ∷ []; reached = reached } in
      let logs : LeavesOnly w w' (λ image. IsLogIn t image ⊎ IsLogIn log image) = weakened w w' (IsPut old.seqno bytes w) (λ image. IsLogIn t image ⊎ IsLogIn log image) put.any_moment
      (λ image left. ⊎_elim
      (λ (here : w.may name (image name)). inl (before image (all_may image left here)))
      (λ (has : image name ≡ Some bytes). inr (with_record read t b small next.above_records certain.1 w.may (λ n c. c ≡ image n) (λ n c other e. subst (w.may n) (sym e) (left.elsewhere n other)) keeps tree reached (λ c e. (bytes, e ∙ has, record_of))))
      left.here) in
      let deeds : Deeds opened t.tree (map (λ e. Done (Wrote e)) es) tree = subst (λ s. Deeds opened s (map (λ e. Done (Wrote e)) es) tree) (sym is.tree) (writes opened es (saved_of journal notes old) (state_of (journal ++ map Write es) new) (run opened journal) distinct) in
      record {
        log = log;
        acts = record { certain = certain; distinct = distinct_keys ops once; drawn = next; writes = deeds; rest = refl };
        is = record { tree = refl; from = is.from; other = is.other; doubt = is.doubt };
        keeps = with_record read t b small next.above_records certain.1 w.may w'.may (λ n c other may. (put.leaves.elsewhere n c other).0 may) keeps tree reached (λ c may. (bytes, (put.leaves.here c).0 may, record_of));
        moments = logs;
        versions = λ stored. beside_versions w w' old new t log refl (files stored).1 logs;
      }

  -- whether it is put isn't known
  pub lost : HasPut old.seqno bytes (OldOr (w.may name) (Some bytes)) w w' → InOrder opened (journal ++ map Write es) → UpholdsFiles w w' old (counted old) → Leads opened journal notes t (BatchLost b) old (counted old) true w w'
  lost put order files =
      let place = length t.tree.state.journal in
      let log : Log = record t { lost = Some (record { batch = b; place = place }) } in
      let logs : LeavesOnly w w' (λ image. IsLogIn t image ⊎ IsLogIn log image) = weakened w w' (IsPut old.seqno bytes w) (λ image. IsLogIn t image ⊎ IsLogIn log image) put.any_moment
      (λ image left. ⊎_elim
      (λ (here : w.may name (image name)). inl (before image (all_may image left here)))
      (λ (has : image name ≡ Some bytes). inr (with_doubt read t b small next.above_records certain.1 w.may (λ n c. c ≡ image n) (λ n c other e. subst (w.may n) (sym e) (left.elsewhere n other)) keeps place (λ c e. inr (bytes, e ∙ has, record_of))))
      left.here) in
      let gone = was_absent read t b small next.above_records certain.1 w.may w.may (λ n c other may. may) keeps next.above_version in
      record {
        log = log;
        acts = record { certain = certain; distinct = distinct_keys ops once; drawn = next; order = subst (λ j. InOrder opened (j ++ map Write es)) (sym (ap (λ s. s.state.journal) is.tree)) order; rest = refl };
        is = record { tree = is.tree; from = is.from; other = is.other; doubt = refl };
        keeps = with_doubt read t b small next.above_records certain.1 w.may w'.may (λ n c other may. (put.leaves.elsewhere n c other).0 may) keeps place
            (λ c may. ⊎_elim (λ (was : w.may name c). inl (gone c was)) (λ (has : c ≡ Some bytes). inr (bytes, has, record_of)) ((put.leaves.here c).0 may));
        moments = logs;
        versions = λ stored. beside_versions w w' old (counted old) t log refl (files stored).1 logs;
      }

-- the tables of a tree's latest version have ids of their own
pub own_tables : ((w n : ℕ) (c : Core) → IsKeptTree c → IsMarkDeed w c (spent n c)) → (c : Core) → IsKeptTree c → HasDistinctIds (latest_of c).tables
own_tables spends c kept =
    let d = spends 0 0 c kept [] [] [] in
    subst (λ (t : Saved). HasDistinctIds t.state.latest.tables) (sym d.2) d.1.distinct

-- ---- what is answered

four_tests : (a b c d : Bool) → cond a (Some OutOfNumbers) (cond b (Some KeyTooLong) (cond c (Some ValueTooLong) (cond d (Some DuplicateKey) None))) ≡ None → (a ≡ false) × (d ≡ false)
four_tests true b c d h = absurd (cc h)
four_tests false true c d h = absurd (cc h)
four_tests false false true d h = absurd (cc h)
four_tests false false false true h = absurd (cc h)
four_tests false false false false h = (refl, refl)

not_great : (n : ℕ) → is_great n ≡ false → n < 2 ^ 63
not_great n h = grind (arith, nat_tests)

-- a batch that isn't refused
free : (n : ℕ) (ops : List (Bytes × Op)) → batch_refusal n ops ≡ None → (n < 2 ^ 63) × (repeats (keys_of ops) ≡ false)
free n ops h =
    let two = four_tests (is_great n) (list_any (λ p. is_long_key p.0) ops) (list_any (λ p. is_long_value (op_value p.1)) ops) (repeats (keys_of ops)) h in
    (not_great n two.0, two.1)

-- an answer that isn't of unknown outcome leaves no doubt
known_answer : (e : Error) → (IsErrOf {T = ℕ} (Err e) CommitUnknown → ⊥) → leaves_doubt (Err e) ≡ false
known_answer CommitUnknown isnt = absurd (isnt refl)
known_answer e isnt = refl

doubtful_answer : (e : Error) → IsErrOf {T = ℕ} (Err e) CommitUnknown → leaves_doubt (Err e) ≡ true
doubtful_answer e is = ap leaves_doubt is

module _ (read : PlainNumbersAreRead) (w w' : World) (ops : List (Bytes × Op)) {S : Type 0} (old new : SeenLogged S) (sure : is_unsure old ≡ false) where
  both : (old.doubted ≡ false) × (is_some old.core.lost ≡ false)
  both = neither old.doubted (is_some old.core.lost) sure

  pub write_acts : (r : Result ℕ Error) → WritesLogged ops r old new → RecordsBatch old.core.seqno ops w w' r → HasDistinctIds (latest_of old.core).tables → UpholdsFiles w w' old.core new.core → Passes w w → WritesAct ops r w w' old new
  write_acts (Ok n) all records distinct files rest opened journal notes t is keeps next =
      let writes = all.tree sure in
      let may = free old.core.seqno ops writes.accepted in
      let put = records.ok in
      let same : new.doubted ≡ old.doubted = all.doubt sure ∙ sym both.0 in
      let journal' = journal ++ map Write (op_entries old.core.seqno ops) in
      let led = written read w w' opened journal notes ops old.core old.doubted t is keeps next both.0 (none_left old.core.lost both.1) may.1 may.0 put.0 put.1 put.2 distinct (subst (IsWriteRun (op_entries old.core.seqno ops) old.core) writes.core writes.run) (subst (UpholdsFiles w w' old.core) writes.core files) in
      record {
        ok = subst (λ d. Leads opened journal' notes t (Batched (batch_of old.core.seqno ops)) old.core new.core d w w') (sym same) (subst (λ c. Leads opened journal' notes t (Batched (batch_of old.core.seqno ops)) old.core c old.doubted w w') (sym writes.core) led);
        unknown = λ e. absurd (cc e);
        refused = tt;
        still = tt;
        number = writes.number;
        drawn = ap (λ c. c.seqno) writes.core;
        used = λ e. absurd (cc e);
      }
  write_acts (Err e) all records distinct files rest opened journal notes t is keeps next =
      let writes = all.tree sure in
      record {
        ok = tt;
        unknown = λ u order.
            let may = free old.core.seqno ops (writes.doubted u) in
            let put = records.unknown u in
            let led = lost read w w' opened journal notes ops old.core old.doubted t is keeps next both.0 (none_left old.core.lost both.1) may.1 may.0 put.0 put.1 put.2 order (subst (UpholdsFiles w w' old.core) (writes.unknown u) files) in
            subst (λ d. Leads opened journal notes t (BatchLost (batch_of old.core.seqno ops)) old.core new.core d w w') (sym (all.doubt sure ∙ doubtful_answer e u)) (subst (λ c. Leads opened journal notes t (BatchLost (batch_of old.core.seqno ops)) old.core c true w w') (sym (writes.unknown u)) led);
        refused = refusal writes.refused records.refused;
        still = ⊎_elim (λ u. inl u) (λ same. inr (stays same.0 same.1 same.2)) (refusal writes.refused records.refused);
        number = tt;
        drawn = tt;
        used = λ u. ap (λ c. c.seqno) (writes.unknown u);
      }
    where
      stays : new.core ≡ old.core → new.doubted ≡ old.doubted → Same w w' → LeadsBy opened journal notes t [] w w' old new
      stays core doubt same =
          leads_nowhere opened journal notes t w w' old new is keeps files doubt (passes_same w w' rest same) (ap (saved_of journal notes) core) (ap log_from_of core) (ap (λ (c : Core). c.lost) core) (let q = ap (λ (c : Core). c.seqno) core in omega (arith, q))

      is_unknown : (y : Error) → IsErrOf {T = ℕ} (Err y) CommitUnknown ⊎ (IsErrOf {T = ℕ} (Err y) CommitUnknown → ⊥)
      is_unknown CommitUnknown = inl refl
      is_unknown y = inr (λ u. absurd (cc u))

      by_error : IsErrOf {T = ℕ} (Err e) CommitUnknown ⊎ (IsErrOf {T = ℕ} (Err e) CommitUnknown → ⊥) → new.core ≡ old.core → Same w w' → IsErrOf {T = ℕ} (Err e) CommitUnknown ⊎ ((new.core ≡ old.core) × (new.doubted ≡ old.doubted) × Same w w')
      by_error (inl u) core same = inl u
      by_error (inr isnt) core same = inr (core, all.doubt sure ∙ known_answer e isnt ∙ sym both.0, same)

      refusal : IsErrOf {T = ℕ} (Err e) CommitUnknown ⊎ (new.core ≡ old.core) → IsErrOf {T = ℕ} (Err e) CommitUnknown ⊎ Same w w' → IsErrOf {T = ℕ} (Err e) CommitUnknown ⊎ ((new.core ≡ old.core) × (new.doubted ≡ old.doubted) × Same w w')
      refusal tree store = ⊎_elim (λ u. inl u) (λ core. ⊎_elim (λ u. inl u) (λ same. by_error (is_unknown e) core same) store) tree

  -- each record that is there is known
  put_known : (number : ℕ) (bytes : Bytes) (row : Row) (numbers : List ℕ) → number < 2 ^ 63 → HasPut number bytes row w w' → AreKnown w numbers → AreKnown w' (numbers ++ number ∷ [])
  put_known number bytes row numbers small put known k low there = by_number (same_or_not (record_name k) (record_name number))
    where
      head_there : (n : ℕ) → Contains (n ∷ []) n
      head_there n = (0, omega arith, refl)

      by_number : (record_name k ≡ record_name number) ⊎ (record_name k ≢ record_name number) → Contains (numbers ++ number ∷ []) k
      by_number (inl e) = Contains-append_right numbers (number ∷ []) k (subst (λ m. Contains (number ∷ []) m) (sym (apart read k number low small e)) (head_there number))
      by_number (inr other) = Contains-append_left numbers (number ∷ []) k (known k low (subst (λ (o : Option (List ℕ)). IsSome o) (put.leaves.gives (record_name k) other) there))

  pub write_known : (r : Result ℕ Error) → WritesLogged ops r old new → RecordsBatch old.core.seqno ops w w' r → AreKnown w old.numbers → AreKnown w' new.numbers
  write_known r all records known = subst (AreKnown w') (sym (all.numbers sure)) (by_answer r (all.tree sure) records)
    where
      by_answer : (r : Result ℕ Error) → WritesBehindRecord ops r old.core new.core → RecordsBatch old.core.seqno ops w w' r → AreKnown w' (with_number r old.core.seqno old.numbers)
      by_answer (Ok n) did records = put_known old.core.seqno records.ok.0 (Only (Some records.ok.0)) old.numbers (free old.core.seqno ops did.accepted).0 records.ok.2 known
      by_answer (Err CommitUnknown) did records =
          let put = records.unknown refl in
          put_known old.core.seqno put.0 (OldOr (w.may (record_name old.core.seqno)) (Some put.0)) old.numbers (free old.core.seqno ops (did.doubted refl)).0 put.2 known
      by_answer (Err e) did records = ⊎_elim (λ u. absurd (cc u)) (λ same. λ k low there. known k low (subst (λ (o : Option (List ℕ)). IsSome o) (same.gives (record_name k)) there)) records.refused

-- ---- where an outcome is unknown

pub nothing_done : {S : Type 0} (w : World) (ops : List (Bytes × Op)) (old : SeenLogged S) → Upholds w w old.core old.core → WritesAct ops (Err Unrecoverable) w w old old
nothing_done w ops old still opened journal notes t is keeps next = record {
  ok = tt;
  unknown = λ u. absurd (cc u);
  refused = inr (refl, refl, same_none w);
  still = inr (leads_nowhere opened journal notes t w w old old is keeps still.files refl still.passes refl refl refl (omega arith));
  number = tt;
  drawn = tt;
  used = λ u. absurd (cc u);
}
