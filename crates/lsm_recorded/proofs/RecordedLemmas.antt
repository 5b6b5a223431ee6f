-- What each call keeps of a tree with its journal.
use Rattle.std.proofs.Common.{cond, ◌≡◌, ℕ, ◌+◌, ◌<◌, ◌≤◌, Bool, true, false, List, [], ◌∷◌, ◌++◌, Option, Some, None, Result, Ok, Err, IfOk, IfErr, inl, inr, OnOk, OnErr, IsErrOf, ◌↔◌, map, refl, sym, ap, ◌∙◌, subst, arith, ◌⊎◌, ⊎_elim, is_some, IfSome, append-nil, append_assoc}
use Rattle.std.specs.BTreeMap.{BTreeMap}
use Rattle.std.specs.FinMap.{get}
use Rattle.std.specs.List.{list_any, list_all, AllByRecursion}
use Rattle.std.proofs.lemmas.Bool.Decides.{nat_tests}
use Rattle.std.proofs.lemmas.Grind.{fold-append}
use Rattle.lsm_below.specs.declared.value_type.ValueType.TheVariants.{Value, Tombstone, WeakTombstone}
use Rattle.lsm_below.specs.Keys.{Bytes}
use Rattle.lsm_below.specs.Entries.{Entry, plain, kept_value, above}
use Rattle.lsm_model.specs.Soundness.{Soundness}
use Rattle.lsm_model.specs.Journal.{Event, Map, AgreesFrom, ReadAgrees, is_outside, IsKept, replay, next_number_after, floor_after, floor, next_number}
use Rattle.lsm_model.specs.Views.{found_at, Placed, held}
use Rattle.lsm_model.specs.Beginnings.{shown_by}
use Rattle.lsm_model.specs.Steps.{Wrote, Asked, Rotated}
use Rattle.lsm_model.specs.Sound.{Holds}
use Rattle.lsm_model.specs.Ops.{op_entries, repeats, keys_of, op_value}
use Rattle.lsm_model.specs.declared.op.Op.{Op}
use Rattle.lsm_model.specs.declared.journal.JournalEntry.TheVariants.{Write, Read}
use Rattle.lsm_model.specs.declared.question.Question.{Question}
use Rattle.lsm_model.specs.declared.question.Question.TheVariants.{Get}
use Rattle.lsm_model.specs.declared.question.Answer.TheVariants.{Found, Pairs}
use Rattle.lsm_below.specs.declared.error.Error.{Error}
use Rattle.lsm_below.specs.declared.error.Error.TheVariants.{OutOfMemory, OutOfOrder, OutOfNumbers, KeyTooLong, ValueTooLong, DuplicateKey}
use Rattle.lsm_state.specs.Core.{Core, Seen, state_of, latest_of, older_of, written_core}
use Rattle.lsm_state.specs.Calls.{IsWriteStep, IsGetStep, Gives, RefusesRead, Rotates, Appends, WritesBatch}
use Rattle.lsm_state.specs.Ranges.{IsListStep}
use Rattle.lsm_iter.specs.Guards.{Pair, pair_of}
use Rattle.lsm_state.specs.Refusals.{batch_refusal, is_great, is_long_key, is_long_value}
use Rattle.lsm_model.proofs.Journals.{in_order_push}
use Rattle.lsm_recorded.specs.declared.marks.Mark.{Mark}
use Rattle.lsm_recorded.specs.Marks.{mark_of, mark_in, marked_by, marked_all, entry_allowed, op_allowed}
use Rattle.lsm_recorded.specs.Order.{keeps_order, batch_keeps_order}
use Rattle.lsm_recorded.specs.Calls.{ReadsPairs}
use Rattle.lsm_recorded.specs.Recorded.{AreMarked, IsRecorded, OwnOr, Stays, StaysTo}
use Rattle.lsm_recorded.specs.Passes.{Notes}
use Rattle.lsm_recorded.proofs.Watermarks.{same_marked, still_marked}
use Rattle.lsm_recorded.proofs.BatchLemmas.{key_is, seqno_is, not_refused, allowed_order}
use Rattle.lsm_recorded.proofs.MarksLemmas.{order_marked, mark_in-read, mark_in-write, mark_in-writes, marked_by_same, marked_all_same, IsCounted, write_counted, batch_counted, floor-write, floor-writes, entry_keys}

-- ---- what a tree refuses of a read

if_ok : {A P : Type 0} (r : Result A Error) → P → IfOk r (λ _. P)
if_ok (Ok a) p = p
if_ok (Err e) p = tt

in_time : {A : Type 0} (c : Core) (s : ℕ) (r : Result A Error) → RefusesRead c s r → IsErrOf r OutOfOrder → ⊥
in_time c s (Ok a) h late = absurd (cc late)
in_time c s (Err e) h late = elim h.only [ inl old ↦ absurd (cc (old, late)) | inr memory ↦ absurd (cc (memory, late)) ]

memory_alone : {A : Type 0} (c : Core) (s : ℕ) (r : Result A Error) → RefusesRead c s r → (found_at s (latest_of c) (older_of c) ≡ None → ⊥) → IfErr r (λ e. e ≡ OutOfMemory)
memory_alone c s (Ok a) h found = tt
memory_alone c s (Err e) h found = elim h.only [ inl old ↦ absurd (found (h.too_old.0 (ap Err old))) | inr memory ↦ memory ]

-- marks by key
abbrev pub Marks : Type 0
Marks = BTreeMap Bytes Mark

entry_keys-ops : (n : ℕ) (ops : List (Bytes × Op)) → entry_keys (op_entries n ops) ≡ keys_of ops
entry_keys-ops n [] = refl
entry_keys-ops n (p ∷ ops) = ap (λ k. k ∷ entry_keys (op_entries n ops)) (key_is p.0 n p.1) ∙ ap (λ ks. p.0 ∷ ks) (entry_keys-ops n ops)

-- an accepted batch had no reason to be refused
pub accepted : (ops : List (Bytes × Op)) (n : ℕ) (old new : Core) → WritesBatch ops (Ok n) old new → batch_refusal old.seqno ops ≡ None
accepted ops n old new w = go (batch_refusal old.seqno ops) w.told
  where
    go : (o : Option Error) → IfSome o (λ x. (◌≡◌ {A = Result ℕ Error} (Ok n) (Err x)) ⊎ (◌≡◌ {A = Result ℕ Error} (Ok n) (Err OutOfMemory))) → o ≡ None
    go None h = refl
    go (Some x) h = ⊎_elim (λ (q : ◌≡◌ {A = Result ℕ Error} (Ok n) (Err x)). absurd (cc q)) (λ (q : ◌≡◌ {A = Result ℕ Error} (Ok n) (Err OutOfMemory)). absurd (cc q)) h

refused_doubles : (a b c d : Bool) → ◌≡◌ {A = Option Error} (cond a (Some OutOfNumbers) (cond b (Some KeyTooLong) (cond c (Some ValueTooLong) (cond d (Some DuplicateKey) None)))) None → (a ≡ false) × (d ≡ false)
refused_doubles true b c d h = absurd (cc h)
refused_doubles false true c d h = absurd (cc h)
refused_doubles false false true d h = absurd (cc h)
refused_doubles false false false true h = absurd (cc h)
refused_doubles false false false false h = (refl, refl)

-- so its sequence number is below the limit, and no key comes twice
pub accepted_parts : (ops : List (Bytes × Op)) (n : ℕ) → batch_refusal n ops ≡ None → (n < 9223372036854775808) × (repeats (keys_of ops) ≡ false)
accepted_parts ops n h =
    let parts = refused_doubles (is_great n) (list_any (λ p. is_long_key p.0) ops) (list_any (λ p. is_long_value (op_value p.1)) ops) (repeats (keys_of ops)) h in (below parts.0, parts.1)
  where
    below : is_great n ≡ false → n < 9223372036854775808
    below q = grind (arith, nat_tests)

numbers_are : (n s : ℕ) (ops : List (Bytes × Op)) → s ≤ n → AllByRecursion (λ e. s ≤ e.key.seqno) (op_entries n ops)
numbers_are n s [] up = tt
numbers_are n s (p ∷ ops) up = (rw (seqno_is p.0 n p.1) up, numbers_are n s ops up)

-- the last read of a journal agrees with the replay before it
pub agrees_last : (start : Map) (before journal : List Event) (x : Event) → AgreesFrom start before (journal ++ x ∷ []) → ReadAgrees start (before ++ journal) x
agrees_last start before [] x h = subst (λ js. ReadAgrees start js x) (sym (append-nil before)) h.0
agrees_last start before (y ∷ journal) x h = subst (λ js. ReadAgrees start js x) (append_assoc before (y ∷ []) journal) (agrees_last start (before ++ y ∷ []) journal x h.1)

found_cut : (v w : Option Bytes) → Found v ≡ Found w → v ≡ w
found_cut v w e = cc e

not_none : {A : Type 0} (o : Option A) → is_some o ≡ true → o ≡ None → ⊥
not_none None h e = cc h
not_none (Some x) h e = cc e

-- ---- what an accepted write tells

own_ok : {A : Type 0} (x : A) (P : Type 0) → OwnOr {A = A} (Ok x) P → P
own_ok {A} x P h = ⊎_elim (λ (q : ◌≡◌ {A = Result A Error} (Ok x) (Err OutOfOrder)). absurd (cc q)) (λ o. ⊎_elim (λ (q : ◌≡◌ {A = Result A Error} (Ok x) (Err OutOfMemory)). absurd (cc q)) (λ p. p) o) h

module _ (opened : List Placed) (least : ℕ) where
  -- the facts for callers follow from those that the next step goes on from
  pub recorded : (theory : Soundness) → least ≡ above (held opened) → (marks : Marks) (low : ℕ) (c : Core) (journal : List Event) → Holds (held opened) (shown_by opened) (state_of journal c) → IsCounted (held opened) c.seqno journal → low ≡ floor journal → ((k : Bytes) → mark_of marks k ≡ mark_in (held opened) journal k) → AreMarked journal c → IsRecorded opened least marks low c journal
  recorded theory is marks low c journal holds counted floored noted marked = record {
    reads = theory.right.reads (held opened) (shown_by opened) (state_of journal c) holds;
    holds = holds;
    order = counted.order;
    counted = counted.counted;
    least_is = is;
    floored = floored;
    noted = noted;
    marked = marked;
  }

  counted_of : (marks : Marks) (low : ℕ) (c : Core) (journal : List Event) → IsRecorded opened least marks low c journal → IsCounted (held opened) c.seqno journal
  counted_of marks low c journal r = record { order = r.order; counted = r.counted }

  -- marks of which each stays what it is
  pub same_marks : (marks marks' : Marks) (low : ℕ) (c : Core) (journal : List Event) → ((q : Bytes) → mark_of marks' q ≡ mark_of marks q) → IsRecorded opened least marks low c journal → IsRecorded opened least marks' low c journal
  same_marks marks marks' low c journal same r = record {
    reads = r.reads;
    holds = r.holds;
    order = r.order;
    counted = r.counted;
    least_is = r.least_is;
    floored = r.floored;
    noted = λ k. same k ∙ r.noted k;
    marked = r.marked;
  }

  -- ---- a single write

  pub recorded_write : (theory : Soundness) (marks marks' : Marks) (low : ℕ) (old new : Core) (journal : List Event) (e : Entry) → IsRecorded opened least marks low old journal → keeps_order (held opened) journal old.seqno e ≡ true → IsWriteStep e old new → new ≡ written_core e old
      → ((q : Bytes) → mark_of marks' q ≡ marked_by e (mark_of marks) q) → IsRecorded opened least marks' low new (journal ++ Write e ∷ [])
  recorded_write theory marks marks' low old new journal e r ok step is noted =
      let counted = write_counted (held opened) old.seqno journal e ok (counted_of marks low old journal r) in
      recorded theory r.least_is marks' low new (journal ++ Write e ∷ []) (theory.kept.step (held opened) (shown_by opened) (state_of journal old) (Wrote e) (state_of (journal ++ Write e ∷ []) new) (step (held opened) journal) counted.order r.holds)
      (subst (λ n. IsCounted (held opened) n (journal ++ Write e ∷ [])) (sym (ap (λ (c : Core). c.seqno) is)) counted) (r.floored ∙ sym (floor-write journal e))
      (λ q. noted q ∙ marked_by_same (mark_of marks) (mark_in (held opened) journal) e r.noted q ∙ sym (mark_in-write (held opened) journal e q)) (still_marked old new journal (Write e ∷ []) (ap (λ (c : Core). c.merges) is) r.marked)

  -- it leaves what snapshots up to its sequence number see
  pub write_spares : (theory : Soundness) (marks : Marks) (low : ℕ) (old new : Core) (journal : List Event) (e : Entry) → IsRecorded opened least marks low old journal → keeps_order (held opened) journal old.seqno e ≡ true → IsWriteStep e old new → StaysTo e.key.seqno old new
  write_spares theory marks low old new journal e r ok step = λ s up. theory.spares.step (held opened) (shown_by opened) s (state_of journal old) (Wrote e) (state_of (journal ++ Write e ∷ []) new) (step (held opened) journal) (write_counted (held opened) old.seqno journal e ok (counted_of marks low old journal r)).order up r.holds

  -- an accepted entry was in order
  append_in_order : (s : ℕ × ℕ) (marks : Marks) (low : ℕ) (c : Core) (journal : List Event) (e : Entry) → IsRecorded opened least marks low c journal → (◌≡◌ {A = Result (ℕ × ℕ) Error} (Ok s) (Err OutOfOrder) ↔ (entry_allowed (mark_of marks) low c.seqno e ≡ false)) → keeps_order (held opened) journal c.seqno e ≡ true
  append_in_order s marks low c journal e h order = sym (order_marked (held opened) journal (mark_of marks) low c.seqno e h.noted h.floored) ∙ not_refused (Ok s) (entry_allowed (mark_of marks) low c.seqno e) refl order

  -- whatever it answers
  pub append_any : (theory : Soundness) → {S : Type 0} (r : Result (ℕ × ℕ) Error) (old new : Seen S) (marks marks' : Marks) (low : ℕ) (journal journal' : List Event) (pass pass' : List (ℕ × Event)) (e : Entry) → plain e ≡ e → IsRecorded opened least marks low old.core journal → (IsErrOf r OutOfOrder ↔ (entry_allowed (mark_of marks) low old.core.seqno e ≡ false)) → OwnOr r (Appends (plain e) r old.core new.core)
      → OnOk r ((q : Bytes) → mark_of marks' q ≡ marked_by e (mark_of marks) q) → OnErr r ((q : Bytes) → mark_of marks' q ≡ mark_of marks q) → OnOk r (Notes (Write e ∷ []) journal journal' pass pass') → OnErr r ((new ≡ old) × (journal' ≡ journal) × (pass' ≡ pass)) → IsRecorded opened least marks' low new.core journal'
  append_any theory (Ok s) old new marks marks' low journal journal' pass pass' e is h order core marked unmarked noted err =
      let a = subst (λ x. Appends x (Ok s) old.core new.core) is (own_ok s (Appends (plain e) (Ok s) old.core new.core) core) in
      subst (IsRecorded opened least marks' low new.core) (sym noted.behind) (recorded_write theory marks marks' low old.core new.core journal e h (append_in_order s marks low old.core journal e h order) a.step a.core marked)
  append_any theory {S} (Err x) old new marks marks' low journal journal' pass pass' e is h order core marked unmarked noted err =
      subst (IsRecorded opened least marks' low new.core) (sym err.1) (subst (λ (t : Seen S). IsRecorded opened least marks' low t.core journal) (sym err.0) (same_marks marks marks' low old.core journal unmarked h))

  pub append_any_spares : (theory : Soundness) (r : Result (ℕ × ℕ) Error) (old new : Core) (marks : Marks) (low : ℕ) (journal : List Event) (e : Entry) → plain e ≡ e → IsRecorded opened least marks low old journal → (IsErrOf r OutOfOrder ↔ (entry_allowed (mark_of marks) low old.seqno e ≡ false)) → OwnOr r (Appends (plain e) r old new) → OnOk r (StaysTo e.key.seqno old new)
  append_any_spares theory (Ok s) old new marks low journal e is h order core =
      let a = subst (λ x. Appends x (Ok s) old new) is (own_ok s (Appends (plain e) (Ok s) old new) core) in
      write_spares theory marks low old new journal e h (append_in_order s marks low old journal e h order) a.step
  append_any_spares theory (Err x) old new marks low journal e is h order core = tt

  -- ---- a batch

  batch_in_order : (marks : Marks) (low : ℕ) (old new : Core) (journal : List Event) (ops : List (Bytes × Op)) (n : ℕ) → IsRecorded opened least marks low old journal → batch_keeps_order (held opened) journal old.seqno ops ≡ true → WritesBatch ops (Ok n) old new → IsCounted (held opened) (old.seqno + 1) (journal ++ map Write (op_entries old.seqno ops))
  batch_in_order marks low old new journal ops n r ok w =
      let es = op_entries old.seqno ops in
      let once : repeats (entry_keys es) ≡ false = ap repeats (entry_keys-ops old.seqno ops) ∙ (accepted_parts ops old.seqno (accepted ops n old new w)).1 in
      let before : IsCounted (held opened) (old.seqno + 1) journal = record { order = r.order; counted = let a = r.counted in omega arith } in
      batch_counted (held opened) (old.seqno + 1) es journal ok once before

  pub recorded_batch : (theory : Soundness) (marks marks' : Marks) (low : ℕ) (old new : Core) (journal : List Event) (ops : List (Bytes × Op)) (n : ℕ) → IsRecorded opened least marks low old journal → batch_keeps_order (held opened) journal old.seqno ops ≡ true → WritesBatch ops (Ok n) old new
      → ((q : Bytes) → mark_of marks' q ≡ marked_all (op_entries old.seqno ops) (mark_of marks) q) → IsRecorded opened least marks' low new (journal ++ map Write (op_entries old.seqno ops))
  recorded_batch theory marks marks' low old new journal ops n r ok w noted =
      let es = op_entries old.seqno ops in
      let counted = batch_in_order marks low old new journal ops n r ok w in
      let next : new.seqno ≡ old.seqno + 1 = ap (λ (c : Core). c.seqno) w.core in
      recorded theory r.least_is marks' low new (journal ++ map Write es) (theory.kept.run (held opened) (shown_by opened) (state_of journal old) (map Wrote es) (state_of (journal ++ map Write es) new) (w.run (held opened) journal) counted.order r.holds)
      (subst (λ m. IsCounted (held opened) m (journal ++ map Write es)) (sym next) counted) (r.floored ∙ sym (floor-writes es journal))
      (λ q. noted q ∙ marked_all_same (mark_of marks) (mark_in (held opened) journal) es r.noted q ∙ sym (mark_in-writes (held opened) es journal q)) (still_marked old new journal (map Write es) (ap (λ (c : Core). c.merges) w.core) r.marked)

  -- a batch leaves what snapshots up to its sequence number see
  pub batch_spares : (theory : Soundness) (marks : Marks) (low : ℕ) (old new : Core) (journal : List Event) (ops : List (Bytes × Op)) (n : ℕ) → IsRecorded opened least marks low old journal → batch_keeps_order (held opened) journal old.seqno ops ≡ true → WritesBatch ops (Ok n) old new → StaysTo old.seqno old new
  batch_spares theory marks low old new journal ops n r ok w = λ s up.
      let es = op_entries old.seqno ops in
      theory.spares.writes (held opened) (shown_by opened) s es (state_of journal old) (state_of (journal ++ map Write es) new) (w.run (held opened) journal) (batch_in_order marks low old new journal ops n r ok w).order (numbers_are old.seqno s ops up) r.holds

  -- an accepted batch was in order
  batch_was_in_order : (n : ℕ) (marks : Marks) (low : ℕ) (c : Core) (journal : List Event) (ops : List (Bytes × Op)) → IsRecorded opened least marks low c journal → (◌≡◌ {A = Result ℕ Error} (Ok n) (Err OutOfOrder) ↔ (list_all (op_allowed (mark_of marks) low c.seqno) ops ≡ false)) → batch_keeps_order (held opened) journal c.seqno ops ≡ true
  batch_was_in_order n marks low c journal ops h order = sym (allowed_order (held opened) journal c.seqno (mark_of marks) low ops h.noted h.floored) ∙ not_refused (Ok n) (list_all (op_allowed (mark_of marks) low c.seqno) ops) refl order

  -- whatever it answers
  pub batch_any : (theory : Soundness) → {S : Type 0} (r : Result ℕ Error) (old new : Seen S) (marks marks' : Marks) (low : ℕ) (journal journal' : List Event) (pass pass' : List (ℕ × Event)) (ops : List (Bytes × Op)) → IsRecorded opened least marks low old.core journal → (IsErrOf r OutOfOrder ↔ (list_all (op_allowed (mark_of marks) low old.core.seqno) ops ≡ false)) → OwnOr r (WritesBatch ops r old.core new.core)
      → OnOk r ((q : Bytes) → mark_of marks' q ≡ marked_all (op_entries old.core.seqno ops) (mark_of marks) q) → OnErr r ((q : Bytes) → mark_of marks' q ≡ mark_of marks q) → OnOk r (Notes (map Write (op_entries old.core.seqno ops)) journal journal' pass pass') → OnErr r ((new ≡ old) × (journal' ≡ journal) × (pass' ≡ pass)) → IsRecorded opened least marks' low new.core journal'
  batch_any theory (Ok n) old new marks marks' low journal journal' pass pass' ops h order core marked unmarked noted err =
      subst (IsRecorded opened least marks' low new.core) (sym noted.behind) (recorded_batch theory marks marks' low old.core new.core journal ops n h (batch_was_in_order n marks low old.core journal ops h order) (own_ok n (WritesBatch ops (Ok n) old.core new.core) core) marked)
  batch_any theory {S} (Err x) old new marks marks' low journal journal' pass pass' ops h order core marked unmarked noted err =
      subst (IsRecorded opened least marks' low new.core) (sym err.1) (subst (λ (t : Seen S). IsRecorded opened least marks' low t.core journal) (sym err.0) (same_marks marks marks' low old.core journal unmarked h))

  pub batch_any_spares : (theory : Soundness) (r : Result ℕ Error) (old new : Core) (marks : Marks) (low : ℕ) (journal : List Event) (ops : List (Bytes × Op)) → IsRecorded opened least marks low old journal → (IsErrOf r OutOfOrder ↔ (list_all (op_allowed (mark_of marks) low old.seqno) ops ≡ false)) → OwnOr r (WritesBatch ops r old new) → OnOk r (StaysTo old.seqno old new)
  batch_any_spares theory (Ok n) old new marks low journal ops h order core =
      batch_spares theory marks low old new journal ops n h (batch_was_in_order n marks low old journal ops h order) (own_ok n (WritesBatch ops (Ok n) old new) core)
  batch_any_spares theory (Err x) old new marks low journal ops h order core = tt

  -- ---- reads

  pub recorded_read : (theory : Soundness) (marks : Marks) (low : ℕ) (c : Core) (journal : List Event) (k : Bytes) (s : ℕ) (v : Option Bytes) → IsRecorded opened least marks low c journal → above (held opened) ≤ s → IsGetStep c k s v → IsRecorded opened least marks low c (journal ++ Read s (Get k) (Found v) ∷ [])
  recorded_read theory marks low c journal k s v r up step =
      let order = in_order_push (held opened) journal (Read s (Get k) (Found v)) r.order tt in
      let counted : next_number (held opened) (journal ++ Read s (Get k) (Found v) ∷ []) ≤ c.seqno = rw (fold-append next_number_after (above (held opened)) journal (Read s (Get k) (Found v) ∷ [])) r.counted in
      recorded theory r.least_is marks low c (journal ++ Read s (Get k) (Found v) ∷ []) (theory.kept.step (held opened) (shown_by opened) (state_of journal c) (Asked s (Get k)) (state_of (journal ++ Read s (Get k) (Found v) ∷ []) c) (step (held opened) journal up) order r.holds)
      (record { order = order; counted = counted }) (r.floored ∙ sym (fold-append floor_after 0 journal (Read s (Get k) (Found v) ∷ []))) (λ q. r.noted q ∙ sym (mark_in-read (held opened) journal s (Get k) (Found v) q)) (still_marked c c journal (Read s (Get k) (Found v) ∷ []) refl r.marked)

  pub recorded_list : (theory : Soundness) (marks : Marks) (low : ℕ) (c : Core) (journal : List Event) (question : Question) (s : ℕ) (pairs : List Pair) → IsRecorded opened least marks low c journal → above (held opened) ≤ s → IsListStep c question s pairs → IsRecorded opened least marks low c (journal ++ Read s question (Pairs pairs) ∷ [])
  recorded_list theory marks low c journal question s pairs r up step =
      let told = Pairs pairs in
      let order = in_order_push (held opened) journal (Read s question told) r.order tt in
      let counted : next_number (held opened) (journal ++ Read s question told ∷ []) ≤ c.seqno = rw (fold-append next_number_after (above (held opened)) journal (Read s question told ∷ [])) r.counted in
      recorded theory r.least_is marks low c (journal ++ Read s question told ∷ []) (theory.kept.step (held opened) (shown_by opened) (state_of journal c) (Asked s question) (state_of (journal ++ Read s question told ∷ []) c) (step (held opened) journal up r.reads.ordered) order r.holds)
      (record { order = order; counted = counted }) (r.floored ∙ sym (fold-append floor_after 0 journal (Read s question told ∷ []))) (λ q. r.noted q ∙ sym (mark_in-read (held opened) journal s question told q)) (still_marked c c journal (Read s question told ∷ []) refl r.marked)

  -- and it agrees with the replay
  pub listed_agrees : (theory : Soundness) (marks : Marks) (low : ℕ) (c : Core) (journal : List Event) (question : Question) (s : ℕ) (pairs : List Pair) → IsRecorded opened least marks low c journal → above (held opened) ≤ s → IsListStep c question s pairs → ReadAgrees (shown_by opened) journal (Read s question (Pairs pairs))
  listed_agrees theory marks low c journal question s pairs r up step =
      agrees_last (shown_by opened) [] journal (Read s question (Pairs pairs)) (recorded_list theory marks low c journal question s pairs r up step).reads.agrees

  -- where a read is answered, what it lists agrees
  pub lists_agree : {A : Type 0} (pairs : A → List Pair) (theory : Soundness) (marks : Marks) (low : ℕ) (c : Core) (journal : List Event) (question : Question) (s : ℕ) (r : Result A Error) → IsRecorded opened least marks low c journal → above (held opened) ≤ s
      → IfOk r (λ a. IsListStep c question s (pairs a)) → IfOk r (λ a. ReadAgrees (shown_by opened) journal (Read s question (Pairs (pairs a))))
  lists_agree pairs theory marks low c journal question s (Ok a) r up step = listed_agrees theory marks low c journal question s (pairs a) r up step
  lists_agree pairs theory marks low c journal question s (Err x) r up step = tt

  -- a kept snapshot finds a super version
  pub kept_found : (marks : Marks) (low : ℕ) (s : ℕ) (journal : List Event) (c : Core) → IsRecorded opened least marks low c journal → IsKept s journal → found_at s (latest_of c) (older_of c) ≡ None → ⊥
  kept_found marks low s journal c r kept none = not_none _ (r.reads.answered s kept) none

  -- where the tree tells of a read, so does the tree with its journal
  pub pairs_read : {S A : Type 0} (left : A → List Entry) (lists : Core → List Entry → Type 0) (theory : Soundness) (marks : Marks) (low : ℕ) (t : Seen S) (journal : List Event) (question : Question) (s : ℕ) (r : Result A Error) → IsRecorded opened least marks low t.core journal → least ≤ s
      → IfOk r (λ a. lists t.core (left a)) → IfOk r (λ a. IsListStep t.core question s (map pair_of (left a))) → RefusesRead t.core s r → ReadsPairs question left lists s r (record { tree = t; journal = journal; opened = opened })
  pairs_read left lists theory marks low t journal question s r rec from core step refuses =
      let up : above (held opened) ≤ s = let is = rec.least_is in omega (arith, from) in
      record {
        core = core;
        step = step;
        replay = lists_agree (λ a. map pair_of (left a)) theory marks low t.core journal question s r rec up step;
        not_below = if_ok r up;
        refuses = record { out_of_order = (λ late. absurd (in_time t.core s r refuses late), λ below. absurd (omega (arith, below, up))); refuses = λ _. refuses };
        kept = λ _ kept. memory_alone t.core s r refuses (kept_found marks low s journal t.core rec kept);
      }

  -- a get answers the replay
  pub answers_replay : (theory : Soundness) (marks : Marks) (low : ℕ) (k : Bytes) (s : ℕ) (v : Option Bytes) (journal : List Event) (c : Core) → Gives c k s v → IsRecorded opened least marks low c journal → above (held opened) ≤ s → is_outside k s journal ≡ true → v ≡ get (replay (shown_by opened) journal s) k
  answers_replay theory marks low k s v journal c g r up out =
      g.2
      ∙ found_cut _ _ (theory.right.answers (held opened) (shown_by opened) (state_of journal c) r.holds s g.0 g.1 (Get k))
      ∙ theory.right.views (held opened) (shown_by opened) (state_of journal c) r.holds s g.0 up g.1 k out

  -- ---- rotation

  pub recorded_rotate : (theory : Soundness) (marks : Marks) (low : ℕ) (old new : Core) (journal : List Event) (i : Option ℕ) → IsRecorded opened least marks low old journal → Rotates old i new → IsRecorded opened least marks low new journal
  recorded_rotate theory marks low old new journal None r t = subst (λ c. IsRecorded opened least marks low c journal) (sym t.1) r
  recorded_rotate theory marks low old new journal (Some id) r t =
      recorded theory r.least_is marks low new journal (theory.kept.step (held opened) (shown_by opened) (state_of journal old) (Rotated old.next_memtable) (state_of journal new) (t.3 (held opened) journal) r.order r.holds)
      (subst (λ n. IsCounted (held opened) n journal) (sym (ap (λ (c : Core). c.seqno) t.2)) (counted_of marks low old journal r)) r.floored r.noted (same_marked old new journal (ap (λ (c : Core). c.merges) t.2) r.marked)

  -- it leaves what each snapshot sees
  pub rotate_spares : (theory : Soundness) (marks : Marks) (low : ℕ) (old new : Core) (journal : List Event) (i : Option ℕ) → IsRecorded opened least marks low old journal → Rotates old i new → Stays old new
  rotate_spares theory marks low old new journal None r t = subst (Stays old) (sym t.1) (λ s. theory.spares.same s (state_of [] old) (state_of [] old) refl refl refl)
  rotate_spares theory marks low old new journal (Some id) r t = λ s. theory.spares.step (held opened) (shown_by opened) s (state_of journal old) (Rotated old.next_memtable) (state_of journal new) (t.3 (held opened) journal) r.order tt r.holds

  pub rotate_any_spares : (theory : Soundness) → {S : Type 0} (r : Result (Option ℕ) Error) (old new : Seen S) (marks : Marks) (low : ℕ) (journal : List Event) → IfOk r (λ i. Rotates old.core i new.core) → OnErr r (new ≡ old) → IsRecorded opened least marks low old.core journal → Stays old.core new.core
  rotate_any_spares theory (Ok i) old new marks low journal t e h = rotate_spares theory marks low old.core new.core journal i h t
  rotate_any_spares theory (Err x) old new marks low journal t e h = subst (λ z. Stays old.core z.core) (sym e) (λ s. theory.spares.same s (state_of [] old.core) (state_of [] old.core) refl refl refl)

  -- whatever it answers
  pub rotate_any : (theory : Soundness) → {S : Type 0} (r : Result (Option ℕ) Error) (old new : Seen S) (marks : Marks) (low : ℕ) (journal : List Event) → IfOk r (λ i. Rotates old.core i new.core) → OnErr r (new ≡ old) → IsRecorded opened least marks low old.core journal → IsRecorded opened least marks low new.core journal
  rotate_any theory (Ok i) old new marks low journal t e h = recorded_rotate theory marks low old.core new.core journal i h t
  rotate_any theory (Err x) old new marks low journal t e h = subst (λ s. IsRecorded opened least marks low s.core journal) (sym e) h

-- ---- entries

plain-plain_value : (kind : Rattle.lsm_below.specs.declared.value_type.ValueType.ValueType) (v : Bytes) → kept_value kind (kept_value kind v) ≡ kept_value kind v
plain-plain_value Value v = refl
plain-plain_value Tombstone v = refl
plain-plain_value WeakTombstone v = refl

-- an entry is made plain once
pub plain-plain : (e : Entry) → plain (plain e) ≡ plain e
plain-plain e = ap (λ v. record { key = e.key; value = v }) (plain-plain_value e.key.value_type e.value)
