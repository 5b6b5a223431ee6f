-- Marks agree with the journal.
use Rattle.std.proofs.Common.{Option, ◌≡◌, ℕ, zero, suc, not, ◌==◌, ◌+◌, ◌<◌, ◌≤◌, max, min, Bool, true, false, cond, ◌&&◌, ◌||◌, nat_lt, nat_le, List, [], ◌∷◌, ◌++◌, Some, unwrap_or, refl, sym, ap, ◌∙◌, subst, arith, map, append-nil, append_assoc, ltb-true}
use Rattle.std.specs.List.{list_any, list_all}
use Rattle.std.proofs.lemmas.Bool.Decides.{nat_tests}
use Rattle.std.specs.BTreeMap as tree
use Rattle.std.specs.BTreeMap.{BTreeMap}
use Rattle.std.proofs.lemmas.Grind.{fold-append}
use Rattle.std.proofs.lemmas.Map.Text.{is_eq-slice_cmp}
use Rattle.std.proofs.lemmas.Slice.Eq.{bytes_eq-Decides}
use Rattle.lsm_below.specs.Orders.{same_swap}
use Rattle.std.specs.Cmp.Lexicographic.{pointwise}
use Rattle.std.specs.Prelude.{nat_eq}
use Rattle.std.specs.Ordering.{eq_by_cmp, is_eq, nat_cmp, ordering_then}
use Rattle.std.specs.declared.cmp.Ordering.{Ordering}
use Rattle.std.specs.declared.cmp.Ordering.TheVariants.{Less, Equal, Greater}
use Rattle.lsm_below.specs.Heads.{key_head}
use Rattle.lsm_below.specs.Keys.{Bytes, bytes_cmp, is_same}
use Rattle.lsm_below.specs.Entries.{Entry, stack, values, above, is_value, is_weak, is_value_kind, is_weak_kind}
use Rattle.lsm_below.specs.declared.value_type.ValueType.{ValueType}
use Rattle.lsm_below.specs.declared.value_type.ValueType.TheVariants.{Value, Tombstone, WeakTombstone}
use Rattle.lsm_model.specs.Journal.{Event, next_after, next_of, sets_after, sets_of, floor_after, floor, next_number_after, next_number, MayWrite, InOrder}
use Rattle.lsm_model.specs.declared.journal.JournalEntry.TheVariants.{Write, Read}
use Rattle.lsm_model.specs.declared.question.Question.{Question}
use Rattle.lsm_model.specs.declared.question.Answer.{Answer}
use Rattle.lsm_model.specs.Ops.{repeats}
use Rattle.lsm_model.proofs.Journals.{in_order_push}
use Rattle.lsm_recorded.specs.declared.marks.Mark.{Mark}
use Rattle.lsm_recorded.specs.Headed.{headed_cmp}
use Rattle.lsm_recorded.specs.Marks.{mark_of, marked, marked_by, marked_all, no_mark, next_mark, mark_in, kind_allows, mark_allows, entry_allowed, mark_tells_order}
use Rattle.lsm_recorded.specs.Order.{weak_after, weak_of, kind_keeps, keeps_order}
use Rattle.lsm_versions.proofs.Walks.{same_key}

pub same_self : (a : Bytes) → is_same a a ≡ true
same_self a = is_eq-slice_cmp a a ∙ (bytes_eq-Decides a a).1 refl

-- the order of marks ties where keys are the same
number_self : (n : ℕ) → nat_cmp n n ≡ Equal
number_self n = grind (arith, nat_tests)

both_tie : (a b : Ordering) → (is_eq b ≡ true → a ≡ Equal) → is_eq (ordering_then a b) ≡ is_eq b
both_tie Less Less h = refl
both_tie Less Equal h = absurd (cc (h refl))
both_tie Less Greater h = refl
both_tie Equal b h = refl
both_tie Greater Less h = refl
both_tie Greater Equal h = absurd (cc (h refl))
both_tie Greater Greater h = refl

pub headed_ties : (a b : Bytes) → eq_by_cmp headed_cmp a b ≡ is_same a b
headed_ties a b = both_tie (nat_cmp (key_head a) (key_head b)) (bytes_cmp a b) (λ h. ap (λ k. nat_cmp (key_head a) (key_head k)) (sym (same_key a b h)) ∙ number_self (key_head a))

-- what is answered of the equality of two keys says whether they tie
pub headed_eq : (a b : Bytes) (t u : Bool) → t ≡ pointwise nat_eq b a → t ≡ u → eq_by_cmp headed_cmp a b ≡ u
headed_eq a b t u is told = headed_ties a b ∙ same_swap a b ∙ is_eq-slice_cmp b a ∙ sym is ∙ told

pub mark_set : (old new : BTreeMap Bytes Mark) (k : Bytes) (m : Mark) (q : Bytes) → tree.get headed_cmp new q ≡ cond (eq_by_cmp headed_cmp k q) (Some m) (tree.get headed_cmp old q) → mark_of new q ≡ marked (mark_of old) k m q
mark_set old new k m q e =
    ap (λ o. unwrap_or o no_mark) (e ∙ ap (λ b. cond b (Some m) (tree.get headed_cmp old q)) (headed_ties k q ∙ same_swap k q))
    ∙ (elim (is_same q k) as (λ b. unwrap_or (cond b (Some m) (tree.get headed_cmp old q)) no_mark ≡ cond b m (unwrap_or (tree.get headed_cmp old q) no_mark)) [ true ↦ refl | false ↦ refl ])

-- a mark that is set to what it was
pub marked_same : (marks new : BTreeMap Bytes Mark) (k k' : Bytes) (m : Mark) → k' ≡ k → m ≡ mark_of marks k → (q : Bytes) → mark_of new q ≡ marked (mark_of marks) k' m q → mark_of new q ≡ mark_of marks q
marked_same marks new k k' m key is q e = e ∙ ap (λ z. marked (mark_of marks) z m q) key ∙ (elim (is_same q k) as (λ b. is_same q k ≡ b → cond b m (mark_of marks q) ≡ mark_of marks q) [ true ↦ λ z. is ∙ ap (mark_of marks) (sym (same_key q k z)) | false ↦ λ z. refl ] refl)

-- a type's effect on a mark, of which two values are many
kind_mark : (kind : ValueType) (n s number : ℕ) (w : Bool) → ◌≡◌ {A = Mark} (record { next = max n (number + 1); sets = min (cond (is_value_kind kind) (s + 1) s) 2; is_weak = is_weak_kind kind || w }) (next_mark (record { next = n; sets = min s 2; is_weak = w }) number kind)
kind_mark Value n s number w = let q : min (s + 1) 2 ≡ min (min s 2 + 1) 2 = omega arith in ap (λ z. record { next = max n (number + 1); sets = z; is_weak = w }) q
kind_mark Tombstone n s number w = refl
kind_mark WeakTombstone n s number w = refl

pub floor-write : (journal : List Event) (e : Entry) → floor (journal ++ Write e ∷ []) ≡ floor journal
floor-write journal e = fold-append floor_after 0 journal (Write e ∷ [])

pub marked_by_same : (f g : Bytes → Mark) (e : Entry) → ((q : Bytes) → f q ≡ g q) → (q : Bytes) → marked_by e f q ≡ marked_by e g q
marked_by_same f g e same q =
    ap (λ m. cond (is_same q e.key.user_key) (next_mark m e.key.seqno e.key.value_type) (f q)) (same e.key.user_key) ∙ ap (λ m. cond (is_same q e.key.user_key) (next_mark (g e.key.user_key) e.key.seqno e.key.value_type) m) (same q)

pub marked_all_same : (f g : Bytes → Mark) (es : List Entry) → ((q : Bytes) → f q ≡ g q) → (q : Bytes) → marked_all es f q ≡ marked_all es g q
marked_all_same f g [] same q = same q
marked_all_same f g (e ∷ es) same q = marked_all_same (marked_by e f) (marked_by e g) es (marked_by_same f g e same) q

pub both : (a b : Bool) → (a && b) ≡ true → (a ≡ true) × (b ≡ true)
both true true h = (refl, refl)
both true false h = absurd (cc h)
both false b h = absurd (cc h)

pub le_of : (a b : ℕ) → nat_le a b ≡ true → a ≤ b
le_of a b q = grind (arith, nat_tests)

and_grouped : (a b c d : Bool) → ((a && b && c) && d) ≡ ((a && b) && (c && d))
and_grouped true true c d = refl
and_grouped true false c d = refl
and_grouped false b c d = refl

-- two sets are many
none_set : (s : ℕ) → (s == 0) ≡ (min s 2 == 0)
none_set zero = refl
none_set (suc s) = grind (arith, nat_tests)

few_sets : (s : ℕ) → nat_le s 1 ≡ nat_lt (min s 2) 2
few_sets s = grind (arith, nat_tests)

abbrev pub entry_keys : List Entry → List Bytes
entry_keys es = map (λ (e : Entry). e.key.user_key) es

neither : (a b : Bool) → (a || b) ≡ false → (a ≡ false) × (b ≡ false)
neither true b h = absurd (cc h)
neither false b h = (refl, h)

pub floor-writes : (es : List Entry) (journal : List Event) → floor (journal ++ map Write es) ≡ floor journal
floor-writes [] journal = ap floor (append-nil journal)
floor-writes (e ∷ es) journal = ap floor (sym (append_assoc journal (Write e ∷ []) (map Write es))) ∙ floor-writes es (journal ++ Write e ∷ []) ∙ floor-write journal e

-- a mark that is entered as it was changes none
mark_entered : (old new : BTreeMap Bytes Mark) (k : Bytes) (m : Mark) → m ≡ mark_of old k → ((q : Bytes) → tree.get headed_cmp new q ≡ cond (eq_by_cmp headed_cmp k q) (Some m) (tree.get headed_cmp old q)) → (q : Bytes) → mark_of new q ≡ mark_of old q
mark_entered old new k m is written q = marked_same old new k k m refl is q (mark_set old new k m q (written q))

-- a mark that is entered as a write leaves it
pub mark_written : (old new : BTreeMap Bytes Mark) (k key : Bytes) (m w : Mark) (n : ℕ) (kind : ValueType) → k ≡ key → m ≡ mark_of old k → w ≡ next_mark m n kind → ((q : Bytes) → tree.get headed_cmp new q ≡ cond (eq_by_cmp headed_cmp k q) (Some w) (tree.get headed_cmp old q)) → (q : Bytes) → mark_of new q ≡ marked (mark_of old) key (next_mark (mark_of old key) n kind) q
mark_written old new k key m w n kind at is after written q =
    mark_set old new k w q (written q) ∙ ap (λ x. marked (mark_of old) k x q) (after ∙ ap (λ z. next_mark z n kind) is) ∙ ap (λ z. marked (mark_of old) z (next_mark (mark_of old z) n kind) q) at

-- where nothing stands, what is entered is no mark
pub mark_found : (marks : BTreeMap Bytes Mark) (k : Bytes) (m : Mark) (o : Option Mark) → m ≡ unwrap_or o no_mark → o ≡ tree.get headed_cmp marks k → m ≡ mark_of marks k
mark_found marks k m o is found = is ∙ ap (λ x. unwrap_or x no_mark) found

-- a mark that was found, or is none, is entered as it is
pub mark_kept : (old new : BTreeMap Bytes Mark) (k : Bytes) (m : Mark) (o : Option Mark) → m ≡ unwrap_or o no_mark → o ≡ tree.get headed_cmp old k → ((q : Bytes) → tree.get headed_cmp new q ≡ cond (eq_by_cmp headed_cmp k q) (Some m) (tree.get headed_cmp old q)) → (q : Bytes) → mark_of new q ≡ mark_of old q
mark_kept old new k m o is found written q = mark_entered old new k m (mark_found old k m o is found) written q

-- ---- beside a journal, of a tree with these entries

module _ (opened : List Entry) where
  -- ---- the mark that a journal gives a key

  pub mark_in-write : (journal : List Event) (e : Entry) (k : Bytes) → mark_in opened (journal ++ Write e ∷ []) k ≡ marked_by e (mark_in opened journal) k
  mark_in-write journal e k =
      rw (fold-append (next_after k) (above (stack k opened)) journal (Write e ∷ []), fold-append (sets_after k) (values (stack k opened)) journal (Write e ∷ []), fold-append (weak_after k) false journal (Write e ∷ []))
      (elim (is_same k e.key.user_key) as (λ b. is_same k e.key.user_key ≡ b → ◌≡◌ {A = Mark} (record { next = cond b (max (next_of k opened journal) (e.key.seqno + 1)) (next_of k opened journal); sets = min (cond (b && is_value e) (sets_of k opened journal + 1) (sets_of k opened journal)) 2; is_weak = b && is_weak e || weak_of k journal }) (cond b (next_mark (mark_in opened journal e.key.user_key) e.key.seqno e.key.value_type) (mark_in opened journal k))) [
        | true ↦ λ q. kind_mark e.key.value_type (next_of k opened journal) (sets_of k opened journal) e.key.seqno (weak_of k journal) ∙ ap (λ z. next_mark (mark_in opened journal z) e.key.seqno e.key.value_type) (same_key k e.key.user_key q)
        | false ↦ λ q. refl
      ] refl)

  pub mark_in-read : (journal : List Event) (s : ℕ) (question : Question) (told : Answer) (k : Bytes) → mark_in opened (journal ++ Read s question told ∷ []) k ≡ mark_in opened journal k
  mark_in-read journal s question told k =
      rw (fold-append (next_after k) (above (stack k opened)) journal (Read s question told ∷ []), fold-append (sets_after k) (values (stack k opened)) journal (Read s question told ∷ []), fold-append (weak_after k) false journal (Read s question told ∷ [])) refl

  -- ---- what the test of order says

  kind_told : (journal : List Event) (k : Bytes) (kind : ValueType) → kind_keeps opened journal k kind ≡ kind_allows (mark_in opened journal k) kind
  kind_told journal k Value = ap (λ b. not (weak_of k journal) || b) (none_set (sets_of k opened journal))
  kind_told journal k Tombstone = refl
  kind_told journal k WeakTombstone = few_sets (sets_of k opened journal)

  -- the mark of its key tells whether a write keeps the order
  pub order_told : (journal : List Event) (counter : ℕ) (e : Entry) → keeps_order opened journal counter e ≡ mark_tells_order opened journal counter e
  order_told journal counter e =
      let n = e.key.seqno in
      let k = e.key.user_key in
      ap (λ b. nat_lt n counter && nat_le (floor journal) n && nat_le (next_of k opened journal) n && b) (kind_told journal k e.key.value_type)
      ∙ and_grouped (nat_lt n counter) (nat_le (floor journal) n) (nat_le (next_of k opened journal) n) (kind_allows (mark_in opened journal k) e.key.value_type)

  -- so do marks and a least sequence number that are the journal's
  pub order_marked : (journal : List Event) (marks : Bytes → Mark) (low counter : ℕ) (e : Entry) → ((q : Bytes) → marks q ≡ mark_in opened journal q) → low ≡ floor journal → entry_allowed marks low counter e ≡ keeps_order opened journal counter e
  order_marked journal marks low counter e same least =
      let n = e.key.seqno in
      ap (λ m. nat_lt n counter && nat_le low n && mark_allows m n e.key.value_type) (same e.key.user_key) ∙ ap (λ l. nat_lt n counter && nat_le l n && mark_allows (mark_in opened journal e.key.user_key) n e.key.value_type) least ∙ sym (order_told journal counter e)

  single_kind : (journal : List Event) (k : Bytes) (kind : ValueType) → kind_keeps opened journal k kind ≡ true → is_weak_kind kind ≡ true → sets_of k opened journal ≤ 1
  single_kind journal k Value h q = absurd (cc q)
  single_kind journal k Tombstone h q = absurd (cc q)
  single_kind journal k WeakTombstone h q = le_of (sets_of k opened journal) 1 h

  pub may_write : (journal : List Event) (counter : ℕ) (e : Entry) → keeps_order opened journal counter e ≡ true → MayWrite opened journal e × (e.key.seqno < counter)
  may_write journal counter e h =
      let n = e.key.seqno in
      let k = e.key.user_key in
      let parts = both (nat_lt n counter && nat_le (floor journal) n && nat_le (next_of k opened journal) n) (kind_keeps opened journal k e.key.value_type) h in
      let second = both (nat_lt n counter && nat_le (floor journal) n) (nat_le (next_of k opened journal) n) parts.0 in
      let first = both (nat_lt n counter) (nat_le (floor journal) n) second.0 in (
        record {
          after_installs = le_of (floor journal) n first.1;
          after_own = le_of (next_of k opened journal) n second.1;
          single = single_kind journal k e.key.value_type parts.1;
        },
        ltb-true n counter first.0,
      )

  -- ---- a batch in order

  -- a write of another key leaves the order of a key
  keeps_apart : (journal : List Event) (counter : ℕ) (e f : Entry) → is_same f.key.user_key e.key.user_key ≡ false → keeps_order opened (journal ++ Write e ∷ []) counter f ≡ keeps_order opened journal counter f
  keeps_apart journal counter e f apart =
      order_told (journal ++ Write e ∷ []) counter f
      ∙ ap (λ m. nat_lt f.key.seqno counter && nat_le (floor (journal ++ Write e ∷ [])) f.key.seqno && mark_allows m f.key.seqno f.key.value_type)
      (mark_in-write journal e f.key.user_key ∙ ap (λ b. cond b (next_mark (mark_in opened journal e.key.user_key) e.key.seqno e.key.value_type) (mark_in opened journal f.key.user_key)) apart)
      ∙ ap (λ n. nat_lt f.key.seqno counter && nat_le n f.key.seqno && mark_allows (mark_in opened journal f.key.user_key) f.key.seqno f.key.value_type) (floor-write journal e)
      ∙ sym (order_told journal counter f)

  all_apart : (journal : List Event) (counter : ℕ) (e : Entry) (es : List Entry) → list_any (is_same e.key.user_key) (entry_keys es) ≡ false → list_all (keeps_order opened journal counter) es ≡ true → list_all (keeps_order opened (journal ++ Write e ∷ []) counter) es ≡ true
  all_apart journal counter e [] apart h = refl
  all_apart journal counter e (f ∷ es) apart h =
      let other = neither (is_same e.key.user_key f.key.user_key) (list_any (is_same e.key.user_key) (entry_keys es)) apart in
      let parts = both (keeps_order opened journal counter f) (list_all (keeps_order opened journal counter) es) h in
      ap (λ b. b && list_all (keeps_order opened (journal ++ Write e ∷ []) counter) es) (keeps_apart journal counter e f (same_swap f.key.user_key e.key.user_key ∙ other.0) ∙ parts.0)
      ∙ all_apart journal counter e es other.1 parts.1

  -- what is in order of a journal, and counted
  pub record IsCounted (counter : ℕ) (journal : List Event) : Type 0 where
    pub order : InOrder opened journal
    pub counted : next_number opened journal ≤ counter

  pub write_counted : (counter : ℕ) (journal : List Event) (e : Entry) → keeps_order opened journal counter e ≡ true → IsCounted counter journal → IsCounted counter (journal ++ Write e ∷ [])
  write_counted counter journal e ok h =
      let may = may_write journal counter e ok in
      record {
        order = in_order_push opened journal (Write e) h.order may.0;
        counted = rw (fold-append next_number_after (above opened) journal (Write e ∷ [])) (let a = h.counted in let b = may.1 in omega arith);
      }

  pub batch_counted : (counter : ℕ) (es : List Entry) (journal : List Event) → list_all (keeps_order opened journal counter) es ≡ true → repeats (entry_keys es) ≡ false → IsCounted counter journal → IsCounted counter (journal ++ map Write es)
  batch_counted counter [] journal ok once h = subst (IsCounted counter) (sym (append-nil journal)) h
  batch_counted counter (e ∷ es) journal ok once h =
      let parts = both (keeps_order opened journal counter e) (list_all (keeps_order opened journal counter) es) ok in
      let apart = neither (list_any (is_same e.key.user_key) (entry_keys es)) (repeats (entry_keys es)) once in
      let here = write_counted counter journal e parts.0 h in
      subst (IsCounted counter) (append_assoc journal (Write e ∷ []) (map Write es)) (batch_counted counter es (journal ++ Write e ∷ []) (all_apart journal counter e es apart.0 parts.1) apart.1 here)

  pub mark_in-writes : (es : List Entry) (journal : List Event) (k : Bytes) → mark_in opened (journal ++ map Write es) k ≡ marked_all es (mark_in opened journal) k
  mark_in-writes [] journal k = ap (λ j. mark_in opened j k) (append-nil journal)
  mark_in-writes (e ∷ es) journal k =
      ap (λ j. mark_in opened j k) (sym (append_assoc journal (Write e ∷ []) (map Write es))) ∙ mark_in-writes es (journal ++ Write e ∷ []) k ∙ marked_all_same (mark_in opened (journal ++ Write e ∷ [])) (marked_by e (mark_in opened journal)) es (mark_in-write journal e) k
