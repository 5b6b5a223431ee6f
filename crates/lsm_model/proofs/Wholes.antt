-- All that a tree holds shows all of its journal; what tables alone show; and beginnings as maps.
use Rattle.std.proofs.Common.{◌≡◌, ℕ, ◌+◌, ◌<◌, ◌≤◌, max, Bool, true, List, [], ◌∷◌, Option, fold, length, map, refl, sym, ap, ◌∙◌, subst, arith, flat_map, lt-ltb}
use Rattle.std.specs.List.{AllByRecursion}
use Rattle.std.specs.FinMap.{get, get-empty}
use Rattle.std.proofs.Math.Seq.{take-length, drop-length}
use Rattle.lsm_below.specs.Keys.{Bytes, bytes_cmp, is_same}
use Rattle.lsm_below.specs.Entries.{Entry, above, stack, IsFalling, IsSingle}
use Rattle.lsm_model.specs.Journal.{Event, Map, value_after, replay_at, outside_after, next_number, next_of}
use Rattle.lsm_model.specs.Views.{Placed, held, entries, seen, IsLaidOut, HasDistinctIds}
use Rattle.lsm_model.specs.Steps.{State}
use Rattle.lsm_model.specs.Sound.{Holds}
use Rattle.lsm_model.specs.Beginnings.{call_after, beginning, spared_after, shown_by, Stands}
use Rattle.lsm_model.specs.declared.journal.JournalEntry.TheVariants.{Write, Clear, Install, Dropped, Mark, Read}
use Rattle.lsm_below.specs.Each.{each_weaker}
use Rattle.std.proofs.Math.Bool.{and-true}
use Rattle.lsm_model.proofs.Journals.{get-changed, above_stack, next_of-le, floor-le}
use Rattle.lsm_model.proofs.Installs.{lookup_latest}
use Rattle.lsm_model.proofs.Merges.{of_tables}
use Rattle.lsm_model.proofs.Answers.{get-map_of}
use Rattle.lsm_model.proofs.Runs.{each_above, joined_map}
use Rattle.lsm_model.proofs.Beginnings.{begun_after, begun, newest, newest_seen, Begins}

-- ---- a snapshot above all sequence numbers

abbrev pub number_in : Event → ℕ
number_in (Write e) = e.key.seqno
number_in (Clear n) = n
number_in (Install n) = n
number_in (Dropped ranges n) = n
number_in (Mark w) = 0
number_in (Read s question told) = 0

abbrev pub over : List Event → ℕ
over [] = 0
over (x ∷ journal) = max (number_in x + 1) (over journal)

value_high : (k : Bytes) (s : ℕ) (v : Option Bytes) (x : Event) → number_in x < s → value_after k s v x ≡ begun_after k v x
value_high k s v (Write e) h = rw (lt-ltb e.key.seqno s h, and-true (is_same k e.key.user_key)) refl
value_high k s v (Clear n) h = rw (lt-ltb n s h) refl
value_high k s v (Install n) h = refl
value_high k s v (Dropped ranges n) h = refl
value_high k s v (Mark w) h = refl
value_high k s v (Read at question told) h = refl

pub outside_high : (k : Bytes) (s : ℕ) (b : Bool) (x : Event) → number_in x < s → outside_after k s b x ≡ spared_after k b x
outside_high k s b (Write e) h = rw (lt-ltb e.key.seqno s h, and-true (is_same k e.key.user_key)) refl
outside_high k s b (Clear n) h = rw (lt-ltb n s h) refl
outside_high k s b (Install n) h = refl
outside_high k s b (Dropped ranges n) h = rw (lt-ltb n s h) refl
outside_high k s b (Mark w) h = refl
outside_high k s b (Read at question told) h = refl

-- above all sequence numbers the replay counts every call
replay_high : (k : Bytes) (s : ℕ) (v : Option Bytes) (journal : List Event) → over journal ≤ s → replay_at k s v journal ≡ begun k v journal
replay_high k s v [] h = refl
replay_high k s v (x ∷ journal) h = ap (λ w. replay_at k s w journal) (value_high k s v x (omega arith)) ∙ replay_high k s (begun_after k v x) journal (omega arith)

pub spared_high : (k : Bytes) (s : ℕ) (b : Bool) (journal : List Event) → over journal ≤ s → fold (outside_after k s) b journal ≡ fold (spared_after k) b journal
spared_high k s b [] h = refl
spared_high k s b (x ∷ journal) h = ap (λ c. fold (outside_after k s) c journal) (outside_high k s b x (omega arith)) ∙ spared_high k s (spared_after k b x) journal (omega arith)

-- the latest super version shows the whole journal
pub whole_begins : (opened : List Entry) (start : Map) (t : State) (k : Bytes) → Holds opened start t → Begins k (get start k) t.journal (length t.journal) (stack k (entries t.mems t.latest))
whole_begins opened start t k h safe =
    let s = over t.journal + next_number opened t.journal + above opened + 1 in
    let es = stack k (entries t.mems t.latest) in
    let f = (h.sound.fits k).0 in
    let n = next_of-le k opened t.journal in
    let below : AllByRecursion (λ e. e.key.seqno < s) es = each_weaker (λ (e : Entry). e.key.seqno < next_of k opened t.journal) _ (λ e q. omega arith) es f.below in
    let recent : t.latest.number < s = let r = h.sound.recent in let q = floor-le opened t.journal in omega arith in
    let low : above opened ≤ s = omega arith in
    let high : over t.journal ≤ s = omega arith in
    let spared : fold (spared_after k) true t.journal ≡ true = rw (take-length t.journal, drop-length t.journal) at safe in
    newest_seen s es below
    ∙ h.sound.right k s t.latest low (spared_high k s true t.journal high ∙ spared) (lookup_latest s t.latest t.older recent)
    ∙ replay_high k s (get start k) t.journal high
    ∙ ap (begun k (get start k)) (sym (take-length t.journal))

-- ---- maps

get-call_after : (m : Map) (x : Event) (k : Bytes) → get (call_after m x) k ≡ begun_after k (get m k) x
get-call_after m (Write e) k = get-changed m e k
get-call_after m (Clear n) k = get-empty bytes_cmp k
get-call_after m (Install n) k = refl
get-call_after m (Dropped ranges n) k = refl
get-call_after m (Mark w) k = refl
get-call_after m (Read s question told) k = refl

-- the beginning as a map, read at a key
pub get-beginning : (m : Map) (front : List Event) (k : Bytes) → get (beginning m front) k ≡ begun k (get m k) front
get-beginning m [] k = refl
get-beginning m (x ∷ front) k = get-beginning (call_after m x) front k ∙ ap (λ v. begun k v front) (get-call_after m x k)

pub below_above : (k : Bytes) (es : List Entry) → AllByRecursion (λ e. e.key.seqno < above es) (stack k es)
below_above k es = each_weaker _ _ (λ e q. let a = above_stack k es in omega arith) (stack k es) (each_above (stack k es))

-- what tables show, read at a key
pub get-shown_by : (tables : List Placed) (k : Bytes) → get (shown_by tables) k ≡ newest (of_tables k tables)
get-shown_by tables k =
    let s = above (held tables) in
    get-map_of k s (flat_map (λ (es : List Entry). es) (map (λ p. p.table.entries) tables))
    ∙ ap (λ es. seen s (stack k es)) (joined_map (λ (p : Placed). p.table.entries) tables)
    ∙ sym (newest_seen s (of_tables k tables) (below_above k (held tables)))

pub stands_of : (tables : List Placed) → HasDistinctIds tables → IsLaidOut tables → ((k : Bytes) → IsFalling (of_tables k tables)) → ((k : Bytes) → IsSingle (of_tables k tables)) → Stands tables
stands_of tables distinct laid falling single = record {
  distinct = distinct;
  laid = laid;
  ordered = λ k. subst (λ es. IsFalling (stack k es)) (sym (joined_map (λ (p : Placed). p.table.entries) tables)) (falling k);
  single = single;
}
