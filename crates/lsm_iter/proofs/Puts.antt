-- Cursors for sources, one after the other.
use Rattle.std.proofs.Common.{◌≡◌, ℕ, ◌+◌, ◌<◌, get_or, take, drop, Bor, Option, option_to_list, Bool, true, false, cond, List, [], ◌∷◌, ◌++◌, length, map, flat_map, ◌&&◌, refl, sym, ap, ◌∙◌, subst, arith, append-nil, append_assoc, ltb}
use Rattle.std.specs.List.{All, AllByRecursion}
use Rattle.std.specs.declared.ops.Bound.{Bound}
use Rattle.std.proofs.lemmas.Grind.{flat_map-append}
use Rattle.std.proofs.lemmas.List.{map_more, map-append, take_more, take-append-drop, length-append}
use Rattle.std.proofs.lemmas.List.Folds.{flat_map-map}
use Rattle.std.proofs.lemmas.List.Elements.{All-append, All-map, All-weaker, All-nil, All-cons, All-head, All-tail, All-from_recursion, recursion_from_All, filter-append}
use Rattle.lsm_below.specs.Each.{each_left, each_right, each_both}
use Rattle.lsm_below.specs.Keys.{Bytes}
use Rattle.lsm_below.specs.Entries.{Entry, entry_cmp, stack, HasBytes}
use Rattle.lsm_below.specs.Streams.{is_of}
use Rattle.lsm_below.specs.Sorted.{Rises}
use Rattle.lsm_below.specs.Laws.{EntriesAreOrdered, MergesByKey}
use Rattle.lsm_below.specs.Lookups.{within, is_from, is_to}
use Rattle.lsm_model.specs.Laws.{MapsAreRead}
use Rattle.lsm_below.specs.Optimizes.{tables_of}
use Rattle.lsm_tables.specs.Tables.{SeenTable, IsCovered}
use Rattle.lsm_versions.specs.Levels.{Levels, SeenVersion, IsVersion, all_of, range, tables_shown}
use Rattle.lsm_memtable.specs.Memtables.{SeenMemtable}
use Rattle.lsm_iter.specs.Reads as reads
use Rattle.lsm_iter.specs.Reads.{Part, at, parts_at, state_of, index_of, counted, all_counted, cut}
use Rattle.lsm_iter.specs.Shown.{Shows}
use Rattle.lsm_iter.specs.Left.{SeenCursor, copied, copies, copied_within, left_of, held_in, newest_in, shown_list}
use Rattle.lsm_iter.specs.Puts.{AddsCursors, PutsCursors, number_copied, owned_of}
use Rattle.lsm_iter.specs.Sound.{IsSound}
use Rattle.lsm_iter.proofs.Rises.{rises_filter}
use Rattle.lsm_iter.proofs.Shown.{filter_swap}
use Rattle.lsm_iter.proofs.Newest.{newer, newest_append, shown_all, shows_same}
use Rattle.lsm_iter.proofs.Firsts.{tops_newest}

module _ (low high : Bound Bytes) where
  abbrev rises : Part → Type 0
  rises part = Rises entry_cmp (within low high part.entries)

  pub adds_then : (parts more : List Part) (n m : ℕ) (a b c : List SeenCursor) → AddsCursors low high parts n a b → AddsCursors low high more m b c → AddsCursors low high (parts ++ more) (n + m) a c
  adds_then parts more n m a b c h k = record {
    left = k.left ∙ ap (λ l. l ++ flat_map (copied low high) more) h.left ∙ append_assoc (left_of a) (flat_map (copied low high) parts) (flat_map (copied low high) more) ∙ ap (λ l. left_of a ++ l) (sym (flat_map-append (copied low high) parts more));
    held = let one = h.held in let two = k.held in omega arith;
    rise = All-append rises parts more h.rise k.rise;
  }

  -- the same, with the bytes of keys
  pub puts_then : (parts more : List Part) (n m : ℕ) (a b c : List SeenCursor) → PutsCursors low high parts n a b → PutsCursors low high more m b c → PutsCursors low high (parts ++ more) (n + m) a c
  puts_then parts more n m a b c h k = record { adds = adds_then parts more n m a b c h.adds k.adds; bytes = λ all. k.bytes (h.bytes all) }

  -- ---- what they show

  one_counted : (p : Part) → counted (cut low high p) ≡ within low high (counted p)
  one_counted p = filter_swap (λ e. ltb e.key.seqno p.below) (λ e. is_from low e.key.user_key && is_to high e.key.user_key) p.entries

  module _ (entries : EntriesAreOrdered) (merging : MergesByKey) where
    pub copies_newest : (parts : List Part) → All rises parts → (k : Bytes) → newest_in (stack k (flat_map (copied low high) parts)) ≡ newest_in (stack k (within low high (all_counted parts)))
    copies_newest [] h k = refl
    copies_newest (p ∷ parts) h k =
        ap newest_in (filter-append (is_of k) (copied low high p) (flat_map (copied low high) parts))
        ∙ newest_append (stack k (copied low high p)) (stack k (flat_map (copied low high) parts))
        ∙ ap (λ o. newer o (newest_in (stack k (flat_map (copied low high) parts)))) (tops_newest entries merging (cut low high p) (All-head rises p parts h) k ∙ ap (λ l. newest_in (stack k l)) (one_counted p))
        ∙ ap (newer (newest_in (stack k (within low high (counted p))))) (copies_newest parts (All-tail rises p parts h) k)
        ∙ sym (newest_append (stack k (within low high (counted p))) (stack k (within low high (all_counted parts))))
        ∙ ap newest_in (sym (filter-append (is_of k) (within low high (counted p)) (within low high (all_counted parts))))
        ∙ ap (λ l. newest_in (stack k l)) (sym (filter-append (λ e. is_from low e.key.user_key && is_to high e.key.user_key) (counted p) (all_counted parts)))

    pub copies_show : MapsAreRead → (parts : List Part) → All rises parts → Shows low high (all_counted parts) (shown_list (flat_map (copied low high) parts))
    copies_show maps parts h = shows_same maps low high (all_counted parts) (flat_map (copied low high) parts) (copies_newest parts h)

-- ---- memtables, one after the other

number_append : (low high : Bound Bytes) (xs ys : List Part) → number_copied low high (xs ++ ys) ≡ number_copied low high xs + number_copied low high ys
number_append low high xs ys = ap length (flat_map-append (copied low high) xs ys) ∙ length-append (flat_map (copied low high) xs) (flat_map (copied low high) ys)

owned_append : (copy : Bool) (low high : Bound Bytes) (xs ys : List Part) → owned_of copy low high (xs ++ ys) ≡ owned_of copy low high xs + owned_of copy low high ys
owned_append true low high xs ys = number_append low high xs ys
owned_append false low high xs ys = refl

pub memtable_put : (copy : Bool) (low high : Bound Bytes) (s : ℕ) (ms : List (Bor SeenMemtable)) (i : ℕ) (m : Bor SeenMemtable) (a b c : List SeenCursor) → i < length ms → m ≡ get_or ms i m
    → PutsCursors low high (map (λ m. at s m.now.entries) (take i ms)) (owned_of copy low high (map (λ m. at s m.now.entries) (take i ms))) a b → PutsCursors low high (at s m.now.entries ∷ []) (owned_of copy low high (at s m.now.entries ∷ [])) b c
    → PutsCursors low high (map (λ m. at s m.now.entries) (take (i + 1) ms)) (owned_of copy low high (map (λ m. at s m.now.entries) (take (i + 1) ms))) a c
memtable_put copy low high s ms i m a b c lt is h k =
    let f = λ (m : Bor SeenMemtable). at s m.now.entries in
    let front = map f (take i ms) in
    let more : map f (take (i + 1) ms) ≡ front ++ f m ∷ [] = map_more f ms i m lt ∙ ap (λ x. front ++ f x ∷ []) (sym is) in
    subst (λ parts. PutsCursors low high parts (owned_of copy low high parts) a c) (sym more)
    (subst (λ n. PutsCursors low high (front ++ f m ∷ []) n a c) (sym (owned_append copy low high front (f m ∷ []))) (puts_then low high front (f m ∷ []) (owned_of copy low high front) (owned_of copy low high (f m ∷ [])) a b c h k))

-- ---- runs of tables, one after the other

abbrev part_at : ℕ → SeenTable → Part
part_at s t = at s t.entries

pub tables_left : (low high : Bound Bytes) (s : ℕ) (ts : List SeenTable) → flat_map (λ t. copied low high (at s t.entries)) ts ≡ flat_map (copied low high) (map (part_at s) ts)
tables_left low high s ts = sym (flat_map-map (copied low high) (part_at s) ts)

pub tables_rise : (low high : Bound Bytes) (s : ℕ) (ts : List SeenTable) → All (λ t. Rises entry_cmp t.entries) ts → All (rises low high) (map (part_at s) ts)
tables_rise low high s ts h = All-map (rises low high) (part_at s) ts (All-weaker (λ t. Rises entry_cmp t.entries) (λ t. Rises entry_cmp (within low high t.entries)) (λ t r. rises_filter entry_cmp (λ e. is_from low e.key.user_key && is_to high e.key.user_key) t.entries r) ts h)

-- what one reader puts: a part of a memtable, or a run
module _ (low high : Bound Bytes) (old new : List SeenCursor) (c : SeenCursor) (left : left_of new ≡ left_of old ++ c.left) (held : held_in new ≡ held_in old + c.held) (bytes : All HasBytes c.left) where
  puts_parts : (parts : List Part) (n : ℕ) → c.left ≡ copies low high parts → c.held ≡ n → All (rises low high) parts → PutsCursors low high parts n old new
  puts_parts parts n is owns rise = record {
    adds = record { left = left ∙ ap (λ l. left_of old ++ l) is; held = held ∙ ap (λ k. held_in old + k) owns; rise = rise };
    bytes = λ all. subst (All HasBytes) (sym left) (All-append HasBytes (left_of old) c.left all bytes);
  }

  pub puts_part : (copy : Bool) (part : Part) → c.left ≡ copied low high part → c.held ≡ cond copy (length c.left) 0 → rises low high part → PutsCursors low high (part ∷ []) (owned_of copy low high (part ∷ [])) old new
  puts_part copy part is owns rise =
      puts_parts (part ∷ []) (owned_of copy low high (part ∷ [])) (is ∙ sym (append-nil (copied low high part))) (owns ∙ ap (λ l. cond copy (length l) 0) (is ∙ sym (append-nil (copied low high part))))
      (All-cons (rises low high) part [] rise (All-nil (rises low high)))

  pub puts_run : (s : ℕ) (run : List SeenTable) → c.left ≡ flat_map (λ t. copied low high (at s t.entries)) run → c.held ≡ 0 → All IsSound run → PutsCursors low high (map (part_at s) run) 0 old new
  puts_run s run is owns sound = puts_parts (map (part_at s) run) 0 (is ∙ tables_left low high s run) owns (tables_rise low high s run (All-weaker IsSound (λ t. Rises entry_cmp t.entries) (λ t h. h.rises) run sound))

-- a reader of which nothing is left owns nothing
pub none_owned : (copy : Bool) (l : List Entry) → l ≡ [] → cond copy (length l) 0 ≡ 0
none_owned copy (e ∷ l) none = absurd (cc none)
none_owned true [] none = refl
none_owned false [] none = refl

-- one run more, of a level or of all
puts_more : (low high : Bound Bytes) (s : ℕ) (ts more all : List SeenTable) (a b c : List SeenCursor) → all ≡ ts ++ more → PutsCursors low high (map (part_at s) ts) 0 a b → PutsCursors low high (map (part_at s) more) 0 b c → PutsCursors low high (map (part_at s) all) 0 a c
puts_more low high s ts more all a b c is h k =
    subst (λ l. PutsCursors low high (map (part_at s) l) 0 a c) (sym is)
    (subst (λ parts. PutsCursors low high parts 0 a c) (sym (map-append (part_at s) ts more)) (puts_then low high (map (part_at s) ts) (map (part_at s) more) 0 0 a b c h k))

runs_more : (runs : List (List SeenTable)) (i : ℕ) (run : List SeenTable) → i < length runs → run ≡ get_or runs i run → tables_of (take (i + 1) runs) ≡ tables_of (take i runs) ++ run
runs_more runs i run lt is =
    ap tables_of (take_more runs i run lt ∙ ap (λ x. take i runs ++ x ∷ []) (sym is)) ∙ flat_map-append (λ r. r) (take i runs) (run ∷ []) ∙ ap (λ l. tables_of (take i runs) ++ l) (append-nil run)

levels_more : (levels : Levels) (i : ℕ) (level : List (List SeenTable)) → i < length levels → level ≡ get_or levels i level → all_of (take (i + 1) levels) ≡ all_of (take i levels) ++ tables_of level
levels_more levels i level lt is =
    ap all_of (take_more levels i level lt ∙ ap (λ x. take i levels ++ x ∷ []) (sym is))
    ∙ ap tables_of (flat_map-append (λ r. r) (take i levels) (level ∷ []) ∙ ap (λ l. tables_of (take i levels) ++ l) (append-nil level))
    ∙ flat_map-append (λ r. r) (tables_of (take i levels)) level

module _ (low high : Bound Bytes) (s : ℕ) (i : ℕ) (a b c : List SeenCursor) where
  pub run_put : (runs : List (List SeenTable)) (run : List SeenTable) → i < length runs → run ≡ get_or runs i run → PutsCursors low high (map (part_at s) (tables_of (take i runs))) 0 a b → PutsCursors low high (map (part_at s) run) 0 b c
      → PutsCursors low high (map (part_at s) (tables_of (take (i + 1) runs))) 0 a c
  run_put runs run lt is h k = puts_more low high s (tables_of (take i runs)) run (tables_of (take (i + 1) runs)) a b c (runs_more runs i run lt is) h k

  pub level_put : (levels : Levels) (level runs : List (List SeenTable)) → i < length levels → level ≡ get_or levels i level → runs ≡ level → PutsCursors low high (map (part_at s) (all_of (take i levels))) 0 a b → PutsCursors low high (map (part_at s) (tables_of runs)) 0 b c
      → PutsCursors low high (map (part_at s) (all_of (take (i + 1) levels))) 0 a c
  level_put levels level runs lt is same h k =
      puts_more low high s (all_of (take i levels)) (tables_of runs) (all_of (take (i + 1) levels)) a b c (levels_more levels i level lt is ∙ ap (λ l. all_of (take i levels) ++ tables_of l) (sym same)) h k

-- ---- what holds of all tables holds of those of a run, and of a level

sound_part : (whole before part behind : List SeenTable) → whole ≡ (before ++ part) ++ behind → All IsSound whole → All IsSound part
sound_part whole before part behind is h =
    All-from_recursion IsSound part (each_right IsSound before part (each_left IsSound (before ++ part) behind (subst (AllByRecursion IsSound) is (recursion_from_All IsSound whole h))))

pub run_sound : (runs : List (List SeenTable)) (i : ℕ) (run : List SeenTable) → i < length runs → run ≡ get_or runs i run → All IsSound (tables_of runs) → All IsSound run
run_sound runs i run lt is h =
    sound_part (tables_of runs) (tables_of (take i runs)) run (tables_of (drop (i + 1) runs))
    (sym (ap tables_of (take-append-drop (i + 1) runs)) ∙ flat_map-append (λ r. r) (take (i + 1) runs) (drop (i + 1) runs) ∙ ap (λ l. l ++ tables_of (drop (i + 1) runs)) (runs_more runs i run lt is)) h

pub level_sound : (levels : Levels) (i : ℕ) (level : List (List SeenTable)) → i < length levels → level ≡ get_or levels i level → All IsSound (all_of levels) → All IsSound (tables_of level)
level_sound levels i level lt is h =
    sound_part (all_of levels) (all_of (take i levels)) (tables_of level) (all_of (drop (i + 1) levels))
    (sym (ap all_of (take-append-drop (i + 1) levels)) ∙ ap tables_of (flat_map-append (λ r. r) (take (i + 1) levels) (drop (i + 1) levels))
    ∙ flat_map-append (λ r. r) (tables_of (take (i + 1) levels)) (tables_of (drop (i + 1) levels)) ∙ ap (λ l. l ++ all_of (drop (i + 1) levels)) (levels_more levels i level lt is)) h

pub version_sound : (levels : Levels) → IsVersion levels → All IsSound (all_of levels)
version_sound levels v =
    All-from_recursion IsSound (all_of levels) (each_both (λ t. IsCovered t.entries (range t)) (λ t. Rises entry_cmp t.entries) IsSound (λ t covered rises. record { rises = rises; covered = covered }) (all_of levels) v.covered v.rising)

pub shown_parts : (s : ℕ) (v : SeenVersion) (ts : List SeenTable) → ts ≡ all_of v.levels → map (λ t. t.entries) ts ≡ tables_shown v.levels → map (part_at s) (all_of v.levels) ≡ map (at s) (reads.tables_of v)
shown_parts s v ts is shown = ap (map (part_at s)) (sym is) ∙ twice ts ∙ ap (map (at s)) shown
  where
    twice : (xs : List SeenTable) → map (part_at s) xs ≡ map (at s) (map (λ t. t.entries) xs)
    twice [] = refl
    twice (x ∷ xs) = ap (λ l. at s x.entries ∷ l) (twice xs)

-- ---- cursors of all sources

seen_parts : (s : ℕ) (ms : List (Bor SeenMemtable)) → map (λ m. at s m.now.entries) ms ≡ map (at s) (map (λ m. m.now.entries) ms)
seen_parts s [] = refl
seen_parts s (m ∷ ms) = ap (λ l. at s m.now.entries ∷ l) (seen_parts s ms)

module _ (low high : Bound Bytes) (s : ℕ) (version : SeenVersion) (memtables : List (Bor SeenMemtable)) (overlay : Option (Bor SeenMemtable × ℕ)) (a b c d : List SeenCursor) where
  abbrev top : List Part
  top = option_to_list (index_of overlay)

  abbrev mid : List Part
  mid = map (λ (m : Bor SeenMemtable). at s m.now.entries) memtables

  abbrev under : List Part
  under = map (at s) (reads.tables_of version)

  abbrev all_parts : List Part
  all_parts = parts_at s (state_of version memtables overlay)

  adds_all : (n m : ℕ) → AddsCursors low high top n a b → AddsCursors low high mid m b c → AddsCursors low high under 0 c d → AddsCursors low high all_parts (n + (m + 0)) a d
  adds_all n m h k t =
      let parts : top ++ (mid ++ under) ≡ all_parts = ap (λ l. top ++ l) (ap (λ l. l ++ under) (seen_parts s memtables) ∙ sym (map-append (at s) (map (λ m. m.now.entries) memtables) (reads.tables_of version))) in
      subst (λ l. AddsCursors low high l (n + (m + 0)) a d) parts (adds_then low high top (mid ++ under) n (m + 0) a b d h (adds_then low high mid under m 0 b c d k t))

  pub puts_all : (copy : Bool) → PutsCursors low high top (owned_of copy low high top) a b → PutsCursors low high mid (owned_of copy low high mid) b c → PutsCursors low high under 0 c d
      → PutsCursors low high all_parts (cond copy (copied_within low high s (state_of version memtables overlay)) 0) a d
  puts_all copy h k t =
      let owned : owned_of copy low high top + (owned_of copy low high mid + 0) ≡ owned_of copy low high (top ++ map (at s) (map (λ m. m.now.entries) memtables)) =
      (let sum = owned_append copy low high top (map (at s) (map (λ m. m.now.entries) memtables)) in
      let same : owned_of copy low high mid ≡ owned_of copy low high (map (at s) (map (λ m. m.now.entries) memtables)) = ap (owned_of copy low high) (seen_parts s memtables) in omega arith) in
      subst (λ n. PutsCursors low high all_parts n a d) owned
      (record { adds = adds_all (owned_of copy low high top) (owned_of copy low high mid) h.adds k.adds t.adds; bytes = λ all. t.bytes (k.bytes (h.bytes all)) })

-- what readers show of a state, and own
pub readers_show : (entries : EntriesAreOrdered) (merging : MergesByKey) → MapsAreRead → (low high : Bound Bytes) (parts : List Part) (n : ℕ) (readers : List SeenCursor) → PutsCursors low high parts n [] readers
    → Shows low high (all_counted parts) (shown_list (left_of readers)) × All HasBytes (shown_list (left_of readers)) × (held_in readers ≡ n)
readers_show entries merging maps low high parts n readers puts =
    (subst (λ l. Shows low high (all_counted parts) (shown_list l)) (sym puts.adds.left) (copies_show low high entries merging maps parts puts.adds.rise), shown_all HasBytes (left_of readers) (puts.bytes (All-nil HasBytes)), (let held = puts.adds.held in omega arith))
