-- What is left of the tables of a run, one after the other, rises.
use Rattle.std.proofs.Common.{◌≡◌, ℕ, ◌+◌, ◌<◌, ◌≤◌, true, ◌&&◌, List, [], ◌∷◌, ◌++◌, length, get_or, take, flat_map, sym, ap, ◌∙◌, append-nil}
use Rattle.std.proofs.lemmas.Grind.{flat_map-append}
use Rattle.std.proofs.lemmas.List.{take_all, take_more}
use Rattle.std.specs.List.{All, AllByRecursion}
use Rattle.std.specs.declared.cmp.Ordering.TheVariants.{Less}
use Rattle.std.specs.declared.ops.Bound.{Bound}
use Rattle.std.specs.Ordering.{is_le}
use Rattle.std.proofs.lemmas.Bool.{and_parts}
use Rattle.std.proofs.lemmas.List.Elements.{All-head, All-tail}
use Rattle.lsm_below.specs.Keys.{Bytes, bytes_cmp, is_below}
use Rattle.lsm_below.specs.Entries.{Entry, entry_cmp}
use Rattle.lsm_below.specs.Sorted.{Rises}
use Rattle.lsm_below.specs.Lookups.{is_from, is_to, within}
use Rattle.lsm_below.specs.Ranges.{in_range}
use Rattle.lsm_below.specs.Runs.{IsRun}
use Rattle.lsm_below.specs.Orders.{below_less, le_less, less_le}
use Rattle.lsm_below.specs.Each.{each_weaker, each_append}
use Rattle.lsm_below.proofs.Rising.{rises_append}
use Rattle.lsm_tables.specs.Tables.{SeenTable, range_of}
use Rattle.lsm_iter.specs.Shown.{by_key}
use Rattle.lsm_iter.specs.Reads.{at}
use Rattle.lsm_iter.specs.Left.{copied}
use Rattle.lsm_iter.specs.Trims.{counts}
use Rattle.lsm_iter.specs.Sound.{IsSound}
use Rattle.lsm_iter.proofs.Rises.{rises_filter}
use Rattle.lsm_iter.proofs.Tops.{each_first, each_counted, rises_tops}

-- ---- tables

module _ (low high : Bound Bytes) (s : ℕ) where
  abbrev pub left_in : SeenTable → List Entry
  left_in t = copied low high (at s t.entries)

  left_covered : (t : SeenTable) → IsSound t → AllByRecursion (λ e. in_range e.key.user_key (range_of t.entries) ≡ true) (left_in t)
  left_covered t sound =
      let P : Entry → Type 0 = λ e. in_range e.key.user_key (range_of t.entries) ≡ true in
      let inside : List Entry = within low high t.entries in
      each_first P _ (each_counted P (counts s) inside (each_counted P (λ e. is_from low e.key.user_key && is_to high e.key.user_key) t.entries sound.covered))

  left_rises : (t : SeenTable) → IsSound t → Rises by_key (left_in t)
  left_rises t sound = rises_tops s (within low high t.entries) (rises_filter entry_cmp (λ e. is_from low e.key.user_key && is_to high e.key.user_key) t.entries sound.rises)

  -- what comes after the greatest key of a range comes after all keys in it
  all_later : (e : Entry) (max : Bytes) → is_le (bytes_cmp e.key.user_key max) ≡ true → (ts : List SeenTable) → AllByRecursion (λ t. is_below max (range_of t.entries).min ≡ true) ts → All IsSound ts → AllByRecursion (λ f. by_key e f ≡ Less) (flat_map left_in ts)
  all_later e max le [] below sound = tt
  all_later e max le (t ∷ ts) below sound =
      let first : bytes_cmp e.key.user_key (range_of t.entries).min ≡ Less = le_less e.key.user_key max (range_of t.entries).min le (below_less max (range_of t.entries).min below.0) in
      each_append (λ f. by_key e f ≡ Less) (left_in t) (flat_map left_in ts)
      (each_weaker (λ f. in_range f.key.user_key (range_of t.entries) ≡ true) (λ f. by_key e f ≡ Less)
      (λ f inside. less_le e.key.user_key (range_of t.entries).min f.key.user_key first (and_parts (is_le (bytes_cmp (range_of t.entries).min f.key.user_key)) (is_le (bytes_cmp f.key.user_key (range_of t.entries).max)) inside).0) (left_in t) (left_covered t (All-head IsSound t ts sound)))
      (all_later e max le ts below.1 (All-tail IsSound t ts sound))

  pub run_rises : (ts : List SeenTable) → IsRun (λ t. range_of t.entries) ts → All IsSound ts → Rises by_key (flat_map left_in ts)
  run_rises [] run sound = tt
  run_rises (t ∷ ts) run sound =
      let here = All-head IsSound t ts sound in
      let behind = All-tail IsSound t ts sound in
      rises_append by_key (left_in t) (flat_map left_in ts) (left_rises t here) (run_rises ts run.2 behind)
      (each_weaker (λ e. in_range e.key.user_key (range_of t.entries) ≡ true) (λ e. AllByRecursion (λ f. by_key e f ≡ Less) (flat_map left_in ts))
      (λ e inside. all_later e (range_of t.entries).max (and_parts (is_le (bytes_cmp (range_of t.entries).min e.key.user_key)) (is_le (bytes_cmp e.key.user_key (range_of t.entries).max)) inside).1 ts run.1 behind) (left_in t) (left_covered t here))

  -- one table more
  pub left_more : (ts : List SeenTable) (i : ℕ) (t : SeenTable) → i < length ts → t ≡ get_or ts i t → flat_map left_in (take (i + 1) ts) ≡ flat_map left_in (take i ts) ++ left_in t
  left_more ts i t lt is =
      ap (flat_map left_in) (take_more ts i t lt ∙ ap (λ u. take i ts ++ u ∷ []) (sym is)) ∙ flat_map-append left_in (take i ts) (t ∷ []) ∙ ap (λ l. flat_map left_in (take i ts) ++ l) (append-nil (left_in t))

  -- of which what is left stands after what is left of those before it
  pub left_kept : (ts : List SeenTable) (i : ℕ) (t : SeenTable) (old part new : List Entry) → i < length ts → t ≡ get_or ts i t → new ≡ old ++ part → part ≡ left_in t → old ≡ flat_map left_in (take i ts) → new ≡ flat_map left_in (take (i + 1) ts)
  left_kept ts i t old part new lt is pushed left before = pushed ∙ ap (λ l. old ++ l) left ∙ ap (λ l. l ++ left_in t) before ∙ sym (left_more ts i t lt is)

  -- and of all of them
  pub left_whole : (ts : List SeenTable) (i : ℕ) (all : List Entry) → length ts ≤ i → all ≡ flat_map left_in (take i ts) → all ≡ flat_map left_in ts
  left_whole ts i all le is = is ∙ ap (flat_map left_in) (take_all i ts le)
