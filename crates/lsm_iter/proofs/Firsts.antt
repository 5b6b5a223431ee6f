-- The newest entry of each key, of entries in order.
use Rattle.std.proofs.Common.{◌≡◌, ℕ, ◌≤◌, true, false, cond, ◌&&◌, List, [], ◌∷◌, length, Option, Some, None, refl, sym, ap, ◌∙◌, subst, arith, ltb}
use Rattle.std.specs.List.{All, AllByRecursion}
use Rattle.std.proofs.lemmas.Bool.{le-ltb}
use Rattle.std.proofs.lemmas.List.Elements.{All-from_recursion, All-contains, All-filter, All-cons, All-head, All-tail, recursion_from_All, filter_passes}
use Rattle.lsm_below.specs.Keys.{Bytes}
use Rattle.lsm_below.specs.Entries.{Entry, entry_cmp, stack, later}
use Rattle.lsm_below.specs.Sorted.{Rises}
use Rattle.lsm_below.specs.Streams.{IsInOrder, first_of, is_of}
use Rattle.lsm_below.specs.Slots.{firsts, changes, same_key}
use Rattle.lsm_below.specs.Lookups.{within, is_from, is_to}
use Rattle.std.specs.declared.ops.Bound.{Bound}
use Rattle.lsm_below.specs.Laws.{EntriesAreOrdered, MergesByKey}
use Rattle.lsm_below.specs.KeptLaws.{ascends}
use Rattle.lsm_iter.specs.Shown.{by_key, IsNewestOf}
use Rattle.lsm_iter.specs.Reads.{Part, at, counted, cut}
use Rattle.lsm_iter.specs.Left.{tops, copied, newest_in}
use Rattle.lsm_iter.proofs.Rises.{rises_filter}
use Rattle.lsm_iter.proofs.Shown.{lowers, rises_keys}
use Rattle.lsm_iter.proofs.Newest.{newest_is}

-- of entries in order, none of which is newer than the first, that is the newest
first_newest : (x : Entry) (xs : List Entry) → AllByRecursion (λ f. f.key.seqno ≤ x.key.seqno) xs → Some x ≡ later x (newest_in xs)
first_newest x xs low = go (newest_in xs) (newest_is xs)
  where
    go : (o : Option Entry) → IsNewestOf xs o → Some x ≡ later x o
    go None h = refl
    go (Some g) h = sym (ap (λ b. cond b (Some g) (Some x)) (le-ltb x.key.seqno g.key.seqno (All-contains (λ f. f.key.seqno ≤ x.key.seqno) xs g (All-from_recursion (λ f. f.key.seqno ≤ x.key.seqno) xs low) h.0)))

few : (s : List Entry) → length (first_of s) ≤ 1
few [] = omega arith
few (x ∷ xs) = omega arith

module _ (entries : EntriesAreOrdered) (merging : MergesByKey) (es : List Entry) (rises : Rises entry_cmp es) where
  first_is : (k : Bytes) (s : List Entry) → IsInOrder s → AllByRecursion (λ f. is_of k f ≡ true) s → newest_in (first_of s) ≡ newest_in s
  first_is k [] order of = refl
  first_is k (x ∷ xs) order of = first_newest x xs (lowers entries k x xs of.0 of.1 order.0)

  firsts_newest : (k : Bytes) → newest_in (stack k (firsts es)) ≡ newest_in (stack k es)
  firsts_newest k =
      ap newest_in ((merging.firsts es (ascends es rises)).stacks k)
      ∙ first_is k (stack k es) (ascends (stack k es) (rises_filter entry_cmp (is_of k) es rises)) (recursion_from_All (λ f. is_of k f ≡ true) (stack k es) (filter_passes (is_of k) es))

  firsts_rise : Rises by_key (firsts es)
  firsts_rise =
      let by = merging.firsts es (ascends es rises) in
      rises_keys (firsts es) by.in_order (λ k. subst (λ l. length l ≤ 1) (sym (by.stacks k)) (few (stack k es)))

-- the same of those that count
module _ (entries : EntriesAreOrdered) (merging : MergesByKey) (part : Part) (rises : Rises entry_cmp part.entries) where
  counted_rise : Rises entry_cmp (counted part)
  counted_rise = rises_filter entry_cmp (λ e. ltb e.key.seqno part.below) part.entries rises

  pub tops_newest : (k : Bytes) → newest_in (stack k (tops part)) ≡ newest_in (stack k (counted part))
  tops_newest = firsts_newest entries merging (counted part) counted_rise

  pub tops_rise : Rises by_key (tops part)
  tops_rise = firsts_rise entries merging (counted part) counted_rise

-- ---- what all entries have, the first of each key have

changes_all : (P : Entry → Type 0) (e : Entry) (es : List Entry) → All P es → All P (changes e es)
changes_all P e [] h = h
changes_all P e (f ∷ es) h = elim (same_key e f) as (λ b. All P (cond b (changes e es) (f ∷ changes f es))) [
  | true ↦ changes_all P e es (All-tail P f es h)
  | false ↦ All-cons P f (changes f es) (All-head P f es h) (changes_all P f es (All-tail P f es h))
]

firsts_all : (P : Entry → Type 0) (es : List Entry) → All P es → All P (firsts es)
firsts_all P [] h = h
firsts_all P (e ∷ es) h = All-cons P e (changes e es) (All-head P e es h) (changes_all P e es (All-tail P e es h))

-- those of a part too
pub tops_all : (P : Entry → Type 0) (s : ℕ) (es : List Entry) → All P es → All P (tops (at s es))
tops_all P s es h = firsts_all P (counted (at s es)) (All-filter (λ e. ltb e.key.seqno s) P es h)

pub copied_all : (P : Entry → Type 0) (low high : Bound Bytes) (s : ℕ) (es : List Entry) → AllByRecursion P es → All P (copied low high (at s es))
copied_all P low high s es h =
    firsts_all P (counted (cut low high (at s es)))
    (All-filter (λ e. ltb e.key.seqno s) P (within low high es) (All-filter (λ e. is_from low e.key.user_key && is_to high e.key.user_key) P es (All-from_recursion P es h)))
