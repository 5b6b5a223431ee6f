-- One batch alone: it is in order on a new tree, and its replay counts all of it.
use Rattle.std.proofs.Common.{◌≡◌, ℕ, ◌<◌, true, List, [], ◌∷◌, ◌++◌, fold, map, reverse, refl, sym, ap, ◌∙◌, subst, arith, append-nil, lt-ltb}
use Rattle.std.specs.List.{AllByRecursion}
use Rattle.lsm_logged.specs.Each.{each_filter}
use Rattle.lsm_logged.specs.Entries.{Entry, stack, IsFalling, IsSingle}
use Rattle.lsm_logged.specs.Keys.{Bytes, is_same}
use Rattle.lsm_logged.specs.Beginnings.{beginning, spared_after}
use Rattle.lsm_logged.specs.Journal.{Map, InOrder, changed, map_after, replay}
use Rattle.lsm_logged.specs.JournalEntry.TheVariants.{Write}
use Rattle.lsm_model.proofs.Counted.{or_true}
use Rattle.lsm_logged.specs.Records.{Batch, HasDistinctKeys, IsRising, LogImage, LogStands, counted, entries_in, entries_of, opened_by}
use Rattle.lsm_logged.specs.Replays.{ReplaysAreInOrder}
use Rattle.lsm_log_model.proofs.Batches.{batch_falls, each_entry, each_reverse, since_all}

-- of entries that fall, and have one number, there is one at most
single_falling : (n : ℕ) (es : List Entry) → IsFalling es → AllByRecursion (λ e. e.key.seqno ≡ n) es → IsSingle es
single_falling n [] f h = tt
single_falling n (e ∷ []) f h = (λ w. omega arith, tt)
single_falling n (e ∷ (g ∷ es)) f h = let lt : g.key.seqno < e.key.seqno = f.0.0 in let a : e.key.seqno ≡ n = h.0 in let b : g.key.seqno ≡ n = h.1.0 in absurd (omega (arith, lt, a, b))

-- the record of a batch, and nothing else
abbrev one_image : Batch → LogImage
one_image b = record { tables = []; log_from = 0; records = b ∷ [] }

all_counts : (b : Batch) → counted (one_image b) ≡ b ∷ []
all_counts b = since_all 0 (b ∷ []) (omega arith, tt)

one_stands : (b : Batch) → HasDistinctKeys b → LogStands (one_image b)
one_stands b distinct =
    let opened : opened_by (one_image b) ≡ reverse (entries_of b) = ap (λ bs. reverse (entries_in bs) ++ []) (all_counts b) ∙ append-nil (reverse (entries_in (b ∷ []))) ∙ ap reverse (append-nil (entries_of b)) in
    record {
      stands = record { distinct = tt; laid = record { covers = tt; by_level = tt }; ordered = λ k. tt; single = λ k. tt };
      passed = omega arith;
      rising = subst IsRising (sym (all_counts b)) (tt, tt);
      distinct = subst (AllByRecursion HasDistinctKeys) (sym (all_counts b)) (distinct, tt);
      single = λ k. subst (λ es. IsSingle (stack k es)) (sym opened)
          (single_falling b.number (stack k (reverse (entries_of b))) (batch_falls k b.number b.ops distinct)
          (each_filter (λ e. e.key.seqno ≡ b.number) (λ e. is_same k e.key.user_key) (reverse (entries_of b)) (each_reverse (λ (e : Entry). e.key.seqno ≡ b.number) (entries_of b) (each_entry (λ m. m ≡ b.number) b refl))));
    }

pub in_order : ReplaysAreInOrder → (b : Batch) → HasDistinctKeys b → InOrder [] (map Write (entries_of b))
in_order replays b distinct = subst (λ es. InOrder [] (map Write es)) (ap entries_in (all_counts b) ∙ append-nil (entries_of b)) (replays (one_image b) (one_stands b distinct))

-- writes drop nothing
pub spared_writes : (k : Bytes) (es : List Entry) → fold (spared_after k) true (map Write es) ≡ true
spared_writes k [] = refl
spared_writes k (e ∷ es) = ap (λ b. fold (spared_after k) b (map Write es)) (or_true (is_same k e.key.user_key)) ∙ spared_writes k es

counts : (s : ℕ) (m : Map) (e : Entry) → e.key.seqno < s → map_after s m (Write e) ≡ changed m e
counts s m e h = rw (lt-ltb e.key.seqno s h) refl

-- above their numbers all writes count
pub replay_writes : (s : ℕ) (m : Map) (es : List Entry) → AllByRecursion (λ e. e.key.seqno < s) es → replay m (map Write es) s ≡ beginning m (map Write es)
replay_writes s m [] h = refl
replay_writes s m (e ∷ es) h = ap (λ n. replay n (map Write es) s) (counts s m e h.0) ∙ replay_writes s (changed m e) es h.1
