-- What is shown, in the theory's words: the answer of a map.
use Rattle.std.specs.Prelude.{◌≡◌, ℕ, ◌≤◌, Bool, List, [], ◌∷◌, map, flat_map, filter, option_to_list, IfSome}
use Rattle.std.specs.List.{AllByRecursion, Contains}
use Rattle.std.specs.FinMap.{entries, get}
use Rattle.std.specs.declared.ops.Bound.{Bound}
use Rattle.lsm_below.specs.Keys.{Bytes}
use Rattle.lsm_below.specs.Entries.{Entry, entry_cmp, above, IsOrdered}
use Rattle.lsm_below.specs.Sorted.{Rises}
use Rattle.lsm_model.specs.Journal.{Map, changed, answer}
use Rattle.lsm_model.specs.Views.{view, view_at, EachPair}
use Rattle.lsm_model.specs.declared.question.Question.TheVariants.{Between, Prefix}
use Rattle.lsm_model.specs.declared.question.Answer.TheVariants.{Pairs}
use Rattle.lsm_iter.specs.Guards.{Pair, pair_of}
use Rattle.lsm_iter.specs.Shown.{ShowsOf, Shows, ShowsPrefix}
use Rattle.lsm_iter.specs.Reads.{SeenState, at, all_counted, tree_of, counted_at}

-- the pairs of a map whose keys pass a test
abbrev pub pairs_of : (Bytes → Bool) → Map → List Pair
pairs_of test m = filter (λ p. test p.0) (entries m)

-- no key and sequence number stand in both lists
abbrev pub AreApart : List Entry → List Entry → Type 0
AreApart xs ys = (e f : Entry) → Contains xs e → Contains ys f → e.key.user_key ≡ f.key.user_key → e.key.seqno ≡ f.key.seqno → ⊥

-- each source is in order, and no key and sequence number stand in two sources
pub record StandOnce (sources : List (List Entry)) : Type 0 where
  pub rise : AllByRecursion (Rises entry_cmp) sources
  pub apart : EachPair AreApart sources

-- the index is in order, and all its sequence numbers are above those of the sources
pub record IsOnTop (index : List Entry) (sources : List (List Entry)) : Type 0 where
  pub rises : Rises entry_cmp index
  pub high : AllByRecursion (λ e. above (flat_map (λ es. es) sources) ≤ e.key.seqno) index

-- a map with entries laid over it, the first of each key on top
abbrev pub overlaid : List Entry → Map → Map
overlaid [] m = m
overlaid (e ∷ es) m = changed (overlaid es m) e

-- where no key and sequence number stand in two sources, the list of what is shown is that of the sources' view by tops
abbrev pub ShownIsView : Type 0
ShownIsView = (s : ℕ) (sources : List (List Entry)) (m : Map) (test : Bytes → Bool) (out : List Entry) → ((k : Bytes) → get m k ≡ view_at k s sources) → StandOnce sources
    → ShowsOf test (all_counted (map (at s) sources)) out → map pair_of out ≡ pairs_of test m

-- where each key's sequence numbers fall along the sources, it is what the theory's view answers
abbrev pub ShownIsAnswer : Type 0
ShownIsAnswer = (s : ℕ) (sources : List (List Entry)) (low high : Bound Bytes) (out : List Entry) → IsOrdered sources
    → Shows low high (all_counted (map (at s) sources)) out → answer (view s sources) (Between low high) ≡ Pairs (map pair_of out)

-- the same of a prefix
abbrev pub ShownIsPrefixAnswer : Type 0
ShownIsPrefixAnswer = (s : ℕ) (sources : List (List Entry)) (prefix : Bytes) (out : List Entry) → IsOrdered sources
    → ShowsPrefix prefix (all_counted (map (at s) sources)) out → answer (view s sources) (Prefix prefix) ≡ Pairs (map pair_of out)

-- under an index with sequence numbers above the tree's, it is that of the tree's view by tops, with what counts of the index laid over it
abbrev pub ShownIsOverlaid : Type 0
ShownIsOverlaid = (s : ℕ) (st : SeenState) (m : Map) (test : Bytes → Bool) (out : List Entry) → ((k : Bytes) → get m k ≡ view_at k s (tree_of st)) → StandOnce (tree_of st) → IfSome st.overlay (λ part. IsOnTop part.entries (tree_of st))
    → ShowsOf test (counted_at s st) out → map pair_of out ≡ pairs_of test (overlaid (all_counted (option_to_list st.overlay)) m)
