-- What a compaction keeps of sources that are told by their entries.
use Rattle.std.specs.Prelude.{◌≡◌, ℕ, Bool, false, ◌&&◌, List, [], ◌∷◌, flat_map, nat_lt}
use Rattle.std.specs.List.Sorted.{IsPermutation}
use Rattle.lsm_below.specs.Keys.{Bytes}
use Rattle.lsm_below.specs.Entries.{Entry, entry_cmp, stack, keep, IsFalling, IsOrdered}
use Rattle.lsm_below.specs.Sorted.{Rises}
use Rattle.lsm_below.specs.Slots.{same_key}
use Rattle.lsm_below.specs.Streams.{KeepsOfMerge}

-- entries are what a compaction at a watermark keeps of sources: of some merge of them, whatever the sequence numbers are;
-- where these fall along the sources, of the entries source by source; and in whatever order the sources stand, of a key's
-- entries as their numbers fall
pub record IsKeptOf (sources : List (List Entry)) (w : ℕ) (evict : Bool) (kept : List Entry) : Type 0 where
  pub merged : KeepsOfMerge w evict sources kept
  pub ordered : IsOrdered sources → (k : Bytes) → stack k kept ≡ keep w evict (stack k (flat_map (λ es. es) sources))
  pub in_any_order : (k : Bytes) (es : List Entry) → IsFalling es → IsPermutation (flat_map (stack k) sources) es → stack k kept ≡ keep w evict es

-- ---- a source of which all is kept

-- is the second below the watermark, and hidden by the first, of the same key?
abbrev pub is_hidden : ℕ → Entry → Entry → Bool
is_hidden w e f = nat_lt f.key.seqno w && same_key e f

-- no entry is hidden by the one before it
abbrev pub HidesNone : ℕ → List Entry → Type 0
HidesNone w [] = Unit {0}
HidesNone w (e ∷ []) = Unit {0}
HidesNone w (e ∷ (f ∷ es)) = (is_hidden w e f ≡ false) × HidesNone w (f ∷ es)

-- of a source that rises a compaction keeps all where no entry is hidden, and it evicts nothing
abbrev pub AllIsKept : Type 0
AllIsKept = (w : ℕ) (es : List Entry) → Rises entry_cmp es → HidesNone w es → IsKeptOf (es ∷ []) w false es
