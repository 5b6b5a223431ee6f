-- Where bounds part the entries of blocks.
use Rattle.std.proofs.Common.{◌≡◌, ℕ, suc, ◌+◌, ◌-◌, ◌<◌, Bool, true, not, List, [], length, get_or, take, drop, ◌∙◌, arith}
use Rattle.std.specs.declared.ops.Bound.{Bound}
use Rattle.lsm_below.specs.Keys.{Bytes}
use Rattle.lsm_below.specs.Entries.{Entry}
use Rattle.lsm_below.specs.Lookups.{stands_before, is_from, is_to, within}
use Rattle.lsm_below.specs.Laws.{EntriesAreParted}
use Rattle.lsm_memtable.specs.Blocks.{joined, spot, IsPlace, IsEdge}
use Rattle.lsm_memtable.proofs.Joined.{block_within, drop_past}

module _ (bs : List (List Entry)) where
  -- a place that was found is an edge of a test that says the same
  pub edge_of : (key : Bytes) (s b i : ℕ) (p : Entry → Bool) → ((j : ℕ) (d : Entry) → j < length (joined bs) → p (get_or (joined bs) j d) ≡ stands_before key s (get_or (joined bs) j d)) → IsPlace bs key s b i → IsEdge p bs b i
  edge_of key s b i p same found =
      let total = block_within bs b [] found.block_in in
      let at_in = found.at_in in
      record {
        place = (found.block_in, found.at_in);
        before = λ j d lt. same j d (omega arith) ∙ found.before j d lt;
        behind = λ j d le lt. same j d lt ∙ found.behind j d le lt;
      }

  pub edge_last : (p : Entry → Bool) (b i : ℕ) → ((e : Entry) → p e ≡ true) → b + 1 ≡ length bs → i ≡ length (get_or bs b []) → IsEdge p bs b i
  edge_last p b i passes last end =
      let total = block_within bs b [] (omega arith) in
      let past = drop_past bs (suc b) (omega arith) in
      record {
        place = (omega arith, omega arith);
        before = λ j d lt. passes _;
        behind = λ j d le lt. absurd (omega arith);
      }

  -- what lies within both bounds stands between the edges
  pub within_is : EntriesAreParted → (low high : Bound Bytes) (b i c j : ℕ) → IsEdge (λ e. not (is_from low e.key.user_key)) bs b i → IsEdge (λ e. is_to high e.key.user_key) bs c j
      → within low high (joined bs) ≡ take (spot bs c j - spot bs b i) (drop (spot bs b i) (joined bs))
  within_is parts low high b i c j from to =
      parts.within (joined bs) low high (spot bs b i) (spot bs c j)
      (λ k d _ lt. from.before k d lt, λ k d le lt. from.behind k d le lt)
      (λ k d _ lt. to.before k d lt, λ k d le lt. to.behind k d le lt)
