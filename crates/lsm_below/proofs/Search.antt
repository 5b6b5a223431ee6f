-- A step of a search in entries that rise.
use Rattle.std.proofs.Common.{◌≡◌, ℕ, ◌+◌, ◌<◌, ◌≤◌, Bool, true, false, List, length, get_or, refl, sym, ◌∙◌, arith}
use Rattle.lsm_below.specs.Entries.{Entry, entry_cmp}
use Rattle.lsm_below.specs.Lookups.{stands_before}
use Rattle.lsm_below.specs.Sorted.{Rises}
use Rattle.lsm_below.specs.Laws.{EntriesAreParted}

module _ (parts : EntriesAreParted) (xs : List Entry) (rises : Rises entry_cmp xs) (key : List ℕ) (s : ℕ) where
  -- a step of the binary search
  pub all_ahead : (mid : ℕ) → mid < length xs → ((d : Entry) → stands_before key s (get_or xs mid d) ≡ true) → (j : ℕ) (d : Entry) → j < mid + 1 → stands_before key s (get_or xs j d) ≡ true
  all_ahead mid in_range here j d lt = parts.ahead xs key s rises j mid d (omega arith) in_range (here d)

  pub none_ahead : (mid : ℕ) → mid < length xs → ((d : Entry) → stands_before key s (get_or xs mid d) ≡ false) → (j : ℕ) (d : Entry) → mid ≤ j → j < length xs → stands_before key s (get_or xs j d) ≡ false
  none_ahead mid in_range here j d le lt = go (stands_before key s (get_or xs j d)) refl
    where
      go : (b : Bool) → stands_before key s (get_or xs j d) ≡ b → b ≡ false
      go false is = refl
      go true is = sym (parts.ahead xs key s rises mid j d le lt is) ∙ here d
