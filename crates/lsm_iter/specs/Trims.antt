-- Parts of a table of which both ends count.
use Rattle.std.specs.Prelude.{◌≡◌, ℕ, ◌<◌, ◌≤◌, Bool, false, ◌&&◌, List, ◌∷◌, length, Option, Some, None, nat_lt}
use Rattle.lsm_below.specs.Entries.{Entry, entry_cmp}
use Rattle.lsm_below.specs.Runs.{IsCut}
use Rattle.lsm_below.specs.Slots.{same_key}
use Rattle.lsm_below.specs.Sorted.{Rises}
use Rattle.lsm_iter.specs.Reads.{at}
use Rattle.lsm_iter.specs.Left.{tops, end_item}
use Rattle.lsm_iter.specs.declared.tree_iter.End.{End}

-- at both ends stand entries that count, each the newest of its key
abbrev pub IsTrimmed : ℕ → List Entry → Type 0
IsTrimmed s es = (end : End) → end_item end (tops (at s es)) ≡ end_item end es

-- the same of entries in order
pub record RisesTrimmed (s : ℕ) (es : List Entry) : Type 0 where
  pub rises : Rises entry_cmp es
  pub trimmed : IsTrimmed s es

-- does the entry count?
abbrev pub counts : ℕ → Entry → Bool
counts s e = nat_lt e.key.seqno s

-- a part of entries where the same is left, and at whose end stands one that is left
pub record Trims (end : End) (s : ℕ) (es part : List Entry) : Type 0 where
  pub same : tops (at s part) ≡ tops (at s es)
  pub ends : end_item end (tops (at s part)) ≡ end_item end part

-- as many entries as have the key of the first one
pub record IsGroup (es : List Entry) (n : ℕ) : Type 0 where
  pub some : 0 < n
  pub inside : n ≤ length es
  pub cut : (e : Entry) (rest : List Entry) → es ≡ e ∷ rest → IsCut (same_key e) es n

-- does the entry before this one, if there is one, count, and have its key?
abbrev pub hides : ℕ → Option Entry → Entry → Bool
hides s None e = false
hides s (Some g) e = counts s g && same_key g e
