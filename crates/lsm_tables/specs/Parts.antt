-- Entries that stand in several slices.
use Rattle.std.specs.Prelude.{List, flat_map}
use Rattle.std.specs.Borrow.{Bor}
use Rattle.lsm_below.specs.Entries.{Entry}

-- the entries of slices, one after the other
abbrev pub in_slices : List (Bor (List Entry)) → List Entry
in_slices slices = flat_map (λ s. s.now) slices
