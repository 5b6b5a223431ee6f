-- The number after all that memtables have.
use Rattle.std.proofs.Common.{◌≡◌, ℕ, ◌+◌, ◌<◌, max, List, [], ◌∷◌, ◌++◌, length, take, get_or, sym, ap, ◌∙◌, arith}
use Rattle.std.proofs.lemmas.List.{take_more, map-append}
use Rattle.lsm_below.specs.Entries.{Entry}
use Rattle.lsm_memtable.specs.Memtables.{SeenMemtable, highest_of}
use Rattle.lsm_flush.specs.Jobs.{after, entries_in, passed_by}

passed_push : (ss : List (List Entry)) (es : List Entry) → passed_by (ss ++ es ∷ []) ≡ max (passed_by ss) (after (highest_of es))
passed_push [] es = omega arith
passed_push (x ∷ ss) es = let ih = passed_push ss es in omega (arith, ih)

pub passed_more : (ms : List SeenMemtable) (i : ℕ) (m : SeenMemtable) → i < length ms → m ≡ get_or ms i m → passed_by (entries_in (take (i + 1) ms)) ≡ max (passed_by (entries_in (take i ms))) (after (highest_of m.entries))
passed_more ms i m lt is =
    ap passed_by (ap entries_in (take_more ms i m lt ∙ ap (λ (x : SeenMemtable). take i ms ++ x ∷ []) (sym is)) ∙ map-append (λ (x : SeenMemtable). x.entries) (take i ms) (m ∷ []))
    ∙ passed_push (entries_in (take i ms)) m.entries
