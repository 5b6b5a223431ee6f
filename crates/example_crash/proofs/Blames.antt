-- Where the store is blamed, it has failures: along outcomes, and in an opening.
use Rattle.std.proofs.Common.{ℕ, ◌+◌, ◌-◌, ◌^◌, ◌<◌, ◌≤◌, min, arith, ◌≡◌, List, [], ◌∷◌, ◌++◌, ◌∙◌}
use Rattle.std.specs.List.{AllByRecursion}
use Rattle.lsm_runs.specs.Memory.{MemStore, world_of}
use Rattle.lsm_runs.specs.Causes.{ReplyBlames, EachHasCause}
use Rattle.lsm_runs.specs.Told.{Told}

-- they never get fewer
pub rises : (told : List Told) (was is : MemStore) → EachHasCause world_of told was is → min was.failures (2 ^ 64 - 1) ≤ is.failures
rises [] was is same = omega (arith, same)
rises (t ∷ told) was is h = let one = h.1.rises in let rest = rises told h.0 is h.2 in omega (arith, one, rest)

pub blamed : (told : List Told) (was is : MemStore) → EachHasCause world_of told was is → AllByRecursion (λ t. ReplyBlames t.reply → 0 < is.failures) told
blamed [] was is h = tt
blamed (t ∷ told) was is h = (λ blames. let failed = h.1.cause blames in let rest = rises told h.0 is h.2 in omega (arith, failed, rest), blamed told h.0 is h.2)

-- ---- more outcomes after these

-- what comes before the first one is of it
pub caused_first : (told : List Told) (was mid is : MemStore) → mid.failures ≡ was.failures → EachHasCause world_of told mid is → EachHasCause world_of told was is
caused_first [] was mid is same h = h ∙ same
caused_first (t ∷ told) was mid is same h =
    let one = h.1.rises in
    (h.0, record { rises = omega (arith, same, one); cause = λ blames. let failed = h.1.cause blames in omega (arith, same, failed) }, h.2)

pub caused_then : (told more : List Told) (was mid is : MemStore) → EachHasCause world_of told was mid → EachHasCause world_of more mid is → EachHasCause world_of (told ++ more) was is
caused_then [] more was mid is h k = caused_first more was mid is h k
caused_then (t ∷ told) more was mid is h k = (h.0, h.1, caused_then told more h.0 mid is h.2 k)
