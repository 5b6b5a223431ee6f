-- What a store is to its callers: what reads give, what a crash may leave, and what a call does to both.
use Rattle.std.specs.Prelude.{◌≡◌, ◌≢◌, ◌⊎◌, ◌↔◌, ℕ, ◌+◌, ◌-◌, ◌^◌, ◌≤◌, min, List, Option, IsSome, Result, Ok, Err, Contains}
use Rattle.std.specs.List.{IsDistinct}
use Rattle.std.specs.Str.{bytes_eq}
use Rattle.lsm_store.specs.declared.store.StoreError.{StoreError}
use Rattle.lsm_store.specs.declared.store.StoreError.TheVariants.{OutOfMemory, Fault, NothingDone}

-- a content for each name, or none
abbrev pub Image : Type 0
Image = List ℕ → Option (List ℕ)

-- what one name may have
abbrev pub Row : Type 1
Row = Option (List ℕ) → Type 0

-- what each name may have
abbrev pub Outcomes : Type 1
Outcomes = List ℕ → Row

-- absent, or any bytes
abbrev pub Anything : Row
Anything c = Unit {0}

-- this, and nothing else
abbrev pub Only : Option (List ℕ) → Row
Only content c = c ≡ content

-- what it could have before, or this
abbrev pub OldOr : Row → Option (List ℕ) → Row
OldOr old content c = old c ⊎ (c ≡ content)

-- an image has of each name what that name may have: different names are independent
abbrev pub IsImage : Outcomes → Image → Type 0
IsImage may image = (name : List ℕ) → may name (image name)

-- the name may have what the row says, each other name what it could before
pub record At (name : List ℕ) (row : Row) (old : Outcomes) (n : List ℕ) (c : Option (List ℕ)) : Type 0 where
  pub here : n ≡ name → row c
  pub elsewhere : n ≢ name → old n c

-- a store, as its callers see it
pub record World : Type 1 where
  pub gives : Image  -- what reads and lists give
  pub may : Outcomes  -- what a crash at this moment may leave
  pub moment : ℕ  -- a number that doesn't fall
  pub since : ℕ → Image → Type 0  -- the images of all moments from that one on
  pub failures : ℕ  -- how many calls have failed

-- a store that has just this content, and all of it on the disk
pub record Begins (image : Image) (w : World) : Type 0 where
  pub gives : (n : List ℕ) → w.gives n ≡ image n
  pub may : (n : List ℕ) (c : Option (List ℕ)) → w.may n c ↔ (c ≡ image n)
  pub moment : w.moment ≡ 0
  pub failures : w.failures ≡ 0

-- without effect: neither what reads give nor what a crash may leave has changed, and no moment has gone by
pub record Same (old new : World) : Type 0 where
  pub gives : (n : List ℕ) → new.gives n ≡ old.gives n
  pub may : (n : List ℕ) (c : Option (List ℕ)) → new.may n c ↔ old.may n c
  pub moment : new.moment ≡ old.moment
  pub since : (t : ℕ) (image : Image) → t ≤ old.moment → new.since t image ↔ old.since t image

-- of one name: in the call a crash might have left what `during` says, from now on it may leave what `after` says
pub record Becomes (name : List ℕ) (during after : Row) (old new : World) : Type 0 where
  pub may : (n : List ℕ) (c : Option (List ℕ)) → new.may n c ↔ At name after old.may n c
  pub elsewhere : (n : List ℕ) → n ≢ name → new.gives n ≡ old.gives n
  pub later : old.moment ≤ new.moment
  pub since : (t : ℕ) (image : Image) → t ≤ old.moment → new.since t image ↔ (old.since t image ⊎ IsImage (At name during old.may) image)

-- a call that changes one name, by what it answers: after Ok the row is `done` and reads give the content;
-- a fault leaves the row of the call; a refusal for memory has no effect, nor has a call that is known to have done nothing
abbrev pub Changes : {T : Type 0} → List ℕ → Row → Row → Option (List ℕ) → World → World → Result T StoreError → Type 0
Changes name during done content old new (Ok _) = Becomes name during done old new × (new.gives name ≡ content)
Changes name during done content old new (Err Fault) = Becomes name during during old new
Changes name during done content old new (Err NothingDone) = Same old new
Changes name during done content old new (Err OutOfMemory) = Same old new

-- reads give the same, a crash may leave what it could before or less of it, and no image is added
pub record Narrows (old new : World) : Type 0 where
  pub gives : (n : List ℕ) → new.gives n ≡ old.gives n
  pub may : (n : List ℕ) (c : Option (List ℕ)) → new.may n c → old.may n c
  pub later : old.moment ≤ new.moment
  pub since : (t : ℕ) (image : Image) → t ≤ old.moment → new.since t image ↔ old.since t image

-- of a name of which not any bytes could be left a crash leaves just what reads gave
abbrev pub IsOnDisk : World → World → List ℕ → Type 0
IsOnDisk old new n = (impossible c : Option (List ℕ)) → ¬ old.may n impossible → new.may n c → c ≡ old.gives n

-- a call that settles names, by what it answers
abbrev pub SettlesNames : {T : Type 0} → World → World → Result T StoreError → Type 0
SettlesNames old new (Ok _) = Narrows old new × ((n : List ℕ) → IsOnDisk old new n)
SettlesNames old new (Err Fault) = Narrows old new
SettlesNames old new (Err NothingDone) = Same old new
SettlesNames old new (Err OutOfMemory) = Same old new

-- each failed call counts, up to the greatest number; a refusal for memory is no failure
abbrev pub Counts : {T : Type 0} → World → World → Result T StoreError → Type 0
Counts old new (Ok _) = new.failures ≡ old.failures
Counts old new (Err Fault) = new.failures ≡ min (old.failures + 1) (2 ^ 64 - 1)
Counts old new (Err NothingDone) = new.failures ≡ min (old.failures + 1) (2 ^ 64 - 1)
Counts old new (Err OutOfMemory) = new.failures ≡ old.failures

-- the names that have a content, each once
pub record Lists (image : Image) (names : List (List ℕ)) : Type 0 where
  pub each : (n : List ℕ) → Contains names n ↔ IsSome (image n)
  pub once : IsDistinct bytes_eq names

-- A crash at any moment since old leaves an image that has P.
pub record LeavesOnly (old new : World) (P : Image → Type 0) : Type 0 where
  pub later : old.moment ≤ new.moment
  pub each : (image : Image) → new.since old.moment image → P image
  -- for a run of calls that began earlier
  pub before : (t : ℕ) (image : Image) → t ≤ old.moment → new.since t image → old.since t image ⊎ P image
