-- An opening settles what a kill left; and one that removes first loses it.
use Rattle.std.proofs.Common.{◌≡◌, ◌⊎◌, ⊎_elim, inl, inr, ℕ, arith, Bool, true, List, Option, None, refl}
use Rattle.lsm_store.specs.World.{Image, Row, World, IsImage, At, Becomes, LeavesOnly}
use Rattle.lsm_model.specs.Journal.{Map}
use Rattle.lsm_run_model.specs.Lives.{ShowsOld}
use Rattle.lsm_run_model.specs.Settling.{TellsMoments, Grows, KillsAreMoments, LooksAt, IsPut, IsCleared, Settled, FailingOpens, NarrowingLeaves, SettlingPuts, Settling}

module _ {F : Type 0} (Shows : Image → Map → Type 0) (world : F → World) where
  kills : KillsAreMoments world
  kills tells old mid new first then = record {
    each = λ image may. then.since (world old).moment image first.later (tells.counts_now mid (world old).moment image first.later may);
    gives = tells.gives_one mid;
  }

  fails : FailingOpens Shows world
  fails old new name orphan m looks leaves = record {
    later = leaves.later;
    each = λ image left. shown image (leaves.each image left);
    before = λ t image low left. ⊎_elim (λ was. inl was) (λ is. inr (shown image is)) (leaves.before t image low left);
  }
    where
      shown : (image : Image) → IsImage (world old).may image → ShowsOld Shows (world old) image
      shown image is = let x = looks.each image is in record { map = x.0; shows = x.1; old = image; possible = is; same = x.1 }

  module _ (tells : TellsMoments world) (old mid new : F) (name : List ℕ) (orphan : List ℕ → Bool) (m : Map) (looks : LooksAt Shows (world old) name orphan m)
      (put : IsPut name (world old) (world mid)) (leaves : LeavesOnly (world mid) (world new) (IsCleared orphan (world mid))) where
    -- a name with its orphan back, as reads gave it before the opening
    abbrev back_at : (n : List ℕ) (c : Option (List ℕ)) → (world mid).may n c ⊎ ((c ≡ None) × (orphan n ≡ true)) → Option (List ℕ)
    back_at n c (inl may) = c
    back_at n c (inr gone) = (world old).gives n

    may_at : (n : List ℕ) (c : Option (List ℕ)) (left : (world mid).may n c ⊎ ((c ≡ None) × (orphan n ≡ true))) → (world old).may n (back_at n c left)
    may_at n c (inl may) = put.may n c may
    may_at n c (inr gone) = tells.gives_one old n

    same_at : (n : List ℕ) (c : Option (List ℕ)) (left : (world mid).may n c ⊎ ((c ≡ None) × (orphan n ≡ true))) → (c ≡ back_at n c left) ⊎ ((c ≡ None) × (orphan n ≡ true))
    same_at n c (inl may) = inl refl
    same_at n c (inr gone) = inr gone

    name_at : (c : Option (List ℕ)) (left : (world mid).may name c ⊎ ((c ≡ None) × (orphan name ≡ true))) → back_at name c left ≡ (world old).gives name
    name_at c (inl may) = put.here c may
    name_at c (inr gone) = refl

    abbrev back : (image : Image) → IsCleared orphan (world mid) image → Image
    back image but n = back_at n (image n) (but n)

    back_is : (image : Image) (but : IsCleared orphan (world mid) image) → IsImage (world old).may (back image but)
    back_is image but n = may_at n (image n) (but n)

    back_name : (image : Image) (but : IsCleared orphan (world mid) image) → back image but name ≡ (world old).gives name
    back_name image but = name_at (image name) (but name)

    back_same : (image : Image) (but : IsCleared orphan (world mid) image) (n : List ℕ) → (image n ≡ back image but n) ⊎ ((image n ≡ None) × (orphan n ≡ true))
    back_same image but n = same_at n (image n) (but n)

    shows_back : (image : Image) (but : IsCleared orphan (world mid) image) → Shows (back image but) m
    shows_back image but = looks.read (back image but) (back_is image but) (back_name image but)

    shows_on : (image : Image) → IsCleared orphan (world mid) image → Shows image m
    shows_on image but = looks.spared (back image but) image (back_is image but) (back_name image but) (back_same image but) (shows_back image but)

    shown_on : (image : Image) → IsCleared orphan (world mid) image → ShowsOld Shows (world old) image
    shown_on image but = record { map = m; shows = shows_on image but; old = back image but; possible = back_is image but; same = shows_back image but }

    first : LeavesOnly (world old) (world mid) (ShowsOld Shows (world old))
    first = fails old mid name orphan m looks put.meanwhile

    settled : Settled Shows world m old mid new
    settled = record {
      meanwhile = record {
        later = let a = first.later in let b = leaves.later in omega arith;
        each = λ image left. ⊎_elim (λ was. first.each image was) (λ but. shown_on image but) (leaves.before (world old).moment image first.later left);
        before = λ t image low left. ⊎_elim (λ was. first.before t image low was) (λ but. inr (shown_on image but)) (leaves.before t image (let a = first.later in omega arith) left);
      };
      then = record {
        later = leaves.later;
        each = λ image left. shows_on image (leaves.each image left);
        before = λ t image low left. ⊎_elim (λ was. inl was) (λ but. inr (shows_on image but)) (leaves.before t image low left);
      };
      now = λ image left. shows_on image (leaves.each image (tells.counts_now new (world mid).moment image leaves.later (tells.only_now new image left)));
    }

  narrows : NarrowingLeaves world
  narrows tells old new n = record {
    later = n.later;
    each = λ image left. tells.only_now old image ((n.since (world old).moment image (omega arith)).0 left);
    before = λ t image low left. inl ((n.since t image low).0 left);
  }

  puts : SettlingPuts world
  puts tells old new name impossible not n on_disk = record { meanwhile = narrows tells old new n; may = n.may; here = λ c may. on_disk impossible c not may }

  pub settling : Settling Shows world
  settling = record { kills = kills; opens = settled; fails = fails; narrows = narrows; puts = puts }

-- ---- and what goes wrong

-- a call that may leave an image which shows no map breaks the promise, whatever comes after it: a removal of what another version needs
-- that a crash may bring back; and also a sync of the name itself, if it may leave any bytes meanwhile
pub breaks : (Shows : Image → Map → Type 0) (old mid new : World) (name : List ℕ) (during done : Row) → Becomes name during done old mid → Grows mid new
    → (image : Image) → IsImage (At name during old.may) image → ((m : Map) → Shows image m → ⊥) → LeavesOnly old new (ShowsOld Shows old) → ⊥
breaks Shows old mid new name during done call more image is shows_none promise =
    let s = promise.each image (more.since old.moment image call.later ((call.since old.moment image (omega arith)).1 (inr is))) in shows_none s.map s.shows
