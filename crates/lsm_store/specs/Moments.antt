-- How a run of store calls goes on, and what a crash may leave at any moment of it: laws for proofs of every crate, since a
-- clause can't range over facts.
use Rattle.std.proofs.Common.{inl, inr, ⊎_elim, ◌≤◌, ◌≡◌, ◌≢◌, ◌⊎◌, ℕ, Bool, true, false, List, Option, Some, Result, Ok, Err, refl, sym, ◌∙◌, arith}
use Rattle.std.specs.Str.{bytes_eq}
use Rattle.std.proofs.lemmas.Bool.{both_ways}
use Rattle.std.proofs.lemmas.Slice.Eq.{bytes_eq-Decides}
use Rattle.lsm_store.specs.World.{Image, Row, World, Anything, Only, IsImage, At, Same, Becomes, Changes, Narrows, SettlesNames, LeavesOnly}
use Rattle.lsm_store.specs.declared.store.StoreError.{StoreError}
use Rattle.lsm_store.specs.declared.store.StoreError.TheVariants as store
use Rattle.lsm_store.specs.Synced.{KeepsOthers, Puts}

-- before the first call
pub started : (old : World) (P : Image → Type 0) → ((image : Image) → old.since old.moment image → P image) → LeavesOnly old old P
started old P here = record { later = omega arith; each = here; before = λ t image le left. inl left }

-- a call without effect after it
pub rests : (old mid new : World) (P : Image → Type 0) → LeavesOnly old mid P → Same mid new → LeavesOnly old new P
rests old mid new P so_far same =
    let le : old.moment ≤ mid.moment = so_far.later in
    let e : new.moment ≡ mid.moment = same.moment in
    record {
      later = omega arith;
      each = λ image left. so_far.each image ((same.since old.moment image le).0 left);
      before = λ t image early left. let early2 : t ≤ mid.moment = omega arith in so_far.before t image early ((same.since t image early2).0 left);
    }

-- a call without effect adds no image
pub narrows_same : (old new : World) → Same old new → Narrows old new
narrows_same old new same =
    let e : new.moment ≡ old.moment = same.moment in
    record { gives = same.gives; may = λ n c. (same.may n c).0; later = omega (arith, e); since = same.since }

-- nor does a call that settles names, whatever it answers
pub narrows_any : {T : Type 0} (old new : World) (r : Result T StoreError) → SettlesNames old new r → Narrows old new
narrows_any old new (Ok x) call = call.0
narrows_any old new (Err store.Fault) call = call
narrows_any old new (Err store.NothingDone) call = narrows_same old new call
narrows_any old new (Err store.OutOfMemory) call = narrows_same old new call

-- a call after it that adds no image
pub narrows_on : (old mid new : World) (P : Image → Type 0) → LeavesOnly old mid P → Narrows mid new → LeavesOnly old new P
narrows_on old mid new P so_far call =
    let le : old.moment ≤ mid.moment = so_far.later in
    let le2 : mid.moment ≤ new.moment = call.later in
    record {
      later = omega arith;
      each = λ image left. so_far.each image ((call.since old.moment image le).0 left);
      before = λ t image early left. let early2 : t ≤ mid.moment = omega arith in so_far.before t image early ((call.since t image early2).0 left);
    }

-- a call after it that changes one name, of which each image has P
pub goes_on : (old mid new : World) (P : Image → Type 0) (name : List ℕ) (during after : Row) → LeavesOnly old mid P → Becomes name during after mid new
    → ((image : Image) → IsImage (At name during mid.may) image → P image) → LeavesOnly old new P
goes_on old mid new P name during after so_far call here =
    let le : old.moment ≤ mid.moment = so_far.later in
    let le2 : mid.moment ≤ new.moment = call.later in
    record {
      later = omega arith;
      each = λ image left. ⊎_elim (so_far.each image) (here image) ((call.since old.moment image le).0 left);
      before = λ t image early left.
          let early2 : t ≤ mid.moment = omega arith in
          ⊎_elim (so_far.before t image early) (λ now. inr (here image now)) ((call.since t image early2).0 left);
    }

-- two parts of a run, each with its own fact
pub joined : (old mid new : World) (P Q R : Image → Type 0) → LeavesOnly old mid P → LeavesOnly mid new Q → ((image : Image) → P image → R image) → ((image : Image) → Q image → R image) → LeavesOnly old new R
joined old mid new P Q R first second p q =
    let le : old.moment ≤ mid.moment = first.later in
    let le2 : mid.moment ≤ new.moment = second.later in
    record {
      later = omega arith;
      each = λ image left. ⊎_elim (λ before. p image (first.each image before)) (q image) (second.before old.moment image le left);
      before = λ t image early left.
          let early2 : t ≤ mid.moment = omega arith in
          ⊎_elim (λ before. ⊎_elim (λ was. inl was) (λ has. inr (p image has)) (first.before t image early before)) (λ has. inr (q image has)) (second.before t image early2 left);
    }

-- a call that changes one name, whatever it answers
pub called : {T : Type 0} (old mid new : World) (P : Image → Type 0) (name : List ℕ) (during done : Row) (content : Option (List ℕ)) (r : Result T StoreError)
    → LeavesOnly old mid P → Changes name during done content mid new r → ((image : Image) → IsImage (At name during mid.may) image → P image) → LeavesOnly old new P
called old mid new P name during done content (Ok x) so_far call here = goes_on old mid new P name during done so_far call.0 here
called old mid new P name during done content (Err store.Fault) so_far call here = goes_on old mid new P name during during so_far call here
called old mid new P name during done content (Err store.NothingDone) so_far call here = rests old mid new P so_far call
called old mid new P name during done content (Err store.OutOfMemory) so_far call here = rests old mid new P so_far call

-- a call that settles names, whatever it answers
pub settled : {T : Type 0} (old mid new : World) (P : Image → Type 0) (r : Result T StoreError) → LeavesOnly old mid P → SettlesNames mid new r → LeavesOnly old new P
settled old mid new P r so_far call = narrows_on old mid new P so_far (narrows_any mid new r call)

-- a weaker fact
pub weakened : (old new : World) (P Q : Image → Type 0) → LeavesOnly old new P → ((image : Image) → P image → Q image) → LeavesOnly old new Q
weakened old new P Q all f = record {
  later = all.later;
  each = λ image left. f image (all.each image left);
  before = λ t image early left. ⊎_elim (λ was. inl was) (λ has. inr (f image has)) (all.before t image early left);
}

-- ---- calls without effect, and names

-- images that give the same are the same
pub image_same : (old mid : Image) → ((n : List ℕ) → mid n ≡ old n) → mid ≡ old
image_same old mid same = λ i n. same n i

-- nothing is done
pub same_none : (w : World) → Same w w
same_none w = record { gives = λ n. refl; may = λ n c. (λ may. may, λ may. may); moment = refl; since = λ t image le. (λ left. left, λ left. left) }

pub same_then : (old mid new : World) → Same old mid → Same mid new → Same old new
same_then old mid new a b =
    let e : mid.moment ≡ old.moment = a.moment in
    record {
      gives = λ n. b.gives n ∙ a.gives n;
      may = λ n c. (λ may. (a.may n c).0 ((b.may n c).0 may), λ may. (b.may n c).1 ((a.may n c).1 may));
      moment = b.moment ∙ a.moment;
      since = λ t image le. let le2 : t ≤ mid.moment = omega (arith, le, e) in (λ left. (a.since t image le).0 ((b.since t image le2).0 left), λ left. (b.since t image le2).1 ((a.since t image le).1 left));
    }

-- two names are the same or not
by_test : (n m : List ℕ) (b : Bool) → bytes_eq n m ≡ b → (n ≡ m) ⊎ (n ≢ m)
by_test n m true e = inl ((bytes_eq-Decides n m).0 e)
by_test n m false e = inr (λ same. both_ways (bytes_eq n m) e ((bytes_eq-Decides n m).1 same))

pub same_or_not : (n m : List ℕ) → (n ≡ m) ⊎ (n ≢ m)
same_or_not n m = by_test n m (bytes_eq n m) refl

-- ---- names beside one

pub keeps_becomes : (name : List ℕ) (during after : Row) (old new : World) → Becomes name during after old new → KeepsOthers name old new
keeps_becomes name during after old new call = record {
  may = λ n c other. (λ may. ((call.may n c).0 may).elsewhere other, λ may. (call.may n c).1 (record { here = λ same. absurd (other same); elsewhere = λ _. may }));
  gives = call.elsewhere;
}

pub keeps_same : (name : List ℕ) (old new : World) → Same old new → KeepsOthers name old new
keeps_same name old new same = record { may = λ n c other. same.may n c; gives = λ n other. same.gives n }

pub keeps_then : (name : List ℕ) (old mid new : World) → KeepsOthers name old mid → KeepsOthers name mid new → KeepsOthers name old new
keeps_then name old mid new a b = record {
  may = λ n c other. (λ may. (a.may n c other).0 ((b.may n c other).0 may), λ may. (b.may n c other).1 ((a.may n c other).1 may));
  gives = λ n other. b.gives n other ∙ a.gives n other;
}

pub keeps_changes : {T : Type 0} (name : List ℕ) (during done : Row) (content : Option (List ℕ)) (old new : World) (r : Result T StoreError) → Changes name during done content old new r → KeepsOthers name old new
keeps_changes name during done content old new (Ok x) call = keeps_becomes name during done old new call.0
keeps_changes name during done content old new (Err store.Fault) call = keeps_becomes name during during old new call
keeps_changes name during done content old new (Err store.NothingDone) call = keeps_same name old new call
keeps_changes name during done content old new (Err store.OutOfMemory) call = keeps_same name old new call

-- ---- a file that is written and synced

pub put_synced : {T : Type 0} (name bytes : List ℕ) (old mid new : World) (q : Result T StoreError)
    → Becomes name Anything Anything old mid × (mid.gives name ≡ Some bytes) → Changes name Anything (Only (mid.gives name)) (mid.gives name) mid new q → Puts name bytes old new q
put_synced {T} name bytes old mid new (Ok x) wrote sync =
    let both = keeps_then name old mid new (keeps_becomes name Anything Anything old mid wrote.0) (keeps_becomes name Anything (Only (mid.gives name)) mid new sync.0) in (
      record {
        here = λ c. (λ may. ((sync.0.may name c).0 may).here refl ∙ wrote.1, λ is. (sync.0.may name c).1 (record { here = λ _. is ∙ sym wrote.1; elsewhere = λ no. absurd (no refl) }));
        elsewhere = both.may;
        gives = both.gives;
      },
      sync.1 ∙ wrote.1,
    )
put_synced {T} name bytes old mid new (Err e) wrote sync =
    keeps_then name old mid new (keeps_becomes name Anything Anything old mid wrote.0) (keeps_changes {T = T} name Anything (Only (mid.gives name)) (mid.gives name) mid new (Err e) sync)
