-- Orphans are removed one by one.
use Rattle.std.proofs.Common.{◌≡◌, ◌≢◌, ◌⊎◌, inl, inr, ⊎_elim, ℕ, zero, suc, ◌+◌, ◌<◌, Bool, true, false, List, [], ◌∷◌, length, map, get_or, Option, Some, None, Result, Ok, Err, refl, sym, ap, subst, ◌∙◌, arith}
use Rattle.std.specs.Prelude.{IsSome}
use Rattle.std.specs.List.{Contains}
use Rattle.std.specs.String.{string_bytes}
use Rattle.std.specs.declared.string.String.{String}
use Rattle.std.specs.declared.alloc.Global.{Global}
use Rattle.std.proofs.lemmas.List.{length-map, get_or-map}
use Rattle.lsm_store.specs.World.{Image, World, Row, OldOr, IsImage, At, Same, Becomes, Changes, Narrows, IsOnDisk, Lists, LeavesOnly}
use Rattle.lsm_store.specs.declared.store.StoreError.{StoreError}
use Rattle.lsm_store.specs.declared.store.StoreError.TheVariants as store
use Rattle.std.proofs.lemmas.Bool.{both_ways}
use Rattle.lsm_store.specs.Moments.{started, narrows_on, joined}
use Rattle.lsm_store.specs.Moments.{called, same_or_not}
use Rattle.lsm_manifest.specs.Clearing.{IsCleared, IsSettledFirst, Clears, Removes}

module _ (orphan : List ℕ → Bool) (old mid new : World) (name : List ℕ) where
  abbrev row : Row
  row = OldOr (mid.may name) None

  -- one more orphan's row
  here_may : Clears orphan old mid → orphan name ≡ true → (n : List ℕ) (c : Option (List ℕ)) → At name row mid.may n c → old.may n c ⊎ ((c ≡ None) × (orphan n ≡ true))
  here_may so_far is n c at =
      ⊎_elim (λ same. ⊎_elim (λ was. so_far.may n c (subst (λ (m : List ℕ). mid.may m c) (sym same) was)) (λ none. inr (none, ap orphan same ∙ is)) (at.here same))
      (λ other. so_far.may n c (at.elsewhere other)) (same_or_not n name)

  not_orphan : orphan name ≡ true → (n : List ℕ) → orphan n ≡ false → n ≢ name
  not_orphan is n not same = both_ways (orphan name) (sym (ap orphan same) ∙ not) is

  clears_becomes : Clears orphan old mid → orphan name ≡ true → Becomes name row row mid new → Clears orphan old new
  clears_becomes so_far is call = record {
    may = λ n c may. here_may so_far is n c ((call.may n c).0 may);
    kept = λ n c not may. (call.may n c).1 (record { here = λ same. absurd (not_orphan is n not same); elsewhere = λ other. so_far.kept n c not may });
    gives = λ n not. call.elsewhere n (not_orphan is n not) ∙ so_far.gives n not;
  }

  clears_same : Clears orphan old mid → Same mid new → Clears orphan old new
  clears_same so_far same = record {
    may = λ n c may. so_far.may n c ((same.may n c).0 may);
    kept = λ n c not may. (same.may n c).1 (so_far.kept n c not may);
    gives = λ n not. same.gives n ∙ so_far.gives n not;
  }

  pub clears_more : {T : Type 0} (r : Result T StoreError) → Clears orphan old mid → orphan name ≡ true → Changes name row row None mid new r → Clears orphan old new
  clears_more (Ok x) so_far is call = clears_becomes so_far is call.0
  clears_more (Err store.Fault) so_far is call = clears_becomes so_far is call
  clears_more (Err store.NothingDone) so_far is call = clears_same so_far call
  clears_more (Err store.OutOfMemory) so_far is call = clears_same so_far call

  pub cleared_more : {T : Type 0} (r : Result T StoreError) → LeavesOnly old mid (IsCleared orphan old) → Clears orphan old mid → orphan name ≡ true → Changes name row row None mid new r → LeavesOnly old new (IsCleared orphan old)
  cleared_more {T} r so_far clears is call = called {T = T} old mid new (IsCleared orphan old) name row row None r so_far call (λ image at n. here_may clears is n (image n) (at n))

pub cleared_none : (orphan : List ℕ → Bool) (w : World) → ((image : Image) → w.since w.moment image → IsImage w.may image) → LeavesOnly w w (IsCleared orphan w)
cleared_none orphan w only = started w (IsCleared orphan w) (λ image left n. inl (only image left n))

-- ---- what was removed so far, of names that stand in a list

below_or_at : (j k : ℕ) → j < k + 1 → (j < k) ⊎ (j ≡ k)
below_or_at zero zero lt = inr refl
below_or_at zero (suc k) lt = inl (omega arith)
below_or_at (suc j) zero lt = absurd (omega (arith, lt))
below_or_at (suc j) (suc k) lt = ⊎_elim (λ l. inl (omega (arith, l))) (λ e. inr (ap suc e)) (below_or_at j k (omega (arith, lt)))

-- the first names that a test finds are absent
abbrev pub AreGone : (List ℕ → Bool) → World → (ℕ → List ℕ) → ℕ → Type 0
AreGone orphan w at k = (j : ℕ) → j < k → orphan (at j) ≡ true → w.gives (at j) ≡ None

pub gone_more : (orphan : List ℕ → Bool) (mid new : World) (during done : Row) (name : List ℕ) (at : ℕ → List ℕ) (k : ℕ) → at k ≡ name → Becomes name during done mid new × (new.gives name ≡ None) → AreGone orphan mid at k → AreGone orphan new at (k + 1)
gone_more orphan mid new during done name at k is call so_far j lt found =
    ⊎_elim (λ same. ap new.gives same ∙ call.1)
    (λ other. ⊎_elim (λ (l : j < k). call.0.elsewhere (at j) other ∙ so_far j l found) (λ (e : j ≡ k). absurd (other (ap at e ∙ is))) (below_or_at j k lt))
    (same_or_not (at j) name)

pub gone_on : (orphan : List ℕ → Bool) (w : World) (at : ℕ → List ℕ) (k : ℕ) → orphan (at k) ≡ false → AreGone orphan w at k → AreGone orphan w at (k + 1)
gone_on orphan w at k not so_far j lt found =
    ⊎_elim (λ (l : j < k). so_far j l found) (λ (e : j ≡ k). absurd (both_ways (orphan (at j)) (ap (λ (i : ℕ). orphan (at i)) e ∙ not) found)) (below_or_at j k lt)

pub absent_on : (mid new : World) (during done : Row) (name : List ℕ) → Becomes name during done mid new × (new.gives name ≡ None) → (n : List ℕ) → mid.gives n ≡ None → new.gives n ≡ None
absent_on mid new during done name call n none = ⊎_elim (λ same. ap new.gives same ∙ call.1) (λ other. call.0.elsewhere n other ∙ none) (same_or_not n name)

-- a run of calls that add no image
pub cleared_narrowed : (orphan : List ℕ → Bool) (old mid : World) → ((image : Image) → old.since old.moment image → IsImage old.may image) → Narrows old mid → LeavesOnly old mid (IsCleared orphan old)
cleared_narrowed orphan old mid only narrows = narrows_on old old mid (IsCleared orphan old) (cleared_none orphan old only) narrows

-- and before it
pub cleared_behind : (orphan : List ℕ → Bool) (old mid new : World) → ((image : Image) → old.since old.moment image → IsImage old.may image) → Narrows old mid → LeavesOnly mid new (IsCleared orphan mid) → LeavesOnly old new (IsCleared orphan old)
cleared_behind orphan old mid new only narrows b =
    joined old mid new (IsCleared orphan old) (IsCleared orphan mid) (IsCleared orphan old)
    (cleared_narrowed orphan old mid only narrows) b (λ image is. is) (λ image is n. ⊎_elim (λ was. inl (narrows.may n (image n) was)) (λ gone. inr gone) (is n))

-- ---- what was read is settled before

pub settled_narrowed : (orphan : List ℕ → Bool) (old mid : World) → ((image : Image) → old.since old.moment image → IsImage old.may image) → Narrows old mid → LeavesOnly old mid (IsSettledFirst orphan old)
settled_narrowed orphan old mid only narrows = narrows_on old old mid (IsSettledFirst orphan old) (started old (IsSettledFirst orphan old) (λ image left. inl (only image left))) narrows

pub settled_behind : (orphan : List ℕ → Bool) (old mid new : World) → ((image : Image) → old.since old.moment image → IsImage old.may image) → Narrows old mid → ((n : List ℕ) → IsOnDisk old mid n) → LeavesOnly mid new (IsCleared orphan mid) → LeavesOnly old new (IsSettledFirst orphan old)
settled_behind orphan old mid new only narrows settled b =
    joined old mid new (IsSettledFirst orphan old) (IsCleared orphan mid) (IsSettledFirst orphan old) (settled_narrowed orphan old mid only narrows) b (λ image is. is)
    (λ image is. inr (λ n impossible not never. settled n impossible (image n) never (⊎_elim (λ was. was) (λ gone. absurd (both_ways (orphan n) not gone.1)) (is n))))

-- ---- what is left of orphans

-- the places of a list of names, and the names
pub gone_named : (orphan : List ℕ → Bool) (w : World) (names : List (String Global)) → ((j : ℕ) (d : String Global) → j < length names → orphan (string_bytes (get_or names j d)) ≡ true → w.gives (string_bytes (get_or names j d)) ≡ None)
    → (n : List ℕ) → Contains (map string_bytes names) n → orphan n ≡ true → w.gives n ≡ None
gone_named orphan w names gone n at is =
    let lt : at.0 < length names = omega (arith, at.1, length-map names (string_bytes {Z = Global})) in
    let some = names_some names at.0 lt in
    let same : string_bytes (get_or names at.0 some) ≡ n = sym (get_or-map (string_bytes {Z = Global}) names at.0 some n lt) ∙ at.2 in
    ap w.gives (sym same) ∙ gone at.0 some lt (ap orphan same ∙ is)
  where
    names_some : (xs : List (String Global)) (i : ℕ) → i < length xs → String Global
    names_some [] i lt = absurd (omega (arith, lt))
    names_some (x ∷ xs) i lt = x

pub orphans_gone : (p q : List ℕ → Bool) (old mid new : World) (names : List (String Global)) → Lists old.gives (map string_bytes names)
    → ((j : ℕ) (d : String Global) → j < length names → p (string_bytes (get_or names j d)) ≡ true → mid.gives (string_bytes (get_or names j d)) ≡ None)
    → ((j : ℕ) (d : String Global) → j < length names → q (string_bytes (get_or names j d)) ≡ true → new.gives (string_bytes (get_or names j d)) ≡ None)
    → ((n : List ℕ) → old.gives n ≡ None → mid.gives n ≡ None) → ((n : List ℕ) → mid.gives n ≡ None → new.gives n ≡ None)
    → (n : List ℕ) → (p n ≡ true) ⊎ (q n ≡ true) → new.gives n ≡ None
orphans_gone p q old mid new names all first second on_first on_second n is =
    ⊎_elim (λ early. on_second n (gone_by p mid (λ m none. on_first m none) first early)) (λ late. gone_by q new (λ m none. on_second m (on_first m none)) second late) is
  where
    by_content : (r : List ℕ → Bool) (w : World) → ((m : List ℕ) → old.gives m ≡ None → w.gives m ≡ None) → (Contains (map string_bytes names) n → w.gives n ≡ None) → (o : Option (List ℕ)) → old.gives n ≡ o → w.gives n ≡ None
    by_content r w on listed None e = on n e
    by_content r w on listed (Some x) e = listed ((all.each n).1 (subst (λ (c : Option (List ℕ)). IsSome c) (sym e) refl))

    gone_by : (r : List ℕ → Bool) (w : World) → ((m : List ℕ) → old.gives m ≡ None → w.gives m ≡ None) → ((j : ℕ) (d : String Global) → j < length names → r (string_bytes (get_or names j d)) ≡ true → w.gives (string_bytes (get_or names j d)) ≡ None) → r n ≡ true → w.gives n ≡ None
    gone_by r w on gone found = by_content r w on (λ at. gone_named r w names gone n at found) (old.gives n) refl

-- ---- what an answered removal has done

-- a name that stays is on the disk still
pub on_disk_behind : (p : List ℕ → Bool) (old mid new : World) (n : List ℕ) → IsOnDisk old mid n → Clears p mid new → p n ≡ false → IsOnDisk old new n
on_disk_behind p old mid new n settled clears not impossible c never may =
    settled impossible c never (⊎_elim (λ was. was) (λ gone. absurd (both_ways (p n) not gone.1)) (clears.may n c may))

pub removes_behind : (p q : List ℕ → Bool) (old mid new : World) → p ≡ q → Narrows old mid → ((n : List ℕ) → IsOnDisk old mid n) → ((n : List ℕ) → mid.may n (mid.gives n)) → Clears p mid new → ((n : List ℕ) → p n ≡ true → new.gives n ≡ None) → Removes q old new
removes_behind p q old mid new are narrows settled one clears gone =
    let cleared = subst (λ (o : List ℕ → Bool). Clears o mid new) are clears in
    record {
      gone = λ n is. gone n (ap (λ (o : List ℕ → Bool). o n) are ∙ is);
      gives = λ n not. cleared.gives n not ∙ narrows.gives n;
      may = λ n c may. ⊎_elim (λ was. inl (narrows.may n c was)) (λ none. inr none) (cleared.may n c may);
      kept = λ n not. subst (λ c. new.may n c) (narrows.gives n) (cleared.kept n (mid.gives n) not (one n));
      on_disk = λ n not. on_disk_behind q old mid new n (settled n) cleared not;
    }
