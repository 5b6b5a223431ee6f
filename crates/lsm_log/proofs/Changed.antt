-- What becomes of a store where one record is put or removed, and where several are removed.
use Rattle.std.proofs.Common.{◌≡◌, ◌⊎◌, inl, inr, ⊎_elim, ℕ, ◌+◌, ◌<◌, ◌≤◌, List, length, take, drop, get_or, Option, Some, None, Result, Ok, Err, refl, sym, ap, subst, ◌∙◌, arith}
use Rattle.std.specs.Prelude.{Contains}
use Rattle.std.specs.List.{All}
use Rattle.std.proofs.lemmas.List.{take_more, take-append-drop}
use Rattle.std.proofs.lemmas.List.Elements.{All-contains, Contains-push_cases, Contains-append_cases, Contains-append_left}
use Rattle.lsm_store.specs.World.{Image, World, Row, Only, OldOr, IsImage, At, Same, Becomes, Changes, Narrows, LeavesOnly}
use Rattle.lsm_store.specs.Moments.{started, called, joined, weakened, narrows_on, same_or_not}
use Rattle.lsm_store.specs.declared.store.StoreError.{StoreError}
use Rattle.lsm_store.specs.declared.store.StoreError.TheVariants as store
use Rattle.lsm_log.specs.LogNames.{record_name}
use Rattle.lsm_log.specs.Changes.{IsPut, IsOneOf, IsNoneOf, IsBelow, ClearsRecords, AreCleared}

-- ---- one record

pub put_leaves : {T : Type 0} (number : ℕ) (bytes : List ℕ) (old new : World) (r : Result T StoreError) → ((image : Image) → old.since old.moment image → IsImage old.may image)
    → Changes (record_name number) (OldOr (old.may (record_name number)) (Some bytes)) (Only (Some bytes)) (Some bytes) old new r → LeavesOnly old new (IsPut number bytes old)
put_leaves {T} number bytes old new r only call =
    let name = record_name number in
    called {T = T} old old new (IsPut number bytes old) name (OldOr (old.may name) (Some bytes)) (Only (Some bytes)) (Some bytes) r
    (started old (IsPut number bytes old) (λ image left. record { here = inl (only image left name); elsewhere = λ n out. only image left n })) call
    (λ image at. record { here = (at name).here refl; elsewhere = λ n out. (at n).elsewhere out })

-- a record's row after a removal
removed_row : (number : ℕ) (old : World) (n : List ℕ) (c : Option (List ℕ)) → At (record_name number) (OldOr (old.may (record_name number)) None) old.may n c → old.may n c ⊎ ((c ≡ None) × IsOneOf (λ (k : ℕ). k ≡ number) n)
removed_row number old n c at =
    ⊎_elim (λ same. ⊎_elim (λ was. inl (subst (λ (m : List ℕ). old.may m c) (sym same) was)) (λ none. inr (none, (number, refl, same))) (at.here same)) (λ other. inl (at.elsewhere other)) (same_or_not n (record_name number))

remove_leaves : {T : Type 0} (number : ℕ) (old new : World) (r : Result T StoreError) → ((image : Image) → old.since old.moment image → IsImage old.may image)
    → Changes (record_name number) (OldOr (old.may (record_name number)) None) (OldOr (old.may (record_name number)) None) None old new r → LeavesOnly old new (AreCleared (λ (k : ℕ). k ≡ number) old)
remove_leaves {T} number old new r only call =
    let name = record_name number in
    let row : Row = OldOr (old.may name) None in
    called {T = T} old old new (AreCleared (λ (k : ℕ). k ≡ number) old) name row row None r
    (started old (AreCleared (λ (k : ℕ). k ≡ number) old) (λ image left n. inl (only image left n))) call (λ image at n. removed_row number old n (image n) (at n))

record_becomes : (number : ℕ) (old new : World) → Becomes (record_name number) (OldOr (old.may (record_name number)) None) (OldOr (old.may (record_name number)) None) old new → ClearsRecords (λ (k : ℕ). k ≡ number) old new
record_becomes number old new call = record {
  may = λ n c may. removed_row number old n c ((call.may n c).0 may);
  gives = λ n out. call.elsewhere n (out number refl);
}

record_same : (number : ℕ) (old new : World) → Same old new → ClearsRecords (λ (k : ℕ). k ≡ number) old new
record_same number old new same = record { may = λ n c may. inl ((same.may n c).0 may); gives = λ n out. same.gives n }

record_clears : {T : Type 0} (number : ℕ) (old new : World) (r : Result T StoreError) → Changes (record_name number) (OldOr (old.may (record_name number)) None) (OldOr (old.may (record_name number)) None) None old new r → ClearsRecords (λ (k : ℕ). k ≡ number) old new
record_clears number old new (Ok x) call = record_becomes number old new call.0
record_clears number old new (Err store.Fault) call = record_becomes number old new call
record_clears number old new (Err store.NothingDone) call = record_same number old new call
record_clears number old new (Err store.OutOfMemory) call = record_same number old new call

-- the same of a removal under a name that was found to be the record's
module _ {T : Type 0} (number : ℕ) (name spelled : List ℕ) (said : name ≡ spelled) (spells : spelled ≡ record_name number) (old new : World) (r : Result T StoreError) (call : Changes name (OldOr (old.may name) None) (OldOr (old.may name) None) None old new r) where
  named : Changes (record_name number) (OldOr (old.may (record_name number)) None) (OldOr (old.may (record_name number)) None) None old new r
  named = subst (λ n. Changes n (OldOr (old.may n) None) (OldOr (old.may n) None) None old new r) (said ∙ spells) call

  pub removal_leaves : ((image : Image) → old.since old.moment image → IsImage old.may image) → LeavesOnly old new (AreCleared (λ (k : ℕ). k ≡ number) old)
  removal_leaves only = remove_leaves number old new r only named

  pub removal_clears : ClearsRecords (λ (k : ℕ). k ≡ number) old new
  removal_clears = record_clears number old new r named

-- ---- records one after the other

module _ (P : ℕ → Type 0) where
  pub cleared_none : (w : World) → ((image : Image) → w.since w.moment image → IsImage w.may image) → LeavesOnly w w (AreCleared P w)
  cleared_none w only = started w (AreCleared P w) (λ image left n. inl (only image left n))

  module _ (old mid new : World) (number : ℕ) (has : P number) where
    -- a name of none of them isn't this one's
    other : (n : List ℕ) → IsNoneOf P n → IsNoneOf (λ (k : ℕ). k ≡ number) n
    other n out k is e = out number has (e ∙ ap record_name is)

    pub clears_more : ClearsRecords P old mid → ClearsRecords (λ (k : ℕ). k ≡ number) mid new → ClearsRecords P old new
    clears_more so_far step = record {
      may = λ n c may. ⊎_elim (λ was. so_far.may n c was) (λ none. inr (none.0, (none.1.0, subst P (sym none.1.1) has, none.1.2))) (step.may n c may);
      gives = λ n out. step.gives n (other n out) ∙ so_far.gives n out;
    }

    pub cleared_more : ClearsRecords P old mid → LeavesOnly old mid (AreCleared P old) → LeavesOnly mid new (AreCleared (λ (k : ℕ). k ≡ number) mid) → LeavesOnly old new (AreCleared P old)
    cleared_more clears so_far step =
        joined old mid new (AreCleared P old) (AreCleared (λ (k : ℕ). k ≡ number) mid) (AreCleared P old) so_far step (λ image is. is)
        (λ image is n. ⊎_elim (λ was. clears.may n (image n) was) (λ none. inr (none.0, (none.1.0, subst P (sym none.1.1) has, none.1.2))) (is n))

-- a record that is absent stays so where another one is removed
pub absent_after : (number : ℕ) (mid new : World) → ClearsRecords (λ (k : ℕ). k ≡ number) mid new → new.gives (record_name number) ≡ None → (n : List ℕ) → mid.gives n ≡ None → new.gives n ≡ None
absent_after number mid new step gone n was = ⊎_elim (λ (e : n ≡ record_name number). ap new.gives e ∙ gone) (λ differs. step.gives n (λ k is e. differs (e ∙ ap record_name is)) ∙ was) (same_or_not n (record_name number))

pub gone_more : (ns : List ℕ) (i number : ℕ) (mid new : World) → i < length ns → number ≡ get_or ns i 0 → ClearsRecords (λ (k : ℕ). k ≡ number) mid new → new.gives (record_name number) ≡ None
    → ((k : ℕ) → Contains (take i ns) k → mid.gives (record_name k) ≡ None) → (k : ℕ) → Contains (take (i + 1) ns) k → new.gives (record_name k) ≡ None
gone_more ns i number mid new lt is step gone so_far k at =
    ⊎_elim (λ early. absent_after number mid new step gone (record_name k) (so_far k early)) (λ here. ap (λ (j : ℕ). new.gives (record_name j)) (sym here ∙ sym is) ∙ gone)
    (Contains-push_cases (take i ns) (get_or ns i 0) k (subst (λ (l : List ℕ). Contains l k) (take_more ns i 0 lt) at))

-- ---- names that are settled after

module _ (P : ℕ → Type 0) (old mid new : World) (narrows : Narrows mid new) where
  pub clears_settled : ClearsRecords P old mid → ClearsRecords P old new
  clears_settled clears = record {
    may = λ n c may. clears.may n c (narrows.may n c may);
    gives = λ n out. narrows.gives n ∙ clears.gives n out;
  }

  pub cleared_settled : LeavesOnly old mid (AreCleared P old) → LeavesOnly old new (AreCleared P old)
  cleared_settled leaves = narrows_on old mid new (AreCleared P old) leaves narrows

-- ---- those below a number

module _ (from at : ℕ) (ns : List ℕ) (before : All (λ (k : ℕ). k < from) (take at ns)) (old new : World) where
  below : (k : ℕ) → Contains (take at ns) k → IsBelow from k
  below k h = All-contains (λ (x : ℕ). x < from) (take at ns) k before h

  one_below : (n : List ℕ) → IsOneOf (Contains (take at ns)) n → IsOneOf (IsBelow from) n
  one_below n one = (one.0, below one.0 one.1, one.2)

  pub clears_below : ClearsRecords (Contains (take at ns)) old new → ClearsRecords (IsBelow from) old new
  clears_below clears = record {
    may = λ n c may. ⊎_elim (λ was. inl was) (λ none. inr (none.0, one_below n none.1)) (clears.may n c may);
    gives = λ n out. clears.gives n (λ k h. out k (below k h));
  }

  pub cleared_below : LeavesOnly old new (AreCleared (Contains (take at ns)) old) → LeavesOnly old new (AreCleared (IsBelow from) old)
  cleared_below leaves = weakened old new (AreCleared (Contains (take at ns)) old) (AreCleared (IsBelow from) old) leaves (λ image is n. ⊎_elim (λ was. inl was) (λ none. inr (none.0, one_below n none.1)) (is n))

-- a name of none of the numbers, where only the first of them are removed
pub others_stay : (at : ℕ) (ns : List ℕ) (old new : World) → ClearsRecords (Contains (take at ns)) old new → (n : List ℕ) → IsNoneOf (Contains ns) n → new.gives n ≡ old.gives n
others_stay at ns old new clears n out = clears.gives n (λ k early. out k (subst (λ (l : List ℕ). Contains l k) (take-append-drop at ns) (Contains-append_left (take at ns) (drop at ns) k early)))

-- which of the numbers are below
pub is_below : (from at : ℕ) (ns : List ℕ) → All (λ (k : ℕ). from ≤ k) (drop at ns) → (k : ℕ) → Contains ns k → k < from → Contains (take at ns) k
is_below from at ns behind k h lt =
    ⊎_elim (λ front. front) (λ back. let le : from ≤ k = All-contains (λ (x : ℕ). from ≤ x) (drop at ns) k behind back in absurd (omega (arith, le, lt)))
    (Contains-append_cases (take at ns) (drop at ns) k (subst (λ (l : List ℕ). Contains l k) (sym (take-append-drop at ns)) h))
