-- Each call of a store in memory is what its contract says, whatever its outcome.
use Rattle.std.proofs.Common.{◌≡◌, ◌≢◌, ◌↔◌, inl, inr, ⊎_elim, ℕ, Bool, true, false, List, Option, Some, None, Result, OnOk, IsSome, refl, sym, ◌∙◌, ap, subst}
use Rattle.lsm_store.specs.World.{Anything, Only, OldOr, At, Becomes, Changes}
use Rattle.lsm_store.specs.declared.store.StoreError.{StoreError}
use Rattle.lsm_store.specs.declared.mem_store.plan.Outcome.{Outcome}
use Rattle.lsm_store.specs.declared.mem_store.plan.Outcome.TheVariants.{Done, Fails, FailsDone, NothingDone}
use Rattle.lsm_store.specs.Plans.{answer_of, has_effect, MovesOn, AsPlanned}
use Rattle.lsm_store.specs.declared.mem_store.plan.Plan.{Plan}
use Rattle.lsm_store.specs.Held.{Held, MayHold, IsWhole, fresh, written, doubted, offered, removed}
use Rattle.lsm_store.specs.Files.{Files, held_at, Alters, AltersEach}
use Rattle.lsm_store.specs.Memory.{Past, may_of, gives_of, between, KeepsMoment, memory_world, written_by, synced_by, replaced_by, ended_by, sync_outcome, HeldAs, EachHeldAs}
use Rattle.lsm_store.proofs.HeldRows.{row_fresh, row_removed, row_offered}
use Rattle.lsm_store.proofs.Memories.{at_row, at_between, gives_elsewhere, grown, pushed}

-- one change after another
pub alters_then : (name : List ℕ) (f g : Held → Held) (old mid new : Files) → Alters name f old mid → Alters name g mid new → Alters name (λ h. g (f h)) old new
alters_then name f g old mid new first second = record {
  here = second.here ∙ ap g first.here;
  elsewhere = λ n ne. second.elsewhere n ne ∙ first.elsewhere n ne;
}

-- a fact of what a call leaves and answers, brought to what it is equal to
pub brought : (P : Files → Past → Result (Unit {0}) StoreError → Type 0) (new mid : Files) (later past : Past) (r s : Result (Unit {0}) StoreError) → new ≡ mid → later ≡ past → r ≡ s → P mid past s → P new later r
brought P new mid later past r s files moments is h = subst (λ (x : Files). P x later r) (sym files) (subst (λ (y : Past). P mid y r) (sym moments) (subst (λ (z : Result (Unit {0}) StoreError). P mid past z) (sym is) h))

pub fresh_gives : (c : Option (List ℕ)) → (fresh c).gives ≡ c
fresh_gives None = refl
fresh_gives (Some b) = refl

any_row : (h : Held) → h.torn ≡ true → (c : Option (List ℕ)) → MayHold h c ↔ Anything c
any_row h torn c = ((λ _. tt), (λ _. inr (inr torn)))

module _ (name : List ℕ) (old new : Files) (past : Past) (f g : ℕ) where
  pub wrote : (b : List ℕ) (o : Outcome) → o ≢ NothingDone → Alters name (written_by o b) old new → Changes {T = Unit {0}} name Anything Anything (Some b) (memory_world old past f) (memory_world new past g) (answer_of o)
  wrote b Done does alters = (grown name old past f g Anything new (at_row name (written b) Anything old new alters (any_row (written b (held_at old name)) refl)) (λ c _. tt) (gives_elsewhere name (written b) old new alters), ap (λ h. h.gives) alters.here)
  wrote b Fails does alters = grown name old past f g Anything new (at_row name doubted Anything old new alters (any_row (doubted (held_at old name)) refl)) (λ c _. tt) (gives_elsewhere name doubted old new alters)
  wrote b FailsDone does alters = grown name old past f g Anything new (at_row name (written b) Anything old new alters (any_row (written b (held_at old name)) refl)) (λ c _. tt) (gives_elsewhere name (written b) old new alters)
  wrote b NothingDone does alters = absurd (does refl)

  pub took_away : (o : Outcome) → o ≢ NothingDone → IsWhole (held_at old name) → Alters name (removed (has_effect o)) old new
      → Changes {T = Unit {0}} name (OldOr (may_of old name) None) (OldOr (may_of old name) None) None (memory_world old past f) (memory_world new past g) (answer_of o)
  took_away Done does whole alters = (grown name old past f g (OldOr (may_of old name) None) new (at_row name (removed true) (OldOr (may_of old name) None) old new alters (λ c. row_removed true (held_at old name) c whole)) (λ c may. inl may) (gives_elsewhere name (removed true) old new alters), ap (λ h. h.gives) alters.here)
  took_away Fails does whole alters = grown name old past f g (OldOr (may_of old name) None) new (at_row name (removed false) (OldOr (may_of old name) None) old new alters (λ c. row_removed false (held_at old name) c whole)) (λ c may. inl may) (gives_elsewhere name (removed false) old new alters)
  took_away FailsDone does whole alters = grown name old past f g (OldOr (may_of old name) None) new (at_row name (removed true) (OldOr (may_of old name) None) old new alters (λ c. row_removed true (held_at old name) c whole)) (λ c may. inl may) (gives_elsewhere name (removed true) old new alters)
  took_away NothingDone does whole alters = absurd (does refl)

-- a sync keeps the moment between what was held and what it doubts
module _ (name : List ℕ) (old mid new : Files) (past later : Past) (f g : ℕ) (kept : KeepsMoment old mid past later) where
  pub made_durable : (o : Outcome) → o ≢ NothingDone → Alters name doubted old mid → Alters name (synced_by o) old new
      → Changes {T = Unit {0}} name Anything (Only (gives_of old name)) (gives_of old name) (memory_world old past f) (memory_world new later g) (answer_of o)
  made_durable o does in_call alters = go o does alters
    where
      during : (n : List ℕ) (c : Option (List ℕ)) → between old mid n c ↔ At name Anything (may_of old) n c
      during = at_between name doubted Anything old mid in_call (λ c. (λ _. tt, λ _. inr ((any_row (doubted (held_at old name)) refl c).1 tt)))

      failed : Alters name doubted old new → Changes {T = Unit {0}} name Anything (Only (gives_of old name)) (gives_of old name) (memory_world old past f) (memory_world new later g) (answer_of Fails)
      failed alters = pushed name old past f g Anything Anything old mid new later kept during (at_row name doubted Anything old new alters (any_row (doubted (held_at old name)) refl)) (λ c _. tt) (λ c _. tt) (gives_elsewhere name doubted old new alters)

      go : (o : Outcome) → o ≢ NothingDone → Alters name (synced_by o) old new → Changes {T = Unit {0}} name Anything (Only (gives_of old name)) (gives_of old name) (memory_world old past f) (memory_world new later g) (answer_of o)
      go Done does alters = (
        pushed name old past f g Anything (Only (gives_of old name)) old mid new later kept during
            (at_row name (λ h. fresh h.gives) (Only (gives_of old name)) old new alters (row_fresh (gives_of old name))) (λ c _. tt) (λ c _. tt) (gives_elsewhere name (λ h. fresh h.gives) old new alters),
        ap (λ h. h.gives) alters.here ∙ fresh_gives (gives_of old name),
      )
      go Fails does alters = failed alters
      go FailsDone does alters = failed alters
      go NothingDone does alters = absurd (does refl)

-- a replacement keeps the moment between what was held and what is held now
module _ (name : List ℕ) (old new : Files) (past later : Past) (f g : ℕ) (kept : KeepsMoment old new past later) where
  pub put_in_place : (b : List ℕ) (o : Outcome) → o ≢ NothingDone → (o ≢ Done → IsWhole (held_at old name)) → Alters name (replaced_by o b) old new
      → Changes {T = Unit {0}} name (OldOr (may_of old name) (Some b)) (Only (Some b)) (Some b) (memory_world old past f) (memory_world new later g) (answer_of o)
  put_in_place b o does whole alters = go o does whole alters
    where
      failed : (shown : Bool) → IsWhole (held_at old name) → Alters name (offered shown b) old new → Becomes name (OldOr (may_of old name) (Some b)) (OldOr (may_of old name) (Some b)) (memory_world old past f) (memory_world new later g)
      failed shown whole alters = let row = row_offered shown b (held_at old name) in
          pushed name old past f g (OldOr (may_of old name) (Some b)) (OldOr (may_of old name) (Some b)) old new new later kept
          (at_between name (offered shown b) (OldOr (may_of old name) (Some b)) old new alters (λ c. (⊎_elim (λ was. inl was) (row c whole).0, λ may. inr ((row c whole).1 may))))
          (at_row name (offered shown b) (OldOr (may_of old name) (Some b)) old new alters (λ c. row c whole)) (λ c may. inl may) (λ c may. may) (gives_elsewhere name (offered shown b) old new alters)

      go : (o : Outcome) → o ≢ NothingDone → (o ≢ Done → IsWhole (held_at old name)) → Alters name (replaced_by o b) old new → Changes {T = Unit {0}} name (OldOr (may_of old name) (Some b)) (Only (Some b)) (Some b) (memory_world old past f) (memory_world new later g) (answer_of o)
      go Done does whole alters = (
        pushed name old past f g (OldOr (may_of old name) (Some b)) (Only (Some b)) old new new later kept
            (at_between name (λ _. fresh (Some b)) (OldOr (may_of old name) (Some b)) old new alters (λ c. (⊎_elim (λ was. inl was) (λ may. inr ((row_fresh (Some b) c).0 may)), ⊎_elim (λ was. inl was) (λ is. inr ((row_fresh (Some b) c).1 is)))))
            (at_row name (λ _. fresh (Some b)) (Only (Some b)) old new alters (row_fresh (Some b))) (λ c may. inl may) (λ c is. inr is) (gives_elsewhere name (λ _. fresh (Some b)) old new alters),
        ap (λ h. h.gives) alters.here,
      )
      go Fails does whole alters = failed false (whole (λ e. cc)) alters
      go FailsDone does whole alters = failed true (whole (λ e. cc)) alters
      go NothingDone does whole alters = absurd (does refl)

-- ---- the two steps of a sync

pub sync_ends : (name : List ℕ) (old mid new : Files) (e : Outcome) → e ≢ NothingDone → Alters name doubted old mid → Alters name (ended_by e) mid new → Alters name (synced_by e) old new
sync_ends name old mid new Done does first second = alters_then name doubted (λ h. fresh h.gives) old mid new first second
sync_ends name old mid new Fails does first second = alters_then name doubted (λ h. h) old mid new first second
sync_ends name old mid new FailsDone does first second = alters_then name doubted (λ h. h) old mid new first second
sync_ends name old mid new NothingDone does first second = absurd (does refl)

-- a sync that begins isn't one that does nothing
pub sync_does : (o : Outcome) (c : Option (List ℕ)) → o ≢ NothingDone → sync_outcome o c ≢ NothingDone
sync_does Done None does e = cc
sync_does Done (Some b) does e = cc
sync_does Fails c does e = cc
sync_does FailsDone c does e = cc
sync_does NothingDone c does e = does refl

pub sync_comes : (name : List ℕ) (old mid : Files) (o e : Outcome) → Alters name doubted old mid → e ≡ sync_outcome o (gives_of mid name) → e ≡ sync_outcome o (gives_of old name)
sync_comes name old mid o e first is = is ∙ ap (λ h. sync_outcome o h.gives) first.here

-- ---- what a call answers, by its outcome

pub held_by : (name : List ℕ) (f : Held → Held) (old new : Files) (o : Outcome) (r : Result (Unit {0}) StoreError) → o ≢ NothingDone → r ≡ answer_of o → Alters name f old new → HeldAs name f old new r
held_by name f old new o r does is alters = subst (λ (x : Result (Unit {0}) StoreError). HeldAs name f old new x) (sym is) (go o does)
  where
    go : (o : Outcome) → o ≢ NothingDone → HeldAs name f old new (answer_of o)
    go Done does = alters
    go Fails does = alters
    go FailsDone does = alters
    go NothingDone does = absurd (does refl)

pub each_held_by : (f : Held → Held) (old new : Files) (o : Outcome) (r : Result (Unit {0}) StoreError) → o ≢ NothingDone → r ≡ answer_of o → AltersEach f old new → EachHeldAs f old new r
each_held_by f old new o r does is each = subst (λ (x : Result (Unit {0}) StoreError). EachHeldAs f old new x) (sym is) (go o does)
  where
    go : (o : Outcome) → o ≢ NothingDone → EachHeldAs f old new (answer_of o)
    go Done does = each
    go Fails does = each
    go FailsDone does = each
    go NothingDone does = absurd (does refl)

pub planned_by : (p q : Plan) (o : Outcome) (r : Result (Unit {0}) StoreError) → r ≡ answer_of o → MovesOn p q → AsPlanned o p q r
planned_by p q o r is moves = subst (λ (x : Result (Unit {0}) StoreError). AsPlanned o p q x) (sym is) (go o)
  where
    go : (o : Outcome) → AsPlanned o p q (answer_of o)
    go Done = (refl, moves)
    go Fails = ((λ e. cc), (λ e. cc), moves)
    go FailsDone = ((λ e. cc), (λ e. cc), moves)
    go NothingDone = (refl, moves)

pub synced_there : (c : Option (List ℕ)) (o : Outcome) (r : Result (Unit {0}) StoreError) → r ≡ answer_of (sync_outcome o c) → OnOk r (IsSome c)
synced_there c o r is = subst (λ (x : Result (Unit {0}) StoreError). OnOk x (IsSome c)) (sym is) (go o c)
  where
    go : (o : Outcome) (c : Option (List ℕ)) → OnOk (answer_of (sync_outcome o c)) (IsSome c)
    go Done None = tt
    go Done (Some b) = refl
    go Fails c = tt
    go FailsDone c = tt
    go NothingDone c = tt
