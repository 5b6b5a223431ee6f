-- Writes after a record.
use Rattle.std.proofs.Common.{◌≡◌, ◌⊎◌, ⊎_elim, inl, inr, ℕ, ◌+◌, ◌∷◌, List, Option, Some, None, Result, Ok, Err, IsErrOf, IfSome, max, option_to_list, refl, sym, ap, ◌∙◌, subst}
use Rattle.lsm_below.specs.Keys.{Bytes}
use Rattle.lsm_below.specs.declared.error.Error.{Error}
use Rattle.lsm_below.specs.declared.error.Error.TheVariants.{OutOfMemory, Store, CommitUnknown}
use Rattle.lsm_store.specs.World.{Image, World, IsImage, Same, LeavesOnly}
use Rattle.lsm_store.specs.Moments.{started, rests}
use Rattle.lsm_model.specs.Ops.{op_entries}
use Rattle.lsm_model.specs.declared.op.Op.{Op}
use Rattle.lsm_memtable.specs.Memtables.{SeenMemtable}
use Rattle.lsm_commit.specs.Stored.{CountsFaults}
use Rattle.lsm_commit.specs.Foreign.{Spares, KeepsOwn, ChangesForeign}
use Rattle.lsm_log.specs.Changes.{PutsRecord, IsPut}
use Rattle.lsm_parts.specs.Held.{put_all_first}
use Rattle.lsm_state.specs.Core.{Core, versions_left, written_of, written_by, written_all, drawn_core}
use Rattle.lsm_state.specs.Commits.{UpholdsFiles}
use Rattle.lsm_state.specs.Calls.{IsWriteRun}
use Rattle.lsm_state.specs.Refusals.{batch_refusal}
use Rattle.lsm_state.specs.Recording.{Records, RecordsBatch, WritesBehindRecord}
use Rattle.lsm_state.proofs.Steps.{HasActive, write_run}
use Rattle.lsm_state.proofs.Upholding.{upheld, among_left}

-- what spares what is stored upholds a tree whose versions and written tables are the same
pub put_upholds : (w w' : World) (old new : Core) → Spares w w' → new.history ≡ old.history → new.lost ≡ old.lost → new.flush ≡ old.flush → UpholdsFiles w w' old new
put_upholds w w' old new spares history lost flush stored =
    let s = spares (versions_left old) (written_of old) stored in
    upheld w w' old new (versions_left old) (written_of old) (versions_left old) (ap (λ h. h.latest.version ∷ option_to_list new.lost) history ∙ ap (λ o. old.history.latest.version ∷ option_to_list o) lost) (ap written_by flush) s.0 s.1 (among_left (versions_left old) (versions_left old))

-- a call without effect changes no name, so none but a foreign one
pub same_changes : (old new : World) → ((image : Image) → old.since old.moment image → IsImage old.may image) → Same old new → ChangesForeign old new
same_changes old new only same = record {
  may = λ n c own may. (same.may n c).0 may;
  leaves = rests old old new (KeepsOwn old) (started old (KeepsOwn old) (λ image left n own. only image left n)) same;
}

-- ---- what is answered

module _ (ops : List (Bytes × Op)) (c : Core) where
  pub recorded : (n seqno visible : ℕ) (tables : List SeenMemtable) → HasActive c → n ≡ c.seqno → batch_refusal n ops ≡ None → tables ≡ put_all_first (op_entries n ops) c.memtables → seqno ≡ n + 1 → visible ≡ max c.visible_seqno (n + 1)
      → WritesBehindRecord ops (Ok n) c (record c { memtables = tables; seqno = seqno; visible_seqno = visible })
  recorded n seqno visible tables h is none put next shown =
      let whole : ◌≡◌ {A = Core} (record c { memtables = tables; seqno = seqno; visible_seqno = visible }) (drawn_core (written_all (op_entries c.seqno ops) c)) = rw (put, next, shown, is) refl in
      let free : batch_refusal c.seqno ops ≡ None = ap (λ m. batch_refusal m ops) (sym is) ∙ none in
      record {
        number = is;
        core = whole;
        run = subst (λ x. IsWriteRun (op_entries c.seqno ops) c x) (sym whole) (write_run (op_entries c.seqno ops) c h);
        unknown = λ e. absurd (cc e);
        refused = tt;
        accepted = free;
        doubted = λ e. absurd (cc e);
        told = subst (λ o. IfSome o (λ x. (◌≡◌ {A = Result ℕ Error} (Ok n) (Err x)) ⊎ (◌≡◌ {A = Result ℕ Error} (Ok n) (Err OutOfMemory)))) (sym free) tt;
        memory = λ _. tt;
      }

  pub doubtful : (n seqno : ℕ) → n ≡ c.seqno → batch_refusal n ops ≡ None → seqno ≡ n + 1 → WritesBehindRecord ops (Err CommitUnknown) c (record c { seqno = seqno })
  doubtful n seqno is none next =
      let free : batch_refusal c.seqno ops ≡ None = ap (λ m. batch_refusal m ops) (sym is) ∙ none in
      record {
        number = tt;
        core = tt;
        run = tt;
        unknown = λ e. ap (λ s. record c { seqno = s }) (next ∙ ap (λ m. m + 1) is);
        refused = inl refl;
        accepted = tt;
        doubted = λ e. free;
        told = subst (λ o. IfSome o (λ x. (◌≡◌ {A = Result ℕ Error} (Err CommitUnknown) (Err x)) ⊎ (◌≡◌ {A = Result ℕ Error} (Err CommitUnknown) (Err OutOfMemory)))) (sym free) tt;
        memory = λ _. inr (inr refl);
      }

  -- a reason of the batch's own, or else what went wrong meanwhile
  abbrev pub Why : ℕ → Error → Type 0
  Why n e = (batch_refusal n ops ≡ Some e) ⊎ ((e ≡ OutOfMemory) ⊎ ((e ≡ Store) × (batch_refusal n ops ≡ None)))

  pub refused : (n : ℕ) (e : Error) → n ≡ c.seqno → (e ≡ CommitUnknown → ⊥) → Why n e → WritesBehindRecord ops (Err e) c c
  refused n e is isnt why =
      let why' : Why c.seqno e = subst (λ m. Why m e) is why in
      record {
        number = tt;
        core = tt;
        run = tt;
        unknown = λ u. absurd (isnt (cc u));
        refused = inr refl;
        accepted = tt;
        doubted = λ u. absurd (isnt (cc u));
        told = ⊎_elim (λ (r : batch_refusal c.seqno ops ≡ Some e). subst (λ o. IfSome o (λ x. (◌≡◌ {A = Result ℕ Error} (Err e) (Err x)) ⊎ (◌≡◌ {A = Result ℕ Error} (Err e) (Err OutOfMemory)))) (sym r) (inl refl)) (λ rest. ⊎_elim (λ (m : e ≡ OutOfMemory). short (batch_refusal c.seqno ops) m) (λ free. subst (λ o. IfSome o (λ x. (◌≡◌ {A = Result ℕ Error} (Err e) (Err x)) ⊎ (◌≡◌ {A = Result ℕ Error} (Err e) (Err OutOfMemory)))) (sym free.1) tt) rest) why';
        memory = λ none. ⊎_elim (λ (r : batch_refusal c.seqno ops ≡ Some e). let z : Some e ≡ None = sym r ∙ none in absurd (cc z)) (λ rest. ⊎_elim (λ m. inl m) (λ free. inr (inl free.0)) rest) why';
      }
    where
      short : (o : Option Error) → e ≡ OutOfMemory → IfSome o (λ x. (◌≡◌ {A = Result ℕ Error} (Err e) (Err x)) ⊎ (◌≡◌ {A = Result ℕ Error} (Err e) (Err OutOfMemory)))
      short None m = tt
      short (Some x) m = inr (ap Err m)

-- ---- the store

pub put_ok : (number : ℕ) (bytes : Bytes) (w w' : World) (x : Unit {0}) → PutsRecord number bytes w w' (Ok x) → LeavesOnly w w' (IsPut number bytes w) → Spares w w' → Records number bytes w w' (Ok x)
put_ok number bytes w w' x puts moment spares = record {
  ok = record { leaves = puts.ok.0; any_moment = moment };
  unknown = λ u. absurd (cc u);
  memory = λ m. absurd (cc m);
  nothing = λ m. absurd (cc m);
  spares = spares;
}

pub put_err : (number : ℕ) (bytes : Bytes) (w w' : World) (e : Error) → PutsRecord {T = Unit {0}} number bytes w w' (Err e) → LeavesOnly w w' (IsPut number bytes w) → Spares w w' → Records {T = Unit {0}} number bytes w w' (Err e)
put_err number bytes w w' e puts moment spares = record {
  ok = tt;
  unknown = λ u. record { leaves = puts.unknown u; any_moment = moment };
  memory = λ m. puts.memory m;
  nothing = λ m. puts.nothing m;
  spares = spares;
}

-- the same error blames the store alike, whatever the answer's type
pub counts_err : {A B : Type 0} (w w' : World) (e : Error) → CountsFaults {T = A} w w' (Err e) → CountsFaults {T = B} w w' (Err e)
counts_err {A} {B} w w' e c = record { store = λ h. c.store (ap Err (error_of Store h)); unknown = λ h. c.unknown (ap Err (error_of CommitUnknown h)); none = λ s u. c.none (λ h. s (ap Err (back Store h))) (λ h. u (ap Err (back CommitUnknown h))) }
  where
    error_of : (x : Error) → IsErrOf {T = B} (Err e) x → e ≡ x
    error_of x h = cc h

    back : (x : Error) → IsErrOf {T = A} (Err e) x → e ≡ x
    back x h = cc h

nothing_put : (number : ℕ) (ops : List (Bytes × Op)) (w w' : World) (e : Error) → (e ≡ CommitUnknown → ⊥) → Same w w' → RecordsBatch number ops w w' (Err e)
nothing_put number ops w w' e isnt same = record { ok = tt; unknown = λ u. absurd (isnt (cc u)); refused = inr same }

pub batch_refused : (number : ℕ) (bytes : Bytes) (ops : List (Bytes × Op)) (w w' : World) (e : Error) → (e ≡ CommitUnknown → ⊥) → (e ≡ OutOfMemory) ⊎ (e ≡ Store) → Records {T = Unit {0}} number bytes w w' (Err e) → RecordsBatch number ops w w' (Err e)
batch_refused number bytes ops w w' e isnt why r = nothing_put number ops w w' e isnt (⊎_elim (λ m. r.memory (ap Err m)) (λ s. r.nothing (ap Err s)) why)
