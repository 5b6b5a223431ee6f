-- Each call is a step of the theory.
use Rattle.std.proofs.Common.{◌≡◌, ℕ, ◌+◌, true, false, cond, List, [], ◌∷◌, ◌++◌, max, ◌⊎◌, None, Result, Ok, Err, IfOk, IfErr, OnOk, OnErr, IfSome, map, refl, sym, ap, ◌∙◌, subst, eqb, append-nil, append_assoc}
use Rattle.lsm_below.specs.Keys.{Bytes}
use Rattle.lsm_below.specs.Entries.{Entry, entry_cmp, stack}
use Rattle.lsm_below.specs.Sorted.{put}
use Rattle.lsm_model.specs.Journal.{Event}
use Rattle.lsm_model.specs.Views.{written}
use Rattle.lsm_model.specs.Steps.{Run, Wrote}
use Rattle.lsm_model.specs.declared.journal.JournalEntry.TheVariants.{Write}
use Rattle.lsm_model.specs.Ops.{op_entries}
use Rattle.lsm_model.specs.declared.op.Op.{Op}
use Rattle.lsm_memtable.specs.Memtables.{SeenMemtable, entry_size}
use Rattle.lsm_below.specs.declared.error.Error.{Error}
use Rattle.lsm_below.specs.declared.error.Error.TheVariants.{OutOfMemory}
use Rattle.lsm_parts.specs.Held.{entries_of, put_first, put_all_first, HasFirst, first_size}
use Rattle.lsm_state.specs.Core.{Core, state_of, written_core, written_all, drawn_core}
use Rattle.lsm_state.specs.Refusals.{entry_refusal, batch_refusal}
use Rattle.lsm_state.specs.Calls.{IsWriteStep, IsWriteRun, Appends, WritesBatch}

-- ---- writes

-- an insert into the first memtable is one under its id
put_first-written : (tables : List SeenMemtable) (a : ℕ) (e : Entry) → HasFirst tables (λ t. t.id ≡ a) → (i : ℕ) → entries_of (put_first e tables) i ≡ written (entries_of tables) a e i
put_first-written [] a e h i = absurd h
put_first-written (t ∷ tables) a e h i =
    subst (λ b. entries_of (put_first e (t ∷ tables)) i ≡ written (entries_of (t ∷ tables)) b e i) h
    (elim (eqb i t.id) as (λ b. cond b (put entry_cmp e t.entries) (entries_of tables i) ≡ cond b (put entry_cmp e (cond b t.entries (entries_of tables i))) (cond b t.entries (entries_of tables i))) [ true ↦ refl | false ↦ refl ])

-- the first memtable is the active one
abbrev pub HasActive : Core → Type 0
HasActive c = HasFirst c.memtables (λ t. t.id ≡ c.history.latest.active_memtable)

pub write_step : (e : Entry) (c : Core) → HasActive c → IsWriteStep e c (written_core e c)
write_step e c h opened journal = record { journal = refl; mems = λ k i. ap (stack k) (put_first-written c.memtables c.history.latest.active_memtable e h i); latest = refl; older = refl }

first_kept : (tables : List SeenMemtable) (e : Entry) (P : ℕ → Type 0) → HasFirst tables (λ t. P t.id) → HasFirst (put_first e tables) (λ t. P t.id)
first_kept [] e P h = h
first_kept (t ∷ tables) e P h = h

all_first : (e : Entry) (es : List Entry) (tables : List SeenMemtable) → put_all_first (e ∷ es) tables ≡ put_all_first es (put_first e tables)
all_first e es [] = refl
all_first e es (t ∷ tables) = refl

none_first : (tables : List SeenMemtable) → put_all_first [] tables ≡ tables
none_first [] = refl
none_first (t ∷ tables) = refl

abbrev pub with_memtables : Core → List SeenMemtable → Core
with_memtables c tables = record c { memtables = tables }

pub write_run : (es : List Entry) (c : Core) → HasActive c → IsWriteRun es c (written_all es c)
write_run [] c h opened journal = ap₂_state (append-nil journal) (none_first c.memtables)
  where
    ap₂_state : {j j' : List Event} {ts ts' : List SeenMemtable} → j ≡ j' → ts ≡ ts' → state_of j (with_memtables c ts) ≡ state_of j' (with_memtables c ts')
    ap₂_state {j' = j'} {ts = ts} p q = ap (λ j. state_of j (with_memtables c ts)) p ∙ ap (λ t. state_of j' (with_memtables c t)) q
write_run (e ∷ es) c h opened journal =
    let rest = write_run es (written_core e c) (first_kept c.memtables e (λ i. i ≡ c.history.latest.active_memtable) h) opened (journal ++ Write e ∷ []) in (
      state_of (journal ++ Write e ∷ []) (written_core e c),
      write_step e c h opened journal,
      subst (λ j. Run opened (state_of (journal ++ Write e ∷ []) (written_core e c)) (map Wrote es) (state_of j (written_all (e ∷ es) c))) (append_assoc journal (Write e ∷ []) (map Write es))
          (subst (λ ts. Run opened (state_of (journal ++ Write e ∷ []) (written_core e c)) (map Wrote es) (state_of ((journal ++ Write e ∷ []) ++ map Write es) (with_memtables c ts))) (sym (all_first e es c.memtables)) rest),
    )

-- an insert into the memtables is a write
pub appended : (e : Entry) (r : Result (ℕ × ℕ) Error) (c : Core) (tables : List SeenMemtable) → HasActive c → entry_refusal e ≡ None
    → IfOk r (λ s. (s.0 ≡ entry_size e) × (s.1 ≡ first_size tables)) → OnOk r (tables ≡ put_first e c.memtables) → OnErr r (tables ≡ c.memtables) → IfErr r (λ x. x ≡ OutOfMemory)
    → Appends e r c (with_memtables c tables)
appended e (Ok s) c tables h none sizes ok err memory = record {
  sizes = sizes;
  core = ap (with_memtables c) ok;
  step = subst (λ t. IsWriteStep e c (with_memtables c t)) (sym ok) (write_step e c h);
  unchanged = tt;
  told = subst (λ o. IfSome o (λ x. ◌≡◌ {A = Result (ℕ × ℕ) Error} (Ok s) (Err x))) (sym none) tt;
  memory = λ _. tt;
}
appended e (Err x) c tables h none sizes ok err memory = record {
  sizes = tt;
  core = tt;
  step = tt;
  unchanged = ap (with_memtables c) err;
  told = subst (λ o. IfSome o (λ y. ◌≡◌ {A = Result (ℕ × ℕ) Error} (Err x) (Err y))) (sym none) tt;
  memory = λ _. memory;
}

-- a batch is written under the next sequence number
pub batch_written : (ops : List (Bytes × Op)) (c : Core) (n : ℕ) (tables : List SeenMemtable) (seqno visible : ℕ) → HasActive c → n ≡ c.seqno → batch_refusal n ops ≡ None
    → tables ≡ put_all_first (op_entries n ops) c.memtables → seqno ≡ n + 1 → visible ≡ max c.visible_seqno (n + 1)
    → WritesBatch ops (Ok n) c (record c { memtables = tables; seqno = seqno; visible_seqno = visible })
batch_written ops c n tables seqno visible h is none put next shown =
    let whole : ◌≡◌ {A = Core} (record c { memtables = tables; seqno = seqno; visible_seqno = visible }) (drawn_core (written_all (op_entries c.seqno ops) c)) = rw (put, next, shown, is) refl in
    record {
      number = is;
      core = whole;
      run = subst (λ x. IsWriteRun (op_entries c.seqno ops) c x) (sym whole) (write_run (op_entries c.seqno ops) c h);
      unchanged = tt;
      told = subst (λ o. IfSome o (λ x. (◌≡◌ {A = Result ℕ Error} (Ok n) (Err x)) ⊎ (◌≡◌ {A = Result ℕ Error} (Ok n) (Err OutOfMemory)))) (sym none ∙ ap (λ m. batch_refusal m ops) is) tt;
      memory = λ _. tt;
    }
