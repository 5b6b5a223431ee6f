-- Records are written to a tree, under their own numbers.
use Rattle.std.proofs.Common.{◌≡◌, ⊎_elim, inl, inr, ℕ, List, [], ◌∷◌, ◌++◌, length, take, get_or, map, Contains, ◌+◌, ◌<◌, ◌≤◌, ◌^◌, refl, sym, ap, ◌∙◌, subst, append-nil}
use Rattle.std.specs.Prelude.{◌↔◌}
use Rattle.std.proofs.lemmas.List.{map-append}
use Rattle.std.proofs.lemmas.Grind.{flat_map-append}
use Rattle.std.specs.List.{All, AllByRecursion}
use Rattle.std.specs.List.Sorted.{IsStrictlyIncreasing}
use Rattle.std.proofs.lemmas.List.Elements.{All-weaker, All-contains, All-contains_itself, All-from_recursion}
use Rattle.lsm_below.specs.Each.{each_append, each_weaker}
use Rattle.lsm_store.specs.World.{Image, World, IsImage, Same, LeavesOnly}
use Rattle.lsm_store.specs.Moments.{started, rests, joined}
use Rattle.lsm_log.specs.LogNames.{record_name}
use Rattle.lsm_log.specs.Changes.{ClearsRecords, AreCleared}
use Rattle.lsm_log.specs.Logs.{IsThere, IsRecordAt, IsNoRecordAt, LacksOne, IsLogFrom, IsLogAt}
use Rattle.lsm_log.proofs.Loaded.{numbers_push}
use Rattle.lsm_below.specs.Keys.{Bytes}
use Rattle.lsm_below.specs.Entries.{Entry, plain}
use Rattle.lsm_model.specs.Ops.{op_entry, op_entries}
use Rattle.lsm_model.specs.declared.op.Op.{Op}
use Rattle.lsm_model.specs.declared.op.Op.TheVariants.{Set, Del, Weak}
use Rattle.lsm_memtable.specs.Memtables.{SeenMemtable, with_entry, with_entries}
use Rattle.lsm_log.specs.declared.record.Record.{Record}
use Rattle.lsm_parts.specs.Held.{put_first, put_all_first}
use Rattle.lsm_state.specs.Core.{Core, written_core, written_all}
use Rattle.lsm_state.specs.Commits.{UpholdsFiles}
use Rattle.lsm_logged.specs.Opening.{entries_read, ReplaysEach}

-- ---- entries, one after the other

with_joined : (xs ys : List Entry) (t : SeenMemtable) → with_entries ys (with_entries xs t) ≡ with_entries (xs ++ ys) t
with_joined [] ys t = refl
with_joined (x ∷ xs) ys t = with_joined xs ys (with_entry x t)

put_joined : (xs ys : List Entry) (ts : List SeenMemtable) → put_all_first ys (put_all_first xs ts) ≡ put_all_first (xs ++ ys) ts
put_joined xs ys [] = refl
put_joined xs ys (t ∷ ts) = ap (λ m. m ∷ ts) (with_joined xs ys t)

put_one : (e : Entry) (ts : List SeenMemtable) → put_first e ts ≡ put_all_first (e ∷ []) ts
put_one e [] = refl
put_one e (t ∷ ts) = refl

pub written_joined : (xs ys : List Entry) (c : Core) → written_all ys (written_all xs c) ≡ written_all (xs ++ ys) c
written_joined xs ys c = ap (λ ts. record c { memtables = ts }) (put_joined xs ys c.memtables)

written_one : (e : Entry) (c : Core) → written_core e c ≡ written_all (e ∷ []) c
written_one e c = ap (λ ts. record c { memtables = ts }) (put_one e c.memtables)

none_written : (c : Core) → c ≡ written_all [] c
none_written c = ap (λ ts. record c { memtables = ts }) (none_first c.memtables)
  where
    none_first : (ts : List SeenMemtable) → ts ≡ put_all_first [] ts
    none_first [] = refl
    none_first (t ∷ ts) = refl

-- ---- a record

plain_op : (k : Bytes) (n : ℕ) (op : Op) → plain (op_entry k n op) ≡ op_entry k n op
plain_op k n (Set value) = refl
plain_op k n Del = refl
plain_op k n Weak = refl

pub one_more : (n : ℕ) (ops : List (Bytes × Op)) (k : Bytes) (op : Op) (e : Entry) (first mid new : Core) → mid ≡ written_all (op_entries n ops) first → e ≡ op_entry k n op → new ≡ written_core (plain e) mid
    → new ≡ written_all (op_entries n (ops ++ (k, op) ∷ [])) first
one_more n ops k op e first mid new so_far is did =
    did ∙ (ap (λ x. written_core (plain x) mid) is ∙ (ap (λ x. written_core x mid) (plain_op k n op) ∙ (ap (written_core (op_entry k n op)) so_far ∙ (written_one (op_entry k n op) (written_all (op_entries n ops) first)
    ∙ (written_joined (op_entries n ops) (op_entry k n op ∷ []) first ∙ ap (λ es. written_all es first) (sym (map-append (λ p. op_entry p.0 n p.1) ops ((k, op) ∷ []))))))))

-- ---- records

record_more : (rs : List Record) (r : Record) (first mid new : Core) → mid ≡ written_all (entries_read rs) first → new ≡ written_all (op_entries r.number r.ops) mid → new ≡ written_all (entries_read (rs ++ r ∷ [])) first
record_more rs r first mid new so_far did =
    did ∙ (ap (written_all (op_entries r.number r.ops)) so_far ∙ (written_joined (entries_read rs) (op_entries r.number r.ops) first
    ∙ ap (λ es. written_all es first) (ap (λ es. entries_read rs ++ es) (sym (append-nil (op_entries r.number r.ops))) ∙ sym (flat_map-append (λ x. op_entries x.number x.ops) rs (r ∷ [])))))

pub none_replayed : (tells : Type 0) (image : Image) (c : Core) → ReplaysEach tells image [] c c
none_replayed tells image c = record { records = []; named = refl; core = none_written c; records_are = λ t. tt }

pub one_replayed : (tells : Type 0) (image : Image) (ns : List ℕ) (i : ℕ) (r : Record) (first mid new : Core) → ReplaysEach tells image (take i ns) first mid → i < length ns → r.number ≡ get_or ns i 0 → (tells → IsRecordAt image (get_or ns i 0) r)
    → new ≡ written_all (op_entries r.number r.ops) mid → ReplaysEach tells image (take (i + 1) ns) first new
one_replayed tells image ns i r first mid new so_far lt is at did = record {
  records = so_far.records ++ r ∷ [];
  named = numbers_push so_far.records r ns i so_far.named lt is;
  core = record_more so_far.records r first mid new so_far.core did;
  records_are = λ t. each_append (λ (x : Record). IsRecordAt image x.number x) so_far.records (r ∷ []) (so_far.records_are t) (subst (λ (n : ℕ). IsRecordAt image n r) (sym is) (at t), tt);
}

-- a tree's files don't hang on what is written to its memtables
pub written_upholds : (w w' : World) (es : List Entry) (old mid new : Core) → new ≡ written_all es mid → UpholdsFiles w w' old mid → UpholdsFiles w w' old new
written_upholds w w' es old mid new is upheld = subst (UpholdsFiles w w' old) (sym is) upheld

-- ---- what was checked

pub small_each : (xs : List ℕ) → ((k : ℕ) → Contains xs k → k < 2 ^ 63) → All (λ k. k < 2 ^ 63) xs
small_each xs h = All-weaker (Contains xs) (λ k. k < 2 ^ 63) h xs (All-contains_itself xs)

module _ (image : Image) (from : ℕ) (passed numbers : List ℕ) (log : IsLogAt image from passed numbers) where
  pub passed_small : All (λ k. k < 2 ^ 63) passed
  passed_small = small_each passed (λ k there. ((log.log.passed_are k).0 there).0.small)

  pub read_small : All (λ k. k < 2 ^ 63) numbers
  read_small = subst (All (λ k. k < 2 ^ 63)) log.named (small_each (map (λ r. r.number) log.records) (λ k there. ((log.log.read_are k).0 there).0.small))

  pub read_rise : IsStrictlyIncreasing numbers
  read_rise = subst IsStrictlyIncreasing log.named log.log.read_rise

  -- where another image has the same records, each is read again
  module _ (left : Image) (same : (k : ℕ) → left (record_name k) ≡ image (record_name k)) where
    moved : (k : ℕ) (r : Record) → IsRecordAt left k r → IsRecordAt image k r
    moved k r at = record { bytes = at.bytes; file = sym (same k) ∙ at.file; reads = at.reads; number_is = at.number_is }

    pub log_read : (records : List Record) → map (λ r. r.number) records ≡ numbers → AllByRecursion (λ r. IsRecordAt left r.number r) records → IsLogFrom image from passed records
    log_read records named at =
        let is : map (λ (r : Record). r.number) log.records ≡ map (λ (r : Record). r.number) records = log.named ∙ sym named in
        record {
          numbers = log.log.numbers;
          are = log.log.are;
          passed_are = log.log.passed_are;
          read_are = λ k. subst (λ l. Contains l k ↔ (IsThere image k × (from ≤ k))) is (log.log.read_are k);
          passed_rise = log.log.passed_rise;
          read_rise = subst IsStrictlyIncreasing is log.log.read_rise;
          records_are = each_weaker (λ r. IsRecordAt left r.number r) (λ r. IsRecordAt image r.number r) (λ r. moved r.number r) records at;
        }

    there : (rs : List Record) → AllByRecursion (λ r. IsRecordAt image r.number r) rs → AllByRecursion (λ k. IsNoRecordAt left k → ⊥) (map (λ r. r.number) rs)
    there [] at = tt
    there (r ∷ rs) at = (λ none. none at.0.bytes r.ops (same r.number ∙ at.0.file) at.0.reads, there rs at.1)

    pub none_lacks : LacksOne left numbers → ⊥
    none_lacks lacks =
        let each = there log.records log.log.records_are in
        All-contains (λ k. IsNoRecordAt left k → ⊥) numbers lacks.0 (All-from_recursion (λ k. IsNoRecordAt left k → ⊥) numbers (subst (AllByRecursion (λ k. IsNoRecordAt left k → ⊥)) log.named each)) lacks.1 lacks.2

-- ---- what is removed after it

pub clears_none : (P : ℕ → Type 0) (old new : World) → Same old new → ClearsRecords P old new
clears_none P old new same = record {
  may = λ n c m. inl ((same.may n c).0 m);
  gives = λ n none. same.gives n;
}

pub clears_behind : (P : ℕ → Type 0) (old mid new : World) → Same old mid → ClearsRecords P mid new → ClearsRecords P old new
clears_behind P old mid new same clears = record {
  may = λ n c m. ⊎_elim (λ was. inl ((same.may n c).0 was)) (λ gone. inr gone) (clears.may n c m);
  gives = λ n none. clears.gives n none ∙ same.gives n;
}

pub cleared_none : (P : ℕ → Type 0) (old new : World) → ((image : Image) → old.since old.moment image → IsImage old.may image) → Same old new → LeavesOnly old new (AreCleared P old)
cleared_none P old new only same = rests old old new (AreCleared P old) (started old (AreCleared P old) (λ image left n. inl (only image left n))) same

pub cleared_behind : (P : ℕ → Type 0) (old mid new : World) → ((image : Image) → old.since old.moment image → IsImage old.may image) → Same old mid → LeavesOnly mid new (AreCleared P mid) → LeavesOnly old new (AreCleared P old)
cleared_behind P old mid new only same leaves =
    joined old mid new (AreCleared P old) (AreCleared P mid) (AreCleared P old) (cleared_none P old mid only same) leaves (λ image was. was)
    (λ image was n. ⊎_elim (λ m. inl ((same.may n (image n)).0 m)) (λ gone. inr gone) (was n))

-- the numbers of a log are below 2^63
pub small_numbers : (image : Image) (from : ℕ) (passed numbers : List ℕ) → IsLogAt image from passed numbers → All (λ k. k < 2 ^ 63) numbers
small_numbers image from passed numbers at =
    let rs = map (λ (r : Record). r.number) at.records in
    subst (All (λ k. k < 2 ^ 63)) at.named (All-weaker (Contains rs) (λ k. k < 2 ^ 63) (λ k there. ((at.log.read_are k).0 there).0.small) rs (All-contains_itself rs))
