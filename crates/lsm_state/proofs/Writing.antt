-- Tables that are written for a flush: what a tree keeps of their ids, and what is stored of them.
use Rattle.std.proofs.Common.{◌≡◌, ℕ, ◌-◌, ◌<◌, ◌≤◌, ◌^◌, Bool, true, false, cond, List, [], ◌∷◌, ◌++◌, Option, Some, None, map, length, option_to_list, suc, refl, sym, ap, ◌∙◌, subst, arith, eqb}
use Rattle.std.specs.Prelude.{nat_eq}
use Rattle.std.specs.List.{AllByRecursion, IsDistinct}
use Rattle.std.proofs.lemmas.Bool.Decides.{nat_tests}
use Rattle.lsm_below.specs.Each.{each_left, each_right, each_weaker, each_append}
use Rattle.lsm_below.specs.Entries.{Entry}
use Rattle.lsm_store.specs.World.{World}
use Rattle.lsm_tables.specs.Cutting.{IsCutting}
use Rattle.lsm_tables.specs.Tables.{SeenTable}
use Rattle.lsm_tables.proofs.Cutting.{cut_none}
use Rattle.lsm_versions.specs.Levels.{SeenVersion, all_of, HasOwnIds}
use Rattle.lsm_commit.specs.Stored.{IsStored, AreOnDisk}
use Rattle.lsm_commit.specs.Writing.{HoldEntries, KeepsStored}
use Rattle.lsm_flush.specs.Jobs.{SeenOpen}
use Rattle.lsm_parts.specs.History.{SeenHistory}
use Rattle.lsm_state.specs.Kept.{KeepsTables}
use Rattle.lsm_state.specs.Core.{Core, versions_left, written_by, written_of}
use Rattle.lsm_state.specs.Commits.{UpholdsFiles, Upholds}
use Rattle.lsm_state.specs.Flushes.{noted_in, spent_in}
use Rattle.lsm_state.proofs.Distinct.{own_behind}
use Rattle.lsm_state.proofs.Upholding.{upheld, among_left}

-- ---- ids

other_id : (i j n : ℕ) → n ≤ i → j < n → eqb i j ≡ false
other_id i j n le lt = grind (arith, nat_tests)

-- tables from an id on, before tables below it
pub own_joined : (n : ℕ) (xs ys : List SeenTable) → HasOwnIds xs → HasOwnIds ys → AllByRecursion (λ t. n ≤ t.id) xs → AllByRecursion (λ t. t.id < n) ys → HasOwnIds (xs ++ ys)
unfolding IsDistinct
own_joined n [] ys own others above below = others
own_joined n (x ∷ xs) ys own others above below = (joined xs own.0, own_joined n xs ys own.1 others above.1 below)
  where
    apart : (us : List SeenTable) → AllByRecursion (λ t. t.id < n) us → AllByRecursion (λ j. eqb x.id j ≡ false) (map (λ t. t.id) us)
    apart [] h = tt
    apart (u ∷ us) h = (other_id x.id u.id n above.0 h.0, apart us h.1)

    joined : (us : List SeenTable) → AllByRecursion (λ j. eqb x.id j ≡ false) (map (λ t. t.id) us) → AllByRecursion (λ j. eqb x.id j ≡ false) (map (λ t. t.id) (us ++ ys))
    joined [] h = apart ys below
    joined (u ∷ us) h = (h.0, joined us h.1)

own_none : HasOwnIds []
unfolding IsDistinct
own_none = tt

is_zero : (n : ℕ) → nat_eq n 0 ≡ true → n ≡ 0
is_zero n h = grind (arith, nat_tests)

none_or : (es : List Entry) → nat_eq (length es) 0 ≡ true → es ≡ []
none_or [] h = refl
none_or (e ∷ es) h = let none : suc (length es) ≡ 0 = is_zero (suc (length es)) h in absurd (omega (arith, none))

-- no entries: no tables
pub no_tables : (made_at n : ℕ) (es : List Entry) (tables : List SeenTable) → nat_eq (length es) 0 ≡ true → tables ≡ [] → HoldEntries made_at es n n tables
no_tables made_at n es tables empty none = subst (HoldEntries made_at es n n) (sym none) (record {
  whole = sym (none_or es empty);
  cut = subst (λ (l : List Entry). IsCutting 67108864 l []) (sym (none_or es empty)) (cut_none 67108864);
  made = tt;
  run = tt;
  fresh = tt;
  below = tt;
  own_ids = own_none;
  drawn = omega arith;
})

-- ---- what a tree keeps

later : (m n : ℕ) (ts : List SeenTable) → m ≤ n → AllByRecursion (λ t. t.id < m) ts → AllByRecursion (λ t. t.id < n) ts
later m n ts le h = each_weaker (λ t. t.id < m) (λ t. t.id < n) (λ t lt. omega (arith, le, lt)) ts h

module _ (h : SeenHistory) where
  abbrev tables_now : List SeenTable
  tables_now = all_of h.latest.version.levels

  pub tables_later : (flush : Option SeenOpen) (m n : ℕ) → m ≤ n → KeepsTables flush h m → KeepsTables flush h n
  tables_later flush m n le k = record {
    own_ids = k.own_ids;
    below = λ lt. later m n (written_by flush ++ tables_now) le (k.below (omega (arith, le, lt)));
    aged = k.aged;
  }

  -- the version's own
  pub own_now : (flush : Option SeenOpen) (n : ℕ) → KeepsTables flush h n → HasOwnIds tables_now
  own_now flush n k = own_behind (written_by flush) tables_now k.own_ids

  pub below_now : (flush : Option SeenOpen) (n : ℕ) → KeepsTables flush h n → n < 2 ^ 64 - 1 → AllByRecursion (λ t. t.id < n) tables_now
  below_now flush n k lt = each_right (λ t. t.id < n) (written_by flush) tables_now (k.below lt)

  -- with new tables before them
  pub own_written : (flush : Option SeenOpen) (made_at n next : ℕ) (es : List Entry) (tables : List SeenTable) → KeepsTables flush h n → n < 2 ^ 64 - 1 → HoldEntries made_at es n next tables → HasOwnIds (tables ++ tables_now)
  own_written flush made_at n next es tables k lt held = own_joined n tables tables_now held.own_ids (own_now flush n k) held.fresh (below_now flush n k lt)

  -- tables are noted for a job
  pub tables_noted : (number next made_at first : ℕ) (es : List Entry) (tables : List SeenTable) (flush : Option SeenOpen) → HoldEntries made_at es first next tables → HasOwnIds (tables ++ tables_now) → KeepsTables flush h next → KeepsTables (noted_in number tables flush) h next
  tables_noted number next made_at first es tables None held own k = k
  tables_noted number next made_at first es tables (Some f) held own k = by_case (eqb f.number number)
    where
      by_case : (b : Bool) → KeepsTables (cond b (Some (record f { written = tables })) (Some f)) h next
      by_case true = record { own_ids = own; below = λ lt. each_append (λ t. t.id < next) tables tables_now held.below (below_now (Some f) next k lt); aged = k.aged }
      by_case false = k

  -- a job is spent
  pub tables_spent : (number next : ℕ) (flush : Option SeenOpen) → KeepsTables flush h next → KeepsTables (spent_in number flush) h next
  tables_spent number next None k = k
  tables_spent number next (Some f) k = by_case (eqb f.number number)
    where
      by_case : (b : Bool) → KeepsTables (cond b None (Some f)) h next
      by_case true = record { own_ids = own_now (Some f) next k; below = λ lt. below_now (Some f) next k lt; aged = k.aged }
      by_case false = k

-- ---- what is stored

with_unnamed : (w : World) (vs : List SeenVersion) (ts us : List SeenTable) → IsStored w vs ts → AreOnDisk w us → IsStored w vs us
with_unnamed w vs ts us s disk = record { current = s.current; whole = s.whole; written = disk; no_version = s.no_version; in_tables = s.in_tables }

pub stored_noted : (w : World) (vs : List SeenVersion) (number : ℕ) (tables : List SeenTable) (flush : Option SeenOpen) → IsStored w vs (written_by flush) → AreOnDisk w tables → IsStored w vs (written_by (noted_in number tables flush))
stored_noted w vs number tables None s disk = s
stored_noted w vs number tables (Some f) s disk = by_case (eqb f.number number)
  where
    by_case : (b : Bool) → IsStored w vs (written_by (cond b (Some (record f { written = tables })) (Some f)))
    by_case true = with_unnamed w vs f.written tables s disk
    by_case false = s

pub stored_spent : (w : World) (vs : List SeenVersion) (number : ℕ) (flush : Option SeenOpen) → IsStored w vs (written_by flush) → IsStored w vs (written_by (spent_in number flush))
stored_spent w vs number None s = s
stored_spent w vs number (Some f) s = by_case (eqb f.number number)
  where
    by_case : (b : Bool) → IsStored w vs (written_by (cond b None (Some f)))
    by_case true = with_unnamed w vs f.written [] s tt
    by_case false = s

pub noted_upholds : (w w' : World) (old mid : Core) (number : ℕ) (tables : List SeenTable) → Upholds w w' old mid → AreOnDisk w' tables → Upholds w w' old (record mid { flush = noted_in number tables mid.flush })
noted_upholds w w' old mid number tables upholds disk = record {
  files = λ stored. let one = upholds.files stored in (stored_noted w' (versions_left mid) number tables mid.flush one.0 disk, one.1);
  passes = upholds.passes;
}

-- tables are written under the next ids
pub written_upholds : (w w' : World) (old new : Core) → old.lost ≡ None → new.history ≡ old.history → new.lost ≡ old.lost → new.flush ≡ old.flush → KeepsTables old.flush old.history old.next_table → old.next_table < 2 ^ 64 - 1 → KeepsStored old.next_table w w' → UpholdsFiles w w' old new
written_upholds w w' old new certain history lost flush k lt keeps stored =
    let v = old.history.latest.version in
    let one : versions_left old ≡ v ∷ [] = ap (λ o. v ∷ option_to_list o) certain in
    let kept = keeps (versions_left old) (written_of old) stored (subst (AllByRecursion (λ u. AllByRecursion (λ t. t.id < old.next_table) (all_of u.levels))) (sym one) (below_now old.history old.flush old.next_table k lt, tt)) (each_left (λ t. t.id < old.next_table) (written_of old) (all_of v.levels) (k.below lt)) in
    upheld w w' old new (versions_left old) (written_of old) (versions_left old) (ap (λ h. h.latest.version ∷ option_to_list new.lost) history ∙ ap (λ o. v ∷ option_to_list o) lost) (ap written_by flush) kept.0 kept.1 (among_left (versions_left old) (versions_left old))
