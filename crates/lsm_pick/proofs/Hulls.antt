-- What a range overlaps, and what stands within it.
use Rattle.std.proofs.Common.{◌≡◌, ℕ, ◌<◌, true, List, length, get_or, arith}
use Rattle.lsm_below.specs.Keys.{Bytes, is_below}
use Rattle.lsm_below.specs.Runs.{IsRun}
use Rattle.lsm_tables.specs.Tables.{SeenTable}
use Rattle.lsm_versions.specs.Levels.{range}
use Rattle.lsm_pick.specs.Tables.{is_upto, is_begun, is_open, meets, is_inside}
use Rattle.lsm_pick.proofs.Members.{Has, at_has, any_has, has_any, and_left, and_right, and_both}
use Rattle.lsm_pick.proofs.Order.{upto_trans, below_upto}
use Rattle.lsm_pick.proofs.Pairs.{run_order, run_range}

-- some table of the list begins no later, some ends no earlier
pub begun_by : (ts : List SeenTable) (k : Bytes) → is_begun k ts ≡ true → (u : SeenTable) × Has ts u × (is_upto (range u).min k ≡ true)
begun_by ts k h = any_has (λ u. is_upto (range u).min k) ts h

pub open_by : (ts : List SeenTable) (k : Bytes) → is_open k ts ≡ true → (u : SeenTable) × Has ts u × (is_upto k (range u).max ≡ true)
open_by ts k h = any_has (λ u. is_upto k (range u).max) ts h

pub by_begun : (ts : List SeenTable) (k : Bytes) (u : SeenTable) → Has ts u → is_upto (range u).min k ≡ true → is_begun k ts ≡ true
by_begun ts k u h e = has_any (λ u. is_upto (range u).min k) ts u h e

pub by_open : (ts : List SeenTable) (k : Bytes) (u : SeenTable) → Has ts u → is_upto k (range u).max ≡ true → is_open k ts ≡ true
by_open ts k u h e = has_any (λ u. is_upto k (range u).max) ts u h e

pub begun_more : (ts : List SeenTable) (a b : Bytes) → is_upto a b ≡ true → is_begun a ts ≡ true → is_begun b ts ≡ true
begun_more ts a b le h = let found = begun_by ts a h in by_begun ts b found.0 found.1 (upto_trans (range found.0).min a b found.2 le)

pub open_more : (ts : List SeenTable) (a b : Bytes) → is_upto b a ≡ true → is_open a ts ≡ true → is_open b ts ≡ true
open_more ts a b le h = let found = open_by ts a h in by_open ts b found.0 found.1 (upto_trans b a (range found.0).max le found.2)

pub begun_of : (ts : List SeenTable) (t : SeenTable) → meets ts t ≡ true → is_begun (range t).max ts ≡ true
begun_of ts t h = and_left (is_begun (range t).max ts) (is_open (range t).min ts) h

pub open_of : (ts : List SeenTable) (t : SeenTable) → meets ts t ≡ true → is_open (range t).min ts ≡ true
open_of ts t h = and_right (is_begun (range t).max ts) (is_open (range t).min ts) h

pub meets_by : (ts : List SeenTable) (t : SeenTable) → is_begun (range t).max ts ≡ true → is_open (range t).min ts ≡ true → meets ts t ≡ true
meets_by ts t h g = and_both (is_begun (range t).max ts) (is_open (range t).min ts) h g

module _ (run : List SeenTable) (sorted : IsRun range run) (i j k : ℕ) (a b c : SeenTable) (ij : i < j) (jk : j < k) (fits : k < length run)
    (ai : get_or run i a ≡ a) (bj : get_or run j b ≡ b) (ck : get_or run k c ≡ c) where
  ab : is_below (range a).max (range b).min ≡ true
  ab = rw (ai, bj) at (run_order range run i j a b sorted ij (omega arith))

  bc : is_below (range b).max (range c).min ≡ true
  bc = rw (bj, ck) at (run_order range run j k b c sorted jk fits)

  own : (x : SeenTable) (n : ℕ) → n < length run → get_or run n x ≡ x → is_upto (range x).min (range x).max ≡ true
  own x n lt e = run_range range run x sorted (at_has run n x lt e)

  a_low : is_upto (range a).min (range b).min ≡ true
  a_low = upto_trans (range a).min (range a).max (range b).min (own a i (omega arith) ai) (below_upto (range a).max (range b).min ab)

  a_high : is_upto (range a).max (range b).max ≡ true
  a_high = upto_trans (range a).max (range b).min (range b).max (below_upto (range a).max (range b).min ab) (own b j (omega arith) bj)

  c_low : is_upto (range b).min (range c).min ≡ true
  c_low = upto_trans (range b).min (range b).max (range c).min (own b j (omega arith) bj) (below_upto (range b).max (range c).min bc)

  c_high : is_upto (range b).max (range c).max ≡ true
  c_high = upto_trans (range b).max (range c).min (range c).max (below_upto (range b).max (range c).min bc) (own c k fits ck)

  -- what stands between two tables that a range overlaps is overlapped too
  pub meets_between : (ts : List SeenTable) → meets ts a ≡ true → meets ts c ≡ true → meets ts b ≡ true
  meets_between ts x y = meets_by ts b (begun_more ts (range a).max (range b).max a_high (begun_of ts a x)) (open_more ts (range c).min (range b).min c_low (open_of ts c y))

  -- and what stands between two tables within a range is within
  pub inside_between : (ts : List SeenTable) → is_inside ts a ≡ true → is_inside ts c ≡ true → is_inside ts b ≡ true
  inside_between ts x y =
      and_both (is_begun (range b).min ts) (is_open (range b).max ts)
      (begun_more ts (range a).min (range b).min a_low (and_left (is_begun (range a).min ts) (is_open (range a).max ts) x))
      (open_more ts (range c).max (range b).max c_high (and_right (is_begun (range c).min ts) (is_open (range c).max ts) y))
