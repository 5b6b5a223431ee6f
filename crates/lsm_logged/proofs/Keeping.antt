-- A record more in a store.
use Rattle.std.proofs.Common.{◌≡◌, ◌≢◌, ◌⊎◌, ℕ, ◌<◌, ◌≤◌, ◌^◌, List, [], ◌∷◌, ◌++◌, Option, Some, None, sym, ap, ◌∙◌, subst, arith, append-nil}
use Rattle.std.specs.List.{AllByRecursion}
use Rattle.lsm_below.specs.Each.{each_append, each_left, each_right, each_both}
use Rattle.lsm_below.specs.Numbers.{PlainNumbersAreRead}
use Rattle.lsm_model.specs.Beginnings.{Saved}
use Rattle.lsm_log.specs.declared.kinds.LogName.TheVariants.{RecordFile, Refused}
use Rattle.lsm_log.specs.LogNames.{record_name, kind_of}
use Rattle.lsm_log.proofs.NameLemmas.{record_kind}
use Rattle.lsm_log_model.specs.Records.{Batch}
use Rattle.lsm_log_model.specs.Logs.{Logged as Log, lost_of}
use Rattle.lsm_logged.proofs.LogNames.{apart}
use Rattle.lsm_logged.specs.Keeping.{IsRecordFile, IsNoNumber, HasLog}

abbrev pub Has : Type 1
Has = List ℕ → Option (List ℕ) → Type 0

-- what has less has the log too
pub narrower : (t : Log) (has less : Has) → ((n : List ℕ) (c : Option (List ℕ)) → less n c → has n c) → HasLog t has → HasLog t less
narrower t has less within h = record {
  counted = each_both (λ b. (c : Option (List ℕ)) → has (record_name b.number) c → IsRecordFile b c) (λ b. Unit {0}) (λ b. (c : Option (List ℕ)) → less (record_name b.number) c → IsRecordFile b c) (λ b p u c m. p c (within (record_name b.number) c m)) t.records h.counted (units t.records);
  doubted = each_both (λ b. (c : Option (List ℕ)) → has (record_name b.number) c → (c ≡ None) ⊎ IsRecordFile b c) (λ b. Unit {0}) (λ b. (c : Option (List ℕ)) → less (record_name b.number) c → (c ≡ None) ⊎ IsRecordFile b c) (λ b p u c m. p c (within (record_name b.number) c m)) (lost_of t.lost) h.doubted (units (lost_of t.lost));
  absent = λ n small le none c m. h.absent n small le none c (within (record_name n) c m);
  named = λ n refused c m. h.named n refused c (within n c m);
  small = h.small;
}
  where
    units : (bs : List Batch) → AllByRecursion (λ b. Unit {0}) bs
    units [] = tt
    units (b ∷ bs) = (tt, units bs)

module _ (read : PlainNumbersAreRead) (t : Log) (b : Batch) (small : b.number < 2 ^ 63) (above : AllByRecursion (λ x. x.number < b.number) t.records) (certain : t.lost ≡ None) (has now : Has)
    (elsewhere : (n : List ℕ) (c : Option (List ℕ)) → n ≢ record_name b.number → now n c → has n c) (h : HasLog t has) where
  less_apart : (i : ℕ) → i < b.number → record_name i ≢ record_name b.number
  less_apart i lt e =
      let same : i ≡ b.number = apart read i b.number (omega (arith, lt, small)) (omega (arith, small)) e in
      omega (arith, lt, same)

  stays : AllByRecursion (λ x. (c : Option (List ℕ)) → now (record_name x.number) c → IsRecordFile x c) t.records
  stays = each_both (λ x. x.number < b.number) (λ x. (c : Option (List ℕ)) → has (record_name x.number) c → IsRecordFile x c) (λ x. (c : Option (List ℕ)) → now (record_name x.number) c → IsRecordFile x c) (λ x lt p c m. p c (elsewhere (record_name x.number) c (less_apart x.number lt) m)) t.records above h.counted

  named : (n : List ℕ) → kind_of n ≡ Refused → (c : Option (List ℕ)) → now n c → c ≡ None
  named n refused c m = h.named n refused c (elsewhere n c (λ e. let z : Refused ≡ RecordFile b.number = sym refused ∙ (ap kind_of e ∙ record_kind read b.number small) in absurd (cc z)) m)

  none_lost : (n : ℕ) (xs : List Batch) → IsNoNumber n xs → IsNoNumber n (xs ++ lost_of t.lost)
  none_lost n xs none = subst (λ l. IsNoNumber n (xs ++ lost_of l)) (sym certain) (subst (IsNoNumber n) (sym (append-nil xs)) none)

  abbrev IsSmall : Batch → Type 0
  IsSmall x = x.number < 2 ^ 63

  all_small : AllByRecursion IsSmall (t.records ++ b ∷ [])
  all_small = each_append IsSmall t.records (b ∷ []) (each_left IsSmall t.records (lost_of t.lost) h.small) (small, tt)

  lost_none : (n : ℕ) (xs : List Batch) → IsNoNumber n (xs ++ lost_of t.lost) → IsNoNumber n xs
  lost_none n xs none = each_left (λ x. x.number ≢ n) xs (lost_of t.lost) none

  absent : (n : ℕ) → n < 2 ^ 63 → t.log_from ≤ n → IsNoNumber n (t.records ++ b ∷ []) → (c : Option (List ℕ)) → now (record_name n) c → c ≡ None
  absent n low le none c m =
      let other : b.number ≢ n = (each_right (λ x. x.number ≢ n) t.records (b ∷ []) none).0 in
      h.absent n low le (none_lost n t.records (each_left (λ x. x.number ≢ n) t.records (b ∷ []) none)) c
      (elsewhere (record_name n) c (λ e. other (sym (apart read n b.number (omega (arith, low)) (omega (arith, small)) e))) m)

  -- the record is there, and counts
  pub with_record : (tree : Saved) (reached : ℕ) → ((c : Option (List ℕ)) → now (record_name b.number) c → IsRecordFile b c) → HasLog (record t { tree = tree; records = t.records ++ b ∷ []; reached = reached }) now
  with_record tree reached here = record {
    counted = each_append (λ x. (c : Option (List ℕ)) → now (record_name x.number) c → IsRecordFile x c) t.records (b ∷ []) stays (here, tt);
    doubted = subst (λ l. AllByRecursion (λ x. (c : Option (List ℕ)) → now (record_name x.number) c → (c ≡ None) ⊎ IsRecordFile x c) (lost_of l)) (sym certain) tt;
    absent = λ n low le none c m. absent n low le (lost_none n (t.records ++ b ∷ []) none) c m;
    named = named;
    small = each_append IsSmall (t.records ++ b ∷ []) (lost_of t.lost) all_small (each_right IsSmall t.records (lost_of t.lost) h.small);
  }

  -- the record may be there
  pub with_doubt : (place : ℕ) → ((c : Option (List ℕ)) → now (record_name b.number) c → (c ≡ None) ⊎ IsRecordFile b c) → HasLog (record t { lost = Some (record { batch = b; place = place }) }) now
  with_doubt place here = record { counted = stays; doubted = (here, tt); absent = absent; named = named; small = all_small }

  -- nothing is under its name before
  pub was_absent : t.log_from ≤ b.number → (c : Option (List ℕ)) → has (record_name b.number) c → c ≡ None
  was_absent le c m = h.absent b.number small le (none_lost b.number t.records (others t.records above)) c m
    where
      others : (xs : List Batch) → AllByRecursion (λ x. x.number < b.number) xs → IsNoNumber b.number xs
      others [] a = tt
      others (x ∷ xs) a = ((λ e. let lt : x.number < b.number = a.0 in let same : x.number ≡ b.number = e in omega (arith, lt, same)), others xs a.1)
