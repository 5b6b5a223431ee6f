-- An opening reads one version in an image, and beside it one list of records.
use Rattle.std.proofs.Common.{◌≡◌, ◌⊎◌, ⊎_elim, inl, inr, ℕ, zero, suc, ◌<◌, ◌≤◌, List, [], ◌∷◌, ◌++◌, length, get_or, Contains, Some, refl, sym, ap, ◌∙◌, subst, arith}
use Rattle.std.specs.List.{AllByRecursion}
use Rattle.std.specs.List.Sorted.{IsStrictlyIncreasing}
use Rattle.std.proofs.lemmas.List.Elements.{Contains-append_right}
use Rattle.std.proofs.lemmas.List.Kept.{AllPairs-from_increasing}
use Rattle.lsm_store.specs.World.{Image}
use Rattle.lsm_manifest.specs.Finding.{FoundOnce}
use Rattle.lsm_log.specs.declared.record.Record.{Record}
use Rattle.lsm_log.specs.LogNames.{record_name}
use Rattle.lsm_log.specs.Logs.{IsRecordAt}
use Rattle.lsm_log.specs.Records.{Ops}
use Rattle.lsm_log.proofs.Loaded.{rise_drop}
use Rattle.lsm_logged.specs.Levels.{SeenVersion}
use Rattle.lsm_logged.specs.Meanwhile.{AreReadFrom}
use Rattle.lsm_logged.proofs.Found.{RecordsAreFirst, numbers_of}
use Rattle.lsm_logged.proofs.Versions.{version_is_one}
use Rattle.lsm_log_runs.specs.Images.{LogsOpenOnce}

-- ---- numbers that rise

-- what stands in a list is its first, or behind it
at_place : (m : ℕ) (ms : List ℕ) (k i : ℕ) → i < length (m ∷ ms) → get_or (m ∷ ms) i k ≡ k → (m ≡ k) ⊎ Contains ms k
at_place m ms k zero lt is = inl is
at_place m ms k (suc i) lt is = inr (i, omega (arith, lt), is)

above_first : (m : ℕ) (ms : List ℕ) (k : ℕ) → IsStrictlyIncreasing (m ∷ ms) → Contains ms k → m < k
above_first m ms k rise has = let lt = has.1 in subst (λ x. m < x) has.2 (AllPairs-from_increasing (m ∷ ms) rise 0 (suc has.0) k (omega arith) (omega (arith, lt)))

first_least : (m : ℕ) (ms : List ℕ) (k : ℕ) → IsStrictlyIncreasing (m ∷ ms) → Contains (m ∷ ms) k → m ≤ k
first_least m ms k rise has = ⊎_elim (λ (e : m ≡ k). omega (arith, e)) (λ (h : Contains ms k). let lt = above_first m ms k rise h in omega (arith, lt)) (at_place m ms k has.0 has.1 has.2)

-- what stands behind the one first number stands behind the other, the same
within_rest : (m n : ℕ) (ms ns : List ℕ) → m ≡ n → IsStrictlyIncreasing (m ∷ ms) → ((k : ℕ) → Contains (m ∷ ms) k → Contains (n ∷ ns) k) → (k : ℕ) → Contains ms k → Contains ns k
within_rest m n ms ns e rise within k has =
    let there = within k (Contains-append_right (m ∷ []) ms k has) in
    let lt = above_first m ms k rise has in
    ⊎_elim (λ (same : n ≡ k). absurd (omega (arith, e, same, lt))) (λ (h : Contains ns k). h) (at_place n ns k there.0 there.1 there.2)

-- rising numbers are told by which they are
same_numbers : (ms ns : List ℕ) → IsStrictlyIncreasing ms → IsStrictlyIncreasing ns → ((k : ℕ) → Contains ms k → Contains ns k) → ((k : ℕ) → Contains ns k → Contains ms k) → ms ≡ ns
same_numbers [] [] rise other within back = refl
same_numbers [] (n ∷ ns) rise other within back = let lt = (back n (0, omega arith, refl)).1 in absurd (omega (arith, lt))
same_numbers (m ∷ ms) [] rise other within back = let lt = (within m (0, omega arith, refl)).1 in absurd (omega (arith, lt))
same_numbers (m ∷ ms) (n ∷ ns) rise other within back =
    let low = first_least m ms n rise (back n (0, omega arith, refl)) in
    let high = first_least n ns m other (within m (0, omega arith, refl)) in
    let e : m ≡ n = omega (arith, low, high) in
    let rest = same_numbers ms ns (rise_drop 1 (m ∷ ms) rise) (rise_drop 1 (n ∷ ns) other) (within_rest m n ms ns e rise within) (within_rest n m ns ms (sym e) other back) in
    ap (λ k. k ∷ ms) e ∙ ap (λ (l : List ℕ). n ∷ l) rest

-- ---- records

abbrev made : ℕ → Ops → Record
made number ops = record { number = number; ops = ops }

module _ (first : RecordsAreFirst) (image : Image) where
  -- the file of a number is the record of one batch
  same_record : (r s : Record) → IsRecordAt image r.number r → IsRecordAt image s.number s → r.number ≡ s.number → r ≡ s
  same_record r s at other e =
      let files : Some at.bytes ≡ Some other.bytes = sym at.file ∙ ap (λ n. image (record_name n)) e ∙ other.file in
      let bytes : at.bytes ≡ other.bytes = cc files in
      let same = first r.number s.number r.ops s.ops at.bytes other.bytes [] [] at.reads other.reads (ap (λ (l : List ℕ). l ++ []) bytes) in
      ap (λ n. made n r.ops) same.0 ∙ ap (made s.number) same.1

  same_records : (rs ss : List Record) → numbers_of rs ≡ numbers_of ss → AllByRecursion (λ r. IsRecordAt image r.number r) rs → AllByRecursion (λ r. IsRecordAt image r.number r) ss → rs ≡ ss
  same_records [] [] e at others = refl
  same_records [] (s ∷ ss) e at others = absurd (cc e)
  same_records (r ∷ rs) [] e at others = absurd (cc e)
  same_records (r ∷ rs) (s ∷ ss) e at others =
      let number : r.number ≡ s.number = cc e in
      let rest : numbers_of rs ≡ numbers_of ss = cc e in
      ap (λ x. x ∷ rs) (same_record r s at.0 others.0 number) ∙ ap (λ (l : List Record). s ∷ l) (same_records rs ss rest at.1 others.1)

  -- from one number on one list of records is read
  one_log : (from : ℕ) (records others : List Record) → AreReadFrom image from records → AreReadFrom image from others → records ≡ others
  one_log from records others a b =
      same_records records others
      (same_numbers (numbers_of records) (numbers_of others) a.rise b.rise (λ k has. (b.are k).1 ((a.are k).0 has)) (λ k has. (a.are k).1 ((b.are k).0 has)))
      a.records_are b.records_are

pub opens_once : FoundOnce → RecordsAreFirst → LogsOpenOnce
opens_once once first image v w records others reads again =
    let same = version_is_one once image v w reads.version again.version in
    (same, one_log first image w.log_from records others (subst (λ (u : SeenVersion). AreReadFrom image u.log_from records) same reads.log) again.log)
