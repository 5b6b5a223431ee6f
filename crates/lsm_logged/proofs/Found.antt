-- The records that a log has in an image are those that reading it finds.
use Rattle.std.proofs.Common.{◌≡◌, ◌≢◌, ◌⊎◌, ⊎_elim, inl, inr, ℕ, ◌<◌, ◌≤◌, ◌^◌, true, false, List, [], ◌∷◌, ◌++◌, map, Contains, Option, Some, None, IsSome, refl, sym, ap, ◌∙◌, subst, arith, eqb, eqb-true, nat_le}
use Rattle.std.specs.List.{AllByRecursion}
use Rattle.std.specs.List.Sorted.{IsStrictlyIncreasing}
use Rattle.std.proofs.lemmas.Bool.{eqb-false, le-leb}
use Rattle.std.proofs.lemmas.List.Elements.{All-contains, All-from_recursion, Contains-append_right}
use Rattle.lsm_below.specs.Each.{each_weaker, each_left}
use Rattle.lsm_below.specs.Members.{IsIn, each_in, in_filter, filter_in}
use Rattle.lsm_store.specs.World.{Image}
use Rattle.lsm_model.specs.Views.{Placed}
use Rattle.lsm_log.specs.declared.record.Record.{Record}
use Rattle.lsm_log.specs.LogNames.{record_name}
use Rattle.lsm_log.specs.Logs.{IsRecordAt}
use Rattle.lsm_log.specs.Records.{Ops, IsRecordOf}
use Rattle.lsm_log.proofs.Loaded.{rise_drop}
use Rattle.lsm_log_model.specs.Joins.{RecordsAreFound}
use Rattle.lsm_log_model.specs.Logs.{Logged as Log, lost_of, LogIsSound, HasRecords}
use Rattle.lsm_log_model.specs.Records.{Batch, IsRising, LogImage, counted}
use Rattle.lsm_log_model.proofs.Batches.{since_rising}
use Rattle.lsm_log_model.proofs.Growth.{in_append}
use Rattle.lsm_logged.specs.Keeping.{IsRecordFile, IsNoNumber, IsLogIn}
use Rattle.lsm_logged.specs.Meanwhile.{AreReadFrom}
use Rattle.lsm_logged.specs.Opening.{batch_read}
use Rattle.lsm_logged.specs.Writing.{batch_of}

-- no record begins another one
abbrev pub RecordsAreFirst : Type 0
RecordsAreFirst = (m n : ℕ) (ops others : Ops) (a b x y : List ℕ) → IsRecordOf m ops a → IsRecordOf n others b → a ++ x ≡ b ++ y → (m ≡ n) × (ops ≡ others) × (x ≡ y)

one_batch : RecordsAreFirst → (b c : Batch) (bytes more : List ℕ) → IsRecordOf b.number b.ops bytes → IsRecordOf c.number c.ops more → bytes ≡ more → b ≡ c
one_batch first b c bytes more x y e =
    let same = first b.number c.number b.ops c.ops bytes more [] [] x y (ap (λ (l : List ℕ). l ++ []) e) in
    ap (λ n. batch_of n b.ops) same.0 ∙ ap (batch_of c.number) same.1

-- ---- lists

from_map : {A B : Type 0} (f : A → B) (xs : List A) (y : B) → IsIn y (map f xs) → (x : A) × IsIn x xs × (f x ≡ y)
from_map f [] y i = absurd i
from_map f (x ∷ xs) y i = ⊎_elim (λ (e : f x ≡ y). (x, inl refl, e)) (λ (j : IsIn y (map f xs)). let r = from_map f xs y j in (r.0, inr r.1, r.2)) i

pub in_map : {A B : Type 0} (f : A → B) (xs : List A) (x : A) → IsIn x xs → IsIn (f x) (map f xs)
in_map f [] x i = absurd i
in_map f (y ∷ xs) x i = ⊎_elim (λ (e : y ≡ x). inl (ap f e)) (λ (j : IsIn x xs). inr (in_map f xs x j)) i

abbrev pub numbers_of : List Record → List ℕ
numbers_of rs = map (λ r. r.number) rs

there : (rs : List Record) (r : Record) → IsIn r rs → Contains (numbers_of rs) r.number
there [] r i = absurd i
there (x ∷ rs) r i = ⊎_elim (λ (e : x ≡ r). (0, omega arith, ap (λ (y : Record). y.number) e)) (λ (j : IsIn r rs). Contains-append_right (x.number ∷ []) (numbers_of rs) r.number (there rs r j)) i

-- is there one of this number?
search : (n : ℕ) (rs : List Record) → ((r : Record) × IsIn r rs × (r.number ≡ n)) ⊎ AllByRecursion (λ k. k ≢ n) (numbers_of rs)
search n [] = inr tt
search n (x ∷ rs) =
    elim (eqb x.number n) as (λ q. eqb x.number n ≡ q → ((r : Record) × IsIn r (x ∷ rs) × (r.number ≡ n)) ⊎ AllByRecursion (λ k. k ≢ n) (numbers_of (x ∷ rs))) [
      | true ↦ λ h. inl (x, inl refl, eqb-true x.number n h)
      | false ↦ λ h. ⊎_elim
          (λ (z : (r : Record) × IsIn r rs × (r.number ≡ n)). inl (z.0, inr z.1, z.2))
          (λ (z : AllByRecursion (λ k. k ≢ n) (numbers_of rs)). inr (eqb-false x.number n h, z))
          (search n rs)
    ] refl

found_in : (rs : List Record) (n : ℕ) → Contains (numbers_of rs) n → (r : Record) × IsIn r rs × (r.number ≡ n)
found_in rs n has = ⊎_elim (λ z. z) (λ none. absurd (All-contains (λ k. k ≢ n) (numbers_of rs) n (All-from_recursion (λ k. k ≢ n) (numbers_of rs) none) has refl)) (search n rs)

-- is there a batch of this number?
pub number_of : (n : ℕ) (bs : List Batch) → ((b : Batch) × IsIn b bs × (b.number ≡ n)) ⊎ IsNoNumber n bs
number_of n [] = inr tt
number_of n (c ∷ bs) =
    elim (eqb c.number n) as (λ q. eqb c.number n ≡ q → ((b : Batch) × IsIn b (c ∷ bs) × (b.number ≡ n)) ⊎ IsNoNumber n (c ∷ bs)) [
      | true ↦ λ h. inl (c, inl refl, eqb-true c.number n h)
      | false ↦ λ h. ⊎_elim
          (λ (z : (b : Batch) × IsIn b bs × (b.number ≡ n)). inl (z.0, inr z.1, z.2))
          (λ (z : IsNoNumber n bs). inr (eqb-false c.number n h, z))
          (number_of n bs)
    ] refl

above_first : (n : ℕ) (rs : List Record) → IsStrictlyIncreasing (n ∷ numbers_of rs) → AllByRecursion (λ b. n < b.number) (map batch_read rs)
above_first n [] h = tt
above_first n (r ∷ rs) h =
    let a : n < r.number = h 0 (omega arith) in
    (a, each_weaker (λ (b : Batch). r.number < b.number) (λ b. n < b.number) (λ b lt. omega (arith, a, lt)) (map batch_read rs) (above_first r.number rs (rise_drop 1 (n ∷ numbers_of (r ∷ rs)) h)))

rising : (rs : List Record) → IsStrictlyIncreasing (numbers_of rs) → IsRising (map batch_read rs)
rising [] h = tt
rising (r ∷ rs) h = (above_first r.number rs h, rising rs (rise_drop 1 (numbers_of (r ∷ rs)) h))

-- ---- what reading finds

module _ (first : RecordsAreFirst) (image : Image) (tables : List Placed) (from : ℕ) (records : List Record) (log : AreReadFrom image from records) (t : Log) (is : IsLogIn t image) where
  abbrev pub left : LogImage
  left = record { tables = tables; log_from = from; records = map batch_read records }

  abbrev all_batches : List Batch
  all_batches = t.records ++ lost_of t.lost

  same_as : (r : Record) (b : Batch) → IsRecordAt image r.number r → b.number ≡ r.number → IsRecordFile b (image (record_name b.number)) → b ≡ batch_read r
  same_as r b at e file =
      let files : Some file.0 ≡ Some at.bytes = sym file.1 ∙ ap (λ n. image (record_name n)) e ∙ at.file in
      let bytes : file.0 ≡ at.bytes = cc files in
      one_batch first b (batch_read r) file.0 at.bytes file.2 at.reads bytes

  file_in : (b : Batch) → IsIn b t.records → IsRecordFile b (image (record_name b.number))
  file_in b i = each_in (λ b. (c : Option (List ℕ)) → c ≡ image (record_name b.number) → IsRecordFile b c) t.records b is.counted i (image (record_name b.number)) refl

  -- a record that is read is one that may be there
  one : t.log_from ≤ from → (r : Record) → IsRecordAt image r.number r → r.number < 2 ^ 63 → from ≤ r.number → IsIn (batch_read r) all_batches
  one low r at fits le = ⊎_elim numbered none (number_of r.number all_batches)
    where
      there_is : image (record_name r.number) ≡ None → ⊥
      there_is e = let z : None ≡ Some at.bytes = sym e ∙ at.file in absurd (cc z)

      none : IsNoNumber r.number all_batches → IsIn (batch_read r) all_batches
      none missing = absurd (there_is (is.absent r.number fits (omega (arith, low, le)) missing (image (record_name r.number)) refl))

      file_of : (b : Batch) → IsIn b all_batches → b.number ≡ r.number → IsRecordFile b (image (record_name b.number))
      file_of b i e = ⊎_elim (file_in b)
          (λ (j : IsIn b (lost_of t.lost)). ⊎_elim (λ gone. absurd (there_is (ap (λ n. image (record_name n)) (sym e) ∙ gone))) (λ file. file)
          (each_in (λ b. (c : Option (List ℕ)) → c ≡ image (record_name b.number) → (c ≡ None) ⊎ IsRecordFile b c) (lost_of t.lost) b is.doubted j (image (record_name b.number)) refl))
          (in_append b t.records (lost_of t.lost) i)

      numbered : (b : Batch) × IsIn b all_batches × (b.number ≡ r.number) → IsIn (batch_read r) all_batches
      numbered z = subst (λ c. IsIn c all_batches) (same_as r z.0 at z.2 (file_of z.0 z.1 z.2)) z.1

  only : t.log_from ≤ from → (b : Batch) → IsIn b (counted left) → IsIn b all_batches
  only low b i =
      let z = in_filter (λ (c : Batch). nat_le from c.number) (map batch_read records) b i in
      let r = from_map batch_read records b z.0 in
      let at = each_in (λ r. IsRecordAt image r.number r) records r.0 log.records_are r.1 in
      let where_is = (log.are r.0.number).0 (there records r.0 r.1) in
      subst (λ c. IsIn c all_batches) r.2 (one low r.0 at where_is.0.small where_is.1)

  -- the number of a record that counts is read
  pub is_read : (b : Batch) → IsIn b t.records → from ≤ b.number → Contains (numbers_of records) b.number
  is_read b i le =
      let file = file_in b i in
      (log.are b.number).1 (record { small = each_in (λ b. b.number < 2 ^ 63) t.records b (each_left (λ b. b.number < 2 ^ 63) t.records (lost_of t.lost) is.small) i; file = subst (λ (c : Option (List ℕ)). IsSome c) (sym file.1) refl }, le)

  all : (b : Batch) → IsIn b t.records → from ≤ b.number → IsIn b (counted left)
  all b i le =
      let r = found_in records b.number (is_read b i le) in
      let same = same_as r.0 b (each_in (λ r. IsRecordAt image r.number r) records r.0 log.records_are r.1) (sym r.2) (file_in b i) in
      filter_in (λ (c : Batch). nat_le from c.number) (map batch_read records) b (subst (λ c. IsIn c (map batch_read records)) (sym same) (in_map batch_read records r.0 r.1)) (le-leb from b.number le)

  pub has_records : RecordsAreFound → t.log_from ≤ from → LogIsSound t → HasRecords left t
  has_records found low sound = found t left sound (since_rising from (map batch_read records) (rising records log.rise)) (only low) all
