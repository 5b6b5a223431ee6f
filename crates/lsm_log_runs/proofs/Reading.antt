-- An image that has a log has records that an opening reads there.
use Rattle.std.proofs.Common.{◌≡◌, ◌≢◌, ◌⊎◌, ⊎_elim, inl, inr, ℕ, zero, suc, ◌+◌, ◌<◌, ◌≤◌, ◌^◌, Bool, true, false, cond, List, [], ◌∷◌, ◌++◌, filter, map, get_or, Contains, Option, None, IsSome, refl, sym, ap, subst, arith, nat_le}
use Rattle.std.specs.List.{AllByRecursion}
use Rattle.std.specs.List.Sorted.{IsStrictlyIncreasing}
use Rattle.std.specs.Option.{is_some}
use Rattle.std.proofs.lemmas.Bool.{le-leb, leb-true}
use Rattle.std.proofs.lemmas.List.Elements.{All-contains, All-from_recursion, Contains-append_right}
use Rattle.lsm_below.specs.Each.{each_filter}
use Rattle.lsm_below.specs.Members.{IsIn, each_in, in_filter, filter_in}
use Rattle.lsm_store.specs.World.{Image}
use Rattle.lsm_log.specs.declared.record.Record.{Record}
use Rattle.lsm_log.specs.LogNames.{record_name}
use Rattle.lsm_log.specs.Logs.{IsThere, IsRecordAt}
use Rattle.lsm_log_model.specs.Logs.{Logged as Log, lost_of}
use Rattle.lsm_log_model.specs.Records.{Batch, IsRising, since}
use Rattle.lsm_log_model.proofs.Batches.{since_rising}
use Rattle.lsm_log_model.proofs.Growth.{in_append}
use Rattle.lsm_logged.specs.Keeping.{IsLogIn, IsRecordFile, IsNoNumber}
use Rattle.lsm_logged.specs.Meanwhile.{AreReadFrom}
use Rattle.lsm_logged.proofs.Found.{number_of}

-- ---- batches as records

abbrev record_of : Batch → Record
record_of b = record { number = b.number; ops = b.ops }

abbrev numbers_in : List Batch → List ℕ
numbers_in bs = map (λ (r : Record). r.number) (map record_of bs)

rises_behind : (n : ℕ) (ns : List ℕ) → AllByRecursion (λ m. n < m) ns → IsStrictlyIncreasing ns → IsStrictlyIncreasing (n ∷ ns)
rises_behind n [] over rise k lt = absurd (omega (arith, lt))
rises_behind n (m ∷ ns) over rise zero lt = over.0
rises_behind n (m ∷ ns) over rise (suc k) lt =
    let more : suc k + 1 ≡ suc (k + 1) = omega arith in
    subst (λ j. get_or (n ∷ m ∷ ns) (suc k) 0 < get_or (n ∷ m ∷ ns) j 0) (sym more) (rise k (omega (arith, lt)))

each_number : (P : ℕ → Type 0) (bs : List Batch) → AllByRecursion (λ b. P b.number) bs → AllByRecursion P (numbers_in bs)
each_number P [] h = tt
each_number P (b ∷ bs) h = (h.0, each_number P bs h.1)

rises : (bs : List Batch) → IsRising bs → IsStrictlyIncreasing (numbers_in bs)
rises [] h = λ k lt. absurd (omega (arith, lt))
rises (b ∷ bs) h = rises_behind b.number (numbers_in bs) (each_number (λ m. b.number < m) bs h.0) (rises bs h.1)

filter_rising : (p : Batch → Bool) (bs : List Batch) → IsRising bs → IsRising (filter p bs)
filter_rising p [] h = tt
filter_rising p (b ∷ bs) h = elim (p b) as (λ c. IsRising (cond c (b ∷ filter p bs) (filter p bs))) [
  | true ↦ (each_filter (λ (c : Batch). b.number < c.number) p bs h.0, filter_rising p bs h.1)
  | false ↦ filter_rising p bs h.1
]

has_number : (bs : List Batch) (b : Batch) → IsIn b bs → Contains (numbers_in bs) b.number
has_number [] b i = absurd i
has_number (c ∷ bs) b i = ⊎_elim (λ (e : c ≡ b). (0, omega arith, ap (λ (d : Batch). d.number) e)) (λ (j : IsIn b bs). Contains-append_right (c.number ∷ []) (numbers_in bs) b.number (has_number bs b j)) i

numbered : (bs : List Batch) (n : ℕ) → Contains (numbers_in bs) n → (b : Batch) × IsIn b bs × (b.number ≡ n)
numbered bs n has = ⊎_elim (λ z. z) (λ none. absurd (All-contains (λ k. k ≢ n) (numbers_in bs) n (All-from_recursion (λ k. k ≢ n) (numbers_in bs) (each_number (λ k. k ≢ n) bs none)) has refl)) (number_of n bs)

-- ---- those that an opening reads

module _ (image : Image) (t : Log) (is : IsLogIn t image) (from : ℕ) (low : t.log_from ≤ from) (rising : IsRising (t.records ++ lost_of t.lost)) where
  abbrev batches : List Batch
  batches = t.records ++ lost_of t.lost

  abbrev has_file : Batch → Bool
  has_file b = is_some (image (record_name b.number))

  abbrev read : List Batch
  read = since from (filter has_file batches)

  -- each is a batch of the log whose file is there
  of_log : (b : Batch) → IsIn b read → IsIn b batches × (has_file b ≡ true) × (from ≤ b.number)
  of_log b i =
      let outer = in_filter (λ (c : Batch). nat_le from c.number) (filter has_file batches) b i in
      let inner = in_filter has_file batches b outer.0 in
      (inner.0, inner.1, leb-true from b.number outer.1)

  file_of : (b : Batch) → IsIn b batches → IsSome (image (record_name b.number)) → IsRecordFile b (image (record_name b.number))
  file_of b i there = ⊎_elim
      (λ (j : IsIn b t.records). each_in (λ b. (c : Option (List ℕ)) → c ≡ image (record_name b.number) → IsRecordFile b c) t.records b is.counted j (image (record_name b.number)) refl)
      (λ (j : IsIn b (lost_of t.lost)). ⊎_elim
      (λ (gone : image (record_name b.number) ≡ None). absurd (cc (subst (λ (o : Option (List ℕ)). IsSome o) gone there)))
      (λ (file : IsRecordFile b (image (record_name b.number))). file)
      (each_in (λ b. (c : Option (List ℕ)) → c ≡ image (record_name b.number) → (c ≡ None) ⊎ IsRecordFile b c) (lost_of t.lost) b is.doubted j (image (record_name b.number)) refl))
      (in_append b t.records (lost_of t.lost) i)

  at_each : (bs : List Batch) → ((b : Batch) → IsIn b bs → IsIn b read) → AllByRecursion (λ r. IsRecordAt image r.number r) (map record_of bs)
  at_each [] within = tt
  at_each (b ∷ bs) within =
      let is_one = of_log b (within b (inl refl)) in
      let file = file_of b is_one.0 is_one.1 in
      (record { bytes = file.0; file = file.1; reads = file.2; number_is = refl }, at_each bs (λ c i. within c (inr i)))

  is_there : (k : ℕ) → Contains (numbers_in read) k → IsThere image k × (from ≤ k)
  is_there k has =
      let z = numbered read k has in
      let b = of_log z.0 z.1 in
      subst (λ n. IsThere image n × (from ≤ n)) z.2 (record { small = each_in (λ (c : Batch). c.number < 2 ^ 63) batches z.0 is.small b.0; file = b.1 }, b.2)

  is_read : (k : ℕ) → IsThere image k → from ≤ k → Contains (numbers_in read) k
  is_read k there le = ⊎_elim one none (number_of k batches)
    where
      one : (b : Batch) × IsIn b batches × (b.number ≡ k) → Contains (numbers_in read) k
      one z =
          let file : has_file z.0 ≡ true = subst (λ n. IsSome (image (record_name n))) (sym z.2) there.file in
          let high : from ≤ z.0.number = subst (λ n. from ≤ n) (sym z.2) le in
          subst (λ n. Contains (numbers_in read) n) z.2 (has_number read z.0 (filter_in (λ (c : Batch). nat_le from c.number) (filter has_file batches) z.0 (filter_in has_file batches z.0 z.1 file) (le-leb from z.0.number high)))

      none : IsNoNumber k batches → Contains (numbers_in read) k
      none missing =
          let gone : image (record_name k) ≡ None = is.absent k there.small (omega (arith, low, le)) missing (image (record_name k)) refl in
          absurd (cc (subst (λ (o : Option (List ℕ)). IsSome o) gone there.file))

  pub records_read : (records : List Record) × AreReadFrom image from records
  records_read = (
    map record_of read,
    record {
      good = λ n bad. is.named n bad (image n) refl;
      are = λ k. (λ has. is_there k has, λ there. is_read k there.0 there.1);
      rise = rises read (since_rising from (filter has_file batches) (filter_rising has_file batches rising));
      records_are = at_each read (λ b i. i);
    },
  )
