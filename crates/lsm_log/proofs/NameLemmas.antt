-- What names are to a log.
use Rattle.std.proofs.Common.{◌≡◌, ℕ, ◌<◌, ◌^◌, Bool, true, false, ◌||◌, cond, ltb, List, [], ◌++◌, take, drop, Option, Some, None, refl, ap, sym, subst, ◌∙◌, codes, decimal, arith}
use Rattle.std.specs.Prelude.{bytes_eq, nat_eq}
use Rattle.std.specs.List.{starts_with}
use Rattle.std.proofs.lemmas.Bool.{ltb-true, lt-ltb}
use Rattle.std.proofs.lemmas.List.{take-append-drop}
use Rattle.std.proofs.lemmas.Slice.Eq.{bytes_eq-Decides}
use Rattle.lsm_below.specs.Numbers.{PlainNumbersAreRead, plain_number, plain_number-is}
use Rattle.lsm_log.specs.declared.kinds.LogName.{LogName}
use Rattle.lsm_log.specs.declared.kinds.LogName.TheVariants.{RecordFile, Skipped, Refused, Other}
use Rattle.lsm_log.specs.LogNames.{record_name, numbered, kind_in_log, kind_of, kind_is_refused, kind_number}
use Rattle.lsm_manifest.proofs.Apart.{not_dotted, not_skipped, digits, never}

-- ---- the name of a record is that of its file

by_tests : (a b : Bool) (k : LogName) → a ≡ false → b ≡ false → cond (a || b) Skipped k ≡ k
by_tests a b k first second = rw (first, second) refl

pub record_kind : PlainNumbersAreRead → (n : ℕ) → n < 2 ^ 63 → kind_of (record_name n) ≡ RecordFile n
unfolding kind_of kind_in_log
record_kind read n small =
    let fits : n < 2 ^ 64 = omega (arith, small) in
    let in_range : ltb n (2 ^ 63) ≡ true = lt-ltb n (2 ^ 63) small in
    by_tests (bytes_eq (decimal n) (codes ".DS_Store")) (starts_with nat_eq (decimal n) (codes "._")) (numbered (plain_number (decimal n))) (never _ (not_skipped (decimal n) (digits n fits))) (never _ (not_dotted (decimal n) (digits n fits)))
    ∙ ap numbered (read n fits) ∙ ap (λ b. cond b (RecordFile n) Refused) in_range

-- ---- a record's file has the record's name

by_limit : (b : Bool) (n k : ℕ) → cond b (RecordFile n) Refused ≡ RecordFile k → (b ≡ true) × (n ≡ k)
by_limit true n k e = (refl, cc)
by_limit false n k e = absurd cc

numbered_is : (o : Option ℕ) (k : ℕ) → numbered o ≡ RecordFile k → (o ≡ Some k) × (k < 2 ^ 63)
numbered_is None k e = absurd cc
numbered_is (Some n) k e =
    let h = by_limit (ltb n (2 ^ 63)) n k e in
    (ap (λ m. Some m) h.1, subst (λ m. m < 2 ^ 63) h.1 (ltb-true n (2 ^ 63) h.0))

unskipped : (a : Bool) (o : Option ℕ) (k : ℕ) → cond a Skipped (numbered o) ≡ RecordFile k → numbered o ≡ RecordFile k
unskipped true o k e = absurd cc
unskipped false o k e = e

in_folder : (b : Bool) (inside : LogName) (k : ℕ) → cond b inside Other ≡ RecordFile k → (b ≡ true) × (inside ≡ RecordFile k)
in_folder true inside k e = (refl, e)
in_folder false inside k e = absurd cc

text_is : (t : List ℕ) (k : ℕ) → kind_in_log t ≡ RecordFile k → (t ≡ decimal k) × (k < 2 ^ 63)
unfolding kind_in_log
text_is t k e =
    let n = numbered_is (plain_number t) k (unskipped (bytes_eq t (codes ".DS_Store") || starts_with nat_eq t (codes "._")) (plain_number t) k e) in
    ((plain_number-is t k n.0).1, n.1)

pub kind_is : (n : List ℕ) (k : ℕ) → kind_of n ≡ RecordFile k → (n ≡ record_name k) × (k < 2 ^ 63)
unfolding kind_of
kind_is n k e =
    let f = in_folder (starts_with nat_eq n (codes "log/")) (kind_in_log (drop 4 n)) k e in
    let t = text_is (drop 4 n) k f.1 in
    let front : codes "log/" ≡ take 4 n = (bytes_eq-Decides (codes "log/") (take 4 n)).0 f.0 in
    (sym (take-append-drop 4 n) ∙ ap (λ a. a ++ drop 4 n) (sym front) ∙ ap (λ b. codes "log/" ++ b) t.0, t.1)

-- ---- by kind

pub number_kind : (k : LogName) (n : ℕ) → kind_number k ≡ Some n → k ≡ RecordFile n
number_kind (RecordFile m) n e = cc
number_kind Skipped n e = absurd cc
number_kind Refused n e = absurd cc
number_kind Other n e = absurd cc

pub refused_kind : (k : LogName) → kind_is_refused k ≡ true → k ≡ Refused
refused_kind (RecordFile m) e = absurd cc
refused_kind Skipped e = absurd cc
refused_kind Refused e = refl
refused_kind Other e = absurd cc
