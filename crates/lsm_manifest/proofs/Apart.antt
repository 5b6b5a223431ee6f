-- Names of files are apart.
use Rattle.std.proofs.Common.{◌≡◌, ◌≢◌, ℕ, ◌<◌, ◌^◌, Bool, true, false, not, ◌||◌, cond, eqb, List, [], ◌∷◌, take, drop, get_or, refl, ap, sym, subst, ◌∙◌, codes, decimal, arith}
use Rattle.std.specs.Prelude.{bytes_eq, nat_eq}
use Rattle.std.specs.List.{list_any, starts_with}
use Rattle.std.specs.Str.Parse.{AllDigits}
use Rattle.std.proofs.lemmas.Bool.{ne_eqb}
use Rattle.std.proofs.lemmas.Str.Parse.{digit_from_value}
use Rattle.std.proofs.lemmas.Slice.Eq.{bytes_eq-Decides}
use Rattle.std.proofs.lemmas.Fmt.{decimal_is_IsNumeral, decimal_injective}
use Rattle.lsm_below.specs.Numbers.{PlainNumbersAreRead, plain_number}
use Rattle.lsm_manifest.specs.declared.kinds.NameKind.{NameKind}
use Rattle.lsm_manifest.specs.declared.kinds.NameKind.TheVariants.{VersionFile, TableFile, Skipped, Other}
use Rattle.lsm_manifest.specs.Names.{current_name, version_name, table_name}
use Rattle.lsm_manifest.specs.Kinds.{kind_in_tables, kind_of, numbered}

-- the digits of a number
pub digits : (n : ℕ) → n < 2 ^ 64 → AllDigits 10 (decimal n)
digits n small = (decimal_is_IsNumeral n small).0.1

pub versions_apart : (i j : ℕ) → i < 2 ^ 64 → j < 2 ^ 64 → version_name i ≡ version_name j → i ≡ j
versions_apart i j a b e = decimal_injective i j a b (ap (drop 1) e)

pub tables_apart : (i j : ℕ) → i < 2 ^ 64 → j < 2 ^ 64 → table_name i ≡ table_name j → i ≡ j
tables_apart i j a b e = decimal_injective i j a b (ap (drop 7) e)

-- names that begin with other letters are others
pub begins_other : (m n : List ℕ) → get_or m 0 0 ≢ get_or n 0 0 → m ≢ n
begins_other m n other e = other (ap (λ (l : List ℕ). get_or l 0 0) e)

pub table_no_version : (i j : ℕ) → table_name i ≢ version_name j
table_no_version i j = begins_other (table_name i) (version_name j) (λ e. omega arith)

pub version_not_current : (i : ℕ) → version_name i ≢ current_name
version_not_current i = begins_other (version_name i) current_name (λ e. omega arith)

pub table_not_current : (i : ℕ) → table_name i ≢ current_name
table_not_current i = begins_other (table_name i) current_name (λ e. omega arith)

pub no_older : (i : ℕ) → i < 2 ^ 64 → version_name i ≢ codes "version"
no_older i small e =
    let rest : decimal i ≡ codes "ersion" = ap (drop 1) e in
    omega (arith, digit_from_value 101 (subst (AllDigits 10) rest (digits i small)).0)

-- ---- kinds

pub current_kind : kind_of current_name ≡ Other
unfolding kind_of
current_kind = refl

-- digits have no slash
no_slash : (ds : List ℕ) → AllDigits 10 ds → list_any (λ b. eqb b 47) ds ≡ false
no_slash [] h = refl
no_slash (d ∷ ds) h = rw (ne_eqb d 47 (λ e. omega (arith, digit_from_value d h.0))) (no_slash ds h.1)

version_by : (b : Bool) → b ≡ false → cond (not b) VersionFile Other ≡ VersionFile
version_by true h = absurd (cc h)
version_by false h = refl

pub version_kind : (i : ℕ) → i < 2 ^ 64 → kind_of (version_name i) ≡ VersionFile
unfolding kind_of
version_kind i small = version_by (list_any (λ b. eqb b 47) (version_name i)) (no_slash (decimal i) (digits i small))

-- what begins with a digit isn't skipped
pub not_skipped : (ds : List ℕ) → AllDigits 10 ds → bytes_eq ds (codes ".DS_Store") ≡ true → ⊥
not_skipped ds h e = omega (arith, digit_from_value 46 (subst (AllDigits 10) ((bytes_eq-Decides ds (codes ".DS_Store")).0 e) h).0)

digits_front : (ds : List ℕ) → AllDigits 10 ds → AllDigits 10 (take 2 ds)
digits_front [] h = tt
digits_front (d ∷ []) h = (h.0, tt)
digits_front (d ∷ (e ∷ ds)) h = (h.0, (h.1.0, tt))

pub not_dotted : (ds : List ℕ) → AllDigits 10 ds → starts_with nat_eq ds (codes "._") ≡ true → ⊥
not_dotted ds h e = omega (arith, digit_from_value 46 (subst (AllDigits 10) (sym ((bytes_eq-Decides (codes "._") (take 2 ds)).0 e)) (digits_front ds h)).0)

pub never : (b : Bool) → (b ≡ true → ⊥) → b ≡ false
never true h = absurd (h refl)
never false h = refl

table_by : (a b : Bool) (k : NameKind) → a ≡ false → b ≡ false → cond (a || b) Skipped k ≡ k
table_by a b k first second = rw (first, second) refl

pub table_kind : PlainNumbersAreRead → (i : ℕ) → i < 2 ^ 64 → kind_of (table_name i) ≡ TableFile i
unfolding kind_of kind_in_tables
table_kind read i small =
    table_by (bytes_eq (decimal i) (codes ".DS_Store")) (starts_with nat_eq (decimal i) (codes "._")) (numbered (plain_number (decimal i))) (never _ (not_skipped (decimal i) (digits i small))) (never _ (not_dotted (decimal i) (digits i small)))
    ∙ ap numbered (read i small)
