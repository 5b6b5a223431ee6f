-- Names of a log are none of a tree's.
use Rattle.std.proofs.Common.{◌≡◌, ◌≢◌, ℕ, ◌<◌, ◌≤◌, ◌^◌, Bool, true, false, cond, List, ◌++◌, take, drop, get_or, Some, codes, refl, sym, ap, ◌∙◌, subst, arith}
use Rattle.std.specs.Prelude.{nat_eq}
use Rattle.std.specs.List.{starts_with}
use Rattle.std.proofs.lemmas.List.{take-append-drop}
use Rattle.std.proofs.lemmas.Slice.Eq.{bytes_eq-Decides}
use Rattle.lsm_below.specs.Numbers.{plain_number, PlainNumbersAreRead}
use Rattle.lsm_manifest.specs.declared.kinds.NameKind.TheVariants as tree
use Rattle.lsm_manifest.specs.Kinds.{kind_of as kind_in_tree}
use Rattle.lsm_commit.specs.Foreign.{IsForeign}
use Rattle.lsm_log.specs.declared.kinds.LogName.{LogName}
use Rattle.lsm_log.specs.declared.kinds.LogName.TheVariants.{RecordFile, Refused, Other}
use Rattle.lsm_log.specs.LogNames.{record_name, kind_in_log, kind_of}
use Rattle.lsm_log.proofs.NameLemmas.{record_kind}

-- records of two numbers have two names
pub apart : PlainNumbersAreRead → (i j : ℕ) → i < 2 ^ 63 → j < 2 ^ 63 → record_name i ≡ record_name j → i ≡ j
apart read i j low small e = let z : RecordFile i ≡ RecordFile j = sym (record_kind read i low) ∙ (ap kind_of e ∙ record_kind read j small) in cc z

-- also where they aren't below 2^63
pub names_apart : PlainNumbersAreRead → (i j : ℕ) → i < 2 ^ 64 → j < 2 ^ 64 → record_name i ≡ record_name j → i ≡ j
names_apart read i j low small e = let z : Some i ≡ Some j = sym (read i low) ∙ (ap (λ (l : List ℕ). plain_number (drop 4 l)) e ∙ read j small) in cc z

-- a record that isn't below a number has the name of none that is
pub none_below : PlainNumbersAreRead → (from k : ℕ) → from ≤ k → k < 2 ^ 63 → (j : ℕ) → j < from → record_name k ≢ record_name j
none_below read from k le small j lt e = let same : k ≡ j = apart read k j small (omega (arith, lt, le, small)) e in omega (arith, same, lt, le)

-- ---- names in the folder of the log

in_folder_other : (rest : List ℕ) → kind_in_tree (codes "log/" ++ rest) ≡ tree.Other
unfolding kind_in_tree
in_folder_other rest = refl

in_folder_foreign : (rest : List ℕ) → IsForeign (codes "log/" ++ rest)
in_folder_foreign rest = record { other = in_folder_other rest; not_current = λ e. let first = ap (λ (l : List ℕ). get_or l 0 0) e in omega (arith, first) }

pub record_is_foreign : (k : ℕ) → IsForeign (record_name k)
record_is_foreign k = in_folder_foreign _

is_in : (b : Bool) (inside : LogName) → cond b inside Other ≡ Refused → b ≡ true
is_in true inside e = refl
is_in false inside e = absurd (cc e)

pub refused_begins : (n : List ℕ) → kind_of n ≡ Refused → starts_with nat_eq n (codes "log/") ≡ true
unfolding kind_of
refused_begins n e = is_in (starts_with nat_eq n (codes "log/")) (kind_in_log (drop 4 n)) e

-- a name in the folder of the log is none of a tree's
pub folder_foreign : (n : List ℕ) → starts_with nat_eq n (codes "log/") ≡ true → IsForeign n
folder_foreign n e =
    let front : codes "log/" ≡ take 4 n = (bytes_eq-Decides (codes "log/") (take 4 n)).0 e in
    subst IsForeign (ap (λ a. a ++ drop 4 n) front ∙ take-append-drop 4 n) (in_folder_foreign (drop 4 n))

-- so is one that a log refuses
pub refused_is_foreign : (n : List ℕ) → kind_of n ≡ Refused → IsForeign n
refused_is_foreign n e = folder_foreign n (refused_begins n e)

-- and one that a tree refuses isn't there
pub not_in_log : (n : List ℕ) → kind_in_tree n ≡ tree.Refused → starts_with nat_eq n (codes "log/") ≡ false
not_in_log n bad = by_place (starts_with nat_eq n (codes "log/")) refl
  where
    by_place : (b : Bool) → starts_with nat_eq n (codes "log/") ≡ b → b ≡ false
    by_place true e = let f = folder_foreign n e in let z : tree.Other ≡ tree.Refused = sym f.other ∙ bad in absurd (cc z)
    by_place false e = refl
