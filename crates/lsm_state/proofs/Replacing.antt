-- A version that takes the place of the latest one keeps what a tree keeps, and the files of those that went may go.
use Rattle.std.proofs.Common.{◌≡◌, ℕ, ◌+◌, ◌-◌, ◌<◌, ◌^◌, ◌||◌, Bool, true, false, not, cond, List, [], ◌∷◌, ◌++◌, map, Option, None, option_to_list, Result, Ok, Err, IfErr, inr, refl, sym, ap, ◌∙◌, subst, arith, eqb}
use Rattle.std.specs.List.{AllByRecursion, IsDistinct, list_any}
use Rattle.std.specs.List.Sorted.{IsPermutation}
use Rattle.std.proofs.lemmas.List.Sorted.{IsPermutation-sym}
use Rattle.std.proofs.lemmas.Bool.Decides.{nat_tests}
use Rattle.lsm_below.specs.declared.error.Error.{Error}
use Rattle.lsm_below.specs.declared.error.Error.TheVariants.{AfterCommit}
use Rattle.lsm_below.specs.Each.{each_left, each_right, each_weaker, each_append, each_both, each_filter}
use Rattle.lsm_store.specs.World.{World}
use Rattle.lsm_tables.specs.Tables.{SeenTable}
use Rattle.lsm_model.specs.Steps.{among}
use Rattle.lsm_versions.specs.Levels.{SeenVersion, all_of, HasOwnIds, left_in, chosen_in}
use Rattle.lsm_commit.specs.Commits.{AreOthers, SparesTables}
use Rattle.lsm_commit.specs.Writing.{KeepsStored}
use Rattle.lsm_flush.specs.Jobs.{SeenOpen}
use Rattle.lsm_parts.specs.History.{SeenHistory, versions_of}
use Rattle.lsm_state.specs.Kept.{KeepsTables}
use Rattle.lsm_state.specs.Core.{Core, versions_left, written_by, written_of}
use Rattle.lsm_state.specs.Commits.{UpholdsFiles}
use Rattle.lsm_state.specs.Cleaning.{AreDrawnBelow, IsUnnamed}
use Rattle.lsm_state.specs.Settling.{with_version, IsInstalled, Settles}
use Rattle.lsm_state.proofs.Installing.{each_permuted}
use Rattle.lsm_state.proofs.Upholding.{upheld, among_left}
use Rattle.lsm_state.proofs.Writing.{below_now}

-- ---- ids of tables

-- a table has none of these tables' ids
abbrev pub IsApart : List SeenTable → SeenTable → Type 0
IsApart xs t = AllByRecursion (λ u. eqb u.id t.id ≡ false) xs

no_one : (ys : List SeenTable) → AllByRecursion (IsApart []) ys
no_one [] = tt
no_one (y ∷ ys) = (tt, no_one ys)

of_ids : (i : ℕ) (ys : List SeenTable) → AllByRecursion (λ j. eqb i j ≡ false) (map (λ t. t.id) ys) → AllByRecursion (λ t. eqb i t.id ≡ false) ys
of_ids i [] h = tt
of_ids i (y ∷ ys) h = (h.0, of_ids i ys h.1)

to_ids : (i : ℕ) (ys : List SeenTable) → AllByRecursion (λ t. eqb i t.id ≡ false) ys → AllByRecursion (λ j. eqb i j ≡ false) (map (λ t. t.id) ys)
to_ids i [] h = tt
to_ids i (y ∷ ys) h = (h.0, to_ids i ys h.1)

-- of tables of which no id stands twice, the second part is apart from the first
pub parts_apart : (xs ys : List SeenTable) → HasOwnIds (xs ++ ys) → AllByRecursion (IsApart xs) ys
unfolding IsDistinct
parts_apart [] ys h = no_one ys
parts_apart (x ∷ xs) ys h = each_both (λ t. eqb x.id t.id ≡ false) (IsApart xs) (IsApart (x ∷ xs)) (λ t one more. (one, more)) ys (each_right (λ t. eqb x.id t.id ≡ false) xs ys (of_ids x.id (xs ++ ys) h.0)) (parts_apart xs ys h.1)

pub own_first : (xs ys : List SeenTable) → HasOwnIds (xs ++ ys) → HasOwnIds xs
unfolding IsDistinct
own_first [] ys h = tt
own_first (x ∷ xs) ys h = (to_ids x.id xs (each_left (λ t. eqb x.id t.id ≡ false) xs ys (of_ids x.id (xs ++ ys) h.0)), own_first xs ys h.1)

pub own_apart : (xs ys : List SeenTable) → HasOwnIds xs → HasOwnIds ys → AllByRecursion (IsApart xs) ys → HasOwnIds (xs ++ ys)
unfolding IsDistinct
own_apart [] ys own others apart = others
own_apart (x ∷ xs) ys own others apart = (
  to_ids x.id (xs ++ ys) (each_append (λ t. eqb x.id t.id ≡ false) xs ys (of_ids x.id xs own.0) (each_weaker (IsApart (x ∷ xs)) (λ t. eqb x.id t.id ≡ false) (λ t a. a.0) ys apart)),
  own_apart xs ys own.1 others (each_weaker (IsApart (x ∷ xs)) (IsApart xs) (λ t a. a.1) ys apart),
)

-- a version that has a run, and what is left of the latest one
module _ (flush : Option SeenOpen) (h : SeenHistory) (n : ℕ) (k : KeepsTables flush h n) (ids : List ℕ) (run : List SeenTable) (v : SeenVersion) (same : IsPermutation (run ++ left_in ids (all_of h.latest.version.levels)) (all_of v.levels)) where
  abbrev now : List SeenTable
  now = all_of h.latest.version.levels

  abbrev left : List SeenTable
  left = left_in ids now

  pub each_with : (P : SeenTable → Type 0) → AllByRecursion P run → AllByRecursion P now → AllByRecursion P (all_of v.levels)
  each_with P of_run of_now = each_permuted P (run ++ left) (all_of v.levels) same (each_append P run left of_run (each_filter P (λ t. not (among ids t.id)) now of_now))

  pub tables_with : (seqno : ℕ) → v.id ≡ h.latest.version.id + 1 → HasOwnIds (all_of v.levels) → (n < 2 ^ 64 - 1 → AllByRecursion (λ t. t.id < n) run) → AllByRecursion (IsApart (written_by flush)) run → KeepsTables flush (record { latest = with_version seqno v h.latest; older = versions_of h }) n
  tables_with seqno id own below apart = record {
    own_ids = own_apart (written_by flush) (all_of v.levels) (own_first (written_by flush) now k.own_ids) own (each_with (IsApart (written_by flush)) apart (parts_apart (written_by flush) now k.own_ids));
    below = λ lt. each_append (λ t. t.id < n) (written_by flush) (all_of v.levels) (each_left (λ t. t.id < n) (written_by flush) now (k.below lt)) (each_with (λ t. t.id < n) (below lt) (below_now h flush n k lt));
    aged = (omega (arith, id), each_weaker (λ sv. sv.version.id < h.latest.version.id) (λ sv. sv.version.id < v.id) (λ sv lt. omega (arith, id, lt)) h.older k.aged);
  }

-- ---- tables that go

left_one : (ids : List ℕ) (t : SeenTable) (ts : List SeenTable) (b : Bool) → among ids t.id ≡ b → AreOthers ids ts → AreOthers ids (cond (not b) (t ∷ ts) ts)
left_one ids t ts true e rest = rest
left_one ids t ts false e rest = (e, rest)

left_others : (ids : List ℕ) (ts : List SeenTable) → AreOthers ids (left_in ids ts)
left_others ids [] = tt
left_others ids (t ∷ ts) = left_one ids t (left_in ids ts) (among ids t.id) refl (left_others ids ts)

pub none_of_none : (ts : List SeenTable) → AreOthers [] ts
none_of_none [] = tt
none_of_none (t ∷ ts) = (refl, none_of_none ts)

pub others_left : (ids : List ℕ) (run : List SeenTable) (h : SeenHistory) (v : SeenVersion) → IsPermutation (run ++ left_in ids (all_of h.latest.version.levels)) (all_of v.levels) → AreOthers ids run → AreOthers ids (all_of v.levels)
others_left ids run h v same of_run = each_permuted (λ t. among ids t.id ≡ false) (run ++ left_in ids (all_of h.latest.version.levels)) (all_of v.levels) same (each_append (λ t. among ids t.id ≡ false) run (left_in ids (all_of h.latest.version.levels)) of_run (left_others ids (all_of h.latest.version.levels)))

left_rest : (ids : List ℕ) (t : SeenTable) (ts : List SeenTable) (P : SeenTable → Type 0) (b : Bool) → AllByRecursion P (cond (not b) (t ∷ ts) ts) → AllByRecursion P ts
left_rest ids t ts P true all = all
left_rest ids t ts P false all = all.1

-- what some tables hold those hold that are left of these, so a table that they don't name has one of the ids that went
gone_one : (ids : List ℕ) (t : SeenTable) (ts : List SeenTable) (b : Bool) → among ids t.id ≡ b → AllByRecursion (λ u. u.id ≡ t.id → ⊥) (cond (not b) (t ∷ ts) ts) → among ids t.id ≡ true
gone_one ids t ts true e all = e
gone_one ids t ts false e all = absurd (all.0 refl)

gone_among : (ids : List ℕ) (made ts : List SeenTable) → ((P : SeenTable → Type 0) → AllByRecursion P made → AllByRecursion P (left_in ids ts)) → AllByRecursion (λ t. IsUnnamed made t.id → among ids t.id ≡ true) ts
gone_among ids made [] holds = tt
gone_among ids made (t ∷ ts) holds = (
  λ unnamed. gone_one ids t (left_in ids ts) (among ids t.id) refl (holds (λ u. u.id ≡ t.id → ⊥) unnamed),
  gone_among ids made ts (λ P all. left_rest ids t (left_in ids ts) P (among ids t.id) (holds P all)),
)

pub covered : (ids : List ℕ) (run : List SeenTable) (h : SeenHistory) (v : SeenVersion) → IsPermutation (run ++ left_in ids (all_of h.latest.version.levels)) (all_of v.levels) → AllByRecursion (λ t. IsUnnamed (all_of v.levels) t.id → among ids t.id ≡ true) (all_of h.latest.version.levels)
covered ids run h v same =
    let now = all_of h.latest.version.levels in
    gone_among ids (all_of v.levels) now (λ P all. each_right P run (left_in ids now) (each_permuted P (all_of v.levels) (run ++ left_in ids now) (IsPermutation-sym (run ++ left_in ids now) (all_of v.levels) same) all))

-- where those that went are in the run, none went
still_named : (ids : List ℕ) (made ts : List SeenTable) → ((P : SeenTable → Type 0) → AllByRecursion P made → AllByRecursion P ts) → AllByRecursion (λ t. IsUnnamed made t.id → among ids t.id ≡ true) ts
still_named ids made [] holds = tt
still_named ids made (t ∷ ts) holds = (λ unnamed. absurd ((holds (λ u. u.id ≡ t.id → ⊥) unnamed).0 refl), still_named ids made ts (λ P all. (holds P all).1))

both_parts : (P : SeenTable → Type 0) (t : SeenTable) (chosen rest : List SeenTable) (ts : List SeenTable) (b : Bool) → (AllByRecursion P chosen → AllByRecursion P rest → AllByRecursion P ts) → AllByRecursion P (cond b (t ∷ chosen) chosen) → AllByRecursion P (cond (not b) (t ∷ rest) rest) → AllByRecursion P (t ∷ ts)
both_parts P t chosen rest ts true both some others = (some.0, both some.1 others)
both_parts P t chosen rest ts false both some others = (others.0, both some others.1)

of_parts : (P : SeenTable → Type 0) (ids : List ℕ) (ts : List SeenTable) → AllByRecursion P (chosen_in ids ts) → AllByRecursion P (left_in ids ts) → AllByRecursion P ts
of_parts P ids [] some others = tt
of_parts P ids (t ∷ ts) some others = both_parts P t (chosen_in ids ts) (left_in ids ts) ts (among ids t.id) (of_parts P ids ts) some others

pub covered_by_none : (ids : List ℕ) (run : List SeenTable) (h : SeenHistory) (v : SeenVersion) → IsPermutation (chosen_in ids (all_of h.latest.version.levels)) run → IsPermutation (run ++ left_in ids (all_of h.latest.version.levels)) (all_of v.levels)
    → AllByRecursion (λ t. IsUnnamed (all_of v.levels) t.id → among [] t.id ≡ true) (all_of h.latest.version.levels)
covered_by_none ids run h v moved same =
    let now = all_of h.latest.version.levels in
    let parts = λ (P : SeenTable → Type 0) (all : AllByRecursion P (all_of v.levels)). each_permuted P (all_of v.levels) (run ++ left_in ids now) (IsPermutation-sym (run ++ left_in ids now) (all_of v.levels) same) all in
    still_named [] (all_of v.levels) now (λ P all. of_parts P ids now (each_permuted P run (chosen_in ids now) (IsPermutation-sym (chosen_in ids now) run moved) (each_left P run (left_in ids now) (parts P all))) (each_right P run (left_in ids now) (parts P all)))

-- where each of some ids is that of one of these tables
abbrev has_id : List SeenTable → ℕ → Bool
has_id ts i = list_any (λ t. eqb t.id i) ts

pub apart_none : (xs : List SeenTable) (t : SeenTable) → IsApart xs t → has_id xs t.id ≡ false
apart_none [] t h = refl
apart_none (x ∷ xs) t h = ap (λ b. b || has_id xs t.id) h.0 ∙ apart_none xs t h.1

same_id : (a b : ℕ) → eqb a b ≡ true → a ≡ b
same_id a b e = grind (arith, nat_tests)

other_one : (i j : ℕ) (there : List SeenTable) (more b : Bool) → eqb i j ≡ b → has_id there j ≡ true → has_id there i ≡ false → more ≡ false → (b || more) ≡ false
other_one i j there more true e has none rest = let clash : false ≡ true = sym none ∙ ap (has_id there) (same_id i j e) ∙ has in absurd (cc clash)
other_one i j there more false e has none rest = rest

-- a table apart from them has none of the ids
pub other_than : (ids : List ℕ) (there : List SeenTable) (i : ℕ) → AllByRecursion (λ j. has_id there j ≡ true) ids → has_id there i ≡ false → among ids i ≡ false
other_than [] there i has none = refl
other_than (j ∷ ids) there i has none = other_one i j there (among ids i) (eqb i j) refl has.0 none (other_than ids there i has.1 none)

flip : (a b : ℕ) → eqb a b ≡ false → eqb b a ≡ false
flip a b e = grind (arith, nat_tests)

-- nor has it one of theirs
pub apart_ids : (xs : List SeenTable) (t : SeenTable) → IsApart xs t → among (map (λ u. u.id) xs) t.id ≡ false
apart_ids [] t h = refl
apart_ids (x ∷ xs) t h = ap (λ b. b || among (map (λ u. u.id) xs) t.id) (flip x.id t.id h.0) ∙ apart_ids xs t h.1

pub swapped : (xs ys : List SeenTable) → AllByRecursion (IsApart xs) ys → AllByRecursion (IsApart ys) xs
swapped [] ys h = tt
swapped (x ∷ xs) ys h = (each_weaker (IsApart (x ∷ xs)) (λ u. eqb u.id x.id ≡ false) (λ u a. flip x.id u.id a.0) ys h, swapped xs ys (each_weaker (IsApart (x ∷ xs)) (IsApart xs) (λ t a. a.1) ys h))

pub spared : (ids : List ℕ) (flush : Option SeenOpen) (h : SeenHistory) (n : ℕ) → KeepsTables flush h n → AllByRecursion (λ j. has_id (all_of h.latest.version.levels) j ≡ true) ids → AreOthers ids (written_by flush)
spared ids flush h n k there = each_weaker (IsApart (all_of h.latest.version.levels)) (λ t. among ids t.id ≡ false) (λ t a. other_than ids (all_of h.latest.version.levels) t.id there (apart_none (all_of h.latest.version.levels) t a)) (written_by flush) (swapped (written_by flush) (all_of h.latest.version.levels) (parts_apart (written_by flush) (all_of h.latest.version.levels) k.own_ids))

-- ---- files

-- files of tables went that none of a tree's tables has
pub removed_upholds : (w w' : World) (c : Core) (gone : List ℕ) → SparesTables gone w w' → c.lost ≡ None → AreOthers gone (all_of c.history.latest.version.levels) → AreOthers gone (written_of c) → UpholdsFiles w w' c c
removed_upholds w w' c gone spares certain of_version of_flush stored =
    let one : versions_left c ≡ c.history.latest.version ∷ [] = ap (λ o. c.history.latest.version ∷ option_to_list o) certain in
    let kept = spares (versions_left c) (written_of c) stored (subst (AllByRecursion (λ v. AreOthers gone (all_of v.levels))) (sym one) (of_version, tt)) of_flush in
    upheld w w' c c (versions_left c) (written_of c) (versions_left c) refl refl kept.0 kept.1 (among_left (versions_left c) (versions_left c))

-- ---- outcomes

-- a version is installed, and the files after it went or not
pub settled : (v : SeenVersion) (w : ℕ) (r : Result (Unit {0}) Error) (old new : Core) → IfErr r (λ e. e ≡ AfterCommit) → IsInstalled v w true old new → Settles v w r old new
settled v w (Ok x) old new only installed = record { ok = installed; after = λ h. cc h; unknown = λ h. cc h; numbers = λ h. cc h; store = λ h. cc h; memory = λ h. cc h; only = tt }
settled v w (Err e) old new only installed = record {
  ok = tt;
  after = λ h. (true, installed);
  unknown = λ h. cc (h, only);
  numbers = λ h. cc (h, only);
  store = λ h. cc (h, only);
  memory = λ h. cc (h, only);
  only = inr (inr only);
}

-- files of tables went that were drawn after all tables of a tree
pub drawn_upholds : (w w' : World) (c : Core) (first : ℕ) → KeepsStored first w w' → c.lost ≡ None → AreDrawnBelow first c → UpholdsFiles w w' c c
drawn_upholds w w' c first keeps certain fresh stored =
    let one : versions_left c ≡ c.history.latest.version ∷ [] = ap (λ o. c.history.latest.version ∷ option_to_list o) certain in
    let of_version = each_right (λ t. t.id < first) (written_of c) (all_of c.history.latest.version.levels) fresh in
    let of_flush = each_left (λ t. t.id < first) (written_of c) (all_of c.history.latest.version.levels) fresh in
    let kept = keeps (versions_left c) (written_of c) stored (subst (AllByRecursion (λ v. AllByRecursion (λ t. t.id < first) (all_of v.levels))) (sym one) (of_version, tt)) of_flush in
    upheld w w' c c (versions_left c) (written_of c) (versions_left c) refl refl kept.0 kept.1 (among_left (versions_left c) (versions_left c))
