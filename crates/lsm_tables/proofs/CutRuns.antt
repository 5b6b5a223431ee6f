-- The tables into which a list is cut are a run.
use Rattle.std.proofs.Common.{◌≡◌, ◌<◌, true, false, List, [], ◌∷◌, ◌++◌, length, flat_map, arith}
use Rattle.std.specs.List.{AllByRecursion}
use Rattle.std.specs.declared.cmp.Ordering.TheVariants.{Less}
use Rattle.std.proofs.lemmas.List.Elements.{recursion_from_All}
use Rattle.lsm_below.specs.Keys.{Bytes, is_below}
use Rattle.lsm_below.specs.Entries.{Entry, entry_cmp}
use Rattle.lsm_below.specs.Laws.{KeysAreOrdered, EntriesAreOrdered}
use Rattle.lsm_below.specs.Slots.{same_key}
use Rattle.lsm_below.specs.Sorted.{Rises}
use Rattle.lsm_below.specs.Runs.{IsRun}
use Rattle.lsm_below.specs.Optimizes.{EachPair}
use Rattle.lsm_below.specs.Each.{each_left, each_right, each_both, each_weaker}
use Rattle.lsm_below.proofs.EntryKeys.{below_strictly}
use Rattle.lsm_tables.specs.Cutting.{IsApart}
use Rattle.lsm_tables.specs.Tables.{first_key, last_key, range_of}
use Rattle.lsm_tables.proofs.Covering.{is_range}
use Rattle.lsm_tables.proofs.Cutting.{rises_left, rises_right}

abbrev AllBefore : List Entry → List Entry → Type 0
AllBefore xs ys = AllByRecursion (λ x. AllByRecursion (λ y. entry_cmp x y ≡ Less) ys) xs

-- in a list that rises the front is before the rest
before_rest : (xs ys : List Entry) → Rises entry_cmp (xs ++ ys) → AllBefore xs ys
before_rest [] ys h = tt
before_rest (x ∷ xs) ys h = (each_right (λ y. entry_cmp x y ≡ Less) xs ys (recursion_from_All (λ y. entry_cmp x y ≡ Less) (xs ++ ys) h.0), before_rest xs ys h.1)

-- what holds of each key holds of the last one
at_last : (P : Bytes → Type 0) (es : List Entry) → 0 < length es → AllByRecursion (λ e. P e.key.user_key) es → P (last_key es)
at_last P [] some h = absurd (omega arith)
at_last P (e ∷ []) some h = h.0
at_last P (e ∷ (f ∷ es)) some h = at_last P (f ∷ es) (omega arith) h.1

ends_before : (t u : List Entry) → 0 < length t → 0 < length u → AllBefore t u → IsApart t u → is_below (last_key t) (first_key u) ≡ true
ends_before t [] some any c a = absurd (omega arith)
ends_before t (f ∷ us) some any c a =
    at_last (λ k. is_below k f.key.user_key ≡ true) t some
    (each_both (λ x. AllByRecursion (λ y. entry_cmp x y ≡ Less) (f ∷ us)) (λ x. same_key x f ≡ false) (λ x. is_below x.key.user_key f.key.user_key ≡ true) (λ x l s. below_strictly x f l.0 s) t c a.0)

before_each : (t : List Entry) (ts : List (List Entry)) → 0 < length t → AllBefore t (flat_map (λ u. u) ts) → AllByRecursion (IsApart t) ts → AllByRecursion (λ u. 0 < length u) ts → AllByRecursion (λ u. is_below (last_key t) (first_key u) ≡ true) ts
before_each t [] some c a s = tt
before_each t (u ∷ ts) some c a s =
    let rest = flat_map (λ u. u) ts in (
      ends_before t u some s.0 (each_weaker (λ x. AllByRecursion (λ y. entry_cmp x y ≡ Less) (u ++ rest)) (λ x. AllByRecursion (λ y. entry_cmp x y ≡ Less) u) (λ x l. each_left (λ y. entry_cmp x y ≡ Less) u rest l) t c) a.0,
      before_each t ts some (each_weaker (λ x. AllByRecursion (λ y. entry_cmp x y ≡ Less) (u ++ rest)) (λ x. AllByRecursion (λ y. entry_cmp x y ≡ Less) rest) (λ x l. each_right (λ y. entry_cmp x y ≡ Less) u rest l) t c) a.1 s.1,
    )

module _ (keys : KeysAreOrdered) (entries : EntriesAreOrdered) where
  pub lists_run : (ts : List (List Entry)) → Rises entry_cmp (flat_map (λ t. t) ts) → AllByRecursion (λ t. 0 < length t) ts → EachPair IsApart ts → IsRun range_of ts
  lists_run [] h s a = tt
  lists_run (t ∷ ts) h s a =
      let rest = flat_map (λ t. t) ts in
      (is_range keys entries t s.0 (rises_left t rest h), before_each t ts s.0 (before_rest t rest h) a.0 s.1, lists_run ts (rises_right t rest h) s.1 a.1)
