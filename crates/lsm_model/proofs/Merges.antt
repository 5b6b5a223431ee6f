-- What a merge, a move or a drop does to one key's entries.
use Rattle.std.proofs.Common.{◌≡◌, ℕ, ◌<◌, ◌≤◌, Bool, true, false, cond, not, ◌&&◌, List, [], ◌∷◌, ◌++◌, filter, refl, sym, ap, ◌∙◌, arith, ltb, ltb-true, ltb-false, ◌⊎◌, inl, inr, ⊎_elim, append_assoc}
use Rattle.std.specs.List.{AllByRecursion}
use Rattle.std.specs.Cmp.Lexicographic.{nat_list_cmp_total}
use Rattle.std.proofs.lemmas.Bool.{and_parts, and_from, not-true}
use Rattle.lsm_below.specs.Keys.{Bytes, is_same}
use Rattle.lsm_below.specs.Orders.{le_trans}
use Rattle.lsm_below.specs.Ranges.{Range, in_range, overlap}
use Rattle.lsm_below.specs.Entries.{Entry, stack}
use Rattle.lsm_model.specs.Views.{Placed, held, IsLaidOut, PairAllowed, IsAllowed, chosen_of, upper_of, lower_of, IsRearranged}
use Rattle.lsm_model.proofs.Stacks.{stack-append}
use Rattle.lsm_model.proofs.Journals.{same_key}

-- two ranges that share a key overlap
pub overlap_at : (k : Bytes) (a b : Range) → in_range k a ≡ true → in_range k b ≡ true → overlap a b ≡ true
overlap_at k a b h q =
    let x = and_parts _ _ h in let y = and_parts _ _ q in
    and_from _ _ (le_trans nat_list_cmp_total a.min k b.max x.0 y.1) (le_trans nat_list_cmp_total b.min k a.max y.0 x.1)

-- a key's entries in a table, and in tables
abbrev pub of_table : Bytes → Placed → List Entry
of_table k p = stack k p.table.entries

abbrev pub of_tables : Bytes → List Placed → List Entry
of_tables k tables = stack k (held tables)

pub of_tables-cons : (k : Bytes) (p : Placed) (tables : List Placed) → of_tables k (p ∷ tables) ≡ of_table k p ++ of_tables k tables
of_tables-cons k p tables = stack-append k p.table.entries (held tables)

pub of_tables-append : (k : Bytes) (xs ys : List Placed) → of_tables k (xs ++ ys) ≡ of_tables k xs ++ of_tables k ys
of_tables-append k [] ys = refl
of_tables-append k (p ∷ xs) ys =
    of_tables-cons k p (xs ++ ys) ∙ ap (λ es. of_table k p ++ es) (of_tables-append k xs ys) ∙ sym (append_assoc (of_table k p) (of_tables k xs) (of_tables k ys)) ∙ ap (λ es. es ++ of_tables k ys) (sym (of_tables-cons k p xs))

-- a table shows nothing at keys outside its range
pub none_outside : (k : Bytes) (range : Range) (es : List Entry) → AllByRecursion (λ e. in_range e.key.user_key range ≡ true) es → in_range k range ≡ false → stack k es ≡ []
none_outside k range [] h q = refl
none_outside k range (e ∷ es) h q =
    elim (is_same k e.key.user_key) as (λ b. is_same k e.key.user_key ≡ b → cond b (e ∷ stack k es) (stack k es) ≡ []) [
      | true ↦ λ s. let p : k ≡ e.key.user_key = same_key k e.key.user_key s in let r : in_range k range ≡ true = rw p h.0 in absurd (let z : true ≡ false = sym r ∙ q in cc z)
      | false ↦ λ s. none_outside k range es h.1 q
    ] refl

-- tables of which none that passes has the key
none_passing : (k : Bytes) (t : Placed → Bool) (tables : List Placed) → AllByRecursion (λ p. t p ≡ true → of_table k p ≡ []) tables → of_tables k (filter t tables) ≡ []
none_passing k t [] h = refl
none_passing k t (p ∷ tables) h =
    elim (t p) as (λ b. t p ≡ b → of_tables k (cond b (p ∷ filter t tables) (filter t tables)) ≡ []) [
      | true ↦ λ q. of_tables-cons k p (filter t tables) ∙ rw (h.0 q) (none_passing k t tables h.1)
      | false ↦ λ q. none_passing k t tables h.1
    ] refl

Covers : Placed → Type 0
Covers p = AllByRecursion (λ e. in_range e.key.user_key p.table.range ≡ true) p.table.entries

empty_or_in : (k : Bytes) (p : Placed) → Covers p → (of_table k p ≡ []) ⊎ (in_range k p.table.range ≡ true)
unfolding Covers
empty_or_in k p c = elim (in_range k p.table.range) as (λ b. in_range k p.table.range ≡ b → (of_table k p ≡ []) ⊎ (b ≡ true)) [
  | true ↦ λ q. inr refl
  | false ↦ λ q. inl (none_outside k p.table.range p.table.entries c q)
] refl

module _ (k : Bytes) (d : ℕ) (chosen : ℕ → Bool) (evict : Bool) where
  Allows : Placed → Placed → Type 0
  Allows p q = overlap p.table.range q.table.range ≡ true → PairAllowed d chosen evict p q

  -- after a chosen table with the key no unchosen one above d has it
  behind_chosen : (p : Placed) (tables : List Placed) → in_range k p.table.range ≡ true → chosen p.table.id ≡ true → AllByRecursion (Allows p) tables → AllByRecursion Covers tables → AllByRecursion (λ q. (not (chosen q.table.id) && ltb q.level d) ≡ true → of_table k q ≡ []) tables
  unfolding Allows
  behind_chosen p [] i c a v = tt
  behind_chosen p (q ∷ tables) i c a v = (
    λ u.
        ⊎_elim (λ (e : of_table k q ≡ []). e)
        (λ (j : in_range k q.table.range ≡ true).
        let parts = and_parts _ _ u in
        let pair = a.0 (overlap_at k p.table.range q.table.range i j) in
        let no : chosen q.table.id ≡ false = not-true (chosen q.table.id) parts.0 in
        let l = pair.order_behind c no in let m = ltb-true q.level d parts.1 in absurd (omega arith))
        (empty_or_in k q v.0),
    behind_chosen p tables i c a.1 v.1,
  )

  -- after an unchosen table with the key at d or below no chosen one has it
  behind_lower : (p : Placed) (tables : List Placed) → in_range k p.table.range ≡ true → chosen p.table.id ≡ false → d ≤ p.level → AllByRecursion (Allows p) tables → AllByRecursion Covers tables → AllByRecursion (λ q. chosen q.table.id ≡ true → of_table k q ≡ []) tables
  unfolding Allows
  behind_lower p [] i c l a v = tt
  behind_lower p (q ∷ tables) i c l a v = (
    λ u.
        ⊎_elim (λ (e : of_table k q ≡ []). e)
        (λ (j : in_range k q.table.range ≡ true).
        let pair = a.0 (overlap_at k p.table.range q.table.range i j) in
        let m = pair.order_before c u in absurd (omega arith))
        (empty_or_in k q v.0),
    behind_lower p tables i c l a.1 v.1,
  )

  -- nor stands any table above d there
  no_upper : (p : Placed) (tables : List Placed) → d ≤ p.level → AllByRecursion (λ q. p.level ≤ q.level) tables → AllByRecursion (λ q. (not (chosen q.table.id) && ltb q.level d) ≡ true → of_table k q ≡ []) tables
  no_upper p [] l h = tt
  no_upper p (q ∷ tables) l h = (λ u. let m : q.level < d = ltb-true q.level d (and_parts (not (chosen q.table.id)) (ltb q.level d) u).1 in let n = h.0 in absurd (omega arith), no_upper p tables l h.1)

  -- after a chosen table with the key, where tombstones are evicted, no unchosen one has it
  behind_evicted : (p : Placed) (tables : List Placed) → evict ≡ true → in_range k p.table.range ≡ true → chosen p.table.id ≡ true → AllByRecursion (Allows p) tables → AllByRecursion Covers tables → AllByRecursion (λ q. (not (chosen q.table.id) && not (ltb q.level d)) ≡ true → of_table k q ≡ []) tables
  unfolding Allows
  behind_evicted p [] e i c a v = tt
  behind_evicted p (q ∷ tables) e i c a v = (
    λ u.
        ⊎_elim (λ (z : of_table k q ≡ []). z)
        (λ (j : in_range k q.table.range ≡ true).
        let pair = a.0 (overlap_at k p.table.range q.table.range i j) in
        let yes = pair.eviction e c in let n : not (chosen q.table.id) ≡ true = (and_parts (not (chosen q.table.id)) (not (ltb q.level d)) u).0 in
        let bad : not true ≡ true = rw yes at n in absurd (cc bad))
        (empty_or_in k q v.0),
    behind_evicted p tables e i c a.1 v.1,
  )

abbrev pub Parts : Bytes → ℕ → (ℕ → Bool) → List Placed → Type 0
Parts k d chosen tables = of_tables k tables ≡ of_tables k (upper_of d chosen tables) ++ (of_tables k (chosen_of chosen tables) ++ of_tables k (lower_of d chosen tables))

around_chosen : (a u c l t : List Entry) → t ≡ u ++ (c ++ l) → (a ≡ []) ⊎ (u ≡ []) → a ++ t ≡ u ++ ((a ++ c) ++ l)
around_chosen a u c l t e h = ⊎_elim (λ (z : a ≡ []). rw (z, e) refl) (λ (z : u ≡ []). rw (e, z) (sym (append_assoc a c l))) h

around_upper : (a u c l t : List Entry) → t ≡ u ++ (c ++ l) → a ++ t ≡ (a ++ u) ++ (c ++ l)
around_upper a u c l t e = ap (λ x. a ++ x) e ∙ sym (append_assoc a u (c ++ l))

around_lower : (a u c l t : List Entry) → t ≡ u ++ (c ++ l) → (a ≡ []) ⊎ ((u ≡ []) × (c ≡ [])) → a ++ t ≡ u ++ (c ++ (a ++ l))
around_lower a u c l t e h = ⊎_elim (λ (z : a ≡ []). rw (z, e) refl) (λ (z : (u ≡ []) × (c ≡ [])). rw (e, z.0, z.1) refl) h

-- one key's entries are those of the tables above, of the chosen ones, and of those below
pub parts_of : (k : Bytes) (d : ℕ) (chosen : ℕ → Bool) (evict : Bool) (tables : List Placed) → IsLaidOut tables → IsAllowed d chosen evict tables → Parts k d chosen tables
unfolding Allows Covers
parts_of k d chosen evict [] laid ok = refl
parts_of k d chosen evict (p ∷ tables) laid ok =
    let rest_laid : IsLaidOut tables = record { covers = laid.covers.1; by_level = laid.by_level.1 } in
    let ih = parts_of k d chosen evict tables rest_laid ok.1 in
    let u = of_tables k (upper_of d chosen tables) in
    let c = of_tables k (chosen_of chosen tables) in
    let l = of_tables k (lower_of d chosen tables) in
    of_tables-cons k p tables ∙
    (elim (chosen p.table.id) as (λ b. chosen p.table.id ≡ b → of_table k p ++ of_tables k tables
    ≡ of_tables k (cond (not b && ltb p.level d) (p ∷ upper_of d chosen tables) (upper_of d chosen tables))
    ++ (of_tables k (cond b (p ∷ chosen_of chosen tables) (chosen_of chosen tables))
    ++ of_tables k (cond (not b && not (ltb p.level d)) (p ∷ lower_of d chosen tables) (lower_of d chosen tables)))) [
      | true ↦ λ q. rw (of_tables-cons k p (chosen_of chosen tables))
          (around_chosen (of_table k p) u c l (of_tables k tables) ih
          (⊎_elim (λ (z : of_table k p ≡ []). inl z)
          (λ (i : in_range k p.table.range ≡ true). inr (none_passing k _ tables (behind_chosen k d chosen evict p tables i q ok.0 laid.covers.1)))
          (empty_or_in k p laid.covers.0)))
      | false ↦ λ q. elim (ltb p.level d) as (λ b. ltb p.level d ≡ b → of_table k p ++ of_tables k tables
          ≡ of_tables k (cond b (p ∷ upper_of d chosen tables) (upper_of d chosen tables))
          ++ (c ++ of_tables k (cond (not b) (p ∷ lower_of d chosen tables) (lower_of d chosen tables)))) [
            | true ↦ λ r. rw (of_tables-cons k p (upper_of d chosen tables)) (around_upper (of_table k p) u c l (of_tables k tables) ih)
            | false ↦ λ r. rw (of_tables-cons k p (lower_of d chosen tables))
                (around_lower (of_table k p) u c l (of_tables k tables) ih
                (⊎_elim (λ (z : of_table k p ≡ []). inl z)
                (λ (i : in_range k p.table.range ≡ true). inr (
                  none_passing k _ tables (no_upper k d chosen evict p tables (ltb-false p.level d r) laid.by_level.0),
                  none_passing k _ tables (behind_lower k d chosen evict p tables i q (ltb-false p.level d r) ok.0 laid.covers.1),
                ))
                (empty_or_in k p laid.covers.0)))
          ] refl
    ] refl)

-- where tombstones are evicted, no key has entries both in the chosen tables and below
pub evicted_parts : (k : Bytes) (d : ℕ) (chosen : ℕ → Bool) (tables : List Placed) → IsLaidOut tables → IsAllowed d chosen true tables → (of_tables k (chosen_of chosen tables) ≡ []) ⊎ (of_tables k (lower_of d chosen tables) ≡ [])
unfolding Allows Covers
evicted_parts k d chosen [] laid ok = inl refl
evicted_parts k d chosen (p ∷ tables) laid ok =
    let rest_laid : IsLaidOut tables = record { covers = laid.covers.1; by_level = laid.by_level.1 } in
    let ih = evicted_parts k d chosen tables rest_laid ok.1 in
    let c = of_tables k (chosen_of chosen tables) in
    let l = of_tables k (lower_of d chosen tables) in
    elim (chosen p.table.id) as (λ b. chosen p.table.id ≡ b → (of_tables k (cond b (p ∷ chosen_of chosen tables) (chosen_of chosen tables)) ≡ []) ⊎ (of_tables k (cond (not b && not (ltb p.level d)) (p ∷ lower_of d chosen tables) (lower_of d chosen tables)) ≡ [])) [
      | true ↦ λ q. ⊎_elim
          (λ (z : of_table k p ≡ []). ⊎_elim (λ (x : c ≡ []). inl (of_tables-cons k p (chosen_of chosen tables) ∙ rw (z, x) refl)) (λ (x : l ≡ []). inr x) ih)
          (λ (i : in_range k p.table.range ≡ true). inr (none_passing k _ tables (behind_evicted k d chosen true p tables refl i q ok.0 laid.covers.1)))
          (empty_or_in k p laid.covers.0)
      | false ↦ λ q. elim (ltb p.level d) as (λ b. ltb p.level d ≡ b → (c ≡ []) ⊎ (of_tables k (cond (not b) (p ∷ lower_of d chosen tables) (lower_of d chosen tables)) ≡ [])) [
        | true ↦ λ r. ih
        | false ↦ λ r. ⊎_elim
            (λ (z : of_table k p ≡ []). ⊎_elim (λ (x : c ≡ []). inl x) (λ (x : l ≡ []). inr (of_tables-cons k p (lower_of d chosen tables) ∙ rw (z, x) refl)) ih)
            (λ (i : in_range k p.table.range ≡ true). inl (none_passing k _ tables (behind_lower k d chosen true p tables i q (ltb-false p.level d r) ok.0 laid.covers.1)))
            (empty_or_in k p laid.covers.0)
      ] refl
    ] refl

-- only tables whose range has the key matter to it
only_spanning : (k : Bytes) (tables : List Placed) → AllByRecursion Covers tables → of_tables k tables ≡ of_tables k (filter (λ p. in_range k p.table.range) tables)
unfolding Covers
only_spanning k [] v = refl
only_spanning k (p ∷ tables) v =
    of_tables-cons k p tables ∙
    (elim (in_range k p.table.range) as (λ b. in_range k p.table.range ≡ b → of_table k p ++ of_tables k tables ≡ of_tables k (cond b (p ∷ filter (λ p. in_range k p.table.range) tables) (filter (λ p. in_range k p.table.range) tables))) [
      | true ↦ λ q. ap (λ es. of_table k p ++ es) (only_spanning k tables v.1) ∙ sym (of_tables-cons k p (filter (λ p. in_range k p.table.range) tables))
      | false ↦ λ q. rw (none_outside k p.table.range p.table.entries v.0 q) (only_spanning k tables v.1)
    ] refl)

-- runs that are joined so show the same
pub rearranged_same : (k : Bytes) (old new : List Placed) → IsLaidOut new → AllByRecursion (λ p. AllByRecursion (λ e. in_range e.key.user_key p.table.range ≡ true) p.table.entries) old → IsRearranged old new → of_tables k new ≡ of_tables k old
unfolding Covers
rearranged_same k old new laid covers same = only_spanning k new laid.covers ∙ ap (of_tables k) (same k) ∙ sym (only_spanning k old covers)
