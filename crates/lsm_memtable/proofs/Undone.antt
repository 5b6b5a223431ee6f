-- Puts that are taken back.
use Rattle.std.proofs.Common.{◌≡◌, ℕ, zero, suc, ◌+◌, ◌<◌, ◌≤◌, true, false, nat_le, List, [], ◌∷◌, ◌++◌, length, get_or, set, refl, sym, ◌∙◌, ap, subst, arith, inl, inr, Option, Some, None, MatchOption}
use Rattle.std.specs.List.{insert, remove}
use Rattle.std.specs.declared.cmp.Ordering.TheVariants.{Less}
use Rattle.std.proofs.lemmas.Bool.{cases_lt, both_ways}
use Rattle.std.proofs.lemmas.Bool.Decides.{nat_tests}
use Rattle.std.proofs.lemmas.Cmp.{nat_list_cmp_total, tied_itself}
use Rattle.std.proofs.lemmas.List.{get_or-set_same, length-set}
use Rattle.std.proofs.lemmas.List.Edits.{length-insert, get_or-insert_at}
use Rattle.lsm_below.specs.Entries.{Entry, entry_cmp}
use Rattle.lsm_below.specs.Laws.{EntriesAreOrdered}
use Rattle.lsm_below.specs.Lookups.{stands_before}
use Rattle.lsm_below.specs.Sorted.{Rises, by_ordering}
use Rattle.lsm_memtable.specs.declared.block_list.Undo.{Undo}
use Rattle.lsm_below.specs.declared.key.InternalKey.{InternalKey}
use Rattle.lsm_memtable.specs.Undo.{Undoes, AreUndone, undo_of}
use Rattle.lsm_memtable.specs.Blocks.{joined, spot, AreBlocks, IsPlace}
use Rattle.lsm_memtable.proofs.Joined.{block_within}
use Rattle.lsm_memtable.proofs.Places.{less_ahead}

pub undone_more : (us : List Undo) (u : Undo) (before mid after : List Entry) → AreUndone us before mid → Undoes u mid after → AreUndone (us ++ u ∷ []) before after
undone_more [] u before mid after same step = (after, subst (λ l. Undoes u l after) same step, refl)
undone_more (v ∷ us) u before mid after steps step = (steps.0, steps.1, undone_more us u steps.0 mid after steps.2 step)

pub undone_last : (us : List Undo) (u : Undo) (before after : List Entry) → AreUndone (us ++ u ∷ []) before after → (mid : List Entry) × AreUndone us before mid × Undoes u mid after
undone_last [] u before after steps = (before, refl, subst (λ l. Undoes u before l) (sym steps.2) steps.1)
undone_last (v ∷ us) u before after steps = let rest = undone_last us u steps.0 after steps.2 in (rest.0, (steps.0, steps.1, rest.1), rest.2)

pub remove_insert : {X : Type 0} (xs : List X) (i : ℕ) (x : X) → i ≤ length xs → remove (insert xs i x) i ≡ xs
remove_insert xs zero x le = refl
remove_insert [] (suc i) x le = absurd (omega arith)
remove_insert (y ∷ xs) (suc i) x le = ap (λ l. y ∷ l) (remove_insert xs i x (omega arith))

pub set_back : {X : Type 0} (xs : List X) (i : ℕ) (x o : X) → o ≡ get_or xs i o → set (set xs i x) i o ≡ xs
set_back [] i x o is = refl
set_back (y ∷ xs) zero x o is = ap (λ z. z ∷ xs) is
set_back (y ∷ xs) (suc i) x o is = ap (λ l. y ∷ l) (set_back xs i x o is)

-- an entry doesn't stand before itself
not_ahead : (e : Entry) → stands_before e.key.user_key (e.key.seqno + 1) e ≡ false
not_ahead e = ap (λ o. by_ordering o true (nat_le (e.key.seqno + 1) e.key.seqno) false) (tied_itself nat_list_cmp_total e.key.user_key) ∙ grind (arith, nat_tests)

-- the place of an entry that is there
pub place_is : (entries : EntriesAreOrdered) → (xs : List Entry) (e : Entry) (at s : ℕ) → Rises entry_cmp xs → at < length xs → get_or xs at e ≡ e → s ≤ length xs
    → ((j : ℕ) (d : Entry) → j < s → stands_before e.key.user_key (e.key.seqno + 1) (get_or xs j d) ≡ true)
    → ((j : ℕ) (d : Entry) → s ≤ j → j < length xs → stands_before e.key.user_key (e.key.seqno + 1) (get_or xs j d) ≡ false) → s ≡ at
place_is entries xs e at s rises in_range here s_in before behind = elim (cases_lt at s) [
  | inl less ↦ absurd (both_ways _ (not_ahead e) (subst (λ x. stands_before e.key.user_key (e.key.seqno + 1) x ≡ true) here (before at e less)))
  | inr ge ↦ elim (cases_lt s at) [
    | inl less ↦ absurd (both_ways _ (behind s e (omega arith) (omega arith)) (less_ahead (get_or xs s e) e (subst (λ x. entry_cmp (get_or xs s e) x ≡ Less) here (entries.rises xs s at e rises less in_range))))
    | inr same ↦ omega arith
  ]
]

module _ (entries : EntriesAreOrdered) (bs : List (List Entry)) (blocks : AreBlocks bs) (u : Undo) (before : List Entry) (made : Undoes u before (joined bs)) where
  -- the entry stands where it was put
  there : (made.at < length (joined bs)) × (get_or (joined bs) made.at made.entry ≡ made.entry)
  there = go u.replaced made.made
    where
      go : (r : Option Entry) → MatchOption r (joined bs ≡ insert before made.at made.entry) (λ o. (made.at < length before) × (o ≡ get_or before made.at o) × (joined bs ≡ set before made.at made.entry))
          → (made.at < length (joined bs)) × (get_or (joined bs) made.at made.entry ≡ made.entry)
      go None is = (omega (arith, ap (λ (l : List Entry). length l) is, length-insert before made.at made.entry made.within, made.within), ap (λ l. get_or l made.at made.entry) is ∙ get_or-insert_at before made.at made.entry made.entry made.within)
      go (Some o) is = (omega (arith, ap (λ (l : List Entry). length l) is.2, length-set before made.at made.entry, is.0), ap (λ l. get_or l made.at made.entry) is.2 ∙ get_or-set_same before made.at made.entry made.entry is.0)

  pub some_blocks : 0 < length bs
  some_blocks = go bs there.0
    where
      go : (xs : List (List Entry)) → made.at < length (joined xs) → 0 < length xs
      go [] lt = absurd (omega arith)
      go (x ∷ xs) lt = omega arith

  module _ (b i : ℕ) (place : IsPlace bs u.key.user_key (u.key.seqno + 1) b i) where
    -- it is found there
    pub found_there : spot bs b i ≡ made.at
    found_there =
        let at_in = place.at_in in
        let total = block_within bs b [] place.block_in in
        place_is entries (joined bs) made.entry made.at (spot bs b i) blocks.rises there.0 there.1 (omega arith)
        (subst (λ k. (j : ℕ) (d : Entry) → j < spot bs b i → stands_before k.user_key (k.seqno + 1) (get_or (joined bs) j d) ≡ true) (sym made.key) place.before)
        (subst (λ k. (j : ℕ) (d : Entry) → spot bs b i ≤ j → j < length (joined bs) → stands_before k.user_key (k.seqno + 1) (get_or (joined bs) j d) ≡ false) (sym made.key) place.behind)

    pub found_inside : i < length (get_or bs b [])
    found_inside = elim (cases_lt i (length (get_or bs b []))) [
      | inl less ↦ less
      | inr ge ↦
          let at_in = place.at_in in
          let end : spot bs b i ≡ length (joined bs) = place.edge (omega arith) in
          absurd (let in_range = there.0 in let at = found_there in omega arith)
    ]

    pub back_replaced : (o : Entry) → u.replaced ≡ Some o → set (joined bs) (spot bs b i) o ≡ before
    back_replaced o is =
        let m : (made.at < length before) × (o ≡ get_or before made.at o) × (joined bs ≡ set before made.at made.entry) = subst (λ r. MatchOption r (joined bs ≡ insert before made.at made.entry) (λ o. (made.at < length before) × (o ≡ get_or before made.at o) × (joined bs ≡ set before made.at made.entry))) is made.made in
        ap (λ k. set (joined bs) k o) found_there ∙ (ap (λ l. set l made.at o) m.2 ∙ set_back before made.at made.entry o m.1)

    pub back_removed : u.replaced ≡ None → remove (joined bs) (spot bs b i) ≡ before
    back_removed is =
        let m : joined bs ≡ insert before made.at made.entry = subst (λ r. MatchOption r (joined bs ≡ insert before made.at made.entry) (λ o. (made.at < length before) × (o ≡ get_or before made.at o) × (joined bs ≡ set before made.at made.entry))) is made.made in
        ap (λ k. remove (joined bs) k) found_there ∙ (ap (λ l. remove l made.at) m ∙ remove_insert before made.at made.entry made.within)

-- how many entries there are after a put
pub counted : (k : InternalKey) (r : Option Entry) (before after : List Entry) (n more now : ℕ) → Undoes (undo_of k r) before after → n ≡ length before → more ≡ n + 1 → MatchOption r (now ≡ more) (λ _. now ≡ n) → now ≡ length after
counted k None before after n more now made len next is = omega (arith, is, next, len, ap (λ (l : List Entry). length l) made.made, length-insert before made.at made.entry made.within)
counted k (Some o) before after n more now made len next is = omega (arith, is, len, ap (λ (l : List Entry). length l) made.made.2, length-set before made.at made.entry)
