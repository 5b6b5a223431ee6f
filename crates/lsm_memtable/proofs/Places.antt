-- What a place found in blocks says of the list that they make.
use Rattle.std.proofs.Common.{◌≡◌, ℕ, suc, ◌+◌, ◌-◌, ◌<◌, ◌≤◌, Bool, true, false, nat_le, List, [], length, get_or, set, take, drop, refl, sym, ◌∙◌, ap, subst, arith, inl, inr, ◌⊎◌, add-one, Option, Some, None, option_copied, IfSome, IfNone, Bor}
use Rattle.std.specs.List.{insert}
use Rattle.std.specs.Ordering.{nat_cmp, ordering_then, ordering_reverse, is_eq}
use Rattle.std.specs.declared.cmp.Ordering.{Ordering}
use Rattle.std.specs.declared.cmp.Ordering.TheVariants.{Less, Equal, Greater}
use Rattle.std.proofs.lemmas.List.{get_or_default}
use Rattle.std.proofs.lemmas.Bool.{cases_lt}
use Rattle.std.proofs.lemmas.Bool.Decides.{nat_tests}
use Rattle.std.proofs.lemmas.Cmp.{ranked}
use Rattle.lsm_below.specs.declared.value.InternalValue.{InternalValue}
use Rattle.lsm_below.specs.declared.value_type.ValueType.TheVariants.{Value}
use Rattle.lsm_below.specs.Entries.{entry_cmp}
use Rattle.lsm_below.specs.Sorted.{Rises, put, by_ordering, first}
use Rattle.lsm_below.specs.Lookups.{is_visible, stands_before, IsTop, HasNone}
use Rattle.lsm_memtable.specs.Blocks.{joined, spot, AreBlocks, IsPlace}
use Rattle.lsm_below.specs.Laws.{EntriesAreOrdered, EntriesAreParted, FirstVisibleIsTop}
use Rattle.lsm_memtable.proofs.Sorted.{put_set, put_insert}
use Rattle.lsm_memtable.proofs.Joined.{at_block, block_end, block_within, drop_past}

-- how many entries block b has, and how many stand before it
abbrev size_at : List (List InternalValue) → ℕ → ℕ
size_at bs b = length (get_or bs b [])

abbrev start_at : List (List InternalValue) → ℕ → ℕ
start_at bs b = length (joined (take b bs))

not_true : (b : Bool) → (b ≡ true → ⊥) → b ≡ false
not_true true h = absurd (h refl)
not_true false h = refl

both : (b : Bool) → b ≡ true → b ≡ false → ⊥
both b t f = cc (t, f)

module _ (parts : EntriesAreParted) (bs : List (List InternalValue)) (blocks : AreBlocks bs) (key : List ℕ) (s : ℕ) where
  -- all entries up to the end of a block whose last one is ahead
  pub ahead_to : (b : ℕ) → b < length bs → ((d : InternalValue) → stands_before key s (get_or (get_or bs b []) (length (get_or bs b []) - 1) d) ≡ true)
      → (j : ℕ) (d : InternalValue) → j < length (joined (take (b + 1) bs)) → stands_before key s (get_or (joined bs) j d) ≡ true
  ahead_to b lt last j d within =
      let filled = blocks.filled b [] lt in
      let n = length (get_or bs b []) in
      let a = length (joined (take b bs)) in
      let ends : length (joined (take (b + 1) bs)) ≡ a + n = subst (λ k. length (joined (take k bs)) ≡ a + n) (sym (add-one b)) (block_end bs b [] lt) in
      let total = block_within bs b [] lt in
      let here : stands_before key s (get_or (joined bs) (a + (n - 1)) d) ≡ true = subst (λ e. stands_before key s e ≡ true) (sym (at_block bs b (n - 1) [] d lt (omega (arith, filled.0)))) (last d) in
      parts.ahead (joined bs) key s blocks.rises j (a + (n - 1)) d (omega (arith, filled.0)) (omega (arith, filled.0)) here

  -- where the last entry of all is ahead, the place is the end
  pub placed_end : (b i : ℕ) → b < length bs → b + 1 ≡ length bs → i ≡ length (get_or bs b []) → ((d : InternalValue) → stands_before key s (get_or (get_or bs b []) (length (get_or bs b []) - 1) d) ≡ true) → IsPlace bs key s b i
  placed_end b i lt end full last =
      let ends : length (joined (take (b + 1) bs)) ≡ start_at bs b + size_at bs b = subst (λ k. length (joined (take k bs)) ≡ start_at bs b + size_at bs b) (sym (add-one b)) (block_end bs b [] lt) in
      let total = block_within bs b [] lt in
      let past = drop_past bs (suc b) (omega arith) in
      record {
        block_in = lt;
        at_in = omega arith;
        edge = λ _. omega arith;
        before = λ j d less. ahead_to b lt last j d (omega arith);
        behind = λ j d ge in_range. absurd (omega arith);
      }

  -- a place in a block is a place in the list
  pub placed : (b i : ℕ) → b < length bs
      → ((j : ℕ) (d : InternalValue) → j < length (joined (take b bs)) → stands_before key s (get_or (joined bs) j d) ≡ true)
      → ((d : InternalValue) → b + 1 < length bs → stands_before key s (get_or (get_or bs b []) (length (get_or bs b []) - 1) d) ≡ false)
      → i ≤ length (get_or bs b [])
      → ((j : ℕ) (d : InternalValue) → j < i → stands_before key s (get_or (get_or bs b []) j d) ≡ true)
      → ((j : ℕ) (d : InternalValue) → i ≤ j → j < length (get_or bs b []) → stands_before key s (get_or (get_or bs b []) j d) ≡ false)
      → IsPlace bs key s b i
  placed b i lt ahead edge at_in before behind = record {
    block_in = lt;
    at_in = at_in;
    edge = λ full. at_edge full (cases_lt (b + 1) (length bs));
    before = before_all;
    behind = behind_all;
  }
    where
      total : length (joined bs) ≡ (start_at bs b) + ((size_at bs b) + length (joined (drop (suc b) bs)))
      total = block_within bs b [] lt

      filled : 0 < (size_at bs b)
      filled = (blocks.filled b [] lt).0

      none_behind : length bs ≤ b + 1 → length (joined bs) ≡ (start_at bs b) + (size_at bs b)
      none_behind le = let past = drop_past bs (suc b) (omega arith) in omega (arith, total)

      in_block : (j : ℕ) (d : InternalValue) → (start_at bs b) ≤ j → j < (start_at bs b) + (size_at bs b) → get_or (joined bs) j d ≡ get_or (get_or bs b []) (j - (start_at bs b)) d
      in_block j d ge in_range =
          let same : length (joined (take b bs)) + (j - (start_at bs b)) ≡ j = omega arith in
          subst (λ k. get_or (joined bs) k d ≡ get_or (get_or bs b []) (j - (start_at bs b)) d) same (at_block bs b (j - (start_at bs b)) [] d lt (omega arith))

      at_edge : i ≡ length (get_or bs b []) → (b + 1 < length bs) ⊎ (length bs ≤ b + 1) → spot bs b i ≡ length (joined bs)
      at_edge full (inl more) =
          let d : InternalValue = record { key = record { user_key = []; seqno = 0; value_type = Value }; value = [] } in
          absurd (both _ (before ((size_at bs b) - 1) d (omega (arith, filled))) (edge d more))
      at_edge full (inr last) = omega (arith, none_behind last)

      before_all : (j : ℕ) (d : InternalValue) → j < spot bs b i → stands_before key s (get_or (joined bs) j d) ≡ true
      before_all j d less = elim (cases_lt j (start_at bs b)) [
        | inl front ↦ ahead j d front
        | inr ge ↦ subst (λ e. stands_before key s e ≡ true) (sym (in_block j d ge (omega arith))) (before (j - (start_at bs b)) d (omega arith))
      ]

      last_behind : (j : ℕ) (d : InternalValue) → (start_at bs b) + (size_at bs b) ≤ j → j < length (joined bs) → b + 1 < length bs → stands_before key s (get_or (joined bs) j d) ≡ false
      last_behind j d ge in_range more =
          not_true _ (λ t. both _ (parts.ahead (joined bs) key s blocks.rises ((start_at bs b) + ((size_at bs b) - 1)) j d (omega (arith, filled)) in_range t)
          (subst (λ e. stands_before key s e ≡ false) (sym (at_block bs b ((size_at bs b) - 1) [] d lt (omega (arith, filled)))) (edge d more)))

      behind_all : (j : ℕ) (d : InternalValue) → spot bs b i ≤ j → j < length (joined bs) → stands_before key s (get_or (joined bs) j d) ≡ false
      behind_all j d ge in_range = elim (cases_lt j ((start_at bs b) + (size_at bs b))) [
        | inl here ↦ subst (λ e. stands_before key s e ≡ false) (sym (in_block j d (omega arith) here)) (behind (j - (start_at bs b)) d (omega arith) (omega arith))
        | inr past ↦ elim (cases_lt (b + 1) (length bs)) [
          | inl more ↦ last_behind j d past in_range more
          | inr last ↦ absurd (omega (arith, none_behind last))
        ]
      ]

-- a block that was read
module _ (bs : List (List InternalValue)) (b : ℕ) (block : List InternalValue) (lt : b < length bs) (read : block ≡ get_or bs b block) where
  pub read_block : block ≡ get_or bs b []
  read_block = read ∙ get_or_default bs b block [] lt

  -- what was answered of its last entry
  pub at_last : (key : List ℕ) (s : ℕ) (t u : Bool) → ((d : InternalValue) → t ≡ stands_before key s (get_or block (length block - 1) d)) → t ≡ u
      → (d : InternalValue) → stands_before key s (get_or (get_or bs b []) (length (get_or bs b []) - 1) d) ≡ u
  at_last key s t u is answer d = subst (λ (x : List InternalValue). stands_before key s (get_or x (length x - 1) d) ≡ u) read_block (sym (is d) ∙ answer)

  pub placed_read : EntriesAreParted → AreBlocks bs → (key : List ℕ) (s i : ℕ)
      → ((j : ℕ) (d : InternalValue) → j < length (joined (take b bs)) → stands_before key s (get_or (joined bs) j d) ≡ true)
      → ((d : InternalValue) → stands_before key s (get_or (get_or bs b []) (length (get_or bs b []) - 1) d) ≡ false)
      → i ≤ length block
      → ((j : ℕ) (d : InternalValue) → j < i → stands_before key s (get_or block j d) ≡ true)
      → ((j : ℕ) (d : InternalValue) → i ≤ j → j < length block → stands_before key s (get_or block j d) ≡ false)
      → IsPlace bs key s b i
  placed_read parts blocks key s i ahead edge at_in before behind =
      placed parts bs blocks key s b i lt ahead (λ d _. edge d) (subst (λ (x : List InternalValue). i ≤ length x) read_block at_in)
      (λ j d less. subst (λ (x : List InternalValue). stands_before key s (get_or x j d) ≡ true) read_block (before j d less))
      (λ j d ge less. subst (λ (x : List InternalValue). stands_before key s (get_or x j d) ≡ false) read_block (behind j d ge (subst (λ (x : List InternalValue). j < length x) (sym read_block) less)))

  pub filled_read : AreBlocks bs → (0 < length block) × (length block ≤ 64)
  filled_read blocks = let h = blocks.filled b block lt in subst (λ (x : List InternalValue). (0 < length x) × (length x ≤ 64)) (sym read) h

  -- an entry of it stands in the list
  pub spot_read : (i : ℕ) (d : InternalValue) → i < length block → get_or (joined bs) (spot bs b i) d ≡ get_or block i d
  spot_read i d within = at_block bs b i [] d lt (subst (λ (x : List InternalValue). i < length x) read_block within) ∙ ap (λ x. get_or x i d) (sym read_block)

  pub spot_within : (i : ℕ) → i < length block → spot bs b i < length (joined bs)
  spot_within i within = let same : length block ≡ length (get_or bs b []) = ap (λ (x : List InternalValue). length x) read_block in omega (arith, block_within bs b [] lt)

-- ahead of the entries numbered n or below is what is less than the entry numbered n
ahead_less : (o : Ordering) (n m : ℕ) → by_ordering o true (nat_le (n + 1) m) false ≡ true → ordering_then o (nat_cmp n m) ≡ Less
ahead_less Less n m h = refl
ahead_less Equal n m h = grind (arith, nat_tests)
ahead_less Greater n m h = absurd (cc h)

less_before : (o : Ordering) (n m : ℕ) → ordering_then o (nat_cmp n m) ≡ Less → by_ordering o true (nat_le (n + 1) m) false ≡ true
less_before Less n m h = refl
less_before Equal n m h = let lt : n < m = ranked n m Less (sym h) in grind (arith, nat_tests)
less_before Greater n m h = absurd (cc h)

-- what is less than an entry stands before it
pub less_ahead : (x e : InternalValue) → entry_cmp x e ≡ Less → stands_before e.key.user_key (e.key.seqno + 1) x ≡ true
less_ahead x e less = less_before _ e.key.seqno x.key.seqno less

behind_not_less : (o : Ordering) (n m : ℕ) → by_ordering o true (nat_le (n + 1) m) false ≡ false → ordering_then o (nat_cmp n m) ≡ Less → ⊥
behind_not_less Less n m h less = cc h
behind_not_less Equal n m h less = let lt : n < m = ranked n m Less (sym less) in grind (arith, nat_tests)
behind_not_less Greater n m h less = cc less

not_less_or_equal : (o : Ordering) → (o ≡ Less → ⊥) → is_eq o ≡ false → o ≡ Greater
not_less_or_equal Less less equal = absurd (less refl)
not_less_or_equal Equal less equal = absurd (cc equal)
not_less_or_equal Greater less equal = refl

is_eq_tie : (o : Ordering) → is_eq o ≡ true → o ≡ Equal
is_eq_tie Less e = absurd (cc e)
is_eq_tie Equal e = refl
is_eq_tie Greater e = absurd (cc e)

above_next : (entries : EntriesAreOrdered) → (x y e : InternalValue) → entry_cmp x y ≡ Less → entry_cmp x e ≡ Greater → entry_cmp y e ≡ Greater
above_next entries x y e less above =
    let order = entries.total in
    order.antisymm y e ∙ ap ordering_reverse (order.trans e x y (order.antisymm e x ∙ ap ordering_reverse above) less)

module _ (entries : EntriesAreOrdered) (xs : List InternalValue) (rises : Rises entry_cmp xs) (e : InternalValue) (at : ℕ)
    (before : (j : ℕ) (d : InternalValue) → j < at → stands_before e.key.user_key (e.key.seqno + 1) (get_or xs j d) ≡ true)
    (behind : (j : ℕ) (d : InternalValue) → at ≤ j → j < length xs → stands_before e.key.user_key (e.key.seqno + 1) (get_or xs j d) ≡ false) where
  -- over the entry of the same key and sequence number
  pub put_over : (d : InternalValue) → at < length xs → is_eq (entry_cmp (get_or xs at d) e) ≡ true → put entry_cmp e xs ≡ set xs at e
  put_over d in_range same = put_set entries.total e xs at d rises in_range (is_eq_tie _ same)

  -- between two entries, where none is the same
  pub put_between : at ≤ length xs → (at < length xs → (d : InternalValue) → is_eq (entry_cmp (get_or xs at d) e) ≡ false) → put entry_cmp e xs ≡ insert xs at e
  put_between in_range other = put_insert entries.total e xs at in_range below above
    where
      below : (j : ℕ) (d : InternalValue) → j < at → entry_cmp (get_or xs j d) e ≡ Less
      below j d lt = ahead_less _ e.key.seqno (get_or xs j d).key.seqno (before j d lt)

      here : (d : InternalValue) → at < length xs → entry_cmp (get_or xs at d) e ≡ Greater
      here d lt = not_less_or_equal _ (behind_not_less _ e.key.seqno (get_or xs at d).key.seqno (behind at d (omega arith) lt)) (other lt d)

      above : (j : ℕ) (d : InternalValue) → at ≤ j → j < length xs → entry_cmp (get_or xs j d) e ≡ Greater
      above j d ge lt = elim (cases_lt at j) [
        | inl less ↦ later j d less lt
        | inr le ↦ let same : at ≡ j = omega arith in subst (λ k. entry_cmp (get_or xs k d) e ≡ Greater) same (here d (omega arith))
      ]
        where
          later : (j : ℕ) (d : InternalValue) → at < j → j < length xs → entry_cmp (get_or xs j d) e ≡ Greater
          later j d less lt = above_next entries (get_or xs at d) (get_or xs j d) e (entries.rises xs at j d rises less lt) (here d (omega arith))

-- what was found first is the newest entry, and what wasn't found isn't there
pub found_top : FirstVisibleIsTop → (xs : List InternalValue) (key : List ℕ) (s : ℕ) (r : Option (Bor InternalValue)) → Rises entry_cmp xs → option_copied r ≡ first (is_visible key s) xs → IfSome r (λ e. IsTop xs key s e.now)
found_top tops xs key s (Some e) rises is = tops.found xs key s e.now rises (sym is)
found_top tops xs key s None rises is = tt

pub found_none : FirstVisibleIsTop → (xs : List InternalValue) (key : List ℕ) (s : ℕ) (r : Option (Bor InternalValue)) → option_copied r ≡ first (is_visible key s) xs → IfNone r (HasNone xs key s)
found_none tops xs key s (Some e) is = tt
found_none tops xs key s None is = tops.none xs key s (sym is)
