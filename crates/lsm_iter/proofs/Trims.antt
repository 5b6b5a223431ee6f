-- Parts of a table that are trimmed, as the code goes over them.
use Rattle.std.proofs.Common.{◌≡◌, ℕ, zero, suc, ◌+◌, ◌-◌, ◌<◌, ◌≤◌, Bool, true, false, not, ◌&&◌, List, [], ◌∷◌, ◌++◌, length, get_or, take, drop, refl, sym, ap, ◌∙◌, subst, arith, inl, inr, append-nil, slice_range}
use Rattle.std.specs.List.{All}
use Rattle.std.specs.declared.cmp.Ordering.TheVariants.{Less}
use Rattle.std.proofs.lemmas.Bool.{and_parts, and_from, cases_eq, cases_lt, not-true, not-false}
use Rattle.std.proofs.lemmas.List.{take_more, take_all, take-take, take-append-drop, drop-drop, drop-take, get_or_read, get_or_default, get_or-take, get_or-drop, length-take-le, length-drop}
use Rattle.std.proofs.lemmas.List.Elements.{All-nil}
use Rattle.std.specs.List.Sorted.{IsPartitionedBy, IsPartitionPoint}
use Rattle.std.proofs.lemmas.Cmp.{nat_list_cmp_total, eq_by_cmp_equiv}
use Rattle.lsm_iter.proofs.Shown.{of_itself}
use Rattle.lsm_below.specs.Entries.{Entry, entry_cmp}
use Rattle.lsm_below.specs.Sorted.{Rises}
use Rattle.lsm_below.specs.Runs.{IsCut}
use Rattle.lsm_below.specs.Slots.{same_key}
use Rattle.lsm_below.specs.Laws.{EntriesAreOrdered}
use Rattle.lsm_iter.specs.Reads.{at}
use Rattle.lsm_iter.specs.Left.{tops, end_item, Takes}
use Rattle.lsm_iter.specs.Trims.{IsTrimmed, Trims, counts}
use Rattle.lsm_iter.specs.declared.tree_iter.End.TheVariants.{Front, Back}
use Rattle.lsm_iter.proofs.Tops.{apart_behind, apart_before, last_is, tops_group, one_less, many_less, same_trans, trims_back, tops_last, trimmed_front, trimmed_back}

first_there : (es : List Entry) → 0 < length es → (e : Entry) × (rest : List Entry) × (es ≡ e ∷ rest)
first_there [] h = absurd (omega arith)
first_there (e ∷ es) h = (e, es, refl)

last_there : (es : List Entry) (n : ℕ) → n + 1 ≡ length es → (x : Entry) × (es ≡ take n es ++ x ∷ [])
last_there es n is =
    let some = first_there es (omega arith) in
    (get_or es n some.0, sym (take_all (n + 1) es (omega arith)) ∙ take_more es n some.0 (omega arith))

-- where an entry's key ends
pub group_end : (entries : EntriesAreOrdered) → (es rest : List Entry) (e g f : Entry) (n : ℕ) → es ≡ e ∷ rest → Rises entry_cmp es → 0 < n → n < length es → g ≡ get_or es 0 g → f ≡ get_or es n f → same_key g f ≡ false
    → ((j : ℕ) (d : Entry) → j < n → same_key (get_or es 0 d) (get_or es j d) ≡ true) → IsCut (same_key e) es n
group_end entries es rest e g f n is rises some lt is_g is_f other alike = record {
  at_most = omega arith;
  before = λ j d j_lt. subst (λ x. same_key x (get_or es j d) ≡ true) (first d) (alike j d j_lt);
  behind = λ j d le j_lt. elim (cases_lt n j) [
    | inl up ↦ apart_behind e f (get_or es j d) (below n d some lt) (subst (λ x. entry_cmp x (get_or es j d) ≡ Less) (sym (at_n d)) (entries.rises es n j d rises up j_lt)) apart
    | inr same ↦ let here : j ≡ n = omega arith in subst (λ x. same_key e x ≡ false) (at_n d ∙ ap (λ k. get_or es k d) (sym here)) apart
  ];
}
  where
    first : (d : Entry) → get_or es 0 d ≡ e
    first d = ap (λ l. get_or l 0 d) is

    at_n : (d : Entry) → f ≡ get_or es n d
    at_n d = get_or_read es n f lt is_f d

    apart : same_key e f ≡ false
    apart = subst (λ x. same_key x f ≡ false) (is_g ∙ first g) other

    below : (k : ℕ) (d : Entry) → 0 < k → k < length es → entry_cmp e f ≡ Less
    below k d up k_lt = subst (λ x. entry_cmp x f ≡ Less) (first d) (subst (λ x. entry_cmp (get_or es 0 d) x ≡ Less) (sym (at_n d)) (entries.rises es 0 n d rises some lt))

true_unless : (b : Bool) → (b ≡ false → ⊥) → b ≡ true
true_unless true h = refl
true_unless false h = absurd (h refl)

-- an entry's key by binary search
pub group_parted : (entries : EntriesAreOrdered) → (es : List Entry) (g : Entry) → 0 < length es → Rises entry_cmp es → g ≡ get_or es 0 g → IsPartitionedBy (same_key g) es
group_parted entries es g some rises is i j d le lt same = elim (cases_eq i j) [
  | inl here ↦ subst (λ k. same_key g (get_or es k d) ≡ true) (sym here) same
  | inr apart ↦ elim (cases_lt 0 i) [
    | inl up ↦ true_unless (same_key g (get_or es i d)) (λ other.
        let bad : same_key g (get_or es j d) ≡ false = apart_behind g (get_or es i d) (get_or es j d) (subst (λ x. entry_cmp x (get_or es i d) ≡ Less) (sym (first d)) (entries.rises es 0 i d rises up (omega arith))) (entries.rises es i j d rises (omega arith) lt) other in
        let worse : true ≡ false = sym same ∙ bad in cc worse)
    | inr low ↦ let begin : i ≡ 0 = omega arith in subst (λ k. same_key g (get_or es k d) ≡ true) (sym begin) (subst (λ x. same_key g x ≡ true) (first d) (of_itself g.key.user_key))
  ]
]
  where
    first : (d : Entry) → g ≡ get_or es 0 d
    first d = get_or_read es 0 g some is d

pub group_found : (es rest : List Entry) (e g : Entry) (n : ℕ) → n ≤ length es → es ≡ e ∷ rest → g ≡ get_or es 0 g → IsPartitionPoint (λ y. same_key g y ≡ true) (λ y. same_key g y ≡ false) es n → IsCut (same_key e) es n
group_found es rest e g n le is read point =
    let first : g ≡ e = read ∙ ap (λ l. get_or l 0 g) is in
    record {
      at_most = le;
      before = λ j d lt. subst (λ x. same_key x (get_or es j d) ≡ true) first (point.0 j d (omega arith) lt);
      behind = λ j d up lt. subst (λ x. same_key x (get_or es j d) ≡ false) first (point.1 j d up lt);
    }

pub group_some : (es : List Entry) (g : Entry) (n : ℕ) → 0 < length es → g ≡ get_or es 0 g → IsPartitionPoint (λ y. same_key g y ≡ true) (λ y. same_key g y ≡ false) es n → 0 < n
group_some es g zero some read point = absurd (let bad : true ≡ false = sym (of_itself g.key.user_key) ∙ ap (same_key g) read ∙ point.1 0 g (omega arith) some in cc bad)
group_some es g (suc n) some read point = omega arith

-- a step down from j to i, and where it ends
module _ (s : ℕ) (es : List Entry) (i j : ℕ) (g x : Entry) (next : j ≡ i + 1) (lt : j < length es) (is_g : g ≡ get_or es i g) (is_x : x ≡ get_or es j x) (counted : counts s x ≡ true) (same : tops (at s (take (j + 1) es)) ≡ tops (at s es)) where
  pub place_step : (counts s g && same_key g x) ≡ true → (tops (at s (take (i + 1) es)) ≡ tops (at s es)) × ((d : Entry) → counts s (get_or es i d) ≡ true)
  place_step both =
      let parts = and_parts (counts s g) (same_key g x) both in
      let less : i + 1 < length es = omega arith in
      (sym (one_less s es i g x less is_g (subst (λ k. x ≡ get_or es k x) next is_x) parts.0 counted parts.1) ∙ ap (λ k. tops (at s (take (k + 1) es))) (sym next) ∙ same, λ d. subst (λ f. counts s f ≡ true) (get_or_read es i g (omega arith) is_g d) parts.0)

  pub place_end : (entries : EntriesAreOrdered) → Rises entry_cmp es → (counts s g && same_key g x) ≡ false → Trims Back s es (take (j + 1) es)
  place_end entries rises other = trims_back s es j x lt is_x counted apart same
    where
      at_i : (d : Entry) → g ≡ get_or es i d
      at_i d = get_or_read es i g (omega arith) is_g d

      at_j : (d : Entry) → x ≡ get_or es j d
      at_j d = get_or_read es j x lt is_x d

      one : (k : ℕ) (d : Entry) → k < j → counts s (get_or es k d) ≡ true → same_key (get_or es k d) x ≡ false
      one k d k_lt counting = elim (cases_lt k i) [
        | inl up ↦ apart_before s (get_or es k d) g x (subst (λ f. entry_cmp (get_or es k d) f ≡ Less) (sym (at_i d)) (entries.rises es k i d rises up (omega arith)))
            (subst (λ f. entry_cmp g f ≡ Less) (sym (at_j d)) (subst (λ f. entry_cmp f (get_or es j d) ≡ Less) (sym (at_i d)) (entries.rises es i j d rises (omega arith) lt))) other counting
        | inr same ↦
            let here : k ≡ i = omega arith in
            let is : get_or es k d ≡ g = ap (λ n. get_or es n d) here ∙ sym (at_i d) in
            subst (λ f. same_key f x ≡ false) (sym is) (sym (ap (λ b. b && same_key g x) (subst (λ f. counts s f ≡ true) is counting)) ∙ other)
      ]

      apart : All (λ f. counts s f ≡ true → same_key f x ≡ false) (take j es)
      apart k d k_lt counting =
          let k_j : k < j = omega (arith, length-take-le j es (omega arith)) in
          let is : get_or (take j es) k d ≡ get_or es k d = get_or-take j es k d k_j in
          subst (λ f. same_key f x ≡ false) (sym is) (one k d k_j (subst (λ f. counts s f ≡ true) is counting))

same_back : (e f : Entry) → same_key e f ≡ true → same_key f e ≡ true
same_back e f h = (eq_by_cmp_equiv nat_list_cmp_total).symm f.key.user_key e.key.user_key ∙ h

module _ (s : ℕ) (es : List Entry) (x : Entry) where
  -- the place by binary search: where entries begin that count and have the key of the last one
  abbrev pub goes_before : Entry → Bool
  goes_before e = not (counts s e && same_key e x)

  pub place_parted : (entries : EntriesAreOrdered) (n : ℕ) → n + 1 ≡ length es → Rises entry_cmp es → x ≡ get_or es n x → counts s x ≡ true → IsPartitionedBy goes_before es
  place_parted entries n one rises is counted i j d le lt passes = elim (cases_eq i j) [
    | inl here ↦ subst (λ k. goes_before (get_or es k d) ≡ true) (sym here) passes
    | inr apart ↦ elim (cases_eq j n) [
      | inl last ↦ absurd (let at_last : x ≡ get_or es j d = get_or_read es n x (omega arith) is d ∙ ap (λ k. get_or es k d) (sym last) in
          let bad : true ≡ false = sym (and_from (counts s x) (same_key x x) counted (of_itself x.key.user_key)) ∙ not-true (counts s x && same_key x x) (subst (λ e. goes_before e ≡ true) (sym at_last) passes) in cc bad)
      | inr inner ↦ earlier (get_or es i d) (get_or es j d) (entries.rises es i j d rises (omega arith) lt)
          (subst (λ e. entry_cmp (get_or es j d) e ≡ Less) (sym (get_or_read es n x (omega arith) is d)) (entries.rises es j n d rises (omega arith) (omega arith))) (not-true (counts s (get_or es j d) && same_key (get_or es j d) x) passes)
    ]
  ]
    where
      earlier : (e f : Entry) → entry_cmp e f ≡ Less → entry_cmp f x ≡ Less → (counts s f && same_key f x) ≡ false → goes_before e ≡ true
      earlier e f a b other = go (counts s e) refl
        where
          go : (c : Bool) → counts s e ≡ c → not (c && same_key e x) ≡ true
          go true yes_counts = ap not (apart_before s e f x a b other yes_counts)
          go false hidden = refl

  pub place_inside : (n p : ℕ) → n + 1 ≡ length es → p ≤ length es → x ≡ get_or es n x → counts s x ≡ true → IsPartitionPoint (λ y. goes_before y ≡ true) (λ y. goes_before y ≡ false) es p → p < length es
  place_inside n p one le is counted point = elim (cases_lt p (length es)) [
    | inl lt ↦ lt
    | inr past ↦ absurd (
        let bad : true ≡ false = sym (and_from (counts s x) (same_key x x) counted (of_itself x.key.user_key)) ∙ not-true (counts s x && same_key x x) (subst (λ e. goes_before e ≡ true) (sym is) (point.0 n x (omega arith) (omega arith))) in cc bad)
  ]

  pub place_found : (p : ℕ) → p < length es → IsPartitionPoint (λ y. goes_before y ≡ true) (λ y. goes_before y ≡ false) es p → Trims Back s es (take (p + 1) es)
  place_found p lt point = trims_back s es p g lt is (here p x (omega arith) lt).0 apart (many_less s es p g lt is (here p x (omega arith) lt).0 all same)
    where
      g : Entry
      g = get_or es p x

      is : g ≡ get_or es p g
      is = get_or_default es p x g lt

      here : (k : ℕ) (d : Entry) → p ≤ k → k < length es → (counts s (get_or es k d) ≡ true) × (same_key (get_or es k d) x ≡ true)
      here k d le k_lt = and_parts (counts s (get_or es k d)) (same_key (get_or es k d) x) (not-false (counts s (get_or es k d) && same_key (get_or es k d) x) (point.1 k d le k_lt))

      all : All (λ f. counts s f ≡ true) (drop (p + 1) es)
      all k d k_lt = let up : p + 1 + k < length es = omega (arith, length-drop (p + 1) es) in subst (λ f. counts s f ≡ true) (sym (get_or-drop (p + 1) es k d)) (here (p + 1 + k) d (omega arith) up).0

      same : All (λ f. same_key g f ≡ true) (drop (p + 1) es)
      same k d k_lt = let up : p + 1 + k < length es = omega (arith, length-drop (p + 1) es) in
          subst (λ f. same_key g f ≡ true) (sym (get_or-drop (p + 1) es k d))
          (same_trans g x (get_or es (p + 1 + k) d) (here p x (omega arith) lt).1 (same_back (get_or es (p + 1 + k) d) x (here (p + 1 + k) d (omega arith) up).1))

      not_same : (f : Entry) → goes_before f ≡ true → counts s f ≡ true → same_key f g ≡ false
      not_same f passes counting = go (same_key f g) refl
        where
          go : (b : Bool) → same_key f g ≡ b → b ≡ false
          go true alike = absurd (let bad : true ≡ false = sym (and_from (counts s f) (same_key f x) counting (same_trans f g x alike (here p x (omega arith) lt).1)) ∙ not-true (counts s f && same_key f x) passes in cc bad)
          go false alike = refl

      apart : All (λ f. counts s f ≡ true → same_key f g ≡ false) (take p es)
      apart k d k_lt =
          let k_p : k < p = omega (arith, length-take-le p es (omega arith)) in
          subst (λ f. counts s f ≡ true → same_key f g ≡ false) (sym (get_or-take p es k d k_p)) (not_same (get_or es k d) (point.0 k d (omega arith) k_p))

pub place_first : (s : ℕ) (es : List Entry) (i : ℕ) → i ≤ 0 → i < length es → ((d : Entry) → counts s (get_or es i d) ≡ true) → tops (at s (take (i + 1) es)) ≡ tops (at s es) → Trims Back s es (take (i + 1) es)
place_first s [] i le lt counted same = absurd (omega arith)
place_first s (e ∷ es) zero le lt counted same = trims_back s (e ∷ es) 0 e (omega arith) refl (counted e) (All-nil (λ f. counts s f ≡ true → same_key f e ≡ false)) same
place_first s (e ∷ es) (suc i) le lt counted same = absurd (omega arith)

pub takes_front : (es t : List Entry) (e : Entry) → es ≡ e ∷ t → Takes Front es (end_item Front es) t
takes_front es t e is = subst (λ l. Takes Front l (end_item Front l) t) (sym is) refl

pub takes_back : (es t : List Entry) (e : Entry) → es ≡ t ++ e ∷ [] → Takes Back es (end_item Back es) t
takes_back es t e is = subst (λ o. Takes Back es o t) (sym (last_is es t e is)) is

-- past the first key, and what doesn't count after it
pub front_past : (s : ℕ) (es : List Entry) (g h : ℕ) → 0 < length es → IsTrimmed s es → 0 < g → ((e : Entry) (rest : List Entry) → es ≡ e ∷ rest → IsCut (same_key e) es g) → Trims Front s (drop g es) (drop h (drop g es))
    → Takes Front (tops (at s es)) (end_item Front (tops (at s es))) (tops (at s (drop (g + h) es))) × IsTrimmed s (drop (g + h) es)
front_past s es g h some trimmed up cut trims =
    let first = first_there es some in
    let is : drop h (drop g es) ≡ drop (g + h) es = drop-drop h g es in
    let taken : tops (at s es) ≡ first.0 ∷ tops (at s (drop (g + h) es)) =
    tops_group s first.0 es first.1 g first.2 (cut first.0 first.1 first.2) up trimmed ∙ ap (λ l. first.0 ∷ l) (sym trims.same ∙ ap (λ l. tops (at s l)) is) in (
      takes_front (tops (at s es)) (tops (at s (drop (g + h) es))) first.0 taken,
      trimmed_front s es (take (g + h) es) (drop (g + h) es) (first.0 ∷ []) (sym (take-append-drop (g + h) es)) taken trimmed (subst (λ l. end_item Front (tops (at s l)) ≡ end_item Front l) is trims.ends),
    )

-- without the last entry, and what isn't left then
pub back_past : (s : ℕ) (es : List Entry) (n r : ℕ) → n + 1 ≡ length es → r ≤ n → Rises entry_cmp es → IsTrimmed s es → Trims Back s (take n es) (take r (take n es))
    → Takes Back (tops (at s es)) (end_item Back (tops (at s es))) (tops (at s (take r es))) × IsTrimmed s (take r es)
back_past s es n r one le rises trimmed trims =
    let last = last_there es n one in
    let is : take r (take n es) ≡ take r es = take-take r n es le in
    let taken : tops (at s es) ≡ tops (at s (take r es)) ++ last.0 ∷ [] =
    tops_last s es (take n es) last.0 last.1 rises trimmed ∙ ap (λ l. l ++ last.0 ∷ []) (sym trims.same ∙ ap (λ l. tops (at s l)) is) in (
      takes_back (tops (at s es)) (tops (at s (take r es))) last.0 taken,
      trimmed_back s es (drop r es) (take r es) (last.0 ∷ []) (sym (take-append-drop r es)) taken (trimmed Front) (subst (λ l. end_item Back (tops (at s l)) ≡ end_item Back l) is trims.ends),
    )

-- ---- parts of a table

range_drop : (es : List Entry) (low high n : ℕ) → low + n ≤ high → drop n (slice_range es low high) ≡ slice_range es (low + n) high
range_drop es low high n le =
    let size : high - low ≡ n + (high - (low + n)) = omega arith in
    ap (λ m. drop n (take m (drop low es))) size ∙ drop-take n (high - (low + n)) (drop low es) ∙ ap (take (high - (low + n))) (drop-drop n low es)

range_take : (es : List Entry) (low high n : ℕ) → low + n ≤ high → take n (slice_range es low high) ≡ slice_range es low (low + n)
range_take es low high n le =
    let size : n ≡ low + n - low = omega arith in
    take-take n (high - low) (drop low es) (omega arith) ∙ ap (λ m. take m (drop low es)) size

length_range : (es : List Entry) (low high : ℕ) → high ≤ length es → length (slice_range es low high) ≡ high - low
length_range es low high le = length-take-le (high - low) (drop low es) (omega (arith, length-drop low es))

-- the lower place goes up
pub low_moved : (s : ℕ) (es seen : List Entry) (low high n : ℕ) → seen ≡ es → low ≤ high → high ≤ length es → n ≤ length (slice_range seen low high)
    → Takes Front (tops (at s (slice_range seen low high))) (end_item Front (tops (at s (slice_range seen low high)))) (tops (at s (drop n (slice_range seen low high)))) → IsTrimmed s (drop n (slice_range seen low high))
    → (low + n ≤ high) × Takes Front (tops (at s (slice_range es low high))) (end_item Front (tops (at s (slice_range es low high)))) (tops (at s (slice_range es (low + n) high))) × IsTrimmed s (slice_range es (low + n) high)
low_moved s es seen low high n is le inside short takes trimmed =
    let fits : low + n ≤ high = omega (arith, length_range seen low high (omega (arith, ap length is))) in
    let past : drop n (slice_range seen low high) ≡ slice_range es (low + n) high = range_drop seen low high n fits ∙ ap (λ l. slice_range l (low + n) high) is in (
      fits,
      subst (λ l. Takes Front (tops (at s (slice_range l low high))) (end_item Front (tops (at s (slice_range l low high)))) (tops (at s (slice_range es (low + n) high)))) is
          (subst (λ l. Takes Front (tops (at s (slice_range seen low high))) (end_item Front (tops (at s (slice_range seen low high)))) (tops (at s l))) past takes),
      subst (IsTrimmed s) past trimmed,
    )

-- a part of a table, trimmed at the front and then at the back
trimmed_part : (s : ℕ) (es : List Entry) (low end h r : ℕ) → low + h + r ≤ end → Trims Front s (slice_range es low end) (drop h (slice_range es low end)) → Trims Back s (slice_range es (low + h) end) (take r (slice_range es (low + h) end))
    → (tops (at s (slice_range es (low + h) (low + h + r))) ≡ tops (at s (slice_range es low end))) × IsTrimmed s (slice_range es (low + h) (low + h + r))
trimmed_part s es low end h r le front back =
    let first : drop h (slice_range es low end) ≡ slice_range es (low + h) end = range_drop es low end h (omega arith) in
    let part : take r (slice_range es (low + h) end) ≡ slice_range es (low + h) (low + h + r) = range_take es (low + h) end r le in
    let mid = slice_range es (low + h) end in
    let out = slice_range es (low + h) (low + h + r) in
    let same : tops (at s out) ≡ tops (at s mid) = sym (ap (λ l. tops (at s l)) part) ∙ back.same in (
      same ∙ sym (ap (λ l. tops (at s l)) first) ∙ front.same,
      trimmed_back s mid (drop r mid) out [] (sym (take-append-drop r mid) ∙ ap (λ l. l ++ drop r mid) part) (sym same ∙ sym (append-nil (tops (at s out))))
          (subst (λ l. end_item Front (tops (at s l)) ≡ end_item Front l) first front.ends) (subst (λ l. end_item Back (tops (at s l)) ≡ end_item Back l) part back.ends),
    )

-- the part of a table that was found for bounds: h entries at its front don't count, and r are left of the others
module _ (s : ℕ) (es all part : List Entry) (low end h r : ℕ) (is : es ≡ all) (in_order : low ≤ end) (ends_in : end ≤ length all) (within : slice_range all low end ≡ part) (hidden : h ≤ length (slice_range es low end)) (left : r ≤ length (slice_range es (low + h) end)) (front : Trims Front s (slice_range es low end) (drop h (slice_range es low end))) (back : Trims Back s (slice_range es (low + h) end) (take r (slice_range es (low + h) end))) where
  inside : end ≤ length es
  inside = omega (arith, ap length is, ends_in)

  fits : low + h + r ≤ end
  fits = omega (arith, in_order, hidden, left, length_range es low end inside, length_range es (low + h) end inside)

  pub found_inside : low + h + r ≤ length all
  found_inside = omega (arith, fits, ends_in)

  pub found_trimmed : IsTrimmed s (slice_range es (low + h) (low + h + r))
  found_trimmed = (trimmed_part s es low end h r fits front back).1

  pub found_tops : tops (at s (slice_range es (low + h) (low + h + r))) ≡ tops (at s part)
  found_tops = (trimmed_part s es low end h r fits front back).0 ∙ ap (λ l. tops (at s l)) (ap (λ l. slice_range l low end) is ∙ within)
