-- What a walk over a list in order keeps of each key.
use Rattle.std.proofs.Common.{◌≡◌, ℕ, ◌<◌, ◌≤◌, Bool, true, false, cond, not, ◌&&◌, List, [], ◌∷◌, ◌++◌, filter, length, refl, sym, ap, ◌∙◌, subst, arith, nat_eq, nat_lt, Option, Some, None, IfNone}
use Rattle.std.specs.List.{AllByRecursion}
use Rattle.std.specs.Ordering.{is_le}
use Rattle.std.proofs.lemmas.List.{append-nil}
use Rattle.std.proofs.lemmas.Bool.Decides.{nat_tests}
use Rattle.lsm_below.specs.declared.value.InternalValue.{InternalValue}
use Rattle.lsm_below.specs.Entries.{entry_cmp, stack, keep}
use Rattle.lsm_below.specs.Streams.{IsInOrder, IsByKey, is_of, distinct, keep_distinct, unless, goes_alone, goes_with, first_of, Compacting}
use Rattle.std.proofs.lemmas.Bool.{lt-ltb, le-ltb}
use Rattle.lsm_below.specs.Slots.{rest_of, all_of, same_key, is_repeat, past, changes, firsts, kept_from, compacted}
use Rattle.lsm_below.specs.Each.{each_append, each_weaker, each_filter}
use Rattle.lsm_below.specs.FilterLaws.{filter_none, filter_all, filter_twice}
use Rattle.lsm_below.proofs.OneKey.{same_of, none_later, number_falls, stack_falls}

-- ---- equal sequence numbers

each_distinct : (P : InternalValue → Type 0) (es : List InternalValue) → AllByRecursion P es → AllByRecursion P (distinct es)
each_distinct P [] h = tt
each_distinct P (e ∷ es) h = (h.0, each_filter P (λ f. not (nat_eq e.key.seqno f.key.seqno)) (distinct es) (each_distinct P es h.1))

eq_from : (m n : ℕ) → nat_eq m n ≡ true → m ≡ n
eq_from m n h = grind (arith, nat_tests)

distinct_repeat : (e f : InternalValue) (es : List InternalValue) → nat_eq e.key.seqno f.key.seqno ≡ true → distinct (e ∷ (f ∷ es)) ≡ distinct (e ∷ es)
distinct_repeat e f es h =
    let n = eq_from e.key.seqno f.key.seqno h in
    ap (λ b. e ∷ cond (not b) (f ∷ filter (λ g. not (nat_eq e.key.seqno g.key.seqno)) (filter (λ g. not (nat_eq f.key.seqno g.key.seqno)) (distinct es))) (filter (λ g. not (nat_eq e.key.seqno g.key.seqno)) (filter (λ g. not (nat_eq f.key.seqno g.key.seqno)) (distinct es)))) h
    ∙ ap (λ m. e ∷ filter (λ g. not (nat_eq e.key.seqno g.key.seqno)) (filter (λ g. not (nat_eq m g.key.seqno)) (distinct es))) (sym n)
    ∙ ap (λ l. e ∷ l) (filter_twice (λ g. not (nat_eq e.key.seqno g.key.seqno)) (distinct es))

pub differs : (m n : ℕ) → n < m → not (nat_eq m n) ≡ true
differs m n h = grind (arith, nat_tests)

distinct_falls : (e f : InternalValue) (es : List InternalValue) → f.key.seqno < e.key.seqno → AllByRecursion (λ g. g.key.seqno ≤ f.key.seqno) es → distinct (e ∷ (f ∷ es)) ≡ e ∷ distinct (f ∷ es)
distinct_falls e f es lt h =
    ap (λ l. e ∷ l) (filter_all (λ g. not (nat_eq e.key.seqno g.key.seqno)) (distinct (f ∷ es))
    (each_weaker (λ g. g.key.seqno < e.key.seqno) (λ g. not (nat_eq e.key.seqno g.key.seqno) ≡ true) (λ g l. differs e.key.seqno g.key.seqno l) (distinct (f ∷ es))
    (each_distinct (λ g. g.key.seqno < e.key.seqno) (f ∷ es) (lt, each_weaker (λ g. g.key.seqno ≤ f.key.seqno) (λ g. g.key.seqno < e.key.seqno) (λ g l. omega arith) es h))))

strictly : (m n : ℕ) → n ≤ m → nat_eq m n ≡ false → n < m
strictly m n le h = grind (arith, nat_tests)

-- ---- a compaction

each_unless : (P : InternalValue → Type 0) (b : Bool) (e : InternalValue) → P e → AllByRecursion P (unless b e)
each_unless P true e h = tt
each_unless P false e h = (h, tt)

module _ (w : ℕ) (v : Bool) where
  each_kept : (P : InternalValue → Type 0) (p : Bool) (e : InternalValue) (es : List InternalValue) → AllByRecursion P (e ∷ es) → AllByRecursion P (kept_from w v p e es)
  each_kept P true e [] h = tt
  each_kept P false e [] h = each_unless P (goes_alone v e) e h.0
  each_kept P p e (f ∷ es) h =
      elim (same_key e f) as (λ b. AllByRecursion P (cond b (cond p (kept_from w v true e es) (cond (nat_eq e.key.seqno f.key.seqno) (kept_from w v false e es) (cond (nat_lt f.key.seqno w) (unless (goes_with v e f) e ++ kept_from w v true f es) (e ∷ kept_from w v false f es)))) (cond p [] (unless (goes_alone v e) e) ++ kept_from w v false f es))) [
        | true ↦ elim p as (λ p. AllByRecursion P (cond p (kept_from w v true e es) (cond (nat_eq e.key.seqno f.key.seqno) (kept_from w v false e es) (cond (nat_lt f.key.seqno w) (unless (goes_with v e f) e ++ kept_from w v true f es) (e ∷ kept_from w v false f es))))) [
          | true ↦ each_kept P true e es (h.0, h.1.1)
          | false ↦ elim (nat_eq e.key.seqno f.key.seqno) as (λ b. AllByRecursion P (cond b (kept_from w v false e es) (cond (nat_lt f.key.seqno w) (unless (goes_with v e f) e ++ kept_from w v true f es) (e ∷ kept_from w v false f es)))) [
            | true ↦ each_kept P false e es (h.0, h.1.1)
            | false ↦ elim (nat_lt f.key.seqno w) as (λ b. AllByRecursion P (cond b (unless (goes_with v e f) e ++ kept_from w v true f es) (e ∷ kept_from w v false f es))) [
              | true ↦ each_append P (unless (goes_with v e f) e) (kept_from w v true f es) (each_unless P (goes_with v e f) e h.0) (each_kept P true f es h.1)
              | false ↦ (h.0, each_kept P false f es h.1)
            ]
          ]
        ]
        | false ↦ each_append P (cond p [] (unless (goes_alone v e) e)) (kept_from w v false f es)
            (elim p as (λ p. AllByRecursion P (cond p [] (unless (goes_alone v e) e))) [ true ↦ tt | false ↦ each_unless P (goes_alone v e) e h.0 ])
            (each_kept P false f es h.1)
      ]

  unless_first : (b : Bool) (e : InternalValue) (es : List InternalValue) → AllByRecursion (λ g. is_le (entry_cmp e g) ≡ true) es → IsInOrder es → IsInOrder (unless b e ++ es)
  unless_first true e es h k = k
  unless_first false e es h k = (h, k)

  ascends_kept : (p : Bool) (e : InternalValue) (es : List InternalValue) → IsInOrder (e ∷ es) → IsInOrder (kept_from w v p e es)
  ascends_kept true e [] h = tt
  ascends_kept false e [] h = elim (goes_alone v e) as (λ b. IsInOrder (unless b e)) [ true ↦ tt | false ↦ (tt, tt) ]
  ascends_kept p e (f ∷ es) h =
      let below_f = λ (p : Bool). each_kept (λ g. is_le (entry_cmp e g) ≡ true) p f es h.0 in
      elim (same_key e f) as (λ b. IsInOrder (cond b (cond p (kept_from w v true e es) (cond (nat_eq e.key.seqno f.key.seqno) (kept_from w v false e es) (cond (nat_lt f.key.seqno w) (unless (goes_with v e f) e ++ kept_from w v true f es) (e ∷ kept_from w v false f es)))) (cond p [] (unless (goes_alone v e) e) ++ kept_from w v false f es))) [
        | true ↦ elim p as (λ p. IsInOrder (cond p (kept_from w v true e es) (cond (nat_eq e.key.seqno f.key.seqno) (kept_from w v false e es) (cond (nat_lt f.key.seqno w) (unless (goes_with v e f) e ++ kept_from w v true f es) (e ∷ kept_from w v false f es))))) [
          | true ↦ ascends_kept true e es (h.0.1, h.1.1)
          | false ↦ elim (nat_eq e.key.seqno f.key.seqno) as (λ b. IsInOrder (cond b (kept_from w v false e es) (cond (nat_lt f.key.seqno w) (unless (goes_with v e f) e ++ kept_from w v true f es) (e ∷ kept_from w v false f es)))) [
            | true ↦ ascends_kept false e es (h.0.1, h.1.1)
            | false ↦ elim (nat_lt f.key.seqno w) as (λ b. IsInOrder (cond b (unless (goes_with v e f) e ++ kept_from w v true f es) (e ∷ kept_from w v false f es))) [
              | true ↦ unless_first (goes_with v e f) e (kept_from w v true f es) (below_f true) (ascends_kept true f es h.1)
              | false ↦ (below_f false, ascends_kept false f es h.1)
            ]
          ]
        ]
        | false ↦ elim p as (λ p. IsInOrder (cond p [] (unless (goes_alone v e) e) ++ kept_from w v false f es)) [
          | true ↦ ascends_kept false f es h.1
          | false ↦ unless_first (goes_alone v e) e (kept_from w v false f es) (below_f false) (ascends_kept false f es h.1)
        ]
      ]

  module _ (k : List ℕ) where
    stack_unless : (b : Bool) (e : InternalValue) (es : List InternalValue) → is_of k e ≡ true → stack k es ≡ [] → stack k (unless b e ++ es) ≡ unless b e
    stack_unless true e es ke h = h
    stack_unless false e es ke h = ap (λ b. cond b (e ∷ stack k es) (stack k es)) ke ∙ ap (λ l. e ∷ l) h

    stack_not : (b : Bool) (e : InternalValue) (es : List InternalValue) → is_of k e ≡ false → stack k (unless b e ++ es) ≡ stack k es
    stack_not true e es ke = refl
    stack_not false e es ke = ap (λ b. cond b (e ∷ stack k es) (stack k es)) ke

    none_kept : (p : Bool) (e : InternalValue) (es : List InternalValue) → AllByRecursion (λ g. is_of k g ≡ false) (e ∷ es) → stack k (kept_from w v p e es) ≡ []
    none_kept p e es h = filter_none (is_of k) (kept_from w v p e es) (each_kept (λ g. is_of k g ≡ false) p e es h)

    -- past the entry that stands for the rest of its key
    passing : (e : InternalValue) (es : List InternalValue) → IsInOrder (e ∷ es) → is_of k e ≡ true → stack k (kept_from w v true e es) ≡ []
    passing e [] h ke = refl
    passing e (f ∷ es) h ke = elim (same_key e f) as (λ b. same_key e f ≡ b → stack k (cond b (kept_from w v true e es) ([] ++ kept_from w v false f es)) ≡ []) [
      | true ↦ λ q. passing e es (h.0.1, h.1.1) ke
      | false ↦ λ q. none_kept false f es (none_later k e f es ke q h)
    ] refl

    of_key : (e : InternalValue) (es : List InternalValue) → IsInOrder (e ∷ es) → is_of k e ≡ true → stack k (kept_from w v false e es) ≡ keep w v (distinct (e ∷ stack k es))
    of_key e [] h ke = ap (λ l. stack k l) (sym (append-nil (unless (goes_alone v e) e))) ∙ stack_unless (goes_alone v e) e [] ke refl
    of_key e (f ∷ es) h ke =
        elim (same_key e f) as (λ b. same_key e f ≡ b → stack k (cond b (cond (nat_eq e.key.seqno f.key.seqno) (kept_from w v false e es) (cond (nat_lt f.key.seqno w) (unless (goes_with v e f) e ++ kept_from w v true f es) (e ∷ kept_from w v false f es))) (unless (goes_alone v e) e ++ kept_from w v false f es)) ≡ keep w v (distinct (e ∷ stack k (f ∷ es)))) [
          | true ↦ λ q.
              let kf : is_of k f ≡ true = same_of k e f q ∙ ke in
              let both : stack k (f ∷ es) ≡ f ∷ stack k es = ap (λ b. cond b (f ∷ stack k es) (stack k es)) kf in
              let lower : AllByRecursion (λ g. g.key.seqno ≤ f.key.seqno) (stack k es) = stack_falls k f es kf h.1.0 in
              elim (nat_eq e.key.seqno f.key.seqno) as (λ b. nat_eq e.key.seqno f.key.seqno ≡ b → stack k (cond b (kept_from w v false e es) (cond (nat_lt f.key.seqno w) (unless (goes_with v e f) e ++ kept_from w v true f es) (e ∷ kept_from w v false f es))) ≡ keep w v (distinct (e ∷ stack k (f ∷ es)))) [
                | true ↦ λ n. of_key e es (h.0.1, h.1.1) ke ∙ ap (keep w v) (sym (distinct_repeat e f (stack k es) n)) ∙ ap (λ l. keep w v (distinct (e ∷ l))) (sym both)
                | false ↦ λ n.
                    let lt : f.key.seqno < e.key.seqno = strictly e.key.seqno f.key.seqno (number_falls e f q h.0.0) n in
                    let split : keep w v (distinct (e ∷ stack k (f ∷ es))) ≡ keep w v (e ∷ distinct (f ∷ stack k es)) = ap (λ l. keep w v (distinct (e ∷ l))) both ∙ ap (keep w v) (distinct_falls e f (stack k es) lt lower) in
                    elim (nat_lt f.key.seqno w) as (λ b. nat_lt f.key.seqno w ≡ b → stack k (cond b (unless (goes_with v e f) e ++ kept_from w v true f es) (e ∷ kept_from w v false f es)) ≡ keep w v (distinct (e ∷ stack k (f ∷ es)))) [
                      | true ↦ λ l. stack_unless (goes_with v e f) e (kept_from w v true f es) ke (passing f es h.1 kf)
                          ∙ sym (split ∙ ap (λ b. cond b (unless (goes_with v e f) e) (e ∷ keep w v (distinct (f ∷ stack k es)))) l)
                      | false ↦ λ l. ap (λ b. cond b (e ∷ stack k (kept_from w v false f es)) (stack k (kept_from w v false f es))) ke ∙ ap (λ r. e ∷ r) (of_key f es h.1 kf)
                          ∙ sym (split ∙ ap (λ b. cond b (unless (goes_with v e f) e) (e ∷ keep w v (distinct (f ∷ stack k es)))) l)
                    ] refl
              ] refl
          | false ↦ λ q.
              let others = none_later k e f es ke q h in
              stack_unless (goes_alone v e) e (kept_from w v false f es) ke (none_kept false f es others)
              ∙ ap (λ l. keep w v (distinct (e ∷ l))) (sym (filter_none (is_of k) (f ∷ es) others))
        ] refl

    of_others : (p : Bool) (e : InternalValue) (es : List InternalValue) → IsInOrder (e ∷ es) → is_of k e ≡ false → stack k (kept_from w v p e es) ≡ keep w v (distinct (stack k es))
    of_others true e [] h ke = refl
    of_others false e [] h ke = ap (λ l. stack k l) (sym (append-nil (unless (goes_alone v e) e))) ∙ stack_not (goes_alone v e) e [] ke
    of_others p e (f ∷ es) h ke =
        elim (same_key e f) as (λ b. same_key e f ≡ b → stack k (cond b (cond p (kept_from w v true e es) (cond (nat_eq e.key.seqno f.key.seqno) (kept_from w v false e es) (cond (nat_lt f.key.seqno w) (unless (goes_with v e f) e ++ kept_from w v true f es) (e ∷ kept_from w v false f es)))) (cond p [] (unless (goes_alone v e) e) ++ kept_from w v false f es)) ≡ keep w v (distinct (stack k (f ∷ es)))) [
          | true ↦ λ q.
              let kf : is_of k f ≡ false = same_of k e f q ∙ ke in
              let skip : keep w v (distinct (stack k es)) ≡ keep w v (distinct (stack k (f ∷ es))) = ap (λ b. keep w v (distinct (cond b (f ∷ stack k es) (stack k es)))) (sym kf) in
              elim p as (λ p. stack k (cond p (kept_from w v true e es) (cond (nat_eq e.key.seqno f.key.seqno) (kept_from w v false e es) (cond (nat_lt f.key.seqno w) (unless (goes_with v e f) e ++ kept_from w v true f es) (e ∷ kept_from w v false f es)))) ≡ keep w v (distinct (stack k (f ∷ es)))) [
                | true ↦ of_others true e es (h.0.1, h.1.1) ke ∙ skip
                | false ↦ elim (nat_eq e.key.seqno f.key.seqno) as (λ b. stack k (cond b (kept_from w v false e es) (cond (nat_lt f.key.seqno w) (unless (goes_with v e f) e ++ kept_from w v true f es) (e ∷ kept_from w v false f es))) ≡ keep w v (distinct (stack k (f ∷ es)))) [
                  | true ↦ of_others false e es (h.0.1, h.1.1) ke ∙ skip
                  | false ↦ elim (nat_lt f.key.seqno w) as (λ b. stack k (cond b (unless (goes_with v e f) e ++ kept_from w v true f es) (e ∷ kept_from w v false f es)) ≡ keep w v (distinct (stack k (f ∷ es)))) [
                    | true ↦ stack_not (goes_with v e f) e (kept_from w v true f es) ke ∙ of_others true f es h.1 kf ∙ skip
                    | false ↦ ap (λ b. cond b (e ∷ stack k (kept_from w v false f es)) (stack k (kept_from w v false f es))) ke ∙ of_others false f es h.1 kf ∙ skip
                  ]
                ]
              ]
          | false ↦ λ q.
              let drop_e : stack k (cond p [] (unless (goes_alone v e) e) ++ kept_from w v false f es) ≡ stack k (kept_from w v false f es) = elim p as (λ p. stack k (cond p [] (unless (goes_alone v e) e) ++ kept_from w v false f es) ≡ stack k (kept_from w v false f es)) [ true ↦ refl | false ↦ stack_not (goes_alone v e) e (kept_from w v false f es) ke ] in
              drop_e ∙ (elim (is_of k f) as (λ b. is_of k f ≡ b → stack k (kept_from w v false f es) ≡ keep w v (distinct (cond b (f ∷ stack k es) (stack k es)))) [
                | true ↦ λ kf. of_key f es h.1 kf
                | false ↦ λ kf. of_others false f es h.1 kf
              ] refl)
        ] refl

  stacks_kept : (es : List InternalValue) → IsInOrder es → (k : List ℕ) → stack k (compacted w v es) ≡ keep_distinct w v (stack k es)
  stacks_kept [] h k = refl
  stacks_kept (e ∷ es) h k =
      elim (is_of k e) as (λ b. is_of k e ≡ b → stack k (kept_from w v false e es) ≡ keep w v (distinct (cond b (e ∷ stack k es) (stack k es)))) [
        | true ↦ λ q. of_key k e es h q
        | false ↦ λ q. of_others k false e es h q
      ] refl

  order_kept : (es : List InternalValue) → IsInOrder es → IsInOrder (compacted w v es)
  order_kept [] h = tt
  order_kept (e ∷ es) h = ascends_kept false e es h

  pub compacts : (es : List InternalValue) → IsInOrder es → IsByKey (keep_distinct w v) es (compacted w v es)
  compacts es h = record { in_order = order_kept es h; stacks = stacks_kept es h }

  -- ---- one step of it

  passed : (f : InternalValue) (es : List InternalValue) → kept_from w v true f es ≡ compacted w v (past false f es)
  passed f [] = refl
  passed f (g ∷ es) = elim (same_key f g) as (λ b. cond b (kept_from w v true f es) ([] ++ kept_from w v false g es) ≡ compacted w v (cond (b && true) (past false f es) (g ∷ es))) [
    | true ↦ passed f es
    | false ↦ refl
  ]

  abbrev after : InternalValue → List InternalValue → List InternalValue
  after e [] = unless (goes_alone v e) e
  after e (f ∷ es) = cond (same_key e f) (cond (nat_lt f.key.seqno w) (unless (goes_with v e f) e ++ compacted w v (past false f es)) (e ∷ kept_from w v false f es)) (unless (goes_alone v e) e ++ kept_from w v false f es)

  judged : (e : InternalValue) (es : List InternalValue) → kept_from w v false e es ≡ after e (past true e es)
  judged e [] = refl
  judged e (f ∷ es) =
      let fold_true : kept_from w v true f es ≡ compacted w v (past false f es) = passed f es in
      elim (same_key e f) as (λ b. same_key e f ≡ b → cond b (cond (nat_eq e.key.seqno f.key.seqno) (kept_from w v false e es) (cond (nat_lt f.key.seqno w) (unless (goes_with v e f) e ++ kept_from w v true f es) (e ∷ kept_from w v false f es))) (unless (goes_alone v e) e ++ kept_from w v false f es) ≡ after e (cond (b && nat_eq e.key.seqno f.key.seqno) (past true e es) (f ∷ es))) [
        | true ↦ λ q. elim (nat_eq e.key.seqno f.key.seqno) as (λ b. cond b (kept_from w v false e es) (cond (nat_lt f.key.seqno w) (unless (goes_with v e f) e ++ kept_from w v true f es) (e ∷ kept_from w v false f es)) ≡ after e (cond b (past true e es) (f ∷ es))) [
          | true ↦ judged e es
          | false ↦ ap (λ l. cond (nat_lt f.key.seqno w) (unless (goes_with v e f) e ++ l) (e ∷ kept_from w v false f es)) fold_true
              ∙ ap (λ b. cond b (cond (nat_lt f.key.seqno w) (unless (goes_with v e f) e ++ compacted w v (past false f es)) (e ∷ kept_from w v false f es)) (unless (goes_alone v e) e ++ kept_from w v false f es)) (sym q)
        ]
        | false ↦ λ q. ap (λ b. cond b (cond (nat_lt f.key.seqno w) (unless (goes_with v e f) e ++ compacted w v (past false f es)) (e ∷ kept_from w v false f es)) (unless (goes_alone v e) e ++ kept_from w v false f es)) (sym q)
      ] refl

  pub judged_end : (e : InternalValue) (es rest : List InternalValue) → rest ≡ past true e es → rest ≡ [] → kept_from w v false e es ≡ unless (goes_alone v e) e ++ compacted w v rest
  judged_end e es rest is none = judged e es ∙ ap (after e) (sym is ∙ none) ∙ sym (append-nil (unless (goes_alone v e) e)) ∙ ap (λ l. unless (goes_alone v e) e ++ compacted w v l) (sym none)

  pub judged_other : (e f : InternalValue) (es rest : List InternalValue) → f ∷ rest ≡ past true e es → same_key e f ≡ false → kept_from w v false e es ≡ unless (goes_alone v e) e ++ compacted w v (f ∷ rest)
  judged_other e f es rest is q =
      judged e es ∙ ap (after e) (sym is) ∙ ap (λ b. cond b (cond (nat_lt f.key.seqno w) (unless (goes_with v e f) e ++ compacted w v (past false f rest)) (e ∷ kept_from w v false f rest)) (unless (goes_alone v e) e ++ kept_from w v false f rest)) q

  pub judged_below : (e f : InternalValue) (es rest next : List InternalValue) → f ∷ rest ≡ past true e es → same_key e f ≡ true → nat_lt f.key.seqno w ≡ true → next ≡ past false f rest → kept_from w v false e es ≡ unless (goes_with v e f) e ++ compacted w v next
  judged_below e f es rest next is q l n =
      judged e es ∙ ap (after e) (sym is) ∙ ap (λ b. cond b (cond (nat_lt f.key.seqno w) (unless (goes_with v e f) e ++ compacted w v (past false f rest)) (e ∷ kept_from w v false f rest)) (unless (goes_alone v e) e ++ kept_from w v false f rest)) q
      ∙ ap (λ b. cond b (unless (goes_with v e f) e ++ compacted w v (past false f rest)) (e ∷ kept_from w v false f rest)) l ∙ ap (λ r. unless (goes_with v e f) e ++ compacted w v r) (sym n)

  pub judged_above : (e f : InternalValue) (es rest : List InternalValue) → f ∷ rest ≡ past true e es → same_key e f ≡ true → nat_lt f.key.seqno w ≡ false → kept_from w v false e es ≡ e ∷ kept_from w v false f rest
  judged_above e f es rest is q l =
      judged e es ∙ ap (after e) (sym is) ∙ ap (λ b. cond b (cond (nat_lt f.key.seqno w) (unless (goes_with v e f) e ++ compacted w v (past false f rest)) (e ∷ kept_from w v false f rest)) (unless (goes_alone v e) e ++ kept_from w v false f rest)) q
      ∙ ap (λ b. cond b (unless (goes_with v e f) e ++ compacted w v (past false f rest)) (e ∷ kept_from w v false f rest)) l

pub past_shorter : (numbers : Bool) (e : InternalValue) (es : List InternalValue) → length (past numbers e es) ≤ length es
past_shorter numbers e [] = omega arith
past_shorter numbers e (f ∷ es) = elim (is_repeat numbers e f) as (λ b. length (cond b (past numbers e es) (f ∷ es)) ≤ length (f ∷ es)) [
  | true ↦ let ih = past_shorter numbers e es in omega arith
  | false ↦ omega arith
]

-- ---- the first of each key

each_changes : (P : InternalValue → Type 0) (e : InternalValue) (es : List InternalValue) → AllByRecursion P es → AllByRecursion P (changes e es)
each_changes P e [] h = tt
each_changes P e (f ∷ es) h = elim (same_key e f) as (λ b. AllByRecursion P (cond b (changes e es) (f ∷ changes f es))) [
  | true ↦ each_changes P e es h.1
  | false ↦ (h.0, each_changes P f es h.1)
]

ascends_changes : (e : InternalValue) (es : List InternalValue) → IsInOrder es → IsInOrder (changes e es)
ascends_changes e [] h = tt
ascends_changes e (f ∷ es) h = elim (same_key e f) as (λ b. IsInOrder (cond b (changes e es) (f ∷ changes f es))) [
  | true ↦ ascends_changes e es h.1
  | false ↦ (each_changes (λ g. is_le (entry_cmp f g) ≡ true) f es h.0, ascends_changes f es h.1)
]

module _ (k : List ℕ) where
  first_passed : (e : InternalValue) (es : List InternalValue) → IsInOrder (e ∷ es) → is_of k e ≡ true → stack k (changes e es) ≡ []
  first_passed e [] h ke = refl
  first_passed e (f ∷ es) h ke = elim (same_key e f) as (λ b. same_key e f ≡ b → stack k (cond b (changes e es) (f ∷ changes f es)) ≡ []) [
    | true ↦ λ q. first_passed e es (h.0.1, h.1.1) ke
    | false ↦ λ q. let others = none_later k e f es ke q h in filter_none (is_of k) (f ∷ changes f es) (others.0, each_changes (λ g. is_of k g ≡ false) f es others.1)
  ] refl

  first_later : (e : InternalValue) (es : List InternalValue) → IsInOrder (e ∷ es) → is_of k e ≡ false → stack k (changes e es) ≡ first_of (stack k es)
  first_later e [] h ke = refl
  first_later e (f ∷ es) h ke = elim (same_key e f) as (λ b. same_key e f ≡ b → stack k (cond b (changes e es) (f ∷ changes f es)) ≡ first_of (stack k (f ∷ es))) [
    | true ↦ λ q. first_later e es (h.0.1, h.1.1) ke ∙ ap (λ b. first_of (cond b (f ∷ stack k es) (stack k es))) (sym (same_of k e f q ∙ ke))
    | false ↦ λ q. elim (is_of k f) as (λ b. is_of k f ≡ b → cond b (f ∷ stack k (changes f es)) (stack k (changes f es)) ≡ first_of (cond b (f ∷ stack k es) (stack k es))) [
      | true ↦ λ kf. ap (λ l. f ∷ l) (first_passed f es h.1 kf)
      | false ↦ λ kf. first_later f es h.1 kf
    ] refl
  ] refl

stacks_first : (es : List InternalValue) → IsInOrder es → (k : List ℕ) → stack k (firsts es) ≡ first_of (stack k es)
stacks_first [] h k = refl
stacks_first (e ∷ es) h k = elim (is_of k e) as (λ b. is_of k e ≡ b → cond b (e ∷ stack k (changes e es)) (stack k (changes e es)) ≡ first_of (cond b (e ∷ stack k es) (stack k es))) [
  | true ↦ λ q. ap (λ l. e ∷ l) (first_passed k e es h q)
  | false ↦ λ q. first_later k e es h q
] refl

order_first : (es : List InternalValue) → IsInOrder es → IsInOrder (firsts es)
order_first [] h = tt
order_first (e ∷ es) h = (each_changes (λ g. is_le (entry_cmp e g) ≡ true) e es h.0, ascends_changes e es h.1)

pub takes_firsts : (es : List InternalValue) → IsInOrder es → IsByKey first_of es (firsts es)
takes_firsts es h = record { in_order = order_first es h; stacks = stacks_first es h }

pub firsts_step : (e : InternalValue) (es : List InternalValue) → changes e es ≡ firsts (past false e es)
firsts_step e [] = refl
firsts_step e (f ∷ es) = elim (same_key e f) as (λ b. cond b (changes e es) (f ∷ changes f es) ≡ firsts (cond (b && true) (past false e es) (f ∷ es))) [
  | true ↦ firsts_step e es
  | false ↦ refl
]

-- ---- the same, as the code comes by it: o is the entry after those that repeat e, and rest what comes after it

module _ (w : ℕ) (v : Bool) (e : InternalValue) (es rest : List InternalValue) (o : Option InternalValue) (is : all_of o rest ≡ past true e es) where
  pub judge_end : o ≡ None → IfNone o (rest ≡ []) → (g : Bool) → g ≡ goes_alone v e → kept_from w v false e es ≡ unless g e ++ compacted w v rest
  judge_end at none g q =
      let empty : rest ≡ [] = subst (λ o. IfNone o (rest ≡ [])) at none in
      judged_end w v e es rest (ap (λ o. all_of o rest) (sym at) ∙ is) empty ∙ ap (λ b. unless b e ++ compacted w v rest) (sym q)

  pub judge_other : (f : InternalValue) → o ≡ Some f → same_key e f ≡ false → (g : Bool) → g ≡ goes_alone v e → kept_from w v false e es ≡ unless g e ++ kept_from w v false f rest
  judge_other f at s g q = judged_other w v e f es rest (ap (λ o. all_of o rest) (sym at) ∙ is) s ∙ ap (λ b. unless b e ++ kept_from w v false f rest) (sym q)

  pub judge_below : (f : InternalValue) → o ≡ Some f → same_key e f ≡ true → f.key.seqno < w → (last : List InternalValue) (next : Option InternalValue) → all_of next last ≡ past false f rest → (g : Bool) → g ≡ goes_with v e f → kept_from w v false e es ≡ unless g e ++ compacted w v (all_of next last)
  judge_below f at s l last next n g q = judged_below w v e f es rest (all_of next last) (ap (λ o. all_of o rest) (sym at) ∙ is) s (lt-ltb f.key.seqno w l) n ∙ ap (λ b. unless b e ++ compacted w v (all_of next last)) (sym q)

  pub judge_above : (f : InternalValue) → o ≡ Some f → same_key e f ≡ true → w ≤ f.key.seqno → kept_from w v false e es ≡ e ∷ kept_from w v false f rest
  judge_above f at s l = judged_above w v e f es rest (ap (λ o. all_of o rest) (sym at) ∙ is) s (le-ltb f.key.seqno w l)

  pub judge_shorter : (f : InternalValue) → o ≡ Some f → length (f ∷ rest) ≤ length es
  judge_shorter f at = let a : length (f ∷ rest) ≡ length (past true e es) = ap length (ap (λ o. all_of o rest) (sym at) ∙ is) in let b = past_shorter true e es in omega arith

  pub judge_far_shorter : (f : InternalValue) → o ≡ Some f → (last : List InternalValue) (next : Option InternalValue) → all_of next last ≡ past false f rest → length (all_of next last) ≤ length es
  judge_far_shorter f at last next n =
      let a = judge_shorter f at in
      let b : length (all_of next last) ≡ length (past false f rest) = ap length n in
      let d = past_shorter false f rest in omega arith

pub first_taken : (p o : Option InternalValue) (old es rest : List InternalValue) (e : InternalValue) → all_of p old ≡ e ∷ es → all_of o rest ≡ past false e es → firsts (all_of p old) ≡ e ∷ firsts (all_of o rest)
first_taken p o old es rest e h is = ap firsts h ∙ ap (λ l. e ∷ l) (firsts_step e es ∙ ap firsts (sym is))

-- new settings for a stream that has not ended
pub settled : (m : Compacting) (v over : Bool) (w : ℕ) (input : List InternalValue) → IsInOrder m.input → m.over ≡ false → over ≡ m.over → w ≡ m.watermark → input ≡ m.input → IsByKey (keep_distinct m.watermark v) m.input (rest_of over (compacted w v input)).entries
settled m v over w input h o a b d = rw (a, o, b, d) (compacts m.watermark v m.input h)
