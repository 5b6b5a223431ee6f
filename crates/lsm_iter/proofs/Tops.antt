-- Of entries in order the newest of each key that counts, from both ends.
use Rattle.std.proofs.Common.{◌≡◌, ℕ, zero, suc, ◌+◌, ◌<◌, ◌≤◌, Bool, true, false, ◌&&◌, cond, List, [], ◌∷◌, ◌++◌, length, get_or, take, drop, filter, Some, None, refl, sym, ap, ◌∙◌, subst, arith, inl, inr, ◌⊎◌, append-nil, append_assoc}
use Rattle.std.specs.List.{All, AllByRecursion}
use Rattle.std.specs.declared.cmp.Ordering.{Ordering}
use Rattle.std.specs.declared.cmp.Ordering.TheVariants.{Less, Equal, Greater}
use Rattle.std.specs.Ordering.{nat_cmp, is_eq, ordering_then}
use Rattle.std.proofs.lemmas.Bool.{ltb-true, lt-ltb}
use Rattle.std.proofs.lemmas.Cmp.{nat_cmp_total, nat_list_cmp_total, tied_itself, alike_right, ranked, eq_by_cmp_equiv}
use Rattle.std.proofs.lemmas.List.{drop_more, take-append-drop, take_more}
use Rattle.std.proofs.lemmas.List.Elements.{All-contains, All-cons, All-nil, All-weaker, All-tail, All-filter, recursion_from_All, Contains-push, filter-append, filter_passes}
use Rattle.lsm_below.specs.Keys.{bytes_cmp}
use Rattle.lsm_below.specs.Entries.{Entry, entry_cmp}
use Rattle.lsm_below.specs.Sorted.{Rises}
use Rattle.lsm_below.specs.Runs.{IsCut}
use Rattle.lsm_below.specs.FilterLaws.{filter_all}
use Rattle.lsm_below.specs.Slots.{same_key, changes, firsts}
use Rattle.lsm_iter.specs.Shown.{by_key}
use Rattle.lsm_iter.specs.Reads.{at}
use Rattle.lsm_iter.specs.Left.{tops, last_item, end_item}
use Rattle.lsm_iter.specs.Trims.{IsTrimmed, Trims, counts}
use Rattle.lsm_iter.specs.declared.tree_iter.End.TheVariants.{Front, Back}
use Rattle.lsm_iter.proofs.Rises.{rises_filter}
use Rattle.lsm_iter.proofs.Alone.{last_push}

-- ---- keys of entries in order

pub same_trans : (e f g : Entry) → same_key e f ≡ true → same_key f g ≡ true → same_key e g ≡ true
same_trans e f g h k = (eq_by_cmp_equiv nat_list_cmp_total).congr e.key.user_key f.key.user_key g.key.user_key h ∙ k

below_apart : (r q : Ordering) → ordering_then r q ≡ Less → is_eq r ≡ false → r ≡ Less
below_apart Less q h k = refl
below_apart Equal q h k = absurd (cc k)
below_apart Greater q h k = absurd (cc h)

keys_below : (e f : Entry) → entry_cmp e f ≡ Less → same_key e f ≡ false → by_key e f ≡ Less
keys_below e f h k = below_apart (bytes_cmp e.key.user_key f.key.user_key) (nat_cmp f.key.seqno e.key.seqno) h k

not_itself : (e : Entry) → entry_cmp e e ≡ Less → ⊥
not_itself e h =
    let tied : entry_cmp e e ≡ Equal = ap (λ r. ordering_then r (nat_cmp e.key.seqno e.key.seqno)) (tied_itself nat_list_cmp_total e.key.user_key) ∙ tied_itself nat_cmp_total e.key.seqno in
    let bad : Equal ≡ Less = sym tied ∙ h in cc bad

number_below : (n m : ℕ) → nat_cmp n m ≡ Less → n < m
number_below n m h = ranked n m Less (sym h)

-- what has another key than e, and comes after it, is followed by other keys alone
pub apart_behind : (e f g : Entry) → entry_cmp e f ≡ Less → entry_cmp f g ≡ Less → same_key e f ≡ false → same_key e g ≡ false
apart_behind e f g h k apart = go (bytes_cmp f.key.user_key g.key.user_key) refl k
  where
    go : (q : Ordering) → bytes_cmp f.key.user_key g.key.user_key ≡ q → ordering_then q (nat_cmp g.key.seqno f.key.seqno) ≡ Less → same_key e g ≡ false
    go Less is k = ap is_eq (nat_list_cmp_total.trans e.key.user_key f.key.user_key g.key.user_key (keys_below e f h apart) is)
    go Equal is k = sym (ap is_eq (alike_right nat_list_cmp_total f.key.user_key g.key.user_key e.key.user_key is)) ∙ apart
    go Greater is k = absurd (cc k)

-- where the one before x doesn't count, or has another key, so it is with all before
pub apart_before : (s : ℕ) (e f x : Entry) → entry_cmp e f ≡ Less → entry_cmp f x ≡ Less → (counts s f && same_key f x) ≡ false → counts s e ≡ true → same_key e x ≡ false
apart_before s e f x h k last counted = go (bytes_cmp e.key.user_key f.key.user_key) (bytes_cmp f.key.user_key x.key.user_key) refl refl h k
  where
    go : (r q : Ordering) → bytes_cmp e.key.user_key f.key.user_key ≡ r → bytes_cmp f.key.user_key x.key.user_key ≡ q → ordering_then r (nat_cmp f.key.seqno e.key.seqno) ≡ Less → ordering_then q (nat_cmp x.key.seqno f.key.seqno) ≡ Less → same_key e x ≡ false
    go Less Less a b h k = ap is_eq (nat_list_cmp_total.trans e.key.user_key f.key.user_key x.key.user_key a b)
    go Less Equal a b h k = ap is_eq (sym (alike_right nat_list_cmp_total f.key.user_key x.key.user_key e.key.user_key b) ∙ a)
    go Less Greater a b h k = absurd (cc k)
    go Equal Less a b h k = ap is_eq (nat_list_cmp_total.congr e.key.user_key f.key.user_key x.key.user_key a ∙ b)
    go Equal Equal a b h k =
        let below : f.key.seqno < s = omega (arith, number_below f.key.seqno e.key.seqno h, ltb-true e.key.seqno s counted) in
        let bad : true ≡ false = sym (ap (λ c. c && same_key f x) (lt-ltb f.key.seqno s below) ∙ ap is_eq b) ∙ last in absurd (cc bad)
    go Equal Greater a b h k = absurd (cc k)
    go Greater q a b h k = absurd (cc h)

-- ---- lists and their ends

pub last_is : (es front : List Entry) (x : Entry) → es ≡ front ++ x ∷ [] → last_item es ≡ Some x
last_is es front x is = ap last_item is ∙ last_push front x

pub last_append : (front : List Entry) (x : Entry) (xs : List Entry) → last_item (front ++ (x ∷ xs)) ≡ last_item (x ∷ xs)
last_append [] x xs = refl
last_append (y ∷ []) x xs = refl
last_append (y ∷ (z ∷ front)) x xs = last_append (z ∷ front) x xs

pub no_last : (es : List Entry) → last_item es ≡ None → es ≡ []
no_last [] h = refl
no_last (e ∷ []) h = absurd (cc h)
no_last (e ∷ (f ∷ es)) h = absurd (let bad : f ∷ es ≡ [] = no_last (f ∷ es) h in cc bad)

last_meets : (P : Entry → Type 0) (es : List Entry) (x : Entry) → AllByRecursion P es → last_item es ≡ Some x → P x
last_meets P [] x h is = absurd (cc is)
last_meets P (e ∷ []) x h is = let same : e ≡ x = cc is in subst P same h.0
last_meets P (e ∷ (f ∷ es)) x h is = last_meets P (f ∷ es) x h.1 is

first_meets : (P : Entry → Type 0) (es : List Entry) (x : Entry) → AllByRecursion P es → end_item Front es ≡ Some x → P x
first_meets P [] x h is = absurd (cc is)
first_meets P (e ∷ es) x h is = let same : e ≡ x = cc is in subst P same h.0

-- two lists that end alike begin alike, where they do so once more follows
front_alike : (t l u v : List Entry) → last_item l ≡ last_item t → end_item Front (l ++ v) ≡ end_item Front (t ++ u) → end_item Front l ≡ end_item Front t
front_alike [] l u v ends begins = ap (end_item Front) (no_last l ends)
front_alike (f ∷ fs) [] u v ends begins = absurd (let bad : f ∷ fs ≡ [] = no_last (f ∷ fs) (sym ends) in cc bad)
front_alike (f ∷ fs) (y ∷ ys) u v ends begins = begins

back_alike : (t l u v : List Entry) → end_item Front l ≡ end_item Front t → last_item (v ++ l) ≡ last_item (u ++ t) → last_item l ≡ last_item t
back_alike [] [] u v begins ends = refl
back_alike [] (y ∷ ys) u v begins ends = absurd (cc begins)
back_alike (f ∷ fs) [] u v begins ends = absurd (cc begins)
back_alike (f ∷ fs) (y ∷ ys) u v begins ends = sym (last_append v y ys) ∙ ends ∙ last_append u f fs

-- ---- the first entry of each key

each_changes : (P : Entry → Type 0) (e : Entry) (es : List Entry) → AllByRecursion P es → AllByRecursion P (changes e es)
each_changes P e [] h = tt
each_changes P e (f ∷ es) h = elim (same_key e f) as (λ b. AllByRecursion P (cond b (changes e es) (f ∷ changes f es))) [
  | true ↦ each_changes P e es h.1
  | false ↦ (h.0, each_changes P f es h.1)
]

pub each_first : (P : Entry → Type 0) (es : List Entry) → AllByRecursion P es → AllByRecursion P (firsts es)
each_first P [] h = tt
each_first P (e ∷ es) h = (h.0, each_changes P e es h.1)

pub each_counted : (P : Entry → Type 0) (p : Entry → Bool) (es : List Entry) → AllByRecursion P es → AllByRecursion P (filter p es)
each_counted P p [] h = tt
each_counted P p (e ∷ es) h = elim (p e) as (λ b. AllByRecursion P (cond b (e ∷ filter p es) (filter p es))) [
  | true ↦ (h.0, each_counted P p es h.1)
  | false ↦ each_counted P p es h.1
]

rises_changes : (e : Entry) (es : List Entry) → Rises entry_cmp (e ∷ es) → Rises by_key (e ∷ changes e es)
rises_changes e [] h = (All-nil (λ f. by_key e f ≡ Less), tt)
rises_changes e (f ∷ es) h = go (rises_changes e es (All-tail (λ g. entry_cmp e g ≡ Less) f es h.0, h.1.1)) (rises_changes f es h.1) (same_key e f) refl
  where
    go : Rises by_key (e ∷ changes e es) → Rises by_key (f ∷ changes f es) → (b : Bool) → same_key e f ≡ b → Rises by_key (e ∷ cond b (changes e es) (f ∷ changes f es))
    go passed rest true is = passed
    go passed rest false is =
        let step : by_key e f ≡ Less = keys_below e f (h.0 0 f (omega arith)) is in
        (All-cons (λ g. by_key e g ≡ Less) f (changes f es) step (All-weaker (λ g. by_key f g ≡ Less) (λ g. by_key e g ≡ Less) (λ g k. nat_list_cmp_total.trans e.key.user_key f.key.user_key g.key.user_key step k) (changes f es) rest.0), rest)

rises_firsts : (es : List Entry) → Rises entry_cmp es → Rises by_key (firsts es)
rises_firsts [] h = tt
rises_firsts (e ∷ es) h = rises_changes e es h

pub rises_tops : (s : ℕ) (es : List Entry) → Rises entry_cmp es → Rises by_key (tops (at s es))
rises_tops s es h = rises_firsts (filter (counts s) es) (rises_filter entry_cmp (counts s) es h)

-- an entry after entries with other keys
changes_push : (e x : Entry) (es : List Entry) → same_key e x ≡ false → AllByRecursion (λ f. same_key f x ≡ false) es → changes e (es ++ x ∷ []) ≡ changes e es ++ x ∷ []
changes_push e x [] apart h = ap (λ b. cond b [] (x ∷ [])) apart
changes_push e x (f ∷ es) apart h = elim (same_key e f) as (λ b. cond b (changes e (es ++ x ∷ [])) (f ∷ changes f (es ++ x ∷ [])) ≡ cond b (changes e es) (f ∷ changes f es) ++ x ∷ []) [
  | true ↦ changes_push e x es apart h.1
  | false ↦ ap (λ l. f ∷ l) (changes_push f x es h.0 h.1)
]

firsts_push : (x : Entry) (es : List Entry) → AllByRecursion (λ f. same_key f x ≡ false) es → firsts (es ++ x ∷ []) ≡ firsts es ++ x ∷ []
firsts_push x [] h = refl
firsts_push x (e ∷ es) h = ap (λ l. e ∷ l) (changes_push e x es h.0 h.1)

-- the entry is added, or not
changes_end : (e x : Entry) (es : List Entry) → (changes e (es ++ x ∷ []) ≡ changes e es ++ x ∷ []) ⊎ (changes e (es ++ x ∷ []) ≡ changes e es)
changes_end e x [] = elim (same_key e x) as (λ b. (cond b [] (x ∷ []) ≡ x ∷ []) ⊎ (cond b [] (x ∷ []) ≡ [])) [
  | true ↦ inr refl
  | false ↦ inl refl
]
changes_end e x (f ∷ es) = elim (same_key e f) as (λ b. (cond b (changes e (es ++ x ∷ [])) (f ∷ changes f (es ++ x ∷ [])) ≡ cond b (changes e es) (f ∷ changes f es) ++ x ∷ []) ⊎ (cond b (changes e (es ++ x ∷ [])) (f ∷ changes f (es ++ x ∷ [])) ≡ cond b (changes e es) (f ∷ changes f es))) [
  | true ↦ changes_end e x es
  | false ↦ elim (changes_end f x es) [ inl h ↦ inl (ap (λ l. f ∷ l) h) | inr h ↦ inr (ap (λ l. f ∷ l) h) ]
]

firsts_end : (x : Entry) (es : List Entry) → (firsts (es ++ x ∷ []) ≡ firsts es ++ x ∷ []) ⊎ (firsts (es ++ x ∷ []) ≡ firsts es)
firsts_end x [] = inl refl
firsts_end x (e ∷ es) = elim (changes_end e x es) [ inl h ↦ inl (ap (λ l. e ∷ l) h) | inr h ↦ inr (ap (λ l. e ∷ l) h) ]

-- entries with the key of the one before them
changes_none : (e : Entry) (es : List Entry) → AllByRecursion (λ x. same_key e x ≡ true) es → changes e es ≡ []
changes_none e [] h = refl
changes_none e (x ∷ es) h = ap (λ b. cond b (changes e es) (x ∷ changes x es)) h.0 ∙ changes_none e es h.1

changes_many : (e g : Entry) (more es : List Entry) → AllByRecursion (λ x. same_key g x ≡ true) more → changes e (es ++ (g ∷ more)) ≡ changes e (es ++ g ∷ [])
changes_many e g more [] same = go (same_key e g) refl
  where
    through : same_key e g ≡ true → (xs : List Entry) → AllByRecursion (λ x. same_key g x ≡ true) xs → AllByRecursion (λ x. same_key e x ≡ true) xs
    through is [] h = tt
    through is (x ∷ xs) h = (same_trans e g x is h.0, through is xs h.1)

    go : (b : Bool) → same_key e g ≡ b → cond b (changes e more) (g ∷ changes g more) ≡ cond b [] (g ∷ [])
    go true is = changes_none e more (through is more same)
    go false is = ap (λ l. g ∷ l) (changes_none g more same)
changes_many e g more (f ∷ es) same = elim (same_key e f) as (λ b. cond b (changes e (es ++ (g ∷ more))) (f ∷ changes f (es ++ (g ∷ more))) ≡ cond b (changes e (es ++ g ∷ [])) (f ∷ changes f (es ++ g ∷ []))) [
  | true ↦ changes_many e g more es same
  | false ↦ ap (λ l. f ∷ l) (changes_many f g more es same)
]

firsts_many : (g : Entry) (more es : List Entry) → AllByRecursion (λ x. same_key g x ≡ true) more → firsts (es ++ (g ∷ more)) ≡ firsts (es ++ g ∷ [])
firsts_many g more [] same = ap (λ l. g ∷ l) (changes_none g more same)
firsts_many g more (e ∷ es) same = ap (λ l. e ∷ l) (changes_many e g more es same)

firsts_repeat : (g x : Entry) (es : List Entry) → same_key g x ≡ true → firsts ((es ++ g ∷ []) ++ x ∷ []) ≡ firsts (es ++ g ∷ [])
firsts_repeat g x es same = ap firsts (append_assoc es (g ∷ []) (x ∷ [])) ∙ firsts_many g (x ∷ []) es (same, tt)

-- ---- entries that count

counted_more : (s : ℕ) (es : List Entry) → AllByRecursion (λ e. counts s e ≡ true) (tops (at s es))
counted_more s es = each_first (λ e. counts s e ≡ true) (filter (counts s) es) (recursion_from_All (λ e. counts s e ≡ true) (filter (counts s) es) (filter_passes (counts s) es))

-- the first of what is left counts
pub first_counts : (s : ℕ) (es : List Entry) (e : Entry) → end_item Front (tops (at s es)) ≡ Some e → counts s e ≡ true
first_counts s es e first = first_meets (λ f. counts s f ≡ true) (tops (at s es)) e (counted_more s es) first

pub filter_yes : (s : ℕ) (e : Entry) (es : List Entry) → counts s e ≡ true → filter (counts s) (e ∷ es) ≡ e ∷ filter (counts s) es
filter_yes s e es h = ap (λ b. cond b (e ∷ filter (counts s) es) (filter (counts s) es)) h

pub filter_no : (s : ℕ) (e : Entry) (es : List Entry) → counts s e ≡ false → filter (counts s) (e ∷ es) ≡ filter (counts s) es
filter_no s e es h = ap (λ b. cond b (e ∷ filter (counts s) es) (filter (counts s) es)) h

filter_push : (s : ℕ) (xs : List Entry) (x : Entry) → counts s x ≡ true → filter (counts s) (xs ++ x ∷ []) ≡ filter (counts s) xs ++ x ∷ []
filter_push s xs x h = filter-append (counts s) xs (x ∷ []) ∙ ap (λ l. filter (counts s) xs ++ l) (filter_yes s x [] h)

-- ---- from the front

-- past entries with e's key, so many, the others follow
changes_group : (s : ℕ) (e : Entry) (n : ℕ) (es : List Entry) → ((j : ℕ) (d : Entry) → j < n → same_key e (get_or es j d) ≡ true) → ((j : ℕ) (d : Entry) → n ≤ j → j < length es → same_key e (get_or es j d) ≡ false) → n ≤ length es
    → changes e (filter (counts s) es) ≡ firsts (filter (counts s) (drop n es))
changes_group s e zero [] alike apart le = refl
changes_group s e zero (f ∷ es) alike apart le = elim (counts s f) as (λ b. changes e (cond b (f ∷ filter (counts s) es) (filter (counts s) es)) ≡ firsts (cond b (f ∷ filter (counts s) es) (filter (counts s) es))) [
  | true ↦ ap (λ b. cond b (changes e (filter (counts s) es)) (f ∷ changes f (filter (counts s) es))) (apart 0 f (omega arith) (omega arith))
  | false ↦ changes_group s e zero es (λ j d lt. absurd (omega arith)) (λ j d le lt. apart (suc j) d (omega arith) (omega arith)) (omega arith)
]
changes_group s e (suc n) [] alike apart le = absurd (omega arith)
changes_group s e (suc n) (f ∷ es) alike apart le =
    let rest = changes_group s e n es (λ j d lt. alike (suc j) d (omega arith)) (λ j d le lt. apart (suc j) d (omega arith) (omega arith)) (omega arith) in
    elim (counts s f) as (λ b. changes e (cond b (f ∷ filter (counts s) es) (filter (counts s) es)) ≡ firsts (filter (counts s) (drop n es))) [
      | true ↦ ap (λ b. cond b (changes e (filter (counts s) es)) (f ∷ changes f (filter (counts s) es))) (alike 0 f (omega arith)) ∙ rest
      | false ↦ rest
    ]

pub tops_group : (s : ℕ) (e : Entry) (es rest : List Entry) (n : ℕ) → es ≡ e ∷ rest → IsCut (same_key e) es n → 0 < n → IsTrimmed s es → tops (at s es) ≡ e ∷ tops (at s (drop n es))
tops_group s e es rest zero is cut some trimmed = absurd (omega arith)
tops_group s e es rest (suc n) is cut some trimmed =
    let group : IsCut (same_key e) (e ∷ rest) (suc n) = subst (λ l. IsCut (same_key e) l (suc n)) is cut in
    let le = group.at_most in
    let counted : counts s e ≡ true = first_counts s es e (trimmed Front ∙ ap (end_item Front) is) in
    ap (λ l. firsts (filter (counts s) l)) is ∙ ap firsts (filter_yes s e rest counted)
    ∙ ap (λ l. e ∷ l) (changes_group s e n rest (λ j d lt. group.before (suc j) d (omega arith)) (λ j d le lt. group.behind (suc j) d (omega arith) (omega arith)) (omega arith))
    ∙ ap (λ l. e ∷ tops (at s (drop (suc n) l))) (sym is)

-- ---- from the back

-- of two neighbours with one key that both count the first is left
pub tops_repeat : (s : ℕ) (xs : List Entry) (g x : Entry) → counts s g ≡ true → counts s x ≡ true → same_key g x ≡ true → tops (at s ((xs ++ g ∷ []) ++ x ∷ [])) ≡ tops (at s (xs ++ g ∷ []))
tops_repeat s xs g x cg cx same =
    ap firsts (filter_push s (xs ++ g ∷ []) x cx ∙ ap (λ l. l ++ x ∷ []) (filter_push s xs g cg))
    ∙ firsts_repeat g x (filter (counts s) xs) same ∙ sym (ap firsts (filter_push s xs g cg))

pub one_less : (s : ℕ) (es : List Entry) (i : ℕ) (g x : Entry) → i + 1 < length es → g ≡ get_or es i g → x ≡ get_or es (i + 1) x → counts s g ≡ true → counts s x ≡ true → same_key g x ≡ true
    → tops (at s (take (i + 1 + 1) es)) ≡ tops (at s (take (i + 1) es))
one_less s es i g x lt is_g is_x cg cx same =
    let first : take (i + 1) es ≡ take i es ++ g ∷ [] = take_more es i g (omega arith) ∙ ap (λ y. take i es ++ y ∷ []) (sym is_g) in
    let both : take (i + 1 + 1) es ≡ (take i es ++ g ∷ []) ++ x ∷ [] = take_more es (i + 1) x lt ∙ ap (λ y. take (i + 1) es ++ y ∷ []) (sym is_x) ∙ ap (λ l. l ++ x ∷ []) first in
    ap (λ l. tops (at s l)) both ∙ tops_repeat s (take i es) g x cg cx same ∙ sym (ap (λ l. tops (at s l)) first)

-- an entry that doesn't count isn't missed
pub tops_hidden : (s : ℕ) (xs : List Entry) (x : Entry) → counts s x ≡ false → tops (at s (xs ++ x ∷ [])) ≡ tops (at s xs)
tops_hidden s xs x hidden = ap firsts (filter-append (counts s) xs (x ∷ []) ∙ ap (λ l. filter (counts s) xs ++ l) (filter_no s x [] hidden) ∙ append-nil (filter (counts s) xs))

-- of entries with one key that all count the first is left
pub many_less : (s : ℕ) (es : List Entry) (i : ℕ) (g : Entry) → i < length es → g ≡ get_or es i g → counts s g ≡ true → All (λ f. counts s f ≡ true) (drop (i + 1) es) → All (λ f. same_key g f ≡ true) (drop (i + 1) es)
    → tops (at s (take (i + 1) es)) ≡ tops (at s es)
many_less s es i g lt is counted all same =
    let more = drop (i + 1) es in
    let first : take (i + 1) es ≡ take i es ++ g ∷ [] = take_more es i g lt ∙ ap (λ y. take i es ++ y ∷ []) (sym is) in
    let whole : take i es ++ (g ∷ more) ≡ es = ap (λ y. take i es ++ (y ∷ more)) is ∙ ap (λ l. take i es ++ l) (sym (drop_more es i g lt)) ∙ take-append-drop i es in
    let behind : filter (counts s) (g ∷ more) ≡ g ∷ more = filter_all (counts s) (g ∷ more) (counted, recursion_from_All (λ f. counts s f ≡ true) more all) in
    ap (λ l. tops (at s l)) first ∙ ap firsts (filter_push s (take i es) g counted)
    ∙ sym (sym (ap (λ l. tops (at s l)) whole) ∙ ap firsts (filter-append (counts s) (take i es) (g ∷ more) ∙ ap (λ l. filter (counts s) (take i es) ++ l) behind)
    ∙ firsts_many g more (filter (counts s) (take i es)) (recursion_from_All (λ f. same_key g f ≡ true) more same))

-- where all before an entry that count have other keys, it is left
pub tops_ends : (s : ℕ) (xs : List Entry) (x : Entry) → counts s x ≡ true → All (λ f. counts s f ≡ true → same_key f x ≡ false) xs → last_item (tops (at s (xs ++ x ∷ []))) ≡ Some x
tops_ends s xs x counted apart =
    let kept : All (λ f. same_key f x ≡ false) (filter (counts s) xs) =
    λ k d k_lt. All-filter (counts s) (λ f. counts s f ≡ true → same_key f x ≡ false) xs apart k d k_lt (filter_passes (counts s) xs k d k_lt) in
    last_is (tops (at s (xs ++ x ∷ []))) (tops (at s xs)) x
    (ap firsts (filter_push s xs x counted) ∙ firsts_push x (filter (counts s) xs) (recursion_from_All (λ f. same_key f x ≡ false) (filter (counts s) xs) kept))

pub trims_back : (s : ℕ) (es : List Entry) (i : ℕ) (x : Entry) → i < length es → x ≡ get_or es i x → counts s x ≡ true → All (λ f. counts s f ≡ true → same_key f x ≡ false) (take i es) → tops (at s (take (i + 1) es)) ≡ tops (at s es)
    → Trims Back s es (take (i + 1) es)
trims_back s es i x lt is counted apart same =
    let up : take (i + 1) es ≡ take i es ++ x ∷ [] = take_more es i x lt ∙ ap (λ y. take i es ++ y ∷ []) (sym is) in
    record {
      same = same;
      ends = ap (λ l. last_item (tops (at s l))) up ∙ tops_ends s (take i es) x counted apart ∙ sym (last_is (take (i + 1) es) (take i es) x up);
    }

-- the last entry of a trimmed list is taken off
pub before_last : (xs : List Entry) (x : Entry) → Rises entry_cmp (xs ++ x ∷ []) → AllByRecursion (λ e. entry_cmp e x ≡ Less) xs
before_last [] x h = tt
before_last (e ∷ xs) x h = (All-contains (λ f. entry_cmp e f ≡ Less) (xs ++ x ∷ []) x h.0 (Contains-push xs x), before_last xs x h.1)

pub tops_last : (s : ℕ) (es xs : List Entry) (x : Entry) → es ≡ xs ++ x ∷ [] → Rises entry_cmp es → IsTrimmed s es → tops (at s es) ≡ tops (at s xs) ++ x ∷ []
tops_last s es xs x is rises trimmed = go (counts s x) refl
  where
    last : last_item (tops (at s es)) ≡ Some x
    last = trimmed Back ∙ last_is es xs x is

    -- x isn't left of those before it
    not_before : last_item (tops (at s xs)) ≡ Some x → ⊥
    not_before h = not_itself x (last_meets (λ e. entry_cmp e x ≡ Less) (tops (at s xs)) x
        (each_first (λ e. entry_cmp e x ≡ Less) (filter (counts s) xs) (each_counted (λ e. entry_cmp e x ≡ Less) (counts s) xs (before_last xs x (subst (Rises entry_cmp) is rises)))) h)

    go : (b : Bool) → counts s x ≡ b → tops (at s es) ≡ tops (at s xs) ++ x ∷ []
    go true counted =
        let up : tops (at s es) ≡ firsts (filter (counts s) xs ++ x ∷ []) = ap (λ l. tops (at s l)) is ∙ ap firsts (filter_push s xs x counted) in
        elim (firsts_end x (filter (counts s) xs)) [
          | inl added ↦ up ∙ added
          | inr not_added ↦ absurd (not_before (sym (ap last_item (up ∙ not_added)) ∙ last))
        ]
    go false hidden =
        let up : tops (at s es) ≡ tops (at s xs) = ap (λ l. tops (at s l)) is ∙ tops_hidden s xs x hidden in
        absurd (not_before (sym (ap last_item up) ∙ last))

-- ---- both ends

both_ends : (s : ℕ) (es : List Entry) → end_item Front (tops (at s es)) ≡ end_item Front es → end_item Back (tops (at s es)) ≡ end_item Back es → IsTrimmed s es
both_ends s es front back Front = front
both_ends s es front back Back = back

-- a part that is trimmed at the front, after the first entry's key
pub trimmed_front : (s : ℕ) (es u part v : List Entry) → es ≡ u ++ part → tops (at s es) ≡ v ++ tops (at s part) → IsTrimmed s es → end_item Front (tops (at s part)) ≡ end_item Front part → IsTrimmed s part
trimmed_front s es u part v is tops_is trimmed front =
    both_ends s part front (back_alike part (tops (at s part)) u v front (sym (ap last_item tops_is) ∙ trimmed Back ∙ ap last_item is))

pub trimmed_back : (s : ℕ) (es u part v : List Entry) → es ≡ part ++ u → tops (at s es) ≡ tops (at s part) ++ v → end_item Front (tops (at s es)) ≡ end_item Front es → end_item Back (tops (at s part)) ≡ end_item Back part → IsTrimmed s part
trimmed_back s es u part v is tops_is begins back =
    both_ends s part (front_alike part (tops (at s part)) u v back (sym (ap (end_item Front) tops_is) ∙ begins ∙ ap (end_item Front) is)) back
