-- A source of which a compaction keeps all.
use Rattle.std.proofs.Common.{◌≡◌, ℕ, ◌<◌, Bool, true, false, cond, ◌&&◌, nat_lt, List, [], ◌∷◌, flat_map, refl, sym, ap, subst, ◌∙◌, append-nil}
use Rattle.std.specs.List.{AllByRecursion}
use Rattle.std.specs.List.Sorted.{IsPermutation}
use Rattle.std.specs.Ordering.{is_eq, nat_cmp, ordering_then}
use Rattle.std.specs.declared.cmp.Ordering.{Ordering}
use Rattle.std.specs.declared.cmp.Ordering.TheVariants.{Less, Equal, Greater}
use Rattle.std.proofs.lemmas.Cmp.{ranked}
use Rattle.std.proofs.lemmas.List.Elements.{recursion_from_All}
use Rattle.std.proofs.lemmas.List.Sorted.{IsPermutation-refl}
use Rattle.lsm_below.specs.Keys.{Bytes, bytes_cmp}
use Rattle.lsm_below.specs.Entries.{Entry, entry_cmp, stack, keep, IsFalling}
use Rattle.lsm_below.specs.Sorted.{Rises}
use Rattle.lsm_below.specs.Streams.{IsInOrder, is_of, Merges}
use Rattle.lsm_below.specs.Slots.{same_key}
use Rattle.lsm_below.specs.FilterLaws.{filter_none}
use Rattle.lsm_below.specs.Kept.{HidesNone, IsKeptOf}
use Rattle.lsm_below.specs.KeptLaws.{ascends}
use Rattle.lsm_below.proofs.Orders.{ascends_filter}
use Rattle.lsm_below.proofs.OneKey.{same_of, same_from, none_later}
use Rattle.lsm_below.proofs.Bridge.{distinct_falling, settled}

-- ---- of each key

not_below : (b : Bool) (same : Bool) → same ≡ true → (b && same) ≡ false → b ≡ false
not_below true same is h = sym is ∙ h
not_below false same is h = refl

alone : (w : ℕ) (e : Entry) (xs : List Entry) → xs ≡ [] → keep w false (e ∷ xs) ≡ e ∷ xs
alone w e xs none = ap (λ l. keep w false (e ∷ l)) none ∙ ap (λ l. e ∷ l) (sym none)

in_front : (w : ℕ) (e f : Entry) (xs : List Entry) → nat_lt f.key.seqno w ≡ false → keep w false (f ∷ xs) ≡ f ∷ xs → keep w false (e ∷ (f ∷ xs)) ≡ e ∷ (f ∷ xs)
in_front w e f xs above ih = rw above (ap (λ l. e ∷ l) ih)

-- where no entry is hidden, all of each key is kept
pub keeps_all : (w : ℕ) (k : Bytes) (es : List Entry) → IsInOrder es → HidesNone w es → keep w false (stack k es) ≡ stack k es
keeps_all w k [] order none = refl
keeps_all w k (e ∷ []) order none = elim (is_of k e) as (λ b. keep w false (cond b (e ∷ []) []) ≡ cond b (e ∷ []) []) [ true ↦ refl | false ↦ refl ]
keeps_all w k (e ∷ (f ∷ es)) order none = go (keeps_all w k (f ∷ es) order.1 none.1) (is_of k e) refl
  where
    first : keep w false (stack k (f ∷ es)) ≡ stack k (f ∷ es) → (b : Bool) → same_key e f ≡ b → is_of k e ≡ true → keep w false (e ∷ stack k (f ∷ es)) ≡ e ∷ stack k (f ∷ es)
    first ih true same of_k =
        let next : is_of k f ≡ true = same_of k e f same ∙ of_k in
        let opened : stack k (f ∷ es) ≡ f ∷ stack k es = ap (λ b. cond b (f ∷ stack k es) (stack k es)) next in
        let above = not_below (nat_lt f.key.seqno w) (same_key e f) same none.0 in
        let rest : keep w false (f ∷ stack k es) ≡ f ∷ stack k es = ap (keep w false) (sym opened) ∙ ih ∙ opened in
        ap (λ l. keep w false (e ∷ l)) opened ∙ in_front w e f (stack k es) above rest ∙ ap (λ l. e ∷ l) (sym opened)
    first ih false other of_k = alone w e (stack k (f ∷ es)) (filter_none (is_of k) (f ∷ es) (none_later k e f es of_k other order))

    go : keep w false (stack k (f ∷ es)) ≡ stack k (f ∷ es) → (b : Bool) → is_of k e ≡ b → keep w false (cond b (e ∷ stack k (f ∷ es)) (stack k (f ∷ es))) ≡ cond b (e ∷ stack k (f ∷ es)) (stack k (f ∷ es))
    go ih true of_k = first ih (same_key e f) refl of_k
    go ih false other = ih

-- ---- numbers fall

lower : (r : Ordering) (m n : ℕ) → is_eq r ≡ true → ordering_then r (nat_cmp n m) ≡ Less → n < m
lower Less m n same h = absurd (cc same)
lower Equal m n same h = ranked n m Less (sym h)
lower Greater m n same h = absurd (cc same)

each_falls : (k : Bytes) (e : Entry) (es : List Entry) → is_of k e ≡ true → AllByRecursion (λ f. entry_cmp e f ≡ Less) es → AllByRecursion (λ f. f.key.seqno < e.key.seqno) (stack k es)
each_falls k e [] of_k h = tt
each_falls k e (f ∷ es) of_k h = go (each_falls k e es of_k h.1) (is_of k f) refl
  where
    go : AllByRecursion (λ g. g.key.seqno < e.key.seqno) (stack k es) → (b : Bool) → is_of k f ≡ b → AllByRecursion (λ g. g.key.seqno < e.key.seqno) (cond b (f ∷ stack k es) (stack k es))
    go later true next = (lower (bytes_cmp e.key.user_key f.key.user_key) e.key.seqno f.key.seqno (same_from k e f of_k next) h.0, later)
    go later false other = later

pub stack_falling : (k : Bytes) (es : List Entry) → Rises entry_cmp es → IsFalling (stack k es)
stack_falling k [] h = tt
stack_falling k (e ∷ es) h = go (stack_falling k es h.1) (is_of k e) refl
  where
    go : IsFalling (stack k es) → (b : Bool) → is_of k e ≡ b → IsFalling (cond b (e ∷ stack k es) (stack k es))
    go later true of_k = (each_falls k e es of_k (recursion_from_All (λ f. entry_cmp e f ≡ Less) es h.0), later)
    go later false other = later

-- ---- all is kept

one_merges : (k : Bytes) (es : List Entry) → IsInOrder es → Merges (stack k es ∷ []) (stack k es)
one_merges k es order = record {
  same = subst (λ l. IsPermutation l (stack k es)) (sym (append-nil (stack k es))) (IsPermutation-refl (stack k es));
  in_order = ascends_filter entry_cmp (is_of k) es order;
}

pub all_kept : (w : ℕ) (es : List Entry) → Rises entry_cmp es → HidesNone w es → IsKeptOf (es ∷ []) w false es
all_kept w es rises none =
    let order = ascends es rises in
    let whole : flat_map (λ l. l) (es ∷ []) ≡ es = append-nil es in
    let kept : (k : Bytes) → stack k es ≡ keep w false (stack k es) = λ k. sym (keeps_all w k es order none) in
    record {
      merged = record {
        merged = es;
        merges = record { same = subst (λ l. IsPermutation l es) (sym whole) (IsPermutation-refl es); in_order = order };
        kept = record { in_order = order; stacks = λ k. kept k ∙ ap (keep w false) (sym (distinct_falling (stack k es) (stack_falling k es rises))) };
      };
      ordered = λ _ k. kept k ∙ ap (λ l. keep w false (stack k l)) (sym whole);
      in_any_order = λ k xs falls perm. kept k ∙ ap (keep w false) (settled k es (stack k es ∷ []) xs order (one_merges k es order) falls perm);
    }
