-- Entries of one key, in a list in order.
use Rattle.std.specs.Cmp.{Equal-is}
use Rattle.std.proofs.Common.{◌≡◌, ℕ, ◌<◌, ◌≤◌, true, false, cond, List, [], ◌∷◌, refl, sym, ap, ◌∙◌, arith}
use Rattle.std.specs.List.{AllByRecursion}
use Rattle.std.specs.Cmp.Lexicographic.{slice_cmp}
use Rattle.std.specs.declared.cmp.Ordering.{Ordering}
use Rattle.std.specs.declared.cmp.Ordering.TheVariants.{Less, Equal, Greater}
use Rattle.std.specs.Ordering.{nat_cmp, is_le, is_eq, ordering_then}
use Rattle.std.proofs.lemmas.Cmp.{nat_list_cmp_total, alike_right, ranked}
use Rattle.lsm_below.specs.declared.value.InternalValue.{InternalValue}
use Rattle.lsm_below.specs.Entries.{entry_cmp, stack}
use Rattle.lsm_below.specs.Streams.{IsInOrder, is_of}
use Rattle.lsm_below.specs.Slots.{same_key}
use Rattle.lsm_below.specs.Each.{each_weaker}

-- the order of keys
abbrev texts : List ℕ → List ℕ → Ordering
texts = slice_cmp nat_cmp

-- entries of one key are of any key alike
pub same_of : (k : List ℕ) (e f : InternalValue) → same_key e f ≡ true → is_of k f ≡ is_of k e
same_of k e f h = ap is_eq (sym (alike_right nat_list_cmp_total e.key.user_key f.key.user_key k ((Equal-is (texts e.key.user_key f.key.user_key)).0 h)))

key_rises : (r : Ordering) (n : Ordering) → is_le (ordering_then r n) ≡ true → (r ≡ Equal → ⊥) → r ≡ Less
key_rises Less n h apart = refl
key_rises Equal n h apart = absurd (apart refl)
key_rises Greater n h apart = absurd (cc h)

-- a later entry of another key has a greater key
above_key : (e f : InternalValue) → is_le (entry_cmp e f) ≡ true → same_key e f ≡ false → texts e.key.user_key f.key.user_key ≡ Less
above_key e f h other =
    key_rises (texts e.key.user_key f.key.user_key) (nat_cmp f.key.seqno e.key.seqno) h
    (λ q. let same : same_key e f ≡ true = ap is_eq q in let bad : true ≡ false = sym same ∙ other in cc bad)

less_on : (a b c : List ℕ) (r n : Ordering) → texts a b ≡ Less → texts b c ≡ r → is_le (ordering_then r n) ≡ true → texts a c ≡ Less
less_on a b c Less n h q le = nat_list_cmp_total.trans a b c h q
less_on a b c Equal n h q le = sym (alike_right nat_list_cmp_total b c a q) ∙ h
less_on a b c Greater n h q le = absurd (cc le)

apart : (k : List ℕ) (e g : InternalValue) → is_of k e ≡ true → texts e.key.user_key g.key.user_key ≡ Less → is_of k g ≡ false
apart k e g ke less =
    let up : texts k g.key.user_key ≡ Less = nat_list_cmp_total.congr k e.key.user_key g.key.user_key ((Equal-is (texts k e.key.user_key)).0 ke) ∙ less in
    ap is_eq up

-- once the key has changed, it doesn't come back
pub none_later : (k : List ℕ) (e f : InternalValue) (es : List InternalValue) → is_of k e ≡ true → same_key e f ≡ false → IsInOrder (e ∷ (f ∷ es)) → AllByRecursion (λ g. is_of k g ≡ false) (f ∷ es)
none_later k e f es ke other h =
    let less = above_key e f h.0.0 other in
    (apart k e f ke less, each_weaker (λ g. is_le (entry_cmp f g) ≡ true) (λ g. is_of k g ≡ false) (λ g le. apart k e g ke (less_on e.key.user_key f.key.user_key g.key.user_key (texts f.key.user_key g.key.user_key) (nat_cmp g.key.seqno f.key.seqno) less refl le)) es h.1.0)

falls : (r : Ordering) (m n : ℕ) → is_eq r ≡ true → is_le (ordering_then r (nat_cmp n m)) ≡ true → n ≤ m
falls Less m n q h = absurd (cc q)
falls Equal m n q h = go (nat_cmp n m) refl h
  where
    go : (o : Ordering) → o ≡ nat_cmp n m → is_le o ≡ true → n ≤ m
    go Less e h = let l : n < m = ranked n m Less e in omega arith
    go Equal e h = let l : n ≡ m = ranked n m Equal e in omega arith
    go Greater e h = absurd (cc h)
falls Greater m n q h = absurd (cc q)

-- under one key the sequence numbers fall
pub number_falls : (e f : InternalValue) → same_key e f ≡ true → is_le (entry_cmp e f) ≡ true → f.key.seqno ≤ e.key.seqno
number_falls e f same le = falls (texts e.key.user_key f.key.user_key) e.key.seqno f.key.seqno same le

-- two entries of one key
pub same_from : (k : List ℕ) (e f : InternalValue) → is_of k e ≡ true → is_of k f ≡ true → same_key e f ≡ true
same_from k e f ke kf = ap is_eq (sym (nat_list_cmp_total.congr k e.key.user_key f.key.user_key ((Equal-is (texts k e.key.user_key)).0 ke))) ∙ kf

-- the numbers of a key's later entries
pub stack_falls : (k : List ℕ) (e : InternalValue) (es : List InternalValue) → is_of k e ≡ true → AllByRecursion (λ g. is_le (entry_cmp e g) ≡ true) es → AllByRecursion (λ g. g.key.seqno ≤ e.key.seqno) (stack k es)
stack_falls k e [] ke h = tt
stack_falls k e (f ∷ es) ke h =
    elim (is_of k f) as (λ b. is_of k f ≡ b → AllByRecursion (λ g. g.key.seqno ≤ e.key.seqno) (cond b (f ∷ stack k es) (stack k es))) [
      | true ↦ λ q. (number_falls e f (same_from k e f ke q) h.0, stack_falls k e es ke h.1)
      | false ↦ λ q. stack_falls k e es ke h.1
    ] refl
