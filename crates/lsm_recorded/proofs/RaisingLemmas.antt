-- Marks that are raised, and taken back.
use Rattle.std.proofs.Common.{◌≡◌, ◌⊎◌, inl, inr, ⊎_elim, ℕ, suc, ◌+◌, ◌<◌, Bool, true, false, cond, ◌&&◌, ◌||◌, nat_le, List, [], ◌∷◌, ◌++◌, take, drop, length, get_or, IsSome, Result, Ok, Err, IsErrOf, ◌↔◌, refl, sym, ap, ◌∙◌, subst, arith}
use Rattle.std.specs.BTreeMap as tree
use Rattle.std.specs.BTreeMap.{BTreeMap}
use Rattle.std.specs.List.{list_any, list_all}
use Rattle.std.proofs.Math.Seq.{take-suc, split_at}
use Rattle.std.proofs.lemmas.List.{map-append}
use Rattle.std.proofs.lemmas.List.Folds.{list_any-append, list_all-append}
use Rattle.lsm_below.specs.Each.{each_append, each_left, each_right}
use Rattle.lsm_below.specs.Orders.{same_swap}
use Rattle.lsm_below.specs.Keys.{Bytes, is_same}
use Rattle.lsm_below.specs.Entries.{Entry}
use Rattle.lsm_below.specs.declared.error.Error.{Error}
use Rattle.lsm_below.specs.declared.error.Error.TheVariants.{OutOfOrder}
use Rattle.lsm_below.specs.declared.value_type.ValueType.{ValueType}
use Rattle.lsm_below.specs.declared.value_type.ValueType.TheVariants.{Value, Tombstone, WeakTombstone}
use Rattle.lsm_model.specs.Ops.{op_entry, op_entries, keys_of, repeats}
use Rattle.lsm_model.specs.declared.op.Op.{Op}
use Rattle.lsm_model.specs.declared.op.Op.TheVariants.{Set, Del, Weak}
use Rattle.lsm_model.proofs.Counted.{or_true}
use Rattle.lsm_recorded.specs.Headed.{headed_cmp}
use Rattle.lsm_recorded.specs.declared.marks.Mark.{Mark}
use Rattle.lsm_recorded.specs.Marks.{mark_of, marked, marked_by, marked_all, next_mark, mark_allows, kind_allows, op_type, op_allowed}
use Rattle.lsm_recorded.specs.Raising.{restored, AreThere}
use Rattle.lsm_recorded.proofs.MarksLemmas.{both, le_of, marked_by_same}
use Rattle.lsm_versions.proofs.Walks.{same_key}

-- ---- what isn't raised

pub not_all : {E : Type 0} (r : Result Bool E) (b : Bool) → r ≡ Ok b → b ≡ false → r ≡ Ok true → ⊥
not_all r true is fails all = absurd (cc fails)
not_all r false is fails all = absurd (cc (is, all))

pub not_short : {E : Type 0} (r : Result Bool E) (x : E) → r ≡ Err x → r ≡ Ok true → ⊥
not_short r x is all = absurd (cc (is, all))

-- a refusal that is handed on says what it said
pub handed_on : {A B : Type 0} (r : Result A Error) (s : Result B Error) (x y : Error) (b : Bool) → r ≡ Err x → s ≡ Err y → y ≡ x → (IsErrOf r OutOfOrder ↔ (b ≡ false)) → (IsErrOf s OutOfOrder ↔ (b ≡ false))
handed_on r s x y b was is same told = (
  λ q. told.0 (was ∙ ap Err (sym same ∙ (let e : y ≡ OutOfOrder = cc (is, q) in e))),
  λ q. let e : x ≡ OutOfOrder = cc (was, told.1 q) in is ∙ ap Err (same ∙ e),
)

-- keys with marks
abbrev Pairs : Type 0
Pairs = List (Bytes × Mark)

-- ---- taken back

restored_last : (raised : Pairs) (x : Bytes × Mark) (marks : Bytes → Mark) (q : Bytes) → restored (raised ++ x ∷ []) marks q ≡ restored raised (marked marks x.0 x.1) q
restored_last [] x marks q = refl
restored_last (y ∷ raised) x marks q = ap (λ m. cond (is_same q y.0) y.1 m) (restored_last raised x marks q)

pub restored_same : (raised : Pairs) (f g : Bytes → Mark) → ((q : Bytes) → f q ≡ g q) → (q : Bytes) → restored raised f q ≡ restored raised g q
restored_same [] f g same q = same q
restored_same (y ∷ raised) f g same q = ap (λ m. cond (is_same q y.0) y.1 m) (restored_same raised f g same q)

-- the one that was raised last is taken back
restored_less : (raised all : Pairs) (x : Bytes × Mark) (old new : Bytes → Mark) → all ≡ raised ++ x ∷ [] → ((q : Bytes) → new q ≡ marked old x.0 x.1 q) → (q : Bytes) → restored all old q ≡ restored raised new q
restored_less raised all x old new is set q = ap (λ l. restored l old q) is ∙ restored_last raised x old q ∙ restored_same raised (marked old x.0 x.1) new (λ k. sym (set k)) q

raised_back : (f : Bytes → Mark) (k : Bytes) (w : Mark) (q : Bytes) → marked (marked f k w) k (f k) q ≡ f q
raised_back f k w q = elim (is_same q k) as (λ b. is_same q k ≡ b → cond b (f k) (cond b w (f q)) ≡ f q) [ true ↦ λ e. ap f (sym (same_key q k e)) | false ↦ λ e. refl ] refl

-- one more is raised
pub restored_more : (raised all : Pairs) (old now new : Bytes → Mark) (k : Bytes) (w : Mark) → all ≡ raised ++ (k, now k) ∷ [] → ((q : Bytes) → new q ≡ marked now k w q) → ((q : Bytes) → restored raised now q ≡ old q) → (q : Bytes) → restored all new q ≡ old q
restored_more raised all old now new k w is set before q =
    ap (λ l. restored l new q) is ∙ restored_last raised (k, now k) new q
    ∙ restored_same raised (marked new k (now k)) now (λ z. ap (λ m. cond (is_same z k) (now k) m) (set z) ∙ raised_back now k w z) q ∙ before q

-- ---- keys that have a mark

pub there_kept : (old new : BTreeMap Bytes Mark) (raised : Pairs) → ((q : Bytes) → IsSome (tree.get headed_cmp old q) → IsSome (tree.get headed_cmp new q)) → AreThere old raised → AreThere new raised
there_kept old new [] kept h = tt
there_kept old new (x ∷ raised) kept h = (kept x.0 h.0, there_kept old new raised kept h.1)

pub there_more : (marks : BTreeMap Bytes Mark) (raised all : Pairs) (x : Bytes × Mark) → all ≡ raised ++ x ∷ [] → AreThere marks raised → IsSome (tree.get headed_cmp marks x.0) → AreThere marks all
there_more marks raised all x is h one = subst (AreThere marks) (sym is) (each_append (λ (p : Bytes × Mark). IsSome (tree.get headed_cmp marks p.0)) raised (x ∷ []) h (one, tt))

there_less : (marks : BTreeMap Bytes Mark) (raised all : Pairs) (x : Bytes × Mark) → all ≡ raised ++ x ∷ [] → AreThere marks all → AreThere marks raised × IsSome (tree.get headed_cmp marks x.0)
there_less marks raised all x is h =
    let P = λ (p : Bytes × Mark). IsSome (tree.get headed_cmp marks p.0) in
    let all_there = subst (AreThere marks) is h in
    (each_left P raised (x ∷ []) all_there, (each_right P raised (x ∷ []) all_there).0)

-- what the marks were is the same of those that are left
pub taken_back : (first : Pairs) (f : Bytes → Mark) (old new : BTreeMap Bytes Mark) (rest all : Pairs) (x : Bytes × Mark) → all ≡ rest ++ x ∷ []
    → ((q : Bytes) → mark_of new q ≡ marked (mark_of old) x.0 x.1 q) → ((q : Bytes) → IsSome (tree.get headed_cmp old q) → IsSome (tree.get headed_cmp new q))
    → ((q : Bytes) → restored first f q ≡ restored all (mark_of old) q) → AreThere old all
    → ((q : Bytes) → restored first f q ≡ restored rest (mark_of new) q) × AreThere new rest
taken_back first f old new rest all x is set kept before there = (
  λ q. before q ∙ restored_less rest all x (mark_of old) (mark_of new) is set q,
  there_kept old new rest kept (there_less old rest all x is there).0,
)

-- ---- the marks of a batch

marked_all_last : (es : List Entry) (e : Entry) (f : Bytes → Mark) (q : Bytes) → marked_all (es ++ e ∷ []) f q ≡ marked_by e (marked_all es f) q
marked_all_last [] e f q = refl
marked_all_last (x ∷ es) e f q = marked_all_last es e (marked_by x f) q

module _ (n : ℕ) (ops : List (Bytes × Op)) (i : ℕ) (p : Bytes × Op) (lt : i < length ops) (is : p ≡ get_or ops i p) where
  -- the first writes, and one more
  first_more : take (i + 1) ops ≡ take i ops ++ p ∷ []
  first_more = ap (λ j. take j ops) (let e : i + 1 ≡ suc i = omega arith in e) ∙ take-suc ops i p lt ∙ ap (λ x. take i ops ++ x ∷ []) (sym is)

  whole : ops ≡ take i ops ++ p ∷ drop (suc i) ops
  whole = split_at ops i p lt ∙ ap (λ x. take i ops ++ x ∷ drop (suc i) ops) (sym is)

  pub keys_more : keys_of (take (i + 1) ops) ≡ keys_of (take i ops) ++ p.0 ∷ []
  keys_more = ap keys_of first_more ∙ map-append (λ (x : Bytes × Op). x.0) (take i ops) (p ∷ [])

  pub marked_more : (f now new : Bytes → Mark) → ((q : Bytes) → now q ≡ marked_all (op_entries n (take i ops)) f q) → ((q : Bytes) → new q ≡ marked now p.0 (next_mark (now p.0) n (op_type p.1)) q) → (q : Bytes) → new q ≡ marked_all (op_entries n (take (i + 1) ops)) f q
  marked_more f now new before set q =
      let es = op_entries n (take i ops) in
      set q ∙ by_type p.1 ∙ marked_by_same now (marked_all es f) (op_entry p.0 n p.1) before q ∙ sym (marked_all_last es (op_entry p.0 n p.1) f q)
      ∙ ap (λ l. marked_all l f q) (sym (ap (op_entries n) first_more ∙ map-append (λ (x : Bytes × Op). op_entry x.0 n x.1) (take i ops) (p ∷ [])))
    where
      by_type : (op : Op) → marked now p.0 (next_mark (now p.0) n (op_type op)) q ≡ marked_by (op_entry p.0 n op) now q
      by_type (Set value) = refl
      by_type Del = refl
      by_type Weak = refl

  -- ---- a key that comes twice

  -- of a batch in order each write is
  one_of_all : (old : Bytes → Mark) (low : ℕ) → list_all (op_allowed old low n) ops ≡ true → op_allowed old low n p ≡ true
  one_of_all old low all =
      let f = op_allowed old low n in
      let parts = both (list_all f (take i ops)) (list_all f (p ∷ drop (suc i) ops)) (sym (ap (list_all f) whole ∙ list_all-append f (take i ops) (p ∷ drop (suc i) ops)) ∙ all) in
      (both (f p) (list_all f (drop (suc i) ops)) parts.1).0

-- marks are what they were but for those of these keys, which this number is no more above
abbrev pub IsApart : ℕ → List Bytes → (Bytes → Mark) → (Bytes → Mark) → Bytes → Type 0
IsApart n keys old new q = (new q ≡ old q) ⊎ ((n < (new q).next) × (list_any (is_same q) keys ≡ true))

or_left : (a b : Bool) → a ≡ true → (a || b) ≡ true
or_left true b h = refl
or_left false b h = absurd (cc h)

next_above : (m : Mark) (n : ℕ) (kind : ValueType) → n < (next_mark m n kind).next
next_above m n Value = omega arith
next_above m n Tombstone = omega arith
next_above m n WeakTombstone = omega arith

pub apart_more : (n : ℕ) (keys all : List Bytes) (k : Bytes) (kind : ValueType) (old now new : Bytes → Mark) → all ≡ keys ++ k ∷ [] → ((q : Bytes) → IsApart n keys old now q) → ((q : Bytes) → new q ≡ marked now k (next_mark (now k) n kind) q) → (q : Bytes) → IsApart n all old new q
apart_more n keys all k kind old now new is before set q =
    elim (is_same q k) as (λ b. is_same q k ≡ b → IsApart n all old new q) [
      | true ↦ λ e.
          let put : new q ≡ next_mark (now k) n kind = set q ∙ ap (λ b. cond b (next_mark (now k) n kind) (now q)) e in
          inr (
            subst (λ (m : Mark). n < m.next) (sym put) (next_above (now k) n kind),
            ap (list_any (is_same q)) is ∙ list_any-append (is_same q) keys (k ∷ []) ∙ ap (λ b. list_any (is_same q) keys || (b || false)) e ∙ or_true (list_any (is_same q) keys),
          )
      | false ↦ λ e.
          let stays : new q ≡ now q = set q ∙ ap (λ b. cond b (next_mark (now k) n kind) (now q)) e in
          ⊎_elim (λ same. inl (stays ∙ same))
          (λ h. inr (subst (λ (m : Mark). n < m.next) (sym stays) h.0, ap (list_any (is_same q)) is ∙ list_any-append (is_same q) keys (k ∷ []) ∙ or_left (list_any (is_same q) keys) (list_any (is_same q) (k ∷ [])) h.1))
          (before q)
    ] refl

-- what marks allow now they allowed before
pub allowed_before : (n low : ℕ) (keys : List Bytes) (p : Bytes × Op) (old now : Bytes → Mark) → IsApart n keys old now p.0 → op_allowed now low n p ≡ true → op_allowed old low n p ≡ true
allowed_before n low keys p old now apart h =
    ⊎_elim (λ (same : now p.0 ≡ old p.0). ap (λ m. nat_le low n && mark_allows m n (op_type p.1)) (sym same) ∙ h)
    (λ (up : (n < (now p.0).next) × (list_any (is_same p.0) keys ≡ true)).
    let allows = (both (nat_le low n) (mark_allows (now p.0) n (op_type p.1)) h).1 in
    let least = le_of (now p.0).next n (both (nat_le (now p.0).next n) (kind_allows (now p.0) (op_type p.1)) allows).0 in
    let above = up.0 in
    absurd (omega arith))
    apart

comes_twice : (xs : List Bytes) (k : Bytes) (ys : List Bytes) → list_any (is_same k) xs ≡ true → repeats (xs ++ k ∷ ys) ≡ true
comes_twice [] k ys h = absurd (cc h)
comes_twice (x ∷ xs) k ys h =
    elim (is_same k x) as (λ b. is_same k x ≡ b → repeats (x ∷ (xs ++ k ∷ ys)) ≡ true) [
      | true ↦ λ e. or_left (list_any (is_same x) (xs ++ k ∷ ys)) (repeats (xs ++ k ∷ ys)) (list_any-append (is_same x) xs (k ∷ ys) ∙ ap (λ b. list_any (is_same x) xs || (b || list_any (is_same x) ys)) (same_swap x k ∙ e) ∙ or_true (list_any (is_same x) xs))
      | false ↦ λ e. ap (λ b. list_any (is_same x) (xs ++ k ∷ ys) || b) (comes_twice xs k ys (sym (ap (λ b. b || list_any (is_same k) xs) e) ∙ h)) ∙ or_true (list_any (is_same x) (xs ++ k ∷ ys))
    ] refl

-- a write that marks forbid that were raised, and not before, is of a key that comes twice
pub stopped : (n : ℕ) (ops : List (Bytes × Op)) (i : ℕ) (p : Bytes × Op) → i < length ops → p ≡ get_or ops i p → (low : ℕ) (old now : Bytes → Mark) → IsApart n (keys_of (take i ops)) old now p.0 → op_allowed now low n p ≡ false → list_all (op_allowed old low n) ops ≡ true → repeats (keys_of ops) ≡ true
stopped n ops i p lt is low old now apart forbids all =
    ⊎_elim (λ (same : now p.0 ≡ old p.0).
    let allows : op_allowed now low n p ≡ true = ap (λ m. nat_le low n && mark_allows m n (op_type p.1)) same ∙ one_of_all n ops i p lt is old low all in
    absurd (cc (allows, forbids)))
    (λ (up : (n < (now p.0).next) × (list_any (is_same p.0) (keys_of (take i ops)) ≡ true)).
    ap repeats (ap keys_of (whole n ops i p lt is) ∙ map-append (λ (x : Bytes × Op). x.0) (take i ops) (p ∷ drop (suc i) ops)) ∙ comes_twice (keys_of (take i ops)) p.0 (keys_of (drop (suc i) ops)) up.1)
    apart

-- marks that are the same allow the same
pub allowed_same : (f g : Bytes → Mark) (low n : ℕ) (ops : List (Bytes × Op)) → ((q : Bytes) → f q ≡ g q) → list_all (op_allowed f low n) ops ≡ list_all (op_allowed g low n) ops
allowed_same f g low n [] same = refl
allowed_same f g low n (p ∷ ops) same =
    ap (λ m. (nat_le low n && mark_allows m n (op_type p.1)) && list_all (op_allowed f low n) ops) (same p.0) ∙ ap (λ b. (nat_le low n && mark_allows (g p.0) n (op_type p.1)) && b) (allowed_same f g low n ops same)
