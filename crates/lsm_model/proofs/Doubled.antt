-- Keys that come twice.
use Rattle.std.proofs.Common.{arith, ◌≡◌, ℕ, ◌+◌, ◌<◌, length, get_or, take, drop, Bool, true, false, ◌||◌, not, cond, List, [], ◌∷◌, ◌++◌, refl, sym, ap, ◌∙◌}
use Rattle.std.specs.Borrow.{Bor}
use Rattle.std.specs.List.{list_any}
use Rattle.std.proofs.lemmas.List.{take_more, map-append, take-append-drop}
use Rattle.lsm_model.specs.declared.op.Op.{Op}
use Rattle.std.specs.declared.cmp.Ordering.{Ordering}
use Rattle.lsm_below.specs.Orders.{same_swap}
use Rattle.lsm_below.specs.Keys.{Bytes, bytes_cmp, is_same}
use Rattle.lsm_model.specs.Ops.{repeats, keys_of}

-- the order of keys that are borrowed
abbrev pub keys_cmp : Bor Bytes → Bor Bytes → Ordering
keys_cmp a b = bytes_cmp a.now b.now

any-append : (p : Bytes → Bool) (xs ys : List Bytes) → list_any p (xs ++ ys) ≡ (list_any p xs || list_any p ys)
any-append p [] ys = refl
any-append p (x ∷ xs) ys = ap (λ b. p x || b) (any-append p xs ys) ∙ or_assoc (p x) (list_any p xs) (list_any p ys)
  where
    or_assoc : (a b c : Bool) → (a || (b || c)) ≡ ((a || b) || c)
    or_assoc true b c = refl
    or_assoc false b c = refl

regroup : (a b c d : Bool) → ((a || (b || false)) || (c || d)) ≡ ((b || c) || (a || d))
regroup true true c d = refl
regroup true false true d = refl
regroup true false false d = refl
regroup false true c d = refl
regroup false false true d = refl
regroup false false false d = refl

-- one more key
pub repeats-push : (xs : List Bytes) (k : Bytes) → repeats (xs ++ k ∷ []) ≡ (list_any (is_same k) xs || repeats xs)
repeats-push [] k = refl
repeats-push (x ∷ xs) k =
    ap (λ b. b || repeats (xs ++ k ∷ [])) (any-append (is_same x) xs (k ∷ []))
    ∙ ap (λ b. (list_any (is_same x) xs || (is_same x k || false)) || b) (repeats-push xs k)
    ∙ ap (λ b. (list_any (is_same x) xs || (b || false)) || (list_any (is_same k) xs || repeats xs)) (same_swap x k)
    ∙ regroup (list_any (is_same x) xs) (is_same k x) (list_any (is_same k) xs) (repeats xs)

either : (a b c : Bool) → (a || b) ≡ true → (b ≡ true → c ≡ true) → (a || c) ≡ true
either true b c h f = refl
either false b c h f = f h

more : (p : Bytes → Bool) (xs ys : List Bytes) (b : Bool) → (list_any p xs || b) ≡ true → (list_any p (xs ++ ys) || b) ≡ true
more p xs ys b h = ap (λ a. a || b) (any-append p xs ys) ∙ go (list_any p xs) (list_any p ys) b h
  where
    go : (a c d : Bool) → (a || d) ≡ true → ((a || c) || d) ≡ true
    go true c d h = refl
    go false true d h = refl
    go false false d h = h

-- what comes twice at the front comes twice
pub repeats_front : (xs ys : List Bytes) → repeats xs ≡ true → repeats (xs ++ ys) ≡ true
repeats_front [] ys h = absurd (cc h)
repeats_front (x ∷ xs) ys h = either (list_any (is_same x) (xs ++ ys)) (repeats xs) (repeats (xs ++ ys)) (more (is_same x) xs ys (repeats xs) h) (repeats_front xs ys)

-- a set of keys that takes one more
pub grown : (keys : List Bytes) (k q : Bytes) (old new : Bool) → new ≡ cond (is_same k q) true old → old ≡ list_any (is_same q) keys → new ≡ list_any (is_same q) (keys ++ k ∷ [])
grown keys k q old new is was =
    is ∙ ap (λ b. cond (is_same k q) true b) was ∙ ap (λ b. cond b true (list_any (is_same q) keys)) (same_swap k q) ∙ go (list_any (is_same q) keys) (is_same q k) ∙ sym (any-append (is_same q) keys (k ∷ []))
  where
    go : (a b : Bool) → cond b true a ≡ (a || (b || false))
    go true true = refl
    go true false = refl
    go false true = refl
    go false false = refl

-- a key that is new doesn't repeat another one
pub still_once : (keys : List Bytes) (k : Bytes) (held : Bool) → not held ≡ true → held ≡ list_any (is_same k) keys → repeats keys ≡ false → repeats (keys ++ k ∷ []) ≡ false
still_once keys k held new is once = repeats-push keys k ∙ ap (λ b. b || repeats keys) (sym is ∙ absent held new) ∙ once
  where
    absent : (b : Bool) → not b ≡ true → b ≡ false
    absent true h = absurd (cc h)
    absent false h = refl

-- a key that is there does
pub comes_twice : (keys more : List Bytes) (k : Bytes) (held : Bool) → not held ≡ false → held ≡ list_any (is_same k) keys → repeats ((keys ++ k ∷ []) ++ more) ≡ true
comes_twice keys more k held old is = repeats_front (keys ++ k ∷ []) more (repeats-push keys k ∙ ap (λ b. b || repeats keys) (sym is ∙ present held old))
  where
    present : (b : Bool) → not b ≡ false → b ≡ true
    present true h = refl
    present false h = absurd (cc h)

-- the keys so far, and one more
pub keys_more : (ops : List (Bytes × Op)) (i : ℕ) (x : Bytes × Op) (k : Bytes) → i < length ops → x ≡ get_or ops i x → k ≡ x.0 → keys_of (take (i + 1) ops) ≡ keys_of (take i ops) ++ k ∷ []
keys_more ops i x k lt is key =
    ap keys_of (take_more ops i x lt ∙ ap (λ y. take i ops ++ y ∷ []) (sym is)) ∙ map-append (λ (p : Bytes × Op). p.0) (take i ops) (x ∷ []) ∙ ap (λ z. keys_of (take i ops) ++ z ∷ []) (sym key)

-- all keys are those so far, one more, and the rest
pub keys_whole : (ops : List (Bytes × Op)) (i : ℕ) (x : Bytes × Op) (k : Bytes) → i < length ops → x ≡ get_or ops i x → k ≡ x.0 → (keys_of (take i ops) ++ k ∷ []) ++ keys_of (drop (i + 1) ops) ≡ keys_of ops
keys_whole ops i x k lt is key =
    ap (λ l. l ++ keys_of (drop (i + 1) ops)) (sym (keys_more ops i x k lt is key)) ∙ sym (map-append (λ (p : Bytes × Op). p.0) (take (i + 1) ops) (drop (i + 1) ops)) ∙ ap keys_of (take-append-drop (i + 1) ops)

-- a single key doesn't repeat
pub few_once : (ops : List (Bytes × Op)) → length ops < 2 → repeats (keys_of ops) ≡ false
few_once [] lt = refl
few_once (x ∷ []) lt = refl
few_once (x ∷ (y ∷ ops)) lt = absurd (omega arith)
