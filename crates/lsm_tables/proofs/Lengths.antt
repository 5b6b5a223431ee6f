-- How many bytes an image has.
use Rattle.std.proofs.Common.{◌≡◌, ℕ, ◌+◌, ◌≤◌, List, [], ◌∷◌, ◌++◌, length, take, drop, refl, sym, ap, ◌∙◌, arith}
use Rattle.std.proofs.Math.Seq.{drop-append_seam, drop-length}
use Rattle.std.specs.List.{flat_map}
use Rattle.std.proofs.lemmas.List.{append-nil, length-append, take_all}
use Rattle.std.proofs.lemmas.List.Concat.{flat_map-cons}
use Rattle.std.proofs.lemmas.List.Sums.{sum_by-cons}
use Rattle.lsm_below.specs.Keys.{Bytes}
use Rattle.lsm_below.specs.Entries.{Entry}
use Rattle.lsm_tables.specs.Image.{head, front, spelled, image, entry_bytes}
use Rattle.lsm_below.specs.declared.value_type.ValueType.{ValueType}

pub length_head : (a b : ℕ) (k : ValueType) (d : ℕ) → length (head a b k d) ≡ 15
unfolding head
length_head a b k d = refl

length_front : (m c : ℕ) → length (front m c) ≡ 20
unfolding front
length_front m c = refl

pub length_spelled : (e : Entry) → length (spelled e) ≡ 15 + length e.key.user_key + length e.value
length_spelled e =
    let top = head (length e.key.user_key) e.key.seqno e.key.value_type (length e.value) in
    let a = length-append top (e.key.user_key ++ e.value) in
    let b = length-append e.key.user_key e.value in
    let h = length_head (length e.key.user_key) e.key.seqno e.key.value_type (length e.value) in
    omega (arith, a, b, h)

pub length_all : (es : List Entry) → length (flat_map spelled es) ≡ entry_bytes es
length_all [] = refl
length_all (e ∷ es) =
    let a = ap length (flat_map-cons spelled e es) in
    let b = length-append (spelled e) (flat_map spelled es) in
    let h = length_spelled e in
    let r = length_all es in
    let s = sum_by-cons (λ (x : Entry). 15 + length x.key.user_key + length x.value) e es in
    omega (arith, a, b, h, r, s)

pub length_image : (m : ℕ) (es : List Entry) → length (image m es) ≡ 20 + entry_bytes es
length_image m es =
    let a = length-append (front m (length es)) (flat_map spelled es) in
    let f = length_front m (length es) in
    let r = length_all es in
    a ∙ omega (arith, f, r)

-- ---- a front that is put in the place of another

pub with_other_front : (m c d n : ℕ) (body bytes new : Bytes) → bytes ≡ front m d ++ body → new ≡ front m c ++ drop 20 bytes → n ≡ length bytes → take n (new ++ drop (length new) bytes) ≡ front m c ++ body
with_other_front m c d n body bytes new is put whole =
    let cut : drop 20 bytes ≡ body = ap (drop 20) is ∙ ap (λ (i : ℕ). drop i (front m d ++ body)) (sym (length_front m d)) ∙ drop-append_seam (front m d) body in
    let made : new ≡ front m c ++ body = put ∙ ap (λ (b : Bytes). front m c ++ b) cut in
    let old = ap (λ (b : Bytes). length b) is in
    let now = ap (λ (b : Bytes). length b) made in
    let a = length-append (front m d) body in
    let b = length-append (front m c) body in
    let f = length_front m d in
    let g = length_front m c in
    let same : length new ≡ length bytes = omega arith in
    let none : drop (length new) bytes ≡ [] = ap (λ (i : ℕ). drop i bytes) same ∙ drop-length bytes in
    let fits : length new ≤ n = omega arith in
    ap (λ (l : Bytes). take n (new ++ l)) none ∙ ap (take n) (append-nil new) ∙ take_all n new fits ∙ made
