-- What is read is spelled so, and what is spelled so is read.
use Rattle.lsm_tables.proofs.Lengths.{length_head}
use Rattle.std.proofs.Common.{◌≡◌, ℕ, zero, suc, ◌+◌, ◌-◌, ◌^◌, ◌<◌, ◌≤◌, true, false, not, ◌&&◌, cond, eqb, ltb, List, [], ◌∷◌, ◌++◌, length, All, take, drop, slice_index, Result, Ok, Err, refl, sym, ap, subst, ◌∙◌, append_assoc, arith}
use Rattle.std.specs.Prelude.{IfOk, IfErr}
use Rattle.std.specs.Global.{Vec}
use Rattle.std.specs.List.{flat_map}
use Rattle.std.proofs.lemmas.Bool.{ltb-false, le-ltb, eqb-true, eq-eqb, and_parts, ne_eqb, not_from_false}
use Rattle.std.proofs.lemmas.List.Elements.{All-from_recursion}
use Rattle.std.proofs.lemmas.List.{append-nil, take_at, drop_at, take-append-drop, length-append, length-take, length-drop, drop-drop, drop_more, nil_from_length}
use Rattle.byteorder.specs.Endian.{little_number, little_bytes}
use Rattle.byteorder.specs.Numbers.{little_number-reads_back, little_from-lt}
use Rattle.lsm_tables.specs.declared.table_error.TableError.{TableError}
use Rattle.lsm_tables.specs.declared.table_error.TableError.TheVariants.{OutOfMemory, BadTable}
use Rattle.lsm_tables.specs.Reading.{◌>>=◌, many}
use Rattle.lsm_below.specs.Keys.{AreBytes}
use Rattle.lsm_tables.specs.Spellings.{with_front, ends, AreBytes-drop, bind_ok, guard_then, guard_wants, ok_is, Takes, number_splits, Spells, many_takes, many_again}
use Rattle.lsm_below.specs.declared.value.InternalValue.{InternalValue}
use Rattle.lsm_below.specs.declared.value_type.ValueType.{ValueType}
use Rattle.lsm_below.specs.declared.value_type.ValueType.TheVariants.{Value, Tombstone, WeakTombstone}
use Rattle.lsm_tables.specs.declared.image.reading.Header.{Header}
use Rattle.lsm_below.specs.Entries.{kept_value}
use Rattle.lsm_tables.specs.Image.{type_code, head, spelled, front, image, Fits, IsTable, IsImageOf, IsNoImage}
use Rattle.lsm_tables.specs.ImageReading.{Gives, Fails, type_of, header_at, may_have, body_at, spelled_at, rises, ends_well, contents, image_at}
use Rattle.lsm_below.specs.Laws.{EntriesAreOrdered}
use Rattle.lsm_tables.proofs.Adjacent.{rises_found, rises_again}

type_found : (n : ℕ) (k : ValueType) → type_of n ≡ Ok k → n ≡ type_code k
type_found zero k e = ap type_code (ok_is Value k e)
type_found (suc zero) k e = ap type_code (ok_is Tombstone k e)
type_found (suc (suc zero)) k e = ap type_code (ok_is WeakTombstone k e)
type_found (suc (suc (suc n))) k e = absurd cc

type_again : (k : ValueType) → type_of (type_code k) ≡ Ok k
type_again Value = refl
type_again Tombstone = refl
type_again WeakTombstone = refl

-- ---- the header

abbrev header : ℕ → ℕ → ValueType → ℕ → Header
header a b k d = record { key_len = a; seqno = b; value_type = k; value_len = d }

abbrev header_ok : ℕ → ℕ → ValueType → ℕ → Result Header TableError
header_ok a b k d = Ok (header a b k d)

record HeaderTakes (bytes : List ℕ) (h : Header) : Type 0 where
  pub parts : bytes ≡ head h.key_len h.seqno h.value_type h.value_len ++ drop 15 bytes
  pub key_len : h.key_len < 2 ^ 16
  pub seqno : h.seqno < 2 ^ 64
  pub value_len : h.value_len < 2 ^ 32

header_takes : (bytes : List ℕ) (h : Header) → AreBytes bytes → 15 ≤ length bytes → header_at bytes ≡ Ok h → HeaderTakes bytes h
unfolding header_at head
header_takes bytes h fits long e =
    let a = bind_ok (type_of (slice_index bytes 10)) (λ kind. Ok (record { key_len = little_number 2 bytes; seqno = little_number 8 (drop 2 bytes); value_type = kind; value_len = little_number 4 (drop 11 bytes) })) h e in
    let k : ValueType = a.0 in
    let n2 : ℕ = little_number 2 bytes in
    let n8 : ℕ = little_number 8 (drop 2 bytes) in
    let n4 : ℕ = little_number 4 (drop 11 bytes) in
    let s2 : bytes ≡ little_bytes 2 n2 ++ drop 2 bytes = number_splits 2 bytes (omega arith) fits in
    let s8 : drop 2 bytes ≡ little_bytes 8 n8 ++ drop 10 bytes = number_splits 8 (drop 2 bytes) (omega (arith, length-drop 2 bytes)) (AreBytes-drop 2 bytes fits) ∙ ap (λ (r : List ℕ). little_bytes 8 n8 ++ r) (drop-drop 8 2 bytes) in
    let s1 : drop 10 bytes ≡ type_code k ∷ drop 11 bytes = drop_more bytes 10 0 (omega arith) ∙ ap (λ (c : ℕ). c ∷ drop 11 bytes) (type_found (slice_index bytes 10) k a.1) in
    let s4 : drop 11 bytes ≡ little_bytes 4 n4 ++ drop 15 bytes = number_splits 4 (drop 11 bytes) (omega (arith, length-drop 11 bytes)) (AreBytes-drop 11 bytes fits) ∙ ap (λ (r : List ℕ). little_bytes 4 n4 ++ r) (drop-drop 4 11 bytes) in
    let whole : bytes ≡ head n2 n8 k n4 ++ drop 15 bytes = s2 ∙ ap (λ (r : List ℕ). little_bytes 2 n2 ++ r) (s8 ∙ ap (λ (r : List ℕ). little_bytes 8 n8 ++ r) (s1 ∙ ap (λ (r : List ℕ). type_code k ∷ r) s4)) in
    subst (λ (x : Header). HeaderTakes bytes x) (ok_is (header n2 n8 k n4) h a.2)
    (record { parts = whole; key_len = little_from-lt 0 2 bytes fits; seqno = little_from-lt 0 8 (drop 2 bytes) (AreBytes-drop 2 bytes fits); value_len = little_from-lt 0 4 (drop 11 bytes) (AreBytes-drop 11 bytes fits) })

header_again : (a b : ℕ) (k : ValueType) (d : ℕ) (rest : List ℕ) → a < 2 ^ 16 → b < 2 ^ 64 → d < 2 ^ 32 → header_at (head a b k d ++ rest) ≡ Ok (header a b k d)
unfolding header_at head
header_again a b k d rest ha hb hd =
    let bytes : List ℕ = head a b k d ++ rest in
    let e2 : little_number 2 bytes ≡ a = little_number-reads_back 2 a (little_bytes 8 b ++ (type_code k ∷ (little_bytes 4 d ++ rest))) ha in
    let e8 : little_number 8 (drop 2 bytes) ≡ b = little_number-reads_back 8 b (type_code k ∷ (little_bytes 4 d ++ rest)) hb in
    let e4 : little_number 4 (drop 11 bytes) ≡ d = little_number-reads_back 4 d rest hd in
    let n2 : ℕ = little_number 2 bytes in
    let n8 : ℕ = little_number 8 (drop 2 bytes) in
    let n4 : ℕ = little_number 4 (drop 11 bytes) in
    ap (λ (t : Result ValueType TableError). t >>= λ kind. header_ok n2 n8 kind n4) (type_again k)
    ∙ ap (λ (x : ℕ). header_ok x n8 k n4) e2 ∙ ap (λ (x : ℕ). header_ok a x k n4) e8 ∙ ap (λ (x : ℕ). header_ok a b k x) e4

-- ---- key and value

may_found : (k : ValueType) (n : ℕ) (v : List ℕ) → may_have k n ≡ true → length v ≡ n → kept_value k v ≡ v
may_found Value n v h l = refl
may_found Tombstone n v h l = sym (nil_from_length v (l ∙ eqb-true n 0 h))
may_found WeakTombstone n v h l = sym (nil_from_length v (l ∙ eqb-true n 0 h))

may_again : (k : ValueType) (v : List ℕ) → kept_value k v ≡ v → may_have k (length v) ≡ true
may_again Value v h = refl
may_again Tombstone v h = eq-eqb (length v) 0 (ap length (sym h))
may_again WeakTombstone v h = eq-eqb (length v) 0 (ap length (sym h))

record BodyTakes (h : Header) (bytes : List ℕ) (x : InternalValue × List ℕ) : Type 0 where
  pub parts : bytes ≡ (x.0.key.user_key ++ x.0.value) ++ x.1
  pub rest_fits : AreBytes x.1
  pub key_len : h.key_len ≡ length x.0.key.user_key
  pub seqno : h.seqno ≡ x.0.key.seqno
  pub value_type : h.value_type ≡ x.0.key.value_type
  pub value_len : h.value_len ≡ length x.0.value
  pub empty : kept_value x.0.key.value_type x.0.value ≡ x.0.value

body_takes : (h : Header) (bytes : List ℕ) (x : InternalValue × List ℕ) → AreBytes bytes → body_at h bytes ≡ Ok x → BodyTakes h bytes x
unfolding body_at
body_takes h bytes x fits e =
    let key : List ℕ = take h.key_len bytes in
    let behind : List ℕ = drop h.key_len bytes in
    let value : List ℕ = take h.value_len behind in
    let rest : List ℕ = drop h.value_len behind in
    let made : InternalValue × List ℕ = (record { key = record { user_key = key; seqno = h.seqno; value_type = h.value_type }; value = value }, rest) in
    let g = guard_then (ltb (length bytes) (h.key_len + h.value_len)) BadTable (cond (may_have h.value_type h.value_len) (Ok made) (Err BadTable)) x e in
    let m = guard_wants (may_have h.value_type h.value_len) BadTable (Ok made) x g.1 in
    let long : h.key_len + h.value_len ≤ length bytes = ltb-false _ _ g.0 in
    let l1 : length key ≡ h.key_len = omega (arith, length-take h.key_len bytes) in
    let l2 : length value ≡ h.value_len = omega (arith, length-take h.value_len behind, length-drop h.key_len bytes) in
    let whole : bytes ≡ (key ++ value) ++ rest = sym (append_assoc key value rest ∙ ap (λ (r : List ℕ). key ++ r) (take-append-drop h.value_len behind) ∙ take-append-drop h.key_len bytes) in
    subst (λ (y : InternalValue × List ℕ). BodyTakes h bytes y) (ok_is made x m.1)
    (record { parts = whole; rest_fits = AreBytes-drop h.value_len behind (AreBytes-drop h.key_len bytes fits); key_len = sym l1; seqno = refl; value_type = refl; value_len = sym l2; empty = may_found h.value_type h.value_len value m.0 l2 })

body_again : (e : InternalValue) (rest : List ℕ) → kept_value e.key.value_type e.value ≡ e.value → body_at (header (length e.key.user_key) e.key.seqno e.key.value_type (length e.value)) ((e.key.user_key ++ e.value) ++ rest) ≡ Ok (e, rest)
unfolding body_at
body_again e rest h =
    let long : ltb (length ((e.key.user_key ++ e.value) ++ rest)) (length e.key.user_key + length e.value) ≡ false = le-ltb _ _ (omega (arith, length-append (e.key.user_key ++ e.value) rest, length-append e.key.user_key e.value)) in
    let regrouped : (e.key.user_key ++ e.value) ++ rest ≡ e.key.user_key ++ (e.value ++ rest) = append_assoc e.key.user_key e.value rest in
    rw (long, may_again e.key.value_type e.value h, regrouped, take_at e.key.user_key (e.value ++ rest) (length e.key.user_key) refl, drop_at e.key.user_key (e.value ++ rest) (length e.key.user_key) refl, take_at e.value rest (length e.value) refl, drop_at e.value rest (length e.value) refl) refl

-- ---- an entry

spelled_takes : (bytes : List ℕ) (x : InternalValue × List ℕ) → AreBytes bytes → spelled_at bytes ≡ Ok x → Takes bytes (spelled x.0) x.1 × Fits x.0
unfolding spelled_at
spelled_takes bytes x fits e =
    let g = guard_then (ltb (length bytes) 15) BadTable (header_at bytes >>= λ h. body_at h (drop 15 bytes)) x e in
    let long : 15 ≤ length bytes = ltb-false _ _ g.0 in
    let a = bind_ok (header_at bytes) (λ h. body_at h (drop 15 bytes)) x g.1 in
    let first = header_takes bytes a.0 fits long a.1 in
    let second = body_takes a.0 (drop 15 bytes) x (AreBytes-drop 15 bytes fits) a.2 in
    let same : head a.0.key_len a.0.seqno a.0.value_type a.0.value_len ≡ head (length x.0.key.user_key) x.0.key.seqno x.0.key.value_type (length x.0.value) = rw (second.key_len, second.seqno, second.value_type, second.value_len) refl in
    let top : List ℕ = head (length x.0.key.user_key) x.0.key.seqno x.0.key.value_type (length x.0.value) in
    let whole : bytes ≡ (top ++ (x.0.key.user_key ++ x.0.value)) ++ x.1 =
    first.parts ∙ ap (λ (t : List ℕ). t ++ drop 15 bytes) same ∙ ap (λ (r : List ℕ). top ++ r) second.parts ∙ sym (append_assoc top (x.0.key.user_key ++ x.0.value) x.1) in
    (record { parts = whole; rest_fits = second.rest_fits }, record { key = subst (λ (n : ℕ). n < 2 ^ 16) second.key_len first.key_len; seqno = subst (λ (n : ℕ). n < 2 ^ 64) second.seqno first.seqno; value = subst (λ (n : ℕ). n < 2 ^ 32) second.value_len first.value_len; empty = second.empty })

spelled_again : (e : InternalValue) (rest : List ℕ) → Fits e → spelled_at (spelled e ++ rest) ≡ Ok (e, rest)
unfolding spelled_at
spelled_again e rest fits =
    let a : ℕ = length e.key.user_key in
    let d : ℕ = length e.value in
    let top : List ℕ = head a e.key.seqno e.key.value_type d in
    let behind : List ℕ = (e.key.user_key ++ e.value) ++ rest in
    let regrouped : spelled e ++ rest ≡ top ++ behind = append_assoc top (e.key.user_key ++ e.value) rest in
    let len : length top ≡ 15 = length_head a e.key.seqno e.key.value_type d in
    let long : ltb (length (top ++ behind)) 15 ≡ false = le-ltb _ _ (omega (arith, length-append top behind)) in
    let cut : drop 15 (top ++ behind) ≡ behind = drop_at top behind 15 len in
    let h = header_again a e.key.seqno e.key.value_type d behind fits.key fits.seqno fits.value in
    ap spelled_at regrouped ∙ rw (long, cut, h) (body_again e rest fits.empty)

pub entry_spells : Spells spelled_at spelled Fits
entry_spells = record { takes = spelled_takes; again = spelled_again }

-- ---- the image

abbrev behind_front : ℕ → Result (List InternalValue × List ℕ) TableError → Result (ℕ × List InternalValue) TableError
behind_front made_at r = r >>= λ es. cond (ends_well es.0 es.1) (Ok (made_at, es.0)) (Err BadTable)

record FrontAgain (m c : ℕ) (rest : List ℕ) : Type 0 where
  pub long : ltb (length (front m c ++ rest)) 20 ≡ false
  pub magic : eqb (little_number 4 (front m c ++ rest)) 1414353740 ≡ true
  pub made_at : little_number 8 (drop 4 (front m c ++ rest)) ≡ m
  pub count : little_number 8 (drop 12 (front m c ++ rest)) ≡ c
  pub cut : drop 20 (front m c ++ rest) ≡ rest

front_again : (m c : ℕ) (rest : List ℕ) → m < 2 ^ 64 → c < 2 ^ 64 → FrontAgain m c rest
unfolding front
front_again m c rest hm hc = record {
  long = le-ltb _ _ (omega (arith, length-append (front m c) rest));
  magic = refl;
  made_at = little_number-reads_back 8 m (little_bytes 8 c ++ rest) hm;
  count = little_number-reads_back 8 c rest hc;
  cut = refl;
}

front_splits : (bytes : List ℕ) → AreBytes bytes → 20 ≤ length bytes → little_number 4 bytes ≡ 1414353740 → bytes ≡ front (little_number 8 (drop 4 bytes)) (little_number 8 (drop 12 bytes)) ++ drop 20 bytes
unfolding front
front_splits bytes fits long magic =
    let m : ℕ = little_number 8 (drop 4 bytes) in
    let c : ℕ = little_number 8 (drop 12 bytes) in
    let s4 : bytes ≡ little_bytes 4 1414353740 ++ drop 4 bytes = number_splits 4 bytes (omega arith) fits ∙ ap (λ (n : ℕ). little_bytes 4 n ++ drop 4 bytes) magic in
    let sm : drop 4 bytes ≡ little_bytes 8 m ++ drop 12 bytes = number_splits 8 (drop 4 bytes) (omega (arith, length-drop 4 bytes)) (AreBytes-drop 4 bytes fits) ∙ ap (λ (r : List ℕ). little_bytes 8 m ++ r) (drop-drop 8 4 bytes) in
    let sc : drop 12 bytes ≡ little_bytes 8 c ++ drop 20 bytes = number_splits 8 (drop 12 bytes) (omega (arith, length-drop 12 bytes)) (AreBytes-drop 12 bytes fits) ∙ ap (λ (r : List ℕ). little_bytes 8 c ++ r) (drop-drop 8 12 bytes) in
    s4 ∙ ap (λ (r : List ℕ). little_bytes 4 1414353740 ++ r) (sm ∙ ap (λ (r : List ℕ). little_bytes 8 m ++ r) sc)

some_found : (n : ℕ) → not (eqb n 0) ≡ true → 0 < n
some_found zero h = absurd cc
some_found (suc n) h = omega arith

some_again : (n : ℕ) → 0 < n → not (eqb n 0) ≡ true
some_again n h = not_from_false (eqb n 0) (ne_eqb n 0 (λ (e : n ≡ 0). omega arith))

pub image_takes : EntriesAreOrdered → (bytes : List ℕ) (x : ℕ × List InternalValue) → AreBytes bytes → image_at bytes ≡ Ok x → IsImageOf x.0 x.1 bytes
unfolding image_at
image_takes order bytes x fits e =
    let m : ℕ = little_number 8 (drop 4 bytes) in
    let c : ℕ = little_number 8 (drop 12 bytes) in
    let g = guard_then (ltb (length bytes) 20) BadTable (cond (eqb (little_number 4 bytes) 1414353740) (behind_front m (many spelled_at c (drop 20 bytes))) (Err BadTable)) x e in
    let t = guard_wants (eqb (little_number 4 bytes) 1414353740) BadTable (behind_front m (many spelled_at c (drop 20 bytes))) x g.1 in
    let long : 20 ≤ length bytes = ltb-false _ _ g.0 in
    let a = bind_ok (many spelled_at c (drop 20 bytes)) (λ es. cond (ends_well es.0 es.1) (Ok (m, es.0)) (Err BadTable)) x t.1 in
    let w = guard_wants (ends_well a.0.0 a.0.1) BadTable (Ok (m, a.0.0)) x a.2 in
    let both = and_parts (eqb (length a.0.1) 0 && not (eqb (length a.0.0) 0)) (rises a.0.0) w.0 in
    let ends = and_parts (eqb (length a.0.1) 0) (not (eqb (length a.0.0) 0)) both.0 in
    let nothing : a.0.1 ≡ [] = nil_from_length a.0.1 (eqb-true _ _ ends.0) in
    let first = front_splits bytes fits long (eqb-true _ _ t.0) in
    let second = many_takes spelled_at spelled Fits entry_spells c (drop 20 bytes) a.0 (AreBytes-drop 20 bytes fits) a.1 in
    let rest : drop 20 bytes ≡ flat_map spelled a.0.0 = second.0.parts ∙ ap (λ (r : List ℕ). flat_map spelled a.0.0 ++ r) nothing ∙ append-nil (flat_map spelled a.0.0) in
    let whole : bytes ≡ image m a.0.0 = first ∙ ap (λ (r : List ℕ). front m c ++ r) rest ∙ ap (λ (n : ℕ). front m n ++ flat_map spelled a.0.0) (sym second.1) in
    let below : c < 2 ^ 64 = little_from-lt 0 8 (drop 12 bytes) (AreBytes-drop 12 bytes fits) in
    subst (λ (y : ℕ × List InternalValue). IsImageOf y.0 y.1 bytes) (ok_is (m, a.0.0) x w.1)
    (record { moment = little_from-lt 0 8 (drop 4 bytes) (AreBytes-drop 4 bytes fits); spelling = whole; table = record { some = some_found (length a.0.0) ends.1; count = omega (arith, second.1); each = second.2; rises = rises_found order a.0.0 both.1 } })

pub image_again : (m : ℕ) (es : List InternalValue) → m < 2 ^ 64 → IsTable es → image_at (image m es) ≡ Ok (m, es)
unfolding image_at
image_again m es lt t =
    let f = front_again m (length es) (flat_map spelled es) lt t.count in
    let read : many spelled_at (length es) (flat_map spelled es) ≡ Ok (es, []) = ap (many spelled_at (length es)) (sym (append-nil (flat_map spelled es))) ∙ many_again spelled_at spelled Fits entry_spells es [] t.each in
    rw (f.long, f.magic, f.made_at, f.count, f.cut, read, some_again (length es) t.some, rises_again es t.rises) refl

abbrev found_in : Result (List InternalValue × List ℕ) TableError → List InternalValue × List ℕ
found_in (Ok x) = x
found_in (Err e) = ([], [])

pub image_first : (m n : ℕ) (es fs : List InternalValue) (x y : List ℕ) → m < 2 ^ 64 → n < 2 ^ 64 → IsTable es → IsTable fs → image m es ++ x ≡ image n fs ++ y → (m ≡ n) × (es ≡ fs) × (x ≡ y)
image_first m n es fs x y lt mt t u e =
    let a : image m es ++ x ≡ front m (length es) ++ (flat_map spelled es ++ x) = append_assoc (front m (length es)) (flat_map spelled es) x in
    let b : image n fs ++ y ≡ front n (length fs) ++ (flat_map spelled fs ++ y) = append_assoc (front n (length fs)) (flat_map spelled fs) y in
    let same : front m (length es) ++ (flat_map spelled es ++ x) ≡ front n (length fs) ++ (flat_map spelled fs ++ y) = sym a ∙ e ∙ b in
    let f = front_again m (length es) (flat_map spelled es ++ x) lt t.count in
    let g = front_again n (length fs) (flat_map spelled fs ++ y) mt u.count in
    let moments : m ≡ n = sym f.made_at ∙ ap (λ (s : List ℕ). little_number 8 (drop 4 s)) same ∙ g.made_at in
    let counts : length es ≡ length fs = sym f.count ∙ ap (λ (s : List ℕ). little_number 8 (drop 12 s)) same ∙ g.count in
    let rests : flat_map spelled es ++ x ≡ flat_map spelled fs ++ y = sym f.cut ∙ ap (λ (s : List ℕ). drop 20 s) same ∙ g.cut in
    let left = many_again spelled_at spelled Fits entry_spells es x t.each in
    let right = many_again spelled_at spelled Fits entry_spells fs y u.each in
    let all = ap found_in (sym left ∙ ap (λ (k : ℕ). many spelled_at k (flat_map spelled es ++ x)) counts ∙ ap (many spelled_at (length fs)) rests ∙ right) in
    (moments, ap (λ (p : List InternalValue × List ℕ). p.0) all, ap (λ (p : List InternalValue × List ℕ). p.1) all)

pub images_first : (m n : ℕ) (es fs : List InternalValue) (a b x y : List ℕ) → IsImageOf m es a → IsImageOf n fs b → a ++ x ≡ b ++ y → (m ≡ n) × (es ≡ fs) × (x ≡ y)
images_first m n es fs a b x y i j e =
    image_first m n es fs x y i.moment j.moment i.table j.table (ap (λ (s : List ℕ). s ++ x) (sym i.spelling) ∙ e ∙ ap (λ (s : List ℕ). s ++ y) j.spelling)

pub is_read : EntriesAreOrdered → (bytes : List ℕ) (r : Result (ℕ × Vec InternalValue × Vec ℕ) TableError) → AreBytes bytes → Gives (λ x. contents x.0 x.1.items) r (image_at bytes) → IfOk r (λ x. IsImageOf x.0 x.1.items bytes)
is_read order bytes (Ok x) fits given = image_takes order bytes (x.0, x.1.items) fits given
is_read order bytes (Err e) fits given = tt

pub is_bad : (bytes : List ℕ) (r : Result (ℕ × Vec InternalValue × Vec ℕ) TableError) → Gives (λ x. contents x.0 x.1.items) r (image_at bytes) → IfErr r (λ e. e ≡ BadTable → IsNoImage bytes)
is_bad bytes (Ok x) given = tt
is_bad bytes (Err OutOfMemory) given = λ h. absurd (cc h)
is_bad bytes (Err BadTable) given = λ h made_at es i.
    let again = ap image_at i.spelling ∙ image_again made_at es i.moment i.table in
    let no = sym given ∙ again in
    cc no

pub fits_at : (es : List InternalValue) → IsTable es → All Fits es
fits_at es t = All-from_recursion Fits es t.each

-- a loop over entries ends with the fault of the entry that it met
pub entry_fails : (e : TableError) (es : List InternalValue) (count i : ℕ) (bytes : List ℕ) (total : Result (List InternalValue × List ℕ) TableError) → i < count → Fails e (spelled_at bytes)
    → with_front es (many spelled_at (count - i) bytes) ≡ total → Fails e total
entry_fails OutOfMemory es count i bytes total lt h so_far = tt
entry_fails BadTable es count i bytes total lt h so_far = ends spelled_at BadTable es count i bytes total lt h so_far
