-- What is read is spelled so, and what is spelled so is read.
use Rattle.std.proofs.Common.{◌≡◌, ℕ, zero, suc, ◌+◌, ◌-◌, ◌^◌, ◌<◌, ◌≤◌, Bool, true, false, not, cond, eqb, ltb, List, [], ◌∷◌, ◌++◌, length, take, drop, slice_index, Result, Ok, Err, refl, sym, ap, subst, ◌∙◌, append_assoc, arith}
use Rattle.std.specs.Prelude.{IfOk, IfErr, slice_index_or}
use Rattle.std.specs.List.{flat_map, AllByRecursion}
use Rattle.std.proofs.lemmas.Bool.{ltb-false, le-ltb, eqb-true, and_parts}
use Rattle.std.proofs.lemmas.List.{append-nil, take_at, drop_at, take-append-drop, length-append, length-take, length-drop, drop-drop, drop_more, nil_from_length}
use Rattle.byteorder.specs.Endian.{little_number, little_bytes}
use Rattle.byteorder.specs.Numbers.{little_number-reads_back, little_from-lt}
use Rattle.lsm_below.specs.Each.{each_at}
use Rattle.lsm_below.specs.Keys.{Bytes, AreBytes}
use Rattle.lsm_tables.specs.Image.{Fits}
use Rattle.lsm_tables.specs.Reading.{◌>>=◌, many}
use Rattle.lsm_tables.specs.Spellings.{with_front, ends, AreBytes-drop, bind_ok, guard_then, guard_wants, ok_is, Takes, number_splits, Spells, many_takes, many_again}
use Rattle.lsm_model.specs.Ops.{op_entry, op_entries, op_value, keys_of, repeats}
use Rattle.lsm_model.specs.declared.op.Op.{Op}
use Rattle.lsm_model.specs.declared.op.Op.TheVariants.{Set, Del, Weak}
use Rattle.lsm_log.specs.declared.record.Record.{Record}
use Rattle.lsm_log.specs.declared.record_error.RecordError.{RecordError}
use Rattle.lsm_log.specs.declared.record_error.RecordError.TheVariants.{OutOfMemory, BadRecord}
use Rattle.lsm_log.specs.Records.{Ops, code_of, head, spelled, front, spelling, OpFits, IsBatch, IsRecordOf, IsNoRecord}
use Rattle.lsm_log.specs.RecordReading.{Gives, Fails, op_of, body_at, spelled_at, ends_well, contents, record_at}

-- ---- operations and their entries

entry_fits : (n : ℕ) → n < 2 ^ 64 → (k : Bytes) (op : Op) → length k < 2 ^ 16 → length (op_value op) < 2 ^ 32 → Fits (op_entry k n op)
entry_fits n lt k (Set v) a b = record { key = a; seqno = lt; value = b; empty = refl }
entry_fits n lt k Del a b = record { key = a; seqno = lt; value = b; empty = refl }
entry_fits n lt k Weak a b = record { key = a; seqno = lt; value = b; empty = refl }

pub entries_fit : (n : ℕ) → n < 2 ^ 64 → (ops : Ops) → AllByRecursion OpFits ops → AllByRecursion Fits (op_entries n ops)
entries_fit n lt [] each = tt
entries_fit n lt (p ∷ ops) each = (entry_fits n lt p.0 p.1 each.0.key each.0.value, entries_fit n lt ops each.1)

fit_back : (n : ℕ) (k : Bytes) (op : Op) → Fits (op_entry k n op) → OpFits (k, op)
fit_back n k (Set v) f = record { key = f.key; value = f.value }
fit_back n k Del f = record { key = f.key; value = f.value }
fit_back n k Weak f = record { key = f.key; value = f.value }

pub ops_fit : (n : ℕ) (ops : Ops) → AllByRecursion Fits (op_entries n ops) → AllByRecursion OpFits ops
ops_fit n [] each = tt
ops_fit n (p ∷ ops) each = (fit_back n p.0 p.1 each.0, ops_fit n ops each.1)

-- an operation of a batch
pub fits_at : (n : ℕ) (ops : Ops) (i : ℕ) (x : Bytes × Op) → AllByRecursion Fits (op_entries n ops) → i < length ops → x ≡ slice_index_or ops i x → OpFits x
fits_at n ops i x each lt is = subst OpFits (sym is) (each_at OpFits ops i x (ops_fit n ops each) lt)

-- ---- the type of an operation

-- an operation of this type, with this value
record IsOp (code : ℕ) (v : Bytes) (op : Op) : Type 0 where
  pub code_is : code ≡ code_of op
  pub value_is : v ≡ op_value op

op_takes : (code : ℕ) (v : Bytes) (op : Op) → op_of code v ≡ Ok op → IsOp code v op
op_takes zero v op e = subst (IsOp zero v) (ok_is (Set v) op e) (record { code_is = refl; value_is = refl })
op_takes (suc zero) v op e =
    let g = guard_wants (eqb (length v) 0) BadRecord (Ok Del) op e in
    subst (IsOp 1 v) (ok_is Del op g.1) (record { code_is = refl; value_is = nil_from_length v (eqb-true (length v) 0 g.0) })
op_takes (suc (suc zero)) v op e =
    let g = guard_wants (eqb (length v) 0) BadRecord (Ok Weak) op e in
    subst (IsOp 2 v) (ok_is Weak op g.1) (record { code_is = refl; value_is = nil_from_length v (eqb-true (length v) 0 g.0) })
op_takes (suc (suc (suc n))) v op e = absurd cc

op_again : (op : Op) → op_of (code_of op) (op_value op) ≡ Ok op
op_again (Set v) = refl
op_again Del = refl
op_again Weak = refl

-- ---- an operation

head_splits : (bytes : List ℕ) → AreBytes bytes → 7 ≤ length bytes → bytes ≡ head (little_number 2 bytes) (slice_index bytes 2) (little_number 4 (drop 3 bytes)) ++ drop 7 bytes
unfolding head
head_splits bytes fits long =
    let n2 : ℕ = little_number 2 bytes in
    let n4 : ℕ = little_number 4 (drop 3 bytes) in
    let s2 : bytes ≡ little_bytes 2 n2 ++ drop 2 bytes = number_splits 2 bytes (omega arith) fits in
    let s1 : drop 2 bytes ≡ slice_index bytes 2 ∷ drop 3 bytes = drop_more bytes 2 0 (omega arith) in
    let s4 : drop 3 bytes ≡ little_bytes 4 n4 ++ drop 7 bytes = number_splits 4 (drop 3 bytes) (omega (arith, length-drop 3 bytes)) (AreBytes-drop 3 bytes fits) ∙ ap (λ (r : List ℕ). little_bytes 4 n4 ++ r) (drop-drop 4 3 bytes) in
    s2 ∙ ap (λ (r : List ℕ). little_bytes 2 n2 ++ r) (s1 ∙ ap (λ (r : List ℕ). slice_index bytes 2 ∷ r) s4)

record HeadAgain (a c d : ℕ) (rest : List ℕ) : Type 0 where
  pub long : ltb (length (head a c d ++ rest)) 7 ≡ false
  pub key_len : little_number 2 (head a c d ++ rest) ≡ a
  pub code : slice_index (head a c d ++ rest) 2 ≡ c
  pub value_len : little_number 4 (drop 3 (head a c d ++ rest)) ≡ d
  pub cut : drop 7 (head a c d ++ rest) ≡ rest

head_again : (a c d : ℕ) (rest : List ℕ) → a < 2 ^ 16 → d < 2 ^ 32 → HeadAgain a c d rest
unfolding head
head_again a c d rest ha hd = record {
  long = le-ltb _ _ (omega (arith, length-append (head a c d) rest));
  key_len = little_number-reads_back 2 a (c ∷ (little_bytes 4 d ++ rest)) ha;
  code = refl;
  value_len = little_number-reads_back 4 d rest hd;
  cut = refl;
}

record BodyTakes (key_len code value_len : ℕ) (bytes : List ℕ) (x : (Bytes × Op) × List ℕ) : Type 0 where
  pub parts : bytes ≡ (x.0.0 ++ op_value x.0.1) ++ x.1
  pub rest_fits : AreBytes x.1
  pub key_len_is : key_len ≡ length x.0.0
  pub code_is : code ≡ code_of x.0.1
  pub value_len_is : value_len ≡ length (op_value x.0.1)

body_takes : (key_len code value_len : ℕ) (bytes : List ℕ) (x : (Bytes × Op) × List ℕ) → AreBytes bytes → body_at key_len code value_len bytes ≡ Ok x → BodyTakes key_len code value_len bytes x
unfolding body_at
body_takes key_len code value_len bytes x fits e =
    let key : List ℕ = take key_len bytes in
    let behind : List ℕ = drop key_len bytes in
    let value : List ℕ = take value_len behind in
    let rest : List ℕ = drop value_len behind in
    let g = guard_then (ltb (length bytes) (key_len + value_len)) BadRecord (op_of code value >>= λ op. Ok ((key, op), rest)) x e in
    let a = bind_ok (op_of code value) (λ op. Ok ((key, op), rest)) x g.1 in
    let made : (Bytes × Op) × List ℕ = ((key, a.0), rest) in
    let is = op_takes code value a.0 a.1 in
    let long : key_len + value_len ≤ length bytes = ltb-false _ _ g.0 in
    let l1 : length key ≡ key_len = omega (arith, length-take key_len bytes) in
    let l2 : length value ≡ value_len = omega (arith, length-take value_len behind, length-drop key_len bytes) in
    let whole : bytes ≡ (key ++ value) ++ rest = sym (append_assoc key value rest ∙ ap (λ (r : List ℕ). key ++ r) (take-append-drop value_len behind) ∙ take-append-drop key_len bytes) in
    subst (λ (y : (Bytes × Op) × List ℕ). BodyTakes key_len code value_len bytes y) (ok_is made x a.2)
    (record {
      parts = whole ∙ ap (λ (v : List ℕ). (key ++ v) ++ rest) is.value_is;
      rest_fits = AreBytes-drop value_len behind (AreBytes-drop key_len bytes fits);
      key_len_is = sym l1;
      code_is = is.code_is;
      value_len_is = sym l2 ∙ ap (λ (v : List ℕ). length v) is.value_is;
    })

body_again : (k : Bytes) (op : Op) (rest : List ℕ) → body_at (length k) (code_of op) (length (op_value op)) ((k ++ op_value op) ++ rest) ≡ Ok ((k, op), rest)
unfolding body_at
body_again k op rest =
    let v : Bytes = op_value op in
    let long : ltb (length ((k ++ v) ++ rest)) (length k + length v) ≡ false = le-ltb _ _ (omega (arith, length-append (k ++ v) rest, length-append k v)) in
    let regrouped : (k ++ v) ++ rest ≡ k ++ (v ++ rest) = append_assoc k v rest in
    rw (long, regrouped, take_at k (v ++ rest) (length k) refl, drop_at k (v ++ rest) (length k) refl, take_at v rest (length v) refl, drop_at v rest (length v) refl, op_again op) refl

spelled_takes : (bytes : List ℕ) (x : (Bytes × Op) × List ℕ) → AreBytes bytes → spelled_at bytes ≡ Ok x → Takes bytes (spelled x.0) x.1 × OpFits x.0
unfolding spelled_at
spelled_takes bytes x fits e =
    let n2 : ℕ = little_number 2 bytes in
    let code : ℕ = slice_index bytes 2 in
    let n4 : ℕ = little_number 4 (drop 3 bytes) in
    let g = guard_then (ltb (length bytes) 7) BadRecord (body_at n2 code n4 (drop 7 bytes)) x e in
    let long : 7 ≤ length bytes = ltb-false _ _ g.0 in
    let first = head_splits bytes fits long in
    let second = body_takes n2 code n4 (drop 7 bytes) x (AreBytes-drop 7 bytes fits) g.1 in
    let top : List ℕ = head (length x.0.0) (code_of x.0.1) (length (op_value x.0.1)) in
    let same : head n2 code n4 ≡ top = rw (second.key_len_is, second.code_is, second.value_len_is) refl in
    let whole : bytes ≡ (top ++ (x.0.0 ++ op_value x.0.1)) ++ x.1 =
    first ∙ ap (λ (t : List ℕ). t ++ drop 7 bytes) same ∙ ap (λ (r : List ℕ). top ++ r) second.parts ∙ sym (append_assoc top (x.0.0 ++ op_value x.0.1) x.1) in (
      record { parts = whole; rest_fits = second.rest_fits },
      record { key = subst (λ (n : ℕ). n < 2 ^ 16) second.key_len_is (little_from-lt 0 2 bytes fits); value = subst (λ (n : ℕ). n < 2 ^ 32) second.value_len_is (little_from-lt 0 4 (drop 3 bytes) (AreBytes-drop 3 bytes fits)) },
    )

spelled_again : (p : Bytes × Op) (rest : List ℕ) → OpFits p → spelled_at (spelled p ++ rest) ≡ Ok (p, rest)
unfolding spelled_at
spelled_again p rest fits =
    let a : ℕ = length p.0 in
    let c : ℕ = code_of p.1 in
    let d : ℕ = length (op_value p.1) in
    let top : List ℕ = head a c d in
    let behind : List ℕ = (p.0 ++ op_value p.1) ++ rest in
    let regrouped : spelled p ++ rest ≡ top ++ behind = append_assoc top (p.0 ++ op_value p.1) rest in
    let h = head_again a c d behind fits.key fits.value in
    ap spelled_at regrouped ∙ rw (h.long, h.key_len, h.code, h.value_len, h.cut) (body_again p.0 p.1 rest)

pub op_spells : Spells spelled_at spelled OpFits
op_spells = record { takes = spelled_takes; again = spelled_again }

-- ---- the record

abbrev behind_front : ℕ → Result (Ops × List ℕ) RecordError → Result (ℕ × Ops) RecordError
behind_front number r = r >>= λ ops. cond (ends_well ops.0 ops.1) (Ok (number, ops.0)) (Err BadRecord)

record FrontAgain (n c : ℕ) (rest : List ℕ) : Type 0 where
  pub long : ltb (length (front n c ++ rest)) 16 ≡ false
  pub magic : eqb (little_number 4 (front n c ++ rest)) 1280136012 ≡ true
  pub number : little_number 8 (drop 4 (front n c ++ rest)) ≡ n
  pub count : little_number 4 (drop 12 (front n c ++ rest)) ≡ c
  pub cut : drop 16 (front n c ++ rest) ≡ rest

front_again : (n c : ℕ) (rest : List ℕ) → n < 2 ^ 64 → c < 2 ^ 32 → FrontAgain n c rest
unfolding front
front_again n c rest hn hc = record {
  long = le-ltb _ _ (omega (arith, length-append (front n c) rest));
  magic = refl;
  number = little_number-reads_back 8 n (little_bytes 4 c ++ rest) hn;
  count = little_number-reads_back 4 c rest hc;
  cut = refl;
}

front_splits : (bytes : List ℕ) → AreBytes bytes → 16 ≤ length bytes → little_number 4 bytes ≡ 1280136012 → bytes ≡ front (little_number 8 (drop 4 bytes)) (little_number 4 (drop 12 bytes)) ++ drop 16 bytes
unfolding front
front_splits bytes fits long magic =
    let n : ℕ = little_number 8 (drop 4 bytes) in
    let c : ℕ = little_number 4 (drop 12 bytes) in
    let s4 : bytes ≡ little_bytes 4 1280136012 ++ drop 4 bytes = number_splits 4 bytes (omega arith) fits ∙ ap (λ (k : ℕ). little_bytes 4 k ++ drop 4 bytes) magic in
    let sn : drop 4 bytes ≡ little_bytes 8 n ++ drop 12 bytes = number_splits 8 (drop 4 bytes) (omega (arith, length-drop 4 bytes)) (AreBytes-drop 4 bytes fits) ∙ ap (λ (r : List ℕ). little_bytes 8 n ++ r) (drop-drop 8 4 bytes) in
    let sc : drop 12 bytes ≡ little_bytes 4 c ++ drop 16 bytes = number_splits 4 (drop 12 bytes) (omega (arith, length-drop 12 bytes)) (AreBytes-drop 12 bytes fits) ∙ ap (λ (r : List ℕ). little_bytes 4 c ++ r) (drop-drop 4 12 bytes) in
    s4 ∙ ap (λ (r : List ℕ). little_bytes 4 1280136012 ++ r) (sn ∙ ap (λ (r : List ℕ). little_bytes 8 n ++ r) sc)

none_repeats : (b : Bool) → not b ≡ true → b ≡ false
none_repeats true h = absurd (cc h)
none_repeats false h = refl

pub record_takes : (bytes : List ℕ) (x : ℕ × Ops) → AreBytes bytes → record_at bytes ≡ Ok x → IsRecordOf x.0 x.1 bytes
unfolding record_at
record_takes bytes x fits e =
    let n : ℕ = little_number 8 (drop 4 bytes) in
    let c : ℕ = little_number 4 (drop 12 bytes) in
    let g = guard_then (ltb (length bytes) 16) BadRecord (cond (eqb (little_number 4 bytes) 1280136012) (behind_front n (many spelled_at c (drop 16 bytes))) (Err BadRecord)) x e in
    let t = guard_wants (eqb (little_number 4 bytes) 1280136012) BadRecord (behind_front n (many spelled_at c (drop 16 bytes))) x g.1 in
    let long : 16 ≤ length bytes = ltb-false _ _ g.0 in
    let a = bind_ok (many spelled_at c (drop 16 bytes)) (λ ops. cond (ends_well ops.0 ops.1) (Ok (n, ops.0)) (Err BadRecord)) x t.1 in
    let w = guard_wants (ends_well a.0.0 a.0.1) BadRecord (Ok (n, a.0.0)) x a.2 in
    let both = and_parts (eqb (length a.0.1) 0) (not (repeats (keys_of a.0.0))) w.0 in
    let nothing : a.0.1 ≡ [] = nil_from_length a.0.1 (eqb-true _ _ both.0) in
    let first = front_splits bytes fits long (eqb-true _ _ t.0) in
    let second = many_takes spelled_at spelled OpFits op_spells c (drop 16 bytes) a.0 (AreBytes-drop 16 bytes fits) a.1 in
    let rest : drop 16 bytes ≡ flat_map spelled a.0.0 = second.0.parts ∙ ap (λ (r : List ℕ). flat_map spelled a.0.0 ++ r) nothing ∙ append-nil (flat_map spelled a.0.0) in
    let whole : bytes ≡ spelling n a.0.0 = first ∙ ap (λ (r : List ℕ). front n c ++ r) rest ∙ ap (λ (k : ℕ). front n k ++ flat_map spelled a.0.0) (sym second.1) in
    let below : c < 2 ^ 32 = little_from-lt 0 4 (drop 12 bytes) (AreBytes-drop 12 bytes fits) in
    let small : n < 2 ^ 64 = little_from-lt 0 8 (drop 4 bytes) (AreBytes-drop 4 bytes fits) in
    subst (λ (y : ℕ × Ops). IsRecordOf y.0 y.1 bytes) (ok_is (n, a.0.0) x w.1)
    (record { written = whole; batch = record { number_fits = small; count = omega (arith, second.1); each = entries_fit n small a.0.0 second.2; once = none_repeats (repeats (keys_of a.0.0)) both.1 } })

pub record_again : (n : ℕ) (ops : Ops) → IsBatch n ops → record_at (spelling n ops) ≡ Ok (n, ops)
unfolding record_at
record_again n ops b =
    let f = front_again n (length ops) (flat_map spelled ops) b.number_fits b.count in
    let read : many spelled_at (length ops) (flat_map spelled ops) ≡ Ok (ops, []) = ap (many spelled_at (length ops)) (sym (append-nil (flat_map spelled ops))) ∙ many_again spelled_at spelled OpFits op_spells ops [] (ops_fit n ops b.each) in
    rw (f.long, f.magic, f.number, f.count, f.cut, read, b.once) refl

abbrev found_in : Result (Ops × List ℕ) RecordError → Ops × List ℕ
found_in (Ok x) = x
found_in (Err e) = ([], [])

record_first : (m n : ℕ) (ops others : Ops) (x y : List ℕ) → IsBatch m ops → IsBatch n others → spelling m ops ++ x ≡ spelling n others ++ y → (m ≡ n) × (ops ≡ others) × (x ≡ y)
record_first m n ops others x y t u e =
    let a : spelling m ops ++ x ≡ front m (length ops) ++ (flat_map spelled ops ++ x) = append_assoc (front m (length ops)) (flat_map spelled ops) x in
    let b : spelling n others ++ y ≡ front n (length others) ++ (flat_map spelled others ++ y) = append_assoc (front n (length others)) (flat_map spelled others) y in
    let same : front m (length ops) ++ (flat_map spelled ops ++ x) ≡ front n (length others) ++ (flat_map spelled others ++ y) = sym a ∙ e ∙ b in
    let f = front_again m (length ops) (flat_map spelled ops ++ x) t.number_fits t.count in
    let g = front_again n (length others) (flat_map spelled others ++ y) u.number_fits u.count in
    let numbers : m ≡ n = sym f.number ∙ ap (λ (s : List ℕ). little_number 8 (drop 4 s)) same ∙ g.number in
    let counts : length ops ≡ length others = sym f.count ∙ ap (λ (s : List ℕ). little_number 4 (drop 12 s)) same ∙ g.count in
    let rests : flat_map spelled ops ++ x ≡ flat_map spelled others ++ y = sym f.cut ∙ ap (λ (s : List ℕ). drop 16 s) same ∙ g.cut in
    let left = many_again spelled_at spelled OpFits op_spells ops x (ops_fit m ops t.each) in
    let right = many_again spelled_at spelled OpFits op_spells others y (ops_fit n others u.each) in
    let all = ap found_in (sym left ∙ ap (λ (k : ℕ). many spelled_at k (flat_map spelled ops ++ x)) counts ∙ ap (many spelled_at (length others)) rests ∙ right) in
    (numbers, ap (λ (p : Ops × List ℕ). p.0) all, ap (λ (p : Ops × List ℕ). p.1) all)

pub records_first : (m n : ℕ) (ops others : Ops) (a b x y : List ℕ) → IsRecordOf m ops a → IsRecordOf n others b → a ++ x ≡ b ++ y → (m ≡ n) × (ops ≡ others) × (x ≡ y)
records_first m n ops others a b x y i j e =
    record_first m n ops others x y i.batch j.batch (ap (λ (s : List ℕ). s ++ x) (sym i.written) ∙ e ∙ ap (λ (s : List ℕ). s ++ y) j.written)

-- ---- answers

pub is_read : (bytes : List ℕ) (r : Result Record RecordError) → AreBytes bytes → Gives (λ x. contents x.number x.ops) r (record_at bytes) → IfOk r (λ x. IsRecordOf x.number x.ops bytes)
is_read bytes (Ok x) fits given = record_takes bytes (x.number, x.ops) fits given
is_read bytes (Err e) fits given = tt

pub is_bad : (bytes : List ℕ) (r : Result Record RecordError) → Gives (λ x. contents x.number x.ops) r (record_at bytes) → IfErr r (λ e. e ≡ BadRecord → IsNoRecord bytes)
is_bad bytes (Ok x) given = tt
is_bad bytes (Err OutOfMemory) given = λ h. absurd (cc h)
is_bad bytes (Err BadRecord) given = λ h number ops i.
    let again = ap record_at i.written ∙ record_again number ops i.batch in
    let no = sym given ∙ again in
    cc no

-- a loop over operations ends with the fault of the one that it met
pub op_fails : (e : RecordError) (ops : Ops) (count i : ℕ) (bytes : List ℕ) (total : Result (Ops × List ℕ) RecordError) → i < count → Fails e (spelled_at bytes)
    → with_front ops (many spelled_at (count - i) bytes) ≡ total → Fails e total
op_fails OutOfMemory ops count i bytes total lt h so_far = tt
op_fails BadRecord ops count i bytes total lt h so_far = ends spelled_at BadRecord ops count i bytes total lt h so_far
