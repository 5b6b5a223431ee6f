-- What is read is spelled so, and what is spelled so is read: the parts of that which every format shares.
use Rattle.std.proofs.Common.{◌≡◌, ℕ, zero, suc, ◌+◌, ◌-◌, ◌*◌, ◌/◌, ◌%◌, ◌^◌, ◌<◌, ◌≤◌, Bool, true, false, cond, List, [], ◌∷◌, ◌++◌, length, take, drop, Result, Ok, Err, refl, sym, ap, subst, ◌∙◌, append_assoc, arith}
use Rattle.std.proofs.Math.Nat.{div-one, div-div-eq-div-mul, pow-suc}
use Rattle.std.specs.Int.{byte_at, bytes_low_first}
use Rattle.std.specs.List.{flat_map, AllByRecursion}
use Rattle.std.proofs.lemmas.List.{append-nil, take-append-drop, get_or-drop}
use Rattle.std.proofs.lemmas.List.Concat.{flat_map-cons}
use Rattle.byteorder.specs.Endian.{little_from, little_number, little_bytes}
use Rattle.byteorder.specs.Numbers.{little_from-cons}
use Rattle.lsm_below.specs.Keys.{AreBytes}
use Rattle.lsm_tables.specs.Reading.{◌>>=◌, many}

pub AreBytes-drop : (n : ℕ) (bytes : List ℕ) → AreBytes bytes → AreBytes (drop n bytes)
AreBytes-drop n bytes h i = rw get_or-drop (h (n + i))

pub AreBytes-rest : (b : ℕ) (bytes : List ℕ) → AreBytes (b ∷ bytes) → AreBytes bytes
AreBytes-rest b bytes h i = h (suc i)

-- the value of a step that did not fail
pub bind_ok : {A B E : Type 0} (r : Result A E) (f : A → Result B E) (y : B) → (r >>= f) ≡ Ok y → (x : A) × (r ≡ Ok x) × (f x ≡ Ok y)
bind_ok (Ok x) f y e = (x, refl, e)
bind_ok (Err d) f y e = absurd cc

-- a test that did not fail
pub guard_then : {B E : Type 0} (b : Bool) (d : E) (r : Result B E) (y : B) → cond b (Err d) r ≡ Ok y → (b ≡ false) × (r ≡ Ok y)
guard_then true d r y e = absurd cc
guard_then false d r y e = (refl, e)

pub guard_wants : {B E : Type 0} (b : Bool) (d : E) (r : Result B E) (y : B) → cond b r (Err d) ≡ Ok y → (b ≡ true) × (r ≡ Ok y)
guard_wants true d r y e = (refl, e)
guard_wants false d r y e = absurd cc

abbrev done : {A : Type 0} (E : Type 0) → A → Result A E
done E x = Ok x

pub ok_is : {A E : Type 0} (x y : A) → done E x ≡ done E y → x ≡ y
ok_is x y e = cc

-- what a reader took from the front
pub record Takes (bytes text rest : List ℕ) : Type 0 where
  pub parts : bytes ≡ text ++ rest
  pub rest_fits : AreBytes rest

pub Takes-then : (a x b y c : List ℕ) → Takes a x b → Takes b y c → Takes a (x ++ y) c
Takes-then a x b y c p q = record { parts = p.parts ∙ ap (λ (t : List ℕ). x ++ t) q.parts ∙ sym (append_assoc x y c); rest_fits = q.rest_fits }

-- ---- numbers

byte_at-pow : (k x : ℕ) → byte_at k x ≡ x / 256 ^ k % 256
byte_at-pow zero x = ap (λ (y : ℕ). y % 256) (sym (div-one x))
byte_at-pow (suc k) x = refl

byte_above : (j x : ℕ) → byte_at (suc j) x ≡ byte_at j (x / 256)
byte_above j x =
    let down : x / 256 / 256 ^ j ≡ x / (256 * 256 ^ j) = div-div-eq-div-mul x 256 (256 ^ j) in
    let power : 256 ^ suc j ≡ 256 * 256 ^ j = omega (arith, pow-suc 256 j) in
    byte_at-pow (suc j) x ∙ ap (λ (p : ℕ). x / p % 256) power ∙ ap (λ (q : ℕ). q % 256) (sym down) ∙ sym (byte_at-pow j (x / 256))

bytes_above : (j n x : ℕ) → bytes_low_first (suc j) n x ≡ bytes_low_first j n (x / 256)
bytes_above j zero x = refl
bytes_above j (suc n) x = rw (byte_above j x, bytes_above (suc j) n x) refl

-- the bytes of the number that bytes spell are those bytes
pub number_back : (n : ℕ) (bytes : List ℕ) → n ≤ length bytes → AreBytes bytes → little_bytes n (little_number n bytes) ≡ take n bytes
number_back zero bytes le fits = refl
number_back (suc n) [] le fits = absurd (omega arith)
number_back (suc n) (b ∷ bytes) le fits =
    let small : b < 256 = fits 0 in
    let high = little_from-cons 0 n b bytes in
    let ih = number_back n bytes (omega arith) (AreBytes-rest b bytes fits) in
    let y : ℕ = b + 256 * little_from 0 n bytes in
    let low : y % 256 ≡ b = omega arith in
    let up : y / 256 ≡ little_from 0 n bytes = omega arith in
    let split : bytes_low_first 0 (suc n) y ≡ b ∷ take n bytes = ap (λ (d : ℕ). d ∷ bytes_low_first 1 n y) low ∙ ap (λ (r : List ℕ). b ∷ r) (bytes_above 0 n y ∙ ap (bytes_low_first 0 n) up ∙ ih) in
    ap (λ (h : ℕ). bytes_low_first 0 (suc n) (b + 256 * h)) high ∙ split

-- the bytes are those of the number, and the rest
pub number_splits : (n : ℕ) (bytes : List ℕ) → n ≤ length bytes → AreBytes bytes → bytes ≡ little_bytes n (little_number n bytes) ++ drop n bytes
number_splits n bytes le fits = rw (number_back n bytes le fits) (sym (take-append-drop n bytes))

-- ---- what stands so many times

-- a reader and the spelling of what it reads
pub record Spells {A E : Type 0} (read : List ℕ → Result (A × List ℕ) E) (text : A → List ℕ) (Fits : A → Type 0) : Type 0 where
  pub takes : (bytes : List ℕ) (x : A × List ℕ) → AreBytes bytes → read bytes ≡ Ok x → Takes bytes (text x.0) x.1 × Fits x.0
  pub again : (a : A) (rest : List ℕ) → Fits a → read (text a ++ rest) ≡ Ok (a, rest)

pub many_takes : {A E : Type 0} (read : List ℕ → Result (A × List ℕ) E) (text : A → List ℕ) (Fits : A → Type 0) → Spells read text Fits
    → (n : ℕ) (bytes : List ℕ) (x : List A × List ℕ) → AreBytes bytes → many read n bytes ≡ Ok x → Takes bytes (flat_map text x.0) x.1 × (length x.0 ≡ n) × AllByRecursion Fits x.0
unfolding many
many_takes {A} {E} read text Fits s zero bytes x fits e =
    subst (λ (y : List A × List ℕ). Takes bytes (flat_map text y.0) y.1 × (length y.0 ≡ 0) × AllByRecursion Fits y.0) (ok_is ([], bytes) x e) (record { parts = refl; rest_fits = fits }, refl, tt)
many_takes {A} {E} read text Fits s (suc n) bytes x fits e =
    let a = bind_ok (read bytes) (λ first. many read n first.1 >>= λ others. Ok (first.0 ∷ others.0, others.1)) x e in
    let b = bind_ok (many read n a.0.1) (λ others. Ok (a.0.0 ∷ others.0, others.1)) x a.2 in
    let first = s.takes bytes a.0 fits a.1 in
    let second = many_takes read text Fits s n a.0.1 b.0 first.0.rest_fits b.1 in
    let both = Takes-then bytes (text a.0.0) a.0.1 (flat_map text b.0.0) b.0.1 first.0 second.0 in
    let made : List A × List ℕ = (a.0.0 ∷ b.0.0, b.0.1) in
    subst (λ (y : List A × List ℕ). Takes bytes (flat_map text y.0) y.1 × (length y.0 ≡ suc n) × AllByRecursion Fits y.0) (ok_is made x b.2) (rw flat_map-cons both, ap suc second.1, (first.1, second.2))

pub many_again : {A E : Type 0} (read : List ℕ → Result (A × List ℕ) E) (text : A → List ℕ) (Fits : A → Type 0) → Spells read text Fits
    → (xs : List A) (rest : List ℕ) → AllByRecursion Fits xs → many read (length xs) (flat_map text xs ++ rest) ≡ Ok (xs, rest)
unfolding many
many_again read text Fits s [] rest fits = refl
many_again read text Fits s (x ∷ xs) rest fits =
    let regrouped : flat_map text (x ∷ xs) ++ rest ≡ text x ++ (flat_map text xs ++ rest) = ap (λ (t : List ℕ). t ++ rest) (flat_map-cons text x xs) ∙ append_assoc (text x) (flat_map text xs) rest in
    ap (many read (suc (length xs))) regrouped ∙ rw (s.again x (flat_map text xs ++ rest) fits.0, many_again read text Fits s xs rest fits.1) refl

-- ---- a loop that reads so many

-- what was read before, and what is still read
abbrev pub with_front : {A E : Type 0} → List A → Result (List A × List ℕ) E → Result (List A × List ℕ) E
with_front front read = read >>= λ x. Ok (front ++ x.0, x.1)

regroup : {A E : Type 0} (front : List A) (n : A) (read : Result (List A × List ℕ) E) → with_front front (read >>= λ x. Ok (n ∷ x.0, x.1)) ≡ with_front (front ++ n ∷ []) read
regroup {A} {E} front n (Ok x) = ap (λ (ns : List A). Ok (ns, x.1)) (simp append_assoc)
regroup front n (Err f) = refl

pub goes_on : {A E : Type 0} (read : List ℕ → Result (A × List ℕ) E) (front : List A) (count i : ℕ) (bytes : List ℕ) (n : A) (after : List ℕ) (total : Result (List A × List ℕ) E) → i < count → read bytes ≡ Ok (n, after)
    → with_front front (many read (count - i) bytes) ≡ total → with_front (front ++ n ∷ []) (many read (count - (i + 1)) after) ≡ total
unfolding many
goes_on read front count i bytes n after total lt h so_far =
    let k : count - i ≡ suc (count - (i + 1)) = omega arith in
    let one : with_front front (many read (count - i) bytes) ≡ with_front (front ++ n ∷ []) (many read (count - (i + 1)) after) = rw (k, h) (regroup front n (many read (count - (i + 1)) after)) in
    sym one ∙ so_far

pub ends : {A E : Type 0} (read : List ℕ → Result (A × List ℕ) E) (f : E) (front : List A) (count i : ℕ) (bytes : List ℕ) (total : Result (List A × List ℕ) E) → i < count → read bytes ≡ Err f
    → with_front front (many read (count - i) bytes) ≡ total → total ≡ Err f
unfolding many
ends read f front count i bytes total lt h so_far =
    let k : count - i ≡ suc (count - (i + 1)) = omega arith in
    let one : with_front front (many read (count - i) bytes) ≡ Err f = rw (k, h) refl in
    sym so_far ∙ one

pub is_done : {A E : Type 0} (read : List ℕ → Result (A × List ℕ) E) (front : List A) (count i : ℕ) (bytes : List ℕ) (total : Result (List A × List ℕ) E) → count ≤ i → with_front front (many read (count - i) bytes) ≡ total → total ≡ Ok (front, bytes)
unfolding many
is_done {A} {E} read front count i bytes total le so_far =
    let k : count - i ≡ 0 = omega arith in
    let one : with_front front (many read (count - i) bytes) ≡ Ok (front, bytes) = rw k (ap (λ (ns : List A). Ok (ns, bytes)) (append-nil front)) in
    sym so_far ∙ one
