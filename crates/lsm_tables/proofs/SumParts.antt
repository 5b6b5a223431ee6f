-- The checksum of parts.
use Rattle.std.proofs.Common.{◌≡◌, ℕ, ◌+◌, ◌*◌, ◌%◌, ◌^◌, List, ◌++◌, length, take, drop, sym, ap, ◌∙◌, append_assoc, lit<}
use Rattle.std.proofs.lemmas.List.{take-append-drop}
use Rattle.std.proofs.lemmas.Nat.{mul-mod, pow-add}
use Rattle.lsm_tables.specs.Sum.{prime, sum_of}
use Rattle.lsm_tables.proofs.Modular.{mod_line_second, fold_parts}

pub parts : (a b : List ℕ) → sum_of (a ++ b) ≡ (sum_of a * prime ^ length b + sum_of b) % 2 ^ 128
parts a b = fold_parts (2 ^ 128) prime a b (lit< tt)

-- two parts, with the power as it is kept
pub joined_parts : (a b : List ℕ) (x w y n : ℕ) → x ≡ sum_of a → y ≡ sum_of b → w ≡ prime ^ n % 2 ^ 128 → length b ≡ n → (x * w + y) % 2 ^ 128 ≡ sum_of (a ++ b)
joined_parts a b x w y n ex ey ew el =
    ap (λ (k : ℕ). (k * w + y) % 2 ^ 128) ex
    ∙ ap (λ (k : ℕ). (sum_of a * w + k) % 2 ^ 128) ey
    ∙ ap (λ (k : ℕ). (sum_of a * k + sum_of b) % 2 ^ 128) ew
    ∙ mod_line_second (2 ^ 128) (sum_of a) (prime ^ n) (sum_of b)
    ∙ ap (λ (k : ℕ). (sum_of a * prime ^ k + sum_of b) % 2 ^ 128) (sym el)
    ∙ sym (parts a b)

pub square_is : (m p h : ℕ) → (p ^ h % m * (p ^ h % m)) % m ≡ p ^ (h + h) % m
square_is m p h = sym (mul-mod (p ^ h) (p ^ h) m) ∙ ap (λ (k : ℕ). k % m) (sym (pow-add p h h))

-- a list is the part before a place and the part from there on
pub cut : (q : ℕ) (s f r : List ℕ) → f ≡ take q s → r ≡ drop q s → s ≡ f ++ r
cut q s f r ef er = sym (ap (λ (x : List ℕ). x ++ r) ef ∙ ap (λ (x : List ℕ). take q s ++ x) er ∙ take-append-drop q s)

pub three_parts : (s a b c r : List ℕ) → s ≡ a ++ r → r ≡ b ++ c → (a ++ b) ++ c ≡ s
three_parts s a b c r h1 h2 = append_assoc a b c ∙ ap (λ (x : List ℕ). a ++ x) (sym h2) ∙ sym h1
