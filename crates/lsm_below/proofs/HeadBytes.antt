-- The head of a key of 16 bytes or more is the number that they spell.
use Rattle.std.proofs.Common.{◌≡◌, ℕ, zero, suc, ◌+◌, ◌-◌, ◌*◌, ◌<◌, ◌≤◌, List, length, get_or, take, drop, refl, sym, ◌∙◌, subst, arith, add-one}
use Rattle.std.proofs.lemmas.List.{get_or-take}
use Rattle.std.specs.Int.{w128, from_be_bytes}
use Rattle.lsm_below.specs.Heads.{head_from, key_head}
use Rattle.lsm_below.proofs.Heads.{head_step, head_all}

-- the first p bytes as a number
abbrev spelled : List ℕ → ℕ → ℕ
spelled key zero = 0
spelled key (suc p) = spelled key p * 256 + get_or key p 0

spelled_so_far : (key : List ℕ) (p : ℕ) → p ≤ 16 → head_from (spelled key p) (16 - p) (drop p key) ≡ key_head key
spelled_so_far key zero le = refl
spelled_so_far key (suc p) le =
    subst (λ k. head_from (spelled key (suc p)) (16 - k) (drop k key) ≡ key_head key) (add-one p)
    (sym (head_step (spelled key p) p key (omega arith)) ∙ spelled_so_far key p (omega arith))

pub whole_head : (key bs : List ℕ) → 16 ≤ length key → bs ≡ take 16 key → from_be_bytes w128 bs ≡ key_head key
whole_head key bs le is =
    let at : (i : ℕ) → i < 16 → get_or bs i 0 ≡ get_or key i 0 = λ i lt. subst (λ l. get_or l i 0 ≡ get_or key i 0) (sym is) (get_or-take 16 key i 0 lt) in
    let sum : from_be_bytes w128 bs ≡ spelled key 16 = omega (arith, at 0 (omega arith), at 1 (omega arith), at 2 (omega arith), at 3 (omega arith), at 4 (omega arith), at 5 (omega arith), at 6 (omega arith), at 7 (omega arith), at 8 (omega arith), at 9 (omega arith), at 10 (omega arith), at 11 (omega arith), at 12 (omega arith), at 13 (omega arith), at 14 (omega arith), at 15 (omega arith)) in
    sum ∙ (sym (head_all (spelled key 16) key 16 refl) ∙ spelled_so_far key 16 (omega arith))
