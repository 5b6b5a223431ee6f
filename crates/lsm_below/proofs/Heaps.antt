-- Indexes of slots as a heap.
use Rattle.std.proofs.Common.{◌≡◌, ◌≢◌, inl, inr, ℕ, zero, suc, ◌+◌, ◌-◌, ◌*◌, ◌/◌, ◌<◌, ◌≤◌, ltb, Bool, true, false, not, cond, List, Option, None, get_or, refl, sym, ap, ◌∙◌, arith}
use Rattle.std.specs.Cmp.{IsStrictWeakOrder}
use Rattle.std.proofs.lemmas.Bool.{ltb-true, ltb-false}
use Rattle.std.proofs.lemmas.Bool.Decides.{eqb_tells}
use Rattle.std.proofs.lemmas.List.Edits.{Swapped}
use Rattle.lsm_below.specs.declared.value.InternalValue.{InternalValue}
use Rattle.lsm_below.specs.Slots.{slot_before}
use Rattle.lsm_below.proofs.Taking.{heads_order}

pub by_same : {P : Type 0} (a b : ℕ) → (a ≡ b → P) → (a ≢ b → P) → P
by_same a b same other = elim (eqb_tells a b) [ inl e ↦ same e.1 | inr n ↦ other n.1 ]

-- values by an order of theirs, and where they tie, by their numbers
module _ {X : Type 0} {lt : X → X → Bool} (o : IsStrictWeakOrder lt) (value : ℕ → X) where
  abbrev Ahead : ℕ → ℕ → Bool → Type 0
  Ahead a b r = cond (ltb a b) (not (lt (value b) (value a))) (lt (value a) (value b)) ≡ r

  pub not_before : (a b : ℕ) → Ahead a b false → lt (value a) (value b) ≡ false
  not_before a b = go (ltb a b) (lt (value b) (value a)) refl
    where
      go : (s r : Bool) → lt (value b) (value a) ≡ r → cond s (not r) (lt (value a) (value b)) ≡ false → lt (value a) (value b) ≡ false
      go false r e h = h
      go true true e h = o.one_way (value b) (value a) e
      go true false e h = absurd (cc h)

  pub tie_before : (a b : ℕ) → a < b → Ahead a b false → lt (value b) (value a) ≡ true
  tie_before a b l = go (ltb a b) (lt (value b) (value a)) refl refl
    where
      go : (s r : Bool) → ltb a b ≡ s → lt (value b) (value a) ≡ r → cond s (not r) (lt (value a) (value b)) ≡ false → lt (value b) (value a) ≡ true
      go false r e f h = absurd (omega (arith, ltb-false a b e))
      go true true e f h = f
      go true false e f h = absurd (cc h)

  ahead_one_way : (a b : ℕ) → Ahead a b true → Ahead b a false
  ahead_one_way a b = go (ltb a b) (ltb b a) refl refl
    where
      go : (s t : Bool) → ltb a b ≡ s → ltb b a ≡ t → cond s (not (lt (value b) (value a))) (lt (value a) (value b)) ≡ true → cond t (not (lt (value a) (value b))) (lt (value b) (value a)) ≡ false
      go true true e f h = absurd (omega (arith, ltb-true a b e, ltb-true b a f))
      go true false e f h = turned (lt (value b) (value a)) h
        where
          turned : (r : Bool) → not r ≡ true → r ≡ false
          turned true h = sym h
          turned false h = refl
      go false true e f h = ap not h
      go false false e f h = o.one_way (value a) (value b) h

  ahead_chain : (a b c : ℕ) → Ahead a b false → Ahead b c false → Ahead a c false
  ahead_chain a b c h k = go (ltb a c) (lt (value c) (value a)) refl refl
    where
      x : lt (value a) (value b) ≡ false
      x = not_before a b h

      y : lt (value b) (value c) ≡ false
      y = not_before b c k

      apart : (s : Bool) → ltb a b ≡ s → a < c → lt (value c) (value a) ≡ false → ⊥
      apart true e l z = let p : lt (value b) (value a) ≡ true = tie_before a b (ltb-true a b e) h in cc (p, o.chain (value b) (value c) (value a) y z)
      apart false e l z = let p : lt (value c) (value b) ≡ true = tie_before b c (omega (arith, ltb-false a b e)) k in cc (p, o.chain (value c) (value a) (value b) z x)

      go : (s r : Bool) → ltb a c ≡ s → lt (value c) (value a) ≡ r → cond s (not r) (lt (value a) (value c)) ≡ false
      go false r e f = o.chain (value a) (value b) (value c) x y
      go true true e f = refl
      go true false e f = absurd (apart (ltb a b) refl (ltb-true a c e) f)

pub slot_order : (heads : List (Option InternalValue)) → IsStrictWeakOrder (slot_before heads)
slot_order heads =
    let o = heads_order (λ (h : Option InternalValue). h) in
    record { one_way = ahead_one_way o (λ i. get_or heads i None); chain = ahead_chain o (λ i. get_or heads i None) }

-- places, each above the two at its double and one, and at its double and two
module _ {before : ℕ → ℕ → Bool} (o : IsStrictWeakOrder before) where
  never : (a : ℕ) → before a a ≡ false
  never a = go (before a a) refl
    where
      go : (r : Bool) → before a a ≡ r → r ≡ false
      go true e = sym e ∙ o.one_way a a e
      go false e = refl

  moved : (a b c d : ℕ) → a ≡ c → b ≡ d → before c d ≡ false → before a b ≡ false
  moved a b c d e f h = ap (λ n. before n b) e ∙ ap (λ n. before c n) f ∙ h

  abbrev FirstBelow : (ℕ → ℕ) → ℕ → ℕ → ℕ → Type 0
  FirstBelow f n at c = (k : ℕ) → at * 2 + 1 ≤ k → k ≤ at * 2 + 2 → k < n → before (f k) (f c) ≡ false

  pub left_first : (f : ℕ → ℕ) (n at : ℕ) → (at * 2 + 1 + 1 < n → before (f (at * 2 + 1 + 1)) (f (at * 2 + 1)) ≡ false) → FirstBelow f n at (at * 2 + 1)
  left_first f n at h k l m lt = by_same k (at * 2 + 1) (λ e. moved (f k) (f (at * 2 + 1)) (f (at * 2 + 1)) (f (at * 2 + 1)) (ap f e) refl (never (f (at * 2 + 1))))
      (λ d. let e : k ≡ at * 2 + 1 + 1 = omega arith in moved (f k) (f (at * 2 + 1)) (f (at * 2 + 1 + 1)) (f (at * 2 + 1)) (ap f e) refl (h (omega arith)))

  pub right_first : (f : ℕ → ℕ) (n at : ℕ) → before (f (at * 2 + 1 + 1)) (f (at * 2 + 1)) ≡ true → FirstBelow f n at (at * 2 + 1 + 1)
  right_first f n at h k l m lt = by_same k (at * 2 + 1) (λ e. moved (f k) (f (at * 2 + 1 + 1)) (f (at * 2 + 1)) (f (at * 2 + 1 + 1)) (ap f e) refl (o.one_way (f (at * 2 + 1 + 1)) (f (at * 2 + 1)) h))
      (λ d. let e : k ≡ at * 2 + 1 + 1 = omega arith in moved (f k) (f (at * 2 + 1 + 1)) (f (at * 2 + 1 + 1)) (f (at * 2 + 1 + 1)) (ap f e) refl (never (f (at * 2 + 1 + 1))))

  abbrev HeapFrom : (ℕ → ℕ) → ℕ → ℕ → Type 0
  HeapFrom f n low = (p k : ℕ) → low ≤ p → p * 2 + 1 ≤ k → k ≤ p * 2 + 2 → k < n → before (f k) (f p) ≡ false

  -- a heap, but for what stands at one place: what is below that is not before what is above it
  abbrev pub HeapBut : (ℕ → ℕ) → ℕ → ℕ → ℕ → Type 0
  HeapBut f n low at =
      ((p k : ℕ) → low ≤ p → p ≢ at → p * 2 + 1 ≤ k → k ≤ p * 2 + 2 → k < n → before (f k) (f p) ≡ false)
      × ((p k : ℕ) → low ≤ p → p * 2 + 1 ≤ at → at ≤ p * 2 + 2 → at * 2 + 1 ≤ k → k ≤ at * 2 + 2 → k < n → before (f k) (f p) ≡ false)

  pub heap_at_rest : (f : ℕ → ℕ) (n low at c : ℕ) → before (f c) (f at) ≡ false → FirstBelow f n at c → HeapBut f n low at → HeapFrom f n low
  heap_at_rest f n low at c rests first h p k l a b lt = by_same p at
      (λ e. moved (f k) (f p) (f k) (f at) refl (ap f e) (o.chain (f k) (f c) (f at) (first k (omega arith) (omega arith) lt) rests))
      (λ d. h.0 p k l d a b lt)

  pub heap_sunk : (f g : ℕ → ℕ) (n low at c : ℕ) → Swapped f g at c → low ≤ at → at * 2 + 1 ≤ c → c ≤ at * 2 + 2 → c < n → before (f c) (f at) ≡ true → FirstBelow f n at c → HeapBut f n low at → HeapBut g n low c
  heap_sunk f g n low at c s lo from to lt sinks first h = (part, other)
    where
      at_top : (p : ℕ) → p ≡ at → g p ≡ f c
      at_top p e = ap g e ∙ s.0

      part : (p k : ℕ) → low ≤ p → p ≢ c → p * 2 + 1 ≤ k → k ≤ p * 2 + 2 → k < n → before (g k) (g p) ≡ false
      part p k l d a b m = by_same p at
          (λ e. by_same k c
          (λ u. moved (g k) (g p) (f at) (f c) (ap g u ∙ s.1) (at_top p e) (o.one_way (f c) (f at) sinks))
          (λ u. moved (g k) (g p) (f k) (f c) (s.2 k (omega arith) u) (at_top p e) (first k (omega arith) (omega arith) m)))
          (λ e. by_same k at
          (λ u. moved (g k) (g p) (f c) (f p) (at_top k u) (s.2 p e d) (h.1 p c l (omega arith) (omega arith) from to lt))
          (λ u. moved (g k) (g p) (f k) (f p) (s.2 k u (omega arith)) (s.2 p e d) (h.0 p k l e a b m)))

      other : (p k : ℕ) → low ≤ p → p * 2 + 1 ≤ c → c ≤ p * 2 + 2 → c * 2 + 1 ≤ k → k ≤ c * 2 + 2 → k < n → before (g k) (g p) ≡ false
      other p k l a b u v m = moved (g k) (g p) (f k) (f c) (s.2 k (omega arith) (omega arith)) (at_top p (omega arith)) (h.0 c k (omega arith) (omega arith) u v m)

  pub top_first : (f : ℕ → ℕ) (n : ℕ) → HeapFrom f n 0 → (fuel k : ℕ) → k ≤ fuel → k < n → before (f k) (f 0) ≡ false
  top_first f n h zero k m lt = moved (f k) (f 0) (f 0) (f 0) (ap f (omega arith)) refl (never (f 0))
  top_first f n h (suc fuel) k m lt = by_same k 0
      (λ e. moved (f k) (f 0) (f 0) (f 0) (ap f e) refl (never (f 0)))
      (λ d. o.chain (f k) (f ((k - 1) / 2)) (f 0) (h ((k - 1) / 2) k (omega arith) (omega arith) (omega arith) lt) (top_first f n h fuel ((k - 1) / 2) (omega arith) (omega arith)))
