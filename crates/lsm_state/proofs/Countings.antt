-- What is counted of entries, and of others after them.
use Rattle.std.proofs.Common.{◌≡◌, ℕ, ◌+◌, ◌≤◌, List, [], ◌∷◌, ◌++◌, Some, None, length, flat_map, sum_by, max, unwrap_or, zero, suc, refl, ap, ◌∙◌, arith}
use Rattle.std.proofs.lemmas.List.Concat.{flat_map-cons, length-flat_map}
use Rattle.std.proofs.lemmas.List.{length-append}
use Rattle.std.proofs.lemmas.Grind.{flat_map-append}
use Rattle.lsm_below.specs.Entries.{Entry}
use Rattle.lsm_below.specs.Sums.{capped}
use Rattle.lsm_tables.specs.Tables.{SeenTable, greatest}
use Rattle.lsm_memtable.specs.Memtables.{highest_of}
use Rattle.lsm_versions.specs.Totals.{greatest_of}

-- ---- sequence numbers

or_zero-greatest : (es : List Entry) → unwrap_or (highest_of es) 0 ≡ greatest es
or_zero-greatest [] = refl
or_zero-greatest (e ∷ es) = ap (λ n. max e.key.seqno n) (or_zero-greatest es)

greatest-append : (xs ys : List Entry) → greatest (xs ++ ys) ≡ max (greatest xs) (greatest ys)
greatest-append [] ys = omega arith
greatest-append (x ∷ xs) ys = let h = greatest-append xs ys in omega (arith, h)

abbrev in_tables : List SeenTable → List Entry
in_tables ts = flat_map (λ t. t.entries) ts

greatest_in_tables : (ts : List SeenTable) → greatest (in_tables ts) ≡ greatest_of ts
greatest_in_tables [] = refl
greatest_in_tables (t ∷ ts) = ap greatest (flat_map-cons (λ u. u.entries) t ts) ∙ greatest-append t.entries (in_tables ts) ∙ ap (λ n. max (greatest t.entries) n) (greatest_in_tables ts)

highest_of_none : (es : List Entry) → length es ≡ 0 → highest_of es ≡ None
highest_of_none [] h = refl
highest_of_none (e ∷ es) h = absurd (omega (arith, h))

highest_of_some : (es : List Entry) → 1 ≤ length es → highest_of es ≡ Some (greatest es)
highest_of_some [] h = absurd (omega (arith, h))
highest_of_some (e ∷ es) h = ap (λ n. Some (max e.key.seqno n)) (or_zero-greatest es)

is_more : (n : ℕ) → (n ≡ 0 → ⊥) → 1 ≤ n
is_more zero h = absurd (h refl)
is_more (suc n) h = omega arith

-- tables, by how many entries they have together
module _ (ts : List SeenTable) (items : ℕ) (h : items ≡ capped (sum_by (λ t. length t.entries) ts)) where
  pub highest_in_none : items ≡ 0 → highest_of (in_tables ts) ≡ None
  highest_in_none none =
      let len = length-flat_map (λ (t : SeenTable). t.entries) ts in
      highest_of_none (in_tables ts) (omega (arith, h, none, len))

  pub highest_in_some : (items ≡ 0 → ⊥) → highest_of (in_tables ts) ≡ Some (greatest_of ts)
  highest_in_some some =
      let more = is_more items some in
      let len = length-flat_map (λ (t : SeenTable). t.entries) ts in
      highest_of_some (in_tables ts) (omega (arith, h, more, len)) ∙ ap Some (greatest_in_tables ts)

-- ---- numbers of entries

-- the entries of one more memtable
pub length_with : (f : ℕ → List Entry) (ids : List ℕ) (id : ℕ) → length (flat_map f (ids ++ id ∷ [])) ≡ length (flat_map f ids) + length (f id)
length_with f ids id =
    let both = ap length (flat_map-append f ids (id ∷ [])) ∙ length-append (flat_map f ids) (flat_map f (id ∷ [])) in
    let one = ap length (flat_map-cons f id []) ∙ length-append (f id) [] in
    omega (arith, both, one)

-- sums that stand at the greatest number on the way
pub all_counted : (f : ℕ → List Entry) (ids : List ℕ) (id : ℕ) (ts : List SeenTable) (sealed active both items all : ℕ) → sealed ≡ capped (length (flat_map f ids)) → active ≡ length (f id) → both ≡ capped (sealed + active)
    → items ≡ capped (sum_by (λ t. length t.entries) ts) → all ≡ capped (both + items) → all ≡ capped (length (flat_map f (ids ++ id ∷ [])) + length (in_tables ts))
all_counted f ids id ts sealed active both items all h1 h2 h3 h4 h5 =
    let mem = length_with f ids id in
    let len = length-flat_map (λ (t : SeenTable). t.entries) ts in
    omega (arith, h1, h2, h3, h4, h5, mem, len)
