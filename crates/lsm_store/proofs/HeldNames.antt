-- The names of which reads give something, and the records that say so.
use Rattle.std.proofs.lemmas.Bool.{true≢false}
use Rattle.std.proofs.Common.{◌≡◌, ◌↔◌, ◌<◌, inl, inr, ⊎_elim, ℕ, zero, suc, Bool, true, false, cond, List, [], ◌∷◌, ◌++◌, length, map, get_or, Option, Some, is_some, IsSome, unwrap_or, Contains, refl, sym, ◌∙◌, ap, subst, arith}
use Rattle.std.specs.declared.alloc.Global.{Global}
use Rattle.std.specs.declared.string.String.{String}
use Rattle.std.specs.HashMap.{IsUnique}
use Rattle.std.specs.List.{AllByRecursion, IsDistinct}
use Rattle.std.specs.Map.{keys_of, lookup}
use Rattle.std.specs.Str.{bytes_eq}
use Rattle.std.specs.String.{string_bytes, string_eq}
use Rattle.std.proofs.lemmas.List.Elements.{Contains-append_right, Contains-append_cases}
use Rattle.std.proofs.lemmas.Map.Keys.{IsDistinct-head, IsDistinct-tail, IsDistinct-cons}
use Rattle.std.proofs.lemmas.Slice.Eq.{bytes_eq-Decides}
use Rattle.lsm_store.specs.World.{Lists}
use Rattle.lsm_store.specs.Held.{Held, nothing}
use Rattle.lsm_store.specs.Files.{Files, present}
use Rattle.lsm_store.specs.Memory.{gives_of}
use Rattle.lsm_store.proofs.HeldFiles.{split}

abbrev pub Entry : Type 0
Entry = String Global × Held

-- one record more
pub present_push : (es : List Entry) (e : Entry) → present (es ++ e ∷ []) ≡ present es ++ present (e ∷ [])
present_push [] e = refl
present_push (x ∷ es) e = elim (is_some x.1.gives) as (λ s. cond s (string_bytes x.0 ∷ present (es ++ e ∷ [])) (present (es ++ e ∷ [])) ≡ cond s (string_bytes x.0 ∷ present es) (present es) ++ present (e ∷ [])) [
  | true ↦ ap (λ l. string_bytes x.0 ∷ l) (present_push es e)
  | false ↦ present_push es e
]

pub bytes_push : (names : List (String Global)) (name : String Global) → map string_bytes (names ++ name ∷ []) ≡ map string_bytes names ++ string_bytes name ∷ []
bytes_push [] name = refl
bytes_push (x ∷ names) name = ap (λ l. string_bytes x ∷ l) (bytes_push names name)

pub pairs_push : {A B : Type 0} (f : A → B) (xs : List A) (x : A) → map f (xs ++ x ∷ []) ≡ map f xs ++ f x ∷ []
pairs_push f [] x = refl
pairs_push f (y ∷ xs) x = ap (λ l. f y ∷ l) (pairs_push f xs x)

-- ---- names differ

all_apart : (k : String Global) (es : List Entry) → AllByRecursion (λ y. string_eq k y ≡ false) (keys_of es) → AllByRecursion (λ y. bytes_eq (string_bytes k) y ≡ false) (present es)
all_apart k [] all = tt
all_apart k (e ∷ es) all = elim (is_some e.1.gives) as (λ s. AllByRecursion (λ y. bytes_eq (string_bytes k) y ≡ false) (cond s (string_bytes e.0 ∷ present es) (present es))) [
  | true ↦ (all.0, all_apart k es all.1)
  | false ↦ all_apart k es all.1
]

none_distinct : IsDistinct bytes_eq []
unfolding IsDistinct
none_distinct = tt

once : (es : List Entry) → IsDistinct string_eq (keys_of es) → IsDistinct bytes_eq (present es)
once [] distinct = none_distinct
once (e ∷ es) distinct = elim (is_some e.1.gives) as (λ s. IsDistinct bytes_eq (cond s (string_bytes e.0 ∷ present es) (present es))) [
  | true ↦ IsDistinct-cons bytes_eq (string_bytes e.0) (present es) (all_apart e.0 es (IsDistinct-head string_eq e.0 (keys_of es) distinct)) (once es (IsDistinct-tail string_eq e.0 (keys_of es) distinct))
  | false ↦ once es (IsDistinct-tail string_eq e.0 (keys_of es) distinct)
]

-- ---- each of them, and no other

element : (P : List ℕ → Type 0) (xs : List (List ℕ)) (j : ℕ) (d : List ℕ) → AllByRecursion P xs → j < length xs → P (get_or xs j d)
element P [] j d all lt = absurd (omega arith)
element P (x ∷ xs) zero d all lt = all.0
element P (x ∷ xs) (suc j) d all lt = element P xs j d all.1 (omega arith)

not_among : (n k : List ℕ) (xs : List (List ℕ)) → AllByRecursion (λ y. bytes_eq k y ≡ false) xs → bytes_eq n k ≡ true → Contains xs n → ⊥
not_among n k xs all same (j, lt, is) =
    let differ : bytes_eq k n ≡ false = subst (λ y. bytes_eq k y ≡ false) is (element (λ y. bytes_eq k y ≡ false) xs j n all lt) in
    let equal : bytes_eq k n ≡ true = (bytes_eq-Decides k n).1 (sym ((bytes_eq-Decides n k).0 same)) in
    true≢false (sym equal ∙ differ)

alone : (x n : List ℕ) → Contains (x ∷ []) n → x ≡ n
alone x n (zero, lt, is) = is
alone x n (suc k, lt, is) = absurd (omega arith)

there : (n k : List ℕ) (xs : List (List ℕ)) (s : Bool) → bytes_eq n k ≡ true → (Contains xs n → ⊥) → Contains (cond s (k ∷ xs) xs) n ↔ (s ≡ true)
there n k xs true same out = ((λ _. refl), (λ _. (0, omega arith, sym ((bytes_eq-Decides n k).0 same))))
there n k xs false same out = ((λ has. absurd (out has)), (λ e. cc))

behind : (n k : List ℕ) (xs : List (List ℕ)) (s : Bool) → bytes_eq n k ≡ false → Contains (cond s (k ∷ xs) xs) n ↔ Contains xs n
behind n k xs true differ = ((λ has. ⊎_elim (λ head. absurd (true≢false (sym ((bytes_eq-Decides n k).1 (sym (alone k n head))) ∙ differ))) (λ tail. tail) (Contains-append_cases (k ∷ []) xs n has)), (λ has. Contains-append_right (k ∷ []) xs n has))
behind n k xs false differ = ((λ has. has), (λ has. has))

abbrev pub given_in : List Entry → List ℕ → Option (List ℕ)
given_in es n = (unwrap_or (lookup (λ k. bytes_eq n (string_bytes k)) es) nothing).gives

each : (es : List Entry) (n : List ℕ) → IsDistinct string_eq (keys_of es) → Contains (present es) n ↔ IsSome (given_in es n)
each [] n distinct = ((λ has. absurd (none has)), (λ e. cc))
  where
    none : Contains [] n → ⊥
    none (k, lt, is) = omega arith
each (e ∷ es) n distinct =
    let rest = each es n (IsDistinct-tail string_eq e.0 (keys_of es) distinct) in
    elim (split (bytes_eq n (string_bytes e.0))) [
      | inl same ↦ subst (λ b. Contains (present (e ∷ es)) n ↔ IsSome (unwrap_or (cond b (Some e.1) (lookup (λ k. bytes_eq n (string_bytes k)) es)) nothing).gives) (sym same)
          (there n (string_bytes e.0) (present es) (is_some e.1.gives) same (not_among n (string_bytes e.0) (present es) (all_apart e.0 es (IsDistinct-head string_eq e.0 (keys_of es) distinct)) same))
      | inr differ ↦ subst (λ b. Contains (present (e ∷ es)) n ↔ IsSome (unwrap_or (cond b (Some e.1) (lookup (λ k. bytes_eq n (string_bytes k)) es)) nothing).gives) (sym differ)
          (let b = behind n (string_bytes e.0) (present es) (is_some e.1.gives) differ in ((λ has. rest.0 (b.0 has)), (λ some. b.1 (rest.1 some))))
    ]

pub lists_present : (files : Files) → IsUnique string_eq files → Lists (gives_of files) (present files.entries)
lists_present files unique = record { each = λ n. each files.entries n unique; once = once files.entries unique }
