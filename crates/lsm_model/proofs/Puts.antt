-- An entry that is put in its place, seen one key at a time.
use Rattle.std.proofs.Common.{◌≡◌, ℕ, ◌<◌, Bool, true, false, cond, List, [], ◌∷◌, refl, sym, ap, ◌∙◌, arith, Ordering, Less, Equal, Greater, nat_cmp}
use Rattle.std.specs.List.{AllByRecursion}
use Rattle.std.specs.Ordering.{ordering_then}
use Rattle.std.specs.Cmp.Lexicographic.{nat_list_cmp_total}
use Rattle.std.proofs.lemmas.Cmp.{tied_itself, ranked}
use Rattle.std.specs.FinMap.{slice_cmp-IsAntisymmetric, nat_cmp-IsAntisymmetric}
use Rattle.lsm_below.specs.Keys.{Bytes, is_same, bytes_cmp}
use Rattle.lsm_below.specs.Entries.{entry_cmp, Entry, stack}
use Rattle.lsm_below.specs.Sorted.{put, by_ordering}
use Rattle.lsm_model.proofs.Journals.{same_key, same_itself}

greater : (a b : ℕ) (r : Ordering) → r ≡ nat_cmp a b → b < a → r ≡ Greater
greater a b Less is h = let l = ranked a b Less is in absurd (omega arith)
greater a b Equal is h = let l = ranked a b Equal is in absurd (omega arith)
greater a b Greater is h = refl

-- an entry of the same key with a lower sequence number comes after
stands_behind : (x e : Entry) → e.key.user_key ≡ x.key.user_key → x.key.seqno < e.key.seqno → entry_cmp x e ≡ Greater
stands_behind x e same h =
    ap (λ o. ordering_then o (nat_cmp e.key.seqno x.key.seqno)) (ap (λ k. bytes_cmp x.key.user_key k) same ∙ tied_itself nat_list_cmp_total x.key.user_key)
    ∙ greater e.key.seqno x.key.seqno (nat_cmp e.key.seqno x.key.seqno) refl h

abbrev Below : Entry → List Entry → Type 0
Below e es = AllByRecursion (λ f. f.key.seqno < e.key.seqno) es

-- where the entry has the greatest number of its key, it comes before all others of the key
pub put_stack : (k : Bytes) (e : Entry) (es : List Entry) → Below e (stack e.key.user_key es) → stack k (put entry_cmp e es) ≡ stack k (e ∷ es)
put_stack k e [] below = refl
put_stack k e (x ∷ xs) below = by_place (put_stack k e xs (tail (is_same e.key.user_key x.key.user_key) below)) (entry_cmp x e) refl
  where
    tail : (b : Bool) → Below e (cond b (x ∷ stack e.key.user_key xs) (stack e.key.user_key xs)) → Below e (stack e.key.user_key xs)
    tail true h = h.1
    tail false h = h

    -- what does not come after has another key
    other : (r : Ordering) → entry_cmp x e ≡ r → (r ≡ Greater → ⊥) → is_same e.key.user_key x.key.user_key ≡ false
    other r is not = elim (is_same e.key.user_key x.key.user_key) as (λ b. is_same e.key.user_key x.key.user_key ≡ b → Below e (cond b (x ∷ stack e.key.user_key xs) (stack e.key.user_key xs)) → b ≡ false) [
      | true ↦ λ q h. absurd (not (sym is ∙ stands_behind x e (same_key e.key.user_key x.key.user_key q) h.0))
      | false ↦ λ q h. refl
    ] refl below

    passed : is_same e.key.user_key x.key.user_key ≡ false → (b c : Bool) → is_same k e.key.user_key ≡ b → is_same k x.key.user_key ≡ c → cond c (x ∷ cond b (e ∷ stack k xs) (stack k xs)) (cond b (e ∷ stack k xs) (stack k xs)) ≡ cond b (e ∷ cond c (x ∷ stack k xs) (stack k xs)) (cond c (x ∷ stack k xs) (stack k xs))
    passed apart true true p q =
        let one = same_key k e.key.user_key p in
        let two = same_key k x.key.user_key q in
        let z : is_same e.key.user_key x.key.user_key ≡ true = ap (λ w. is_same w x.key.user_key) (sym one) ∙ q in
        let bad : true ≡ false = sym z ∙ apart in
        absurd (cc bad)
    passed apart true false p q = refl
    passed apart false true p q = refl
    passed apart false false p q = refl

    by_place : stack k (put entry_cmp e xs) ≡ stack k (e ∷ xs) → (r : Ordering) → entry_cmp x e ≡ r → stack k (by_ordering r (x ∷ put entry_cmp e xs) (e ∷ xs) (e ∷ x ∷ xs)) ≡ stack k (e ∷ x ∷ xs)
    by_place ih Less is =
        ap (λ es. cond (is_same k x.key.user_key) (x ∷ es) es) ih
        ∙ passed (other Less is (λ z. absurd (cc z))) (is_same k e.key.user_key) (is_same k x.key.user_key) refl refl
    by_place ih Equal is = absurd (same_place (other Equal is (λ z. absurd (cc z))) (tied_keys is))
      where
        same_place : is_same e.key.user_key x.key.user_key ≡ false → x.key.user_key ≡ e.key.user_key → ⊥
        same_place apart same = let z : true ≡ false = sym (same_itself e.key.user_key) ∙ (ap (λ w. is_same e.key.user_key w) (sym same) ∙ apart) in absurd (cc z)

        first_tied : (r s : Ordering) → ordering_then r s ≡ Equal → r ≡ Equal
        first_tied Less s h = h
        first_tied Equal s h = refl
        first_tied Greater s h = h

        tied_keys : entry_cmp x e ≡ Equal → x.key.user_key ≡ e.key.user_key
        tied_keys h = slice_cmp-IsAntisymmetric nat_cmp-IsAntisymmetric x.key.user_key e.key.user_key (first_tied (bytes_cmp x.key.user_key e.key.user_key) (nat_cmp e.key.seqno x.key.seqno) h)
    by_place ih Greater is = refl
