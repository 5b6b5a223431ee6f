-- Heads beside entries of which one is put, or one goes.
use Rattle.std.proofs.Common.{◌≡◌, ℕ, zero, suc, ◌+◌, ◌++◌, min, subst, List, [], ◌∷◌, length, set, take, drop, map, refl, sym, ◌∙◌, ap}
use Rattle.std.specs.List.{All, insert, remove}
use Rattle.std.proofs.lemmas.List.{length-map, map-set}
use Rattle.std.proofs.lemmas.List.Elements.{All-append, All-take, All-drop, All-cons, All-set}
use Rattle.lsm_memtable.proofs.Dealt.{same_lower, same_upper, all_lower, all_upper}
use Rattle.lsm_below.specs.Entries.{Entry, HasBytes}
use Rattle.lsm_below.specs.Heads.{key_head, entry_head, AreHeads}
use Rattle.lsm_below.specs.Keys.{AreBytes}

module _ {X Y : Type 0} (f : X → Y) where
  map_insert : (xs : List X) (i : ℕ) (x : X) → map f (insert xs i x) ≡ insert (map f xs) i (f x)
  map_insert [] zero x = refl
  map_insert [] (suc i) x = refl
  map_insert (y ∷ xs) zero x = refl
  map_insert (y ∷ xs) (suc i) x = ap (λ l. f y ∷ l) (map_insert xs i x)

  map_remove : (xs : List X) (i : ℕ) → map f (remove xs i) ≡ remove (map f xs) i
  map_remove [] zero = refl
  map_remove [] (suc i) = refl
  map_remove (y ∷ xs) zero = refl
  map_remove (y ∷ xs) (suc i) = ap (λ l. f y ∷ l) (map_remove xs i)

All_insert : {X : Type 0} (P : X → Type 0) (xs : List X) (i : ℕ) (x : X) → P x → All P xs → All P (insert xs i x)
All_insert P xs i x p all = All-append P (take i xs) (x ∷ drop i xs) (All-take P i xs all) (All-cons P x (drop i xs) p (All-drop P i xs all))

All_remove : {X : Type 0} (P : X → Type 0) (xs : List X) (i : ℕ) → All P xs → All P (remove xs i)
All_remove P xs i all = All-append P (take i xs) (drop (suc i) xs) (All-take P i xs all) (All-drop P (suc i) xs all)

-- with the head and the entry e at a place
module _ (heads : List ℕ) (entries : List Entry) (place head : ℕ) (e : Entry) (are : AreHeads heads entries) (head_is : head ≡ entry_head e) (own : HasBytes e) where
  pub heads_put : AreHeads (insert heads place head) (insert entries place e)
  heads_put = record {
    same = ap (λ h. insert heads place h) head_is ∙ (ap (λ l. insert l place (entry_head e)) are.same ∙ sym (map_insert entry_head entries place e));
    bytes = All_insert HasBytes entries place e own are.bytes;
  }

  pub heads_set : AreHeads (set heads place head) (set entries place e)
  heads_set = record {
    same = ap (λ h. set heads place h) head_is ∙ (ap (λ l. set l place (entry_head e)) are.same ∙ sym (map-set entry_head entries place e));
    bytes = All-set HasBytes entries place e own are.bytes;
  }

  -- dealt alike to two lists
  module _ (keep : ℕ) (lower_heads upper_heads : List ℕ) (lower upper : List Entry)
      (heads_dealt : lower_heads ++ upper_heads ≡ insert heads place head) (dealt : lower ++ upper ≡ insert entries place e) (heads_len : length lower_heads ≡ min keep (length heads + 1)) (len : length lower ≡ min keep (length entries + 1)) where
    both_parts : lower_heads ++ upper_heads ≡ map entry_head (lower ++ upper)
    both_parts = heads_dealt ∙ (heads_put.same ∙ ap (map entry_head) (sym dealt))

    both_bytes : All HasBytes (lower ++ upper)
    both_bytes = subst (All HasBytes) (sym dealt) heads_put.bytes

    both_lens : length lower_heads ≡ length lower
    both_lens = heads_len ∙ (ap (λ n. min keep (n + 1)) (ap (λ (l : List ℕ). length l) are.same ∙ length-map entries entry_head) ∙ sym len)

    heads_lower : AreHeads lower_heads lower
    heads_lower = record { same = same_lower entry_head lower_heads upper_heads lower upper both_parts both_lens; bytes = all_lower HasBytes lower upper both_bytes }

    heads_upper : AreHeads upper_heads upper
    heads_upper = record { same = same_upper entry_head lower_heads upper_heads lower upper both_parts both_lens; bytes = all_upper HasBytes lower upper both_bytes }

-- dealt alike, where they were taken out first
pub heads_dealt : (heads : List ℕ) (entries : List Entry) (place keep head : ℕ) (e : Entry) (key : List ℕ) → AreHeads heads entries → head ≡ key_head key → key ≡ e.key.user_key → AreBytes key
    → (old_heads : List ℕ) (old : List Entry) → old_heads ≡ heads → old ≡ entries → (lower_heads upper_heads : List ℕ) (lower upper : List Entry)
    → lower_heads ++ upper_heads ≡ insert old_heads place head → lower ++ upper ≡ insert old place e → length lower_heads ≡ min keep (length old_heads + 1) → length lower ≡ min keep (length old + 1)
    → AreHeads lower_heads lower × AreHeads upper_heads upper
heads_dealt heads entries place keep head e key are is same bytes old_heads old taken_heads taken lower_heads upper_heads lower upper dealt_heads dealt heads_len len =
    let own = subst (λ k. AreBytes k) same bytes in
    let head_is = is ∙ ap (λ k. key_head k) same in
    let part_heads = dealt_heads ∙ ap (λ l. insert l place head) taken_heads in
    let part = dealt ∙ ap (λ l. insert l place e) taken in
    let few_heads = heads_len ∙ ap (λ l. min keep (length l + 1)) taken_heads in
    let few = len ∙ ap (λ l. min keep (length l + 1)) taken in (
      heads_lower heads entries place head e are head_is own keep lower_heads upper_heads lower upper part_heads part few_heads few,
      heads_upper heads entries place head e are head_is own keep lower_heads upper_heads lower upper part_heads part few_heads few,
    )

-- without those at a place
pub heads_removed : (heads : List ℕ) (entries : List Entry) (place : ℕ) → AreHeads heads entries → AreHeads (remove heads place) (remove entries place)
heads_removed heads entries place are = record {
  same = ap (λ l. remove l place) are.same ∙ sym (map_remove entry_head entries place);
  bytes = All_remove HasBytes entries place are.bytes;
}
