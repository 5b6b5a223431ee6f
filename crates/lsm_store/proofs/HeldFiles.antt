-- One name's record among the others.
use Rattle.std.proofs.lemmas.Bool.{true≢false}
use Rattle.std.proofs.Common.{◌≡◌, ◌≢◌, ◌⊎◌, ℕ, Bool, true, false, cond, List, Option, Some, None, is_some, unwrap_or, inl, inr, refl, sym, ap, ◌∙◌, subst}
use Rattle.std.specs.HashMap.{UpdatesBy, get_by_text}
use Rattle.std.specs.Str.{bytes_eq}
use Rattle.std.specs.String.{string_bytes, string_eq}
use Rattle.std.proofs.lemmas.Map.Text.{hash_map_updates_text}
use Rattle.std.proofs.lemmas.Slice.Eq.{bytes_eq-Decides}
use Rattle.lsm_store.specs.Held.{Held, nothing}
use Rattle.lsm_store.specs.Files.{Files, held_at, HoldSame, Alters}

pub split : (b : Bool) → (b ≡ true) ⊎ (b ≡ false)
split true = inl refl
split false = inr refl

pub same_bytes : (xs : List ℕ) → bytes_eq xs xs ≡ true
same_bytes xs = (bytes_eq-Decides xs xs).1 refl

pub other_bytes : (xs ys : List ℕ) → xs ≢ ys → bytes_eq xs ys ≡ false
other_bytes xs ys ne = elim (split (bytes_eq xs ys)) [
  | inl same ↦ absurd (ne ((bytes_eq-Decides xs ys).0 same))
  | inr other ↦ other
]

-- a fact of each name, from that of this one and of the others
pub by_name : (P : List ℕ → Type 0) (name : List ℕ) → P name → ((n : List ℕ) → n ≢ name → P n) → (n : List ℕ) → P n
by_name P name here other n = elim (split (bytes_eq n name)) [
  | inl same ↦ subst P (sym ((bytes_eq-Decides n name).0 same)) here
  | inr differ ↦ other n (λ is. true≢false (sym ((bytes_eq-Decides n name).1 is) ∙ differ))
]

-- what is held of a name that is found, and of one that isn't
pub found : (files : Files) (name : List ℕ) (h : Held) → Some h ≡ get_by_text files name → h ≡ held_at files name
found files name h e = ap (λ o. unwrap_or o nothing) e

pub missed : (files : Files) (name : List ℕ) → get_by_text files name ≡ None → held_at files name ≡ nothing
missed files name e = ap (λ o. unwrap_or o nothing) e

pub missed_by : (files : Files) (name : List ℕ) (b : Bool) → b ≡ is_some (get_by_text files name) → b ≡ false → held_at files name ≡ nothing
missed_by files name b is not_found = go (get_by_text files name) (sym is ∙ not_found)
  where
    go : (o : Option Held) → is_some o ≡ false → unwrap_or o nothing ≡ nothing
    go None e = refl
    go (Some h) e = cc

module _ (name : List ℕ) (old new : Files) (h : Held) (by : UpdatesBy string_eq (λ k. bytes_eq name (string_bytes k)) old new (Some h)) where
  pub set_here : held_at new name ≡ h
  set_here = ap (λ o. unwrap_or o nothing) (hash_map_updates_text name old new (Some h) by name ∙ ap (λ b. cond b (Some h) (get_by_text old name)) (same_bytes name))

  pub set_elsewhere : (n : List ℕ) → n ≢ name → held_at new n ≡ held_at old n
  set_elsewhere n ne = ap (λ o. unwrap_or o nothing) (hash_map_updates_text name old new (Some h) by n ∙ ap (λ b. cond b (Some h) (get_by_text old n)) (other_bytes name n (λ e. ne (sym e))))

  -- the same record again
  pub set_same : h ≡ held_at old name → HoldSame old new
  set_same is = by_name (λ n. held_at new n ≡ held_at old n) name (set_here ∙ is) set_elsewhere

  -- another record, after a room that was made
  pub set_alters : (before : Files) (f : Held → Held) → HoldSame before old → h ≡ f (held_at old name) → Alters name f before new
  set_alters before f room is = record {
    here = set_here ∙ is ∙ ap f (room name);
    elsewhere = λ n ne. set_elsewhere n ne ∙ room n;
  }

-- a record that says nothing, where there was none
pub still_nothing : (name : List ℕ) (h : Held) (old new : Files) → Alters name (λ _. h) old new → h ≡ nothing → held_at old name ≡ nothing → HoldSame old new
still_nothing name h old new alters is was = by_name (λ n. held_at new n ≡ held_at old n) name (alters.here ∙ is ∙ sym was) alters.elsewhere
