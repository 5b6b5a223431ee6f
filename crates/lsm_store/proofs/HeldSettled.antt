-- Of names that settled, those that are gone for good are let go.
use Rattle.std.proofs.Common.{◌≡◌, ℕ, Bool, true, false, cond, List, [], ◌∷◌, Some, None, unwrap_or, refl, sym, ap, ◌∙◌, subst}
use Rattle.std.specs.Cmp.Lexicographic.{bytes_decides}
use Rattle.std.specs.List.{AllByRecursion, IsDistinct}
use Rattle.std.specs.Map.{keys_of, lookup}
use Rattle.std.specs.Map.Calls.{RetainsPairs}
use Rattle.std.specs.declared.alloc.Global.{Global}
use Rattle.std.specs.declared.string.String.{String}
use Rattle.std.specs.Str.{bytes_eq}
use Rattle.std.specs.String.{string_bytes, string_eq}
use Rattle.std.proofs.lemmas.Map.Keys.{IsDistinct-head, IsDistinct-tail}
use Rattle.lsm_store.specs.Held.{Held, nothing, settled}

abbrev Entries : Type 0
Entries = List (String Global × Held)

module _ (n : List ℕ) where
  abbrev at : String Global → Bool
  at k = bytes_eq n (string_bytes k)

  -- what is found of a name, as it is held
  abbrev shown : Entries → Held
  shown es = unwrap_or (lookup at es) nothing

  -- a name stands at one place
  none_later : (k : String Global) (es : Entries) → AllByRecursion (λ y. string_eq k y ≡ false) (keys_of es) → at k ≡ true → lookup at es ≡ None
  none_later k [] later here = refl
  none_later k (e ∷ es) later here =
      let same : n ≡ string_bytes k = (bytes_decides n (string_bytes k)).0 here in
      let differs : at e.0 ≡ false = ap (λ m. bytes_eq m (string_bytes e.0)) same ∙ later.0 in
      ap (λ b. cond b (Some e.1) (lookup at es)) differs ∙ none_later k es later.1 here

  module _ {F : Type 0} (T : F → String Global → Held → Bool → Held → F → Type 0) (f : F)
      (step : (k : String Global) (v : Held) (b : Bool) (w : Held) (f' : F) → T f k v b w f' → (w ≡ settled v) × (b ≡ false → w ≡ nothing) × (f' ≡ f)) where
    -- what isn't there isn't kept
    none_kept : (g : F) (es kept : Entries) → RetainsPairs T g es kept → lookup at es ≡ None → lookup at kept ≡ None
    none_kept g [] kept r none = ap (lookup at) r
    none_kept g (e ∷ es) kept r none = go (at e.0) refl r.0 refl (none_kept r.2 es r.3 r.5)
      where
        go : (here : Bool) → at e.0 ≡ here → (b : Bool) → r.0 ≡ b → (lookup at es ≡ None → lookup at r.3 ≡ None) → lookup at kept ≡ None
        go true here b is rest = let z = sym (ap (λ h. cond h (Some e.1) (lookup at es)) here) ∙ none in absurd (cc z)
        go false here true is rest = ap (lookup at) (r.6 ∙ ap (λ b. cond b ((e.0, r.1) ∷ r.3) r.3) is) ∙ ap (λ h. cond h (Some r.1) (lookup at r.3)) here ∙ rest (sym (ap (λ h. cond h (Some e.1) (lookup at es)) here) ∙ none)
        go false here false is rest = ap (lookup at) (r.6 ∙ ap (λ b. cond b ((e.0, r.1) ∷ r.3) r.3) is) ∙ rest (sym (ap (λ h. cond h (Some e.1) (lookup at es)) here) ∙ none)

    module _ (e : String Global × Held) (es rest : Entries) (b : Bool) (w : Held) (is : w ≡ settled e.1) (gone : b ≡ false → w ≡ nothing)
        (none : at e.0 ≡ true → lookup at rest ≡ None) (others : shown rest ≡ settled (shown es)) where
      found : (here : Bool) → at e.0 ≡ here → (c : Bool) → b ≡ c → shown (cond c ((e.0, w) ∷ rest) rest) ≡ settled (shown (e ∷ es))
      found true here true kept = ap (λ h. unwrap_or (cond h (Some w) (lookup at rest)) nothing) here ∙ is ∙ sym (ap (λ h. settled (unwrap_or (cond h (Some e.1) (lookup at es)) nothing)) here)
      found true here false kept = ap (λ o. unwrap_or o nothing) (none here) ∙ sym (gone kept) ∙ is ∙ sym (ap (λ h. settled (unwrap_or (cond h (Some e.1) (lookup at es)) nothing)) here)
      found false here true kept = ap (λ h. unwrap_or (cond h (Some w) (lookup at rest)) nothing) here ∙ others ∙ sym (ap (λ h. settled (unwrap_or (cond h (Some e.1) (lookup at es)) nothing)) here)
      found false here false kept = others ∙ sym (ap (λ h. settled (unwrap_or (cond h (Some e.1) (lookup at es)) nothing)) here)

    pub settles : (es kept : Entries) → IsDistinct string_eq (keys_of es) → RetainsPairs T f es kept → shown kept ≡ settled (shown es)
    settles [] kept distinct r = ap shown r
    settles (e ∷ es) kept distinct r =
        let a = step e.0 e.1 r.0 r.1 r.2 r.4 in
        let ran = subst (λ g. RetainsPairs T g es r.3) a.2 r.5 in
        let none : at e.0 ≡ true → lookup at r.3 ≡ None = λ here. none_kept f es r.3 ran (none_later e.0 es (IsDistinct-head string_eq e.0 (keys_of es) distinct) here) in
        ap shown r.6 ∙ found e es r.3 r.0 r.1 a.0 a.1 none (settles es r.3 (IsDistinct-tail string_eq e.0 (keys_of es) distinct) ran) (at e.0) refl r.0 refl
