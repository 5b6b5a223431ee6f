-- Memtables that are listed by their ids.
use Rattle.std.proofs.Common.{◌≡◌, ℕ, List, [], ◌++◌, Option, Some, None, MatchOption, map, flat_map, option_to_list, Bor, refl, sym, ap, ◌∙◌, append-nil}
use Rattle.std.proofs.lemmas.Grind.{flat_map-append}
use Rattle.std.proofs.lemmas.List.Folds.{flat_map-map}
use Rattle.std.specs.declared.ops.Bound.{Bound}
use Rattle.lsm_below.specs.Keys.{Bytes}
use Rattle.lsm_below.specs.Entries.{Entry}
use Rattle.lsm_iter.specs.Reads.{Part, at}
use Rattle.lsm_iter.specs.Left.{copied, copies}
use Rattle.lsm_memtable.specs.Memtables.{SeenMemtable}
use Rattle.lsm_parts.specs.Held.{entries_of}
use Rattle.lsm_state.specs.Copies.{AreThose}

module _ (mems : List SeenMemtable) (f : List Entry → List Entry) (none : f [] ≡ []) where
  -- what is made of the entries of the memtable with an id, if it is held
  abbrev made : ℕ → List Entry
  made id = f (entries_of mems id)

  abbrev made_of : Bor SeenMemtable → List Entry
  made_of m = f m.now.entries

  found_is : (id : ℕ) (found : Option (Bor SeenMemtable)) → MatchOption found (entries_of mems id ≡ []) (λ m. m.now.entries ≡ entries_of mems id) → flat_map made_of (option_to_list found) ≡ made id
  found_is id None h = sym (ap f h ∙ none)
  found_is id (Some m) h = append-nil (f m.now.entries) ∙ ap f h

  pub found_more : (id : ℕ) (found : Option (Bor SeenMemtable)) (list new : List (Bor SeenMemtable)) → MatchOption found (entries_of mems id ≡ []) (λ m. m.now.entries ≡ entries_of mems id) → new ≡ list ++ option_to_list found → flat_map made_of new ≡ flat_map made_of list ++ made id
  found_more id found list new h is = ap (flat_map made_of) is ∙ flat_map-append made_of list (option_to_list found) ∙ ap (λ l. flat_map made_of list ++ l) (found_is id found h)

-- what is copied of listed memtables is what is copied of those with their ids
pub copied_those : (mems : List SeenMemtable) (ids : List ℕ) (list : List (Bor SeenMemtable)) (low high : Bound Bytes) (s : ℕ) (top : List Part) → AreThose mems ids list
    → copies low high (top ++ map (at s) (map (λ m. m.now.entries) list)) ≡ copies low high (top ++ map (λ id. at s (entries_of mems id)) ids)
copied_those mems ids list low high s top those =
    flat_map-append (copied low high) top (map (at s) (map (λ m. m.now.entries) list))
    ∙ ap (λ l. copies low high top ++ l)
    (flat_map-map (copied low high) (at s) (map (λ m. m.now.entries) list) ∙ flat_map-map (λ es. copied low high (at s es)) (λ m. m.now.entries) list
    ∙ those (λ es. copied low high (at s es)) refl ∙ sym (flat_map-map (copied low high) (λ id. at s (entries_of mems id)) ids))
    ∙ sym (flat_map-append (copied low high) top (map (λ id. at s (entries_of mems id)) ids))
