-- What walks and lookups of the code are in the theory's words.
use Rattle.std.proofs.Common.{◌≡◌, ℕ, Bool, true, false, ◌&&◌, List, [], ◌∷◌, ◌++◌, Option, Some, None, IfSome, refl, sym, ap, subst, ◌∙◌, map, cond, nat_lt, eqb}
use Rattle.std.specs.Option.{option_or, option_map}
use Rattle.std.specs.List.{find}
use Rattle.std.proofs.lemmas.Map.Text.{is_eq-slice_cmp}
use Rattle.std.proofs.lemmas.Slice.Eq.{bytes_eq-Decides}
use Rattle.lsm_below.specs.Keys.{Bytes, is_same}
use Rattle.lsm_below.specs.Entries.{Entry, is_tombstone_type, later, top}
use Rattle.lsm_model.specs.Views.{Memtables, sources, walk, front, found_at, lookup}
use Rattle.lsm_parts.specs.declared.version.super_version.SuperVersion.{SuperVersion}
use Rattle.lsm_parts.specs.History.{SeenHistory, found_version, oldest, versions_of}
use Rattle.lsm_state.specs.Core.{Core, shown_as}
use Rattle.lsm_parts.specs.Held.{entries_of}
use Rattle.lsm_state.specs.Calls.{Finds, live}

-- a walk goes on where it found nothing
pub walk-append : (k : Bytes) (s : ℕ) (xs ys : List (List Entry)) → walk k s (xs ++ ys) ≡ option_or (walk k s xs) (walk k s ys)
walk-append k s [] ys = refl
walk-append k s (es ∷ xs) ys = ap (option_or (top k s es)) (walk-append k s xs ys) ∙ or_assoc (top k s es) (walk k s xs) (walk k s ys)
  where
    or_assoc : (a b c : Option Entry) → option_or a (option_or b c) ≡ option_or (option_or a b) c
    or_assoc None b c = refl
    or_assoc (Some x) b c = refl

module _ (s : ℕ) where
  find_shown : (older : List SuperVersion) → find (λ sv. nat_lt sv.number s) (map shown_as older) ≡ option_map shown_as (find (λ sv. nat_lt sv.seqno s) older)
  find_shown [] = refl
  find_shown (sv ∷ older) = elim (nat_lt sv.seqno s) as (λ b. cond b (Some (shown_as sv)) (find (λ sv. nat_lt sv.number s) (map shown_as older)) ≡ option_map shown_as (cond b (Some sv) (find (λ sv. nat_lt sv.seqno s) older))) [
    | true ↦ refl
    | false ↦ find_shown older
  ]

  front_shown : (latest : SuperVersion) (older : List SuperVersion) → front (shown_as latest) (map shown_as older) ≡ shown_as (oldest latest older)
  front_shown latest [] = refl
  front_shown latest (sv ∷ older) = front_shown sv older

  -- what a snapshot finds, in the theory's words
  pub found_shown : (h : SeenHistory) → found_at s (shown_as h.latest) (map shown_as h.older) ≡ option_map shown_as (found_version s h)
  found_shown h = elim (eqb s 0) as (λ b. cond b (Some (front (shown_as h.latest) (map shown_as h.older))) (lookup s (shown_as h.latest ∷ map shown_as h.older)) ≡ option_map shown_as (cond b (Some (oldest h.latest h.older)) (find (λ sv. nat_lt sv.seqno s) (versions_of h)))) [
    | true ↦ ap Some (front_shown h.latest h.older)
    | false ↦ find_shown (versions_of h)
  ]

module _ (s : ℕ) (h : SeenHistory) where
  pub found_some : (sv : SuperVersion) → found_version s h ≡ Some sv → found_at s (shown_as h.latest) (map shown_as h.older) ≡ Some (shown_as sv)
  found_some sv e = found_shown s h ∙ ap (option_map shown_as) e

  pub found_none : found_version s h ≡ None → found_at s (shown_as h.latest) (map shown_as h.older) ≡ None
  found_none e = found_shown s h ∙ ap (option_map shown_as) e

  pub found_not_none : (sv : SuperVersion) → found_version s h ≡ Some sv → found_at s (shown_as h.latest) (map shown_as h.older) ≡ None → ⊥
  found_not_none sv e none = some_none (sym (found_some sv e) ∙ none)
    where
      some_none : Some (shown_as sv) ≡ None → ⊥
      some_none q = cc q

module _ (k : Bytes) (s : ℕ) (mems : Memtables) where
  -- a walk goes on after the memtables
  pub walked : (ids : List ℕ) (i : ℕ) (tables : List (List Entry)) (w : Option Entry) → None ≡ top k s (mems i) → w ≡ option_or (walk k s (map mems ids)) (walk k s tables) → w ≡ walk k s (map mems (i ∷ ids) ++ tables)
  walked ids i tables w nothing e = e ∙ sym (walk-append k s (map mems ids) tables) ∙ ap (λ o. option_or o (walk k s (map mems ids ++ tables))) nothing

  pub stops : (ids : List ℕ) (i : ℕ) (tables : List (List Entry)) (e : Entry) → None ≡ top k s (mems i) → Some e ≡ walk k s (map mems ids) → Some e ≡ walk k s (map mems (i ∷ ids) ++ tables)
  stops ids i tables e nothing found = walked ids i tables (Some e) nothing (ap (λ o. option_or o (walk k s tables)) found)

  pub goes_on : (ids : List ℕ) (i : ℕ) (tables : List (List Entry)) (w : Option Entry) → None ≡ top k s (mems i) → None ≡ walk k s (map mems ids) → w ≡ walk k s tables → w ≡ walk k s (map mems (i ∷ ids) ++ tables)
  goes_on ids i tables w nothing none e = walked ids i tables w nothing (e ∙ ap (λ o. option_or o (walk k s tables)) none)

-- ---- the entry at which a walk stops

-- an entry, if there is one, has this key
abbrev pub HasKey : Bytes → Option Entry → Type 0
HasKey k o = IfSome o (λ e. e.key.user_key ≡ k)

later_key : (k : Bytes) (e : Entry) (o : Option Entry) → e.key.user_key ≡ k → HasKey k o → HasKey k (later e o)
later_key k e None here rest = here
later_key k e (Some f) here rest = elim (nat_lt e.key.seqno f.key.seqno) as (λ b. HasKey k (cond b (Some f) (Some e))) [ true ↦ rest | false ↦ here ]

-- keys and numbers that count are those of the key
counted_key : (k q : Bytes) (b : Bool) → (is_same k q && b) ≡ true → q ≡ k
counted_key k q b h = sym ((bytes_eq-Decides k q).0 (sym (is_eq-slice_cmp k q) ∙ first (is_same k q) h))
  where
    first : (a : Bool) → (a && b) ≡ true → a ≡ true
    first true h = refl
    first false h = h

counted_or : (k : Bytes) (e : Entry) (o : Option Entry) (b : Bool) → HasKey k o → (b ≡ true → e.key.user_key ≡ k) → HasKey k (cond b (later e o) o)
counted_or k e o true rest here = later_key k e o (here refl) rest
counted_or k e o false rest here = rest

top_key : (k : Bytes) (s : ℕ) (es : List Entry) → HasKey k (top k s es)
top_key k s [] = tt
top_key k s (e ∷ es) = counted_or k e (top k s es) (is_same k e.key.user_key && nat_lt e.key.seqno s) (top_key k s es) (counted_key k e.key.user_key (nat_lt e.key.seqno s))

either_key : (k : Bytes) (o p : Option Entry) → HasKey k o → HasKey k p → HasKey k (option_or o p)
either_key k None p here rest = rest
either_key k (Some e) p here rest = here

walk_key : (k : Bytes) (s : ℕ) (sources : List (List Entry)) → HasKey k (walk k s sources)
walk_key k s [] = tt
walk_key k s (es ∷ sources) = either_key k (top k s es) (walk k s sources) (top_key k s es) (walk_key k s sources)

live_key : (k : Bytes) (o : Option Entry) → HasKey k o → HasKey k (live o)
live_key k None h = h
live_key k (Some e) h = elim (is_tombstone_type e.key.value_type) as (λ b. HasKey k (cond b None (Some e))) [ true ↦ tt | false ↦ h ]

-- so has the one that decides a get
pub found_key : (c : Core) (k : Bytes) (s : ℕ) (o : Option Entry) → Finds c k s o → HasKey k (live o)
found_key c k s o f = live_key k o (subst (HasKey k) (sym f.2) (walk_key k s (sources (entries_of c.memtables) f.0)))
