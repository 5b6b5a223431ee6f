-- A write keeps what holds between any two steps.
use Rattle.std.proofs.Common.{◌≡◌, ℕ, ◌+◌, ◌<◌, ◌≤◌, max, Bool, true, false, cond, ◌&&◌, ◌||◌, List, [], ◌∷◌, ◌++◌, Option, Some, refl, sym, ap, ◌∙◌, subst, arith, flat_map, ltb, eqb, lt-ltb, le-ltb, ne_eqb, eq-eqb, ◌⊎◌, ⊎_elim}
use Rattle.std.specs.List.{find, AllByRecursion}
use Rattle.std.specs.Option.{option_or}
use Rattle.std.proofs.lemmas.List.Folds.{find-append}
use Rattle.std.proofs.lemmas.Bool.{cases_lt}
use Rattle.lsm_below.specs.Keys.{Bytes, is_same}
use Rattle.lsm_below.specs.Entries.{Entry, entry_cmp, value_of, is_value, is_weak, stack, values, above}
use Rattle.lsm_below.specs.Sorted.{put}
use Rattle.lsm_model.specs.Journal.{Event, MayWrite, value_after, replay_at, outside_after, is_outside, kept_after, next_after, next_of, floor_after, sets_after, sets_of}
use Rattle.lsm_model.specs.Views.{Memtables, SuperVersion, held, entries, lookup, shown, seen, pushed, written}
use Rattle.lsm_model.specs.Sound.{Fits, HasIds, FitsAt, IsSound}
use Rattle.lsm_model.specs.declared.journal.JournalEntry.TheVariants.{Write}
use Rattle.lsm_below.specs.Each.{each_weaker, each_both}
use Rattle.lsm_model.proofs.Lists.{fold_push, each_sub, Sublist}
use Rattle.lsm_model.proofs.Stacks.{stack-append, falling_sub, single_sub, values_sub, seen_first}
use Rattle.std.proofs.Math.Bool.{and-false}
use Rattle.lsm_model.proofs.Journals.{same_key}

pub fits_more : (n m c d : ℕ) (es : List Entry) → n ≤ m → c ≤ d → Fits n c es → Fits m d es
fits_more n m c d es h q f = record { falling = f.falling; below = each_weaker _ _ (λ e b. omega arith) es f.below; single = f.single; few = let a = f.few in omega arith }

pub fits_sub : (n c : ℕ) {xs es : List Entry} → Sublist xs es → Fits n c es → Fits n c xs
fits_sub n c p f = record { falling = falling_sub p f.falling; below = each_sub _ p f.below; single = single_sub p f.single; few = let a = f.few in let b = values_sub p in omega arith }

fits_push : (n c : ℕ) (e : Entry) (es : List Entry) → n ≤ e.key.seqno → (is_weak e ≡ true → c ≤ 1) → Fits n c es → Fits (max n (e.key.seqno + 1)) (cond (is_value e) (c + 1) c) (e ∷ es)
fits_push n c e es h w f = record {
  falling = (each_weaker _ _ (λ e b. omega arith) es f.below, f.falling);
  below = (omega arith, each_weaker _ _ (λ e b. omega arith) es f.below);
  single = (λ q. let a = f.few in let b = w q in omega arith, f.single);
  few = let a = f.few in elim (is_value e) as (λ b. cond b 1 0 + values es ≤ cond b (c + 1) c) [ true ↦ omega arith | false ↦ omega arith ];
}

-- ---- memtables

pub flat_map_same : (f g : Memtables) (ids : List ℕ) → AllByRecursion (λ i. f i ≡ g i) ids → flat_map f ids ≡ flat_map g ids
flat_map_same f g [] h = refl
flat_map_same f g (i ∷ ids) h = rw (h.0, flat_map_same f g ids h.1) refl

-- a write reaches no older memtable
pub written_other : (mems : Memtables) (a : ℕ) (e : Entry) (i : ℕ) → i < a → written mems a e i ≡ mems i
written_other mems a e i h = ap (λ b. cond b (put entry_cmp e (mems i)) (mems i)) (ne_eqb i a (λ q. omega arith))

pushed_other : (mems : Memtables) (a : ℕ) (e : Entry) (i : ℕ) → i < a → pushed mems a e i ≡ mems i
pushed_other mems a e i h = ap (λ b. cond b (e ∷ mems i) (mems i)) (ne_eqb i a (λ q. omega arith))

pushed_here : (mems : Memtables) (a : ℕ) (e : Entry) → pushed mems a e a ≡ e ∷ mems a
pushed_here mems a e = ap (λ b. cond b (e ∷ mems a) (mems a)) (eq-eqb a a refl)

-- the latest super version, and each with the same active memtable, gains the entry in front
pub entries_pushed : (mems : Memtables) (a : ℕ) (e : Entry) (sv : SuperVersion) → HasIds a sv → sv.active ≡ a → entries (pushed mems a e) sv ≡ e ∷ entries mems sv
entries_pushed mems a e sv ids h =
    rw (flat_map_same (pushed mems a e) mems sv.sealed (each_weaker _ _ (pushed_other mems a e) sv.sealed ids.1), h, pushed_here mems a e) refl

-- the others keep theirs
pub entries_kept : (mems : Memtables) (a : ℕ) (e : Entry) (sv : SuperVersion) → HasIds a sv → sv.active < a → entries (pushed mems a e) sv ≡ entries mems sv
entries_kept mems a e sv ids h =
    rw (flat_map_same (pushed mems a e) mems sv.sealed (each_weaker _ _ (pushed_other mems a e) sv.sealed ids.1), pushed_other mems a e sv.active h) refl

visible_at : Bytes → ℕ → List Entry → Option Entry
visible_at k s es = find (λ e. ltb e.key.seqno s) (stack k es)

visible_at-append : (k : Bytes) (s : ℕ) (xs ys : List Entry) → visible_at k s (xs ++ ys) ≡ option_or (visible_at k s xs) (visible_at k s ys)
unfolding visible_at
visible_at-append k s xs ys = rw (stack-append k xs ys) (find-append _ (stack k xs) (stack k ys))

visible_at-past : (k : Bytes) (s : ℕ) (e : Entry) (es : List Entry) → s ≤ e.key.seqno → visible_at k s (e ∷ es) ≡ visible_at k s es
unfolding visible_at
visible_at-past k s e es h =
    elim (is_same k e.key.user_key) as (λ b. find (λ f. ltb f.key.seqno s) (cond b (e ∷ stack k es) (stack k es)) ≡ find (λ f. ltb f.key.seqno s) (stack k es)) [
      | true ↦ ap (λ b. cond b (Some e) (find (λ f. ltb f.key.seqno s) (stack k es))) (le-ltb e.key.seqno s h)
      | false ↦ refl
    ]

visible_at-pushed : (k : Bytes) (s : ℕ) (mems : Memtables) (a : ℕ) (e : Entry) → s ≤ e.key.seqno → (i : ℕ) → visible_at k s (pushed mems a e i) ≡ visible_at k s (mems i)
visible_at-pushed k s mems a e h i =
    elim (eqb i a) as (λ b. visible_at k s (cond b (e ∷ mems i) (mems i)) ≡ visible_at k s (mems i)) [ true ↦ visible_at-past k s e (mems i) h | false ↦ refl ]

visible_at-ids : (k : Bytes) (s : ℕ) (f g : Memtables) → ((i : ℕ) → visible_at k s (f i) ≡ visible_at k s (g i)) → (ids : List ℕ) → visible_at k s (flat_map f ids) ≡ visible_at k s (flat_map g ids)
visible_at-ids k s f g h [] = refl
visible_at-ids k s f g h (i ∷ ids) =
    visible_at-append k s (f i) (flat_map f ids) ∙ ap (λ o. option_or o (visible_at k s (flat_map f ids))) (h i)
    ∙ ap (option_or (visible_at k s (g i))) (visible_at-ids k s f g h ids) ∙ sym (visible_at-append k s (g i) (flat_map g ids))

-- an entry that a snapshot does not reach changes no view at it, in whichever memtables it stands
pub seen_pushed : (k : Bytes) (s : ℕ) (mems : Memtables) (a : ℕ) (e : Entry) (sv : SuperVersion) → s ≤ e.key.seqno → seen s (stack k (entries (pushed mems a e) sv)) ≡ seen s (stack k (entries mems sv))
unfolding visible_at
seen_pushed k s mems a e sv h =
    let tables = held sv.tables in
    let ids = sv.active ∷ sv.sealed in
    ap shown (visible_at-append k s (flat_map (pushed mems a e) ids) tables
    ∙ ap (λ o. option_or o (visible_at k s tables)) (visible_at-ids k s _ _ (visible_at-pushed k s mems a e h) ids)
    ∙ sym (visible_at-append k s (flat_map mems ids) tables))

-- ---- a write

found_first : (s : ℕ) (latest sv : SuperVersion) (older : List SuperVersion) → latest.number < s → lookup s (latest ∷ older) ≡ Some sv → latest ≡ sv
found_first s latest sv older h e =
    let first : lookup s (latest ∷ older) ≡ Some latest = ap (λ b. cond b (Some latest) (lookup s older)) (lt-ltb latest.number s h) in cc (first, e)

-- one super version after a write to the memtable a
fits_write : (opened : List Entry) (journal : List Event) (mems : Memtables) (a : ℕ) (e : Entry) (k : Bytes) → MayWrite opened journal e → (sv : SuperVersion) → HasIds a sv → FitsAt opened journal mems k sv → FitsAt opened (journal ++ Write e ∷ []) (pushed mems a e) k sv
fits_write opened journal mems a e k may sv ids f =
    let n = next_of k opened journal in
    let c = sets_of k opened journal in
    let st = stack k (entries mems sv) in
    let same : Fits (cond (is_same k e.key.user_key) (max n (e.key.seqno + 1)) n) (cond (is_same k e.key.user_key && is_value e) (c + 1) c) (stack k (entries (pushed mems a e) sv)) =
    ⊎_elim
    (λ (here : sv.active ≡ a). rw (entries_pushed mems a e sv ids here)
    (elim (is_same k e.key.user_key) as (λ b. is_same k e.key.user_key ≡ b → Fits (cond b (max n (e.key.seqno + 1)) n) (cond (b && is_value e) (c + 1) c) (cond b (e ∷ st) st)) [
      | true ↦ λ q. let p : k ≡ e.key.user_key = same_key k e.key.user_key q in
          fits_push n c e st (rw p may.after_own) (rw p may.single) f
      | false ↦ λ q. f
    ] refl))
    (λ (there : sv.active < a). rw (entries_kept mems a e sv ids there)
    (fits_more n _ c _ st
    (elim (is_same k e.key.user_key) as (λ b. n ≤ cond b (max n (e.key.seqno + 1)) n) [ true ↦ omega arith | false ↦ omega arith ])
    (elim (is_same k e.key.user_key && is_value e) as (λ b. c ≤ cond b (c + 1) c) [ true ↦ omega arith | false ↦ omega arith ])
    f))
    (eq_or_below sv.active a ids.0) in
    rw (fold_push (next_after k) (above (stack k opened)) journal (Write e), fold_push (sets_after k) (values (stack k opened)) journal (Write e)) same
  where
    eq_or_below : (m n : ℕ) → m ≤ n → (m ≡ n) ⊎ (m < n)
    eq_or_below m n h = grind arith

-- what the latest super version shows after a write that the snapshot reaches
right_reached : (k : Bytes) (s : ℕ) (mems : Memtables) (latest : SuperVersion) (e : Entry) (v : Option Bytes) (b : Bool) → HasIds latest.active latest → e.key.seqno < s → (b ≡ true → seen s (stack k (entries mems latest)) ≡ v) → (is_same k e.key.user_key && ltb e.key.seqno s || b) ≡ true → seen s (stack k (entries (pushed mems latest.active e) latest)) ≡ cond (is_same k e.key.user_key && ltb e.key.seqno s) (value_of e) v
right_reached k s mems latest e v b ids h before out =
    rw (entries_pushed mems latest.active e latest ids refl, lt-ltb e.key.seqno s h)
    (elim (is_same k e.key.user_key) as (λ c. (c && ltb e.key.seqno s || b) ≡ true → seen s (cond c (e ∷ stack k (entries mems latest)) (stack k (entries mems latest))) ≡ cond (c && true) (value_of e) v) [
      | true ↦ λ q. seen_first s e _ h
      | false ↦ λ q. before q
    ] out)

-- a write that the snapshot doesn't reach
right_past : (k : Bytes) (s : ℕ) (mems : Memtables) (a : ℕ) (sv : SuperVersion) (e : Entry) (v : Option Bytes) (b : Bool) → s ≤ e.key.seqno → (b ≡ true → seen s (stack k (entries mems sv)) ≡ v) → (is_same k e.key.user_key && ltb e.key.seqno s || b) ≡ true → seen s (stack k (entries (pushed mems a e) sv)) ≡ cond (is_same k e.key.user_key && ltb e.key.seqno s) (value_of e) v
right_past k s mems a sv e v b h before out =
    let no : (is_same k e.key.user_key && ltb e.key.seqno s) ≡ false = rw (le-ltb e.key.seqno s h) (and-false (is_same k e.key.user_key)) in
    seen_pushed k s mems a e sv h ∙ before (rw no at out) ∙ rw no refl

right_write : (opened : List Entry) (start : Bytes → Option Bytes) (journal : List Event) (mems : Memtables) (latest : SuperVersion) (older : List SuperVersion) (e : Entry) → MayWrite opened journal e → IsSound opened start journal mems latest older → (k : Bytes) (s : ℕ) (sv : SuperVersion) → above opened ≤ s → is_outside k s (journal ++ Write e ∷ []) ≡ true → lookup s (latest ∷ older) ≡ Some sv → seen s (stack k (entries (pushed mems latest.active e) sv)) ≡ replay_at k s (start k) (journal ++ Write e ∷ [])
right_write opened start journal mems latest older e may sound k s sv low out found =
    let v = replay_at k s (start k) journal in
    let b = is_outside k s journal in
    let o : (is_same k e.key.user_key && ltb e.key.seqno s || b) ≡ true = rw (fold_push (outside_after k s) true journal (Write e)) at out in
    rw (fold_push (value_after k s) (start k) journal (Write e))
    (⊎_elim
    (λ (h : e.key.seqno < s).
    let is : latest ≡ sv = found_first s latest sv older (let r = sound.recent in let m = may.after_installs in omega arith) found in
    let P : SuperVersion → Type 0 = λ w. seen s (stack k (entries (pushed mems latest.active e) w)) ≡ cond (is_same k e.key.user_key && ltb e.key.seqno s) (value_of e) v in
    subst P is (right_reached k s mems latest e v b sound.ids.0 h (λ q. sound.right k s latest low q (found ∙ ap Some (sym is))) o))
    (λ (h : s ≤ e.key.seqno). right_past k s mems latest.active sv e v b h (λ q. sound.right k s sv low q found) o)
    (cases_lt e.key.seqno s))

-- a write to the active memtable of the latest super version
pub write_sound : (opened : List Entry) (start : Bytes → Option Bytes) (journal : List Event) (mems : Memtables) (latest : SuperVersion) (older : List SuperVersion) (e : Entry) → MayWrite opened journal e → IsSound opened start journal mems latest older → IsSound opened start (journal ++ Write e ∷ []) (pushed mems latest.active e) latest older
write_sound opened start journal mems latest older e may sound = record {
  right = right_write opened start journal mems latest older e may sound;
  fits = λ k. each_both _ _ _ (fits_write opened journal mems latest.active e k may) (latest ∷ older) sound.ids (sound.fits k);
  ids = sound.ids;
  recent = rw (fold_push floor_after 0 journal (Write e)) sound.recent;
  kept = λ s pos is. sound.kept s pos (rw (fold_push (kept_after s) true journal (Write e)) at is);
}
