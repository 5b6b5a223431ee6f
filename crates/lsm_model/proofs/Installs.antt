-- A rotation, and what every new super version has in common.
use Rattle.std.proofs.Common.{◌≡◌, ℕ, ◌<◌, ◌≤◌, Bool, true, false, cond, ◌&&◌, ◌||◌, List, [], ◌∷◌, ◌++◌, Option, Some, None, fold, refl, sym, ap, ◌∙◌, subst, arith, ltb, ltb-true, lt-ltb, le-ltb, ne_eqb, eq-eqb, ◌⊎◌, inl, inr, ⊎_elim, is_some}
use Rattle.std.specs.List.{AllByRecursion}
use Rattle.std.proofs.lemmas.Bool.{cases_lt}
use Rattle.std.proofs.lemmas.Grind.{fold-append}
use Rattle.lsm_below.specs.Keys.{Bytes}
use Rattle.lsm_below.specs.Ranges.{Range}
use Rattle.lsm_below.specs.Entries.{Entry, stack, values, above}
use Rattle.lsm_model.specs.Journal.{Event, in_any, value_after, replay_at, outside_after, is_outside, kept_after, is_kept, next_after, next_of, next_number, floor_after, floor, sets_after, sets_of}
use Rattle.lsm_model.specs.Views.{Memtables, SuperVersion, entries, lookup, seen, emptied, maintained}
use Rattle.lsm_model.specs.Sound.{HasIds, FitsAt, IsSound}
use Rattle.lsm_model.specs.declared.journal.JournalEntry.TheVariants.{Clear, Install, Dropped}
use Rattle.lsm_below.specs.Each.{each_weaker, each_both}
use Rattle.lsm_model.proofs.Lists.{fold_push, each_found, Sublist, sub_none}
use Rattle.lsm_model.proofs.Journals.{next_of-le, floor-le}
use Rattle.lsm_model.proofs.Sound.{fits_sub, flat_map_same}

-- the latest super version, where the snapshot is above its sequence number, or an older one
pub lookup_cases : (s : ℕ) (latest sv : SuperVersion) (older : List SuperVersion) → lookup s (latest ∷ older) ≡ Some sv → ((latest.number < s) × (latest ≡ sv)) ⊎ ((s ≤ latest.number) × (lookup s older ≡ Some sv))
lookup_cases s latest sv older e =
    ⊎_elim
    (λ (h : latest.number < s). inl (h, let f : cond true (Some latest) (lookup s older) ≡ Some sv = rw (lt-ltb latest.number s h) at e in cc f))
    (λ (h : s ≤ latest.number). inr (h, rw (le-ltb latest.number s h) at e))
    (cases_lt latest.number s)

pub lookup_latest : (s : ℕ) (latest : SuperVersion) (older : List SuperVersion) → latest.number < s → lookup s (latest ∷ older) ≡ Some latest
lookup_latest s latest older h = ap (λ b. cond b (Some latest) (lookup s older)) (lt-ltb latest.number s h)

pub lookup_older : (s : ℕ) (latest : SuperVersion) (older : List SuperVersion) → s ≤ latest.number → lookup s (latest ∷ older) ≡ lookup s older
lookup_older s latest older h = ap (λ b. cond b (Some latest) (lookup s older)) (le-ltb latest.number s h)

-- ---- a new empty memtable changes nothing

pub emptied_other : (mems : Memtables) (a i : ℕ) → i < a → emptied mems a i ≡ mems i
emptied_other mems a i h = ap (λ b. cond b [] (mems i)) (ne_eqb i a (λ q. omega arith))

pub emptied_here : (mems : Memtables) (a : ℕ) → emptied mems a a ≡ []
emptied_here mems a = ap (λ b. cond b [] (mems a)) (eq-eqb a a refl)

pub entries_emptied : (mems : Memtables) (a b : ℕ) (sv : SuperVersion) → b < a → HasIds b sv → entries (emptied mems a) sv ≡ entries mems sv
entries_emptied mems a b sv h ids =
    let i = ids.0 in
    let l : sv.active < a = omega arith in
    rw (flat_map_same (emptied mems a) mems sv.sealed (each_weaker _ _ (λ m q. emptied_other mems a m (omega arith)) sv.sealed ids.1), emptied_other mems a sv.active l) refl

pub emptied_sound : (opened : List Entry) (start : Bytes → Option Bytes) (journal : List Event) (mems : Memtables) (latest : SuperVersion) (older : List SuperVersion) (a : ℕ) → latest.active < a → IsSound opened start journal mems latest older → IsSound opened start journal (emptied mems a) latest older
emptied_sound opened start journal mems latest older a h sound = record {
  right = λ k s sv low out found.
      rw (entries_emptied mems a latest.active sv h (each_found (HasIds latest.active) (λ v. ltb v.number s) (latest ∷ older) sv sound.ids found)) (sound.right k s sv low out found);
  fits = λ k. each_both (HasIds latest.active) (FitsAt opened journal mems k) (FitsAt opened journal (emptied mems a) k) (λ sv ids f. rw (entries_emptied mems a latest.active sv h ids) f) (latest ∷ older) sound.ids (sound.fits k);
  ids = sound.ids;
  recent = sound.recent;
  kept = sound.kept;
}

-- ---- the latest super version, replaced under its sequence number by one that shows the same

pub ids_more : (a b : ℕ) (svs : List SuperVersion) → a ≤ b → AllByRecursion (HasIds a) svs → AllByRecursion (HasIds b) svs
ids_more a b svs h ids = each_weaker _ _ (λ sv i. (let l = i.0 in omega arith, each_weaker _ _ (λ m q. omega arith) sv.sealed i.1)) svs ids

pub replaced_sound : (opened : List Entry) (start : Bytes → Option Bytes) (journal : List Event) (mems : Memtables) (latest : SuperVersion) (older : List SuperVersion) (new : SuperVersion) → new.number ≡ latest.number → latest.active ≤ new.active → HasIds new.active new → ((k : Bytes) → stack k (entries mems new) ≡ stack k (entries mems latest)) → IsSound opened start journal mems latest older → IsSound opened start journal mems new older
replaced_sound opened start journal mems latest older new num act ids same sound = record {
  right = λ k s sv low out found.
      ⊎_elim
      (λ (h : (new.number < s) × (new ≡ sv)).
      let l : latest.number < s = let q = h.0 in omega arith in
      let P : SuperVersion → Type 0 = λ w. seen s (stack k (entries mems w)) ≡ replay_at k s (start k) journal in
      subst P h.1 (rw (same k) (sound.right k s latest low out (lookup_latest s latest older l))))
      (λ (h : (s ≤ new.number) × (lookup s older ≡ Some sv)).
      let l : s ≤ latest.number = let q = h.0 in omega arith in
      sound.right k s sv low out (lookup_older s latest older l ∙ h.1))
      (lookup_cases s new sv older found);
  fits = λ k. (rw (same k) ((sound.fits k).0), (sound.fits k).1);
  ids = (ids, ids_more latest.active new.active older act sound.ids.1);
  recent = let r = sound.recent in omega arith;
  kept = λ s pos is.
      let before = sound.kept s pos is in
      let P : ℕ → Type 0 = λ n. is_some (cond (ltb n s) (Some new) (lookup s older)) ≡ true in
      subst P (sym num) (elim (ltb latest.number s) as (λ b. is_some (cond b (Some latest) (lookup s older)) ≡ true → is_some (cond b (Some new) (lookup s older)) ≡ true) [ true ↦ λ q. q | false ↦ λ q. q ] before);
}

abbrev pub rotated : SuperVersion → ℕ → SuperVersion
rotated latest a = record { number = latest.number; active = a; sealed = latest.active ∷ latest.sealed; tables = latest.tables }

pub rotate_sound : (opened : List Entry) (start : Bytes → Option Bytes) (journal : List Event) (mems : Memtables) (latest : SuperVersion) (older : List SuperVersion) (a : ℕ) → latest.active < a → IsSound opened start journal mems latest older → IsSound opened start journal (emptied mems a) (rotated latest a) older
rotate_sound opened start journal mems latest older a h sound =
    let i = sound.ids.0 in
    replaced_sound opened start journal (emptied mems a) latest older (rotated latest a) refl (omega arith)
    (omega arith, (h, each_weaker _ _ (λ m q. omega arith) latest.sealed i.1))
    (λ k. rw (emptied_here mems a) refl)
    (emptied_sound opened start journal mems latest older a h sound)

-- ---- a new super version

-- Events that are numbered n and call no write: what is below n stays, and so do all counts.
pub record IsQuietBelow (n : ℕ) (events : List Event) : Type 0 where
  pub replays : (k : Bytes) (s : ℕ) (v : Option Bytes) → s ≤ n → fold (value_after k s) v events ≡ v
  pub outsides : (k : Bytes) (s : ℕ) (b : Bool) → s ≤ n → fold (outside_after k s) b events ≡ b
  pub nexts : (k : Bytes) (m : ℕ) → fold (next_after k) m events ≡ m
  pub sets : (k : Bytes) (m : ℕ) → fold (sets_after k) m events ≡ m
  pub keeps : (s : ℕ) (b : Bool) → fold (kept_after s) b events ≡ b
  pub floors : (m : ℕ) → n ≤ fold floor_after m events

pub install_sound : (opened : List Entry) (start : Bytes → Option Bytes) (journal events : List Event) (mems : Memtables) (latest : SuperVersion) (older : List SuperVersion) (new : SuperVersion)
    → IsQuietBelow new.number events → latest.active ≤ new.active → HasIds new.active new
    → ((k : Bytes) → Sublist (stack k (entries mems new)) (stack k (entries mems latest)))
    → ((k : Bytes) (s : ℕ) → above opened ≤ s → new.number < s → is_outside k s (journal ++ events) ≡ true → seen s (stack k (entries mems new)) ≡ replay_at k s (start k) (journal ++ events))
    → IsSound opened start journal mems latest older → IsSound opened start (journal ++ events) mems new (latest ∷ older)
install_sound opened start journal events mems latest older new quiet act ids sub shows sound =
    let more : (k : Bytes) (sv : SuperVersion) → FitsAt opened journal mems k sv → FitsAt opened (journal ++ events) mems k sv = λ k sv f.
    rw (fold-append (next_after k) (above (stack k opened)) journal events, quiet.nexts k (next_of k opened journal), fold-append (sets_after k) (values (stack k opened)) journal events, quiet.sets k (sets_of k opened journal)) f in
    record {
      right = λ k s sv low out found.
          ⊎_elim
          (λ (h : (new.number < s) × (new ≡ sv)).
          let P : SuperVersion → Type 0 = λ w. seen s (stack k (entries mems w)) ≡ replay_at k s (start k) (journal ++ events) in
          subst P h.1 (shows k s low h.0 out))
          (λ (h : (s ≤ new.number) × (lookup s (latest ∷ older) ≡ Some sv)).
          let o : is_outside k s journal ≡ true = rw (fold-append (outside_after k s) true journal events, quiet.outsides k s (is_outside k s journal) h.0) at out in
          rw (fold-append (value_after k s) (start k) journal events, quiet.replays k s (replay_at k s (start k) journal) h.0) (sound.right k s sv low o h.1))
          (lookup_cases s new sv (latest ∷ older) found);
      fits = λ k. (more k new (fits_sub _ _ (sub k) (sound.fits k).0), each_weaker _ _ (more k) (latest ∷ older) (sound.fits k));
      ids = (ids, ids_more latest.active new.active (latest ∷ older) act sound.ids);
      recent = rw (fold-append floor_after 0 journal events) (quiet.floors (floor journal));
      kept = λ s pos is.
          let before = sound.kept s pos (rw (fold-append (kept_after s) true journal events, quiet.keeps s (is_kept s journal)) at is) in
          elim (ltb new.number s) as (λ b. is_some (cond b (Some new) (lookup s (latest ∷ older))) ≡ true) [ true ↦ refl | false ↦ before ];
    }

-- an install without a call
pub install_quiet : (n : ℕ) → IsQuietBelow n (Install n ∷ [])
install_quiet n = record { replays = λ k s v h. refl; outsides = λ k s b h. refl; nexts = λ k m. refl; sets = λ k m. refl; keeps = λ s b. refl; floors = λ m. omega arith }

pub clear_quiet : (n : ℕ) → IsQuietBelow n (Clear n ∷ [])
clear_quiet n = record {
  replays = λ k s v h. ap (λ b. cond b None v) (le-ltb n s h);
  outsides = λ k s c h. ap (λ b. b || c) (le-ltb n s h);
  nexts = λ k m. refl;
  sets = λ k m. refl;
  keeps = λ s b. refl;
  floors = λ m. omega arith;
}

pub drop_quiet : (n : ℕ) (ranges : List Range) → IsQuietBelow n (Dropped ranges n ∷ (Install n ∷ []))
drop_quiet n ranges = record {
  replays = λ k s v h. refl;
  outsides = λ k s c h. ap (λ b. cond (b && in_any k ranges) false c) (le-ltb n s h);
  nexts = λ k m. refl;
  sets = λ k m. refl;
  keeps = λ s b. refl;
  floors = λ m. omega arith;
}

-- sequence numbers in the latest super version are below what comes next
pub below_next : (opened : List Entry) (journal : List Event) (mems : Memtables) (k : Bytes) (sv : SuperVersion) (n s : ℕ) → next_number opened journal ≤ n → n < s → FitsAt opened journal mems k sv → AllByRecursion (λ e. e.key.seqno < s) (stack k (entries mems sv))
below_next opened journal mems k sv n s h l f = each_weaker _ _ (λ e q. let r = next_of-le k opened journal in omega arith) _ f.below

-- A flush, a merge or a move: the new super version has only entries of the latest one, and above its sequence number it shows the same.
pub record ShowsSame (opened : List Entry) (journal : List Event) (mems : Memtables) (latest new : SuperVersion) : Type 0 where
  pub next : next_number opened journal ≤ new.number
  pub act : latest.active ≤ new.active
  pub ids : HasIds new.active new
  pub sub : (k : Bytes) → Sublist (stack k (entries mems new)) (stack k (entries mems latest))
  pub same : (k : Bytes) (s : ℕ) → new.number < s → seen s (stack k (entries mems new)) ≡ seen s (stack k (entries mems latest))

pub same_sound : (opened : List Entry) (start : Bytes → Option Bytes) (journal : List Event) (mems : Memtables) (latest : SuperVersion) (older : List SuperVersion) (new : SuperVersion)
    → ShowsSame opened journal mems latest new
    → IsSound opened start journal mems latest older → IsSound opened start (journal ++ Install new.number ∷ []) mems new (latest ∷ older)
same_sound opened start journal mems latest older new m sound =
    install_sound opened start journal (Install new.number ∷ []) mems latest older new (install_quiet new.number) m.act m.ids m.sub
    (λ k s low h out.
    let l : latest.number < s = let r = sound.recent in let q = floor-le opened journal in let z = m.next in omega arith in
    let o : is_outside k s journal ≡ true = rw (fold_push (outside_after k s) true journal (Install new.number)) at out in
    rw (fold_push (value_after k s) (start k) journal (Install new.number)) (m.same k s h ∙ sound.right k s latest low o (lookup_latest s latest older l)))
    sound

-- a drop: keys in none of the ranges keep their entries
pub drop_sound : (opened : List Entry) (start : Bytes → Option Bytes) (journal : List Event) (mems : Memtables) (latest : SuperVersion) (older : List SuperVersion) (new : SuperVersion) (ranges : List Range)
    → next_number opened journal ≤ new.number → latest.active ≤ new.active → HasIds new.active new
    → ((k : Bytes) → Sublist (stack k (entries mems new)) (stack k (entries mems latest)))
    → ((k : Bytes) → in_any k ranges ≡ false → stack k (entries mems new) ≡ stack k (entries mems latest))
    → IsSound opened start journal mems latest older → IsSound opened start (journal ++ (Dropped ranges new.number ∷ (Install new.number ∷ []))) mems new (latest ∷ older)
drop_sound opened start journal mems latest older new ranges next act ids sub same sound =
    install_sound opened start journal (Dropped ranges new.number ∷ (Install new.number ∷ [])) mems latest older new (drop_quiet new.number ranges) act ids sub
    (λ k s low h out.
    let l : latest.number < s = let r = sound.recent in let q = floor-le opened journal in omega arith in
    let b = is_outside k s journal in
    let o : cond (ltb new.number s && in_any k ranges) false b ≡ true = rw (fold-append (outside_after k s) true journal (Dropped ranges new.number ∷ (Install new.number ∷ []))) at out in
    let p : cond (in_any k ranges) false b ≡ true = rw (lt-ltb new.number s h) at o in
    rw (fold-append (value_after k s) (start k) journal (Dropped ranges new.number ∷ (Install new.number ∷ [])))
    (elim (in_any k ranges) as (λ c. in_any k ranges ≡ c → cond c false b ≡ true → seen s (stack k (entries mems new)) ≡ replay_at k s (start k) journal) [
      | true ↦ λ q z. absurd (cc z)
      | false ↦ λ q z. rw (same k q) (sound.right k s latest low z (lookup_latest s latest older l))
    ] refl p))
    sound

-- a clear: nothing is left
pub clear_sound : (opened : List Entry) (start : Bytes → Option Bytes) (journal : List Event) (mems : Memtables) (latest : SuperVersion) (older : List SuperVersion) (new : SuperVersion)
    → latest.active ≤ new.active → HasIds new.active new → entries mems new ≡ []
    → IsSound opened start journal mems latest older → IsSound opened start (journal ++ Clear new.number ∷ []) mems new (latest ∷ older)
clear_sound opened start journal mems latest older new act ids none sound =
    install_sound opened start journal (Clear new.number ∷ []) mems latest older new (clear_quiet new.number) act ids
    (λ k. rw none (sub_none _))
    (λ k s low h out. rw (fold_push (value_after k s) (start k) journal (Clear new.number), none, lt-ltb new.number s h) refl)
    sound

-- maintenance forgets super versions
pub maintained_cases : (s w : ℕ) (history : List SuperVersion) → w ≤ s → lookup s (maintained w history) ≡ lookup s history
maintained_cases s w [] h = refl
maintained_cases s w (sv ∷ older) h =
    elim (ltb sv.number w) as (λ b. ltb sv.number w ≡ b → lookup s (cond b (sv ∷ []) (sv ∷ maintained w older)) ≡ lookup s (sv ∷ older)) [
      | true ↦ λ q. let l : sv.number < s = let t = ltb-true sv.number w q in omega arith in lookup_latest s sv [] l ∙ sym (lookup_latest s sv older l)
      | false ↦ λ q. ap (λ o. cond (ltb sv.number s) (Some sv) o) (maintained_cases s w older h)
    ] refl
