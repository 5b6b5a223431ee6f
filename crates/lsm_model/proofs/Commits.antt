-- A flush, a merge and a move, as commits of a new super version.
use Rattle.std.proofs.Common.{◌≡◌, ℕ, ◌<◌, ◌≤◌, Bool, true, false, cond, not, map, ◌&&◌, ◌||◌, List, [], ◌∷◌, ◌++◌, Option, Some, filter, refl, sym, ap, ◌∙◌, subst, arith, flat_map, ltb, ◌⊎◌, ⊎_elim, append_assoc, is_some}
use Rattle.std.specs.List.{AllByRecursion}
use Rattle.std.proofs.lemmas.Grind.{flat_map-append}
use Rattle.lsm_below.specs.Keys.{Bytes}
use Rattle.lsm_below.specs.Ranges.{Range, in_range}
use Rattle.lsm_below.specs.Entries.{Entry, stack, values, above, keep, IsSingle}
use Rattle.lsm_model.specs.Journal.{in_any, Event, next_of, sets_of, floor, next_number, is_kept, kept_after, is_outside, outside_after, replay_at, value_after, next_after, sets_after, floor_after}
use Rattle.lsm_model.specs.Views.{seen, Memtables, SuperVersion, entries, held, lookup, emptied, Placed, IsLaidOut, IsAllowed, chosen_of, upper_of, lower_of, IsRearranged, left_of, ranges_of}
use Rattle.lsm_model.specs.Steps.{AllCover}
use Rattle.lsm_model.specs.Sound.{FitsAt, HasIds, IsSound}
use Rattle.lsm_model.specs.declared.journal.JournalEntry.TheVariants.{Clear, Install, Dropped, Mark, Read}
use Rattle.lsm_model.specs.declared.question.Question.{Question}
use Rattle.lsm_model.specs.declared.question.Answer.{Answer}
use Rattle.lsm_below.specs.Each.{each_append, each_left, each_weaker, each_filter}
use Rattle.lsm_model.proofs.Lists.{fold_push, Sublist, done, sub_itself, sub_none, sub_append}
use Rattle.lsm_model.proofs.Stacks.{stack-append, keep_sub, keep_same_behind}
use Rattle.lsm_model.proofs.Installs.{ShowsSame, drop_sound, clear_sound, emptied_sound, emptied_here, below_next}
use Rattle.lsm_model.proofs.Merges.{of_table, of_tables, of_tables-cons, of_tables-append, parts_of, evicted_parts, rearranged_same, none_outside}

-- a part of each key's entries is replaced by what a compaction keeps of it
pub kept_same : (opened : List Entry) (start : Bytes → Option Bytes) (journal : List Event) (mems : Memtables) (latest : SuperVersion) (older : List SuperVersion) (new : SuperVersion) (w : ℕ) (evict : Bool) (before part rest : Bytes → List Entry)
    → next_number opened journal ≤ new.number → latest.active ≤ new.active → HasIds new.active new
    → ((k : Bytes) → stack k (entries mems latest) ≡ before k ++ (part k ++ rest k))
    → ((k : Bytes) → stack k (entries mems new) ≡ before k ++ (keep w evict (part k) ++ rest k))
    → ((k : Bytes) → evict ≡ true → (part k ≡ []) ⊎ (rest k ≡ []))
    → IsSound opened start journal mems latest older → ShowsSame opened journal mems latest new
kept_same opened start journal mems latest older new w evict before part rest next act ids was is last sound =
    record {
      next = next;
      act = act;
      ids = ids;
      sub = λ k. rw (was k, is k) (sub_append (sub_itself (before k)) (sub_append (keep_sub w evict (part k)) (sub_itself (rest k))));
      same = λ k s h.
          let f = (sound.fits k).0 in
          let single = rw (was k) at f.single in
          let below = rw (was k) at (below_next opened journal mems k latest new.number s next h f) in
          rw (was k, is k) (replaced k s single below (last k));
    }
  where
    replaced : (k : Bytes) (s : ℕ) → IsSingle (before k ++ (part k ++ rest k)) → AllByRecursion (λ e. e.key.seqno < s) (before k ++ (part k ++ rest k)) → (evict ≡ true → (part k ≡ []) ⊎ (rest k ≡ [])) → seen s (before k ++ (keep w evict (part k) ++ rest k)) ≡ seen s (before k ++ (part k ++ rest k))
    replaced k s single below last =
        elim evict as (λ b. evict ≡ b → seen s (before k ++ (keep w b (part k) ++ rest k)) ≡ seen s (before k ++ (part k ++ rest k))) [
          | true ↦ λ q. ⊎_elim
              (λ (z : part k ≡ []). rw z refl)
              (λ (z : rest k ≡ []). keep_same_behind s w true (before k) (part k) (rest k) single below (λ _. rw z refl))
              (last q)
          | false ↦ λ q. keep_same_behind s w false (before k) (part k) (rest k) single below (λ z. absurd (cc z))
        ] refl

-- one key's entries in a super version
pub stack_of : (k : Bytes) (mems : Memtables) (sv : SuperVersion) → stack k (entries mems sv) ≡ stack k (flat_map mems (sv.active ∷ sv.sealed)) ++ of_tables k sv.tables
stack_of k mems sv = stack-append k (flat_map mems (sv.active ∷ sv.sealed)) (held sv.tables)

-- A flush: the oldest sealed memtables become tables in front of all others.
pub flush_same : (opened : List Entry) (start : Bytes → Option Bytes) (journal : List Event) (mems : Memtables) (latest : SuperVersion) (older : List SuperVersion) (new : SuperVersion) (w : ℕ) (job : List ℕ) (made : List Placed)
    → next_number opened journal ≤ new.number → new.active ≡ latest.active → latest.sealed ≡ new.sealed ++ job
    → IsLaidOut latest.tables → AllCover made → IsLaidOut new.tables → IsRearranged (made ++ latest.tables) new.tables
    → ((k : Bytes) → stack k (held made) ≡ keep w false (stack k (flat_map mems job)))
    → IsSound opened start journal mems latest older → ShowsSame opened journal mems latest new
flush_same opened start journal mems latest older new w job made next act sealed laid covers laid' same kept sound =
    let i = sound.ids.0 in
    kept_same opened start journal mems latest older new w false
    (λ k. stack k (flat_map mems (latest.active ∷ new.sealed))) (λ k. stack k (flat_map mems job)) (λ k. of_tables k latest.tables)
    next (omega arith) (rw act (omega arith, each_left (λ m. m < latest.active) new.sealed job (rw sealed at i.1)))
    (λ k. stack_of k mems latest ∙ ap (λ es. es ++ of_tables k latest.tables)
    (ap (λ ids. stack k (flat_map mems (latest.active ∷ ids))) sealed ∙ ap (stack k) (flat_map-append mems (latest.active ∷ new.sealed) job) ∙ stack-append k (flat_map mems (latest.active ∷ new.sealed)) (flat_map mems job))
    ∙ append_assoc (stack k (flat_map mems (latest.active ∷ new.sealed))) (stack k (flat_map mems job)) (of_tables k latest.tables))
    (λ k. stack_of k mems new ∙ ap (λ a. stack k (flat_map mems (a ∷ new.sealed)) ++ of_tables k new.tables) act
    ∙ ap (λ es. stack k (flat_map mems (latest.active ∷ new.sealed)) ++ es)
    (rearranged_same k (made ++ latest.tables) new.tables laid' (each_append _ made latest.tables covers laid.covers) same ∙ of_tables-append k made latest.tables ∙ ap (λ es. es ++ of_tables k latest.tables) (kept k)))
    (λ k z. absurd (cc z))
    sound

-- what a new run in place of chosen tables leaves to each key
pub around : (k : Bytes) (d : ℕ) (chosen : ℕ → Bool) (old made new : List Placed) (es : List Entry) → IsLaidOut old → AllCover made → IsLaidOut new
    → IsRearranged (upper_of d chosen old ++ (made ++ lower_of d chosen old)) new → of_tables k made ≡ es
    → of_tables k new ≡ of_tables k (upper_of d chosen old) ++ (es ++ of_tables k (lower_of d chosen old))
around k d chosen old made new es laid covers laid' same is =
    let u = upper_of d chosen old in
    let l = lower_of d chosen old in
    rearranged_same k (u ++ (made ++ l)) new laid' (each_append _ u (made ++ l) (each_filter _ _ old laid.covers) (each_append _ made l covers (each_filter _ _ old laid.covers))) same
    ∙ of_tables-append k u (made ++ l) ∙ ap (λ x. of_tables k u ++ x) (of_tables-append k made l ∙ ap (λ x. x ++ of_tables k l) is)

-- A merge: the chosen tables give way to a first run of level d.
pub merge_same : (opened : List Entry) (start : Bytes → Option Bytes) (journal : List Event) (mems : Memtables) (latest : SuperVersion) (older : List SuperVersion) (new : SuperVersion) (w d : ℕ) (chosen : ℕ → Bool) (evict : Bool) (made : List Placed)
    → next_number opened journal ≤ new.number → new.active ≡ latest.active → new.sealed ≡ latest.sealed
    → IsLaidOut latest.tables → AllCover made → IsLaidOut new.tables → IsAllowed d chosen evict latest.tables
    → IsRearranged (upper_of d chosen latest.tables ++ (made ++ lower_of d chosen latest.tables)) new.tables
    → ((k : Bytes) → stack k (held made) ≡ keep w evict (stack k (held (chosen_of chosen latest.tables))))
    → IsSound opened start journal mems latest older → ShowsSame opened journal mems latest new
merge_same opened start journal mems latest older new w d chosen evict made next act sealed laid covers laid' ok same kept sound =
    let i = sound.ids.0 in
    let p = λ (k : Bytes). stack k (flat_map mems (latest.active ∷ latest.sealed)) in
    let u = λ (k : Bytes). of_tables k (upper_of d chosen latest.tables) in
    let c = λ (k : Bytes). of_tables k (chosen_of chosen latest.tables) in
    let l = λ (k : Bytes). of_tables k (lower_of d chosen latest.tables) in
    kept_same opened start journal mems latest older new w evict (λ k. p k ++ u k) c l
    next (omega arith) (rw (act, sealed) (omega arith, i.1))
    (λ k. stack_of k mems latest ∙ ap (λ x. p k ++ x) (parts_of k d chosen evict latest.tables laid ok) ∙ sym (append_assoc (p k) (u k) (c k ++ l k)))
    (λ k. stack_of k mems new ∙ ap (λ a. stack k (flat_map mems (a ∷ new.sealed)) ++ of_tables k new.tables) act ∙ ap (λ s. stack k (flat_map mems (latest.active ∷ s)) ++ of_tables k new.tables) sealed
    ∙ ap (λ x. p k ++ x) (around k d chosen latest.tables made new.tables (keep w evict (c k)) laid covers laid' same (kept k)) ∙ sym (append_assoc (p k) (u k) (keep w evict (c k) ++ l k)))
    (λ k q. evicted_parts k d chosen latest.tables laid (now_evicting q ok))
    sound
  where
    now_evicting : evict ≡ true → IsAllowed d chosen evict latest.tables → IsAllowed d chosen true latest.tables
    now_evicting q h = subst (λ b. IsAllowed d chosen b latest.tables) q h

-- A move: the chosen tables become a run of level d as they are.
pub move_same : (opened : List Entry) (start : Bytes → Option Bytes) (journal : List Event) (mems : Memtables) (latest : SuperVersion) (older : List SuperVersion) (new : SuperVersion) (d : ℕ) (chosen : ℕ → Bool) (moved : List Placed)
    → next_number opened journal ≤ new.number → new.active ≡ latest.active → new.sealed ≡ latest.sealed
    → IsLaidOut latest.tables → AllCover moved → IsLaidOut new.tables → IsAllowed d chosen false latest.tables
    → IsRearranged (upper_of d chosen latest.tables ++ (moved ++ lower_of d chosen latest.tables)) new.tables
    → ((k : Bytes) → stack k (held moved) ≡ stack k (held (chosen_of chosen latest.tables)))
    → IsSound opened start journal mems latest older → ShowsSame opened journal mems latest new
move_same opened start journal mems latest older new d chosen moved next act sealed laid covers laid' ok same kept sound =
    let i = sound.ids.0 in
    let p = λ (k : Bytes). stack k (flat_map mems (latest.active ∷ latest.sealed)) in
    let equal : (k : Bytes) → stack k (entries mems new) ≡ stack k (entries mems latest) = λ k.
    stack_of k mems new ∙ ap (λ a. stack k (flat_map mems (a ∷ new.sealed)) ++ of_tables k new.tables) act ∙ ap (λ s. stack k (flat_map mems (latest.active ∷ s)) ++ of_tables k new.tables) sealed
    ∙ ap (λ x. p k ++ x) (around k d chosen latest.tables moved new.tables (of_tables k (chosen_of chosen latest.tables)) laid covers laid' same (kept k) ∙ sym (parts_of k d chosen false latest.tables laid ok)) ∙ sym (stack_of k mems latest) in
    record { next = next; act = omega arith; ids = rw (act, sealed) (omega arith, i.1); sub = λ k. rw (equal k) (sub_itself (stack k (entries mems latest))); same = λ k s h. rw (equal k) refl }

-- a drop leaves out entries, and none of a key that is in no range of what it drops
pub sub_filter : (k : Bytes) (t : Placed → Bool) (tables : List Placed) → Sublist (of_tables k (filter t tables)) (of_tables k tables)
sub_filter k t [] = done
sub_filter k t (p ∷ tables) =
    rw (of_tables-cons k p tables)
    (elim (t p) as (λ b. Sublist (of_tables k (cond b (p ∷ filter t tables) (filter t tables))) (of_table k p ++ of_tables k tables)) [
      | true ↦ rw (of_tables-cons k p (filter t tables)) (sub_append (sub_itself (of_table k p)) (sub_filter k t tables))
      | false ↦ sub_append {xs = []} (sub_none (of_table k p)) (sub_filter k t tables)
    ])

pub left_alone : (k : Bytes) (chosen : ℕ → Bool) (tables : List Placed) → AllCover tables → in_any k (ranges_of chosen tables) ≡ false → of_tables k (left_of chosen tables) ≡ of_tables k tables
left_alone k chosen [] covers none = refl
left_alone k chosen (p ∷ tables) covers none =
    elim (chosen p.table.id) as (λ b. in_any k (map (λ p. p.table.range) (cond b (p ∷ chosen_of chosen tables) (chosen_of chosen tables))) ≡ false → of_tables k (cond (not b) (p ∷ left_of chosen tables) (left_of chosen tables)) ≡ of_tables k (p ∷ tables)) [
      | true ↦ λ h.
          let parts : (in_range k p.table.range ≡ false) × (in_any k (ranges_of chosen tables) ≡ false) = neither (in_range k p.table.range) _ h in
          left_alone k chosen tables covers.1 parts.1 ∙ sym (of_tables-cons k p tables ∙ ap (λ es. es ++ of_tables k tables) (none_outside k p.table.range p.table.entries covers.0 parts.0))
      | false ↦ λ h. of_tables-cons k p (left_of chosen tables) ∙ ap (λ es. of_table k p ++ es) (left_alone k chosen tables covers.1 h) ∙ sym (of_tables-cons k p tables)
    ] none
  where
    neither : (x y : Bool) → (x || y) ≡ false → (x ≡ false) × (y ≡ false)
    neither true y h = absurd (cc h)
    neither false y h = (refl, h)

-- A drop: the chosen tables are left out, and their ranges are told.
pub dropped_sound : (opened : List Entry) (start : Bytes → Option Bytes) (journal : List Event) (mems : Memtables) (latest : SuperVersion) (older : List SuperVersion) (new : SuperVersion) (chosen : ℕ → Bool)
    → next_number opened journal ≤ new.number → new.active ≡ latest.active → new.sealed ≡ latest.sealed
    → IsLaidOut latest.tables → IsLaidOut new.tables → IsRearranged (left_of chosen latest.tables) new.tables
    → IsSound opened start journal mems latest older → IsSound opened start (journal ++ (Dropped (ranges_of chosen latest.tables) new.number ∷ (Install new.number ∷ []))) mems new (latest ∷ older)
dropped_sound opened start journal mems latest older new chosen next act sealed laid laid' same sound =
    let i = sound.ids.0 in
    let p = λ (k : Bytes). stack k (flat_map mems (latest.active ∷ latest.sealed)) in
    let now : (k : Bytes) → stack k (entries mems new) ≡ p k ++ of_tables k (left_of chosen latest.tables) = λ k.
    stack_of k mems new ∙ ap (λ a. stack k (flat_map mems (a ∷ new.sealed)) ++ of_tables k new.tables) act ∙ ap (λ s. stack k (flat_map mems (latest.active ∷ s)) ++ of_tables k new.tables) sealed
    ∙ ap (λ x. p k ++ x) (rearranged_same k (left_of chosen latest.tables) new.tables laid' (each_filter _ _ latest.tables laid.covers) same) in
    drop_sound opened start journal mems latest older new (ranges_of chosen latest.tables) next (omega arith) (rw (act, sealed) (omega arith, i.1))
    (λ k. rw (now k, stack_of k mems latest) (sub_append (sub_itself (p k)) (sub_filter k _ latest.tables)))
    (λ k q. now k ∙ ap (λ x. p k ++ x) (left_alone k chosen latest.tables laid.covers q) ∙ sym (stack_of k mems latest))
    sound

-- A clear: a new active memtable, and nothing else.
pub cleared_sound : (opened : List Entry) (start : Bytes → Option Bytes) (journal : List Event) (mems : Memtables) (latest : SuperVersion) (older : List SuperVersion) (n a : ℕ)
    → latest.active < a → IsSound opened start journal mems latest older
    → IsSound opened start (journal ++ Clear n ∷ []) (emptied mems a) (record { number = n; active = a; sealed = []; tables = [] }) (latest ∷ older)
cleared_sound opened start journal mems latest older n a h sound =
    clear_sound opened start journal (emptied mems a) latest older (record { number = n; active = a; sealed = []; tables = [] }) (omega arith) (omega arith, tt)
    (rw (emptied_here mems a) refl)
    (emptied_sound opened start journal mems latest older a h sound)

-- Events that change no view and no count: a mark, a read, a drop whose outcome is unknown.
pub record IsNote (x : Event) : Type 0 where
  pub replays : (k : Bytes) (s : ℕ) (v : Option Bytes) → value_after k s v x ≡ v
  pub outsides : (k : Bytes) (s : ℕ) (b : Bool) → outside_after k s b x ≡ true → b ≡ true
  pub nexts : (k : Bytes) (m : ℕ) → next_after k m x ≡ m
  pub sets : (k : Bytes) (m : ℕ) → sets_after k m x ≡ m
  pub keeps : (s : ℕ) (b : Bool) → kept_after s b x ≡ true → b ≡ true
  pub floors : (m : ℕ) → floor_after m x ≡ m

still : (b c : Bool) → cond b false c ≡ true → c ≡ true
still true c h = absurd (cc h)
still false c h = h

pub mark_note : (w : ℕ) → IsNote (Mark w)
mark_note w = record { replays = λ k s v. refl; outsides = λ k s b h. h; nexts = λ k m. refl; sets = λ k m. refl; keeps = λ s b h. still (ltb s w) b h; floors = λ m. refl }

pub read_note : (s : ℕ) (question : Question) (told : Answer) → IsNote (Read s question told)
read_note s question told = record { replays = λ k s v. refl; outsides = λ k s b h. h; nexts = λ k m. refl; sets = λ k m. refl; keeps = λ s b h. h; floors = λ m. refl }

pub lost_note : (ranges : List Range) (n : ℕ) → IsNote (Dropped ranges n)
lost_note ranges n = record { replays = λ k s v. refl; outsides = λ k s b h. still (ltb n s && in_any k ranges) b h; nexts = λ k m. refl; sets = λ k m. refl; keeps = λ s b h. h; floors = λ m. refl }

pub note_sound : (opened : List Entry) (start : Bytes → Option Bytes) (journal : List Event) (mems : Memtables) (latest : SuperVersion) (older : List SuperVersion) (x : Event) → IsNote x → IsSound opened start journal mems latest older → IsSound opened start (journal ++ x ∷ []) mems latest older
note_sound opened start journal mems latest older x note sound = record {
  right = λ k s sv low out found. rw (fold_push (value_after k s) (start k) journal x, note.replays k s (replay_at k s (start k) journal)) (sound.right k s sv low (note.outsides k s (is_outside k s journal) (rw (fold_push (outside_after k s) true journal x) at out)) found);
  fits = λ k. each_weaker (FitsAt opened journal mems k) (FitsAt opened (journal ++ x ∷ []) mems k) (λ sv f. rw (fold_push (next_after k) (above (stack k opened)) journal x, fold_push (sets_after k) (values (stack k opened)) journal x, note.nexts k (next_of k opened journal), note.sets k (sets_of k opened journal)) f) (latest ∷ older) (sound.fits k);
  ids = sound.ids;
  recent = rw (fold_push floor_after 0 journal x, note.floors (floor journal)) sound.recent;
  kept = λ s pos is. sound.kept s pos (note.keeps s (is_kept s journal) (rw (fold_push (kept_after s) true journal x) at is));
}

-- what a front of the history answers, the whole of it does
pub found_still : (removed : List SuperVersion) (s : ℕ) (sv : SuperVersion) (svs : List SuperVersion) → lookup s svs ≡ Some sv → lookup s (svs ++ removed) ≡ Some sv
found_still removed s sv [] e = absurd (cc e)
found_still removed s sv (x ∷ svs) e = elim (ltb x.number s) as (λ b. cond b (Some x) (lookup s svs) ≡ Some sv → cond b (Some x) (lookup s (svs ++ removed)) ≡ Some sv) [ true ↦ λ q. q | false ↦ λ q. found_still removed s sv svs q ] e

pub some_still : (s : ℕ) (svs more : List SuperVersion) → is_some (lookup s svs) ≡ true → is_some (lookup s (svs ++ more)) ≡ true
some_still s [] more h = absurd (cc h)
some_still s (x ∷ svs) more h = elim (ltb x.number s) as (λ b. is_some (cond b (Some x) (lookup s svs)) ≡ true → is_some (cond b (Some x) (lookup s (svs ++ more))) ≡ true) [ true ↦ λ q. refl | false ↦ λ q. some_still s svs more q ] h

-- Maintenance forgets the oldest super versions, all at once or some of them, at a watermark that no kept snapshot is below.
pub forgotten_sound : (opened : List Entry) (start : Bytes → Option Bytes) (journal : List Event) (mems : Memtables) (latest : SuperVersion) (older removed : List SuperVersion)
    → ((s : ℕ) → 0 < s → is_kept s journal ≡ true → is_some (lookup s (latest ∷ older)) ≡ true)
    → IsSound opened start journal mems latest (older ++ removed) → IsSound opened start journal mems latest older
forgotten_sound opened start journal mems latest older removed known sound = record {
  right = λ k s sv low out found. sound.right k s sv low out (found_still removed s sv (latest ∷ older) found);
  fits = λ k. each_left _ (latest ∷ older) removed (sound.fits k);
  ids = each_left _ (latest ∷ older) removed sound.ids;
  recent = sound.recent;
  kept = known;
}
