-- Each step carries on what tables and sealed memtables show.
use Rattle.std.proofs.Common.{◌≡◌, ℕ, ◌+◌, ◌<◌, ◌≤◌, max, Bool, true, false, cond, List, [], ◌∷◌, ◌++◌, fold, length, map, refl, sym, ap, ◌∙◌, subst, arith, flat_map, append_assoc, append-nil, eq-eqb, ne_eqb, ◌⊎◌, ⊎_elim}
use Rattle.std.specs.List.{AllByRecursion}
use Rattle.std.specs.FinMap.{get}
use Rattle.std.proofs.Math.Seq.{take-length}
use Rattle.std.proofs.lemmas.List.{length-append}
use Rattle.std.proofs.lemmas.Grind.{flat_map-append}
use Rattle.lsm_below.specs.Keys.{Bytes}
use Rattle.lsm_below.specs.Ranges.{Range}
use Rattle.lsm_below.specs.Entries.{Entry, stack, keep, IsSingle}
use Rattle.lsm_model.specs.Journal.{Event, Map, in_any}
use Rattle.lsm_model.specs.Views.{Memtables, SuperVersion, Placed, entries, sources, IsLaidOut, IsAllowed, chosen_of, upper_of, lower_of, left_of, ranges_of, answered, emptied}
use Rattle.lsm_model.specs.Steps.{State, among, Action, Wrote, Rotated, Flushed, Merged, Moved, DroppedTables, Cleared, Marked, LostDrop, Asked, Maintained, Step, IsFlush, IsMerge, IsMove, IsDrop}
use Rattle.lsm_model.specs.Sound.{Holds}
use Rattle.lsm_model.specs.Beginnings.{spoiled_after, Note, SealedAt, FlushedIds, ClearedTo, sealed_at, covered, noted_by}
use Rattle.lsm_model.specs.declared.journal.JournalEntry.TheVariants.{Write, Clear, Install, Dropped, Mark, Read}
use Rattle.lsm_below.specs.Each.{each_append, each_weaker}
use Rattle.lsm_model.proofs.Lists.{fold_push, Sublist, sub_itself, sub_none, sub_append}
use Rattle.lsm_model.proofs.Stacks.{stack-append, keep_sub, single_right}
use Rattle.lsm_model.proofs.Sound.{flat_map_same, written_other}
use Rattle.lsm_model.proofs.Installs.{emptied_other}
use Rattle.lsm_model.proofs.Merges.{of_tables, of_tables-append, parts_of, evicted_parts, rearranged_same}
use Rattle.lsm_model.proofs.Commits.{stack_of, around, sub_filter, left_alone}
use Rattle.lsm_below.specs.Each.{each_filter}
use Rattle.lsm_model.proofs.Runs.{each_always, latest_ordered}
use Rattle.lsm_model.proofs.Beginnings.{begun, newest, Begins, is_spared_at, spared_all, spared_at_more, keep_newest_sub, Tails, Fall, fall_covered, fall_kept, tails_kept, flush_tails, flush_fall, ShowsBehind, begun_after}
use Rattle.lsm_model.proofs.Wholes.{whole_begins}

-- what the tables and the sealed memtables show, and the order of their places
pub record Carries (start : Map) (journal : List Event) (mems : Memtables) (latest : SuperVersion) (notes : List Note) : Type 0 where
  pub tails : (k : Bytes) → Tails k (get start k) journal notes mems latest.tables latest.sealed
  pub fall : Fall notes (length journal) latest.sealed

longer : (journal more : List Event) → length journal ≤ length (journal ++ more)
longer journal more = let e = length-append journal more in omega arith

-- the sealed memtables and the tables hold no key's weak tombstone over two values
single_behind : (opened : List Entry) (start : Map) (t : State) (k : Bytes) → Holds opened start t → IsSingle (stack k (flat_map t.mems t.latest.sealed) ++ of_tables k t.latest.tables)
single_behind opened start t k h =
    let a = stack k (t.mems t.latest.active) in
    let b = stack k (flat_map t.mems t.latest.sealed) in
    let c = of_tables k t.latest.tables in
    let all : stack k (entries t.mems t.latest) ≡ a ++ (b ++ c) = stack_of k t.mems t.latest ∙ ap (λ es. es ++ c) (stack-append k (t.mems t.latest.active) (flat_map t.mems t.latest.sealed)) ∙ append_assoc a b c in
    single_right a (b ++ c) (subst IsSingle all (h.sound.fits k).0.single)

pub sealed_below : (opened : List Entry) (start : Map) (t : State) → Holds opened start t → AllByRecursion (λ m. m < t.latest.active) t.latest.sealed
sealed_below opened start t h = h.sound.ids.0.1

-- ---- steps that leave the version

-- the journal grows, and sealed memtables stay
quiet_carries : (opened : List Entry) (start : Map) (old : State) (more : List Event) (notes : List Note) (mems : Memtables)
    → AllByRecursion (λ m. (k : Bytes) → stack k (mems m) ≡ stack k (old.mems m)) old.latest.sealed
    → Holds opened start old → Carries start old.journal old.mems old.latest notes → Carries start (old.journal ++ more) mems old.latest notes
quiet_carries opened start old more notes mems same h c =
    let l = longer old.journal more in
    record {
      tails = λ k. tails_kept k (get start k) old.journal more notes notes old.mems mems old.latest.tables old.latest.tables (length old.journal) old.latest.sealed (omega arith) refl
          (each_always _ (λ m. refl) old.latest.sealed) (each_weaker _ _ (λ m e. e k) old.latest.sealed same) (λ place before b safe single. refl) (single_behind opened start old k h) c.fall (c.tails k);
      fall = fall_kept notes notes (length old.journal) (length (old.journal ++ more)) old.latest.sealed l refl (each_always _ (λ m. refl) old.latest.sealed) c.fall;
    }

sealed_here : (notes : List Note) (m p : ℕ) → sealed_at (SealedAt m p ∷ notes) m ≡ p
sealed_here notes m p = ap (λ b. cond b p (sealed_at notes m)) (eq-eqb m m refl)

sealed_other : (notes : List Note) (m p i : ℕ) → i < m → sealed_at (SealedAt m p ∷ notes) i ≡ sealed_at notes i
sealed_other notes m p i h = ap (λ b. cond b p (sealed_at notes i)) (ne_eqb i m (λ q. omega arith))

-- A rotation: the active memtable is sealed at the end of the journal.
rotate_carries : (opened : List Entry) (start : Map) (old : State) (a : ℕ) (notes : List Note) → old.latest.active < a → Holds opened start old → Carries start old.journal old.mems old.latest notes
    → Carries start old.journal (emptied old.mems a) (record { number = old.latest.number; active = a; sealed = old.latest.active ∷ old.latest.sealed; tables = old.latest.tables }) (SealedAt old.latest.active (length old.journal) ∷ notes)
rotate_carries opened start old a notes l h c =
    let m = old.latest.active in
    let p = length old.journal in
    let below = sealed_below opened start old h in
    let places : AllByRecursion (λ i. sealed_at (SealedAt m p ∷ notes) i ≡ sealed_at notes i) old.latest.sealed = each_weaker _ _ (λ i q. sealed_other notes m p i q) old.latest.sealed below in
    let mems_same : AllByRecursion (λ i. emptied old.mems a i ≡ old.mems i) (m ∷ old.latest.sealed) = (emptied_other old.mems a m l, each_weaker _ _ (λ i q. emptied_other old.mems a i (omega arith)) old.latest.sealed below) in
    record {
      tails = λ k. (
        subst (λ place. Begins k (get start k) old.journal place (stack k (flat_map (emptied old.mems a) (m ∷ old.latest.sealed)) ++ of_tables k old.latest.tables)) (sym (sealed_here notes m p))
            (λ safe. ap (λ es. newest (stack k es ++ of_tables k old.latest.tables)) (flat_map_same (emptied old.mems a) old.mems (m ∷ old.latest.sealed) mems_same)
            ∙ ap newest (sym (stack_of k old.mems old.latest)) ∙ whole_begins opened start old k h safe),
        subst (λ j. Tails k (get start k) j (SealedAt m p ∷ notes) (emptied old.mems a) old.latest.tables old.latest.sealed) (append-nil old.journal)
            (tails_kept k (get start k) old.journal [] notes (SealedAt m p ∷ notes) old.mems (emptied old.mems a) old.latest.tables old.latest.tables p old.latest.sealed (omega arith) refl
            places (each_weaker _ _ (λ i e. ap (stack k) e) old.latest.sealed mems_same.1) (λ place before b safe single. refl) (single_behind opened start old k h) c.fall (c.tails k)),
      );
      fall = let e = sealed_here notes m p in (omega arith, fall_kept notes (SealedAt m p ∷ notes) p (sealed_at (SealedAt m p ∷ notes) m) old.latest.sealed (omega arith) refl places c.fall);
    }

-- equal sources have equal memtables
pub mems_of_sources : (f g : Memtables) (ids : List ℕ) (xs ys : List (List Entry)) → map f ids ++ xs ≡ map g ids ++ ys → AllByRecursion (λ m. f m ≡ g m) ids
mems_of_sources f g [] xs ys e = tt
mems_of_sources f g (i ∷ ids) xs ys e = (cc e, mems_of_sources f g ids xs ys (cc e))

-- ---- commits

-- what a commit makes of the version, whatever the journal then tells
pub record Puts (start : Map) (old : State) (notes other : List Note) (more : List Event) (latest : SuperVersion) : Type 0 where
  pub tails : (k : Bytes) → Tails k (get start k) (old.journal ++ more) other old.mems latest.tables latest.sealed
  pub fall : Fall other (length old.journal) latest.sealed
  pub least : covered notes ≤ covered other
  pub sub : (k : Bytes) → Sublist (of_tables k latest.tables) (stack k (entries old.mems old.latest))
  pub laid : IsLaidOut latest.tables

-- tables are the end of what a super version has
sub_tables : (k : Bytes) (mems : Memtables) (latest : SuperVersion) (es : List Entry) → Sublist es (of_tables k latest.tables) → Sublist es (stack k (entries mems latest))
sub_tables k mems latest es s = rw (stack_of k mems latest) (sub_append {xs = []} (sub_none (stack k (flat_map mems (latest.active ∷ latest.sealed)))) s)

pub flush_puts : (opened : List Entry) (start : Map) (old : State) (w : ℕ) (job : List ℕ) (made : List Placed) (new : State) (notes : List Note) (more : List Event) → IsFlush w job made old new → Holds opened start old → Carries start old.journal old.mems old.latest notes → Puts start old notes (FlushedIds job ∷ notes) more new.latest
flush_puts opened start old w job made new notes more m h c =
    let is : (k : Bytes) → of_tables k new.latest.tables ≡ keep w false (stack k (flat_map old.mems job)) ++ of_tables k old.latest.tables = λ k.
    rearranged_same k (made ++ old.latest.tables) new.latest.tables m.commit.laid (each_append _ made old.latest.tables m.covers h.laid.covers) m.placed ∙ of_tables-append k made old.latest.tables ∙ ap (λ es. es ++ of_tables k old.latest.tables) (m.kept (latest_ordered opened start old h) k) in
    let fall : Fall notes (length old.journal) (new.latest.sealed ++ job) = rw m.sealed at c.fall in
    record {
      tails = λ k. flush_tails k (get start k) old.journal more notes old.mems old.latest.tables new.latest.tables w (length old.journal) new.latest.sealed job (omega arith) (is k)
          (subst (λ ids. IsSingle (stack k (flat_map old.mems ids) ++ of_tables k old.latest.tables)) m.sealed (single_behind opened start old k h))
          fall (subst (λ ids. Tails k (get start k) old.journal notes old.mems old.latest.tables ids) m.sealed (c.tails k));
      fall = flush_fall notes (length old.journal) new.latest.sealed job fall;
      least = omega arith;
      sub = λ k. rw (is k, stack_of k old.mems old.latest)
          (sub_append (subst (λ es. Sublist (keep w false (stack k (flat_map old.mems job))) es) (sym (mem_parts k m.sealed)) (sub_append {xs = []} (sub_none (stack k (flat_map old.mems (old.latest.active ∷ new.latest.sealed)))) (keep_sub w false (stack k (flat_map old.mems job))))) (sub_itself (of_tables k old.latest.tables)));
      laid = m.commit.laid;
    }
  where
    mem_parts : (k : Bytes) → old.latest.sealed ≡ new.latest.sealed ++ job → stack k (flat_map old.mems (old.latest.active ∷ old.latest.sealed)) ≡ stack k (flat_map old.mems (old.latest.active ∷ new.latest.sealed)) ++ stack k (flat_map old.mems job)
    mem_parts k e =
        ap (λ ids. stack k (flat_map old.mems (old.latest.active ∷ ids))) e ∙ ap (stack k) (flat_map-append old.mems (old.latest.active ∷ new.latest.sealed) job) ∙ stack-append k (flat_map old.mems (old.latest.active ∷ new.latest.sealed)) (flat_map old.mems job)

-- the sealed memtables stay, and tables show the same after any of them
same_puts : (opened : List Entry) (start : Map) (old : State) (notes : List Note) (more : List Event) (latest : SuperVersion) → latest.sealed ≡ old.latest.sealed → IsLaidOut latest.tables
    → ((k : Bytes) → ShowsBehind k (old.journal ++ more) (length old.journal) old.latest.tables latest.tables)
    → ((k : Bytes) → Sublist (of_tables k latest.tables) (stack k (entries old.mems old.latest)))
    → Holds opened start old → Carries start old.journal old.mems old.latest notes → Puts start old notes notes more latest
same_puts opened start old notes more latest sealed laid same sub h c = record {
  tails = λ k. rw sealed (tails_kept k (get start k) old.journal more notes notes old.mems old.mems old.latest.tables latest.tables (length old.journal) old.latest.sealed (omega arith) refl
      (each_always _ (λ m. refl) old.latest.sealed) (each_always _ (λ m. refl) old.latest.sealed) (same k) (single_behind opened start old k h) c.fall (c.tails k));
  fall = rw sealed c.fall;
  least = omega arith;
  sub = sub;
  laid = laid;
}

kept_newest : (w : ℕ) (evict : Bool) (before part rest : List Entry) → IsSingle (before ++ (part ++ rest)) → (evict ≡ true → (part ≡ []) ⊎ (rest ≡ [])) → newest (before ++ (keep w evict part ++ rest)) ≡ newest (before ++ (part ++ rest))
kept_newest w evict before part rest single last =
    elim evict as (λ b. evict ≡ b → newest (before ++ (keep w b part ++ rest)) ≡ newest (before ++ (part ++ rest))) [
      | true ↦ λ q. ⊎_elim
          (λ (z : part ≡ []). rw z refl)
          (λ (z : rest ≡ []). keep_newest_sub w true before part rest single (λ _. rw z refl))
          (last q)
      | false ↦ λ q. keep_newest_sub w false before part rest single (λ z. absurd (cc z))
    ] refl

pub merge_puts : (opened : List Entry) (start : Map) (old : State) (w d : ℕ) (ids : List ℕ) (evict : Bool) (made : List Placed) (new : State) (notes : List Note) (more : List Event) → IsMerge w d ids evict made old new → Holds opened start old → Carries start old.journal old.mems old.latest notes → Puts start old notes notes more new.latest
merge_puts opened start old w d ids evict made new notes more m h c =
    let tables = old.latest.tables in
    let up = λ (k : Bytes). of_tables k (upper_of d (among ids) tables) in
    let part = λ (k : Bytes). of_tables k (chosen_of (among ids) tables) in
    let low = λ (k : Bytes). of_tables k (lower_of d (among ids) tables) in
    let was : (k : Bytes) → of_tables k tables ≡ up k ++ (part k ++ low k) = λ k. parts_of k d (among ids) evict tables h.laid m.allowed in
    let is : (k : Bytes) → of_tables k new.latest.tables ≡ up k ++ (keep w evict (part k) ++ low k) = λ k. around k d (among ids) tables made new.latest.tables (keep w evict (part k)) h.laid m.covers m.commit.laid m.placed (m.kept (latest_ordered opened start old h) k) in
    same_puts opened start old notes more new.latest m.sealed m.commit.laid
    (λ k place before b safe single.
    let front = before ++ up k in
    let one : before ++ of_tables k tables ≡ front ++ (part k ++ low k) = ap (λ es. before ++ es) (was k) ∙ sym (append_assoc before (up k) (part k ++ low k)) in
    ap (λ es. newest (before ++ es)) (is k) ∙ ap newest (sym (append_assoc before (up k) (keep w evict (part k) ++ low k)))
    ∙ kept_newest w evict front (part k) (low k) (subst IsSingle one single) (λ q. evicted_parts k d (among ids) tables h.laid (subst (λ e. IsAllowed d (among ids) e tables) q m.allowed))
    ∙ ap newest (sym one))
    (λ k. sub_tables k old.mems old.latest (of_tables k new.latest.tables) (rw (is k, was k) (sub_append (sub_itself (up k)) (sub_append (keep_sub w evict (part k)) (sub_itself (low k))))))
    h c

pub move_puts : (opened : List Entry) (start : Map) (old : State) (d : ℕ) (ids : List ℕ) (placed : List Placed) (new : State) (notes : List Note) (more : List Event) → IsMove d ids placed old new → Holds opened start old → Carries start old.journal old.mems old.latest notes → Puts start old notes notes more new.latest
move_puts opened start old d ids placed new notes more m h c =
    let tables = old.latest.tables in
    let same : (k : Bytes) → of_tables k new.latest.tables ≡ of_tables k tables = λ k.
    around k d (among ids) tables placed new.latest.tables (of_tables k (chosen_of (among ids) tables)) h.laid m.covers m.commit.laid m.placed (m.same k) ∙ sym (parts_of k d (among ids) false tables h.laid m.allowed) in
    same_puts opened start old notes more new.latest m.sealed m.commit.laid
    (λ k place before b safe single. ap (λ es. newest (before ++ es)) (same k))
    (λ k. sub_tables k old.mems old.latest (of_tables k new.latest.tables) (rw (same k) (sub_itself (of_tables k tables))))
    h c

-- what is spared by a drop and more stands in none of its ranges
spared_drop : (k : Bytes) (b : Bool) (ranges : List Range) (n : ℕ) (more : List Event) → fold (spoiled_after k) b (Dropped ranges n ∷ more) ≡ true → in_any k ranges ≡ false
spared_drop k b ranges n more h =
    elim (in_any k ranges) as (λ c. fold (spoiled_after k) (cond c false b) more ≡ true → c ≡ false) [
      | true ↦ λ q. let bad : false ≡ true = spared_all k false more q in absurd (cc bad)
      | false ↦ λ q. refl
    ] h

pub drop_puts : (opened : List Entry) (start : Map) (old : State) (ids : List ℕ) (new : State) (notes : List Note) (n : ℕ) (more : List Event) → IsDrop ids old new → Holds opened start old → Carries start old.journal old.mems old.latest notes → Puts start old notes notes (Dropped (ranges_of (among ids) old.latest.tables) n ∷ more) new.latest
drop_puts opened start old ids new notes n more m h c =
    let tables = old.latest.tables in
    let ranges = ranges_of (among ids) tables in
    let is : (k : Bytes) → of_tables k new.latest.tables ≡ of_tables k (left_of (among ids) tables) = λ k. rearranged_same k (left_of (among ids) tables) new.latest.tables m.commit.laid (each_filter _ _ tables h.laid.covers) m.placed in
    same_puts opened start old notes (Dropped ranges n ∷ more) new.latest m.sealed m.commit.laid
    (λ k place before b safe single.
    let out : in_any k ranges ≡ false = spared_drop k (is_spared_at k old.journal place) ranges n more (sym (spared_at_more k old.journal (Dropped ranges n ∷ more) place b) ∙ safe) in
    ap (λ es. newest (before ++ es)) (is k ∙ left_alone k (among ids) tables h.laid.covers out))
    (λ k. sub_tables k old.mems old.latest (of_tables k new.latest.tables) (rw (is k) (sub_filter k _ tables)))
    h c

-- what is put carries on
pub puts_carry : (start : Map) (old : State) (notes other : List Note) (more : List Event) (latest : SuperVersion) → Puts start old notes other more latest → Carries start (old.journal ++ more) old.mems latest other
puts_carry start old notes other more latest p = record {
  tails = p.tails;
  fall = fall_kept other other (length old.journal) (length (old.journal ++ more)) latest.sealed (longer old.journal more) refl (each_always _ (λ m. refl) latest.sealed) p.fall;
}

-- A clear: nothing is left, and the place after it is covered.
clear_carries : (start : Map) (old : State) (n a : ℕ) (mems : Memtables) (notes : List Note) → Carries start old.journal old.mems old.latest notes
    → Carries start (old.journal ++ Clear n ∷ []) mems (record { number = n; active = a; sealed = []; tables = [] }) (ClearedTo (length old.journal + 1) ∷ notes)
clear_carries start old n a mems notes c =
    let journal = old.journal ++ Clear n ∷ [] in
    let low = fall_covered notes (length old.journal) old.latest.sealed c.fall in
    let e = length-append old.journal (Clear n ∷ []) in
    let is : length journal ≡ max (length old.journal + 1) (covered notes) = omega arith in
    record {
      tails = λ k. subst (λ p. Begins k (get start k) journal p []) is (λ safe. sym (ap (begun k (get start k)) (take-length journal) ∙ fold_push (begun_after k) (get start k) old.journal (Clear n)));
      fall = omega arith;
    }

-- ---- each step

pub step_carries : (opened : List Entry) (start : Map) (old : State) (action : Action) (new : State) (notes : List Note) → Step opened old action new → Holds opened start old → Carries start old.journal old.mems old.latest notes → Carries start new.journal new.mems new.latest (noted_by old action ++ notes)
step_carries opened start old (Wrote e) new notes m h c =
    rw (m.journal, m.latest) (quiet_carries opened start old (Write e ∷ []) notes new.mems
    (each_weaker _ _ (λ i l k. m.mems k i ∙ ap (stack k) (written_other old.mems old.latest.active e i l)) old.latest.sealed (sealed_below opened start old h)) h c)
step_carries opened start old (Rotated a) new notes m h c =
    subst (λ (t : State). Carries start t.journal t.mems t.latest (noted_by old (Rotated a) ++ notes)) (sym m.1) (rotate_carries opened start old a notes m.0 h c)
step_carries opened start old (Flushed w job made) new notes m h c =
    rw (m.commit.journal, m.commit.mems) (puts_carry start old notes (FlushedIds job ∷ notes) (Install new.latest.number ∷ []) new.latest (flush_puts opened start old w job made new notes (Install new.latest.number ∷ []) m h c))
step_carries opened start old (Merged w d ids evict made) new notes m h c =
    rw (m.commit.journal, m.commit.mems) (puts_carry start old notes notes (Install new.latest.number ∷ []) new.latest (merge_puts opened start old w d ids evict made new notes (Install new.latest.number ∷ []) m h c))
step_carries opened start old (Moved d ids placed) new notes m h c =
    rw (m.commit.journal, m.commit.mems) (puts_carry start old notes notes (Install new.latest.number ∷ []) new.latest (move_puts opened start old d ids placed new notes (Install new.latest.number ∷ []) m h c))
step_carries opened start old (DroppedTables ids) new notes m h c =
    let n = new.latest.number in
    rw (m.commit.journal, m.commit.mems) (puts_carry start old notes notes (Dropped (ranges_of (among ids) old.latest.tables) n ∷ (Install n ∷ [])) new.latest (drop_puts opened start old ids new notes n (Install n ∷ []) m h c))
step_carries opened start old (Cleared n a) new notes m h c =
    subst (λ (t : State). Carries start t.journal t.mems t.latest (noted_by old (Cleared n a) ++ notes)) (sym m.1) (clear_carries start old n a (emptied old.mems a) notes c)
step_carries opened start old (Marked w) new notes m h c =
    subst (λ (t : State). Carries start t.journal t.mems t.latest notes) (sym m) (quiet_carries opened start old (Mark w ∷ []) notes old.mems (each_always _ (λ i k. refl) old.latest.sealed) h c)
step_carries opened start old (LostDrop ranges n) new notes m h c =
    subst (λ (t : State). Carries start t.journal t.mems t.latest notes) (sym m) (quiet_carries opened start old (Dropped ranges n ∷ []) notes old.mems (each_always _ (λ i k. refl) old.latest.sealed) h c)
step_carries opened start old (Asked s question) new notes m h c =
    subst (λ (t : State). Carries start t.journal t.mems t.latest notes) (sym m.3) (quiet_carries opened start old (Read s question (answered s (sources old.mems m.0) question) ∷ []) notes old.mems (each_always _ (λ i k. refl) old.latest.sealed) h c)
step_carries opened start old (Maintained w) new notes m h c =
    let latest : old.latest ≡ new.latest = cc m.was in
    let equal : sources new.mems old.latest ≡ sources old.mems old.latest = rw latest m.mems.0 in
    let mems : AllByRecursion (λ i. new.mems i ≡ old.mems i) (old.latest.active ∷ old.latest.sealed) = mems_of_sources new.mems old.mems (old.latest.active ∷ old.latest.sealed) _ _ equal in
    let same = quiet_carries opened start old [] notes new.mems (each_weaker _ _ (λ i e k. ap (stack k) e) old.latest.sealed mems.1) h c in
    subst (λ sv. Carries start new.journal new.mems sv notes) latest (rw m.journal (subst (λ j. Carries start j new.mems old.latest notes) (append-nil old.journal) same))

-- events that lie after change nothing of it
pub lost_carries : (opened : List Entry) (start : Map) (old : State) (more : List Event) (notes other : List Note) → covered other ≡ covered notes → ((m : ℕ) → sealed_at other m ≡ sealed_at notes m) → Holds opened start old → Carries start old.journal old.mems old.latest notes → Carries start (old.journal ++ more) old.mems old.latest other
lost_carries opened start old more notes other same places h c = record {
  tails = λ k. tails_kept k (get start k) old.journal more notes other old.mems old.mems old.latest.tables old.latest.tables (length old.journal) old.latest.sealed (omega arith) same
      (each_always _ places old.latest.sealed) (each_always _ (λ m. refl) old.latest.sealed) (λ place before b safe single. refl) (single_behind opened start old k h) c.fall (c.tails k);
  fall = fall_kept notes other (length old.journal) (length (old.journal ++ more)) old.latest.sealed (longer old.journal more) same (each_always _ places old.latest.sealed) c.fall;
}
