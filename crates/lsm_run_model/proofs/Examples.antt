-- Two lives with a crash in a flush and one in a clear of unknown outcome: the premises can be met. And why the moments are as they are.
use Rattle.std.proofs.Common.{◌≡◌, ◌⊎◌, ⊎_elim, ℕ, zero, suc, ◌≤◌, Bool, true, false, cond, List, [], ◌∷◌, ◌++◌, Option, Some, None, refl, sym, ap, ◌∙◌, subst, arith, inl, inr, take, drop, filter}
use Rattle.std.specs.FinMap.{get, empty, entries, find, get-empty, get-entries}
use Rattle.std.specs.declared.ops.Bound.TheVariants.{Unbounded}
use Rattle.lsm_below.specs.Keys.{Bytes, is_same, bytes_cmp}
use Rattle.lsm_below.specs.Entries.{stack, value_of, IsFalling, IsSingle}
use Rattle.lsm_below.specs.Members.{IsIn}
use Rattle.lsm_store.specs.World.{Image, World, LeavesOnly}
use Rattle.lsm_model.specs.Journal.{Event, Map, changed}
use Rattle.lsm_model.specs.Views.{Placed, held}
use Rattle.lsm_model.specs.Steps.{Wrote, Rotated, Flushed as Flushing, Cleared as Clearing}
use Rattle.lsm_model.specs.Soundness.{Soundness}
use Rattle.lsm_model.specs.Laws.{MapsAreRead}
use Rattle.lsm_model.specs.Beginnings.{Note, SealedAt, FlushedIds, ClearLost, covered, Saved, Done, Lost, IsStart, IsBeginning, EveryCrashRecovers, DeedsJoin, OpeningStarts, Stands, is_spared, beginning, shown_by, versions}
use Rattle.lsm_model.specs.declared.journal.JournalEntry.TheVariants.{Write, Clear, Install, Dropped}
use Rattle.lsm_model.proofs.Examples.{key, set0, table, sv, state, m0, kept_one}
use Rattle.lsm_model.proofs.CrashExamples.{saved, a3, a2, a1, cleared}
use Rattle.lsm_model.proofs.Crashes.{no_tables_stand}
use Rattle.lsm_run_model.specs.Outcomes.{Told, nothing}
use Rattle.lsm_run_model.specs.declared.noted.Noted.TheVariants.{Sealed, Flushed, ClearUnknown}
use Rattle.lsm_run_model.specs.Moments.{EachMoment, HoldsBeginning}
use Rattle.lsm_run_model.specs.Composing.{Point, past_of, FindsAmong, IsOfEither, EachDoes, Composed, TablesShow}
use Rattle.lsm_run_model.specs.Lives.{Crashed, Knowledge, LifeAfterLife, Running, Reads, AllGoWell}
use Rattle.lsm_run_model.specs.Rising.{Drawing, Silent, Own, Raises, Reserves, Draws, At, UpTo, RisesFrom, highest, Asks, WeakOnce}
use Rattle.lsm_run_model.proofs.Composing.{runs_compose}
use Rattle.lsm_run_model.proofs.Lives.{any_number}

-- ---- tables and trees

abbrev one : List Placed
one = table 0 set0 ∷ []

abbrev a0 : Saved
a0 = saved (state [] m0 (sv 0 0 [] []) []) [] []

abbrev b0 : Saved
b0 = saved (state [] m0 (sv 0 0 [] one) []) [] []

abbrev b1 : Saved
b1 = saved b0.state (ClearLost 1 0 ∷ []) ([] ∷ [])

-- ---- stores: a name has nothing, or the mark of the table

pub data Store : Type 0 where
  New : Store
  Behind : Store
  Again : Store
  Doubted : Store

abbrev none : Option (List ℕ)
none = None

abbrev mark : Option (List ℕ)
mark = Some []

abbrev filled : Option (List ℕ) → Image
filled c name = c

abbrev plain_world : Option (List ℕ) → ℕ → (ℕ → Image → Type 0) → World
plain_world c moment since = record { gives = filled c; may = λ name d. d ≡ c; moment = moment; since = since; failures = 0 }

-- in the flush a crash leaves nothing or the table, after it the table; in the clear, whose outcome is unknown, either, and after it too
abbrev world : Store → World
world New = plain_world none 0 (λ t image. image [] ≡ none)
world Behind = plain_world mark 1 (λ t image. ((t ≤ 0) × (image [] ≡ none)) ⊎ (image [] ≡ mark))
world Again = plain_world mark 0 (λ t image. image [] ≡ mark)
world Doubted = plain_world mark 1 (λ t image. (image [] ≡ mark) ⊎ (image [] ≡ none))

abbrev Finds : Image → List Placed → Type 0
Finds image tables = ((image [] ≡ none) × (tables ≡ [])) ⊎ ((image [] ≡ mark) × (tables ≡ one))

abbrev Shows : Image → Map → Type 0
Shows image m = (tables : List Placed) × Finds image tables × Stands tables × (m ≡ shown_by tables)

tables_show : TablesShow Finds Shows 9
tables_show image tables found stands low = (tables, found, stands, refl)

-- ---- the first life

abbrev pub told : List (Told ℕ)
told =
    record { reply = 0; entries = Write set0 ∷ []; notes = [] }
    ∷ (record { reply = 0; entries = []; notes = Sealed 0 ∷ [] }
    ∷ (record { reply = 0; entries = Install 1 ∷ []; notes = Flushed (0 ∷ []) ∷ [] } ∷ []))

abbrev point : Store → Saved → Point Store
point store tree = record { store = store; tree = tree }

abbrev points : List (Point Store)
points = point New a1 ∷ (point New a2 ∷ (point Behind a3 ∷ []))

-- a call that leaves the store
still : (old new : Saved) → IsIn [] (versions old) → LeavesOnly (world New) (world New) (FindsAmong Finds (IsOfEither old new))
still old new i = record {
  later = omega arith;
  each = λ image since. ([], inl (since, refl), inl i);
  before = λ t image low since. inl since;
}

does : EachDoes Finds world [] empty told (point New a0) points
does = (
  λ right order. record {
    deeds = Done (Wrote set0) ∷ [];
    done = (a1, record { answered = refl; certain = λ h. absurd (cc h); step = record { journal = refl; mems = λ k i. refl; latest = refl; older = refl }; distinct = tt; notes = refl; others = refl }, refl);
    past = refl;
    inside = still a0 a1 (inl refl);
    now = λ image since. ([], inl (since, refl), inl refl);
  },
  (
    λ right order. record {
      deeds = Done (Rotated 1) ∷ [];
      done = (a2, record { answered = refl; certain = λ h. absurd (cc h); step = (omega arith, refl); distinct = tt; notes = refl; others = refl }, refl);
      past = refl;
      inside = still a1 a2 (inl refl);
      now = λ image since. ([], inl (since, refl), inl refl);
    },
    (
      λ right order. record {
        deeds = Done (Flushing 0 (0 ∷ []) one) ∷ [];
        done = (
          a3,
          record { answered = refl; certain = λ h. refl; step = record { commit = record { journal = refl; mems = refl; active = refl; older = refl; laid = record { covers = ((refl, tt), tt); by_level = (tt, tt) } }; sealed = refl; covers = ((refl, tt), tt); placed = λ k. refl; kept = λ o k. kept_one k set0 0 }; distinct = (tt, tt); notes = refl; others = refl },
          refl,
        );
        past = refl;
        inside = record {
          later = omega arith;
          each = λ image since. ⊎_elim (λ s. ([], inl (s.1, refl), inl (inl refl))) (λ s. (one, inr (s, refl), inr (inl refl))) since;
          before = λ t image low since. ⊎_elim (λ s. inl s.1) (λ s. inr (one, inr (s, refl), inr (inl refl))) since;
        };
        now = λ image since. ⊎_elim (λ s. absurd (omega arith)) (λ s. (one, inr (s, refl), inl refl)) since;
      },
      tt,
    ),
  ),
)

starts : IsStart [] empty a0
starts = record { opens = record { journal = refl; number = refl; active = refl; sealed = refl; tables = refl; laid = record { covers = tt; by_level = tt }; older = refl; ordered = λ k. tt; single = λ k. tt; starts = λ k. get-empty bytes_cmp k }; distinct = tt; notes = refl; others = refl }

first_life : Soundness → EveryCrashRecovers → DeedsJoin → Composed Finds Shows world [] empty told (point New a0) points
first_life theory crashes join = runs_compose theory crashes join ℕ Finds (λ n. Shows) world [] empty 9 told (point New a0) points tables_show
    (record { came = record { first = a0; starts = starts; deeds = []; done = refl; order = tt }; now = λ image since. ([], inl (since, refl), inl refl) })
    does
    3
    (record { before = omega arith; written = (omega arith, (tt, tt)) })
    (record { after_installs = omega arith; after_own = omega arith; single = λ w. omega arith }, (omega arith, tt))

-- the numbers of its calls rise: one was drawn and used for the write, then the flush drew the next one
numbers_rise : RisesFrom 0 (At 0) (Reserves ∷ (Own 0 ∷ (Silent ∷ (Draws ∷ []))))
numbers_rise = (omega arith, ((omega arith, omega arith), (tt, (tt, tt))))

-- and by the calls alone all that they write is numbered below 2
bounded_by_the_calls : highest (At 0) (Reserves ∷ (Own 0 ∷ (Silent ∷ (Draws ∷ [])))) ≡ 2
bounded_by_the_calls = refl

-- and wherever the counter stands up to 0, if it is put above the write's number first
numbers_rise_up_to : RisesFrom 0 (UpTo 0) (Raises 1 ∷ (Own 0 ∷ (Silent ∷ (Draws ∷ []))))
numbers_rise_up_to = (omega arith, ((omega arith, omega arith), (tt, (tt, tt))))

-- a number that an install may have used doesn't rise, nor one that the counter hasn't passed
used_numbers_dont : RisesFrom 0 (At 1) (Draws ∷ (Raises 3 ∷ (Own 1 ∷ []))) → ⊥
used_numbers_dont r = omega (r.1.1.0.0, arith)

undrawn_numbers_dont : RisesFrom 0 (At 0) (Own 0 ∷ []) → ⊥
undrawn_numbers_dont r = omega (r.0.1, arith)

-- a key may be removed weakly after it was set once, and not after it was set twice, or over a value that was opened
abbrev asks : Drawing → List Bytes → List Bytes → Asks
asks d sets weak = record { drawing = d; sets = sets; weak = weak }

set_once : WeakOnce [] [] (asks Draws (key ∷ []) [] ∷ (asks Draws [] (key ∷ []) ∷ []))
set_once = (tt, ((omega arith, tt), tt))

set_twice : WeakOnce [] [] (asks Draws (key ∷ []) [] ∷ (asks Draws (key ∷ []) [] ∷ (asks Draws [] (key ∷ []) ∷ []))) → ⊥
set_twice w = omega (w.1.1.0.0, arith)

set_and_opened : WeakOnce (set0 ∷ []) [] (asks Draws (key ∷ []) [] ∷ (asks Draws [] (key ∷ []) ∷ [])) → ⊥
set_and_opened w = omega (w.1.0.0, arith)

-- ---- the second life: opened on what the flush left, a clear of unknown outcome

falls_alone : (k : Bytes) → IsFalling (stack k (set0 ∷ []))
falls_alone k = elim (is_same k key) as (λ b. IsFalling (cond b (set0 ∷ []) [])) [ true ↦ (tt, tt) | false ↦ tt ]

single_alone : (k : Bytes) → IsSingle (stack k (set0 ∷ []))
single_alone k = elim (is_same k key) as (λ b. IsSingle (cond b (set0 ∷ []) [])) [ true ↦ (λ w. omega arith, tt) | false ↦ tt ]

one_stands : Stands one
one_stands = record { distinct = (tt, tt); laid = record { covers = ((refl, tt), tt); by_level = (tt, tt) }; ordered = λ k. falls_alone k; single = λ k. single_alone k }

abbrev told_again : List (Told ℕ)
told_again = record { reply = 0; entries = []; notes = ClearUnknown 1 ∷ [] } ∷ []

does_again : EachDoes Finds world (held one) (shown_by one) told_again (point Again b0) (point Doubted b1 ∷ [])
does_again = (
  λ right order. record {
    deeds = Lost (Clearing 1 1) cleared ∷ [];
    done = (b1, record { commits = refl; certain = refl; step = (omega arith, refl); state = refl; distinct = tt; notes = refl; others = refl }, refl);
    past = refl;
    inside = record {
      later = omega arith;
      each = λ image since. ⊎_elim (λ s. (one, inr (s, refl), inl (inl refl))) (λ s. ([], inl (s, refl), inr (inr (inl refl)))) since;
      before = λ t image low since. ⊎_elim (λ s. inl s) (λ s. inr ([], inl (s, refl), inr (inr (inl refl)))) since;
    };
    now = λ image since. ⊎_elim (λ s. (one, inr (s, refl), inl refl)) (λ s. ([], inl (s, refl), inr (inl refl))) since;
  },
  tt,
)

second_life : Soundness → EveryCrashRecovers → DeedsJoin → OpeningStarts → Composed Finds Shows world (held one) (shown_by one) told_again (point Again b0) (point Doubted b1 ∷ [])
second_life theory crashes join opens = runs_compose theory crashes join ℕ Finds (λ n. Shows) world (held one) (shown_by one) 9 told_again (point Again b0) (point Doubted b1 ∷ []) tables_show
    (record {
      came = record { first = b0; starts = opens one b0 one_stands (record { journal = refl; number = refl; active = refl; sealed = refl; tables = refl; older = refl; notes = refl; others = refl }); deeds = []; done = refl; order = tt };
      now = λ image since. (one, inr (since, refl), inl refl);
    })
    does_again
    1
    (record { before = omega arith; written = tt })
    tt

-- ---- both

apart : none ≡ mark → ⊥
apart e = cc e

shows_none : (m : Map) → Shows (filled none) m → m ≡ empty
shows_none m (tables, found, stands, is) = ⊎_elim (λ (f : (none ≡ none) × (tables ≡ [])). is ∙ ap shown_by f.1) (λ (f : (none ≡ mark) × (tables ≡ one)). absurd (apart f.0)) found

shows_mark : (m : Map) → Shows (filled mark) m → m ≡ shown_by one
shows_mark m (tables, found, stands, is) = ⊎_elim (λ (f : (mark ≡ none) × (tables ≡ [])). absurd (apart (sym f.0))) (λ (f : (mark ≡ mark) × (tables ≡ one)). is ∙ ap shown_by f.1) found

-- opening takes each store
abbrev Always : World → Type 0
Always w = Unit {0}

-- and nothing is known of the calls but their outcomes
abbrev pub AllKnown : Knowledge ℕ
AllKnown opened m calls = Unit {0}

moved : (a b : Image) (m : Map) → b [] ≡ a [] → Shows a m → Shows b m
moved a b m e (tables, found, stands, is) = (tables, subst (λ (c : Option (List ℕ)). ((c ≡ none) × (tables ≡ [])) ⊎ ((c ≡ mark) × (tables ≡ one))) (sym e) found, stands, is)

found_once : (image : Image) (xs ys : List Placed) → Finds image xs → Finds image ys → xs ≡ ys
found_once image xs ys x y = ⊎_elim
    (λ (f : (image [] ≡ none) × (xs ≡ [])). ⊎_elim (λ (g : (image [] ≡ none) × (ys ≡ [])). f.1 ∙ sym g.1) (λ (g : (image [] ≡ mark) × (ys ≡ one)). absurd (apart (sym f.0 ∙ g.0))) y)
    (λ (f : (image [] ≡ mark) × (xs ≡ one)). ⊎_elim (λ (g : (image [] ≡ none) × (ys ≡ [])). absurd (apart (sym g.0 ∙ f.0))) (λ (g : (image [] ≡ mark) × (ys ≡ one)). f.1 ∙ sym g.1) y)
    x

reads : Reads Always Shows world
reads = record {
  crashes = λ store image m shows begins. (tt, moved image (world store).gives m (begins.gives []) shows);
  resumes = λ old new r ready. tt;
  same = λ a b m e shows. moved a b m (e []) shows;
  once = λ image m n (ts, f, st, is) (us, g, su, iu). is ∙ ap shown_by (found_once image ts us f g) ∙ sym iu;
}

module _ (theory : Soundness) (crashes : EveryCrashRecovers) (join : DeedsJoin) (opens : OpeningStarts) where
  -- the first crash comes in the flush, and leaves its table; the second one in the clear, and leaves nothing
  pub lives : LifeAfterLife ℕ AllKnown Always Shows world (Crashed (filled none)) (Crashed (filled mark) ∷ (Crashed (filled none) ∷ []))
  lives = (
    record {
      store = New;
      takes = record { gives = λ n. refl; may = λ n c. (λ e. e, λ e. e); moment = refl; failures = refl };
      life = λ m ready shows each. Running (record {
        opened = [];
        told = told;
        known = tt;
        first = New;
        stores = New ∷ (New ∷ (Behind ∷ []));
        moments = subst (λ x. EachMoment Shows world [] x nothing told New (New ∷ (New ∷ (Behind ∷ [])))) (sym (shows_none m shows)) (first_life theory crashes join).moments;
        answered = 2;
        ended = record { each = λ image is. inr (ap (λ (i : Image). i []) is); gives = tt };
        ready = λ kill. absurd kill;
      });
    },
    (
      record {
        store = Again;
        takes = record { gives = λ n. refl; may = λ n c. (λ e. e, λ e. e); moment = refl; failures = refl };
        life = λ m ready shows each. Running (record {
          opened = held one;
          told = told_again;
          known = tt;
          first = Again;
          stores = Doubted ∷ [];
          moments = subst (λ x. EachMoment Shows world (held one) x nothing told_again Again (Doubted ∷ [])) (sym (shows_mark m shows)) (second_life theory crashes join opens).moments;
          answered = 0;
          ended = record { each = λ image is. inr (ap (λ (i : Image). i []) is); gives = tt };
          ready = λ kill. absurd kill;
        });
      },
      tt,
    ),
  )

  -- what the first crash left shows a beginning of its three calls, what the second one left a beginning of the clear
  pub both_well : AllGoWell ℕ AllKnown Always Shows world (λ m. IsIn m (empty ∷ [])) (Crashed (filled none)) (Crashed (filled mark) ∷ (Crashed (filled none) ∷ [])) lives
  both_well = any_number ℕ AllKnown Always Shows world reads (Crashed (filled none)) (empty ∷ []) tt tt (λ image is. (empty, moved (filled none) image empty (ap (λ (i : Image). i []) is) ([], inl (refl, refl), no_tables_stand, refl), inl refl)) (Crashed (filled mark) ∷ (Crashed (filled none) ∷ [])) lives

-- ---- why each moment has its own journal

-- a set that was flushed, and then a drop of its table
abbrev before_drop : List Event
before_drop = Write set0 ∷ (Install 1 ∷ [])

abbrev with_drop : List Event
with_drop = Write set0 ∷ (Install 1 ∷ (Dropped (record { min = key; max = key } ∷ []) 2 ∷ (Install 2 ∷ [])))

abbrev notes : List Note
notes = FlushedIds (0 ∷ []) ∷ (SealedAt 0 1 ∷ [])

-- measured by the whole journal of a run nothing at all is a beginning that holds what the flush covered
nothing_left : MapsAreRead → IsBeginning empty with_drop notes 1 empty
nothing_left maps = record {
  place = 4;
  enough = omega arith;
  within = omega arith;
  front = with_drop;
  is_front = inl refl;
  shows = λ k spared. at_key k (is_same k key) refl spared;
}
  where
    out : (k : Bytes) → k ≡ key → is_spared k with_drop [] ≡ true → ⊥
    out k e spared = absurd (cc (subst (λ q. is_spared q with_drop [] ≡ true) e spared))

    at_key : (k : Bytes) (b : Bool) → is_same k key ≡ b → is_spared k with_drop (drop 4 with_drop) ≡ true → get {R = bytes_cmp} (empty {K = Bytes} {X = Bytes}) k ≡ get (beginning empty with_drop) k
    at_key k true e spared = absurd (out k (maps.same_key k key e) spared)
    at_key k false e spared = sym (maps.changed empty set0 k ∙ ap (λ b. cond b (value_of set0) (get (empty {K = Bytes} {X = Bytes} {R = bytes_cmp}) k)) e)

-- measured by the journal before the drop it is none: so a crash that comes before the drop began must not leave it
not_before : MapsAreRead → IsBeginning empty before_drop notes 1 empty → ⊥
not_before maps b = ⊎_elim
    (λ (e : b.front ≡ take b.place before_drop). at_place b.place b.enough b.within b.front e b.shows)
    (λ (f : (n : ℕ) × IsIn (ClearLost n b.place) notes × (b.front ≡ take b.place before_drop ++ Clear n ∷ [])). no_clear f.0 b.place f.1)
    b.is_front
  where
    no_clear : (n place : ℕ) → IsIn (ClearLost n place) notes → ⊥
    no_clear n place i = ⊎_elim (λ (e : FlushedIds (0 ∷ []) ≡ ClearLost n place). absurd (cc e)) (λ j. ⊎_elim (λ (e : SealedAt 0 1 ≡ ClearLost n place). absurd (cc e)) (λ k. absurd k) j) i

    here : (front : List Event) → get {R = bytes_cmp} (empty {K = Bytes} {X = Bytes}) key ≡ get (beginning empty (Write set0 ∷ front)) key → get (beginning empty (Write set0 ∷ front)) key ≡ Some (7 ∷ []) → ⊥
    here front e f = cc (sym (get-empty bytes_cmp key) ∙ e ∙ f)

    seven : get (changed empty set0) key ≡ Some (7 ∷ [])
    seven = maps.changed empty set0 key

    at_place : (place : ℕ) → 1 ≤ place → place ≤ 2 → (front : List Event) → front ≡ take place before_drop → ((k : Bytes) → is_spared k front (drop place before_drop) ≡ true → get {R = bytes_cmp} (empty {K = Bytes} {X = Bytes}) k ≡ get (beginning empty front) k) → ⊥
    at_place zero l h front e s = absurd (omega arith)
    at_place (suc zero) l h front e s = here [] (subst (λ f. is_spared key f (Install 1 ∷ []) ≡ true → get {R = bytes_cmp} (empty {K = Bytes} {X = Bytes}) key ≡ get (beginning empty f) key) e (s key) refl) seven
    at_place (suc (suc zero)) l h front e s = here (Install 1 ∷ []) (subst (λ f. is_spared key f [] ≡ true → get {R = bytes_cmp} (empty {K = Bytes} {X = Bytes}) key ≡ get (beginning empty f) key) e (s key) refl) seven
    at_place (suc (suc (suc n))) l h front e s = absurd (omega arith)

-- inside the flush only what was covered before it may be asked for: after it place 1 is covered, and its old version shows nothing
inside_the_flush : (covered (past_of a2).notes ≡ 0) × (covered (past_of a3).notes ≡ 1)
inside_the_flush = (refl, refl)

inside_not_more : MapsAreRead → HoldsBeginning Shows empty (past_of a3) (covered (past_of a3).notes) (filled none) → ⊥
inside_not_more maps h = not_before maps (subst (λ m. IsBeginning empty before_drop notes 1 m) (shows_none h.map h.shows) h.begins)

-- so a flush that is answered, and of which nothing is there, is refused: by what a crash leaves now
lost_flush_is_refused : MapsAreRead → EachMoment Shows world [] empty nothing told New (New ∷ (New ∷ (New ∷ []))) → ⊥
lost_flush_is_refused maps m = inside_not_more maps (m.2.2.2 (filled none) refl)

-- ---- the first calls alone

-- a call after them whose write breaks the order takes nothing from what holds of them
abbrev one_more : List (Told ℕ)
one_more = record { reply = 0; entries = Write set0 ∷ []; notes = [] } ∷ []

abbrev more_points : List (Point Store)
more_points = point New a1 ∷ (point New a2 ∷ (point Behind a3 ∷ (point Behind a3 ∷ [])))

does_more : EachDoes Finds world [] empty (told ++ one_more) (point New a0) more_points
does_more = (does.0, (does.1.0, (does.1.1.0, ((λ right order. let low = order.1.1.0.after_installs in absurd (omega arith)), tt))))

holds_of_the_first : Soundness → EveryCrashRecovers → DeedsJoin → Composed Finds Shows world [] empty told (point New a0) points
holds_of_the_first theory crashes join = runs_compose theory crashes join ℕ Finds (λ n. Shows) world [] empty 9 (told ++ one_more) (point New a0) more_points tables_show
    (record { came = record { first = a0; starts = starts; deeds = []; done = refl; order = tt }; now = λ image since. ([], inl (since, refl), inl refl) })
    does_more
    3
    (record { before = omega arith; written = (omega arith, (tt, tt)) })
    (record { after_installs = omega arith; after_own = omega arith; single = λ w. omega arith }, (omega arith, tt))
