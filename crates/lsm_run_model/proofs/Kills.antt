-- A flush is killed between the renaming of `current` and the syncing of its folder, and the next opening settles which of the two it is.
-- Without that the promise is false: for an opening that removes first, and for one that syncs by a call that may leave any bytes meanwhile.
use Rattle.std.proofs.Common.{◌≡◌, ◌≢◌, ◌⊎◌, ⊎_elim, inl, inr, ℕ, zero, suc, ◌≤◌, Bool, true, false, List, [], ◌∷◌, Option, Some, None, refl, sym, ap, ◌∙◌, subst, arith}
use Rattle.std.specs.FinMap.{empty}
use Rattle.lsm_below.specs.Members.{IsIn}
use Rattle.lsm_store.specs.World.{Image, Row, Outcomes, World, Anything, Only, OldOr, IsImage, At, Becomes, LeavesOnly}
use Rattle.lsm_model.specs.Journal.{Map, changed}
use Rattle.lsm_model.specs.declared.journal.JournalEntry.TheVariants.{Write, Install}
use Rattle.lsm_model.proofs.Examples.{set0}
use Rattle.lsm_run_model.specs.Outcomes.{Past, nothing, after_all}
use Rattle.lsm_run_model.specs.Moments.{HoldsBeginning, EachMoment}
use Rattle.lsm_run_model.specs.Lives.{End, Crashed, Killed, GivesOne, ShowsOld, OneLife, LifeAfterLife, Opening, Running, Reads, AllGoWell}
use Rattle.lsm_run_model.specs.Settling.{TellsMoments, LooksAt, IsPut, IsCleared, Settled}
use Rattle.lsm_run_model.proofs.Lives.{any_number}
use Rattle.lsm_run_model.proofs.Settling.{settling, breaks}
use Rattle.lsm_run_model.proofs.Examples.{told, AllKnown}

-- ---- names: `current`, the file of the old version, and others, of which one is the new version's

abbrev current : List ℕ
current = []

abbrev old_file : List ℕ
old_file = 0 ∷ []

abbrev new_file : List ℕ
new_file = 0 ∷ (0 ∷ [])

abbrev none : Option (List ℕ)
none = None

abbrev there : Option (List ℕ)
there = Some []

abbrev names_old : Option (List ℕ)
names_old = Some (1 ∷ [])

abbrev names_new : Option (List ℕ)
names_new = Some (2 ∷ [])

abbrev garbage : Option (List ℕ)
garbage = Some (3 ∷ [])

-- `current` and the file of the old version may be of these, all other names are there
abbrev filled : Option (List ℕ) → Option (List ℕ) → Image
filled c f [] = c
filled c f (zero ∷ []) = f
filled c f (suc x ∷ []) = there
filled c f (x ∷ (y ∷ zs)) = there

abbrev rows : Row → Row → Outcomes
rows c f [] = c
rows c f (zero ∷ []) = f
rows c f (suc x ∷ []) = Only there
rows c f (x ∷ (y ∷ zs)) = Only there

abbrev Either : Option (List ℕ) → Option (List ℕ) → Row
Either a b c = (c ≡ a) ⊎ (c ≡ b)

abbrev before_may : Outcomes
before_may = rows (Only names_old) (Only there)

abbrev doubt_may : Outcomes
doubt_may = rows (Either names_old names_new) (Only there)

abbrev sure_may : Outcomes
sure_may = rows (Only names_new) (Only there)

abbrev clean_may : Outcomes
clean_may = rows (Only names_new) (Either there none)

-- ---- maps

abbrev old_map : Map
old_map = empty

abbrev new_map : Map
new_map = changed empty set0

abbrev Shows : Image → Map → Type 0
Shows image m = ((image current ≡ names_old) × (image old_file ≡ there) × (m ≡ old_map)) ⊎ ((image current ≡ names_new) × (image new_file ≡ there) × (m ≡ new_map))

-- ---- stores

pub data Store : Type 0 where
  -- the new version's files are written and synced, and `current` names the old one
  Before : Store
  -- and after the flush: it names the new one
  Done : Store
  -- the flush was killed: `current` has been renamed, the folder isn't synced
  Doubt : Store
  -- the opening has put `current` on the disk
  Sure : Store
  -- and removed the file of the old version
  Clean : Store

abbrev world : Store → World
world Before = record { gives = filled names_old there; may = before_may; moment = 0; since = λ t image. IsImage before_may image; failures = 0 }
world Done = record { gives = filled names_new there; may = sure_may; moment = 1; since = λ t image. ((t ≤ 0) × IsImage doubt_may image) ⊎ IsImage sure_may image; failures = 0 }
world Doubt = record { gives = filled names_new there; may = doubt_may; moment = 1; since = λ t image. IsImage doubt_may image; failures = 0 }
world Sure = record { gives = filled names_new there; may = sure_may; moment = 2; since = λ t image. ((t ≤ 1) × IsImage doubt_may image) ⊎ IsImage sure_may image; failures = 0 }
world Clean = record { gives = filled names_new none; may = clean_may; moment = 2; since = λ t image. ((t ≤ 1) × IsImage doubt_may image) ⊎ IsImage clean_may image; failures = 0 }

-- an opening has removed the file, and not put `current` on the disk
abbrev rash_world : World
rash_world = record { gives = filled names_new none; may = At old_file (OldOr (Only there) None) doubt_may; moment = 1; since = λ t image. IsImage doubt_may image ⊎ IsImage (At old_file (OldOr (Only there) None) doubt_may) image; failures = 0 }

-- an opening has synced `current`, by a call that may leave any bytes meanwhile
abbrev synced_world : World
synced_world = record { gives = filled names_new there; may = At current (Only names_new) doubt_may; moment = 2; since = λ t image. ((t ≤ 1) × (IsImage doubt_may image ⊎ IsImage (At current Anything doubt_may) image)) ⊎ IsImage (At current (Only names_new) doubt_may) image; failures = 0 }

sure_doubt : (image : Image) → IsImage sure_may image → IsImage doubt_may image
sure_doubt image is [] = inr (is [])
sure_doubt image is (zero ∷ []) = is (zero ∷ [])
sure_doubt image is (suc x ∷ []) = is (suc x ∷ [])
sure_doubt image is (x ∷ (y ∷ zs)) = is (x ∷ (y ∷ zs))

filled_is : (c f : Option (List ℕ)) (rc rf : Row) → rc c → rf f → IsImage (rows rc rf) (filled c f)
filled_is c f rc rf at_c at_f [] = at_c
filled_is c f rc rf at_c at_f (zero ∷ []) = at_f
filled_is c f rc rf at_c at_f (suc x ∷ []) = refl
filled_is c f rc rf at_c at_f (x ∷ (y ∷ zs)) = refl

doubt_shows : (image : Image) → IsImage doubt_may image → (m : Map) × Shows image m
doubt_shows image is = ⊎_elim (λ e. (old_map, inl (e, is old_file, refl))) (λ e. (new_map, inr (e, is new_file, refl))) (is current)

-- ---- an opening that removes first, and one that syncs so, lose it

lost_other : (n : List ℕ) → n ≢ old_file → doubt_may n (filled names_old none n)
lost_other [] ne = inl refl
lost_other (zero ∷ []) ne = absurd (ne refl)
lost_other (suc x ∷ []) ne = refl
lost_other (x ∷ (y ∷ zs)) ne = refl

rash_gives : (n : List ℕ) → n ≢ old_file → filled names_new none n ≡ filled names_new there n
rash_gives [] ne = refl
rash_gives (zero ∷ []) ne = absurd (ne refl)
rash_gives (suc x ∷ []) ne = refl
rash_gives (x ∷ (y ∷ zs)) ne = refl

-- it is the removal of the file, as stores promise it
rash_is : Becomes old_file (OldOr ((world Doubt).may old_file) None) (OldOr ((world Doubt).may old_file) None) (world Doubt) rash_world
rash_is = record { may = λ n c. (λ h. h, λ h. h); elsewhere = rash_gives; later = omega arith; since = λ t image low. (λ h. h, λ h. h) }

lost_shows_none : (m : Map) → Shows (filled names_old none) m → ⊥
lost_shows_none m shows = ⊎_elim (λ (s : (names_old ≡ names_old) × (none ≡ there) × (m ≡ old_map)). absurd (cc s.1)) (λ (s : (names_old ≡ names_new) × (there ≡ there) × (m ≡ new_map)). absurd (cc s.0)) shows

pub removing_first_loses : LeavesOnly (world Doubt) rash_world (ShowsOld Shows (world Doubt)) → ⊥
removing_first_loses promise = breaks Shows (world Doubt) rash_world rash_world old_file (OldOr ((world Doubt).may old_file) None) (OldOr ((world Doubt).may old_file) None) rash_is
    (record { later = omega arith; since = λ t image low left. left })
    (filled names_old none)
    (λ n. record { here = λ same. subst (λ k. OldOr ((world Doubt).may old_file) None (filled names_old none k)) (sym same) (inr refl); elsewhere = λ ne. lost_other n ne })
    lost_shows_none
    promise

garbage_other : (n : List ℕ) → n ≢ current → doubt_may n (filled garbage there n)
garbage_other [] ne = absurd (ne refl)
garbage_other (zero ∷ []) ne = refl
garbage_other (suc x ∷ []) ne = refl
garbage_other (x ∷ (y ∷ zs)) ne = refl

synced_is : Becomes current Anything (Only names_new) (world Doubt) synced_world
synced_is = record {
  may = λ n c. (λ h. h, λ h. h);
  elsewhere = λ n ne. refl;
  later = omega arith;
  since = λ t image low. (λ h. ⊎_elim (λ (s : (t ≤ 1) × (IsImage doubt_may image ⊎ IsImage (At current Anything doubt_may) image)). s.1) (λ s. inr (λ n. record { here = λ same. tt; elsewhere = λ ne. (s n).elsewhere ne })) h, λ h. inl (low, h));
}

garbage_shows_none : (m : Map) → Shows (filled garbage there) m → ⊥
garbage_shows_none m shows = ⊎_elim (λ (s : (garbage ≡ names_old) × (there ≡ there) × (m ≡ old_map)). absurd (cc s.0)) (λ (s : (garbage ≡ names_new) × (there ≡ there) × (m ≡ new_map)). absurd (cc s.0)) shows

pub such_a_sync_loses : LeavesOnly (world Doubt) synced_world (ShowsOld Shows (world Doubt)) → ⊥
such_a_sync_loses promise = breaks Shows (world Doubt) synced_world synced_world current Anything (Only names_new) synced_is
    (record { later = omega arith; since = λ t image low left. left })
    (filled garbage there)
    (λ n. record { here = λ same. tt; elsewhere = λ ne. garbage_other n ne })
    garbage_shows_none
    promise

-- ---- one that settles keeps it

tells : TellsMoments world
tells = record { gives_one = one; counts_now = counts; only_now = only }
  where
    one : (store : Store) → GivesOne (world store)
    one Before = filled_is names_old there (Only names_old) (Only there) refl refl
    one Done = filled_is names_new there (Only names_new) (Only there) refl refl
    one Doubt = filled_is names_new there (Either names_old names_new) (Only there) (inr refl) refl
    one Sure = filled_is names_new there (Only names_new) (Only there) refl refl
    one Clean = filled_is names_new none (Only names_new) (Either there none) refl (inr refl)

    counts : (store : Store) (t : ℕ) (image : Image) → t ≤ (world store).moment → IsImage (world store).may image → (world store).since t image
    counts Before t image low is = is
    counts Done t image low is = inr is
    counts Doubt t image low is = is
    counts Sure t image low is = inr is
    counts Clean t image low is = inr is

    only : (store : Store) (image : Image) → (world store).since (world store).moment image → IsImage (world store).may image
    only Before image left = left
    only Done image left = ⊎_elim (λ (s : (1 ≤ 0) × IsImage doubt_may image). absurd (omega (s.0, arith))) (λ s. s) left
    only Doubt image left = left
    only Sure image left = ⊎_elim (λ (s : (2 ≤ 1) × IsImage doubt_may image). absurd (omega (s.0, arith))) (λ s. s) left
    only Clean image left = ⊎_elim (λ (s : (2 ≤ 1) × IsImage doubt_may image). absurd (omega (s.0, arith))) (λ s. s) left

abbrev orphan : List ℕ → Bool
orphan [] = false
orphan (zero ∷ []) = true
orphan (suc x ∷ []) = false
orphan (x ∷ (y ∷ zs)) = false

stays : (c d : Option (List ℕ)) → (c ≡ d) ⊎ ((c ≡ None) × (false ≡ true)) → c ≡ d
stays c d h = ⊎_elim (λ e. e) (λ g. absurd (cc g.1)) h

looks : LooksAt Shows (world Doubt) current orphan new_map
looks = record {
  each = doubt_shows;
  read = λ image is e. inr (e, is new_file, refl);
  spared = λ a b is e agree shows. inr (stays (b current) (a current) (agree current) ∙ e, stays (b new_file) (a new_file) (agree new_file) ∙ is new_file, refl);
  kept = refl;
}

sure_row : (n : List ℕ) (c : Option (List ℕ)) → sure_may n c → doubt_may n c
sure_row [] c h = inr h
sure_row (zero ∷ []) c h = h
sure_row (suc x ∷ []) c h = h
sure_row (x ∷ (y ∷ zs)) c h = h

put : IsPut current (world Doubt) (world Sure)
put = record {
  meanwhile = record {
    later = omega arith;
    each = λ image left. ⊎_elim (λ (s : (1 ≤ 1) × IsImage doubt_may image). s.1) (λ s. sure_doubt image s) left;
    before = λ t image low left. ⊎_elim (λ (s : (t ≤ 1) × IsImage doubt_may image). inl s.1) (λ s. inr (sure_doubt image s)) left;
  };
  may = sure_row;
  here = λ c is. is;
}

clean_but : (image : Image) → IsImage clean_may image → IsCleared orphan (world Sure) image
clean_but image is [] = inl (is [])
clean_but image is (zero ∷ []) = ⊎_elim (λ e. inl e) (λ e. inr (e, refl)) (is (zero ∷ []))
clean_but image is (suc x ∷ []) = inl (is (suc x ∷ []))
clean_but image is (x ∷ (y ∷ zs)) = inl (is (x ∷ (y ∷ zs)))

clears : LeavesOnly (world Sure) (world Clean) (IsCleared orphan (world Sure))
clears = record {
  later = omega arith;
  each = λ image left. ⊎_elim (λ (s : (2 ≤ 1) × IsImage doubt_may image). absurd (omega (s.0, arith))) (λ s. clean_but image s) left;
  before = λ t image low left. ⊎_elim (λ s. inl (inl s)) (λ s. inr (clean_but image s)) left;
}

pub opening_settles : Settled Shows world new_map Doubt Sure Clean
opening_settles = (settling Shows world).opens tells Doubt Sure Clean current orphan new_map looks put clears

-- ---- life after life

-- whatever a crash leaves shows a map: so opening takes it
abbrev Ready : World → Type 0
Ready w = (image : Image) → IsImage w.may image → (m : Map) × Shows image m

same_shows : (a b : Image) (m : Map) → ((n : List ℕ) → b n ≡ a n) → Shows a m → Shows b m
same_shows a b m e shows = ⊎_elim
    (λ (s : (a current ≡ names_old) × (a old_file ≡ there) × (m ≡ old_map)). inl (e current ∙ s.0, e old_file ∙ s.1, s.2))
    (λ (s : (a current ≡ names_new) × (a new_file ≡ there) × (m ≡ new_map)). inr (e current ∙ s.0, e new_file ∙ s.1, s.2))
    shows

apart : names_old ≡ names_new → ⊥
apart e = cc e

shows_once : (image : Image) (m n : Map) → Shows image m → Shows image n → m ≡ n
shows_once image m n xs ys = ⊎_elim
    (λ (a : (image current ≡ names_old) × (image old_file ≡ there) × (m ≡ old_map)). ⊎_elim
    (λ (b : (image current ≡ names_old) × (image old_file ≡ there) × (n ≡ old_map)). a.2 ∙ sym b.2)
    (λ (b : (image current ≡ names_new) × (image new_file ≡ there) × (n ≡ new_map)). absurd (apart (sym a.0 ∙ b.0)))
    ys)
    (λ (a : (image current ≡ names_new) × (image new_file ≡ there) × (m ≡ new_map)). ⊎_elim
    (λ (b : (image current ≡ names_old) × (image old_file ≡ there) × (n ≡ old_map)). absurd (apart (sym b.0 ∙ a.0)))
    (λ (b : (image current ≡ names_new) × (image new_file ≡ there) × (n ≡ new_map)). a.2 ∙ sym b.2)
    ys)
    xs

reads : Reads Ready Shows world
reads = record {
  crashes = λ store image m shows begins. (λ i is. (m, same_shows image i m (λ n. (begins.may n (i n)).0 (is n)) shows), same_shows image (world store).gives m begins.gives shows);
  resumes = λ old new r ready image is. ready image (λ n. (r.may n (image n)).0 (is n));
  same = same_shows;
  once = shows_once;
}

-- the first life: a set, the sealing of its memtable, and the flush in which it is killed
holds_old : (past : Past) (image : Image) → Shows image empty → HoldsBeginning Shows empty past 0 image
holds_old past image shows = record { map = empty; shows = shows; begins = record { place = 0; enough = omega arith; within = omega arith; front = []; is_front = inl refl; shows = λ k spared. refl } }

abbrev flushed : Past
flushed = after_all [] nothing told

holds_new : (least : ℕ) → least ≤ 2 → (image : Image) → Shows image new_map → HoldsBeginning Shows empty flushed least image
holds_new least low image shows = record { map = new_map; shows = shows; begins = record { place = 2; enough = low; within = omega arith; front = Write set0 ∷ (Install 1 ∷ []); is_front = inl refl; shows = λ k spared. refl } }

in_flush : (image : Image) → IsImage doubt_may image → HoldsBeginning Shows empty flushed 0 image
in_flush image is = ⊎_elim (λ e. holds_old flushed image (inl (e, is old_file, refl))) (λ e. holds_new 0 (omega arith) image (inr (e, is new_file, refl))) (is current)

still : (past : Past) → LeavesOnly (world Before) (world Before) (HoldsBeginning Shows empty past 0)
still past = record { later = omega arith; each = λ image is. holds_old past image (inl (is current, is old_file, refl)); before = λ t image low left. inl left }

abbrev chain : List Store
chain = Before ∷ (Before ∷ (Done ∷ []))

done_doubt : (t : ℕ) (image : Image) → (world Done).since t image → IsImage doubt_may image
done_doubt t image left = ⊎_elim (λ (s : (t ≤ 0) × IsImage doubt_may image). s.1) (λ s. sure_doubt image s) left

first_moments : EachMoment Shows world [] empty nothing told Before chain
first_moments = (
  λ image is. holds_old _ image (inl (is current, is old_file, refl)),
  still _,
  (
    λ image is. holds_old _ image (inl (is current, is old_file, refl)),
    still _,
    (
      λ image is. holds_old _ image (inl (is current, is old_file, refl)),
      record { later = omega arith; each = λ image left. in_flush image (done_doubt 0 image left); before = λ t image low left. inr (in_flush image (done_doubt t image left)) },
      λ image left. let s = tells.only_now Done image left in holds_new 1 (omega arith) image (inr (s current, s new_file, refl)),
    ),
  ),
)

-- before any call the map itself is left
holds_none : (m : Map) (image : Image) → Shows image m → HoldsBeginning Shows m nothing 0 image
holds_none m image shows = record { map = m; shows = shows; begins = record { place = 0; enough = omega arith; within = omega arith; front = []; is_front = inl refl; shows = λ k spared. refl } }

is_old : (m : Map) → Shows (filled names_old there) m → m ≡ old_map
is_old m shows = shows_once (filled names_old there) m old_map shows (inl (refl, refl, refl))

is_new : (m : Map) → Shows (filled names_new there) m → m ≡ new_map
is_new m shows = shows_once (filled names_new there) m new_map shows (inr (refl, refl, refl))

begins_may : (n : List ℕ) (c : Option (List ℕ)) → (before_may n c → c ≡ filled names_old there n) × (c ≡ filled names_old there n → before_may n c)
begins_may [] c = (λ h. h, λ h. h)
begins_may (zero ∷ []) c = (λ h. h, λ h. h)
begins_may (suc x ∷ []) c = (λ h. h, λ h. h)
begins_may (x ∷ (y ∷ zs)) c = (λ h. h, λ h. h)

-- the old version, the killed flush, an opening that is killed too before it did anything, and one that settles it, with a crash after it
abbrev ends : List (End Store)
ends = Killed Doubt ∷ (Killed Doubt ∷ (Crashed (filled names_new there) ∷ []))

pub lives : LifeAfterLife ℕ AllKnown Ready Shows world (Crashed (filled names_old there)) ends
lives = (
  record {
    store = Before;
    takes = record { gives = λ n. refl; may = begins_may; moment = refl; failures = refl };
    life = λ m ready shows each. subst (λ x. OneLife ℕ AllKnown Ready Shows world x Before (Killed Doubt)) (sym (is_old m shows)) (Running (record {
      opened = [];
      told = told;
      known = tt;
      first = Before;
      stores = chain;
      moments = first_moments;
      answered = 2;
      ended = record { each = λ image may. inl (omega arith, may); gives = tells.gives_one Doubt };
      ready = λ kill cut ends image is. doubt_shows image (done_doubt 0 image (ends.each image is));
    }));
  },
  (
    record {
      store = Doubt;
      takes = record { gives = λ n. refl; may = λ n c. (λ h. h, λ h. h) };
      life = λ m ready shows each. Opening
          Doubt
          ((settling Shows world).fails Doubt Doubt current orphan new_map looks (record { later = omega arith; each = λ image is. is; before = λ t image low left. inl left }))
          (record { each = λ image may. may; gives = tells.gives_one Doubt })
          (λ kill cut ends image is. doubt_shows image (ends.each image is));
    },
    (
      record {
        store = Doubt;
        takes = record { gives = λ n. refl; may = λ n c. (λ h. h, λ h. h) };
        life = λ m ready shows each. subst (λ x. OneLife ℕ AllKnown Ready Shows world x Doubt (Crashed (filled names_new there))) (sym (is_new m shows)) (Running (record {
          opened = [];
          told = [];
          known = tt;
          first = Clean;
          stores = [];
          moments = λ image since. holds_none new_map image (opening_settles.now image since);
          answered = 0;
          ended = record { each = λ image is. subst (λ i. (world Clean).since 2 i) (sym is) (inr (filled_is names_new there (Only names_new) (Either there none) refl (inl refl))); gives = tt };
          ready = λ kill. absurd kill;
        }));
      },
      tt,
    ),
  ),
)

-- after the first two lives both maps are open: beginnings of the set and the flush; after the third one it is the new one
pub all_well : AllGoWell ℕ AllKnown Ready Shows world (λ m. IsIn m (old_map ∷ [])) (Crashed (filled names_old there)) ends lives
all_well = any_number ℕ AllKnown Ready Shows world reads (Crashed (filled names_old there)) (old_map ∷ []) tt tt (λ image is. (old_map, same_shows (filled names_old there) image old_map (λ n. ap (λ i. i n) is) (inl (refl, refl, refl)), inl refl)) ends lives

both_open : (IsImage doubt_may (filled names_old there) × Shows (filled names_old there) old_map) × (IsImage doubt_may (filled names_new there) × Shows (filled names_new there) new_map)
both_open = ((filled_is names_old there (Either names_old names_new) (Only there) (inl refl) refl, inl (refl, refl, refl)), (filled_is names_new there (Either names_old names_new) (Only there) (inr refl) refl, inr (refl, refl, refl)))
