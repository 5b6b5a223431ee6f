-- After any deeds each version that opening may find stands for a beginning; and opening starts over from it.
use Rattle.std.proofs.Common.{◌≡◌, ℕ, ◌≤◌, true, false, List, [], ◌∷◌, ◌++◌, take, drop, length, map, refl, sym, ap, ◌∙◌, subst, arith, flat_map, ◌⊎◌, append_assoc, append-nil, inl, inr, ⊎_elim}
use Rattle.std.specs.List.{AllByRecursion}
use Rattle.std.specs.FinMap.{get, same_map, slice_cmp-IsAntisymmetric, nat_cmp-IsAntisymmetric}
use Rattle.std.specs.Cmp.Lexicographic.{nat_list_cmp_total}
use Rattle.std.proofs.lemmas.List.{length-append, take-append-le, drop-append-le}
use Rattle.lsm_below.specs.Keys.{Bytes}
use Rattle.lsm_below.specs.Entries.{Entry, above, stack, top, IsFalling, IsSingle}
use Rattle.lsm_model.specs.Journal.{Event, Map, InOrder}
use Rattle.lsm_model.specs.Views.{Placed, held, shown, seen, view, view_at, IsLaidOut, IsIn, ranges_of, HasDistinctIds}
use Rattle.lsm_model.specs.Steps.{State, among, Action, Flushed, Merged, Moved, DroppedTables, Cleared, LostDrop, Step}
use Rattle.lsm_model.specs.Sound.{Holds}
use Rattle.lsm_model.specs.Beginnings.{is_spared, Note, ClearLost, sealed_at, covered, SealedAt, FlushedIds, ClearedTo, shown_by, Stands, Recovers, Saved, versions, Deed, Done, Lost, is_commit, noted_by, noted_lost, told_lost, Does, Deeds, IsStart, EveryCrashRecovers, beginning, IsBeginning, DeedsJoin, DeedsSplit, OpeningStarts, ShownAbove, IsFound}
use Rattle.lsm_model.specs.declared.journal.JournalEntry.TheVariants.{Clear, Dropped}
use Rattle.lsm_below.specs.Each.{each_weaker}
use Rattle.lsm_below.specs.Members.{each_in}
use Rattle.lsm_model.proofs.Lists.{fold_push}
use Rattle.lsm_model.proofs.Stacks.{falling_right, falling_sub, single_right, single_sub, top_first}
use Rattle.lsm_model.proofs.Journals.{in_order_front}
use Rattle.lsm_model.proofs.Merges.{of_tables}
use Rattle.lsm_model.proofs.Commits.{stack_of}
use Rattle.lsm_model.proofs.Answers.{get-map_of}
use Rattle.lsm_model.proofs.Runs.{joined_map, step_holds, step_grows, opened_holds}
use Rattle.lsm_model.proofs.Beginnings.{begun_after, newest_seen, Begins, spared_all, spared_more, fall_covered, tails_tables}
use Rattle.lsm_model.proofs.Wholes.{get-beginning, below_above, get-shown_by, stands_of}
use Rattle.lsm_model.proofs.Carries.{Carries, Puts, flush_puts, merge_puts, move_puts, drop_puts, step_carries, lost_carries}

-- ---- tables that stand for a beginning

begins_recover : (start : Map) (journal : List Event) (notes : List Note) (least place : ℕ) (tables : List Placed) → Stands tables → least ≤ place → place ≤ length journal → ((k : Bytes) → Begins k (get start k) journal place (of_tables k tables)) → Recovers start journal notes least tables
begins_recover start journal notes least place tables stands enough within begins = record {
  stands = stands;
  begins = record {
    place = place;
    enough = enough;
    within = within;
    front = take place journal;
    is_front = inl refl;
    shows = λ k spared. get-shown_by tables k ∙ begins k spared ∙ sym (get-beginning start (take place journal) k);
  };
}

pub is_in_behind : {A : Type 0} (x : A) (xs ys : List A) → IsIn x ys → IsIn x (xs ++ ys)
is_in_behind x [] ys h = h
is_in_behind x (y ∷ xs) ys h = inr (is_in_behind x xs ys h)

-- it stays so while the journal grows
begins_on : (start : Map) (journal more : List Event) (notes extra : List Note) (least less : ℕ) (m : Map) → less ≤ least → IsBeginning start journal notes least m → IsBeginning start (journal ++ more) (extra ++ notes) less m
begins_on start journal more notes extra least less m l r =
    let before : take r.place (journal ++ more) ≡ take r.place journal = take-append-le r.place journal more r.within in
    let behind : drop r.place (journal ++ more) ≡ drop r.place journal ++ more = drop-append-le r.place journal more r.within in
    record {
      place = r.place;
      enough = let e = r.enough in omega arith;
      within = let w = r.within in let e = length-append journal more in omega arith;
      front = r.front;
      is_front = ⊎_elim
          (λ (f : r.front ≡ take r.place journal). inl (f ∙ sym before))
          (λ (f : (n : ℕ) × IsIn (ClearLost n r.place) notes × (r.front ≡ take r.place journal ++ Clear n ∷ [])). inr (f.0, is_in_behind (ClearLost f.0 r.place) extra notes f.1, f.2 ∙ ap (λ es. es ++ Clear f.0 ∷ []) (sym before)))
          r.is_front;
      shows = λ k spared.
          r.shows k (spared_all k (is_spared k r.front (drop r.place journal)) more (sym (ap (is_spared k r.front) behind ∙ spared_more k r.front (drop r.place journal) more) ∙ spared));
    }

recovers_more : (start : Map) (journal more : List Event) (notes extra : List Note) (least less : ℕ) (tables : List Placed) → less ≤ least → Recovers start journal notes least tables → Recovers start (journal ++ more) (extra ++ notes) less tables
recovers_more start journal more notes extra least less tables l r = record { stands = r.stands; begins = begins_on start journal more notes extra least less (shown_by tables) l r.begins }

stands_held : (opened : List Entry) (start : Map) (t : State) → HasDistinctIds t.latest.tables → Holds opened start t → Stands t.latest.tables
stands_held opened start t distinct h =
    let p = λ (k : Bytes). stack k (flat_map t.mems (t.latest.active ∷ t.latest.sealed)) in
    stands_of t.latest.tables distinct h.laid
    (λ k. falling_right (p k) (of_tables k t.latest.tables) (subst IsFalling (stack_of k t.mems t.latest) (h.sound.fits k).0.falling))
    (λ k. single_right (p k) (of_tables k t.latest.tables) (subst IsSingle (stack_of k t.mems t.latest) (h.sound.fits k).0.single))

-- what a commit would put stands for a beginning
puts_recover : (opened : List Entry) (start : Map) (old would : State) (notes other noted : List Note) (more : List Event) → HasDistinctIds would.latest.tables → Holds opened start old → Puts start old notes other more would.latest → Recovers start (old.journal ++ more) noted (covered notes) would.latest.tables
puts_recover opened start old would notes other noted more distinct h p =
    let w = fall_covered other (length old.journal) would.latest.sealed p.fall in
    let e = length-append old.journal more in
    begins_recover start (old.journal ++ more) noted (covered notes) (covered other) would.latest.tables
    (stands_of would.latest.tables distinct p.laid (λ k. falling_sub (p.sub k) (h.sound.fits k).0.falling) (λ k. single_sub (p.sub k) (h.sound.fits k).0.single))
    p.least (omega arith)
    (λ k. tails_tables k (get start k) (old.journal ++ more) other old.mems would.latest.tables would.latest.sealed (p.tails k))

-- no tables, after a clear of unknown outcome at the end of the journal
cleared_recover : (start : Map) (journal : List Event) (notes : List Note) (least n : ℕ) → least ≤ length journal → Recovers start journal (ClearLost n (length journal) ∷ notes) least []
cleared_recover start journal notes least n l = record {
  stands = stands_of [] tt (record { covers = tt; by_level = tt }) (λ k. tt) (λ k. tt);
  begins = record {
    place = length journal;
    enough = l;
    within = omega arith;
    front = take (length journal) journal ++ Clear n ∷ [];
    is_front = inr (n, inl refl, refl);
    shows = λ k spared. get-shown_by [] k ∙ sym (get-beginning start (take (length journal) journal ++ Clear n ∷ []) k ∙ fold_push (begun_after k) (get start k) (take (length journal) journal) (Clear n));
  };
}

lost_recovers : (opened : List Entry) (start : Map) (old : State) (action : Action) (would : State) (notes : List Note) → is_commit action ≡ true → Step opened old action would → HasDistinctIds would.latest.tables → Holds opened start old → Carries start old.journal old.mems old.latest notes
    → Recovers start (old.journal ++ told_lost old action would) (noted_lost old action ++ notes) (covered notes) would.latest.tables
lost_recovers opened start old (Flushed w job made) would notes q m distinct h c = puts_recover opened start old would notes (FlushedIds job ∷ notes) notes [] distinct h (flush_puts opened start old w job made would notes [] m h c)
lost_recovers opened start old (Merged w d ids evict made) would notes q m distinct h c = puts_recover opened start old would notes notes notes [] distinct h (merge_puts opened start old w d ids evict made would notes [] m h c)
lost_recovers opened start old (Moved d ids placed) would notes q m distinct h c = puts_recover opened start old would notes notes notes [] distinct h (move_puts opened start old d ids placed would notes [] m h c)
lost_recovers opened start old (DroppedTables ids) would notes q m distinct h c =
    puts_recover opened start old would notes notes notes (Dropped (ranges_of (among ids) old.latest.tables) would.latest.number ∷ []) distinct h (drop_puts opened start old ids would notes would.latest.number [] m h c)
lost_recovers opened start old (Cleared n a) would notes q m distinct h c =
    let none : would.latest.tables ≡ [] = ap (λ (t : State). t.latest.tables) m.1 in
    let at_end = cleared_recover start old.journal notes (covered notes) n (fall_covered notes (length old.journal) old.latest.sealed c.fall) in
    subst (λ j. Recovers start j (ClearLost n (length old.journal) ∷ notes) (covered notes) would.latest.tables) (sym (append-nil old.journal)) (rw none at_end)
lost_recovers opened start old other would notes q m distinct h c = absurd (cc q)

-- ---- notes

pub more_covered : (extra notes : List Note) → covered notes ≤ covered (extra ++ notes)
more_covered [] notes = omega arith
more_covered (SealedAt m p ∷ extra) notes = more_covered extra notes
more_covered (FlushedIds ids ∷ extra) notes = let r = more_covered extra notes in omega arith
more_covered (ClearedTo p ∷ extra) notes = let r = more_covered extra notes in omega arith
more_covered (ClearLost n p ∷ extra) notes = more_covered extra notes

-- what is no commit covers nothing
pub quiet_covered : (old : State) (action : Action) (notes : List Note) → is_commit action ≡ false → covered (noted_by old action ++ notes) ≡ covered notes
quiet_covered old (Flushed w job made) notes q = absurd (cc q)
quiet_covered old (Merged w d ids evict made) notes q = absurd (cc q)
quiet_covered old (Moved d ids placed) notes q = absurd (cc q)
quiet_covered old (DroppedTables ids) notes q = absurd (cc q)
quiet_covered old (Cleared n a) notes q = absurd (cc q)
quiet_covered old other notes q = refl

-- nor does a commit of unknown outcome, and no place moves
lost_covered : (old : State) (action : Action) (notes : List Note) → covered (noted_lost old action ++ notes) ≡ covered notes
lost_covered old (Cleared n a) notes = refl
lost_covered old other notes = refl

lost_places : (old : State) (action : Action) (notes : List Note) (m : ℕ) → sealed_at (noted_lost old action ++ notes) m ≡ sealed_at notes m
lost_places old (Cleared n a) notes m = refl
lost_places old other notes m = refl

-- the reads go on after a commit of unknown outcome
abbrev pub told_more : State → List Event → State
told_more old more = record { journal = old.journal ++ more; mems = old.mems; latest = old.latest; older = old.older }

same_told : (opened : List Entry) (start : Map) (old : State) → Holds opened start old → Holds opened start (told_more old [])
same_told opened start old h = subst (λ j. Holds opened start (record { journal = j; mems = old.mems; latest = old.latest; older = old.older })) (sym (append-nil old.journal)) h

pub lost_holds : (opened : List Entry) (start : Map) (old : State) (action : Action) (would : State) → InOrder opened (old.journal ++ told_lost old action would) → Holds opened start old → Holds opened start (told_more old (told_lost old action would))
lost_holds opened start old (DroppedTables ids) would o h = step_holds opened start old (LostDrop (ranges_of (among ids) old.latest.tables) would.latest.number) _ refl o h
lost_holds opened start old other would o h = same_told opened start old h

-- ---- deeds

-- what holds between any two deeds
pub record IsBegun (opened : List Entry) (start : Map) (t : Saved) : Type 0 where
  pub holds : Holds opened start t.state
  pub distinct : HasDistinctIds t.state.latest.tables
  pub carries : Carries start t.state.journal t.state.mems t.state.latest t.notes
  pub others : AllByRecursion (Recovers start t.state.journal t.notes (covered t.notes)) t.others

-- journal and notes only grow
pub record Grows (old new : Saved) : Type 0 where
  pub more : List Event
  pub extra : List Note
  pub journal : new.state.journal ≡ old.state.journal ++ more
  pub notes : new.notes ≡ extra ++ old.notes

grows_itself : (t : Saved) → Grows t t
grows_itself t = record { more = []; extra = []; journal = sym (append-nil t.state.journal); notes = refl }

grows_on : (a b c : Saved) → Grows a b → Grows b c → Grows a c
grows_on a b c f g = record {
  more = f.more ++ g.more;
  extra = g.extra ++ f.extra;
  journal = g.journal ∙ ap (λ js. js ++ g.more) f.journal ∙ append_assoc a.state.journal f.more g.more;
  notes = g.notes ∙ ap (λ ns. g.extra ++ ns) f.notes ∙ sym (append_assoc g.extra f.extra a.notes);
}

pub does_grow : (opened : List Entry) (old : Saved) (deed : Deed) (new : Saved) → Does opened old deed new → Grows old new
does_grow opened old (Done action) new d = let g = step_grows opened old.state action new.state d.step in record { more = g.0; extra = noted_by old.state action; journal = g.1; notes = d.notes }
does_grow opened old (Lost action would) new d = record { more = told_lost old.state action would; extra = noted_lost old.state action; journal = ap (λ (t : State). t.journal) d.state; notes = d.notes }

pub deeds_grow : (opened : List Entry) (old : Saved) (deeds : List Deed) (new : Saved) → Deeds opened old deeds new → Grows old new
deeds_grow opened old [] new d = subst (Grows old) (sym d) (grows_itself old)
deeds_grow opened old (deed ∷ deeds) new d = grows_on old d.0 new (does_grow opened old deed d.0 d.1) (deeds_grow opened d.0 deeds new d.2)

pub grown_order : (opened : List Entry) (old new : Saved) → Grows old new → InOrder opened new.state.journal → InOrder opened old.state.journal
grown_order opened old new g o = in_order_front opened old.state.journal g.more (rw g.journal at o)

grown_recovers : (start : Map) (old new : Saved) (least : ℕ) (tables : List Placed) → Grows old new → least ≤ covered old.notes → Recovers start old.state.journal old.notes (covered old.notes) tables → Recovers start new.state.journal new.notes least tables
grown_recovers start old new least tables g l r = rw (g.journal, g.notes) (recovers_more start old.state.journal g.more old.notes g.extra (covered old.notes) least tables l r)

-- what opening may find stands for a beginning, now and judged by any later journal
versions_recover : (opened : List Entry) (start : Map) (old new : Saved) (least : ℕ) → Grows old new → least ≤ covered old.notes → IsBegun opened start old → AllByRecursion (Recovers start new.state.journal new.notes least) (versions old)
versions_recover opened start old new least g l b =
    let c = b.carries in
    let latest : Recovers start old.state.journal old.notes (covered old.notes) old.state.latest.tables = begins_recover start old.state.journal old.notes (covered old.notes) (covered old.notes) old.state.latest.tables (stands_held opened start old.state b.distinct b.holds) (omega arith)
    (fall_covered old.notes (length old.state.journal) old.state.latest.sealed c.fall)
    (λ k. tails_tables k (get start k) old.state.journal old.notes old.state.mems old.state.latest.tables old.state.latest.sealed (c.tails k)) in
    each_weaker _ _ (λ tables r. grown_recovers start old new least tables g l r) (versions old) (latest, b.others)

does_begun : (opened : List Entry) (start : Map) (old : Saved) (deed : Deed) (new : Saved) → Does opened old deed new → InOrder opened new.state.journal → IsBegun opened start old → IsBegun opened start new
does_begun opened start old (Done action) new d o b = record {
  holds = step_holds opened start old.state action new.state d.step o b.holds;
  distinct = d.distinct;
  carries = rw d.notes (step_carries opened start old.state action new.state old.notes d.step b.holds b.carries);
  others = elim (is_commit action) as (λ c. is_commit action ≡ c → AllByRecursion (Recovers start new.state.journal new.notes (covered new.notes)) new.others) [
    | true ↦ λ q. subst (AllByRecursion (Recovers start new.state.journal new.notes (covered new.notes))) (sym (d.others ∙ d.certain q)) tt
    | false ↦ λ q.
        let same : covered new.notes ≡ covered old.notes = ap covered d.notes ∙ quiet_covered old.state action old.notes q in
        subst (AllByRecursion (Recovers start new.state.journal new.notes (covered new.notes))) (sym d.others)
        (each_weaker _ _ (λ tables r. grown_recovers start old new (covered new.notes) tables (does_grow opened old (Done action) new d) (omega arith) r) old.others b.others)
  ] refl;
}
does_begun opened start old (Lost action would) new d o b =
    let more = told_lost old.state action would in
    let noted = noted_lost old.state action ++ old.notes in
    let order : InOrder opened (old.state.journal ++ more) = subst (λ (t : State). InOrder opened t.journal) d.state o in
    let same : covered noted ≡ covered old.notes = lost_covered old.state action old.notes in
    record {
      holds = subst (Holds opened start) (sym d.state) (lost_holds opened start old.state action would order b.holds);
      distinct = subst (λ (t : State). HasDistinctIds t.latest.tables) (sym d.state) b.distinct;
      carries = subst (λ (t : State). Carries start t.journal t.mems t.latest new.notes) (sym d.state) (rw d.notes (lost_carries opened start old.state more old.notes noted same (lost_places old.state action old.notes) b.holds b.carries));
      others = subst (AllByRecursion (Recovers start new.state.journal new.notes (covered new.notes))) (sym d.others) (
        subst (λ (t : State). Recovers start t.journal new.notes (covered new.notes) would.latest.tables) (sym d.state)
            (subst (λ ns. Recovers start (old.state.journal ++ more) ns (covered ns) would.latest.tables) (sym d.notes)
            (subst (λ c. Recovers start (old.state.journal ++ more) noted c would.latest.tables) (sym same)
            (lost_recovers opened start old.state action would old.notes d.commits d.step d.distinct b.holds b.carries))),
        tt,
      );
    }

deeds_begun : (opened : List Entry) (start : Map) (old : Saved) (deeds : List Deed) (new : Saved) → Deeds opened old deeds new → InOrder opened new.state.journal → IsBegun opened start old → IsBegun opened start new
deeds_begun opened start old [] new d o b = subst (IsBegun opened start) (sym d) b
deeds_begun opened start old (deed ∷ deeds) new d o b =
    deeds_begun opened start d.0 deeds new d.2 o (does_begun opened start old deed d.0 d.1 (grown_order opened d.0 new (deeds_grow opened d.0 deeds new d.2) o) b)

start_begun : (opened : List Entry) (start : Map) (t : Saved) → IsStart opened start t → IsBegun opened start t
start_begun opened start t s =
    let o = s.opens in
    let h = opened_holds opened start t.state o in
    record {
      holds = h;
      distinct = s.distinct;
      carries = rw (o.journal, o.sealed, s.notes) (record {
        tails = λ k safe. newest_seen (above opened) (of_tables k t.state.latest.tables) (rw o.tables (below_above k opened)) ∙ ap (λ es. seen (above opened) (stack k es)) o.tables ∙ sym (o.starts k ∙ first_of_opened k);
        fall = omega arith;
      });
      others = rw s.others tt;
    }
  where
    first_of_opened : (k : Bytes) → view_at k (above opened) (opened ∷ []) ≡ seen (above opened) (stack k opened)
    first_of_opened k =
        let o = s.opens in
        let all : opened ++ [] ≡ opened = append-nil opened in
        ap (λ es. shown (top k (above opened) es)) all ∙ ap shown (top_first k (above opened) opened (rw all at (o.ordered k)))

-- what is found, at each moment of the call
found_recovers : (opened : List Entry) (start : Map) (old : Saved) (call : List Deed) (new : Saved) (done : Deeds opened old call new) (least : ℕ) (left : List Placed) → InOrder opened new.state.journal → least ≤ covered old.notes → IsBegun opened start old → IsFound left opened old call new done → Recovers start new.state.journal new.notes least left
found_recovers opened start old [] new d least left o l b i = each_in _ (versions old) left (versions_recover opened start old new least (deeds_grow opened old [] new d) l b) i
found_recovers opened start old (deed ∷ call) new d least left o l b i =
    let g = does_grow opened old deed d.0 d.1 in
    let rest = deeds_grow opened d.0 call new d.2 in
    let m : covered old.notes ≤ covered d.0.notes = rw g.notes (more_covered g.extra old.notes) in
    ⊎_elim
    (λ (j : IsIn left (versions old)). each_in _ (versions old) left (versions_recover opened start old new least (grows_on old d.0 new g rest) l b) j)
    (λ (j : IsFound left opened d.0 call new d.2). found_recovers opened start d.0 call new d.2 least left o (omega arith) (does_begun opened start old deed d.0 d.1 (grown_order opened d.0 new rest o) b) j)
    i

pub every_crash : EveryCrashRecovers
every_crash opened start first old new earlier call s ran done order left found =
    let before = grown_order opened old new (deeds_grow opened old call new done) order in
    found_recovers opened start old call new done (covered old.notes) left order (omega arith) (deeds_begun opened start first earlier old ran before (start_begun opened start first s)) found

-- what is found at the end is found on the way
found_first : (left : List Placed) (opened : List Entry) (old : Saved) (call : List Deed) (new : Saved) (done : Deeds opened old call new) → IsIn left (versions old) → IsFound left opened old call new done
found_first left opened old [] new d i = i
found_first left opened old (deed ∷ call) new d i = inl i

pub join : DeedsJoin
join opened old mid new [] ys d e =
    subst (λ t. (e : Deeds opened t ys new) → (both : Deeds opened old ys new) × ((left : List Placed) → IsIn left (versions old) ⊎ IsFound left opened t ys new e → IsFound left opened old ys new both)) (sym d)
    (λ e. (e, λ left found. ⊎_elim (λ (i : IsIn left (versions old)). found_first left opened old ys new e i) (λ (i : IsFound left opened old ys new e). i) found)) e
join opened old mid new (x ∷ xs) ys d e =
    let rest = join opened d.0 mid new xs ys d.2 e in (
      (d.0, d.1, rest.0),
      λ left found. ⊎_elim
          (λ (i : IsIn left (versions old) ⊎ IsFound left opened d.0 xs mid d.2). ⊎_elim (λ (j : IsIn left (versions old)). inl j) (λ (j : IsFound left opened d.0 xs mid d.2). inr (rest.1 left (inl j))) i)
          (λ (i : IsFound left opened mid ys new e). inr (rest.1 left (inr i)))
          found,
    )

pub split : DeedsSplit
split opened old new [] ys d = (old, refl, d)
split opened old new (x ∷ xs) ys d = let r = split opened d.0 new xs ys d.2 in (r.0, (d.0, d.1, r.1), r.2)

-- ---- opening again

pub opening : OpeningStarts
opening tables t stands fresh =
    let all : held tables ++ [] ≡ held tables = append-nil (held tables) in
    let falling : (k : Bytes) → IsFalling (of_tables k tables) = λ k. subst (λ es. IsFalling (stack k es)) (joined_map (λ (p : Placed). p.table.entries) tables) (stands.ordered k) in
    let ordered : (k : Bytes) → IsFalling (stack k (held tables ++ [])) = λ k. rw all (falling k) in
    record {
      opens = record {
        journal = fresh.journal;
        number = fresh.number;
        active = fresh.active;
        sealed = fresh.sealed;
        tables = ap held fresh.tables;
        laid = subst IsLaidOut (sym fresh.tables) stands.laid;
        older = fresh.older;
        ordered = ordered;
        single = stands.single;
        starts = λ k. get-shown_by tables k ∙ newest_seen (above (held tables)) (of_tables k tables) (below_above k (held tables))
            ∙ sym (ap (λ es. shown (top k (above (held tables)) es)) all ∙ ap shown (top_first k (above (held tables)) (held tables) (falling k)));
      };
      distinct = subst HasDistinctIds (sym fresh.tables) stands.distinct;
      notes = fresh.notes;
      others = fresh.others;
    }

pub shown_above : ShownAbove
shown_above tables s h = same_map nat_list_cmp_total (slice_cmp-IsAntisymmetric nat_cmp-IsAntisymmetric) (view s (map (λ p. p.table.entries) tables)) (shown_by tables)
    (λ k. get-map_of k s (flat_map (λ (es : List Entry). es) (map (λ p. p.table.entries) tables))
    ∙ ap (λ es. seen s (stack k es)) (joined_map (λ (p : Placed). p.table.entries) tables)
    ∙ sym (newest_seen s (of_tables k tables) (each_weaker _ _ (λ e q. omega arith) (of_tables k tables) (below_above k (held tables))))
    ∙ sym (get-shown_by tables k))

-- no tables stand for a map
pub no_tables_stand : Stands []
no_tables_stand = record { distinct = tt; laid = record { covers = tt; by_level = tt }; ordered = λ k. tt; single = λ k. tt }
