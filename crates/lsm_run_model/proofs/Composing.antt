-- Call by call, from what each does to what holds of the whole run.
use Rattle.std.proofs.Common.{◌≡◌, ⊎_elim, inl, inr, ℕ, zero, suc, ◌≤◌, List, [], ◌∷◌, ◌++◌, map, take, refl, sym, ap, ◌∙◌, subst, append-nil, append_assoc}
use Rattle.std.specs.List.{AllByRecursion}
use Rattle.lsm_below.specs.Entries.{Entry, above}
use Rattle.lsm_below.specs.Members.{IsIn}
use Rattle.lsm_store.specs.World.{Image, World, LeavesOnly}
use Rattle.lsm_model.specs.Journal.{Event, Map, InOrder}
use Rattle.lsm_model.specs.Steps.{State}
use Rattle.lsm_model.specs.Views.{Placed, held, HasDistinctIds}
use Rattle.lsm_model.specs.Soundness.{Soundness}
use Rattle.lsm_model.specs.Beginnings.{Saved, Deed, Done, Lost, Deeds, IsFound, IsBeginning, Recovers, EveryCrashRecovers, DeedsJoin, versions, covered, shown_by}
use Rattle.lsm_model.proofs.Crashes.{deeds_grow}
use Rattle.lsm_run_model.specs.Outcomes.{Told, Past, after, after_all, without_low_reads}
use Rattle.lsm_run_model.specs.Moments.{HoldsBeginning, EachMoment}
use Rattle.lsm_run_model.specs.Composing.{past_of, IsRight, CameAbout, Point, StandsAt, FindsAmong, IsOfEither, DoesCall, EachDoes, TablesShow, AreNumbered, Composed, RunsCompose}
use Rattle.lsm_run_model.proofs.Numbers.{IsSmall, deeds_small, start_small, front_numbered}

-- ---- journals

-- the journal after calls has the one before them at its front
pub journal_grows : {R : Type 0} (opened : List Entry) (past : Past) (told : List (Told R)) → (more : List Event) × ((after_all opened past told).journal ≡ past.journal ++ more)
journal_grows opened past [] = ([], sym (append-nil past.journal))
journal_grows opened past (t ∷ told) =
    let rest = journal_grows opened (after opened past t) told in
    (without_low_reads opened t.entries ++ rest.0, rest.1 ∙ append_assoc past.journal (without_low_reads opened t.entries) rest.0)

-- ---- what is found

first_found : (left : List Placed) (opened : List Entry) (old new : Saved) (ds : List Deed) (done : Deeds opened old ds new) → IsIn left (versions old) → IsFound left opened old ds new done
first_found left opened old new [] done i = i
first_found left opened old new (d ∷ ds) done i = inl i

last_found : (left : List Placed) (opened : List Entry) (old new : Saved) (ds : List Deed) (done : Deeds opened old ds new) → IsIn left (versions new) → IsFound left opened old ds new done
last_found left opened old new [] done i = subst (λ t. IsIn left (versions t)) done i
last_found left opened old new (d ∷ ds) done i = inr (last_found left opened done.0 new ds done.2 i)

in_all : {A : Type 0} (P : A → Type 0) (x : A) (xs : List A) → AllByRecursion P xs → IsIn x xs → P x
in_all P x [] h i = absurd i
in_all P x (y ∷ ys) h i = ⊎_elim (λ (e : y ≡ x). subst P e h.0) (λ (j : IsIn x ys). in_all P x ys h.1 j) i

pub distinct_behind : (opened : List Entry) (ds : List Deed) (old new : Saved) → Deeds opened old ds new → HasDistinctIds old.state.latest.tables → HasDistinctIds new.state.latest.tables
distinct_behind opened [] old new d h = subst (λ t. HasDistinctIds t.state.latest.tables) (sym d) h
distinct_behind opened (Done action ∷ ds) old new d h = distinct_behind opened ds d.0 new d.2 d.1.distinct
distinct_behind opened (Lost action would ∷ ds) old new d h = distinct_behind opened ds d.0 new d.2 (subst (λ (t : State). HasDistinctIds t.latest.tables) (sym d.1.state) h)

weaker : (w w' : World) (P Q : Image → Type 0) → ((i : Image) → P i → Q i) → LeavesOnly w w' P → LeavesOnly w w' Q
weaker w w' P Q f h = record {
  later = h.later;
  each = λ image since. f image (h.each image since);
  before = λ t image low since. ⊎_elim (λ s. inl s) (λ p. inr (f image p)) (h.before t image low since);
}

module _ (theory : Soundness) (opened : List Entry) (start : Map) where
  -- ---- one tree

  came_right : (t : Saved) → CameAbout opened start t → IsRight opened start t
  came_right t c = record {
    holds = theory.kept.deeds opened start c.first c.deeds t c.done c.order (theory.kept.opened opened start c.first.state c.starts.opens);
    distinct = distinct_behind opened c.deeds c.first t c.done c.starts.distinct;
  }

  came_small : (n : ℕ) (t : Saved) → CameAbout opened start t → AreNumbered n opened t.state.journal → IsSmall theory opened start n t
  came_small n t c small =
      deeds_small theory opened start n c.first c.deeds t c.done c.order small (theory.kept.opened opened start c.first.state c.starts.opens)
      (start_small theory opened start n c.first c.starts (record { before = small.before; written = tt }))

module _ (theory : Soundness) (crashes : EveryCrashRecovers) (join : DeedsJoin) {F : Type 0} (Finds : Image → List Placed → Type 0) (Shows : Image → Map → Type 0) (world : F → World) (opened : List Entry) (start : Map) (n : ℕ) (show : TablesShow Finds Shows n) where
  -- ---- one call

  module _ {R : Type 0} (told : Told R) (old new : Point F) (c : CameAbout opened start old.tree) (d : DoesCall Finds world opened told old new) (order : InOrder opened new.tree.state.journal) (small : AreNumbered n opened new.tree.state.journal) where
    abbrev next : Past
    next = after opened (past_of old.tree) told

    came_on : CameAbout opened start new.tree
    came_on = record { first = c.first; starts = c.starts; deeds = c.deeds ++ d.deeds; done = (join opened c.first old.tree new.tree c.deeds d.deeds c.done d.done).0; order = order }

    old_small : IsSmall theory opened start n old.tree
    old_small =
        let g = deeds_grow opened old.tree d.deeds new.tree d.done in
        came_small theory opened start n old.tree c (front_numbered theory opened start n old.tree.state.journal g.more new.tree.state.journal g.journal small)

    holds : (least : ℕ) (image : Image) (tables : List Placed) → Finds image tables → Recovers start new.tree.state.journal new.tree.notes least tables → above (held tables) ≤ n → HoldsBeginning Shows start next least image
    holds least image tables found r low = record {
      map = shown_by tables;
      shows = show image tables found r.stands low;
      begins = subst (λ (p : Past). IsBeginning start p.journal p.notes least (shown_by tables)) d.past r.begins;
    }

    inside : (image : Image) → FindsAmong Finds (IsOfEither old.tree new.tree) image → HoldsBeginning Shows start next (covered old.tree.notes) image
    inside image h =
        let tables = h.0 in
        let found = ⊎_elim (λ i. first_found tables opened old.tree new.tree d.deeds d.done i) (λ i. last_found tables opened old.tree new.tree d.deeds d.done i) h.2 in
        let low : above (held tables) ≤ n = ⊎_elim (λ (i : IsIn tables (versions old.tree)). in_all (λ ts. above (held ts) ≤ n) tables (versions old.tree) old_small i) (λ (i : IsIn tables (versions new.tree)). in_all (λ ts. above (held ts) ≤ n) tables (versions new.tree) (came_small theory opened start n new.tree came_on small) i) h.2 in
        holds (covered old.tree.notes) image tables h.1 (crashes opened start c.first old.tree new.tree c.deeds d.deeds c.starts c.done d.done order tables found) low

  -- what a crash leaves of a tree that stands so
  standing : (p : Point F) → StandsAt Finds world opened start p → AreNumbered n opened p.tree.state.journal
      → (image : Image) → FindsAmong Finds (λ tables. IsIn tables (versions p.tree)) image → HoldsBeginning Shows start (past_of p.tree) (covered p.tree.notes) image
  standing p s small image h =
      let c = s.came in
      let tables = h.0 in
      let r = crashes opened start c.first p.tree p.tree c.deeds [] c.starts c.done refl c.order tables h.2 in
      record {
        map = shown_by tables;
        shows = show image tables h.1 r.stands (in_all (λ ts. above (held ts) ≤ n) tables (versions p.tree) (came_small theory opened start n p.tree c small) h.2);
        begins = r.begins;
      }

  -- ---- all of them

  compose : {R : Type 0} (told : List (Told R)) (old : Point F) (points : List (Point F)) → StandsAt Finds world opened start old → EachDoes Finds world opened start told old points
      → InOrder opened (after_all opened (past_of old.tree) told).journal → AreNumbered n opened (after_all opened (past_of old.tree) told).journal → Composed Finds Shows world opened start told old points
  compose [] old [] s each order small = record { moments = λ image since. standing old s small image (s.now image since); right = (came_right theory opened start old.tree s.came, tt); stands = s; past = refl }
  compose [] old (new ∷ points) s each order small = absurd each
  compose (t ∷ told) old [] s each order small = absurd each
  compose (t ∷ told) old (new ∷ points) s each order small =
      let c = s.came in
      let next : Past = after opened (past_of old.tree) t in
      let g = journal_grows opened next told in
      let h = journal_grows opened (past_of old.tree) (t ∷ told) in
      let here : InOrder opened next.journal = theory.kept.front opened next.journal g.0 (subst (InOrder opened) g.1 order) in
      let low : AreNumbered n opened next.journal = front_numbered theory opened start n next.journal g.0 (after_all opened next told).journal g.1 small in
      let before : AreNumbered n opened old.tree.state.journal = front_numbered theory opened start n old.tree.state.journal h.0 (after_all opened (past_of old.tree) (t ∷ told)).journal h.1 small in
      let d = each.0 (came_right theory opened start old.tree c) here in
      let order' : InOrder opened new.tree.state.journal = subst (λ (p : Past). InOrder opened p.journal) (sym d.past) here in
      let small' : AreNumbered n opened new.tree.state.journal = subst (λ (p : Past). AreNumbered n opened p.journal) (sym d.past) low in
      let rest = compose told new points (record { came = came_on t old new c d order' small'; now = d.now }) each.1
      (subst (λ (p : Past). InOrder opened (after_all opened p told).journal) (sym d.past) order)
      (subst (λ (p : Past). AreNumbered n opened (after_all opened p told).journal) (sym d.past) small) in
      record {
        moments = (
          (λ image since. standing old s before image (s.now image since)),
          weaker (world old.store) (world new.store) _ _ (inside t old new c d order' small') d.inside,
          subst (λ (p : Past). EachMoment Shows world opened start p told new.store (map (λ q. q.store) points)) d.past rest.moments,
        );
        right = (came_right theory opened start old.tree c, rest.right);
        stands = rest.stands;
        past = rest.past ∙ ap (λ (p : Past). after_all opened p told) d.past;
      }

  -- what each call does, the first ones do
  does_front : {R : Type 0} (many : ℕ) (told : List (Told R)) (old : Point F) (points : List (Point F)) → EachDoes Finds world opened start told old points → EachDoes Finds world opened start (take many told) old (take many points)
  does_front zero told old points each = tt
  does_front (suc many) [] old [] each = tt
  does_front (suc many) [] old (new ∷ points) each = absurd each
  does_front (suc many) (t ∷ told) old [] each = absurd each
  does_front (suc many) (t ∷ told) old (new ∷ points) each = (each.0, does_front many told new points each.1)

pub runs_compose : Soundness → EveryCrashRecovers → DeedsJoin → {F : Type 0} (R : Type 0) (Finds : Image → List Placed → Type 0) (Shows : ℕ → Image → Map → Type 0) (world : F → World) → RunsCompose R Finds Shows world
runs_compose theory crashes join R Finds Shows world opened start n told first points show stands each many small order =
    compose theory crashes join Finds (Shows n) world opened start n show (take many told) first (take many points) stands
    (does_front theory crashes join Finds (Shows n) world opened start n show many told first points each) order small
