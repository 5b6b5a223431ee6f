-- Opening, each step, and so each run.
use Rattle.std.proofs.Common.{◌≡◌, ℕ, ◌<◌, ◌≤◌, Bool, true, false, cond, List, [], ◌∷◌, ◌++◌, find, filter, Option, Some, None, map, refl, sym, ap, ◌∙◌, subst, arith, flat_map, ltb, le-ltb, eqb, eqb-true, append_assoc, is_some, append-nil, ap₂, ⊎_elim}
use Rattle.std.specs.List.{AllByRecursion}
use Rattle.std.specs.FinMap.{get}
use Rattle.std.proofs.lemmas.Grind.{flat_map-append}
use Rattle.std.proofs.lemmas.Bool.{eqb-false}
use Rattle.lsm_below.specs.Keys.{Bytes, is_same}
use Rattle.lsm_below.specs.Ranges.{Range}
use Rattle.lsm_below.specs.Entries.{Entry, above, stack, top, IsFalling, IsOrdered, entry_cmp}
use Rattle.lsm_below.specs.Sorted.{put}
use Rattle.lsm_model.specs.Journal.{Event, answer, Agrees, ReadAgrees, is_outside, value_after, Map, replay, replay_at, is_kept, InOrder, next_number, next_number_after, MayWrite, cut}
use Rattle.lsm_model.specs.Views.{view, found_at, front, view_at, shown, seen, Memtables, Placed, SuperVersion, sources, entries, lookup, maintained, ranges_of, held, pushed, written, answered}
use Rattle.lsm_model.specs.Steps.{State, history, among, Action, Wrote, Rotated, Flushed, Merged, Moved, DroppedTables, Cleared, Marked, LostDrop, Asked, Maintained, Step, Run, IsCommit, IsFlush, IsMerge, IsMove, IsMaintained, IsOpened, ReadsEqualReplay, EveryRunReadsRight, IsWrite}
use Rattle.lsm_model.specs.Sound.{FitsAt, IsSound, Holds}
use Rattle.lsm_model.specs.declared.journal.JournalEntry.TheVariants.{Write, Clear, Install, Dropped, Mark, Read}
use Rattle.lsm_model.specs.declared.question.Question.{Question}
use Rattle.lsm_model.specs.declared.question.Question.TheVariants.{Get, Between, Prefix}
use Rattle.lsm_model.specs.declared.question.Answer.TheVariants.{Found}
use Rattle.lsm_below.specs.Each.{each_weaker, each_both, each_left}
use Rattle.lsm_model.proofs.Lists.{fold_push, each_found}
use Rattle.lsm_model.proofs.Stacks.{stack-append, falling_right, falling_sub, seen_first, seen_past, top_first, walk_top}
use Rattle.std.proofs.Math.Bool.{and-false}
use Rattle.lsm_model.proofs.Journals.{get-replay, above_stack, in_order_last, in_order_front}
use Rattle.lsm_model.proofs.Sound.{write_sound}
use Rattle.lsm_model.proofs.Installs.{maintained_cases, same_sound, ShowsSame, rotate_sound, lookup_latest}
use Rattle.lsm_model.proofs.Commits.{sub_filter, flush_same, merge_same, move_same, dropped_sound, cleared_sound, note_sound, mark_note, read_note, lost_note, forgotten_sound, some_still, IsNote}
use Rattle.lsm_model.proofs.Answers.{answers_agree, get-map_of, agrees_push}
use Rattle.lsm_model.proofs.Puts.{put_stack}

pub joined_map : {A : Type 0} (f : A → List Entry) (xs : List A) → flat_map (λ (es : List Entry). es) (map f xs) ≡ flat_map f xs
joined_map f [] = refl
joined_map f (x ∷ xs) = ap (λ es. f x ++ es) (joined_map f xs)

-- the sources' entries, one source after the other
pub joined_sources : (mems : Memtables) (sv : SuperVersion) → flat_map (λ (es : List Entry). es) (sources mems sv) ≡ entries mems sv
joined_sources mems sv =
    flat_map-append (λ (es : List Entry). es) (map mems (sv.active ∷ sv.sealed)) (map (λ p. p.table.entries) sv.tables)
    ∙ ap₂ (λ (xs ys : List Entry). xs ++ ys) (joined_map mems (sv.active ∷ sv.sealed)) (joined_map (λ (p : Placed). p.table.entries) sv.tables)

pub each_above : (es : List Entry) → AllByRecursion (λ e. e.key.seqno < above es) es
each_above [] = tt
each_above (e ∷ es) = (omega arith, each_weaker _ _ (λ f q. omega arith) es (each_above es))

-- above all sequence numbers it is all one
seen_all : (s t : ℕ) (es : List Entry) → AllByRecursion (λ e. e.key.seqno < s) es → AllByRecursion (λ e. e.key.seqno < t) es → seen s es ≡ seen t es
seen_all s t [] h q = refl
seen_all s t (e ∷ es) h q = seen_first s e es h.0 ∙ sym (seen_first t e es q.0)

pub opened_sound : (opened : List Entry) (start : Map) (t : State) → IsOpened opened start t → IsSound opened (get start) [] t.mems t.latest []
opened_sound opened start t o =
    let is : entries t.mems t.latest ≡ opened = rw (o.active, o.sealed) o.tables in
    let all : opened ++ [] ≡ opened = append-nil opened in
    let falls : (k : Bytes) → IsFalling (stack k opened) = λ k. rw all at (o.ordered k) in
    record {
      right = λ k s sv low out found.
          let low_all = each_weaker _ _ (λ e q. let a = above_stack k opened in omega arith) (stack k opened) (each_above (stack k opened)) in
          let high_all = each_weaker _ _ (λ e q. let a = above_stack k opened in omega arith) (stack k opened) (each_above (stack k opened)) in
          let here : seen s (stack k (entries t.mems t.latest)) ≡ get start k = ap (λ es. seen s (stack k es)) is ∙ seen_all s (above opened) (stack k opened) low_all high_all
          ∙ sym (o.starts k ∙ ap (λ es. shown (top k (above opened) es)) all ∙ ap shown (top_first k (above opened) opened (falls k))) in
          each_found (λ v. seen s (stack k (entries t.mems v)) ≡ get start k) (λ v. ltb v.number s) (t.latest ∷ []) sv (here, tt) found;
      fits = λ k. (rw is (record { falling = falls k; below = each_above (stack k opened); single = o.single k; few = omega arith }), tt);
      ids = ((omega arith, rw o.sealed tt), tt);
      recent = let n = o.number in omega arith;
      kept = λ s pos k. let n = o.number in ap is_some (lookup_latest s t.latest [] (omega arith));
    }

-- ---- snapshot 0 reaches nothing

pub seen_zero : (s : ℕ) (es : List Entry) → s ≡ 0 → seen s es ≡ None
seen_zero s [] z = refl
seen_zero s (e ∷ es) z = seen_past s e es (omega arith) ∙ seen_zero s es z

value_zero : (k : Bytes) (s : ℕ) (v : Option Bytes) (x : Event) → s ≡ 0 → value_after k s v x ≡ v
value_zero k s v (Write e) z = rw (le-ltb e.key.seqno s (omega arith), and-false (is_same k e.key.user_key)) refl
value_zero k s v (Clear n) z = rw (le-ltb n s (omega arith)) refl
value_zero k s v (Install n) z = refl
value_zero k s v (Dropped ranges n) z = refl
value_zero k s v (Mark w) z = refl
value_zero k s v (Read at question told) z = refl

replay_zero : (k : Bytes) (s : ℕ) (v : Option Bytes) (journal : List Event) → s ≡ 0 → replay_at k s v journal ≡ v
replay_zero k s v [] z = refl
replay_zero k s v (x ∷ journal) z = ap (λ w. replay_at k s w journal) (value_zero k s v x z) ∙ replay_zero k s v journal z

start_none : (opened : List Entry) (k : Bytes) → above opened ≡ 0 → view_at k (above opened) (opened ∷ []) ≡ None
start_none [] k z = refl
start_none (e ∷ es) k z = absurd (omega arith)

-- ---- each step

-- the view of a super version, at a key
pub get-view : (k : Bytes) (s : ℕ) (mems : Memtables) (sv : SuperVersion) → get (view s (sources mems sv)) k ≡ seen s (stack k (entries mems sv))
get-view k s mems sv = get-map_of k s (flat_map (λ (es : List Entry). es) (sources mems sv)) ∙ ap (λ es. seen s (stack k es)) (joined_sources mems sv)

pub view_right : (opened : List Entry) (start : Map) (t : State) → Holds opened start t → (s : ℕ) (sv : SuperVersion) → above opened ≤ s → found_at s t.latest t.older ≡ Some sv → (k : Bytes) → is_outside k s t.journal ≡ true → get (view s (sources t.mems sv)) k ≡ get (replay start t.journal s) k
view_right opened start t h s sv low found k out =
    get-view k s t.mems sv
    ∙ (elim (eqb s 0) as (λ b. eqb s 0 ≡ b → cond b (Some (front t.latest t.older)) (lookup s (history t)) ≡ Some sv → seen s (stack k (entries t.mems sv)) ≡ replay_at k s (get start k) t.journal) [
      | true ↦ λ z f. let is : s ≡ 0 = eqb-true s 0 z in
          seen_zero s (stack k (entries t.mems sv)) is ∙ sym (replay_zero k s (get start k) t.journal is ∙ h.zero k (omega arith))
      | false ↦ λ z f. h.sound.right k s sv low out f
    ] refl found)
    ∙ sym (get-replay s start t.journal k)

pub reads_right : (opened : List Entry) (start : Map) (t : State) → Holds opened start t → ReadsEqualReplay opened start t
reads_right opened start t h =
    let falls : (k : Bytes) → AllByRecursion (λ sv. IsFalling (stack k (flat_map (λ (es : List Entry). es) (sources t.mems sv)))) (history t) = λ k.
    each_weaker (FitsAt opened t.journal t.mems k) _ (λ sv f. rw (joined_sources t.mems sv) f.falling) (history t) (h.sound.fits k) in
    record {
      ordered = for_each (λ k sv. IsFalling (stack k (flat_map (λ (es : List Entry). es) (sources t.mems sv)))) (history t) falls;
      views = view_right opened start t h;
      answered = λ s kept. elim (eqb s 0) as (λ b. eqb s 0 ≡ b → is_some (cond b (Some (front t.latest t.older)) (lookup s (history t))) ≡ true) [
        | true ↦ λ z. refl
        | false ↦ λ z. ⊎_elim (λ (n : s ≡ 0). absurd (eqb-false s 0 z n)) (λ (is : is_kept s t.journal ≡ true). h.sound.kept s (positive s z) is) kept
      ] refl;
      agrees = h.agrees;
      tops = λ k s. each_weaker _ _ (λ sv f. get-map_of k s (flat_map (λ (es : List Entry). es) (sources t.mems sv)) ∙ ap shown (sym (top_first k s (flat_map (λ (es : List Entry). es) (sources t.mems sv)) f))) (history t) (falls k);
      walks = λ k s. each_weaker _ _ (λ sv f. walk_top k s (sources t.mems sv) f) (history t) (falls k);
    }
  where
    for_each : {K A : Type 0} (P : K → A → Type 0) (xs : List A) → ((k : K) → AllByRecursion (P k) xs) → AllByRecursion (λ x. (k : K) → P k x) xs
    for_each P [] h = tt
    for_each P (x ∷ xs) h = (λ k. (h k).0, for_each P xs (λ k. (h k).1))

    positive : (s : ℕ) → eqb s 0 ≡ false → 0 < s
    positive s z = let n = eqb-false s 0 z in omega arith

-- memtables that show the same in every super version will do as well
remembered : (opened : List Entry) (start : Bytes → Option Bytes) (journal : List Event) (mems other : Memtables) (latest : SuperVersion) (older : List SuperVersion) → ((k : Bytes) → AllByRecursion (λ sv. stack k (entries other sv) ≡ stack k (entries mems sv)) (latest ∷ older)) → IsSound opened start journal mems latest older → IsSound opened start journal other latest older
remembered opened start journal mems other latest older same sound = record {
  right = λ k s sv low out found. ap (seen s) (each_found (λ v. stack k (entries other v) ≡ stack k (entries mems v)) (λ v. ltb v.number s) (latest ∷ older) sv (same k) found) ∙ sound.right k s sv low out found;
  fits = λ k. each_both (λ v. stack k (entries other v) ≡ stack k (entries mems v)) (FitsAt opened journal mems k) (FitsAt opened journal other k) (λ sv e f. rw e f) (latest ∷ older) (same k) (sound.fits k);
  ids = sound.ids;
  recent = sound.recent;
  kept = sound.kept;
}

stack_ids : (k : Bytes) (f g : Memtables) → ((i : ℕ) → stack k (f i) ≡ stack k (g i)) → (ids : List ℕ) → stack k (flat_map f ids) ≡ stack k (flat_map g ids)
stack_ids k f g h [] = refl
stack_ids k f g h (i ∷ ids) = stack-append k (f i) (flat_map f ids) ∙ ap₂ (λ (xs ys : List Entry). xs ++ ys) (h i) (stack_ids k f g h ids) ∙ sym (stack-append k (g i) (flat_map g ids))

-- memtables are told by their keys' entries
pub stack_entries : (k : Bytes) (f g : Memtables) → ((i : ℕ) → stack k (f i) ≡ stack k (g i)) → (sv : SuperVersion) → stack k (entries f sv) ≡ stack k (entries g sv)
stack_entries k f g h sv =
    stack-append k (flat_map f (sv.active ∷ sv.sealed)) (held sv.tables) ∙ ap (λ es. es ++ stack k (held sv.tables)) (stack_ids k f g h (sv.active ∷ sv.sealed)) ∙ sym (stack-append k (flat_map g (sv.active ∷ sv.sealed)) (held sv.tables))

pub each_always : {A : Type 0} (P : A → Type 0) → ((x : A) → P x) → (xs : List A) → AllByRecursion P xs
each_always P f [] = tt
each_always P f (x ∷ xs) = (f x, each_always P f xs)

-- the same sources, the same entries
pub same_sources : (k : Bytes) (f g : Memtables) (sv : SuperVersion) → sources f sv ≡ sources g sv → stack k (entries f sv) ≡ stack k (entries g sv)
same_sources k f g sv e = ap (stack k) (sym (joined_sources f sv) ∙ ap (flat_map (λ (es : List Entry). es)) e ∙ joined_sources g sv)

-- a write in order comes before all entries of its key
pub written_pushed : (opened : List Entry) (start : Map) (old : State) (e : Entry) → MayWrite opened old.journal e → Holds opened start old → (k : Bytes) (i : ℕ) → stack k (written old.mems old.latest.active e i) ≡ stack k (pushed old.mems old.latest.active e i)
written_pushed opened start old e may h k i =
    let a = old.latest.active in
    let q = e.key.user_key in
    let here = (h.sound.fits q).0.below in
    let parts : stack q (entries old.mems old.latest) ≡ (stack q (old.mems a) ++ stack q (flat_map old.mems old.latest.sealed)) ++ stack q (held old.latest.tables) =
    stack-append q (old.mems a ++ flat_map old.mems old.latest.sealed) (held old.latest.tables) ∙ ap (λ es. es ++ stack q (held old.latest.tables)) (stack-append q (old.mems a) (flat_map old.mems old.latest.sealed)) in
    let all : AllByRecursion (λ f. f.key.seqno < e.key.seqno) (stack q (entries old.mems old.latest)) = each_weaker _ _ (λ f l. let n = may.after_own in omega arith) _ here in
    let there : AllByRecursion (λ f. f.key.seqno < e.key.seqno) (stack q (old.mems a)) = each_left _ (stack q (old.mems a)) _ (each_left _ _ (stack q (held old.latest.tables)) (rw parts at all)) in
    elim (eqb i a) as (λ b. eqb i a ≡ b → stack k (cond b (put entry_cmp e (old.mems i)) (old.mems i)) ≡ stack k (cond b (e ∷ old.mems i) (old.mems i))) [
      | true ↦ λ z. put_stack k e (old.mems i) (subst (λ j. AllByRecursion (λ f. f.key.seqno < e.key.seqno) (stack q (old.mems j))) (sym (eqb-true i a z)) there)
      | false ↦ λ z. refl
    ] refl

pub write_pushed : (opened : List Entry) (start : Map) (old new : State) (e : Entry) → IsWrite e old new → InOrder opened new.journal → Holds opened start old → (k : Bytes) (i : ℕ) → stack k (new.mems i) ≡ stack k (pushed old.mems old.latest.active e i)
write_pushed opened start old new e m o h k i = m.mems k i ∙ written_pushed opened start old e (in_order_last opened old.journal (Write e) (rw m.journal at o)) h k i

-- what a read answers is the answer of the view
each_front : (P : SuperVersion → Type 0) (latest : SuperVersion) (older : List SuperVersion) → AllByRecursion P (latest ∷ older) → P (front latest older)
each_front P latest [] h = h.0
each_front P latest (sv ∷ older) h = each_front P sv older h.1

-- the super version that a snapshot finds stands in the history
front_there : (latest : SuperVersion) (older : List SuperVersion) → (newer : List SuperVersion) × (rest : List SuperVersion) × (latest ∷ older ≡ newer ++ front latest older ∷ rest)
front_there latest [] = ([], [], refl)
front_there latest (sv ∷ older) = let r = front_there sv older in (latest ∷ r.0, r.1, ap (λ l. latest ∷ l) r.2)

find_there : (t : SuperVersion → Bool) (history : List SuperVersion) (sv : SuperVersion) → find t history ≡ Some sv → (newer : List SuperVersion) × (rest : List SuperVersion) × (history ≡ newer ++ sv ∷ rest)
find_there t [] sv h = absurd (cc h)
find_there t (v ∷ history) sv h = elim (t v) as (λ b. cond b (Some v) (find t history) ≡ Some sv → (newer : List SuperVersion) × (rest : List SuperVersion) × (v ∷ history ≡ newer ++ sv ∷ rest)) [
  | true ↦ λ q. let is : v ≡ sv = cc q in ([], history, ap (λ w. w ∷ history) is)
  | false ↦ λ q. let r = find_there t history sv q in (v ∷ r.0, r.1, ap (λ l. v ∷ l) r.2)
] h

pub found_there : (s : ℕ) (latest : SuperVersion) (older : List SuperVersion) (sv : SuperVersion) → found_at s latest older ≡ Some sv → (newer : List SuperVersion) × (rest : List SuperVersion) × (latest ∷ older ≡ newer ++ sv ∷ rest)
found_there s latest older sv found =
    elim (eqb s 0) as (λ b. cond b (Some (front latest older)) (lookup s (latest ∷ older)) ≡ Some sv → (newer : List SuperVersion) × (rest : List SuperVersion) × (latest ∷ older ≡ newer ++ sv ∷ rest)) [
      | true ↦ λ f. let is : front latest older ≡ sv = cc f in subst (λ v. (newer : List SuperVersion) × (rest : List SuperVersion) × (latest ∷ older ≡ newer ++ v ∷ rest)) is (front_there latest older)
      | false ↦ λ f. find_there (λ v. ltb v.number s) (latest ∷ older) sv f
    ] found

pub each_found_at : (P : SuperVersion → Type 0) (s : ℕ) (latest : SuperVersion) (older : List SuperVersion) (sv : SuperVersion) → found_at s latest older ≡ Some sv → AllByRecursion P (latest ∷ older) → P sv
each_found_at P s latest older sv found h =
    elim (eqb s 0) as (λ b. cond b (Some (front latest older)) (lookup s (latest ∷ older)) ≡ Some sv → P sv) [
      | true ↦ λ f. let q : front latest older ≡ sv = cc f in subst P q (each_front P latest older h)
      | false ↦ λ f. each_found P (λ v. ltb v.number s) (latest ∷ older) sv h f
    ] found

pub answered_view : (opened : List Entry) (start : Map) (t : State) → Holds opened start t → (s : ℕ) (sv : SuperVersion) → found_at s t.latest t.older ≡ Some sv → (question : Question) → answered s (sources t.mems sv) question ≡ answer (view s (sources t.mems sv)) question
answered_view opened start t h s sv found (Get k) =
    let r = reads_right opened start t h in
    let walks = each_found_at _ s t.latest t.older sv found (r.walks k s) in
    let tops = each_found_at _ s t.latest t.older sv found (r.tops k s) in
    ap Found (ap shown walks ∙ sym tops)
answered_view opened start t h s sv found (Between low high) = refl
answered_view opened start t h s sv found (Prefix p) = refl

-- a commit, from what its new super version keeps
committed : (opened : List Entry) (start : Map) (events : List Event) (old new : State) → IsCommit events old new → IsSound opened (get start) (old.journal ++ events) old.mems new.latest (old.latest ∷ old.older) → Agrees start (old.journal ++ events) → Holds opened start old → Holds opened start new
committed opened start events old new c s a h = record { sound = rw (c.journal, c.mems, c.older) s; laid = c.laid; agrees = rw c.journal a; zero = h.zero }

noted : (opened : List Entry) (start : Map) (old : State) (x : Event) → IsNote x → ReadAgrees start old.journal x → Holds opened start old → Holds opened start (record { journal = old.journal ++ x ∷ []; mems = old.mems; latest = old.latest; older = old.older })
noted opened start old x note a h = record { sound = note_sound opened (get start) old.journal old.mems old.latest old.older x note h.sound; laid = h.laid; agrees = agrees_push start old.journal x h.agrees a; zero = h.zero }

-- what order says of a commit's sequence number
number_of : (opened : List Entry) (old new : State) → IsCommit (Install new.latest.number ∷ []) old new → InOrder opened new.journal → next_number opened old.journal ≤ new.latest.number
number_of opened old new c o = in_order_last opened old.journal (Install new.latest.number) (rw c.journal at o)

drop_number_of : (opened : List Entry) (ranges : List Range) (old new : State) → IsCommit (Dropped ranges new.latest.number ∷ (Install new.latest.number ∷ [])) old new → InOrder opened new.journal → next_number opened old.journal ≤ new.latest.number
drop_number_of opened ranges old new c o =
    let n = new.latest.number in
    let p : InOrder opened ((old.journal ++ Dropped ranges n ∷ []) ++ Install n ∷ []) = rw (append_assoc old.journal (Dropped ranges n ∷ []) (Install n ∷ [])) (rw c.journal at o) in
    let q = in_order_last opened (old.journal ++ Dropped ranges n ∷ []) (Install n) p in
    rw (fold_push next_number_after (above opened) old.journal (Dropped ranges n)) at q

-- in a tree that reads right sequence numbers fall
pub latest_ordered : (opened : List Entry) (start : Map) (t : State) → Holds opened start t → IsOrdered (sources t.mems t.latest)
latest_ordered opened start t h k = subst (λ es. IsFalling (stack k es)) (sym (joined_sources t.mems t.latest)) (h.sound.fits k).0.falling

pub flushed : (opened : List Entry) (start : Map) (old : State) (w : ℕ) (job : List ℕ) (made : List Placed) (new : State) → IsFlush w job made old new → InOrder opened new.journal → Holds opened start old → ShowsSame opened old.journal old.mems old.latest new.latest
flushed opened start old w job made new m o h = flush_same opened (get start) old.journal old.mems old.latest old.older new.latest w job made (number_of opened old new m.commit o) m.commit.active m.sealed h.laid m.covers m.commit.laid m.placed (m.kept (latest_ordered opened start old h)) h.sound

pub merged : (opened : List Entry) (start : Map) (old : State) (w d : ℕ) (ids : List ℕ) (evict : Bool) (made : List Placed) (new : State) → IsMerge w d ids evict made old new → InOrder opened new.journal → Holds opened start old → ShowsSame opened old.journal old.mems old.latest new.latest
merged opened start old w d ids evict made new m o h = merge_same opened (get start) old.journal old.mems old.latest old.older new.latest w d (among ids) evict made (number_of opened old new m.commit o) m.commit.active m.sealed h.laid m.covers m.commit.laid m.allowed m.placed (m.kept (latest_ordered opened start old h)) h.sound

pub moved : (opened : List Entry) (start : Map) (old : State) (d : ℕ) (ids : List ℕ) (placed : List Placed) (new : State) → IsMove d ids placed old new → InOrder opened new.journal → Holds opened start old → ShowsSame opened old.journal old.mems old.latest new.latest
moved opened start old d ids placed new m o h = move_same opened (get start) old.journal old.mems old.latest old.older new.latest d (among ids) placed (number_of opened old new m.commit o) m.commit.active m.sealed h.laid m.covers m.commit.laid m.allowed m.placed m.same h.sound

same_holds : (opened : List Entry) (start : Map) (old new : State) → IsCommit (Install new.latest.number ∷ []) old new → ShowsSame opened old.journal old.mems old.latest new.latest → Holds opened start old → Holds opened start new
same_holds opened start old new c m h =
    committed opened start (Install new.latest.number ∷ []) old new c (same_sound opened (get start) old.journal old.mems old.latest old.older new.latest m h.sound) (agrees_push start old.journal (Install new.latest.number) h.agrees tt) h

-- kept snapshots are answered by what is left
maintained_kept : (opened : List Entry) (start : Map) (old : State) (w : ℕ) (new : State) → IsMaintained w old new → Holds opened start old → (s : ℕ) → 0 < s → is_kept s old.journal ≡ true → is_some (lookup s (history new)) ≡ true
maintained_kept opened start old w new m h s pos is =
    let there : is_some (lookup s (maintained w (history old))) ≡ true = rw (maintained_cases s w (history old) (m.marked s is)) (h.sound.kept s pos is) in
    subst (λ svs. is_some (lookup s svs) ≡ true) (sym m.holds) (some_still s (maintained w (history old)) m.still there)

pub step_holds : (opened : List Entry) (start : Map) (old : State) (action : Action) (new : State) → Step opened old action new → InOrder opened new.journal → Holds opened start old → Holds opened start new
step_holds opened start old (Wrote e) new m o h =
    record {
      sound = rw (m.journal, m.latest, m.older) (remembered opened (get start) (old.journal ++ Write e ∷ []) (pushed old.mems old.latest.active e) new.mems old.latest old.older
          (λ k. each_always _ (stack_entries k new.mems (pushed old.mems old.latest.active e) (write_pushed opened start old new e m o h k)) (old.latest ∷ old.older))
          (write_sound opened (get start) old.journal old.mems old.latest old.older e (in_order_last opened old.journal (Write e) (rw m.journal at o)) h.sound));
      laid = rw m.latest h.laid;
      agrees = rw m.journal (agrees_push start old.journal (Write e) h.agrees tt);
      zero = h.zero;
    }
step_holds opened start old (Rotated a) new m o h =
    subst (Holds opened start) (sym m.1) (record { sound = rotate_sound opened (get start) old.journal old.mems old.latest old.older a m.0 h.sound; laid = h.laid; agrees = h.agrees; zero = h.zero })
step_holds opened start old (Flushed w job made) new m o h = same_holds opened start old new m.commit (flushed opened start old w job made new m o h) h
step_holds opened start old (Merged w d ids evict made) new m o h = same_holds opened start old new m.commit (merged opened start old w d ids evict made new m o h) h
step_holds opened start old (Moved d ids placed) new m o h = same_holds opened start old new m.commit (moved opened start old d ids placed new m o h) h
step_holds opened start old (DroppedTables ids) new m o h =
    let ranges = ranges_of (among ids) old.latest.tables in
    let n = new.latest.number in
    committed opened start (Dropped ranges n ∷ (Install n ∷ [])) old new m.commit (dropped_sound opened (get start) old.journal old.mems old.latest old.older new.latest (among ids) (drop_number_of opened ranges old new m.commit o) m.commit.active m.sealed h.laid m.commit.laid m.placed h.sound)
    (subst (Agrees start) (append_assoc old.journal (Dropped ranges n ∷ []) (Install n ∷ [])) (agrees_push start (old.journal ++ Dropped ranges n ∷ []) (Install n) (agrees_push start old.journal (Dropped ranges n) h.agrees tt) tt)) h
step_holds opened start old (Cleared n a) new m o h =
    subst (Holds opened start) (sym m.1) (record { sound = cleared_sound opened (get start) old.journal old.mems old.latest old.older n a m.0 h.sound; laid = record { covers = tt; by_level = tt }; agrees = agrees_push start old.journal (Clear n) h.agrees tt; zero = h.zero })
step_holds opened start old (Marked w) new m o h = subst (Holds opened start) (sym m) (noted opened start old (Mark w) (mark_note w) tt h)
step_holds opened start old (LostDrop ranges n) new m o h = subst (Holds opened start) (sym m) (noted opened start old (Dropped ranges n) (lost_note ranges n) tt h)
step_holds opened start old (Asked s question) new m o h =
    let told = answered s (sources old.mems m.0) question in
    subst (Holds opened start) (sym m.3) (noted opened start old (Read s question told) (read_note s question told)
    (ap (cut (λ k. is_outside k s old.journal) question) (answered_view opened start old h s m.0 m.2 question)
    ∙ answers_agree (view s (sources old.mems m.0)) (replay start old.journal s) (λ k. is_outside k s old.journal) (view_right opened start old h s m.0 m.1 m.2) question) h)
step_holds opened start old (Maintained w) new m o h =
    let first : old.latest ≡ new.latest = cc m.was in
    let rest : old.older ≡ new.older ++ m.removed = cc m.was in
    let before : IsSound opened (get start) old.journal old.mems new.latest (new.older ++ m.removed) = subst (λ svs. IsSound opened (get start) old.journal old.mems new.latest svs) rest (subst (λ sv. IsSound opened (get start) old.journal old.mems sv old.older) first h.sound) in
    record {
      sound = rw m.journal (remembered opened (get start) old.journal old.mems new.mems new.latest new.older
          (λ k. each_weaker (λ sv. sources new.mems sv ≡ sources old.mems sv) (λ sv. stack k (entries new.mems sv) ≡ stack k (entries old.mems sv)) (λ sv e. same_sources k new.mems old.mems sv e) (history new) m.mems)
          (forgotten_sound opened (get start) old.journal old.mems new.latest new.older m.removed (maintained_kept opened start old w new m h) before));
      laid = rw (← first) h.laid;
      agrees = rw m.journal h.agrees;
      zero = h.zero;
    }

-- journals only grow
pub step_grows : (opened : List Entry) (old : State) (action : Action) (new : State) → Step opened old action new → (more : List Event) × (new.journal ≡ old.journal ++ more)
step_grows opened old (Wrote e) new m = (Write e ∷ [], m.journal)
step_grows opened old (Rotated a) new m = ([], ap (λ (t : State). t.journal) m.1 ∙ sym (append-nil old.journal))
step_grows opened old (Flushed w job made) new m = (_, m.commit.journal)
step_grows opened old (Merged w d ids evict made) new m = (_, m.commit.journal)
step_grows opened old (Moved d ids placed) new m = (_, m.commit.journal)
step_grows opened old (DroppedTables ids) new m = (_, m.commit.journal)
step_grows opened old (Cleared n a) new m = (Clear n ∷ [], ap (λ (t : State). t.journal) m.1)
step_grows opened old (Marked w) new m = (Mark w ∷ [], ap (λ (t : State). t.journal) m)
step_grows opened old (LostDrop ranges n) new m = (Dropped ranges n ∷ [], ap (λ (t : State). t.journal) m)
step_grows opened old (Asked s question) new m = (_, ap (λ (t : State). t.journal) m.3)
step_grows opened old (Maintained w) new m = ([], m.journal ∙ sym (append-nil old.journal))

pub step_order : (opened : List Entry) (old : State) (action : Action) (new : State) → Step opened old action new → InOrder opened new.journal → InOrder opened old.journal
step_order opened old action new m o = let g = step_grows opened old action new m in in_order_front opened old.journal g.0 (rw g.1 at o)

pub run_order : (opened : List Entry) (old : State) (actions : List Action) (new : State) → Run opened old actions new → InOrder opened new.journal → InOrder opened old.journal
run_order opened old [] new r o = subst (λ (t : State). InOrder opened t.journal) r o
run_order opened old (action ∷ actions) new r o = step_order opened old action r.0 r.1 (run_order opened r.0 actions new r.2 o)

pub run_holds : (opened : List Entry) (start : Map) (old : State) (actions : List Action) (new : State) → Run opened old actions new → InOrder opened new.journal → Holds opened start old → Holds opened start new
run_holds opened start old [] new r o h = subst (Holds opened start) (sym r) h
run_holds opened start old (action ∷ actions) new r o h = run_holds opened start r.0 actions new r.2 o (step_holds opened start old action r.0 r.1 (run_order opened r.0 actions new r.2 o) h)

pub opened_holds : (opened : List Entry) (start : Map) (old : State) → IsOpened opened start old → Holds opened start old
opened_holds opened start old o = record {
  sound = rw (o.journal, o.older) (opened_sound opened start old o);
  laid = o.laid;
  agrees = rw o.journal tt;
  zero = λ k z. o.starts k ∙ start_none opened k z;
}

pub every_run : EveryRunReadsRight
every_run opened start old new actions o r order = reads_right opened start new (run_holds opened start old actions new r order (opened_holds opened start old o))

-- where sequence numbers fall along the sources, they fall along any of the tables
pub part_falls : (k : Bytes) (t : Placed → Bool) (mems : Memtables) (sv : SuperVersion) → IsOrdered (sources mems sv) → IsFalling (stack k (held (filter t sv.tables)))
part_falls k t mems sv ordered =
    let front = flat_map mems (sv.active ∷ sv.sealed) in
    let all : IsFalling (stack k front ++ stack k (held sv.tables)) = subst IsFalling (ap (stack k) (joined_sources mems sv) ∙ stack-append k front (held sv.tables)) (ordered k) in
    falling_sub (sub_filter k t sv.tables) (falling_right (stack k front) (stack k (held sv.tables)) all)
