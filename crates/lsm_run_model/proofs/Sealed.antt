-- A tree that came about has just those memtables sealed that its notes tell.
use Rattle.std.proofs.Common.{◌≡◌, ℕ, ◌<◌, ◌≤◌, arith, ◌==◌, true, false, cond, not, ◌||◌, List, [], ◌∷◌, ◌++◌, filter, refl, sym, ap, ◌∙◌, subst, eq-eqb, ne_eqb}
use Rattle.std.specs.List.{AllByRecursion}
use Rattle.std.proofs.Math.Bool.{or-true}
use Rattle.lsm_below.specs.Each.{each_right, each_weaker}
use Rattle.lsm_below.specs.Entries.{Entry}
use Rattle.lsm_below.specs.FilterLaws.{filter_none}
use Rattle.lsm_model.specs.Views.{SuperVersion}
use Rattle.lsm_model.specs.Steps.{State, among, Action, Wrote, Rotated, Flushed, Merged, Moved, DroppedTables, Cleared, Marked, LostDrop, Asked, Maintained, Step}
use Rattle.lsm_model.specs.Beginnings.{Note, Saved, Deed, Done, Lost, Deeds, noted_by, noted_lost}
use Rattle.lsm_run_model.specs.Outcomes.{sealed_in}
use Rattle.lsm_run_model.specs.Composing.{NotesTellSealed}

-- ---- ids that fall

-- each is below the one before it, and the first one below this
abbrev pub FallBelow : ℕ → List ℕ → Type 0
FallBelow a [] = Unit {0}
FallBelow a (i ∷ ids) = (i < a) × FallBelow i ids

all_below : (a b : ℕ) (ids : List ℕ) → a ≤ b → FallBelow a ids → AllByRecursion (λ i. i < b) ids
all_below a b [] low f = tt
all_below a b (i ∷ ids) low f = (omega (f.0, arith), all_below i b ids (omega (f.0, arith)) f.1)

left_fall : (a : ℕ) (front ids : List ℕ) → FallBelow a (front ++ ids) → FallBelow a front
left_fall a [] ids f = tt
left_fall a (i ∷ front) ids f = (f.0, left_fall i front ids f.1)

not_among : (i : ℕ) (ids : List ℕ) → AllByRecursion (λ j. j < i) ids → among ids i ≡ false
not_among i [] h = refl
not_among i (j ∷ ids) h = ap (λ b. b || among ids i) (ne_eqb i j (λ e. let less : j < j = subst (λ x. j < x) e h.0 in absurd (omega (less, arith)))) ∙ not_among i ids h.1

all_among : (ids : List ℕ) → AllByRecursion (λ i. among ids i ≡ true) ids
all_among [] = tt
all_among (j ∷ ids) = (ap (λ b. b || among ids j) (eq-eqb j j refl), each_weaker _ _ (λ i h. ap (λ b. (i == j) || b) h ∙ or-true (i == j)) ids (all_among ids))

-- without the last ones those before them are left
taken : (a : ℕ) (front job : List ℕ) → FallBelow a (front ++ job) → filter (λ i. not (among job i)) (front ++ job) ≡ front
taken a [] job f = filter_none (λ i. not (among job i)) job (each_weaker _ _ (λ i h. ap not h) job (all_among job))
taken a (i ∷ front) job f =
    let rest = filter (λ j. not (among job j)) (front ++ job) in
    let above = not_among i job (each_right (λ j. j < i) front job (all_below i i (front ++ job) (omega arith) f.1)) in
    ap (λ b. cond (not b) (i ∷ rest) rest) above ∙ ap (λ ids. i ∷ ids) (taken i front job f.1)

-- ---- what stays so

-- the notes tell what is sealed, and its ids fall from below that of the active memtable
abbrev pub Knows : List Note → SuperVersion → Type 0
Knows notes sv = (sealed_in notes ≡ sv.sealed) × FallBelow sv.active sv.sealed

pub same : (notes : List Note) (old new : SuperVersion) → new ≡ old → Knows notes old → Knows notes new
same notes old new is k = subst (Knows notes) (sym is) k

kept : (notes : List Note) (old new : SuperVersion) → new.active ≡ old.active → new.sealed ≡ old.sealed → Knows notes old → Knows notes new
kept notes old new active sealed k = (k.0 ∙ sym sealed, subst (λ a. FallBelow a new.sealed) (sym active) (subst (FallBelow old.active) (sym sealed) k.1))

flushed : (notes : List Note) (job : List ℕ) (old new : SuperVersion) → new.active ≡ old.active → old.sealed ≡ new.sealed ++ job → Knows notes old
    → (filter (λ id. not (among job id)) (sealed_in notes) ≡ new.sealed) × FallBelow new.active new.sealed
flushed notes job old new active sealed k =
    let falls : FallBelow new.active (new.sealed ++ job) = subst (λ a. FallBelow a (new.sealed ++ job)) (sym active) (subst (FallBelow old.active) sealed k.1) in
    (ap (λ ids. filter (λ id. not (among job id)) ids) (k.0 ∙ sealed) ∙ taken new.active new.sealed job falls, left_fall new.active new.sealed job falls)

pub step_knows : (opened : List Entry) (notes : List Note) (old : State) (action : Action) (new : State) → Step opened old action new → Knows notes old.latest → Knows (noted_by old action ++ notes) new.latest
step_knows opened notes old (Wrote e) new s k = same notes old.latest new.latest s.latest k
step_knows opened notes old (Rotated a) new s k = subst (λ (t : State). Knows (noted_by old (Rotated a) ++ notes) t.latest) (sym s.1) (ap (λ ids. old.latest.active ∷ ids) k.0, (s.0, k.1))
step_knows opened notes old (Flushed w job made) new s k = flushed notes job old.latest new.latest s.commit.active s.sealed k
step_knows opened notes old (Merged w d ids evict made) new s k = kept notes old.latest new.latest s.commit.active s.sealed k
step_knows opened notes old (Moved d ids moved) new s k = kept notes old.latest new.latest s.commit.active s.sealed k
step_knows opened notes old (DroppedTables ids) new s k = kept notes old.latest new.latest s.commit.active s.sealed k
step_knows opened notes old (Cleared n a) new s k = subst (λ (t : State). Knows (noted_by old (Cleared n a) ++ notes) t.latest) (sym s.1) (refl, tt)
step_knows opened notes old (Marked w) new s k = same notes old.latest new.latest (ap (λ (t : State). t.latest) s) k
step_knows opened notes old (LostDrop ranges n) new s k = same notes old.latest new.latest (ap (λ (t : State). t.latest) s) k
step_knows opened notes old (Asked at question) new s k = same notes old.latest new.latest (ap (λ (t : State). t.latest) s.3) k
step_knows opened notes old (Maintained w) new s k = let is : old.latest ≡ new.latest = cc s.was in same notes old.latest new.latest (sym is) k

-- a commit of unknown outcome seals nothing, and none is flushed by it
pub lost_same : (notes : List Note) (old : State) (action : Action) → sealed_in (noted_lost old action ++ notes) ≡ sealed_in notes
lost_same notes old (Cleared n a) = refl
lost_same notes old other = refl

deeds_know : (opened : List Entry) (old : Saved) (deeds : List Deed) (new : Saved) → Deeds opened old deeds new → Knows old.notes old.state.latest → Knows new.notes new.state.latest
deeds_know opened old [] new d k = subst (λ (t : Saved). Knows t.notes t.state.latest) (sym d) k
deeds_know opened old (Done action ∷ deeds) new d k =
    deeds_know opened d.0 deeds new d.2 (subst (λ ns. Knows ns d.0.state.latest) (sym d.1.notes) (step_knows opened old.notes old.state action d.0.state d.1.step k))
deeds_know opened old (Lost action would ∷ deeds) new d k =
    let here = same old.notes old.state.latest d.0.state.latest (ap (λ (t : State). t.latest) d.1.state) k in
    deeds_know opened d.0 deeds new d.2 (subst (λ ns. Knows ns d.0.state.latest) (sym d.1.notes) (lost_same old.notes old.state action ∙ here.0, here.1))

pub notes_tell_sealed : NotesTellSealed
notes_tell_sealed opened start t c =
    let sealed = c.starts.opens.sealed in
    (deeds_know opened c.first c.deeds t c.done (ap sealed_in c.starts.notes ∙ sym sealed, subst (FallBelow c.first.state.latest.active) (sym sealed) tt)).0
