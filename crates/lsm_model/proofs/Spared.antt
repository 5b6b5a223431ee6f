-- What a step leaves of the answers.
use Rattle.std.proofs.Common.{◌≡◌, ℕ, ◌<◌, ◌≤◌, true, false, cond, List, [], ◌∷◌, map, Option, Some, refl, sym, ap, ap₂, ◌∙◌, subst, arith, ltb, eqb, eqb-true, ⊎_elim}
use Rattle.std.specs.FinMap.{same_map, slice_cmp-IsAntisymmetric, nat_cmp-IsAntisymmetric}
use Rattle.std.specs.Cmp.Lexicographic.{nat_list_cmp_total}
use Rattle.lsm_below.specs.Keys.{Bytes}
use Rattle.lsm_below.specs.Entries.{Entry, stack}
use Rattle.lsm_model.specs.Journal.{Map, InOrder}
use Rattle.std.specs.List.{AllByRecursion}
use Rattle.lsm_model.specs.Views.{view, front, found_at, seen, SuperVersion, sources, entries, lookup, emptied, Memtables, pushed}
use Rattle.lsm_model.specs.Steps.{State, history, Action, Wrote, Rotated, Flushed, Merged, Moved, DroppedTables, Cleared, Marked, LostDrop, Asked, Maintained, Step, Run, IsWrite, Spares, StaysAt}
use Rattle.lsm_model.specs.Sound.{HasIds, Holds}
use Rattle.lsm_model.proofs.Lists.{each_found}
use Rattle.lsm_model.proofs.Journals.{floor-le}
use Rattle.lsm_model.proofs.Sound.{seen_pushed}
use Rattle.lsm_model.proofs.Installs.{ShowsSame, lookup_cases, lookup_latest, lookup_older, entries_emptied, emptied_here, rotated}
use Rattle.lsm_model.proofs.Commits.{found_still}
use Rattle.lsm_model.proofs.Runs.{write_pushed, flushed, merged, moved, step_holds, run_order, get-view, seen_zero, stack_entries, same_sources}

pub Alike : Bytes → ℕ → State → State → Type 0
Alike k s old new = (sv sv' : SuperVersion) → lookup s (history old) ≡ Some sv → lookup s (history new) ≡ Some sv' → seen s (stack k (entries old.mems sv)) ≡ seen s (stack k (entries new.mems sv'))

one : {A : Type 0} (o : Option A) (x y : A) → o ≡ Some x → o ≡ Some y → x ≡ y
one o x y h q = cc (h, q)

-- the same super versions, with other memtables
same_history : (k : Bytes) (s : ℕ) (old new : State) → history new ≡ history old → ((sv : SuperVersion) → lookup s (history old) ≡ Some sv → seen s (stack k (entries new.mems sv)) ≡ seen s (stack k (entries old.mems sv))) → Alike k s old new
unfolding Alike
same_history k s old new h same sv sv' found found' =
    let is : sv' ≡ sv = one (lookup s (history old)) sv' sv (ap (lookup s) (sym h) ∙ found') found in
    sym (ap (λ v. seen s (stack k (entries new.mems v))) is ∙ same sv found)

same_commit : (opened : List Entry) (start : Map) (k : Bytes) (s : ℕ) (old new : State) → new.mems ≡ old.mems → new.older ≡ history old → ShowsSame opened old.journal old.mems old.latest new.latest → Holds opened start old → Alike k s old new
unfolding Alike
same_commit opened start k s old new mems older m h sv sv' found found' =
    let among : lookup s (new.latest ∷ history old) ≡ Some sv' = ap (λ o. lookup s (new.latest ∷ o)) (sym older) ∙ found' in
    (⊎_elim
    (λ (a : (new.latest.number < s) × (new.latest ≡ sv')).
    let l : old.latest.number < s = let r = h.sound.recent in let q = floor-le opened old.journal in let z = m.next in let y = a.0 in omega arith in
    let is : old.latest ≡ sv = one (lookup s (history old)) old.latest sv (lookup_latest s old.latest old.older l) found in
    ap (λ v. seen s (stack k (entries old.mems v))) (sym is) ∙ sym (m.same k s a.0) ∙ ap (λ v. seen s (stack k (entries old.mems v))) a.1)
    (λ (b : (s ≤ new.latest.number) × (lookup s (history old) ≡ Some sv')).
    ap (λ v. seen s (stack k (entries old.mems v))) (one (lookup s (history old)) sv sv' found b.1))
    (lookup_cases s new.latest sv' (history old) among)) ∙ ap (λ (ms : Memtables). seen s (stack k (entries ms sv'))) (sym mems)

spared_commit : (k : Bytes) (s : ℕ) (old new : State) → new.mems ≡ old.mems → new.older ≡ history old → s ≤ new.latest.number → Alike k s old new
unfolding Alike
spared_commit k s old new mems older l sv sv' found found' =
    let among : lookup s (history old) ≡ Some sv' = sym (lookup_older s new.latest (history old) l) ∙ ap (λ o. lookup s (new.latest ∷ o)) (sym older) ∙ found' in
    ap (λ v. seen s (stack k (entries old.mems v))) (one (lookup s (history old)) sv sv' found among) ∙ ap (λ (ms : Memtables). seen s (stack k (entries ms sv'))) (sym mems)

spared_emptied : (opened : List Entry) (start : Map) (k : Bytes) (s : ℕ) (old : State) (a : ℕ) (sv : SuperVersion) → old.latest.active < a → Holds opened start old → lookup s (history old) ≡ Some sv → entries (emptied old.mems a) sv ≡ entries old.mems sv
spared_emptied opened start k s old a sv l h found =
    entries_emptied old.mems a old.latest.active sv l (each_found (HasIds old.latest.active) (λ v. ltb v.number s) (history old) sv h.sound.ids found)

-- the new memtable of a rotation is empty
entries_rotated : (mems : Memtables) (latest : SuperVersion) (a : ℕ) → entries (emptied mems a) (rotated latest a) ≡ entries (emptied mems a) latest
entries_rotated mems latest a = rw (emptied_here mems a) refl

pub spared : (opened : List Entry) (start : Map) (k : Bytes) (s : ℕ) (old : State) (action : Action) (new : State) → Step opened old action new → InOrder opened new.journal → Spares action new s → Holds opened start old → Alike k s old new
unfolding Alike
spared opened start k s old (Wrote e) new m o l h = same_history k s old new (ap₂ (λ (v : SuperVersion) vs. v ∷ vs) m.latest m.older)
    (λ sv found. ap (seen s) (stack_entries k new.mems (pushed old.mems old.latest.active e) (write_pushed opened start old new e m o h k) sv) ∙ seen_pushed k s old.mems old.latest.active e sv l)
spared opened start k s old (Rotated a) new m o l h =
    subst (Alike k s old) (sym m.1) (λ sv sv' found found'. ⊎_elim
    (λ (x : (old.latest.number < s) × (record { number = old.latest.number; active = a; sealed = old.latest.active ∷ old.latest.sealed; tables = old.latest.tables } ≡ sv')).
    let is : old.latest ≡ sv = one (lookup s (history old)) old.latest sv (lookup_latest s old.latest old.older x.0) found in
    ap (λ v. seen s (stack k (entries old.mems v))) (sym is)
    ∙ ap (λ es. seen s (stack k es)) (sym (spared_emptied opened start k s old a old.latest m.0 h (lookup_latest s old.latest old.older x.0)))
    ∙ ap (λ es. seen s (stack k es)) (sym (entries_rotated old.mems old.latest a))
    ∙ ap (λ v. seen s (stack k (entries (emptied old.mems a) v))) x.1)
    (λ (y : (s ≤ old.latest.number) × (lookup s old.older ≡ Some sv')).
    let there = lookup_older s old.latest old.older y.0 ∙ y.1 in
    ap (λ v. seen s (stack k (entries old.mems v))) (one (lookup s (history old)) sv sv' found there)
    ∙ ap (λ es. seen s (stack k es)) (sym (spared_emptied opened start k s old a sv' m.0 h there)))
    (lookup_cases s (record { number = old.latest.number; active = a; sealed = old.latest.active ∷ old.latest.sealed; tables = old.latest.tables }) sv' old.older found'))
spared opened start k s old (Flushed w job made) new m o l h = same_commit opened start k s old new m.commit.mems m.commit.older (flushed opened start old w job made new m o h) h
spared opened start k s old (Merged w d ids evict made) new m o l h = same_commit opened start k s old new m.commit.mems m.commit.older (merged opened start old w d ids evict made new m o h) h
spared opened start k s old (Moved d ids placed) new m o l h = same_commit opened start k s old new m.commit.mems m.commit.older (moved opened start old d ids placed new m o h) h
spared opened start k s old (DroppedTables ids) new m o l h = spared_commit k s old new m.commit.mems m.commit.older l
spared opened start k s old (Cleared n a) new m o l h =
    subst (Alike k s old) (sym m.1) (λ sv sv' found found'.
    let there = sym (lookup_older s (record { number = n; active = a; sealed = []; tables = [] }) (history old) l) ∙ found' in
    ap (λ v. seen s (stack k (entries old.mems v))) (one (lookup s (history old)) sv sv' found there)
    ∙ ap (λ es. seen s (stack k es)) (sym (spared_emptied opened start k s old a sv' m.0 h there)))
spared opened start k s old (Marked w) new m o l h = same_history k s old new (ap history m) (λ sv found. ap (λ (t : State). seen s (stack k (entries t.mems sv))) m)
spared opened start k s old (LostDrop ranges n) new m o l h = same_history k s old new (ap history m) (λ sv found. ap (λ (t : State). seen s (stack k (entries t.mems sv))) m)
spared opened start k s old (Asked at question) new m o l h = same_history k s old new (ap history m.3) (λ sv found. ap (λ (t : State). seen s (stack k (entries t.mems sv))) m.3)
spared opened start k s old (Maintained w) new m o l h = λ sv sv' found found'.
    let there : lookup s (history old) ≡ Some sv' = ap (lookup s) m.was ∙ found_still m.removed s sv' (history new) found' in
    ap (λ v. seen s (stack k (entries old.mems v))) (one (lookup s (history old)) sv sv' found there) ∙ sym (ap (seen s) (same_sources k new.mems old.mems sv' (each_found (λ v. sources new.mems v ≡ sources old.mems v) (λ v. ltb v.number s) (history new) sv' m.mems found')))

-- one step, of a tree of which all holds that steps keep
pub step_spares : (opened : List Entry) (start : Map) (s : ℕ) (old : State) (action : Action) (new : State) → Step opened old action new → InOrder opened new.journal → Spares action new s → Holds opened start old → StaysAt s old new
unfolding Alike
step_spares opened start s old action new step order spares h sv sv' found found' =
    same_map nat_list_cmp_total (slice_cmp-IsAntisymmetric nat_cmp-IsAntisymmetric) (view s (sources old.mems sv)) (view s (sources new.mems sv')) (λ k.
    get-view k s old.mems sv
    ∙ (elim (eqb s 0) as (λ b. eqb s 0 ≡ b → cond b (Some (front old.latest old.older)) (lookup s (history old)) ≡ Some sv → cond b (Some (front new.latest new.older)) (lookup s (history new)) ≡ Some sv' → seen s (stack k (entries old.mems sv)) ≡ seen s (stack k (entries new.mems sv'))) [
      | true ↦ λ z f g. let is : s ≡ 0 = eqb-true s 0 z in seen_zero s (stack k (entries old.mems sv)) is ∙ sym (seen_zero s (stack k (entries new.mems sv')) is)
      | false ↦ λ z f g. spared opened start k s old action new step order spares h sv sv' f g
    ] refl found found')
    ∙ sym (get-view k s new.mems sv'))

-- the same super versions and memtables
pub stays : (s : ℕ) (old new : State) → new.mems ≡ old.mems → new.latest ≡ old.latest → new.older ≡ old.older → StaysAt s old new
stays s old new mems latest older sv sv' found found' =
    let is : sv' ≡ sv = one (found_at s old.latest old.older) sv' sv (rw (latest, older) at found') found in
    ap (λ (ms : Memtables). view s (sources ms sv)) (sym mems) ∙ ap (λ v. view s (sources new.mems v)) (sym is)

-- several writes
pub writes_spare : (opened : List Entry) (start : Map) (s : ℕ) (es : List Entry) (old new : State) → Run opened old (map Wrote es) new → InOrder opened new.journal → AllByRecursion (λ e. s ≤ e.key.seqno) es → Holds opened start old → StaysAt s old new
writes_spare opened start s [] old new r order low h = subst (StaysAt s old) (sym r) (stays s old old refl refl refl)
writes_spare opened start s (e ∷ es) old new r order low h = λ sv sv' found found'.
    let mid = r.0 in
    let m : IsWrite e old mid = r.1 in
    let before : InOrder opened mid.journal = run_order opened mid (map Wrote es) new r.2 order in
    let there : found_at s mid.latest mid.older ≡ Some sv = rw (m.latest, m.older) found in
    step_spares opened start s old (Wrote e) mid m before low.0 h sv sv found there
    ∙ writes_spare opened start s es mid new r.2 order low.1 (step_holds opened start old (Wrote e) mid m before h) sv sv' there found'
