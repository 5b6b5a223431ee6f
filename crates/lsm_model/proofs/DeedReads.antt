-- What deeds keep of reads.
use Rattle.std.proofs.Common.{◌≡◌, ℕ, true, false, cond, List, [], ◌∷◌, ◌++◌, map, Some, refl, sym, ap, ◌∙◌, subst, ltb, eqb}
use Rattle.lsm_below.specs.Entries.{Entry}
use Rattle.lsm_model.specs.Journal.{Map, InOrder}
use Rattle.lsm_model.specs.Views.{SuperVersion, HasDistinctIds, found_at, front, lookup}
use Rattle.lsm_model.specs.Steps.{State, Run, history, Action, Wrote, Rotated, LostDrop, Asked, Flushed, Merged, Moved, DroppedTables, Cleared, Marked, Maintained, Step, Spares, StaysAt}
use Rattle.lsm_model.specs.Sound.{Holds}
use Rattle.lsm_model.specs.Beginnings.{Saved, Deed, Done, Lost, Does, Deeds, is_commit, told_lost}
use Rattle.lsm_model.proofs.Runs.{step_holds, step_order}
use Rattle.lsm_model.proofs.Spared.{step_spares}
use Rattle.lsm_model.proofs.Crashes.{lost_holds, deeds_grow, grown_order}

does_hold : (opened : List Entry) (start : Map) (old : Saved) (deed : Deed) (new : Saved) → Does opened old deed new → InOrder opened new.state.journal → Holds opened start old.state → Holds opened start new.state
does_hold opened start old (Done action) new d o h = step_holds opened start old.state action new.state d.step o h
does_hold opened start old (Lost action would) new d o h =
    let order : InOrder opened (old.state.journal ++ told_lost old.state action would) = subst (λ (t : State). InOrder opened t.journal) d.state o in
    subst (Holds opened start) (sym d.state) (lost_holds opened start old.state action would order h)

pub deeds_hold : (opened : List Entry) (start : Map) (old : Saved) (deeds : List Deed) (new : Saved) → Deeds opened old deeds new → InOrder opened new.state.journal → Holds opened start old.state → Holds opened start new.state
deeds_hold opened start old [] new d o h = subst (λ (t : Saved). Holds opened start t.state) (sym d) h
deeds_hold opened start old (deed ∷ deeds) new d o h =
    deeds_hold opened start d.0 deeds new d.2 o (does_hold opened start old deed d.0 d.1 (grown_order opened d.0 new (deeds_grow opened d.0 deeds new d.2) o) h)

-- writes in turn are deeds in turn
pub writes : (opened : List Entry) (es : List Entry) (old : Saved) (new : State) → Run opened old.state (map Wrote es) new → HasDistinctIds old.state.latest.tables
    → Deeds opened old (map (λ e. Done (Wrote e)) es) (record { state = new; notes = old.notes; others = old.others })
writes opened [] old new r distinct = ap (λ s. record { state = s; notes = old.notes; others = old.others }) r
writes opened (e ∷ es) old new r distinct =
    let mid : Saved = record { state = r.0; notes = old.notes; others = old.others } in
    let there = subst HasDistinctIds (sym (ap (λ sv. sv.tables) r.1.latest)) distinct in
    (mid, record { answered = refl; certain = λ commits. absurd (cc commits); step = r.1; distinct = there; notes = refl; others = refl }, writes opened es mid new r.2 there)

-- ---- a commit that is answered

-- what finds a super version finds one after another in front
pub found_behind : (s : ℕ) (first latest : SuperVersion) (older : List SuperVersion) (sv : SuperVersion) → found_at s latest older ≡ Some sv → (there : SuperVersion) × (found_at s first (latest ∷ older) ≡ Some there)
found_behind s first latest older sv f =
    elim (eqb s 0) as (λ b. cond b (Some (front latest older)) (lookup s (latest ∷ older)) ≡ Some sv → (there : SuperVersion) × (cond b (Some (front first (latest ∷ older))) (lookup s (first ∷ (latest ∷ older))) ≡ Some there)) [
      | true ↦ λ q. (front latest older, refl)
      | false ↦ λ q. elim (ltb first.number s) as (λ c. (there : SuperVersion) × (cond c (Some first) (lookup s (latest ∷ older)) ≡ Some there)) [ true ↦ (first, refl) | false ↦ (sv, q) ]
    ] f

commit_older : (opened : List Entry) (old : State) (action : Action) (new : State) → is_commit action ≡ true → Step opened old action new → new.older ≡ history old
commit_older opened old (Flushed w job made) new q m = m.commit.older
commit_older opened old (Merged w d ids evict made) new q m = m.commit.older
commit_older opened old (Moved d ids moved) new q m = m.commit.older
commit_older opened old (DroppedTables ids) new q m = m.commit.older
commit_older opened old (Cleared n a) new q m = ap (λ (t : State). t.older) m.1
commit_older opened old (Wrote e) new q m = absurd (cc q)
commit_older opened old (Rotated a) new q m = absurd (cc q)
commit_older opened old (Marked w) new q m = absurd (cc q)
commit_older opened old (LostDrop ranges n) new q m = absurd (cc q)
commit_older opened old (Asked s question) new q m = absurd (cc q)
commit_older opened old (Maintained w) new q m = absurd (cc q)

pub commits_spare : (opened : List Entry) (start : Map) (s w : ℕ) (action : Action) (old new : Saved) → is_commit action ≡ true → Deeds opened old (Done (Marked w) ∷ (Done action ∷ (Done (Maintained w) ∷ []))) new → InOrder opened new.state.journal
    → ((mid after : State) → Step opened mid action after → after.journal ≡ new.state.journal → Spares action after s) → Holds opened start old.state → StaysAt s old.state new.state
commits_spare opened start s w action old new q d o spares h =
    let marked : State = d.0.state in
    let put : State = d.2.0.state in
    let last : State = d.2.2.0.state in
    let at : new ≡ d.2.2.0 = d.2.2.2 in
    let mark : Step opened old.state (Marked w) marked = d.1.step in
    let commit : Step opened marked action put = d.2.1.step in
    let clean : Step opened put (Maintained w) last = d.2.2.1.step in
    let o3 : InOrder opened last.journal = subst (λ (t : Saved). InOrder opened t.state.journal) at o in
    let o2 : InOrder opened put.journal = step_order opened put (Maintained w) last clean o3 in
    let o1 : InOrder opened marked.journal = step_order opened marked action put commit o2 in
    let h1 : Holds opened start marked = step_holds opened start old.state (Marked w) marked mark o1 h in
    let h2 : Holds opened start put = step_holds opened start marked action put commit o2 h1 in
    let same : put.journal ≡ new.state.journal = sym clean.journal ∙ ap (λ (t : Saved). t.state.journal) (sym at) in
    subst (λ (t : Saved). StaysAt s old.state t.state) (sym at) (λ sv sv' found found'.
    let f1 : found_at s marked.latest marked.older ≡ Some sv = ap (λ (t : State). found_at s t.latest t.older) mark ∙ found in
    let f2 = found_behind s put.latest marked.latest marked.older sv f1 in
    let f2' : found_at s put.latest put.older ≡ Some (f2.0) = ap (found_at s put.latest) (commit_older opened marked action put q commit) ∙ f2.1 in
    step_spares opened start s old.state (Marked w) marked mark o1 tt h sv sv found f1
    ∙ step_spares opened start s marked action put commit o2 (spares marked put commit same) h1 sv f2.0 f1 f2'
    ∙ step_spares opened start s put (Maintained w) last clean o3 tt h2 f2.0 sv' f2' found')
