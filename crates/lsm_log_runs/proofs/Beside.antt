-- What stands beside a logged tree that came about: which memtables are sealed by its notes, that its journal has no low reads, and from
-- where a version of unknown outcome reads the log.
use Rattle.std.proofs.Common.{◌≡◌, ℕ, ◌≤◌, arith, true, List, [], ◌∷◌, refl, sym, ap, ◌∙◌, subst, ◌⊎◌, inl, inr, ⊎_elim}
use Rattle.lsm_below.specs.Entries.{Entry}
use Rattle.lsm_model.specs.Steps.{State, Action, Wrote, Flushed, Cleared, Step}
use Rattle.lsm_model.specs.Beginnings.{Saved, Deed, Done, Lost, Deeds, Does, told_lost, is_commit}
use Rattle.lsm_log_model.specs.Records.{LogImage, entries_of}
use Rattle.lsm_log_model.specs.Logs.{Logged as Log, IsCertain, next_from, Act, Batched, BatchLost, Did, CommitLost, Acts, AllActs, writes_of}
use Rattle.lsm_log_model.specs.Replays.{IsReopened}
use Rattle.lsm_run_model.specs.Outcomes.{sealed_in, without_low_reads}
use Rattle.lsm_run_model.proofs.Sealed.{FallBelow, Knows, same, step_knows, lost_same}
use Rattle.lsm_run_model.proofs.CameAbout.{IsHigh, more, step_high, told_high}

module _ (opened : List Entry) where
  -- ---- both, along deeds

  pub record Told (t : Saved) : Type 0 where
    pub sealed : Knows t.notes t.state.latest
    pub high : IsHigh opened t.state.journal

  does_tell : (old : Saved) (deed : Deed) (new : Saved) → Does opened old deed new → Told old → Told new
  does_tell old (Done action) new d told = record {
    sealed = subst (λ ns. Knows ns new.state.latest) (sym d.notes) (step_knows opened old.notes old.state action new.state d.step told.sealed);
    high = step_high opened old.state action new.state d.step told.high;
  }
  does_tell old (Lost action would) new d told =
      let here = same old.notes old.state.latest new.state.latest (ap (λ (t : State). t.latest) d.state) told.sealed in
      record {
        sealed = subst (λ ns. Knows ns new.state.latest) (sym d.notes) (lost_same old.notes old.state action ∙ here.0, here.1);
        high = more opened old.state.journal new.state.journal (told_lost old.state action would) (ap (λ (t : State). t.journal) d.state) (told_high opened old.state action would) told.high;
      }

  writes_tell : (es : List Entry) (old new : Saved) → Deeds opened old (writes_of es) new → Told old → Told new × (new.others ≡ old.others)
  writes_tell [] old new d told = (subst Told (sym d) told, ap (λ (t : Saved). t.others) d)
  writes_tell (e ∷ es) old new d told = let rest = writes_tell es d.0 new d.2 (does_tell old (Done (Wrote e)) d.0 d.1 told) in (rest.0, rest.1 ∙ d.1.others)

  -- ---- along acts

  -- a version of unknown outcome reads the log from no lower number on
  abbrev pub IsNoLower : Log → Type 0
  IsNoLower t = (t.tree.others ≡ []) ⊎ (t.log_from ≤ t.other_from)

  pub record IsBeside (t : Log) : Type 0 where
    pub told : Told t.tree
    pub other : IsNoLower t

  -- what a commit reads the log from
  rises : (old : Log) (action : Action) (would : State) → Step opened old.tree.state action would → old.log_from ≤ would.latest.number → old.log_from ≤ next_from old.tree.state old.log_from action
  rises old (Flushed w job made) would s h = omega arith
  rises old (Cleared n a) would s h = let e = ap (λ (t : State). t.latest.number) s.1 in omega (arith, e, h)
  rises old other would s h = omega arith

  did_no_lower : (old : Log) (action : Action) (tree : Saved) (o : ℕ) → (is_commit action ≡ true → IsCertain old) → tree.others ≡ old.tree.others → IsNoLower old → (tree.others ≡ []) ⊎ (next_from old.tree.state old.log_from action ≤ old.other_from)
  did_no_lower old (Flushed w job made) tree o certain same n = inl (same ∙ (certain refl).0)
  did_no_lower old (Cleared m a) tree o certain same n = inl (same ∙ (certain refl).0)
  did_no_lower old other tree o certain same n = ⊎_elim (λ (e : old.tree.others ≡ []). inl (same ∙ e)) (λ (h : old.log_from ≤ old.other_from). inr h) n

  act_beside : (old : Log) (act : Act) (new : Log) → Acts opened old act new → IsBeside old → IsBeside new
  act_beside old (Batched b) new d h =
      let w = writes_tell (entries_of b) old.tree new.tree d.writes h.told in
      subst IsBeside (sym d.rest) (record { told = w.0; other = ⊎_elim (λ (e : old.tree.others ≡ []). inl (w.1 ∙ e)) (λ (l : old.log_from ≤ old.other_from). inr l) h.other })
  act_beside old (BatchLost b) new d h = subst IsBeside (sym d.rest) (record { told = h.told; other = h.other })
  act_beside old (Did action) new d h = subst IsBeside (sym d.rest) (record {
    told = does_tell old.tree (Done action) new.tree d.done h.told;
    other = did_no_lower old action new.tree 0 d.certain d.done.others h.other;
  })
  act_beside old (CommitLost action would) new d h = subst IsBeside (sym d.rest) (record {
    told = does_tell old.tree (Lost action would) new.tree d.lost h.told;
    other = inr (rises old action would d.lost.step d.drawn.above_version);
  })

  acts_beside : (old : Log) (acts : List Act) (new : Log) → AllActs opened old acts new → IsBeside old → IsBeside new
  acts_beside old [] new d h = subst IsBeside (sym d) h
  acts_beside old (act ∷ acts) new d h = acts_beside d.0 acts new d.2 (act_beside old act d.0 d.1 h)

  reopened_beside : (image : LogImage) (t : Log) → IsReopened image t → IsBeside t
  reopened_beside image t r = record {
    told = record {
      sealed = (ap sealed_in r.notes ∙ sym r.sealed, subst (FallBelow t.tree.state.latest.active) (sym r.sealed) tt);
      high = subst (IsHigh opened) (sym r.journal) refl;
    };
    other = inl r.others;
  }

  pub beside : (image : LogImage) (first : Log) (acts : List Act) (t : Log) → IsReopened image first → AllActs opened first acts t → IsBeside t
  beside image first acts t r d = acts_beside first acts t d (reopened_beside image first r)

  -- what is read off it
  pub is_sealed : (t : Log) → IsBeside t → sealed_in t.tree.notes ≡ t.tree.state.latest.sealed
  is_sealed t h = h.told.sealed.0

  pub is_high : (t : Log) → IsBeside t → without_low_reads opened t.tree.state.journal ≡ t.tree.state.journal
  is_high t h = h.told.high
