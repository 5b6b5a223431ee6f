-- What calls are to the theory of crashes: ways to know their deeds.
use Rattle.std.proofs.Common.{◌≡◌, ℕ, Bool, true, false, List, [], ◌∷◌, ◌++◌, map, option_to_list, refl, sym, ap, ◌∙◌, subst, append-nil, append_assoc}
use Rattle.lsm_below.specs.Entries.{Entry}
use Rattle.lsm_model.specs.Soundness.{Soundness}
use Rattle.lsm_model.specs.Journal.{Event, Map, InOrder}
use Rattle.lsm_model.specs.Sound.{Holds}
use Rattle.lsm_model.specs.Views.{HasDistinctIds}
use Rattle.lsm_model.specs.Steps.{State, Action, Marked, Step}
use Rattle.lsm_model.specs.Beginnings.{Note, Saved, Deed, Done, Deeds, is_commit, is_lost, noted_by}
use Rattle.lsm_model.specs.declared.journal.JournalEntry.TheVariants.{Mark}
use Rattle.lsm_versions.specs.Levels.{placed_of}
use Rattle.lsm_state.specs.Core.{Core, state_of, latest_of}
use Rattle.lsm_state.specs.Deeds.{saved_of, HasOrder, IsNoDeed, IsMarkDeed}
use Rattle.lsm_run_model.proofs.Composing.{distinct_behind}

-- after this journal and beside these notes, deeds of the theory are done which tell these events and note this
abbrev pub HasDeeds : List Entry → List Event → List Note → List Event → List Note → Core → Core → Type 0
HasDeeds opened journal notes events noted old new = (ds : List Deed) × Deeds opened (saved_of journal notes old) ds (saved_of (journal ++ events) (noted ++ notes) new)

-- what holds before a call: reads are right, and no two tables have one id
pub record IsRight (opened : List Entry) (start : Map) (journal : List Event) (c : Core) : Type 0 where
  pub holds : Holds opened start (state_of journal c)
  pub distinct : HasDistinctIds (latest_of c).tables

-- ---- nothing

-- the theories see the same in both
abbrev pub IsSame : Core → Core → Type 0
IsSame old new = (journal : List Event) (notes : List Note) → saved_of journal notes new ≡ saved_of journal notes old

pub still_same : (old new : Core) → new ≡ old → IsSame old new
still_same old new is journal notes = ap (saved_of journal notes) is

module _ (opened : List Entry) (journal : List Event) (notes : List Note) (old new : Core) where
  pub nothing : (events : List Event) → events ≡ [] → IsSame old new → HasDeeds opened journal notes events [] old new
  nothing events none same = ([], ap (λ es. saved_of (journal ++ es) notes new) none ∙ ap (λ j. saved_of j notes new) (append-nil journal) ∙ same journal notes)

  pub idle : (events : List Event) → events ≡ [] → new ≡ old → HasDeeds opened journal notes events [] old new
  idle events none is = nothing events none (still_same old new is)

  pub no_deed : (events : List Event) → events ≡ [] → IsNoDeed old new → HasDeeds opened journal notes events [] old new
  no_deed events none d = nothing events none (λ j n. d opened j n)

  -- ---- one action

  -- an action that is no commit, and leaves the tables
  pub does : (action : Action) (events : List Event) (noted : List Note) → is_lost action ≡ false → is_commit action ≡ false → noted_by (state_of journal old) action ≡ noted
      → Step opened (state_of journal old) action (state_of (journal ++ events) new) → (latest_of new).tables ≡ (latest_of old).tables → new.lost ≡ old.lost
      → HasDistinctIds (latest_of old).tables → HasDeeds opened journal notes events noted old new
  does action events noted answered plain notes_are step tables lost distinct =
      let end = saved_of (journal ++ events) (noted ++ notes) new in (
        Done action ∷ [],
        (
          end,
          record {
            answered = answered;
            certain = λ commits. absurd (differ (is_commit action) commits plain);
            step = step;
            distinct = subst HasDistinctIds (sym tables) distinct;
            notes = ap (λ ns. ns ++ notes) (sym notes_are);
            others = ap (λ l. map (λ v. placed_of v.levels) (option_to_list l)) lost;
          },
          refl,
        ),
      )
    where
      differ : (b : Bool) → b ≡ true → b ≡ false → ⊥
      differ b t f = cc

  -- a mark, where the theories see the same
  pub mark : (w : ℕ) (events : List Event) → events ≡ Mark w ∷ [] → IsSame old new → HasDistinctIds (latest_of old).tables → HasDeeds opened journal notes events [] old new
  mark w events one same distinct =
      let is = ap (λ t. t.state) (same (journal ++ Mark w ∷ []) notes) in
      subst (λ es. HasDeeds opened journal notes es [] old new) (sym one) (
        Done (Marked w) ∷ [],
        (
          saved_of (journal ++ Mark w ∷ []) notes new,
          record {
            answered = refl;
            certain = λ commits. absurd (cc commits);
            step = is;
            distinct = subst HasDistinctIds (sym (ap (λ (t : State). t.latest.tables) is)) distinct;
            notes = refl;
            others = ap (λ (t : Saved). t.others) (same journal notes);
          },
          refl,
        ),
      )

  pub mark_deed : (w : ℕ) (events : List Event) → events ≡ Mark w ∷ [] → IsMarkDeed w old new → HasDeeds opened journal notes events [] old new
  mark_deed w events one d = subst (λ es. HasDeeds opened journal notes es [] old new) (sym one) (Done (Marked w) ∷ [], d opened journal notes)

-- ---- writes

-- ---- what follows of deeds

module _ (theory : Soundness) (opened : List Entry) (start : Map) where
  pub order_of : (journal : List Event) (c : Core) → Holds opened start (state_of journal c) → HasOrder c
  order_of journal c holds = (theory.right.reads opened start (state_of journal c) holds).ordered.0

  -- after deeds all is right as before them
  pub right_behind : (journal : List Event) (notes : List Note) (events : List Event) (noted : List Note) (old new : Core) → HasDeeds opened journal notes events noted old new → InOrder opened (journal ++ events) → IsRight opened start journal old → IsRight opened start (journal ++ events) new
  right_behind journal notes events noted old new d order r = record {
    holds = theory.kept.deeds opened start (saved_of journal notes old) d.0 (saved_of (journal ++ events) (noted ++ notes) new) d.1 order r.holds;
    distinct = distinct_behind opened d.0 (saved_of journal notes old) (saved_of (journal ++ events) (noted ++ notes) new) d.1 r.distinct;
  }

-- deeds after deeds
pub then : (opened : List Entry) (journal : List Event) (notes : List Note) (first second : List Event) (noted more : List Note) (old mid new : Core)
    → HasDeeds opened journal notes first noted old mid → HasDeeds opened (journal ++ first) (noted ++ notes) second more mid new → HasDeeds opened journal notes (first ++ second) (more ++ noted) old new
then opened journal notes first second noted more old mid new d e =
    (d.0 ++ e.0, joined d.0 (saved_of journal notes old) d.1)
  where
    last : Saved
    last = saved_of ((journal ++ first) ++ second) (more ++ (noted ++ notes)) new

    to : last ≡ saved_of (journal ++ (first ++ second)) ((more ++ noted) ++ notes) new
    to = ap (λ j. saved_of j (more ++ (noted ++ notes)) new) (append_assoc journal first second) ∙ ap (λ ns. saved_of (journal ++ (first ++ second)) ns new) (sym (append_assoc more noted notes))

    joined : (ds : List Deed) (from : Saved) → Deeds opened from ds (saved_of (journal ++ first) (noted ++ notes) mid) → Deeds opened from (ds ++ e.0) (saved_of (journal ++ (first ++ second)) ((more ++ noted) ++ notes) new)
    joined [] from h = subst (λ t. Deeds opened t e.0 (saved_of (journal ++ (first ++ second)) ((more ++ noted) ++ notes) new)) h (subst (Deeds opened (saved_of (journal ++ first) (noted ++ notes) mid) e.0) to e.1)
    joined (x ∷ ds) from h = (h.0, h.1, joined ds h.0 h.2)
