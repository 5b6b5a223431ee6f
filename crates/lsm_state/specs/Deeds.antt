-- What calls do, as the theories of reads and of crashes see it.
use Rattle.std.specs.Prelude.{ℕ, List, [], ◌∷◌, ◌++◌, map, option_to_list}
use Rattle.lsm_below.specs.Entries.{Entry, IsOrdered}
use Rattle.lsm_model.specs.Journal.{Event}
use Rattle.lsm_model.specs.Views.{sources}
use Rattle.lsm_model.specs.Steps.{Action, Marked, Maintained}
use Rattle.lsm_model.specs.Beginnings.{Note, Saved, Done, Lost, Deeds, IsFresh}
use Rattle.lsm_model.specs.declared.journal.JournalEntry.TheVariants.{Mark}
use Rattle.lsm_versions.specs.declared.config.Config.{Config}
use Rattle.lsm_versions.specs.Levels.{SeenVersion, placed_of}
use Rattle.lsm_parts.specs.Held.{entries_of}
use Rattle.lsm_state.specs.Core.{Core, state_of, latest_of, opened_core}

-- the theory's state after a journal, with notes
abbrev pub saved_of : List Event → List Note → Core → Saved
saved_of journal notes c = record { state = state_of journal c; notes = notes; others = map (λ v. placed_of v.levels) (option_to_list c.lost) }

-- sequence numbers fall along the sources that the latest super version reads
abbrev pub HasOrder : Core → Type 0
HasOrder c = IsOrdered (sources (entries_of c.memtables) (latest_of c))

-- whatever the journal and the notes, nothing is done
abbrev pub IsNoDeed : Core → Core → Type 0
IsNoDeed old new = (opened : List Entry) (journal : List Event) (notes : List Note) → Deeds opened (saved_of journal notes old) [] (saved_of journal notes new)

-- whatever the journal and the notes, a mark alone
abbrev pub IsMarkDeed : ℕ → Core → Core → Type 0
IsMarkDeed w old new = (opened : List Entry) (journal : List Event) (notes : List Note) → Deeds opened (saved_of journal notes old) (Done (Marked w) ∷ []) (saved_of (journal ++ Mark w ∷ []) notes new)

-- whatever the journal and the notes, the deeds of a commit that is answered: the mark, the action, the maintenance
abbrev pub AreDone : ℕ → Action → List Event → List Note → Core → Core → Type 0
AreDone w action events noted old new = (opened : List Entry) (journal : List Event) (notes : List Note) → HasOrder old
    → Deeds opened (saved_of journal notes old) (Done (Marked w) ∷ (Done action ∷ (Done (Maintained w) ∷ []))) (saved_of (journal ++ Mark w ∷ events) (noted ++ notes) new)

-- those of one of unknown outcome, which tells nothing, and would have told these events
abbrev pub AreLost : ℕ → Action → List Event → Core → Core → Core → Type 0
AreLost w action events old would new = (opened : List Entry) (journal : List Event) (notes : List Note) → HasOrder old
    → Deeds opened (saved_of journal notes old) (Done (Marked w) ∷ (Lost action (state_of (journal ++ Mark w ∷ events) would) ∷ [])) (saved_of (journal ++ Mark w ∷ []) notes new)

-- a tree as it opens with a version is fresh on the version's tables, whatever its counters
abbrev pub OpenedIsFresh : Type 0
OpenedIsFresh = (config : Config) (version : SeenVersion) (next_table : ℕ) → IsFresh (placed_of version.levels) (saved_of [] [] (opened_core config version next_table))
