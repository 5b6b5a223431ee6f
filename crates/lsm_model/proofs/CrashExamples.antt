-- Two lives with a crash in a flush and one in a clear, and why the beginnings are as they are.
use Rattle.std.proofs.Common.{◌≡◌, true, false, List, [], ◌∷◌, ◌++◌, Some, None, take, drop, refl, arith, inl, inr}
use Rattle.lsm_below.specs.Entries.{entry_at}
use Rattle.lsm_below.specs.declared.value_type.ValueType.TheVariants.{Value}
use Rattle.lsm_model.specs.Journal.{Event, is_outside}
use Rattle.lsm_model.specs.Views.{Placed, emptied}
use Rattle.lsm_model.specs.Steps.{State, history}
use Rattle.lsm_model.specs.Beginnings.{is_spared, Note, SealedAt, FlushedIds, ClearLost, covered, Saved}
use Rattle.lsm_model.specs.declared.journal.JournalEntry.TheVariants.{Write, Clear, Install, Dropped}
use Rattle.lsm_model.proofs.Merges.{of_tables}
use Rattle.lsm_model.proofs.Examples.{key, set0, table, sv, state, m0, m1, m2}
use Rattle.lsm_model.proofs.Beginnings.{begun, newest}

abbrev pub saved : State → List Note → List (List Placed) → Saved
saved t notes others = record { state = t; notes = notes; others = others }

abbrev one : List Placed
one = table 0 set0 ∷ []

-- ---- the first life: a set, a rotation, and a flush in which the crash comes

abbrev pub a1 : Saved
a1 = saved (state (Write set0 ∷ []) m1 (sv 0 0 [] []) []) [] []

abbrev pub a2 : Saved
a2 = saved (state (Write set0 ∷ []) m2 (sv 0 1 (0 ∷ []) []) []) (SealedAt 0 1 ∷ []) []

abbrev pub a3 : Saved
a3 = saved (state (Write set0 ∷ (Install 1 ∷ [])) m2 (sv 1 1 [] one) (sv 0 1 (0 ∷ []) [] ∷ [])) (FlushedIds (0 ∷ []) ∷ (SealedAt 0 1 ∷ [])) []

-- ---- the second one: opened on what was flushed, a clear of unknown outcome

abbrev b0 : Saved
b0 = saved (state [] m0 (sv 0 0 [] one) []) [] []

abbrev pub cleared : State
cleared = state (Clear 1 ∷ []) (emptied m0 1) (sv 1 1 [] []) (history b0.state)

abbrev b1 : Saved
b1 = saved b0.state (ClearLost 1 0 ∷ []) ([] ∷ [])

-- In flight what was covered before the call counts: the old version of the flush shows nothing, and each beginning from place 1 on shows the set.
covered_before_counts : (covered a2.notes ≡ 0) × (covered a3.notes ≡ 1) × (newest (of_tables key []) ≡ None) × (begun key None (take 1 a3.state.journal) ≡ Some (7 ∷ [])) × (begun key None (take 2 a3.state.journal) ≡ Some (7 ∷ []))
covered_before_counts = (refl, refl, refl, refl, refl)

-- A flushed set, a drop of its table, and a set after it that is not flushed: nothing is left, place 1 is covered.
-- Measured by the key's last call in the whole journal the key is outside, and no beginning from place 1 on shows nothing.
-- Measured by its last call before the place it is in the dropped range.
abbrev dropped_then_set : List Event
dropped_then_set = Write set0 ∷ (Install 1 ∷ (Dropped (record { min = key; max = key } ∷ []) 2 ∷ (Install 2 ∷ (Write (entry_at key 3 Value (8 ∷ [])) ∷ []))))

last_call_before_the_place : (is_outside key 9 dropped_then_set ≡ true) × (begun key None (take 1 dropped_then_set) ≡ Some (7 ∷ [])) × (begun key None (take 4 dropped_then_set) ≡ Some (7 ∷ [])) × (begun key None (take 5 dropped_then_set) ≡ Some (8 ∷ [])) × (is_spared key (take 1 dropped_then_set) (drop 1 dropped_then_set) ≡ false) × (is_spared key (take 4 dropped_then_set) (drop 4 dropped_then_set) ≡ false)
last_call_before_the_place = (refl, refl, refl, refl, refl, refl)

-- Nor do drops at the front alone suffice: the beginning at place 1 has the set, and the drop comes after that place.
drops_behind_count : (is_spared key (take 1 dropped_then_set) [] ≡ true) × (newest (of_tables key []) ≡ None)
drops_behind_count = (refl, refl)

-- Without its clear no beginning of the second life shows nothing: the starting map has the set.
lost_clear_counts : (begun key (Some (7 ∷ [])) (take 0 b1.state.journal) ≡ Some (7 ∷ [])) × (begun key (Some (7 ∷ [])) (take 0 b1.state.journal ++ Clear 1 ∷ []) ≡ None)
lost_clear_counts = (refl, refl)
