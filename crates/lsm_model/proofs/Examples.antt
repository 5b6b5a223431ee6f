-- One run with writes, flushes, an evicting merge and a read: the premises can be met. And why a key with a weak tombstone has one set.
use Rattle.std.proofs.Common.{◌≡◌, ℕ, ◌+◌, ◌≤◌, ◌&&◌, true, false, cond, List, [], ◌∷◌, ◌++◌, Some, None, refl, arith}
use Rattle.std.specs.FinMap.{empty, get-empty}
use Rattle.lsm_below.specs.Keys.{Bytes, is_same, bytes_cmp}
use Rattle.lsm_below.specs.Entries.{Entry, stack, keep, entry_at, weak_tombstone_at, tombstone_at}
use Rattle.lsm_below.specs.declared.value_type.ValueType.TheVariants.{Value}
use Rattle.lsm_model.specs.Journal.{Event, InOrder, sets_of}
use Rattle.lsm_model.specs.Views.{seen, sources, IsAllowed, Memtables, Placed, SuperVersion, written, answered, emptied}
use Rattle.lsm_model.specs.Steps.{State, among, Action, ReadsEqualReplay, Wrote, Rotated, Flushed, Merged, Asked, Run, IsOpened}
use Rattle.lsm_model.specs.declared.journal.JournalEntry.TheVariants.{Write, Install, Read}
use Rattle.lsm_model.specs.declared.question.Question.TheVariants.{Get}
use Rattle.lsm_model.specs.Counted.{Counted, events_of, InCountedOrder}
use Rattle.lsm_model.proofs.Runs.{every_run}

abbrev pub key : Bytes
key = 1 ∷ []

abbrev pub set0 : Entry
set0 = entry_at key 0 Value (7 ∷ [])

abbrev weak2 : Entry
weak2 = weak_tombstone_at key 2

abbrev pub table : ℕ → Entry → Placed
table i e = record { level = 0; table = record { id = i; range = record { min = key; max = key }; entries = e ∷ [] } }

abbrev pub sv : ℕ → ℕ → List ℕ → List Placed → SuperVersion
sv n a sealed tables = record { number = n; active = a; sealed = sealed; tables = tables }

abbrev pub state : List Event → Memtables → SuperVersion → List SuperVersion → State
state j m latest older = record { journal = j; mems = m; latest = latest; older = older }

abbrev pub m0 : Memtables
m0 = λ i. []

abbrev pub m1 : Memtables
m1 = written m0 0 set0

abbrev pub m2 : Memtables
m2 = emptied m1 1

abbrev m3 : Memtables
m3 = written m2 1 weak2

abbrev m4 : Memtables
m4 = emptied m3 2

abbrev j2 : List Event
j2 = Write set0 ∷ (Install 1 ∷ [])

abbrev j4 : List Event
j4 = j2 ++ (Write weak2 ∷ (Install 3 ∷ []))

abbrev j6 : List Event
j6 = j4 ++ (Install 4 ∷ (Read 5 (Get key) (answered 5 (sources m4 (sv 4 2 [] [])) (Get key)) ∷ []))

abbrev sv0 : SuperVersion
sv0 = sv 0 1 (0 ∷ []) []

abbrev sv1 : SuperVersion
sv1 = sv 1 2 (1 ∷ []) (table 0 set0 ∷ [])

abbrev sv3 : SuperVersion
sv3 = sv 3 2 [] (table 1 weak2 ∷ (table 0 set0 ∷ []))

abbrev first : State
first = state [] m0 (sv 0 0 [] []) []

abbrev last : State
last = state j6 m4 (sv 4 2 [] []) (sv3 ∷ (sv1 ∷ (sv0 ∷ [])))

abbrev actions : List Action
actions = Wrote set0 ∷ (Rotated 1 ∷ (Flushed 0 (0 ∷ []) (table 0 set0 ∷ []) ∷ (Wrote weak2 ∷ (Rotated 2 ∷ (Flushed 0 (1 ∷ []) (table 1 weak2 ∷ []) ∷ (Merged 4 6 (0 ∷ (1 ∷ [])) true [] ∷ (Asked 5 (Get key) ∷ [])))))))

pub kept_one : (k : Bytes) (e : Entry) (w : ℕ) → stack k (e ∷ []) ≡ keep w false (stack k (e ∷ []))
kept_one k e w = elim (is_same k e.key.user_key) as (λ b. cond b (e ∷ []) [] ≡ keep w false (cond b (e ∷ []) [])) [ true ↦ refl | false ↦ refl ]

kept_none : (k : Bytes) → [] ≡ keep 4 true (stack k (weak2 ∷ (set0 ∷ [])))
kept_none k = elim (is_same k key) as (λ b. [] ≡ keep 4 true (cond b (weak2 ∷ cond b (set0 ∷ []) []) (cond b (set0 ∷ []) []))) [ true ↦ refl | false ↦ refl ]

opened : IsOpened [] empty first
opened = record { journal = refl; number = refl; active = refl; sealed = refl; tables = refl; laid = record { covers = tt; by_level = tt }; older = refl; ordered = λ k. tt; single = λ k. tt; starts = λ k. get-empty bytes_cmp k }

in_order : InOrder [] (last.journal)
in_order = (
  record { after_installs = omega arith; after_own = omega arith; single = λ w. omega arith },
  (
    omega arith,
    (
      record { after_installs = omega arith; after_own = omega arith; single = λ w. omega arith },
      (omega arith, (omega arith, (tt, tt))),
    ),
  ),
)

allowed : IsAllowed 6 (among (0 ∷ (1 ∷ []))) true (table 1 weak2 ∷ (table 0 set0 ∷ []))
allowed = ((λ o. record { order_before = λ h. absurd (cc h); order_behind = λ h g. absurd (cc g); eviction = λ e h. refl }, tt), (tt, tt))

run : Run [] first actions last
run = (
  state (Write set0 ∷ []) m1 (sv 0 0 [] []) [],
  record { journal = refl; mems = λ k i. refl; latest = refl; older = refl },
  (
    state (Write set0 ∷ []) m2 (sv 0 1 (0 ∷ []) []) [],
    (omega arith, refl),
    (
      state j2 m2 (sv 1 1 [] (table 0 set0 ∷ [])) (sv0 ∷ []),
      record { commit = record { journal = refl; mems = refl; active = refl; older = refl; laid = record { covers = ((refl, tt), tt); by_level = (tt, tt) } }; sealed = refl; covers = ((refl, tt), tt); placed = λ k. refl; kept = λ o k. kept_one k set0 0 },
      (
        state (j2 ++ Write weak2 ∷ []) m3 (sv 1 1 [] (table 0 set0 ∷ [])) (sv0 ∷ []),
        record { journal = refl; mems = λ k i. refl; latest = refl; older = refl },
        (
          state (j2 ++ Write weak2 ∷ []) m4 sv1 (sv0 ∷ []),
          (omega arith, refl),
          (
            state j4 m4 sv3 (sv1 ∷ (sv0 ∷ [])),
            record { commit = record { journal = refl; mems = refl; active = refl; older = refl; laid = record { covers = ((refl, tt), ((refl, tt), tt)); by_level = ((omega arith, tt), (tt, tt)) } }; sealed = refl; covers = ((refl, tt), tt); placed = λ k. refl; kept = λ o k. kept_one k weak2 0 },
            (
              state (j4 ++ Install 4 ∷ []) m4 (sv 4 2 [] []) (sv3 ∷ (sv1 ∷ (sv0 ∷ []))),
              record { commit = record { journal = refl; mems = refl; active = refl; older = refl; laid = record { covers = tt; by_level = tt } }; sealed = refl; allowed = allowed; covers = tt; placed = λ k. refl; kept = λ o. kept_none },
              (
                last,
                (sv 4 2 [] [], omega arith, refl, refl),
                refl,
              ),
            ),
          ),
        ),
      ),
    ),
  ),
)

-- The reads of this run equal the replay.
pub example_reads : ReadsEqualReplay [] empty last
example_reads = every_run [] empty first last actions opened run in_order

-- Its journal with where the counter stood: it is in the order that counter and key ask for.
abbrev at : Event → ℕ → Counted
at x c = record { event = x; counter = c }

abbrev counted : List Counted
counted = at (Write set0) 1 ∷ (at (Install 1) 1 ∷ (at (Write weak2) 3 ∷ (at (Install 3) 3 ∷ (at (Install 4) 4 ∷ (at (Read 5 (Get key) (answered 5 (sources m4 (sv 4 2 [] [])) (Get key))) 5 ∷ [])))))

counted_journal : events_of counted ≡ j6
counted_journal = refl

one_set : (k : Bytes) → sets_of k [] j6 ≤ 1
one_set k = elim (is_same k key) as (λ b. cond (b && false) (cond (b && true) 1 0 + 1) (cond (b && true) 1 0) ≤ 1) [ true ↦ omega arith | false ↦ omega arith ]

counted_order : InCountedOrder [] counted
counted_order = record {
  counter = (omega arith, (omega arith, (omega arith, (omega arith, (omega arith, (omega arith, tt))))));
  drawn = (omega arith, (refl, (omega arith, (refl, (refl, (tt, tt))))));
  earlier = ((tt, (λ h. omega arith, (tt, (tt, (tt, tt))))), ((omega arith, (tt, (tt, (tt, tt)))), ((tt, (tt, (tt, tt))), ((tt, (tt, tt)), ((tt, tt), (tt, tt))))));
  over_opened = (omega arith, (tt, (omega arith, (tt, (tt, (tt, tt))))));
  single = λ k h. one_set k;
}

-- Set, Weak, Set, Weak of one key: with the first Set in a table below, a flush of the rest keeps nothing, and the first value is back.
abbrev twice : List Entry
twice = weak_tombstone_at key 4 ∷ (entry_at key 3 Value (8 ∷ []) ∷ (weak2 ∷ []))

two_sets_come_back : (seen 9 (twice ++ set0 ∷ []) ≡ None) × (seen 9 (keep 5 false twice ++ set0 ∷ []) ≡ Some (7 ∷ []))
two_sets_come_back = (refl, refl)

-- One set for each weak tombstone is not enough either where tables are dropped: Set, Weak, a drop of the weak tombstone's table alone,
-- Set, Weak. The last call comes after the drop, and yet a flush of the last two shows the first value.
abbrev later_two : List Entry
later_two = weak_tombstone_at key 5 ∷ (entry_at key 4 Value (8 ∷ []) ∷ [])

dropped_between : (seen 9 (later_two ++ set0 ∷ []) ≡ None) × (seen 9 (keep 9 false later_two ++ set0 ∷ []) ≡ Some (7 ∷ []))
dropped_between = (refl, refl)

-- Below the numbers of opened tables a view is no replay: at 3 a table's entry numbered 5 is not seen, and the starting map has it.
below_opened : (seen 3 (entry_at key 5 Value (7 ∷ []) ∷ []) ≡ None) × (seen 6 (entry_at key 5 Value (7 ∷ []) ∷ []) ≡ Some (7 ∷ []))
below_opened = (refl, refl)

-- Eviction over an older value of an unchosen table brings it back.
evicted_over : seen 9 (keep 0 true (tombstone_at key 5 ∷ []) ++ set0 ∷ []) ≡ Some (7 ∷ [])
evicted_over = refl
