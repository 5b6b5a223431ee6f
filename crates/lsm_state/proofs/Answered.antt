-- A range is a step of the theory, where sequence numbers fall under each key.
use Rattle.std.proofs.Common.{◌≡◌, ℕ, List, [], ◌∷◌, ◌++◌, map, filter, Some, None, nat_lt, sym, ap, subst, ◌∙◌}
use Rattle.std.specs.List.{AllByRecursion}
use Rattle.std.specs.declared.ops.Bound.{Bound}
use Rattle.lsm_below.specs.Keys.{Bytes}
use Rattle.lsm_below.specs.Entries.{Entry, IsOrdered}
use Rattle.lsm_below.specs.Each.{each_right}
use Rattle.lsm_model.specs.declared.journal.JournalEntry.TheVariants.{Read}
use Rattle.lsm_model.specs.declared.question.Question.{Question}
use Rattle.lsm_model.specs.declared.question.Answer.TheVariants.{Pairs}
use Rattle.lsm_model.specs.declared.question.Question.TheVariants.{Between, Prefix}
use Rattle.lsm_model.specs.Views.{sources, entries, answered, found_at, Memtables, SuperVersion}
use Rattle.lsm_model.specs.Laws.{PartsAreWhole}
use Rattle.lsm_iter.specs.Guards.{pair_of}
use Rattle.lsm_iter.specs.Shown.{Shows, ShowsPrefix}
use Rattle.lsm_iter.specs.Reads.{at, all_counted}
use Rattle.lsm_iter.specs.Answers.{ShownIsAnswer, ShownIsPrefixAnswer}
use Rattle.lsm_parts.specs.Held.{entries_of}
use Rattle.lsm_state.specs.Core.{Core, latest_of, older_of}
use Rattle.lsm_state.specs.Ranges.{Ranges, Prefixes, IsListStep, IsRangeStep, IsPrefixStep}
use Rattle.lsm_state.proofs.Counted.{counted_below}

-- what holds of each super version holds of the one that a snapshot finds
pub of_found : PartsAreWhole → (P : SuperVersion → Type 0) (s : ℕ) (c : Core) (sv : SuperVersion) → found_at s (latest_of c) (older_of c) ≡ Some sv → AllByRecursion P (latest_of c ∷ older_of c) → P sv
of_found parts P s c sv found h =
    let there = parts.found s (latest_of c) (older_of c) sv found in
    (each_right P there.0 (sv ∷ there.1) (subst (AllByRecursion P) there.2 h)).0

-- what a super version answers is a step, where the theory answers so from its sources
list_step : PartsAreWhole → (c : Core) (question : Question) (s : ℕ) (out : List Entry) (sv : SuperVersion) → found_at s (latest_of c) (older_of c) ≡ Some sv → (IsOrdered (sources (entries_of c.memtables) sv) → answered s (sources (entries_of c.memtables) sv) question ≡ Pairs (map pair_of out)) → IsListStep c question s (map pair_of out)
list_step parts c question s out sv found told opened journal reaches ordered =
    let mems = entries_of c.memtables in
    let falling : IsOrdered (sources mems sv) = of_found parts (λ v. IsOrdered (sources mems v)) s c sv found ordered in
    (sv, reaches, found, ap (λ a. record { journal = journal ++ Read s question a ∷ []; mems = mems; latest = latest_of c; older = older_of c }) (sym (told falling)))

-- the entries of a super version that count, source by source
pub counts : PartsAreWhole → (mems : Memtables) (s : ℕ) (sv : SuperVersion) → filter (λ e. nat_lt e.key.seqno s) (entries mems sv) ≡ all_counted (map (at s) (sources mems sv))
counts parts mems s sv = ap (filter (λ (e : Entry). nat_lt e.key.seqno s)) (sym (parts.whole mems sv)) ∙ sym (counted_below s (sources mems sv))

pub range_step : PartsAreWhole → ShownIsAnswer → (c : Core) (low high : Bound Bytes) (s : ℕ) (out : List Entry) → Ranges c None low high s out → IsRangeStep c low high s out
range_step parts is_answer c low high s out h =
    let mems = entries_of c.memtables in
    list_step parts c (Between low high) s out h.0 h.1 (λ falling. is_answer s (sources mems h.0) low high out falling (subst (λ es. Shows low high es out) (counts parts mems s h.0) h.2))

pub prefix_step : PartsAreWhole → ShownIsPrefixAnswer → (c : Core) (prefix : Bytes) (s : ℕ) (out : List Entry) → Prefixes c None prefix s out → IsPrefixStep c prefix s out
prefix_step parts is_answer c prefix s out h =
    let mems = entries_of c.memtables in
    list_step parts c (Prefix prefix) s out h.0 h.1 (λ falling. is_answer s (sources mems h.0) prefix out falling (subst (λ es. ShowsPrefix prefix es out) (counts parts mems s h.0) h.2))
