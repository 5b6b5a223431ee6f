-- Counters that stand above what was found.
use Rattle.std.proofs.Common.{◌≡◌, ℕ, ◌+◌, ◌^◌, ◌<◌, ◌≤◌, List, [], ◌∷◌, ◌++◌, max, Result, Ok, Err, IfOk, ap, sym, subst, ◌∙◌, arith}
use Rattle.std.specs.List.{AllByRecursion}
use Rattle.lsm_below.specs.Entries.{Entry, above}
use Rattle.lsm_below.specs.Optimizes.{tables_of}
use Rattle.lsm_below.specs.Sums.{capped}
use Rattle.lsm_tables.specs.Tables.{SeenTable}
use Rattle.lsm_model.specs.Views.{Placed, placed_at, placed_from, held}
use Rattle.lsm_versions.specs.Levels.{Levels, SeenVersion, placed_of, placed_in, shown_table, shown_levels}
use Rattle.lsm_versions.specs.TableLaws.{map_append, placed_cons, held_both, above-append}
use Rattle.lsm_versions.specs.Configs.{raised}
use Rattle.lsm_versions.specs.declared.config.Config.{Config}
use Rattle.lsm_manifest.specs.Standing.{HasSmallNumbers}
use Rattle.lsm_state.specs.Core.{Core, Seen, opened_core}
use Rattle.lsm_state.specs.Opened.{found_entries}

abbrev IsSmall : Entry → Type 0
IsSmall e = e.key.seqno < 2 ^ 63

small_entries : (es : List Entry) → AllByRecursion IsSmall es → above es ≤ 2 ^ 63
small_entries [] h = omega arith
small_entries (e ∷ es) h = let rest = small_entries es h.1 in omega (arith, h.0, rest)

-- together they are as small as each
both : (xs ys : List Placed) → above (held xs) ≤ 2 ^ 63 → above (held ys) ≤ 2 ^ 63 → above (held (xs ++ ys)) ≤ 2 ^ 63
both xs ys one other = let is = ap above (held_both xs ys) ∙ above-append (held xs) (held ys) in omega (arith, is, one, other)

small_tables : (n : ℕ) (ts : List SeenTable) → AllByRecursion (λ t. AllByRecursion IsSmall t.entries) ts → above (held (placed_in n ts)) ≤ 2 ^ 63
small_tables n [] h = omega arith
small_tables n (t ∷ ts) h =
    let is = above-append t.entries (held (placed_in n ts)) in
    let first = small_entries t.entries h.0 in
    let rest = small_tables n ts h.1 in
    omega (arith, is, first, rest)

small_runs : (n : ℕ) (runs : List (List SeenTable)) → AllByRecursion (λ r. AllByRecursion (λ t. AllByRecursion IsSmall t.entries) r) runs → above (held (placed_in n (tables_of runs))) ≤ 2 ^ 63
small_runs n [] h = omega arith
small_runs n (run ∷ runs) h =
    rw (map_append (λ (t : SeenTable). placed_at n (shown_table t)) run (tables_of runs)) (both (placed_in n run) (placed_in n (tables_of runs)) (small_tables n run h.0) (small_runs n runs h.1))

small_levels : (n : ℕ) (levels : Levels) → HasSmallNumbers levels → above (held (placed_from n (shown_levels levels))) ≤ 2 ^ 63
small_levels n [] h = omega arith
small_levels n (runs ∷ levels) h =
    rw (placed_cons n runs levels) (both (placed_in n (tables_of runs)) (placed_from (n + 1) (shown_levels levels)) (small_runs n runs h.0) (small_levels (n + 1) levels h.1))

-- a number that is raised so stands above all
raised_above : (levels : Levels) (n m : ℕ) → HasSmallNumbers levels → m ≡ max n (capped (above (held (placed_of levels)))) → above (held (placed_of levels)) ≤ m
raised_above levels n m small is = let h = small_levels 0 levels small in omega (arith, h, is)

-- so do both counters of a tree that is opened so
abbrev IsRaised : Config → Core → Type 0
IsRaised config c = c ≡ opened_core (raised (capped (above (found_entries c))) config) c.history.latest.version c.next_table

pub seqno_above : {S E : Type 0} (config : Config) (r : Result (Seen S) E) → IfOk r (λ t. IsRaised config t.core) → IfOk r (λ t. HasSmallNumbers t.core.history.latest.version.levels) → IfOk r (λ t. above (found_entries t.core) ≤ t.core.seqno)
seqno_above config (Ok t) is small = raised_above t.core.history.latest.version.levels config.seqno t.core.seqno small (ap (λ (c : Core). c.seqno) is)
seqno_above config (Err e) is small = tt

pub visible_above : {S E : Type 0} (config : Config) (r : Result (Seen S) E) → IfOk r (λ t. IsRaised config t.core) → IfOk r (λ t. HasSmallNumbers t.core.history.latest.version.levels) → IfOk r (λ t. above (found_entries t.core) ≤ t.core.visible_seqno)
visible_above config (Ok t) is small = raised_above t.core.history.latest.version.levels config.visible_seqno t.core.visible_seqno small (ap (λ (c : Core). c.visible_seqno) is)
visible_above config (Err e) is small = tt

-- a tree of what was found, with such a configuration
module _ {S E : Type 0} (config made : Config) (v : SeenVersion) (next : ℕ) (r : Result (Seen S) E) (is : made ≡ raised (capped (above (held (placed_of v.levels)))) config) where
  raised_so : IfOk r (λ t. t.core ≡ opened_core made v next) → IfOk r (λ t. IsRaised config t.core)
  raised_so core = by_answer r core
    where
      by_answer : (q : Result (Seen S) E) → IfOk q (λ t. t.core ≡ opened_core made v next) → IfOk q (λ t. IsRaised config t.core)
      by_answer (Ok t) same = subst (IsRaised config) (sym same) (ap (λ (k : Config). opened_core k v next) is)
      by_answer (Err e) same = tt

  small_so : IfOk r (λ t. t.core ≡ opened_core made v next) → HasSmallNumbers v.levels → IfOk r (λ t. HasSmallNumbers t.core.history.latest.version.levels)
  small_so core small = by_answer r core
    where
      by_answer : (q : Result (Seen S) E) → IfOk q (λ t. t.core ≡ opened_core made v next) → IfOk q (λ t. HasSmallNumbers t.core.history.latest.version.levels)
      by_answer (Ok t) same = subst (λ (c : Core). HasSmallNumbers c.history.latest.version.levels) (sym same) small
      by_answer (Err e) same = tt

  pub found_seqno : IfOk r (λ t. t.core ≡ opened_core made v next) → HasSmallNumbers v.levels → IfOk r (λ t. above (found_entries t.core) ≤ t.core.seqno)
  found_seqno core small = seqno_above config r (raised_so core) (small_so core small)

  pub found_visible : IfOk r (λ t. t.core ≡ opened_core made v next) → HasSmallNumbers v.levels → IfOk r (λ t. above (found_entries t.core) ≤ t.core.visible_seqno)
  found_visible core small = visible_above config r (raised_so core) (small_so core small)
