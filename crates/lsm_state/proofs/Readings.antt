-- Reads over many keys, of what an iterator reads.
use Rattle.std.proofs.Common.{◌≡◌, ℕ, List, Option, Some, None, Result, Ok, Err, IfOk, IfErr, inr, sym, ◌∙◌, subst}
use Rattle.std.specs.declared.ops.Bound.{Bound}
use Rattle.std.specs.declared.ops.Bound.TheVariants.{Unbounded}
use Rattle.lsm_below.specs.Keys.{Bytes}
use Rattle.lsm_below.specs.Entries.{Entry}
use Rattle.lsm_below.specs.declared.error.Error.{Error}
use Rattle.lsm_below.specs.declared.error.Error.TheVariants.{OutOfMemory}
use Rattle.lsm_iter.specs.Ends.{EndShown, NumberShown}
use Rattle.lsm_iter.specs.Left.{SeenIter, copied_within}
use Rattle.lsm_iter.specs.Prefixes.{LetsInJust}
use Rattle.lsm_iter.specs.Reads.{SeenState, counted_at}
use Rattle.lsm_iter.specs.Shown.{Shows, ShowsPrefix}
use Rattle.lsm_iter.specs.declared.tree_iter.End.{End}
use Rattle.lsm_state.specs.Calls.{RefusesRead}
use Rattle.lsm_state.specs.Copies.{IsReading}
use Rattle.lsm_state.specs.Core.{Core}
use Rattle.lsm_state.specs.ListSteps.{ListsAreSteps}
use Rattle.lsm_state.specs.Ranges.{Index, AtVersion, Ranges, Prefixes, Numbers, EndOf}
use Rattle.lsm_state.specs.Reading.{Reads, ReadsRange, ReadsPrefix, LendsRange, LendsPrefix}

module _ (c : Core) (index : Index) (s : ℕ) (st : SeenState) (read : AtVersion c s (λ sv. IsReading c.memtables index sv st)) where
  -- a super version was found, so only memory may be missing
  refused : {A : Type 0} (r : Result A Error) → IfErr r (λ e. e ≡ OutOfMemory) → RefusesRead c s r
  refused (Ok x) only = record { too_old = (λ h. absurd (cc h), λ none. absurd (let bad : None ≡ Some read.0 = sym none ∙ read.1 in cc bad)); only = tt }
  refused (Err e) only = record { too_old = (λ old. absurd (cc (only, old)), λ none. absurd (let bad : None ≡ Some read.0 = sym none ∙ read.1 in cc bad)); only = inr only }

  in_range : (low high : Bound Bytes) (out : List Entry) → Shows low high (counted_at s st) out → Ranges c index low high s out
  in_range low high out shows = (read.0, read.1, subst (λ es. Shows low high es out) (read.2.counts s) shows)

  in_prefix : (prefix : Bytes) (out : List Entry) → ShowsPrefix prefix (counted_at s st) out → Prefixes c index prefix s out
  in_prefix prefix out shows = (read.0, read.1, subst (λ es. ShowsPrefix prefix es out) (read.2.counts s) shows)

  pub reads_range : ListsAreSteps → (low high : Bound Bytes) (r : Result SeenIter Error) → IfOk r (λ iter. Shows low high (counted_at s st) iter.left) → IfOk r (λ iter. iter.held ≡ copied_within low high s st) → IfErr r (λ e. e ≡ OutOfMemory) → ReadsRange c index low high s r
  reads_range steps low high (Ok iter) shows held only =
      let ranges = in_range low high iter.left shows in
      record {
        ok = ranges;
        held = (read.0, read.1, held ∙ read.2.copied low high s);
        step = λ none. steps.range c low high s iter.left (subst (λ i. Ranges c i low high s iter.left) none ranges);
        refuses = refused (Ok iter) only;
      }
  reads_range steps low high (Err e) shows held only = record { ok = tt; held = tt; step = λ none. tt; refuses = refused (Err e) only }

  pub lends_range : ListsAreSteps → (low high : Bound Bytes) (r : Result (List Entry) Error) → IfOk r (λ pairs. Shows low high (counted_at s st) pairs) → IfErr r (λ e. e ≡ OutOfMemory) → LendsRange c index low high s r
  lends_range steps low high (Ok pairs) shows only =
      let ranges = in_range low high pairs shows in
      record { ok = ranges; step = λ none. steps.range c low high s pairs (subst (λ i. Ranges c i low high s pairs) none ranges); refuses = refused (Ok pairs) only }
  lends_range steps low high (Err e) shows only = record { ok = tt; step = λ none. tt; refuses = refused (Err e) only }

  pub reads_prefix : ListsAreSteps → (prefix : Bytes) (r : Result SeenIter Error) → IfOk r (λ iter. ShowsPrefix prefix (counted_at s st) iter.left)
      → IfOk r (λ iter. (low high : Bound Bytes) × LetsInJust prefix low high × (iter.held ≡ copied_within low high s st)) → IfErr r (λ e. e ≡ OutOfMemory) → ReadsPrefix c index prefix s r
  reads_prefix steps prefix (Ok iter) shows held only =
      let prefixes = in_prefix prefix iter.left shows in
      record {
        ok = prefixes;
        held = (read.0, read.1, (held.0, held.1, held.2, held.3 ∙ read.2.copied held.0 held.1 s));
        step = λ none. steps.prefix c prefix s iter.left (subst (λ i. Prefixes c i prefix s iter.left) none prefixes);
        refuses = refused (Ok iter) only;
      }
  reads_prefix steps prefix (Err e) shows held only = record { ok = tt; held = tt; step = λ none. tt; refuses = refused (Err e) only }

  pub lends_prefix : ListsAreSteps → (prefix : Bytes) (r : Result (List Entry) Error) → IfOk r (λ pairs. ShowsPrefix prefix (counted_at s st) pairs) → IfErr r (λ e. e ≡ OutOfMemory) → LendsPrefix c index prefix s r
  lends_prefix steps prefix (Ok pairs) shows only =
      let prefixes = in_prefix prefix pairs shows in
      record { ok = prefixes; step = λ none. steps.prefix c prefix s pairs (subst (λ i. Prefixes c i prefix s pairs) none prefixes); refuses = refused (Ok pairs) only }
  lends_prefix steps prefix (Err e) shows only = record { ok = tt; step = λ none. tt; refuses = refused (Err e) only }

  pub reads_number : (r : Result ℕ Error) → IfOk r (NumberShown Unbounded Unbounded (counted_at s st)) → IfErr r (λ e. e ≡ OutOfMemory) → Reads (Numbers c index s) c s r
  reads_number (Ok n) shown only = record { ok = (shown.0, in_range Unbounded Unbounded shown.0 shown.1, shown.2); refuses = refused (Ok n) only }
  reads_number (Err e) shown only = record { ok = tt; refuses = refused (Err e) only }

  pub reads_end : (end : End) (r : Result (Option Entry) Error) → IfOk r (EndShown end Unbounded Unbounded (counted_at s st)) → IfErr r (λ e. e ≡ OutOfMemory) → Reads (EndOf end c index s) c s r
  reads_end end (Ok e) shown only = record { ok = (read.0, read.1, subst (λ es. EndShown end Unbounded Unbounded es e) (read.2.counts s) shown); refuses = refused (Ok e) only }
  reads_end end (Err x) shown only = record { ok = tt; refuses = refused (Err x) only }
