-- What usual steps add is numbered by the counter.
use Rattle.std.proofs.Common.{◌≡◌, ⊎_elim, ℕ, ◌+◌, ◌≤◌, ◌⊎◌, arith, List, [], ◌∷◌, ◌++◌, map, refl, sym, subst}
use Rattle.std.specs.List.{AllByRecursion}
use Rattle.lsm_runs.specs.Each.{each_append, each_weaker}
use Rattle.lsm_runs.specs.Entries.{Entry}
use Rattle.lsm_runs.specs.Journal.{Event}
use Rattle.lsm_model.specs.declared.journal.JournalEntry.TheVariants.{Write as Wrote, Clear, Install, Dropped, Mark, Read}
use Rattle.lsm_runs.specs.Outcomes as out
use Rattle.lsm_runs.specs.Rising.{Drawing, Silent, Draws, IsUnnumbered, IsBatch, IsCommitted, UsesNumbers, EachUses}
use Rattle.lsm_runs.specs.declared.steps.Step.{Step}
use Rattle.lsm_runs.specs.declared.steps.Reply.{Reply}
use Rattle.lsm_runs.specs.Drawing.{drawing_of, asks_of}
use Rattle.lsm_runs.specs.Lives.{told_of}
use Rattle.example_crash.specs.Survival.{IsNumbered, EachDraws}
use Rattle.example_crash.proofs.Usual.{OnlyDraws, usual_draws}

module _ (old new : ℕ) where
  unnumbered : (x : Event) → IsUnnumbered x → IsNumbered old new x
  unnumbered (Wrote e) is = absurd is
  unnumbered (Clear n) is = absurd is
  unnumbered (Install n) is = absurd is
  unnumbered (Dropped ranges n) is = tt
  unnumbered (Mark w) is = tt
  unnumbered (Read s question told) is = tt

  written : new ≡ old + 1 → (entries : List Entry) → AllByRecursion (λ e. e.key.seqno ≡ old) entries → AllByRecursion (IsNumbered old new) (map Wrote entries)
  written next [] h = tt
  written next (e ∷ entries) h = ((h.0, next), written next entries h.1)

  batch : (events : List Event) → new ≡ old + 1 → IsBatch old events → AllByRecursion (IsNumbered old new) events
  batch events next b = subst (AllByRecursion (IsNumbered old new)) (sym b.are) (written next b.entries b.numbered)

  committed : (events : List Event) → new ≡ old + 1 → IsCommitted old events → AllByRecursion (IsNumbered old new) events
  committed events next c =
      let all = each_weaker IsUnnumbered (IsNumbered old new) unnumbered in
      let one = ⊎_elim (λ (e : c.event ≡ Install old). subst (IsNumbered old new) (sym e) (refl, next)) (λ (e : c.event ≡ Clear old). subst (IsNumbered old new) (sym e) (refl, next)) c.is in
      subst (AllByRecursion (IsNumbered old new)) (sym c.are) (each_append (IsNumbered old new) c.front (c.event ∷ c.back) (all c.front c.before) (one, all c.back c.after))

  drawn : (call : Drawing) → OnlyDraws call → (events : List Event) → UsesNumbers call events old new → (old ≤ new) × (new ≤ old + 1) × AllByRecursion (IsNumbered old new) events
  drawn Silent only events uses = let same = uses.1 in (omega (arith, same), omega (arith, same), each_weaker IsUnnumbered (IsNumbered old new) unnumbered events uses.0)
  drawn Draws only events uses =
      ⊎_elim (λ (h : AllByRecursion IsUnnumbered events × (old ≤ new) × (new ≤ old + 1)). (h.1, h.2, each_weaker IsUnnumbered (IsNumbered old new) unnumbered events h.0))
      (λ (h : (new ≡ old + 1) × (IsBatch old events ⊎ IsCommitted old events)). let next = h.0 in (omega (arith, next), omega (arith, next), ⊎_elim (batch events next) (committed events next) h.1)) uses
  drawn call only events uses = absurd only

pub each_draws : (steps : List Step) (outcomes : List (out.Told Reply)) (old : ℕ) (counters : List ℕ) → EachUses (map asks_of steps) outcomes old counters → EachDraws old counters steps (map told_of outcomes)
each_draws [] [] old [] uses = tt
each_draws (x ∷ steps) (o ∷ outcomes) old (new ∷ counters) uses = (λ usual. drawn old new (drawing_of x) (usual_draws x usual) o.entries uses.0, each_draws steps outcomes new counters uses.2)
each_draws [] [] old (new ∷ counters) uses = absurd uses
each_draws [] (o ∷ outcomes) old counters uses = absurd uses
each_draws (x ∷ steps) [] old counters uses = absurd uses
each_draws (x ∷ steps) (o ∷ outcomes) old [] uses = absurd uses
