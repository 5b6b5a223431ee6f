-- The inputs of a merge that is begun are tables of the latest version, in which an id stands once.
use Rattle.std.proofs.Common.{◌≡◌, ⊎_elim, ℕ, true, false, eqb, eq-eqb, List, [], ◌∷◌, Option, Some, None, IsSome, Result, Ok, Err, map, refl, sym, ap, ◌∙◌, subst}
use Rattle.std.specs.List.{AllByRecursion, IsDistinct}
use Rattle.lsm_below.specs.Members.{IsIn, in_filter}
use Rattle.lsm_below.specs.Optimizes.{tables_of}
use Rattle.lsm_below.specs.declared.error.Error.{Error}
use Rattle.lsm_below.specs.declared.error.Error.TheVariants.{OutOfMemory, Unrecoverable}
use Rattle.lsm_checks.specs.Choices.{AreOneById}
use Rattle.lsm_checks.specs.declared.choice.Why.{Why}
use Rattle.lsm_compaction.specs.Merges.{SeenCompaction, inputs_in}
use Rattle.lsm_compaction.proofs.Chosen.{inputs_tables}
use Rattle.lsm_model.specs.Steps.{among}
use Rattle.lsm_pick.specs.declared.choice.Choice.{Choice}
use Rattle.lsm_pick.specs.declared.choice.Choice.TheVariants.{DoNothing, Move, Merge, Drop}
use Rattle.lsm_pick.specs.declared.choice.ChooseError.{ChooseError}
use Rattle.lsm_tables.specs.Tables.{SeenTable}
use Rattle.lsm_versions.specs.Levels.{Levels, SeenVersion, all_of, HasOwnIds}
use Rattle.lsm_state.specs.Core.{Core, written_by}
use Rattle.lsm_state.specs.Compactions.{Relation, levels_of, reason_of, job_for, Does, BeginsChoice, BeginsCompaction, error_of}
use Rattle.lsm_state.specs.Kept.{IsKeptTree}
use Rattle.lsm_state.specs.OwnInputs.{BeganHere}
use Rattle.lsm_state.specs.declared.compaction.Begun.{Begun}
use Rattle.lsm_state.specs.declared.compaction.Begun.TheVariants.{Declined, Installed, Job}
use Rattle.lsm_state.specs.declared.compaction.Options.{Options}
use Rattle.lsm_state.proofs.Distinct.{own_behind}

-- ---- an id that stands once

no_such : (i : ℕ) (u : SeenTable) (ts : List SeenTable) → AllByRecursion (λ j. eqb i j ≡ false) (map (λ t. t.id) ts) → IsIn u ts → u.id ≡ i → ⊥
no_such i u [] h k same = absurd k
no_such i u (t ∷ ts) h k same = ⊎_elim
    (λ (e : t ≡ u). let z : true ≡ false = sym (eq-eqb i t.id (sym same ∙ ap (λ (x : SeenTable). x.id) (sym e))) ∙ h.0 in absurd (cc z))
    (λ (j : IsIn u ts). no_such i u ts h.1 j same) k

id_once : (ts : List SeenTable) (t u : SeenTable) → HasOwnIds ts → IsIn t ts → IsIn u ts → u.id ≡ t.id → u ≡ t
unfolding IsDistinct
id_once [] t u own i j same = absurd i
id_once (x ∷ ts) t u own i j same = ⊎_elim
    (λ (e : x ≡ t). ⊎_elim (λ (f : x ≡ u). sym f ∙ e) (λ (k : IsIn u ts). absurd (no_such x.id u ts own.0 k (same ∙ ap (λ (y : SeenTable). y.id) (sym e)))) j)
    (λ (k : IsIn t ts). ⊎_elim (λ (f : x ≡ u). absurd (no_such x.id t ts own.0 k (sym same ∙ ap (λ (y : SeenTable). y.id) (sym f)))) (λ (l : IsIn u ts). id_once ts t u own.1 k l same) j)
    i

one_by_id : (ids : List ℕ) (levels : Levels) → HasOwnIds (all_of levels) → AreOneById (tables_of (inputs_in ids (tables_of levels))) levels
one_by_id ids levels own t u i j same =
    let there = in_filter (λ (x : SeenTable). among ids x.id) (all_of levels) t (subst (IsIn t) (inputs_tables ids (tables_of levels)) i) in
    ap (λ (x : SeenTable). x.entries) (id_once (all_of levels) t u own there.0 j same)

-- ---- a merge that is begun

own_now : (c : Core) → IsKeptTree c → HasOwnIds (all_of (levels_of c))
own_now c kept = own_behind (written_by c.flush) (all_of (levels_of c)) kept.tables.own_ids

of_error : (e : Error) (r : Result Begun Error) (new : Core) → r ≡ Err e → BeganHere r new
of_error e r new is = subst (λ (q : Result Begun Error). BeganHere q new) (sym is) tt

job_is : (a b : SeenCompaction) → ◌≡◌ {A = Begun} (Job a) (Job b) → a ≡ b
job_is a b e = cc e

done_here : (choice : Choice) (o : Options) (r : Result Begun Error) (old new : Core) → HasOwnIds (all_of (levels_of old)) → Does choice o r old new → BeganHere r new
done_here DoNothing o r old new own d = subst (λ (q : Result Begun Error). BeganHere q new) (sym d.0) tt
done_here (Move input) o (Ok (Job job)) old new own d = let z : ◌≡◌ {A = Begun} (Job job) Installed = d.ok in absurd (cc z)
done_here (Move input) o (Ok begun) old new own d = tt
done_here (Move input) o (Err e) old new own d = tt
done_here (Merge input) o (Ok (Job job)) old new own d =
    let is = job_is job (job_for input o old) d.job in
    let levels : levels_of new ≡ levels_of old = ap levels_of d.ok in
    subst (AreOneById (tables_of job.inputs)) (sym levels) (subst (λ (j : SeenCompaction). AreOneById (tables_of j.inputs) (levels_of old)) (sym is) (one_by_id input.table_ids.keys (levels_of old) own))
done_here (Merge input) o (Ok begun) old new own d = tt
done_here (Merge input) o (Err e) old new own d = tt
done_here (Drop ids) o (Ok (Job job)) old new own d = let z : ◌≡◌ {A = Begun} (Job job) Installed = d.ok in absurd (cc z)
done_here (Drop ids) o (Ok begun) old new own d = tt
done_here (Drop ids) o (Err e) old new own d = tt

pub choice_here : (choice : Choice) (o : Options) (r : Result Begun Error) (old new : Core) → IsKeptTree old → BeginsChoice choice o r old new → BeganHere r new
choice_here choice o r old new kept b = by_lost old.lost refl
  where
    by_reason : old.lost ≡ None → (why : Option Why) → reason_of choice old ≡ why → BeganHere r new
    by_reason certain None is = done_here choice o r old new (own_now old kept) (b.does certain is)
    by_reason certain (Some why) is = ⊎_elim (λ (e : r ≡ Ok (Declined why)). subst (λ (q : Result Begun Error). BeganHere q new) (sym e) tt) (λ (e : r ≡ Err OutOfMemory). of_error OutOfMemory r new e) (b.declines why certain is).0

    by_lost : (l : Option SeenVersion) → old.lost ≡ l → BeganHere r new
    by_lost None is = by_reason is (reason_of choice old) refl
    by_lost (Some v) is = of_error Unrecoverable r new (b.unrecoverable.1 (subst (λ (p : Option SeenVersion). IsSome p) (sym is) refl))

pub compaction_here : (may_choose : Relation Choice) (may_refuse : Relation ChooseError) (o : Options) (r : Result Begun Error) (old new : Core) → IsKeptTree old → BeginsCompaction may_choose may_refuse o r old new → BeganHere r new
compaction_here may_choose may_refuse o r old new kept b = by_lost old.lost refl
  where
    by_lost : (l : Option SeenVersion) → old.lost ≡ l → BeganHere r new
    by_lost None is = ⊎_elim (λ chosen. choice_here chosen.0 o r old new kept chosen.2) (λ refused. of_error (error_of refused.0) r new refused.2) (b.chosen is)
    by_lost (Some v) is = of_error Unrecoverable r new (b.unrecoverable.1 (subst (λ (p : Option SeenVersion). IsSome p) (sym is) refl))
