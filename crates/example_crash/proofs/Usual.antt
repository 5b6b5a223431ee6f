-- Of usual steps the numbers rise, none removes a key weakly, and the first so many are usual.
use Rattle.std.proofs.Common.{◌≡◌, ℕ, zero, suc, ◌≤◌, arith, List, [], ◌∷◌, map, take, length, refl, ap, sym, subst}
use Rattle.std.specs.List.{AllByRecursion}
use Rattle.lsm_runs.specs.Keys.{Bytes}
use Rattle.lsm_runs.specs.Entries.{Entry}
use Rattle.lsm_runs.specs.Members.{each_in}
use Rattle.lsm_runs.specs.Rising.{Drawing, Silent, Draws, Standing, moved, unused, MayDraw, RisesFrom, WeakOnce}
use Rattle.lsm_runs.specs.declared.steps.JobStep.{JobStep}
use Rattle.lsm_runs.specs.declared.steps.JobStep.TheVariants.{RegisterTables, BeginCompaction, FinishCompaction}
use Rattle.lsm_runs.specs.declared.steps.Step.{Step}
use Rattle.lsm_runs.specs.declared.steps.Step.TheVariants as step
use Rattle.lsm_runs.specs.Drawing.{job_drawing, drawing_of, keys_weak, asks_of}
use Rattle.lsm_runs.specs.Runs.{IsPlainUse}
use Rattle.example_crash.specs.Survival.{IsUsual}

pub usual_plain : (steps : List Step) → AllByRecursion IsUsual steps → IsPlainUse steps
usual_plain steps usual i = each_in IsUsual steps step.ClearActiveMemtable usual i

-- a call that uses no number but the counter's next one
abbrev pub OnlyDraws : Drawing → Type 0
OnlyDraws Silent = Unit {0}
OnlyDraws Draws = Unit {0}
OnlyDraws call = ⊥

job_draws : (x : JobStep) → OnlyDraws (job_drawing x)
job_draws RegisterTables = tt
job_draws (BeginCompaction at o) = tt
job_draws FinishCompaction = tt
job_draws x = tt

pub usual_draws : (x : Step) → IsUsual x → OnlyDraws (drawing_of x)
usual_draws (step.Insert k v n) usual = absurd usual
usual_draws (step.Remove k n) usual = absurd usual
usual_draws (step.RemoveWeak k n) usual = absurd usual
usual_draws (step.AppendEntry e) usual = absurd usual
usual_draws (step.Next counter) usual = absurd usual
usual_draws (step.Set counter n) usual = absurd usual
usual_draws (step.FetchMax counter n) usual = absurd usual
usual_draws (step.AtSlot slot x) usual = job_draws x
usual_draws x usual = tt

may_draw : (call : Drawing) → OnlyDraws call → (low : ℕ) (c : Standing) → MayDraw call low c
may_draw Silent only low c = tt
may_draw Draws only low c = tt
may_draw call only low c = absurd only

pub usual_rises : (steps : List Step) → AllByRecursion IsUsual steps → (low : ℕ) (c : Standing) → RisesFrom low c (map drawing_of steps)
usual_rises [] usual low c = tt
usual_rises (x ∷ steps) usual low c = (may_draw (drawing_of x) (usual_draws x usual.0) low c, usual_rises steps usual.1 (unused (drawing_of x) low c) (moved (drawing_of x) c))

none_weak : (x : Step) → IsUsual x → keys_weak x ≡ []
none_weak (step.Write ops) usual = usual
none_weak (step.RemoveWeak k n) usual = absurd usual
none_weak (step.AppendEntry e) usual = absurd usual
none_weak x usual = refl

pub usual_weak : (opened : List Entry) (before : List Bytes) (steps : List Step) → AllByRecursion IsUsual steps → WeakOnce opened before (map asks_of steps)
usual_weak opened before [] usual = tt
usual_weak opened before (x ∷ steps) usual = (subst (AllByRecursion _) (sym (none_weak x usual.0)) tt, usual_weak opened _ steps usual.1)

pub first_usual : (n : ℕ) (steps : List Step) → AllByRecursion IsUsual steps → AllByRecursion IsUsual (take n steps)
first_usual zero steps usual = tt
first_usual (suc n) [] usual = tt
first_usual (suc n) (x ∷ steps) usual = (usual.0, first_usual n steps usual.1)

-- ---- the first elements

-- all, where there are no more
pub whole : {A : Type 0} (n : ℕ) (xs : List A) → length xs ≤ n → take n xs ≡ xs
whole zero [] few = refl
whole zero (x ∷ xs) few = absurd (omega (few, arith))
whole (suc n) [] few = refl
whole (suc n) (x ∷ xs) few = ap (λ ys. x ∷ ys) (whole n xs (omega (few, arith)))

pub twice : {A : Type 0} (n : ℕ) (xs : List A) → take n (take n xs) ≡ take n xs
twice zero xs = refl
twice (suc n) [] = refl
twice (suc n) (x ∷ xs) = ap (λ ys. x ∷ ys) (twice n xs)
