-- What was taken step by step, as its caller has it, and one step more.
use Rattle.std.proofs.Common.{◌≡◌, ℕ, max, arith, List, [], ◌∷◌, ◌++◌, take, length, refl, sym, ap, ◌∙◌, subst, append-nil}
use Rattle.lsm_runs.specs.Entries.{Entry, above}
use Rattle.lsm_runs.specs.Memory.{MemStore, world_of}
use Rattle.lsm_runs.specs.World.{World}
use Rattle.lsm_runs.specs.Journal.{Map}
use Rattle.lsm_runs.specs.Soundness.{HoldsIsKept}
use Rattle.lsm_runs.specs.Ready.{IsReady}
use Rattle.lsm_runs.specs.Core.{Core}
use Rattle.lsm_runs.specs.Following.{MomentsJoin}
use Rattle.lsm_run_model.specs.Moments.{last_of}
use Rattle.lsm_runs.specs.declared.steps.Step.{Step}
use Rattle.lsm_runs.specs.declared.steps.Reply.{Reply}
use Rattle.lsm_runs.specs.After.{RunIsRight}
use Rattle.lsm_runs.specs.Causes.{EachHasCause}
use Rattle.lsm_runs.specs.Compacting.{Strategies}
use Rattle.lsm_runs.specs.Files.{StaysStored}
use Rattle.lsm_runs.specs.Moments.{Reopens, EachReady, RunHasMoments}
use Rattle.lsm_runs.specs.Dropping.{Drops, AllowsDrops}
use Rattle.lsm_runs.specs.Told.{Told}
use Rattle.example_crash.specs.Single.{HasTaken}
use Rattle.example_crash.specs.SoFar.{SoFar}
use Rattle.example_crash.proofs.Blames.{caused_then}
use Rattle.example_crash.proofs.HasLived.{OrderLaws, has_lived}
use Rattle.example_crash.proofs.Joining.{one_more, none_more}
use Rattle.example_crash.proofs.Lived.{lived}
use Rattle.example_crash.proofs.Taking.{here, took_singly, none_taken}

last_ready : {F : Type 0} (world : F → World) (was : F) (stores : List F) → EachReady world was stores → IsReady (world (last_of was stores))
last_ready world was [] h = h.0
last_ready world was (is ∷ stores) h = last_ready world is stores h.2

-- what follows for runs, as laws
pub record Laws : Type 0 where
  pub order : OrderLaws
  pub join : (n : ℕ) → MomentsJoin Reply (Reopens n) world_of
  pub kept : HoldsIsKept

pub has_taken : (May : Drops) (laws : Laws) (m : Map) (was : MemStore) (opened : List Entry) (counter : ℕ) (steps : List Step) (told : List Told) (is : MemStore) (now : Core) → SoFar May world_of m was opened counter steps told is now → EachHasCause world_of told was is
    → (from : ℕ) → counter ≡ max from (above opened) → HasTaken May m was from steps told (record { store = is; core = now })
has_taken May laws m was opened counter steps told is now s causes from starts = record {
  lived = has_lived May laws.order m was from steps told is (lived May world_of m was opened counter steps told is now s laws.order.rising laws.order.without from starts) causes (subst (λ (f : MemStore). IsReady (world_of f)) s.ends (last_ready world_of s.first s.stores s.ready));
  opened = opened;
  counter = counter;
  starts = starts;
  so_far = s;
}

-- ---- one step more, or none

module _ (May : Drops) (laws : Laws) (strategies : Strategies) (m : Map) (was : MemStore) (from : ℕ) (steps : List Step) (told : List Told) (is : MemStore) (now : Core)
    (h : HasTaken May m was from steps told (record { store = is; core = now })) (list : List Step) (answers : List Told) (next : MemStore) (new : Core) (run : RunHasMoments world_of strategies (take (length answers) list) answers (here May world_of is now) next new) (right : RunIsRight strategies (take (length answers) list) answers now new)
    (stays : StaysStored (world_of is) (world_of next) now new) (causes : EachHasCause world_of answers is next) where
  took : AllowsDrops May strategies → (x : Step) (t : Told) → list ≡ x ∷ [] → answers ≡ t ∷ [] → HasTaken May m was from (steps ++ x ∷ []) (told ++ t ∷ []) (record { store = next; core = new })
  took allows x t e f =
      has_taken May laws m was h.opened h.counter (steps ++ x ∷ []) (told ++ t ∷ []) next new
      (one_more May world_of laws.join laws.kept m was h.opened h.counter steps told is now h.so_far x t next new (took_singly May world_of strategies allows list answers x t is next now new e f run right stays))
      (subst (λ (ts : List Told). EachHasCause world_of (told ++ ts) was next) f (caused_then told answers was is next h.lived.causes causes)) from h.starts

  -- the one of a list
  pub took_it : AllowsDrops May strategies → (t : Told) → length list ≡ 1 → answers ≡ t ∷ [] → HasTaken May m was from (steps ++ list) (told ++ t ∷ []) (record { store = next; core = new })
  took_it allows t few f =
      let x = single_of list few in
      subst (λ (xs : List Step). HasTaken May m was from (steps ++ xs) (told ++ t ∷ []) (record { store = next; core = new })) (sym x.1) (took allows x.0 t x.1 f)
    where
      single_of : (xs : List Step) → length xs ≡ 1 → (x : Step) × (xs ≡ x ∷ [])
      single_of [] e = absurd (omega (e, arith))
      single_of (x ∷ []) e = (x, refl)
      single_of (x ∷ (y ∷ xs)) e = absurd (omega (e, arith))

  pub took_none : answers ≡ [] → HasTaken May m was from steps told (record { store = next; core = new })
  took_none e =
      let nothing = none_taken May world_of strategies list answers is next now new e run right in
      has_taken May laws m was h.opened h.counter steps told next new (none_more May world_of laws.join laws.kept strategies m was h.opened h.counter steps told is now h.so_far next new nothing.0 nothing.1 stays)
      (subst (λ (ts : List Told). EachHasCause world_of ts was next) (ap (λ ts. told ++ ts) e ∙ append-nil told) (caused_then told answers was is next h.lived.causes causes)) from h.starts
