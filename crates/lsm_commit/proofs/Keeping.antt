-- Names of a kind that calls leave as they are.
use Rattle.std.proofs.Common.{◌≢◌, ℕ, List, refl, ◌∙◌}
use Rattle.lsm_store.specs.World.{World}
use Rattle.lsm_store.specs.Synced.{KeepsOthers}
use Rattle.lsm_commit.specs.Stored.{Keeps}

pub keeps_none : (P : List ℕ → Type 0) (w : World) → Keeps P w w
keeps_none P w = record { may = λ n c out. (λ may. may, λ may. may); gives = λ n out. refl }

-- one more call, on a name of another kind
pub keeps_more : (P : List ℕ → Type 0) (name : List ℕ) → ((n : List ℕ) → P n → n ≢ name) → (old mid new : World) → Keeps P old mid → KeepsOthers name mid new → Keeps P old new
keeps_more P name other old mid new so_far keeps = record {
  may = λ n c out. (λ may. (so_far.may n c out).0 ((keeps.may n c (other n out)).0 may), λ may. (keeps.may n c (other n out)).1 ((so_far.may n c out).1 may));
  gives = λ n out. keeps.gives n (other n out) ∙ so_far.gives n out;
}
