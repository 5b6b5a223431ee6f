-- What is known of a tree, said of the logged tree that it stands in.
use Rattle.std.proofs.Common.{ℕ, Bool, List}
use Rattle.lsm_state.specs.Core.{Seen}
use Rattle.lsm_logged.specs.Keeping.{SeenLogged}

-- the logged tree in which a tree stands, with these numbers
abbrev pub logged_with : {S : Type 0} → Seen S → List ℕ → Bool → SeenLogged S
logged_with tree numbers doubted = record { store = tree.store; core = tree.core; numbers = numbers; doubted = doubted }
