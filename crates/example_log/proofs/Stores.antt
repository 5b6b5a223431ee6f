-- A new store, and one that a crash left.
use Rattle.std.proofs.Common.{inl, sym, subst}
use Rattle.lsm_logged.specs.Memory.{MemStore, world_of}
use Rattle.lsm_logged.specs.World.{Image, World, IsImage, Begins}
use Rattle.lsm_logged.specs.Config.{Config}

-- what reads of a new store give could be left of the old one
pub left_gives : (w new : World) (image : Image) → IsImage w.may image → Begins image new → IsImage w.may new.gives
left_gives w new image may begins n = subst (w.may n) (sym (begins.gives n)) (may n)

pub now_left : (store : MemStore) (image : Image) → IsImage (world_of store).may image → (world_of store).since (world_of store).moment image
now_left store image may = inl may

-- what the trees are opened with
abbrev pub config : Config
config = record { id = 0; seqno = 0; visible_seqno = 0 }
