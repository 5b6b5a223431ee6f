-- What a tree is opened with.
use Rattle.std.specs.Prelude.{ℕ, max}
use Rattle.lsm_versions.specs.declared.config.Config.{Config}

-- the configuration, with both counters at this number at least
abbrev pub raised : ℕ → Config → Config
raised least config = record { id = config.id; seqno = max config.seqno least; visible_seqno = max config.visible_seqno least }
