-- How strategies are written down.
use Rattle.std.specs.Prelude.{ℕ, List, [], ◌∷◌, ◌++◌, length, codes, Option, None, Some}
use Rattle.std.specs.Int.{to_le_bytes, w32, w64}
use Rattle.std.specs.Option.{unwrap_or}
use Rattle.std.specs.List.{flat_map}
use Rattle.lsm_below.specs.Keys.{Bytes}
use Rattle.lsm_pick.specs.declared.fifo.Fifo.{Fifo}
use Rattle.lsm_pick.specs.LeveledRule.{LeveledRule}

-- a fraction: its two numbers
abbrev pub ratio_bytes : ℕ × ℕ → Bytes
ratio_bytes r = to_le_bytes w32 r.0 ++ to_le_bytes w32 r.1

-- their count, and each
abbrev pub ratios_bytes : List (ℕ × ℕ) → Bytes
ratios_bytes ratios = length ratios ∷ flat_map ratio_bytes ratios

abbrev pub leveled_config : LeveledRule → List (Bytes × Bytes)
leveled_config rule =
    (codes "leveled_l0_threshold", rule.threshold ∷ [])
    ∷ (codes "leveled_target_size", to_le_bytes w64 rule.target)
    ∷ (codes "leveled_level_ratio_policy", ratios_bytes rule.ratios)
    ∷ []

-- 0 for none, 1 for any
abbrev pub flag_of : Option ℕ → ℕ
flag_of None = 0
flag_of (Some n) = 1

abbrev pub fifo_config : Fifo → List (Bytes × Bytes)
fifo_config rule =
    (codes "fifo_limit", to_le_bytes w64 rule.limit)
    ∷ (codes "fifo_ttl", flag_of rule.ttl_seconds ∷ [])
    ∷ (codes "fifo_ttl_seconds", to_le_bytes w64 (unwrap_or rule.ttl_seconds 0))
    ∷ []
