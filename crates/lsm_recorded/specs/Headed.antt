-- The order of keys with their heads.
use Rattle.std.specs.declared.cmp.Ordering.{Ordering}
use Rattle.std.specs.Ordering.{nat_cmp, on, then_cmp}
use Rattle.lsm_below.specs.Heads.{key_head}
use Rattle.lsm_below.specs.Keys.{Bytes, bytes_cmp}

-- by the first bytes as a number, and then by all bytes
abbrev pub headed_cmp : Bytes → Bytes → Ordering
headed_cmp = then_cmp (on key_head nat_cmp) bytes_cmp
