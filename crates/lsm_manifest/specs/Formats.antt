-- The formats of a version's file.
use Rattle.std.specs.Prelude.{Bool, true, false}
use Rattle.lsm_manifest.specs.declared.manifest.FormatVersion.{FormatVersion}
use Rattle.lsm_manifest.specs.declared.manifest.FormatVersion.TheVariants.{V3, V4}

-- does the file tell from which number a log is read?
abbrev pub is_fourth : FormatVersion → Bool
is_fourth V3 = false
is_fourth V4 = true
