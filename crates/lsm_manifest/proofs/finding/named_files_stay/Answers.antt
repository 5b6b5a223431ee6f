use Rattle.lsm_manifest.specs.Spelling.{ids_of}
use Rattle.lsm_manifest.proofs.Pins.{current_stays, version_stays, layout_stays}
use Rattle.lsm_manifest.proofs.finding.named_files_stay.Goals as goal

pub returns : goal.returns
returns c = λ id ls laid. record { current = current_stays id (ids_of ls); version = version_stays id (ids_of ls); tables = layout_stays c.plain_numbers_are_read.ensures id (ids_of ls) ls (λ i is. is) laid.each }
