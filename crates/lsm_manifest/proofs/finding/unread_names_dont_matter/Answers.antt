use Rattle.lsm_manifest.proofs.Unread.{unread}
use Rattle.lsm_manifest.proofs.finding.unread_names_dont_matter.Goals as goal

pub returns : goal.returns
returns c = unread
