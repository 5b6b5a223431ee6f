use Rattle.lsm_tables.proofs.Images.{images_first}
use Rattle.lsm_tables.proofs.image.reading.no_image_begins_another.Goals as goal

pub returns : goal.returns
returns c = images_first
