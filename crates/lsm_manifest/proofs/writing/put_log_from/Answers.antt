use Rattle.std.proofs.Common.{◌++◌, List, ℕ, ap, ◌∙◌}
use Rattle.std.proofs.lemmas.Result.{on_ok_weaker}
use Rattle.lsm_manifest.specs.Spelling.{section, log_from}
use Rattle.lsm_manifest.proofs.writing.put_log_from.Goals as goal

pub returns-clause-bytes : goal.returns-clause-bytes
returns-clause-bytes c = on_ok_weaker c.put_section.result (λ e. e ∙ ap (λ (content : List ℕ). c.args.out.now.items ++ section log_from content) c.number_bytes.ensures) c.put_section.ensures
