use Rattle.std.proofs.Common.{rules}
use Rattle.lsm_store.proofs.HeldSettled.{settles}
use Rattle.lsm_store.proofs.mem_store.directory.settle_names.Goals as goal

pub returns : goal.returns
returns c n = settles n _ _ (λ k v b w g t. search rules) c.args.files.now.entries c.retain.new.self.entries c.retain.ensures.was_unique c.retain.ensures.filtered
