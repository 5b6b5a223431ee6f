use Rattle.std.proofs.Common.{ap}
use Rattle.lsm_store.proofs.Memories.{same_after}
use Rattle.lsm_store.proofs.mem_store.MemStoreStore.read.Goals as goal

pub returns-in_err-answer-clause-same : goal.returns-in_err-answer-clause-same
returns-in_err-answer-clause-same c = same_after _ _ _ _ _ _ c.answer.ensures.files (ap (λ v. v.items) c.answer.ensures.past)

pub returns-clause-same : goal.returns-clause-same
returns-clause-same c = same_after _ _ _ _ _ _ c.answer.ensures.files (ap (λ v. v.items) c.answer.ensures.past)
