use Rattle.std.proofs.Common.{◌≡◌, ℕ, true, false, cond, eqb, subst, rules}
use Rattle.lsm_tables.specs.Tables.{SeenTable}
use Rattle.lsm_model.specs.Steps.{among}
use Rattle.lsm_versions.specs.TableLaws.{put_more}
use Rattle.lsm_versions.specs.Walked.{walk_starts, walk_goes, walk_ends}
use Rattle.lsm_versions.proofs.lookup.ids_of.Goals as goal

pub loop-table-init : goal.loop-table-init
loop-table-init c = walk_starts c.into_iter-table-iterator.ensures.into_iter_gives (λ i. search rules)

pub loop-table-preserved : goal.loop-table-preserved
loop-table-preserved c =
    let w = c.loop-table.invariant in
    let t = c.in-Some.table.now in
    let keys = c.loop-table.ids.keys in
    walk_goes c.in-Some.ensures.steps w (λ i.
    let step : among c.insert.new.self.keys i ≡ cond (eqb t.id i) true (among keys i) = subst (λ (k : ℕ). among c.insert.new.self.keys i ≡ cond (eqb k i) true (among keys i)) c.id.ensures (c.in_ok-insert.ensures.updates.0 i) in
    put_more (λ (u : SeenTable). u.id) w.done t i (among c.insert.new.self.keys i) (among keys i) false step (w.holds i))

pub returns : goal.returns
returns c = walk_ends c.in-None.ensures.steps.0 c.loop-table.invariant
