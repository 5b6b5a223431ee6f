use Rattle.std.proofs.Common.{◌≡◌, ℕ, ◌||◌, List, Bor, map, arith, ap, ◌∙◌}
use Rattle.std.proofs.lemmas.List.{length_push}
use Rattle.std.proofs.lemmas.Map.Iter.{iter_end}
use Rattle.lsm_model.specs.Steps.{among}
use Rattle.lsm_versions.proofs.hidden_set.HiddenSet.hide.Goals as goal
use Rattle.lsm_versions.specs.TableLaws.{put_more}

pub loop-id-preserved : goal.loop-id-preserved
loop-id-preserved c = record {
  hidden = λ i. put_more (λ (x : Bor ℕ). x.now) c.loop-id.yielded c.in-Some.id i (among c.insert.new.self.keys i) (among c.loop-id.self-inside.ids.keys i) (among c.reserve.new.self.keys i) (c.in_ok-insert.ensures.updates.0 i) (c.loop-id.invariant.hidden i);
  room = omega (arith, c.loop-id.invariant.room, c.insert.ensures.spare, length_push c.loop-id.yielded c.in-Some.id);
}

pub returns-clause-ok : goal.returns-clause-ok
returns-clause-ok c = λ i.
    let all = iter_end (λ (x : Bor ℕ). x.now) c.args.ids.now.keys c.loop-id.yielded c.into_iter-id-iterator.result c.loop-id.id-iterator c.next.new.self c.next.result c.into_iter-id-iterator.ensures.into_iter_gives.0 c.loop-id.yielded_by c.in-None.is c.next.ensures.steps in
    let old : among c.reserve.new.self.keys i ≡ among c.args.self.now i = c.reserve.ensures.keys.2 i ∙ ap (λ (ids : List ℕ). among ids i) c.self.view_is in
    c.loop-id.invariant.hidden i ∙ (ap (λ b. b || among (map (λ x. x.now) c.loop-id.yielded) i) old ∙ ap (λ ids. among c.args.self.now i || among ids i) all.0)
