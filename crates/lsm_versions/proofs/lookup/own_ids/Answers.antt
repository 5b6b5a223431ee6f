use Rattle.std.proofs.Common.{◌≡◌, ℕ, Bool, true, false, cond, eqb, not, ◌∙◌, sym, ap, subst, rules, ◌++◌, refl}
use Rattle.lsm_tables.specs.Tables.{SeenTable}
use Rattle.lsm_model.specs.Steps.{among}
use Rattle.lsm_versions.specs.Levels.{HasOwnIds}
use Rattle.lsm_versions.specs.TableLaws.{put_more}
use Rattle.lsm_versions.specs.Walked.{walk_starts, walk_goes, walk_ends}
use Rattle.lsm_versions.proofs.OwnIds.{stands_twice, own_more}
use Rattle.lsm_versions.proofs.lookup.own_ids.Goals as goal

turned : (a b : Bool) → a ≡ not b → b ≡ not a
turned a true e = sym (ap not e)
turned a false e = sym (ap not e)

pub loop-table-init : goal.loop-table-init
loop-table-init c = walk_starts c.into_iter-table-iterator.ensures.into_iter_gives (record { own = search rules; seen = λ i. search rules })

pub loop-table-preserved : goal.loop-table-preserved
loop-table-preserved c =
    let w = c.loop-table.invariant in
    let t = c.in-Some.table.now in
    let keys = c.loop-table.seen.keys in
    let absent : among keys t.id ≡ false = ap (among keys) (sym c.id.ensures) ∙ turned c.in_ok-is_new.is_new (among keys c.id.result) c.in_ok-is_new.ensures.added ∙ ap not c.if-not-is_new.false in
    walk_goes c.in-Some.ensures.steps w (record {
      own = own_more w.done t (sym (w.holds.seen t.id) ∙ absent) w.holds.own;
      seen = λ i.
          let step : among c.insert.new.self.keys i ≡ cond (eqb t.id i) true (among keys i) = subst (λ (k : ℕ). among c.insert.new.self.keys i ≡ cond (eqb k i) true (among keys i)) c.id.ensures (c.in_ok-is_new.ensures.updates.0 i) in
          put_more (λ (u : SeenTable). u.id) w.done t i (among c.insert.new.self.keys i) (among keys i) false step (w.holds.seen i);
    })

pub returns-then-not-is_new : goal.returns-then-not-is_new
returns-then-not-is_new c =
    let w = c.loop-table.invariant in
    let t = c.in-Some.table.now in
    let keys = c.loop-table.seen.keys in
    let there : among keys t.id ≡ true = ap (among keys) (sym c.id.ensures) ∙ turned c.in_ok-is_new.is_new (among keys c.id.result) c.in_ok-is_new.ensures.added ∙ ap not c.if-not-is_new.true in
    (λ yes. absurd (cc yes), λ own. absurd (stands_twice w.done t c.next.new.self (sym (w.holds.seen t.id) ∙ there) (subst HasOwnIds (sym w.whole ∙ ap (λ ts. w.done ++ ts) c.in-Some.ensures.steps) own)))

pub returns : goal.returns
returns c = (λ _. (walk_ends c.in-None.ensures.steps.0 c.loop-table.invariant).own, λ _. refl)
