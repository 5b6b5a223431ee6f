use Rattle.std.proofs.Common.{◌≡◌, ℕ, Bool, true, cond, eqb, [], ◌∷◌, sym, subst}
use Rattle.lsm_model.specs.Steps.{among}
use Rattle.lsm_pick.specs.Tables.{AddsIds}
use Rattle.lsm_pick.proofs.IdSets.{adds_one}
use Rattle.lsm_pick.proofs.tables.push_if.Goals as goal

pub returns-in_ok-insert : goal.returns-in_ok-insert
returns-in_ok-insert c =
    let t = c.args.table.now in
    subst (λ (b : Bool). AddsIds (cond b (t ∷ []) []) c.args.ids.now.keys c.insert.new.self.keys) (sym c.if-is_taken.true)
    (adds_one t c.args.ids.now.keys c.insert.new.self.keys
    (λ i. subst (λ (k : ℕ). among c.insert.new.self.keys i ≡ cond (eqb k i) true (among c.args.ids.now.keys i)) c.id.ensures (c.in_ok-insert.ensures.updates.0 i)))
