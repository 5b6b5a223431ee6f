use Rattle.std.proofs.Common.{ℕ, true, false, cond, eqb, arith, subst, ◌≡◌, ◌++◌, ◌∷◌, [], ◌+◌, ap, sym, ◌∙◌, take, map}
use Rattle.std.proofs.lemmas.List.{take_more}
use Rattle.lsm_tables.specs.Tables.{SeenTable}
use Rattle.lsm_model.specs.Steps.{among}
use Rattle.lsm_versions.specs.TableLaws.{put_more}
use Rattle.lsm_state.proofs.flush.register.ids_of.Goals as goal

pub loop-table-preserved : goal.loop-table-preserved
loop-table-preserved c = λ i.
    let t = c.table-item.result in
    let ts = c.args.tables.now in
    let n = c.loop-table.table-index in
    let step : among c.insert.new.self.keys i ≡ cond (eqb t.id i) true (among c.loop-table.ids.keys i) = subst (λ (k : ℕ). among c.insert.new.self.keys i ≡ cond (eqb k i) true (among c.loop-table.ids.keys i)) c.id.ensures (c.in_ok-insert.ensures.updates.0 i) in
    let e : take n ts ++ t ∷ [] ≡ take (n + 1) ts = ap (λ x. take n ts ++ x ∷ []) c.table-item.is ∙ sym (take_more ts n t (omega arith)) in
    put_more (λ (t : SeenTable). t.id) (take n ts) t i (among c.insert.new.self.keys i) (among c.loop-table.ids.keys i) false step (c.loop-table.invariant i) ∙ ap (λ l. among (map (λ (t : SeenTable). t.id) l) i) e
