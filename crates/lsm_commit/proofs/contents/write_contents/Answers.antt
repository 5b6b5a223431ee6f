use Rattle.std.proofs.Common.{◌≡◌, ℕ, ◌+◌, ◌<◌, List, [], ◌∷◌, ◌++◌, take, ap, sym, subst, ◌∙◌, refl, arith}
use Rattle.std.specs.List.{AllByRecursion, range_with_len}
use Rattle.std.proofs.lemmas.List.{take_more}
use Rattle.lsm_versions.specs.declared.config.TheConstants.{LIMIT}
use Rattle.lsm_commit.specs.Contents.{AreWritten}
use Rattle.lsm_commit.specs.Writing.{WritesFrom}
use Rattle.lsm_commit.proofs.NextFiles.{writes_none, writes_more}
use Rattle.lsm_commit.proofs.Tabled.{each_push}
use Rattle.lsm_commit.proofs.WrittenFiles.{range_below, range_more, written_stay, written_more}
use Rattle.lsm_commit.proofs.contents.write_contents.Given.{Over}
use Rattle.lsm_commit.proofs.contents.write_contents.Goals.{After-write_file}
use Rattle.lsm_commit.proofs.contents.write_contents.Goals as goal

-- one more file, answered or not, leaves all else
module _ (g : Over) (c : After-write_file g) where
  kept : g.S.Store.tells → WritesFrom c.args.next.now (g.S.Store.world c.args.store.now) (g.S.Store.world c.write_file.new.store)
  kept tells =
      let w = g.S.Store.world in
      let n = c.names_are_apart.ensures in
      let at = c.loop-content in
      let did = c.write_file.ensures in
      let next = at.invariant.next in
      let lesser = c.if-id-ge-LIMIT.false in
      writes_more n.tables n.table_no_version n.table_not_current n.table_kind c.args.next.now at.next (w c.args.store.now) (w at.store) (w c.write_file.new.store) (omega arith) (omega arith) (at.invariant.files tells) (did.keeps tells) (did.any_moment tells)

pub loop-content-init : goal.loop-content-init
loop-content-init g c =
    let w = g.S.Store.world in
    let none = sym c.new-ids.ensures.items in
    record {
      ids = c.new-ids.ensures.items;
      below = subst (λ (ids : List ℕ). AllByRecursion (λ i. i < LIMIT) ids) none tt;
      next = omega arith;
      written = λ tells. subst (λ (ids : List ℕ). AreWritten (w c.args.store.now) ids []) none tt;
      files = λ tells. writes_none c.args.next.now (w c.args.store.now) (g.met.S.Store.only_now tells c.args.store.now);
      failures = refl;
    }

pub returns-in_err-write_file-clause-files : goal.returns-in_err-write_file-clause-files
returns-in_err-write_file-clause-files g c = kept g (goal.at.returns-in_err-write_file-clause-files g c).After-write_file

pub loop-content-preserved : goal.loop-content-preserved
loop-content-preserved g c =
    let w = g.S.Store.world in
    let at = c.loop-content in
    let k = at.content-index in
    let contents = c.args.contents.now in
    let first = c.args.next.now in
    let id = at.next in
    let mid = w at.store in
    let new = w c.write_file.new.store in
    let did = c.in_ok-write_file.ensures in
    let lesser : id < LIMIT = c.if-id-ge-LIMIT.false in
    let next : id ≡ first + k = at.invariant.next in
    let pushed : c.push.new.self.items ≡ at.ids.items ++ id ∷ [] = c.in_ok-push.ensures.items in
    let content = c.content-item.result in
    let taken : take (k + 1) contents ≡ take k contents ++ content ∷ [] = take_more contents k content (omega arith) ∙ ap (λ x. take k contents ++ x ∷ []) (sym c.content-item.is) in
    let ids : at.ids.items ++ id ∷ [] ≡ range_with_len first (k + 1) = ap (λ l. l ++ id ∷ []) at.invariant.ids ∙ ap (λ i. range_with_len first k ++ i ∷ []) next ∙ sym (range_more first k) in
    record {
      ids = pushed ∙ ids;
      below = subst (λ (l : List ℕ). AllByRecursion (λ i. i < LIMIT) l) (sym pushed) (each_push (λ i. i < LIMIT) at.ids.items id at.invariant.below lesser);
      next = omega arith;
      written = λ tells.
          let before = subst (λ (l : List ℕ). AllByRecursion (λ i. i < id) l) (sym at.invariant.ids) (range_below first k id (omega arith)) in
          let stay = written_stay c.names_are_apart.ensures.tables id (omega arith) mid new (did.keeps tells) at.ids.items (take k contents) before (at.invariant.written tells) in
          let more = written_more new at.ids.items (take k contents) id content stay (did.on_disk tells) in
          subst (λ (l : List (List ℕ)). AreWritten new c.push.new.self.items l) (sym taken) (subst (λ (l : List ℕ). AreWritten new l (take k contents ++ content ∷ [])) (sym pushed) more);
      files = kept g (goal.at.loop-content-preserved g c).After-write_file;
      failures = did.counts.none (λ e. absurd (cc e)) (λ e. absurd (cc e)) ∙ at.invariant.failures;
    }
