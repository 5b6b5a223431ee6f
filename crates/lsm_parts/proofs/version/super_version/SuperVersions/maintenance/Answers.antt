use Rattle.std.proofs.Common.{◌≡◌, ◌≤◌, ◌<◌, ◌+◌, ◌-◌, List, length, take, drop, get_or, sym, ap, subst, ◌∙◌, arith, rules, None}
use Rattle.std.proofs.lemmas.List.{length-take-le, take_all, get_or-take}
use Rattle.lsm_manifest.specs.Names.{version_name}
use Rattle.lsm_parts.specs.declared.version.super_version.SuperVersion.{SuperVersion}
use Rattle.lsm_parts.specs.History.{SeenHistory, NumbersFall}
use Rattle.lsm_parts.specs.Versions.{IsLaid}
use Rattle.std.specs.List.{AllByRecursion}
use Rattle.lsm_parts.specs.Maintenance.{needed, KeepsNewer, KeepsVersions}
use Rattle.lsm_commit.specs.Foreign.{passes_then}
use Rattle.lsm_parts.proofs.Maintained.{needed_within}
use Rattle.lsm_parts.proofs.Removed.{KeepsFiles, files_none, newer_then, stored_then, gone_more, shorter, each_take, fall_take}
use Rattle.lsm_parts.proofs.version.super_version.SuperVersions.maintenance.Goals as goal

pub oldest-init : goal.oldest-init
oldest-init g c =
    let w = g.S.Store.world in
    let h : SeenHistory = record { latest = c.self.inside.latest; older = c.self.inside.older.items } in
    let is : h ≡ c.args.self.now = c.self.view_is in
    let xs = c.self.inside.older.items in
    let none = files_none g.S.Store.tells h (w c.args.store.now) c.crashes_leave_versions.ensures in
    record {
      latest = ap (λ (x : SeenHistory). x.latest) is;
      older = sym (take_all (length xs) xs (omega arith)) ∙ ap (λ (x : SeenHistory). take (length xs) x.older) is;
      enough = subst (λ n. n ≤ length xs) (sym c.needed-needed.ensures) (subst (λ (x : SeenHistory). needed c.args.watermark x ≤ length xs) is (needed_within c.args.watermark h));
      within = subst (λ (x : SeenHistory). length xs ≤ length x.older) is (omega arith);
      laid = c.self.invariant.0;
      fall = c.self.invariant.1;
      files = subst (λ (x : SeenHistory). KeepsFiles g.S.Store.tells x (length xs) (w c.args.store.now) (w c.args.store.now)) is none;
    }

pub returns-in_err-remove_older-clause-stored : goal.returns-in_err-remove_older-clause-stored
returns-in_err-remove_older-clause-stored g c tells =
    let w = g.S.Store.world in
    let k = c.args.self.now.latest.version.id in
    let same = c.id-in-oldest.ensures ∙ ap (λ (sv : SuperVersion). sv.version.id) c.oldest.invariant.latest in
    stored_then k (w c.args.store.now) (w c.oldest.store) (w c.remove_older.new.store) (c.oldest.invariant.files.stored tells) (subst (λ i. KeepsVersions i (w c.oldest.store) (w c.remove_older.new.store)) same (c.remove_older.ensures.stored tells))

pub returns-in_err-remove_older-clause-passes : goal.returns-in_err-remove_older-clause-passes
returns-in_err-remove_older-clause-passes g c tells =
    let w = g.S.Store.world in
    passes_then (w c.args.store.now) (w c.oldest.store) (w c.remove_older.new.store) (c.oldest.invariant.files.passes tells) (c.remove_older.ensures.passes tells)

pub oldest-preserved-in_ok-remove_older : goal.oldest-preserved-in_ok-remove_older
oldest-preserved-in_ok-remove_older g c =
    let w = g.S.Store.world in
    let xs = c.oldest.self-inside.older.items in
    let all = c.args.self.now.older in
    let old = c.oldest.invariant in
    let now = c.args.self.now in
    let n = c.oldest.self-inside.older.len - 1 in
    let len : c.oldest.self-inside.older.len ≡ length xs = search rules in
    let more : c.needed-needed.result < length xs = search rules in
    let popped : c.pop_back.new.self.items ≡ take n xs = c.pop_back.ensures.rest in
    let count : length c.pop_back.new.self.items ≡ n = ap length popped ∙ length-take-le n xs (omega arith) in
    let lt : n < length xs = omega arith in
    let here : c.in-Some.oldest.now ≡ get_or xs n c.in-Some.oldest.now = search rules in
    let there : c.in-Some.oldest.now ≡ get_or all n c.in-Some.oldest.now = here ∙ ap (λ (l : List SuperVersion). get_or l n c.in-Some.oldest.now) old.older ∙ get_or-take (length xs) all n c.in-Some.oldest.now lt in
    let last : length xs ≡ n + 1 = omega arith in
    let same = c.id-in-oldest.ensures ∙ ap (λ (sv : SuperVersion). sv.version.id) old.latest in
    let made = c.in_ok-remove_older.ensures in
    let files : KeepsFiles g.S.Store.tells now n (w c.args.store.now) (w c.remove_older.new.store) = record {
      gone = gone_more g.S.Store.tells now n (w c.oldest.store) (w c.remove_older.new.store) c.in-Some.oldest.now (let within = old.within in omega arith) there (λ tells low. subst (λ i. (w c.remove_older.new.store).gives (version_name i) ≡ None) c.id.ensures (made.gone tells (omega (arith, c.id.ensures, same, low)))) made.absent
          (λ tells. subst (λ m. AllByRecursion (λ (sv : SuperVersion). sv.version.id < now.latest.version.id → (w c.oldest.store).gives (version_name sv.version.id) ≡ None) (drop m all)) last (old.files.gone tells));
      keeps = λ tells. newer_then now.latest.version.id (w c.args.store.now) (w c.oldest.store) (w c.remove_older.new.store) (old.files.keeps tells) (subst (λ i. KeepsNewer i (w c.oldest.store) (w c.remove_older.new.store)) same (made.keeps tells));
      stored = λ tells. stored_then now.latest.version.id (w c.args.store.now) (w c.oldest.store) (w c.remove_older.new.store) (old.files.stored tells) (subst (λ i. KeepsVersions i (w c.oldest.store) (w c.remove_older.new.store)) same (made.stored tells));
      passes = λ tells. passes_then (w c.args.store.now) (w c.oldest.store) (w c.remove_older.new.store) (old.files.passes tells) (made.passes tells);
      failures = made.counts.none (λ e. absurd (cc e)) (λ e. absurd (cc e)) ∙ old.files.failures;
    } in
    record {
      latest = old.latest;
      older = popped ∙ shorter xs all n (omega arith) old.within old.older ∙ ap (λ l. take (length l) all) (sym popped);
      enough = let e = count in let m = more in omega arith;
      within = let e = count in let m = old.within in omega arith;
      laid = (old.laid.0, subst (AllByRecursion (λ (sv : SuperVersion). IsLaid sv.version)) (sym popped) (each_take (λ sv. IsLaid sv.version) n xs old.laid.1));
      fall = λ in_order. subst (NumbersFall c.oldest.self-inside.latest.seqno) (sym popped) (fall_take c.oldest.self-inside.latest.seqno n xs (old.fall in_order));
      files = subst (λ m. KeepsFiles g.S.Store.tells now m (w c.args.store.now) (w c.remove_older.new.store)) (sym count) files;
    }
