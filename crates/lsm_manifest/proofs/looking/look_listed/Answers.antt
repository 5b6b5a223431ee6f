use Rattle.std.proofs.Common.{map, refl, true, false, codes}
use Rattle.std.specs.Str.{bytes_eq}
use Rattle.std.specs.String.{string_bytes}
use Rattle.std.proofs.lemmas.Result.{err_from_is_err_and}
use Rattle.lsm_manifest.specs.Kinds.{kind_of}
use Rattle.lsm_manifest.specs.Names.{current_name}
use Rattle.lsm_manifest.specs.Opening.{FindsAny, is_refused}
use Rattle.lsm_manifest.specs.Looking.{BadNew}
use Rattle.lsm_manifest.proofs.OpeningLemmas.{found_there, found_not, refused_is}
use Rattle.lsm_manifest.proofs.OpensLemmas.{files_refused, new_is}
use Rattle.lsm_manifest.proofs.looking.look_listed.Goals as goal

pub returns-in_err-opened-clause-looks : goal.returns-in_err-opened-clause-looks
returns-in_err-opened-clause-looks g c tells all =
    let image = (g.S.Store.world c.args.store.now).gives in
    let names = map string_bytes c.args.names.items in
    let no_version : FindsAny (λ n. bytes_eq n (codes "version")) names false = rw (c.deref.ensures.value, c.if-finds_any.false) at c.finds_any.ensures in
    let current : FindsAny (λ n. bytes_eq n current_name) names true = rw (c.deref-2.ensures.value, c.if-finds_any-2.true) at c.finds_any-2.ensures in
    let p = err_from_is_err_and c.from_residual.result c.from_residual.ensures.1 in
    rw (p.1, p.2)
    (files_refused image c.in_err-opened.field-0.0 (found_not image names (codes "version") all no_version) (found_there image names current_name all current) (c.in_err-opened.ensures.checks tells (rw c.deref-then-finds_any-2.ensures.value all)))

pub returns-then-finds_any-2-clause-looks : goal.returns-then-finds_any-2-clause-looks
returns-then-finds_any-2-clause-looks g c tells all =
    let image = (g.S.Store.world c.args.store.now).gives in
    let names = map string_bytes c.args.names.items in
    let no_version : FindsAny (λ n. bytes_eq n (codes "version")) names false = rw (c.deref.ensures.value, c.if-finds_any.false) at c.finds_any.ensures in
    record { no_version = found_not image names (codes "version") all no_version; names = all; finds = c.in_ok-opened.ensures.checks tells (rw c.deref-then-finds_any-2.ensures.value all) }

pub returns-then-finds_any-3-clause-looks : goal.returns-then-finds_any-3-clause-looks
returns-then-finds_any-3-clause-looks g c tells all =
    let image = (g.S.Store.world c.args.store.now).gives in
    let names = map string_bytes c.args.names.items in
    let no_version : FindsAny (λ n. bytes_eq n (codes "version")) names false = rw (c.deref.ensures.value, c.if-finds_any.false) at c.finds_any.ensures in
    let no_current : FindsAny (λ n. bytes_eq n current_name) names false = rw (c.deref-2.ensures.value, c.if-finds_any-2.false) at c.finds_any-2.ensures in
    let bad : FindsAny (λ n. is_refused (kind_of n)) names true = rw (c.deref-3.ensures.value, c.if-finds_any-3.true) at c.finds_any-3.ensures in
    BadNew bad.0 (found_not image names (codes "version") all no_version) (found_not image names current_name all no_current) (refused_is (kind_of bad.0) bad.2) ((all.each bad.0).0 bad.1) refl

pub returns-clause-looks : goal.returns-clause-looks
returns-clause-looks g c tells all =
    let image = (g.S.Store.world c.args.store.now).gives in
    let names = map string_bytes c.args.names.items in
    let no_version : FindsAny (λ n. bytes_eq n (codes "version")) names false = rw (c.deref.ensures.value, c.if-finds_any.false) at c.finds_any.ensures in
    let no_current : FindsAny (λ n. bytes_eq n current_name) names false = rw (c.deref-2.ensures.value, c.if-finds_any-2.false) at c.finds_any-2.ensures in
    record { no_version = found_not image names (codes "version") all no_version; names = all; finds = (found_not image names current_name all no_current, new_is c.new.result c.new.ensures) }
