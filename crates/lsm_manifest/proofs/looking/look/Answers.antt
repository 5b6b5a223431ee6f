use Rattle.std.proofs.Common.{◌≡◌, false, map, subst}
use Rattle.std.proofs.lemmas.Result.{IfOk-weaker}
use Rattle.lsm_store.specs.World.{Image}
use Rattle.lsm_store.specs.Moments.{image_same}
use Rattle.lsm_manifest.specs.Opening.{ReadsFrom}
use Rattle.std.specs.String.{string_bytes}
use Rattle.lsm_manifest.proofs.OpensLemmas.{looks_on}
use Rattle.lsm_manifest.proofs.looking.look.Goals as goal

pub returns-clause-looks : goal.returns-clause-looks
returns-clause-looks g c tells =
    let w = g.S.Store.world in
    looks_on (w c.args.store.now).gives (w c.names_of.new.store).gives (map string_bytes c.in_ok-names.names.items) c.look_listed.result (c.in_ok-names.ensures.same tells).gives (c.in_ok-names.ensures.names tells) (c.look_listed.ensures.looks tells)

pub returns-clause-from : goal.returns-clause-from
returns-clause-from g c tells =
    let w = g.S.Store.world in
    IfOk-weaker c.look_listed.result (λ f. f.is_new ≡ false → ReadsFrom (w c.names_of.new.store).gives f.opened.version) (λ f. f.is_new ≡ false → ReadsFrom (w c.args.store.now).gives f.opened.version)
    (λ f reads not. subst (λ (image : Image). ReadsFrom image f.opened.version) (image_same (w c.args.store.now).gives (w c.names_of.new.store).gives (c.in_ok-names.ensures.same tells).gives) (reads not)) (c.look_listed.ensures.from tells)
