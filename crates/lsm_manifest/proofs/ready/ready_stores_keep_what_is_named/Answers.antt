use Rattle.lsm_manifest.proofs.Readiness.{ready_names, ready_keeps}
use Rattle.lsm_manifest.proofs.ready.ready_stores_keep_what_is_named.Goals as goal

pub returns : goal.returns
returns g c = record {
  named = λ tells store id ls ready named. ready_keeps (g.S.Store.world store) ready (g.met.S.Store.gives_one tells store) id ls named;
  good = λ tells store ready. ready_names (g.S.Store.world store) ready (g.met.S.Store.gives_one tells store);
}
