use Rattle.std.proofs.Common.{◌≡◌, sym, subst}
use Rattle.lsm_logged.proofs.Keeping.{narrower}
use Rattle.lsm_logged.proofs.laws.images_have_logs.Goals as goal

pub returns : goal.returns
returns g c store log image keeps may =
    let w = g.S.Store.world store in
    narrower log w.may (λ n o. o ≡ image n) (λ n o e. subst (w.may n) (sym e) (may n)) keeps
