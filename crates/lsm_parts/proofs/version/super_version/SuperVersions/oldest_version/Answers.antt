use Rattle.std.proofs.Common.{◌≡◌, ◌<◌, ◌-◌, get_or, refl, sym, subst}
use Rattle.lsm_parts.proofs.Histories.{oldest_last}
use Rattle.lsm_parts.proofs.version.super_version.SuperVersions.oldest_version.Goals as goal

pub returns-in-Some : goal.returns-in-Some
returns-in-Some c =
    let older = c.self.inside.older in
    let found = c.in-Some.version.now in
    rw (← c.self.view_is)
    (sym (oldest_last c.self.inside.latest older.items found
    (subst (λ n. 0 < n) older.ok.0 (c.in-Some.ensures.variant.0 refl)) (subst (λ n. found ≡ get_or older.items (n - 1) found) older.ok.0 c.in-Some.ensures.lookup)))
