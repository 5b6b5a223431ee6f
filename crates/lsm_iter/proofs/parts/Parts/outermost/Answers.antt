use Rattle.std.proofs.Common.{◌≡◌, [], MatchOption, subst}
use Rattle.lsm_iter.specs.Left.{end_item}
use Rattle.lsm_iter.proofs.OfParts.{last_given}
use Rattle.lsm_iter.proofs.parts.Parts.outermost.Goals as goal

pub returns-in-Back : goal.returns-in-Back
returns-in-Back g c =
    let parts = c.self.inside.parts in
    subst (λ left. MatchOption c.back.result (left ≡ []) (λ p. end_item c.args.end (g.P.Part.left p.now) ≡ end_item c.args.end left)) c.self.view_is
    (last_given g.P.Part.left parts.items parts.len c.args.end c.back.result parts.ok.0 c.self.invariant.1 c.in-Back.is c.back.ensures.variant c.back.ensures.lookup)
