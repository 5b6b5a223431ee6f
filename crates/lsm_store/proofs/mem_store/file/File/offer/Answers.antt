use Rattle.std.proofs.Common.{◌≡◌, ◌++◌, ◌∷◌, [], ap, ◌∙◌, Some, length, refl, subst, rules}
use Rattle.lsm_store.specs.Held.{content, IsPlace, IsWhole}
use Rattle.lsm_store.proofs.HeldPlaces.{given_whole, content_more, content_last}
use Rattle.lsm_store.proofs.mem_store.file.File.offer.Goals as goal
use Rattle.lsm_store.proofs.mem_store.file.File.offer.Goals.{then-shown, else-shown}

pub returns-clause-ok : goal.returns-clause-ok
returns-clause-ok c =
    let vs = c.self.inside.contents.items in
    let ws = c.push.new.self.items in
    let b = c.args.bytes.now in
    let v = c.in_ok-copied.field-0 in
    let copied : v ≡ b = search rules in
    let pushed : ws ≡ vs ++ v ∷ [] = c.in_ok-push.ensures.ok in
    let place : IsPlace c.self.inside.given (length vs) = c.self.invariant.0 in
    let at : c.len-at.result ≡ length vs = search rules in
    let all : ws ≡ vs ++ b ∷ [] = pushed ∙ ap (λ x. vs ++ x ∷ []) copied in
    let old : content c.self.inside.given ws ≡ content c.self.inside.given vs = ap (λ x. content c.self.inside.given x) pushed ∙ content_more vs v c.self.inside.given place in
    let new : content (Some c.len-at.result) ws ≡ Some b = ap (λ x. content (Some c.len-at.result) x) pushed ∙ ap (λ k. content (Some k) (vs ++ v ∷ [])) at ∙ content_last vs v ∙ ap (λ x. Some x) copied in
    elim c.if-shown.branch [
      | then-shown w ↦ rw (c.softened-self-inside.ensures, w.self-inside-is, w.if-shown.true, ← c.self.view_is, new, old, all) refl
      | else-shown w ↦ rw (c.softened-self-inside.ensures, w.self-inside-is, w.if-shown.false, ← c.self.view_is, old, all) refl
    ]

pub returns-clause-whole : goal.returns-clause-whole
returns-clause-whole c = subst IsWhole c.self.view_is (given_whole c.self.inside.given c.self.inside.contents.items c.self.inside.absence c.self.invariant.0 c.self.invariant.2)

pub returns-in_err-copied-clause-whole : goal.returns-in_err-copied-clause-whole
returns-in_err-copied-clause-whole c = subst IsWhole c.self.view_is (given_whole c.self.inside.given c.self.inside.contents.items c.self.inside.absence c.self.invariant.0 c.self.invariant.2)

pub returns-in_err-push-clause-whole : goal.returns-in_err-push-clause-whole
returns-in_err-push-clause-whole c = subst IsWhole c.self.view_is (given_whole c.self.inside.given c.self.inside.contents.items c.self.inside.absence c.self.invariant.0 c.self.invariant.2)
