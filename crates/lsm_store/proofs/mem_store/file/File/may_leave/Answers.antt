use Rattle.std.proofs.Common.{◌≡◌, ◌↔◌, false, List, ℕ, Some, None, option_copied, sym, ap, ◌∙◌, subst}
use Rattle.std.specs.List.{list_any}
use Rattle.std.specs.Str.{bytes_eq}
use Rattle.lsm_store.specs.Held.{Held, IsWhole, IsOneOf, MayHold, MayLack}
use Rattle.lsm_store.proofs.HeldPlaces.{given_whole, among}
use Rattle.lsm_store.proofs.HeldRows.{none_left, some_left}
use Rattle.lsm_store.proofs.mem_store.file.File.may_leave.Goals as goal

pub returns-in-None : goal.returns-in-None
returns-in-None c =
    let h : Held = c.args.self.now in
    let whole : IsWhole h = subst IsWhole c.self.view_is (given_whole c.self.inside.given c.self.inside.contents.items c.self.inside.absence c.self.invariant.0 c.self.invariant.2) in
    let torn : h.torn ≡ false = ap (λ x. x.torn) (sym c.self.view_is) ∙ c.if-self.false in
    let left : MayLack h.absence ↔ MayHold h None = none_left h whole torn in
    let same : c.self.inside.absence ≡ h.absence = ap (λ x. x.absence) c.self.view_is in
    let none : option_copied c.args.content ≡ None = ap option_copied c.in-None.is in
    ((λ yes_. subst (MayHold h) (sym none) (left.0 (subst MayLack same (c.may_lack.ensures.0 yes_)))), (λ may. c.may_lack.ensures.1 (subst MayLack (sym same) (left.1 (subst (MayHold h) none may)))))

pub returns-in-Some : goal.returns-in-Some
returns-in-Some c =
    let h : Held = c.args.self.now in
    let b : List ℕ = c.in-Some.bytes.now in
    let whole : IsWhole h = subst IsWhole c.self.view_is (given_whole c.self.inside.given c.self.inside.contents.items c.self.inside.absence c.self.invariant.0 c.self.invariant.2) in
    let torn : h.torn ≡ false = ap (λ x. x.torn) (sym c.self.view_is) ∙ c.if-self.false in
    let left : IsOneOf h.contents (Some b) ↔ MayHold h (Some b) = some_left h b whole torn in
    let same : c.self.inside.contents.items ≡ h.contents = ap (λ x. x.contents) c.self.view_is in
    let some : option_copied c.args.content ≡ Some b = ap option_copied c.in-Some.is in
    let found : c.is_among.result ≡ list_any (λ v. bytes_eq v b) c.self.inside.contents.items = c.is_among.ensures ∙ ap (list_any (λ v. bytes_eq v b)) c.as_slice.ensures in
    let one = among c.self.inside.contents.items b in (
      (λ yes_. subst (MayHold h) (sym some) (left.0 (subst (λ cs. IsOneOf cs (Some b)) same (one.0 (sym found ∙ yes_))))),
      (λ may. found ∙ one.1 (subst (λ cs. IsOneOf cs (Some b)) (sym same) (left.1 (subst (MayHold h) some may)))),
    )
