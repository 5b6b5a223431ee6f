use Rattle.std.proofs.Common.{◌≡◌, ◌++◌, ◌∷◌, [], true, false, cond, map, is_some, sym, ap, ◌∙◌, rules, subst, append-nil}
use Rattle.std.specs.Map.Iter.{deref_pair}
use Rattle.std.proofs.lemmas.Map.Iter.{iter_end}
use Rattle.std.specs.String.{string_bytes}
use Rattle.lsm_store.specs.World.{Lists}
use Rattle.lsm_store.specs.Files.{present}
use Rattle.lsm_store.specs.Memory.{gives_of}
use Rattle.lsm_store.proofs.HeldNames.{Entry, present_push, bytes_push, pairs_push, lists_present}
use Rattle.lsm_store.proofs.mem_store.directory.names_of.Goals as goal

pub loop-name-preserved-in_ok-push : goal.loop-name-preserved-in_ok-push
loop-name-preserved-in_ok-push c =
    let names = c.loop-name.names.items in
    let name = c.in_ok-from_str.field-0 in
    let e : Entry = (c.in-Some.name.now, c.in-Some.file.now) in
    let copied : string_bytes name ≡ string_bytes c.in-Some.name.now = search rules in
    let some : is_some c.in-Some.file.now.gives ≡ true = search rules in
    ap (map string_bytes) c.in_ok-push.ensures.items ∙ bytes_push names name
    ∙ ap (λ l. l ++ string_bytes name ∷ []) c.loop-name.invariant ∙ ap (λ x. present (map deref_pair c.loop-name.yielded) ++ x ∷ []) copied
    ∙ ap (λ s. present (map deref_pair c.loop-name.yielded) ++ cond s (string_bytes c.in-Some.name.now ∷ []) []) (sym some)
    ∙ sym (present_push (map deref_pair c.loop-name.yielded) e) ∙ ap present (sym (pairs_push deref_pair c.loop-name.yielded (c.in-Some.name, c.in-Some.file)))

pub loop-name-preserved : goal.loop-name-preserved
loop-name-preserved c =
    let e : Entry = (c.in-Some.name.now, c.in-Some.file.now) in
    let none : is_some c.in-Some.file.now.gives ≡ false = search rules in
    c.loop-name.invariant ∙ sym (append-nil (present (map deref_pair c.loop-name.yielded)))
    ∙ ap (λ s. present (map deref_pair c.loop-name.yielded) ++ cond s (string_bytes c.in-Some.name.now ∷ []) []) (sym none)
    ∙ sym (present_push (map deref_pair c.loop-name.yielded) e) ∙ ap present (sym (pairs_push deref_pair c.loop-name.yielded (c.in-Some.name, c.in-Some.file)))

pub returns : goal.returns
returns c =
    let whole : map deref_pair c.loop-name.yielded ≡ c.args.files.now.entries = search (rules, iter_end) in
    subst (λ l. Lists (gives_of c.args.files.now) l) (sym (c.loop-name.invariant ∙ ap present whole)) (lists_present c.args.files.now (search rules))
