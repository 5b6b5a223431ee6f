use Rattle.std.proofs.Common.{◌≡◌, List, ℕ, Option, None, map, sym, ◌∙◌, ap, subst, rules}
use Rattle.std.specs.Map.Iter.{deref_pair}
use Rattle.std.specs.String.{string_bytes, string_eq_equiv}
use Rattle.std.proofs.lemmas.Map.Iter.{iter_end, hash_map_turn}
use Rattle.lsm_store.specs.World.{Image}
use Rattle.lsm_store.specs.Held.{Held, fresh}
use Rattle.lsm_store.specs.Files.{Files, held_at, Alters}
use Rattle.lsm_store.specs.Picks.{Picks, pick_for, left_at, picked}
use Rattle.lsm_store.specs.declared.mem_store.picks.Pick.{Pick}
use Rattle.lsm_store.proofs.HeldFiles.{found}
use Rattle.lsm_store.proofs.HeldNames.{pairs_push}
use Rattle.lsm_store.proofs.HeldLeft.{left_among, left_more, left_none, left_all}
use Rattle.lsm_store.proofs.mem_store.picks.files_left.Goals as goal

-- what is picked of a file of the store
picked_of : (files : Files) (picks : Picks) (k : List ℕ) (file : Held) (pick : Option Pick) → file ≡ held_at files k → pick ≡ pick_for picks k → left_at file pick ≡ picked files picks k
picked_of files picks k file pick held is = ap (λ q. left_at file q) is ∙ ap (λ h. left_at h (pick_for picks k)) held

pub loop-name-preserved-in_ok-put_file : goal.loop-name-preserved-in_ok-put_file
loop-name-preserved-in_ok-put_file c n =
    let image : Image = picked c.args.files.now c.args.picks.now in
    let k : List ℕ = string_bytes c.in-Some.name.now in
    let so_far = c.loop-name.yielded in
    let turn = hash_map_turn deref_pair so_far c.into_iter-name-iterator.result c.loop-name.name-iterator c.next.new.self c.next.result (c.in-Some.name, c.in-Some.file) c.loop-name.yielded_by c.in-Some.is c.next.ensures.steps string_eq_equiv c.args.files.now (search rules) (search rules) in
    let is = picked_of c.args.files.now c.args.picks.now k c.in-Some.file.now c.pick_for-pick.result (found c.args.files.now k c.in-Some.file.now (sym turn.1)) (c.pick_for-pick.ensures ∙ ap (pick_for c.args.picks.now) c.as_str.ensures.value) in
    let bytes : c.in_ok-synced.field-0 ≡ fresh (image k) = c.in_ok-synced.ensures ∙ ap fresh (c.in-Some-left_of.ensures ∙ is) in
    let put : Alters k (λ _. c.in_ok-synced.field-0) c.loop-name.left c.put_file.new.files = subst (λ m. Alters m (λ _. c.in_ok-synced.field-0) c.loop-name.left c.put_file.new.files) c.as_str-in-Some-left_of.ensures.value c.in_ok-put_file.ensures.ok in
    left_more image (map deref_pair so_far) (c.in-Some.name.now, c.in-Some.file.now) c.loop-name.left c.loop-name.invariant c.put_file.new.files (put.here ∙ bytes) put.elsewhere n
    ∙ ap (λ es. left_among image es n) (sym (pairs_push deref_pair so_far (c.in-Some.name, c.in-Some.file)))

pub loop-name-preserved : goal.loop-name-preserved
loop-name-preserved c n =
    let image : Image = picked c.args.files.now c.args.picks.now in
    let k : List ℕ = string_bytes c.in-Some.name.now in
    let so_far = c.loop-name.yielded in
    let turn = hash_map_turn deref_pair so_far c.into_iter-name-iterator.result c.loop-name.name-iterator c.next.new.self c.next.result (c.in-Some.name, c.in-Some.file) c.loop-name.yielded_by c.in-Some.is c.next.ensures.steps string_eq_equiv c.args.files.now (search rules) (search rules) in
    let is = picked_of c.args.files.now c.args.picks.now k c.in-Some.file.now c.pick_for-pick.result (found c.args.files.now k c.in-Some.file.now (sym turn.1)) (c.pick_for-pick.ensures ∙ ap (pick_for c.args.picks.now) c.as_str.ensures.value) in
    let none : image k ≡ None = sym (c.in_default.ensures ∙ is) in
    left_none image (map deref_pair so_far) (c.in-Some.name.now, c.in-Some.file.now) c.loop-name.left c.loop-name.invariant none n
    ∙ ap (λ es. left_among image es n) (sym (pairs_push deref_pair so_far (c.in-Some.name, c.in-Some.file)))

pub returns : goal.returns
returns c =
    let whole : map deref_pair c.loop-name.yielded ≡ c.args.files.now.entries = search (rules, iter_end) in
    left_all (picked c.args.files.now c.args.picks.now) c.args.files.now c.loop-name.left c.requires (λ n. c.loop-name.invariant n ∙ ap (λ es. left_among (picked c.args.files.now c.args.picks.now) es n) whole)
