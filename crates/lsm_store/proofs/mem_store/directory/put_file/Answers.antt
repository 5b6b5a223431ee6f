use Rattle.std.proofs.Common.{◌≡◌, refl, subst, rules}
use Rattle.std.specs.String.{string_bytes}
use Rattle.lsm_store.specs.Files.{Alters}
use Rattle.lsm_store.proofs.HeldFiles.{set_alters}
use Rattle.lsm_store.proofs.mem_store.directory.put_file.Goals as goal

pub returns-clause-ok : goal.returns-clause-ok
returns-clause-ok c =
    let old = c.args.files.now in
    let key = c.in_ok-from_str.field-0 in
    let name : string_bytes key ≡ c.args.name.now = search rules in
    subst (λ n. Alters n (λ _. c.args.file) old c.insert.new.self) name
    (set_alters (string_bytes key) old c.insert.new.self c.args.file c.in_ok-insert.ensures.updates old (λ _. c.args.file) (λ n. refl) refl)
