use Rattle.std.proofs.Common.{inl, inr, subst, Result, Ok, Err, OnOk, IfErr}
use Rattle.lsm_store.specs.World.{Image}
use Rattle.lsm_store.specs.Moments.{same_then}
use Rattle.lsm_log.proofs.Loaded.{gives_same}
use Rattle.lsm_dump_parts.specs.Verdicts.{IsLogRead, IsWhole, RefusesLog, Refuses}
use Rattle.lsm_dump_parts.proofs.verdict.judge.Goals as goal

on_ok_weaker : {T E : Type 0} (P Q : Type 0) (r : Result T E) → (P → Q) → OnOk r P → OnOk r Q
on_ok_weaker P Q (Ok x) f p = f p
on_ok_weaker P Q (Err e) f p = tt

if_err_weaker : {T E : Type 0} (P Q : E → Type 0) (r : Result T E) → ((e : E) → P e → Q e) → IfErr r P → IfErr r Q
if_err_weaker P Q (Ok x) f p = tt
if_err_weaker P Q (Err e) f p = f e p

pub returns-in-Ok-clause-whole : goal.returns-in-Ok-clause-whole
returns-in-Ok-clause-whole g c tells =
    let w = g.S.Store.world in
    let old = w c.args.store.now in
    let mid = w c.judge_tree.new.store in
    let from = c.in-Ok.from in
    let gives = gives_same old mid (c.in-Ok.ensures.same tells) in
    on_ok_weaker (IsLogRead mid.gives from) (IsWhole old.gives) c.judge_log.result
    (λ read. record { from = from; tree = c.in-Ok.ensures.found tells; log = subst (λ (i : Image). IsLogRead i from) gives read })
    (c.judge_log.ensures.read tells)

pub returns-in-Ok-clause-refused : goal.returns-in-Ok-clause-refused
returns-in-Ok-clause-refused g c tells =
    let w = g.S.Store.world in
    let old = w c.args.store.now in
    let mid = w c.judge_tree.new.store in
    let from = c.in-Ok.from in
    let gives = gives_same old mid (c.in-Ok.ensures.same tells) in
    if_err_weaker (RefusesLog mid.gives from) (Refuses old (w c.judge_log.new.store)) c.judge_log.result
    (λ e refused. inr (record { from = from; tree = c.in-Ok.ensures.found tells; refused = subst (λ (i : Image). RefusesLog i from e) gives refused }))
    (c.judge_log.ensures.refused tells)

pub returns-in-Err-clause-refused : goal.returns-in-Err-clause-refused
returns-in-Err-clause-refused g c tells = inl (c.in-Err.ensures.refused tells)

pub returns-in-Ok-clause-same : goal.returns-in-Ok-clause-same
returns-in-Ok-clause-same g c tells = same_then _ _ _ (c.in-Ok.ensures.same tells) (c.judge_log.ensures.same tells)
