use Rattle.std.proofs.Common.{◌≡◌, ◌<◌, ◌^◌, List, ℕ, Some, length, codes, sym, ap, subst, ◌∙◌, rules, lit<}
use Rattle.lsm_versions.specs.Levels.{Levels}
use Rattle.lsm_manifest.specs.Spelling.{AreDistinct, IsLayout, FromFits, layout}
use Rattle.lsm_manifest.specs.Versions.{named_levels}
use Rattle.lsm_manifest.proofs.Written.{ids_named, put_together}
use Rattle.lsm_manifest.proofs.writing.encode_version.Goals as goal

pub returns-clause-spelling : goal.returns-clause-spelling
returns-clause-spelling c =
    let content : c.in_ok-content.content.items ≡ layout (named_levels c.args.version.now.levels) = c.in_ok-content.ensures.bytes ∙ ap (λ (ls : Levels). layout (named_levels ls)) c.levels.ensures in
    put_together c.new-out.result.items c.put_format.new.out.items c.put_tree.new.out.items c.put_log_from.new.out.items c.log_from.result c.args.version.now.log_from c.deref.result.now (layout (named_levels c.args.version.now.levels))
    c.new-out.ensures.items c.in_ok-put_format.ensures c.in_ok-put_tree.ensures c.in_ok-put_log_from.ensures.bytes (c.deref.ensures.value ∙ content) c.log_from.ensures

pub returns-clause-tells : goal.returns-clause-tells
returns-clause-tells c =
    let fit : length c.in_ok-content.content.items < 2 ^ 64 = search rules in
    let levels = c.args.version.now.levels in
    record {
      version = codes "3.1.10";
      from_fits = subst (λ (n : ℕ). FromFits (Some n)) c.log_from.ensures c.in_ok-put_log_from.ensures.fits;
      is = record {
        version_fits = lit< tt;
        layout_fits = subst (λ (s : List ℕ). length s < 2 ^ 64) (c.in_ok-content.ensures.bytes ∙ ap (λ (ls : Levels). layout (named_levels ls)) c.levels.ensures) fit;
        laid_out = subst (λ (ls : Levels). IsLayout (named_levels ls)) c.levels.ensures c.in_ok-content.ensures.laid_out;
        distinct = subst AreDistinct (sym (ids_named levels)) c.facts.ensures.is.own_ids;
      };
      spelling = returns-clause-spelling c;
    }

pub returns-clause-names : goal.returns-clause-names
returns-clause-names c = record { from = Some c.args.version.now.log_from; file = returns-clause-tells c }
