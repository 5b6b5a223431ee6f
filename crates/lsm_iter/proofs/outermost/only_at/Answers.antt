use Rattle.std.proofs.Common.{◌<◌, List, None, map, length, option_copied, sym, ap, ◌∙◌, arith}
use Rattle.std.proofs.lemmas.List.{get_or_read}
use Rattle.lsm_iter.specs.Left.{SeenCursor, end_item}
use Rattle.lsm_iter.specs.Outermost.{IsOutermost}
use Rattle.lsm_iter.specs.declared.tree_iter.End.{End}
use Rattle.lsm_iter.proofs.Alone.{no_item, none_more, first_more}
use Rattle.lsm_iter.proofs.Compared.{seen_at, seen_lt}
use Rattle.lsm_iter.proofs.outermost.only_at.Goals as goal

nothing_yet : (end : End) (cs : List SeenCursor) → IsOutermost end cs 0 None
nothing_yet end cs = λ j d lt. absurd (omega (arith, lt))

pub returns-in-Some : goal.returns-in-Some
returns-in-Some g c =
    let end = c.args.end in
    let rs = c.args.readers.now in
    let cs = map g.R.Reader.seen rs in
    let reader = c.index-readers-0.result in
    let lt : 0 < length cs = seen_lt g.R.Reader.seen rs 0 (omega (arith, c.requires)) in
    let item = sym c.peek.ensures.is ∙ ap option_copied c.in-Some.is in
    first_more end cs 0 c.in-Some._entry.now (λ d. ap (λ x. end_item end x.left) (sym (get_or_read cs 0 (g.R.Reader.seen reader) lt (seen_at g.R.Reader.seen rs 0 reader c.index-readers-0.is) d)) ∙ item) (nothing_yet end cs)

pub returns-in-None : goal.returns-in-None
returns-in-None g c =
    let end = c.args.end in
    let rs = c.args.readers.now in
    let cs = map g.R.Reader.seen rs in
    let reader = c.index-readers-0.result in
    let lt : 0 < length cs = seen_lt g.R.Reader.seen rs 0 (omega (arith, c.requires)) in
    let gone = no_item end (g.R.Reader.seen reader).left (sym c.peek.ensures.is ∙ ap option_copied c.in-None.is) in
    none_more end cs 0 None (nothing_yet end cs) (λ d. ap (λ x. x.left) (sym (get_or_read cs 0 (g.R.Reader.seen reader) lt (seen_at g.R.Reader.seen rs 0 reader c.index-readers-0.is) d)) ∙ gone)
