use Rattle.std.proofs.Common.{◌≡◌, [], Some, map, option_copied, sym, ap, ◌∙◌, subst}
use Rattle.std.proofs.lemmas.List.{get_or_read}
use Rattle.lsm_iter.specs.Left.{end_item}
use Rattle.lsm_iter.specs.Outermost.{IsOutermost}
use Rattle.lsm_iter.proofs.Alone.{no_item, none_more, first_more}
use Rattle.lsm_iter.proofs.Compared.{item_at, seen_at, seen_lt, outside_seen, inside_seen, newer_seen, older_seen}
use Rattle.lsm_iter.proofs.outermost.outer_of.Goals as goal

pub returns-in_default-clause-outer : goal.returns-in_default-clause-outer
returns-in_default-clause-outer g c =
    let seen = g.R.Reader.seen in
    let rs = c.args.readers.now in
    let reader = c.index-readers-at.result in
    let gone : (seen reader).left ≡ [] = no_item c.args.end (seen reader).left (sym c.peek.ensures.is ∙ ap option_copied c.in_default.is) in
    none_more c.args.end (map seen rs) c.args.at c.args.outer c.requires.outer
    (λ d. ap (λ x. x.left) (sym (get_or_read (map seen rs) c.args.at (seen reader) (seen_lt seen rs c.args.at c.requires.at) (seen_at seen rs c.args.at reader c.index-readers-at.is) d)) ∙ gone)

pub returns-in_default-outer-clause-outer : goal.returns-in_default-outer-clause-outer
returns-in_default-outer-clause-outer g c =
    let seen = g.R.Reader.seen in
    let rs = c.args.readers.now in
    let reader = c.index-readers-at.result in
    let item : end_item c.args.end (seen reader).left ≡ Some c.in-Some.entry.now = sym c.peek.ensures.is ∙ ap option_copied c.in-Some.is in
    first_more c.args.end (map seen rs) c.args.at c.in-Some.entry.now
    (item_at c.args.end (map seen rs) c.args.at (seen reader) c.in-Some.entry.now (seen_lt seen rs c.args.at c.requires.at) (seen_at seen rs c.args.at reader c.index-readers-at.is) item)
    (subst (IsOutermost c.args.end (map seen rs) c.args.at) c.in_default-outer.is c.requires.outer)

pub returns-in-Outside-clause-outer : goal.returns-in-Outside-clause-outer
returns-in-Outside-clause-outer g c =
    outside_seen g.R.Reader.seen c.args.readers.now c.args.end c.args.at c.in-Some-outer.place c.in-Some.entry.now c.index-readers-at.result c.index-readers-place.result c.requires.at c.index-readers-at.is c.index-readers-place.is
    (subst (IsOutermost c.args.end (map g.R.Reader.seen c.args.readers.now) c.args.at) c.in-Some-outer.is c.requires.outer) (sym c.peek.ensures.is ∙ ap option_copied c.in-Some.is) c.stands_at.result c.stands_at.ensures.is
    c.stands_at.ensures.rises c.in-Outside.is

pub returns-in-Inside-clause-outer : goal.returns-in-Inside-clause-outer
returns-in-Inside-clause-outer g c =
    inside_seen g.R.Reader.seen c.args.readers.now c.args.end c.args.at c.in-Some-outer.place c.in-Some.entry.now c.index-readers-at.result c.index-readers-place.result c.requires.at c.index-readers-at.is c.index-readers-place.is
    (subst (IsOutermost c.args.end (map g.R.Reader.seen c.args.readers.now) c.args.at) c.in-Some-outer.is c.requires.outer) (sym c.peek.ensures.is ∙ ap option_copied c.in-Some.is) c.stands_at.result c.stands_at.ensures.is
    c.peek.ensures.rises c.in-Inside.is

pub returns-in-Newer : goal.returns-in-Newer
returns-in-Newer g c =
    let met =
    newer_seen g.R.Reader.seen c.args.readers.now c.args.end c.args.at c.in-Some-outer.place c.in-Some.entry.now c.index-readers-at.result c.index-readers-place.result c.requires.at c.index-readers-at.is c.index-readers-place.is
    (subst (IsOutermost c.args.end (map g.R.Reader.seen c.args.readers.now) c.args.at) c.in-Some-outer.is c.requires.outer) (sym c.peek.ensures.is ∙ ap option_copied c.in-Some.is) c.stands_at.result c.stands_at.ensures.is
    c.index-readers-place-in-Newer.result c.skip.new.self c.index-readers-place-in-Newer.is c.skip.ensures.takes c.skip.ensures.held c.stands_at.ensures.rises c.in-Newer.is in
    record { outer = met.0; same = met.1 }

pub returns-in-Older : goal.returns-in-Older
returns-in-Older g c =
    let met =
    older_seen g.R.Reader.seen c.args.readers.now c.args.end c.args.at c.in-Some-outer.place c.in-Some.entry.now c.index-readers-at.result c.index-readers-place.result c.requires.at c.index-readers-at.is c.index-readers-place.is
    (subst (IsOutermost c.args.end (map g.R.Reader.seen c.args.readers.now) c.args.at) c.in-Some-outer.is c.requires.outer) (sym c.peek.ensures.is ∙ ap option_copied c.in-Some.is) c.stands_at.result c.stands_at.ensures.is
    c.index-readers-at-in-Older.result c.skip-in-Older.new.self c.index-readers-at-in-Older.is c.skip-in-Older.ensures.takes c.skip-in-Older.ensures.held c.peek.ensures.rises c.in-Older.is in
    record { outer = met.0; same = met.1 }
