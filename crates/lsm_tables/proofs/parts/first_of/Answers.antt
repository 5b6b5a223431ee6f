use Rattle.std.proofs.Common.{◌≡◌, ℕ, ◌+◌, ◌<◌, List, [], ◌∷◌, ◌++◌, length, get_or, take, drop, sym, ap, ◌∙◌}
use Rattle.std.specs.Borrow.{Bor}
use Rattle.std.proofs.lemmas.List.{take_rest, take-append-drop, drop_more, nil_from_length}
use Rattle.std.proofs.lemmas.List.Concat.{flat_map-append, flat_map-cons}
use Rattle.lsm_below.specs.Entries.{Entry}
use Rattle.lsm_tables.specs.Parts.{in_slices}
use Rattle.lsm_tables.proofs.parts.first_of.Goals as goal

-- the slice after those that have no entry begins with the first entry
found : (first rest : List Entry) (later : List (Bor (List Entry))) (at : ℕ) (slice : Bor (List Entry)) (e : Entry) → first ≡ [] → in_slices (take at later) ≡ [] → at < length later → slice ≡ get_or later at slice → slice.now ≡ e ∷ rest
    → first ++ in_slices later ≡ e ∷ (rest ++ in_slices (drop (at + 1) later))
found first rest later at slice e none empty lt is begins =
    let now = λ (s : Bor (List Entry)). s.now in
    let behind : List (Bor (List Entry)) = drop (at + 1) later in
    let parted : later ≡ take at later ++ slice ∷ behind = sym (take-append-drop at later) ∙ ap (λ l. take at later ++ l) (drop_more later at slice lt ∙ ap (λ s. s ∷ behind) (sym is)) in
    ap (λ l. l ++ in_slices later) none
    ∙ ap in_slices parted
    ∙ flat_map-append now (take at later) (slice ∷ behind)
    ∙ ap (λ l. l ++ in_slices (slice ∷ behind)) empty
    ∙ flat_map-cons now slice behind
    ∙ ap (λ l. l ++ in_slices behind) begins

pub returns-in-Some-split_first : goal.returns-in-Some-split_first
returns-in-Some-split_first c =
    let later = c.args.later.now in
    let at = c.loop-at.at in
    let e = c.in-Some-split_first.entry.now in
    let rest = c.in-Some-split_first.rest.now in
    found c.args.first.now rest later at c.index-later-at.result e (nil_from_length c.args.first.now c.in_default.ensures.cases) c.loop-at.invariant c.loop-at-test.true c.index-later-at.is c.in-Some-split_first.ensures.cases.0
    ∙ ap (λ l. e ∷ (rest ++ in_slices l)) (sym (take_rest later (at + 1)))
