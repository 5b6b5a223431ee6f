-- Beginnings as a journal grows, and the moments of a whole run.
use Rattle.std.proofs.Common.{◌≡◌, ◌⊎◌, ⊎_elim, inl, inr, ℕ, zero, suc, ◌≤◌, true, List, [], ◌∷◌, ◌++◌, fold, map, take, drop, length, refl, sym, ap, ◌∙◌, subst, arith, append_assoc}
use Rattle.std.proofs.lemmas.List.{length-append, take-append-le, drop-append-le}
use Rattle.std.proofs.lemmas.Grind.{fold-append}
use Rattle.lsm_below.specs.Entries.{Entry}
use Rattle.lsm_below.specs.Members.{IsIn}
use Rattle.lsm_store.specs.World.{Image, World, LeavesOnly}
use Rattle.lsm_model.specs.Journal.{Map, Event}
use Rattle.lsm_model.specs.Beginnings.{Note, ClearLost, IsBeginning, covered, spared_after, spoiled_after, is_spared}
use Rattle.lsm_model.specs.declared.journal.JournalEntry.TheVariants.{Clear}
use Rattle.lsm_model.proofs.Beginnings.{spared_all}
use Rattle.lsm_model.proofs.Crashes.{is_in_behind, more_covered}
use Rattle.lsm_run_model.specs.Outcomes.{Told, Past, after, after_all, without_low_reads, note_at}
use Rattle.lsm_run_model.specs.Moments.{HoldsBeginning, LeavesNow, EachMoment, last_of}
use Rattle.lsm_run_model.specs.Following.{BeginningsGrow, MomentsSince, MomentsJoin}

-- ---- beginnings

pub beginnings_grow : BeginningsGrow
beginnings_grow start journal more notes extra least low m lower b = record {
  place = b.place;
  enough = let e = b.enough in omega arith;
  within = let w = b.within in let l = length-append journal more in omega arith;
  front = b.front;
  is_front = ⊎_elim
      (λ e. inl (e ∙ sym (take-append-le b.place journal more b.within)))
      (λ (f : (n : ℕ) × IsIn (ClearLost n b.place) notes × (b.front ≡ take b.place journal ++ Clear n ∷ [])). inr (f.0, is_in_behind (ClearLost f.0 b.place) extra notes f.1, f.2 ∙ ap (λ es. es ++ Clear f.0 ∷ []) (sym (take-append-le b.place journal more b.within))))
      b.is_front;
  shows = λ k spared. b.shows k (spared_all k (is_spared k b.front (drop b.place journal)) more
      (sym (fold-append (spoiled_after k) (fold (spared_after k) true b.front) (drop b.place journal) more) ∙ ap (λ es. fold (spoiled_after k) (fold (spared_after k) true b.front) es) (sym (drop-append-le b.place journal more b.within)) ∙ spared));
}

-- ---- notes grow

-- what a run adds to a past
pub record Grown (past all : Past) : Type 0 where
  pub more : List Event
  pub extra : List Note
  pub journal : all.journal ≡ past.journal ++ more
  pub notes : all.notes ≡ extra ++ past.notes

pub grown : {R : Type 0} (opened : List Entry) (past : Past) (told : List (Told R)) → Grown past (after_all opened past told)
grown opened past [] = record { more = []; extra = []; journal = sym (append_nil past.journal); notes = refl }
  where
    append_nil : (xs : List Event) → xs ++ [] ≡ xs
    append_nil [] = refl
    append_nil (x ∷ xs) = ap (λ ys. x ∷ ys) (append_nil xs)
grown opened past (t ∷ told) =
    let next = after opened past t in
    let rest = grown opened next told in
    record {
      more = without_low_reads opened t.entries ++ rest.more;
      extra = rest.extra ++ map (note_at (length past.journal)) t.notes;
      journal = rest.journal ∙ append_assoc past.journal (without_low_reads opened t.entries) rest.more;
      notes = rest.notes ∙ sym (append_assoc rest.extra (map (note_at (length past.journal)) t.notes) past.notes);
    }

module _ (Shows : Image → Map → Type 0) (start : Map) where
  grows_held : (past all : Past) (least low : ℕ) (image : Image) → low ≤ least → Grown past all → HoldsBeginning Shows start past least image → HoldsBeginning Shows start all low image
  grows_held past all least low image lower g h = record {
    map = h.map;
    shows = h.shows;
    begins = subst (λ j. IsBeginning start j all.notes low h.map) (sym g.journal) (subst (λ ns. IsBeginning start (past.journal ++ g.more) ns low h.map) (sym g.notes) (beginnings_grow start past.journal g.more past.notes g.extra least low h.map lower h.begins));
  }

  covered_grows : (past all : Past) → Grown past all → covered past.notes ≤ covered all.notes
  covered_grows past all g = let h = more_covered g.extra past.notes in let e = ap covered g.notes in omega arith

-- ---- whole runs

-- one moment range after another
leaves_then : (w0 w1 w2 : World) (P Q S : Image → Type 0) → ((i : Image) → P i → S i) → ((i : Image) → Q i → S i) → LeavesOnly w0 w1 P → LeavesOnly w1 w2 Q → LeavesOnly w0 w2 S
leaves_then w0 w1 w2 P Q S p q first second = record {
  later = let a = first.later in let b = second.later in omega arith;
  each = λ image since. ⊎_elim (λ s. p image (first.each image s)) (λ x. q image x) (second.before w0.moment image first.later since);
  before = λ t image low since. ⊎_elim
      (λ s. ⊎_elim (λ a. inl a) (λ x. inr (p image x)) (first.before t image low s))
      (λ x. inr (q image x))
      (second.before t image (let a = first.later in omega arith) since);
}

module _ {F R : Type 0} (Shows : Image → Map → Type 0) (world : F → World) (opened : List Entry) (start : Map) where
  -- what a crash leaves at the first store
  pub at_first : (past : Past) (told : List (Told R)) (was : F) (stores : List F) → EachMoment Shows world opened start past told was stores → LeavesNow (world was) (HoldsBeginning Shows start past (covered past.notes))
  at_first past [] was [] each = each
  at_first past [] was (is ∷ stores) each = absurd each
  at_first past (t ∷ told) was [] each = absurd each
  at_first past (t ∷ told) was (is ∷ stores) each = each.0

  whole : (past : Past) (told : List (Told R)) (was : F) (stores : List F) (low : ℕ) → low ≤ covered past.notes → EachMoment Shows world opened start past told was stores
      → LeavesOnly (world was) (world (last_of was stores)) (HoldsBeginning Shows start (after_all opened past told) low) × LeavesNow (world (last_of was stores)) (HoldsBeginning Shows start (after_all opened past told) (covered (after_all opened past told).notes))
  whole past [] was [] low l each = (
    record {
      later = omega arith;
      each = λ image since. grows_held Shows start past past (covered past.notes) low image l (grown {R = R} opened past []) (each image since);
      before = λ t image below since. inl since;
    },
    each,
  )
  whole past [] was (is ∷ stores) low l each = absurd each
  whole past (t ∷ told) was [] low l each = absurd each
  whole past (t ∷ told) was (is ∷ stores) low l each =
      let next = after opened past t in
      let all = after_all opened next told in
      let up = covered_grows Shows start past next (grown opened past (t ∷ [])) in
      let rest = whole next told is stores low (omega arith) each.2 in (
        leaves_then (world was) (world is) (world (last_of is stores)) _ _ _
            (λ image h. grows_held Shows start next all (covered past.notes) low image l (grown opened next told) h) (λ image h. h) each.1 rest.0,
        rest.1,
      )

  since : (past : Past) (told : List (Told R)) (was : F) (stores : List F) (answered : ℕ) → EachMoment Shows world opened start past told was stores
      → (left : Image) → (world (last_of was stores)).since (world (last_of was (take answered stores))).moment left
      → HoldsBeginning Shows start (after_all opened past told) (covered (after_all opened past (take answered told)).notes) left
  since past told was stores zero each left s = (whole past told was stores (covered past.notes) (omega arith) each).0.each left s
  since past [] was [] (suc n) each left s = each left s
  since past [] was (is ∷ stores) (suc n) each left s = absurd each
  since past (t ∷ told) was [] (suc n) each left s = absurd each
  since past (t ∷ told) was (is ∷ stores) (suc n) each left s = since (after opened past t) told is stores n each.2 left s

pub moments_since : {F : Type 0} (R : Type 0) (Shows : Image → Map → Type 0) (world : F → World) → MomentsSince R Shows world
moments_since R Shows world opened start past told was stores answered each left s = since Shows world opened start past told was stores answered each left s

-- ---- runs after runs

join : {F R : Type 0} (Shows : Image → Map → Type 0) (world : F → World) (opened : List Entry) (start : Map) (past : Past) (told more : List (Told R)) (was : F) (stores others : List F)
    → EachMoment Shows world opened start past told was stores → EachMoment Shows world opened start (after_all opened past told) more (last_of was stores) others
    → EachMoment Shows world opened start past (told ++ more) was (stores ++ others)
join Shows world opened start past [] more was [] others a b = b
join Shows world opened start past [] more was (is ∷ stores) others a b = absurd a
join Shows world opened start past (t ∷ told) more was [] others a b = absurd a
join Shows world opened start past (t ∷ told) more was (is ∷ stores) others a b = (a.0, a.1, join Shows world opened start (after opened past t) told more is stores others a.2 b)

-- the two parts of a run
pub record Parts {F R : Type 0} (Shows : Image → Map → Type 0) (world : F → World) (opened : List Entry) (start : Map) (past : Past) (told more : List (Told R)) (was : F) (chain : List F) : Type 0 where
  pub stores : List F
  pub others : List F
  pub are : chain ≡ stores ++ others
  pub front : EachMoment Shows world opened start past told was stores
  pub back : EachMoment Shows world opened start (after_all opened past told) more (last_of was stores) others

cut : {F R : Type 0} (Shows : Image → Map → Type 0) (world : F → World) (opened : List Entry) (start : Map) (past : Past) (told more : List (Told R)) (was : F) (chain : List F)
    → EachMoment Shows world opened start past (told ++ more) was chain → Parts Shows world opened start past told more was chain
cut Shows world opened start past [] more was chain e = record { stores = []; others = chain; are = refl; front = at_first Shows world opened start past more was chain e; back = e }
cut Shows world opened start past (t ∷ told) more was [] e = absurd e
cut Shows world opened start past (t ∷ told) more was (is ∷ chain) e =
    let rest = cut Shows world opened start (after opened past t) told more is chain e.2 in
    record { stores = is ∷ rest.stores; others = rest.others; are = ap (λ xs. is ∷ xs) rest.are; front = (e.0, e.1, rest.front); back = rest.back }

pub moments_join : {F : Type 0} (R : Type 0) (Shows : Image → Map → Type 0) (world : F → World) → MomentsJoin R Shows world
moments_join R Shows world = record {
  join = λ opened start past told more was stores others. join Shows world opened start past told more was stores others;
  cut = λ opened start past told more was chain each. let p = cut Shows world opened start past told more was chain each in (p.stores, p.others, p.are, p.front, p.back);
}
