-- A cursor's entry, compared with the outermost one of those before it.
use Rattle.std.proofs.Common.{◌≡◌, ℕ, ◌+◌, ◌<◌, ◌≤◌, List, Some, MatchOption, Option, get_or, set, map, length, sym, ap, ◌∙◌, subst, arith}
use Rattle.std.proofs.lemmas.List.{get_or_read, length-map, map-id, map-set}
use Rattle.std.proofs.Math.ListN.{get_or-map}
use Rattle.lsm_below.specs.Entries.{Entry}
use Rattle.lsm_below.specs.Sorted.{Rises}
use Rattle.lsm_iter.specs.Shown.{by_key}
use Rattle.lsm_iter.specs.Ends.{IsTaken}
use Rattle.lsm_iter.specs.Left.{SeenCursor, end_item, Takes}
use Rattle.lsm_iter.specs.Outermost.{standing, IsAlone, IsOutermost, ShowSame}
use Rattle.lsm_iter.specs.declared.outermost.Standing.{Standing}
use Rattle.lsm_iter.specs.declared.outermost.Standing.TheVariants.{Outside, Newer, Older, Inside}
use Rattle.lsm_iter.specs.declared.tree_iter.End.{End}
use Rattle.lsm_iter.proofs.Alone.{has_item, taken_some, rest_inside, is_outside, is_inside, is_newer, is_older, outside_more, inside_too, older_gone, newer_stays, dropped_behind, dropped_under}

-- a cursor that was read, with this entry at its end
module _ (end : End) (cs : List SeenCursor) (n : ℕ) (cursor : SeenCursor) (e : Entry) (lt : n < length cs) (is : cursor ≡ get_or cs n cursor) (item : end_item end cursor.left ≡ Some e) where
  own : (d : SeenCursor) → cursor ≡ get_or cs n d
  own d = get_or_read cs n cursor lt is d

  pub item_at : (d : SeenCursor) → end_item end (get_or cs n d).left ≡ Some e
  item_at d = ap (λ c. end_item end c.left) (sym (own d)) ∙ item

  rises_at : Rises by_key cursor.left → (d : SeenCursor) → Rises by_key (get_or cs n d).left
  rises_at h d = subst (λ c. Rises by_key c.left) (own d) h

-- a cursor that loses its entry
taken_at : (end : End) (cs : List SeenCursor) (n : ℕ) (lost new : SeenCursor) (e : Entry) → n < length cs → lost ≡ get_or cs n lost → ((d : SeenCursor) → end_item end (get_or cs n d).left ≡ Some e)
    → Takes end (get_or cs n lost).left (end_item end (get_or cs n lost).left) new.left → (d : SeenCursor) → IsTaken end (get_or cs n d).left e new.left
taken_at end cs n lost new e lt is item takes d =
    subst (λ c. IsTaken end c.left e new.left) (sym is ∙ get_or_read cs n lost lt is d) (taken_some end (get_or cs n lost).left e new.left takes (item lost))

-- the cursor at n, whose entry is compared, and the outermost one before it
module _ (end : End) (cs : List SeenCursor) (n p : ℕ) (e : Entry) (cursor first : SeenCursor) (lt : n < length cs) (is : cursor ≡ get_or cs n cursor) (first_is : first ≡ get_or cs p first) (h : IsAlone end cs n p) (item : end_item end cursor.left ≡ Some e) (r : Standing) (stood : MatchOption (end_item end first.left) (r ≡ Outside) (λ x. r ≡ standing end x e)) where
  low : p < length cs
  low = let a = h.before in omega (arith, a, lt)

  there : (d : SeenCursor) → end_item end (get_or cs n d).left ≡ Some e
  there = item_at end cs n cursor e lt is item

  top : end_item end first.left ≡ Some h.item
  top = ap (λ x. end_item end x.left) (get_or_read cs p first low first_is first) ∙ h.there first

  stands : standing end h.item e ≡ r
  stands = sym (subst (λ o. MatchOption o (r ≡ Outside) (λ x. r ≡ standing end x e)) top stood)

  outside_met : Rises by_key first.left → r ≡ Outside → IsAlone end cs (n + 1) n
  outside_met rises met = outside_more end cs n e there p h (rises_at end cs p first h.item low first_is top rises) (is_outside end h.item e (stands ∙ met))

  inside_met : Rises by_key cursor.left → r ≡ Inside → IsAlone end cs (n + 1) p
  inside_met rises met = inside_too end cs n e there p h (rises_at end cs n cursor e lt is item rises) (is_inside end h.item e (stands ∙ met))

  -- the one before it, read once more, loses its entry
  newer_met : (lost new : SeenCursor) → lost ≡ get_or cs p lost → Takes end (get_or cs p lost).left (end_item end (get_or cs p lost).left) new.left → new.held ≤ (get_or cs p lost).held
      → Rises by_key first.left → r ≡ Newer → IsAlone end (set cs p new) (n + 1) n × ShowSame cs (set cs p new)
  newer_met lost new lost_is takes held rises met =
      let newer = is_newer end h.item e (stands ∙ met) in
      let taken = taken_at end cs p lost new h.item low lost_is h.there takes in (
        newer_stays end cs n e there p h new lt newer.0 (λ d. rest_inside end (get_or cs p d).left h.item new.left (rises_at end cs p first h.item low first_is top rises d) (taken d)),
        dropped_under end cs p h.item new low taken lost held n e lt (λ q. let a = h.before in omega (arith, a, q)) (has_item end (get_or cs n lost).left e (there lost)) newer.0 newer.1,
      )

  -- it loses its own
  older_met : (lost new : SeenCursor) → lost ≡ get_or cs n lost → Takes end (get_or cs n lost).left (end_item end (get_or cs n lost).left) new.left → new.held ≤ (get_or cs n lost).held
      → Rises by_key cursor.left → r ≡ Older → IsAlone end (set cs n new) (n + 1) p × ShowSame cs (set cs n new)
  older_met lost new lost_is takes held rises met =
      let older = is_older end h.item e (stands ∙ met) in
      let taken = taken_at end cs n lost new e lt lost_is there takes in (
        older_gone end cs n e there p h new lt older.0 (λ d. rest_inside end (get_or cs n d).left e new.left (rises_at end cs n cursor e lt is item rises d) (taken d)),
        dropped_behind end cs n e new lt taken lost held p h.item h.before (has_item end (get_or cs p lost).left h.item (h.there lost)) (sym older.0) older.1,
      )

-- the same of readers, of which each is seen as a cursor
module _ {R : Type 0} (seen : R → SeenCursor) (rs : List R) where
  pub seen_at : (n : ℕ) (x : R) → x ≡ get_or rs n x → seen x ≡ get_or (map seen rs) n (seen x)
  seen_at n x is = ap seen is ∙ sym (get_or-map seen rs n x)

  pub seen_lt : (n : ℕ) → n < length rs → n < length (map seen rs)
  seen_lt n lt = omega (arith, lt, length-map rs seen)

  module _ (end : End) (n p : ℕ) (e : Entry) (reader first : R) (lt : n < length rs) (is : reader ≡ get_or rs n reader) (first_is : first ≡ get_or rs p first) (h : IsAlone end (map seen rs) n p) (item : end_item end (seen reader).left ≡ Some e) (r : Standing) (stood : MatchOption (end_item end (seen first).left) (r ≡ Outside) (λ x. r ≡ standing end x e)) where
    pub outside_seen : Rises by_key (seen first).left → r ≡ Outside → IsAlone end (map seen rs) (n + 1) n
    outside_seen rises met = outside_met end (map seen rs) n p e (seen reader) (seen first) (seen_lt n lt) (seen_at n reader is) (seen_at p first first_is) h item r stood rises met

    pub inside_seen : Rises by_key (seen reader).left → r ≡ Inside → IsAlone end (map seen rs) (n + 1) p
    inside_seen rises met = inside_met end (map seen rs) n p e (seen reader) (seen first) (seen_lt n lt) (seen_at n reader is) (seen_at p first first_is) h item r stood rises met

    pub newer_seen : (lost new : R) → lost ≡ get_or rs p lost → Takes end (seen (get_or rs p lost)).left (end_item end (seen (get_or rs p lost)).left) (seen new).left → (seen new).held ≤ (seen (get_or rs p lost)).held
        → Rises by_key (seen first).left → r ≡ Newer → IsAlone end (map seen (set rs p new)) (n + 1) n × ShowSame (map seen rs) (map seen (set rs p new))
    newer_seen lost new lost_is takes held rises met =
        rw (map-set seen rs p new)
        (newer_met end (map seen rs) n p e (seen reader) (seen first) (seen_lt n lt) (seen_at n reader is) (seen_at p first first_is) h item r stood (seen lost) (seen new) (seen_at p lost lost_is)
        (rw (get_or-map seen rs p lost) takes) (rw (get_or-map seen rs p lost) held) rises met)

    pub older_seen : (lost new : R) → lost ≡ get_or rs n lost → Takes end (seen (get_or rs n lost)).left (end_item end (seen (get_or rs n lost)).left) (seen new).left → (seen new).held ≤ (seen (get_or rs n lost)).held
        → Rises by_key (seen reader).left → r ≡ Older → IsAlone end (map seen (set rs n new)) (n + 1) p × ShowSame (map seen rs) (map seen (set rs n new))
    older_seen lost new lost_is takes held rises met =
        rw (map-set seen rs n new)
        (older_met end (map seen rs) n p e (seen reader) (seen first) (seen_lt n lt) (seen_at n reader is) (seen_at p first first_is) h item r stood (seen lost) (seen new) (seen_at n lost lost_is)
        (rw (get_or-map seen rs n lost) takes) (rw (get_or-map seen rs n lost) held) rises met)

-- cursors are seen as themselves
pub seen_alone : (end : End) (cs : List SeenCursor) (o : Option ℕ) → IsOutermost end (map (λ c. c) cs) (length cs) o → IsOutermost end cs (length cs) o
seen_alone end cs o h = subst (λ l. IsOutermost end l (length cs) o) (map-id cs) h

pub seen_same : (old new : List SeenCursor) → ShowSame (map (λ c. c) old) (map (λ c. c) new) → ShowSame old new
seen_same old new h = subst (λ l. ShowSame l new) (map-id old) (subst (ShowSame (map (λ c. c) old)) (map-id new) h)
