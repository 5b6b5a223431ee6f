-- What an opening leaves of a ready store.
use Rattle.std.proofs.Common.{◌≡◌, ◌⊎◌, inl, inr, ⊎_elim, ℕ, ◌≤◌, false, List, [], Option, Some, None, Ok, refl, sym, ◌∙◌, subst, codes}
use Rattle.std.specs.List.{AllByRecursion}
use Rattle.lsm_below.specs.Each.{each_both}
use Rattle.lsm_below.specs.Numbers.{PlainNumbersAreRead}
use Rattle.lsm_store.specs.World.{Image, World, IsImage, LeavesOnly}
use Rattle.lsm_store.specs.Moments.{weakened}
use Rattle.lsm_versions.specs.Levels.{Levels as SeenLevels, empty_levels}
use Rattle.lsm_manifest.specs.declared.opening.Opened.{Opened}
use Rattle.lsm_manifest.specs.Names.{current_name, version_name, table_name}
use Rattle.lsm_manifest.specs.Kinds.{is_orphan}
use Rattle.lsm_manifest.specs.Spelling.{ids_of}
use Rattle.lsm_manifest.specs.Recovery.{Levels}
use Rattle.lsm_manifest.specs.Standing.{HasGoodNames, StandsFor}
use Rattle.lsm_manifest.specs.Clearing.{IsCleared, IsSettledFirst}
use Rattle.lsm_manifest.specs.Opening.{IsBegun, IsOldOrBegun, Opens, LeavesStanding}
use Rattle.lsm_manifest.specs.Finding.{Finds, Named, Nothing, AgreesInRead}
use Rattle.lsm_manifest.specs.Ready.{IsReady, IsOldOrRead, OpeningLeaves}
use Rattle.lsm_manifest.proofs.OpeningLemmas.{named_once}
use Rattle.lsm_manifest.proofs.FindingLemmas.{found_once}
use Rattle.lsm_manifest.proofs.FirstVersion.{first_levels, first_stands, older_not_first, older_not_current, refused_not_first, refused_not_current}
use Rattle.lsm_manifest.proofs.Pins.{current_stays, version_stays, layout_stays}
use Rattle.lsm_manifest.proofs.Readiness.{ready_names, never_current, ready_keeps}
use Rattle.lsm_manifest.proofs.Takes.{ImagesAreFirst}
use Rattle.lsm_manifest.proofs.Unread.{unread}

-- two facts of each image
both_left : (old new : World) (P Q : Image → Type 0) → LeavesOnly old new P → LeavesOnly old new Q → LeavesOnly old new (λ image. P image × Q image)
both_left old new P Q p q = record {
  later = p.later;
  each = λ image left. (p.each image left, q.each image left);
  before = λ t image early left. ⊎_elim (λ was. inl was) (λ is. ⊎_elim (λ was. inl was) (λ also. inr (is, also)) (q.before t image early left)) (p.before t image early left);
}

-- what is read of an image: the tables, and `current` as reads gave it, unless they gave none
abbrev IsRead : World → SeenLevels → Image → Type 0
IsRead old ts image = Finds image ts × ((old.gives current_name ≡ None) ⊎ (image current_name ≡ old.gives current_name))

abbrev IsOldOrSame : World → SeenLevels → Image → Type 0
IsOldOrSame old ts image = IsImage old.may image ⊎ IsRead old ts image

module _ (first : ImagesAreFirst) (plain : PlainNumbersAreRead) (old : World) (ts : SeenLevels) (ready : IsReady old) (one : IsImage old.may old.gives) (finds : Finds old.gives ts) where
  -- an image with the content that was read, but for orphans
  module _ (id : ℕ) (ls : Levels) (s : StandsFor old.gives id ls ts) (image : Image) (cleared : IsCleared (is_orphan id (ids_of ls)) old image)
      (fixed : (n : List ℕ) (impossible : Option (List ℕ)) → is_orphan id (ids_of ls) n ≡ false → ¬ old.may n impossible → image n ≡ old.gives n) where
    never : (n : List ℕ) → ((c : Option (List ℕ)) → old.may n c → c ≡ None) → image n ≡ None
    never n none = ⊎_elim (λ may. none (image n) may) (λ gone. gone.0) (cleared n)

    agrees : AgreesInRead old.gives image
    agrees =
        let keeps = ready_keeps old ready one id ls s.named in
        let names = ready_names old ready one in
        let stays = layout_stays plain id (ids_of ls) ls (λ i is. is) s.named.reads.file.is.laid_out.each in
        record {
          current = fixed current_name (Some []) (current_stays id (ids_of ls)) keeps.current;
          version = λ j ms n. subst (λ (k : ℕ). image (version_name k) ≡ old.gives (version_name k)) (named_once old.gives id j ls ms s.named n).0 (fixed (version_name id) None (version_stays id (ids_of ls)) keeps.version);
          tables = λ j ms n. subst (λ (l : Levels). AllByRecursion (λ l. AllByRecursion (λ r. AllByRecursion (λ t. image (table_name t.id) ≡ old.gives (table_name t.id)) r) l) l) (named_once old.gives id j ls ms s.named n).1
              (each_both _ _ _ (λ l. each_both _ _ _ (λ r. each_both _ _ _ (λ t. fixed (table_name t.id) None) r) l) ls stays keeps.tables);
          no_version = never (codes "version") names.no_version ∙ sym s.names.no_version;
          in_tables = λ n bad. never n (λ c. names.in_tables n c bad) ∙ sym (s.names.in_tables n bad);
        }

    read_again : Finds image ts × (image current_name ≡ old.gives current_name)
    read_again = ((unread old.gives image agrees).0 ts finds, agrees.current)

  -- an image in which a first version was begun
  begun : old.gives current_name ≡ None → ts ≡ empty_levels → (image : Image) → IsBegun old image → Finds image ts
  begun absent e image is =
      let names = ready_names old ready one in
      let good : HasGoodNames image = record {
        no_version = names.no_version (image (codes "version")) (is.elsewhere (codes "version") older_not_first older_not_current);
        in_tables = λ n bad. names.in_tables n (image n) bad (is.elsewhere n (refused_not_first n bad) (refused_not_current n bad));
      } in
      subst (Finds image) (sym e)
      (⊎_elim (λ was. Nothing (was (Some []) (never_current old ready one) ∙ absent) good refl) (λ new. Named 0 first_levels (first_stands image new.0 new.1 good)) is.named)

  -- ---- meanwhile

  same_meanwhile : (new : World) → LeavesStanding old new → Finds old.gives ts → LeavesOnly old new (IsOldOrSame old ts)
  same_meanwhile new left (Named id ls s) =
      weakened old new (λ image. IsCleared (is_orphan id (ids_of ls)) old image × IsSettledFirst (is_orphan id (ids_of ls)) old image) (IsOldOrSame old ts)
      (both_left old new (IsCleared (is_orphan id (ids_of ls)) old) (IsSettledFirst (is_orphan id (ids_of ls)) old) (left.any_moment id ls s.named) (left.settled_first id ls s.named))
      (λ image is. ⊎_elim (λ was. inl was) (λ fixed. let r = read_again id ls s image is.0 fixed in inr (r.0, inr r.1)) is.1)
  same_meanwhile new left (Nothing none good e) =
      weakened old new (IsOldOrBegun old) (IsOldOrSame old ts) (left.new_settled none) (λ image is. ⊎_elim (λ was. inl was) (λ b. inr (begun none e image b, inl none)) is)

  -- ---- ready again

  pub opening_leaves : (new : World) → LeavesStanding old new → ((t : ℕ) (image : Image) → t ≤ new.moment → IsImage new.may image → new.since t image) → OpeningLeaves old new ts
  opening_leaves new left counts = record {
    meanwhile = weakened old new (IsOldOrSame old ts) (IsOldOrRead old ts) same (λ image is. ⊎_elim (λ was. inl was) (λ r. inr r.0) is);
    again = record {
      found = λ image at. ⊎_elim (λ was. ready.found image was) (λ r. (ts, r.0)) (at_now image at);
      once = λ a b us at_a at_b eq x. once a b us eq x (at_now a at_a) (at_now b at_b);
      none = λ a b us at_a at_b gone x. nothing a b us gone x (at_now a at_a) (at_now b at_b);
    };
  }
    where
      same : LeavesOnly old new (IsOldOrSame old ts)
      same = same_meanwhile new left finds

      at_now : (image : Image) → IsImage new.may image → IsOldOrSame old ts image
      at_now image at = same.each image (counts old.moment image same.later at)

      -- without `current` all that is found is nothing
      alike : (a b : Image) (us : SeenLevels) → old.gives current_name ≡ None → Finds a us → IsOldOrSame old ts a → us ≡ ts
      alike a b us gone x (inl was) = ready.none a old.gives us was one gone x ∙ sym (ready.none old.gives old.gives ts one one gone finds)
      alike a b us gone x (inr r) = found_once first a us ts x r.0

      once : (a b : Image) (us : SeenLevels) → b current_name ≡ a current_name → Finds a us → IsOldOrSame old ts a → IsOldOrSame old ts b → Finds b us
      once a b us eq x (inl at) (inl at_b) = ready.once a b us at at_b eq x
      once a b us eq x (inl at) (inr r) =
          ⊎_elim (λ gone. subst (Finds b) (sym (alike a b us gone x (inl at))) r.0)
          (λ read. subst (Finds b) (found_once first a ts us (ready.once old.gives a ts one at (sym eq ∙ read) finds) x) r.0) r.1
      once a b us eq x (inr r) (inl at_b) =
          let is = found_once first a ts us r.0 x in
          ⊎_elim (λ gone. let f = ready.found b at_b in subst (Finds b) (alike b a f.0 gone f.1 (inl at_b) ∙ is) f.1)
          (λ read. subst (Finds b) is (ready.once old.gives b ts one at_b (eq ∙ read) finds)) r.1
      once a b us eq x (inr r) (inr q) = subst (Finds b) (found_once first a ts us r.0 x) q.0

      nothing : (a b : Image) (us : SeenLevels) → b current_name ≡ None → Finds a us → IsOldOrSame old ts a → IsOldOrSame old ts b → us ≡ empty_levels
      nothing a b us gone x (inl at) (inl at_b) = ready.none a b us at at_b gone x
      nothing a b us gone x (inr r) (inl at_b) = found_once first a us ts x r.0 ∙ ready.none old.gives b ts one at_b gone finds
      nothing a b us gone x at (inr q) =
          let none : old.gives current_name ≡ None = ⊎_elim (λ absent. absent) (λ read. sym read ∙ gone) q.1 in
          alike a b us none x at ∙ ready.none old.gives old.gives ts one one none finds

  -- ---- after an Ok

  pub opened_leaves : (new : World) (o : Opened) → Opens old new (Ok o) → (image : Image) → IsImage new.may image → Finds image ts
  opened_leaves new o opens image at = by_found finds
    where
      by_found : Finds old.gives ts → Finds image ts
      by_found (Named id ls s) =
          let removes = opens.removes id ls s.named in
          (read_again id ls s image (λ n. removes.may n (image n) (at n)) (λ n impossible stays not. removes.on_disk n stays impossible (image n) not (at n))).0
      by_found (Nothing none good e) =
          let p = (opens.fresh good.no_version none).persisted in
          begun none e image (record { elsewhere = λ n v d. p.may n (image n) v d (at n); named = inr ((p.current (image current_name)).0 (at current_name), (p.version (image (version_name 0))).0 (at (version_name 0))) })
