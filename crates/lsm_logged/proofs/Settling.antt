-- What is kept of a log can be settled.
use Rattle.std.proofs.Common.{◌≡◌, ◌⊎◌, ⊎_elim, ℕ, ◌≤◌, true, false, List, [], ◌∷◌, Option, Some, None, inl, inr, refl, ap, ◌∙◌, subst, arith, eqb, eqb-true}
use Rattle.std.proofs.lemmas.Bool.{eqb-false}
use Rattle.std.specs.List.{AllByRecursion}
use Rattle.lsm_below.specs.Each.{each_append}
use Rattle.lsm_store.specs.World.{Image, World, Begins}
use Rattle.lsm_log.specs.LogNames.{record_name}
use Rattle.lsm_log.specs.Records.{front, spelling}
use Rattle.lsm_log_model.specs.Records.{Batch}
use Rattle.lsm_log_model.specs.Logs.{Logged as Log, lost_of}
use Rattle.lsm_logged.specs.Keeping.{IsRecordFile, IsNoNumber, KeepsLog}
use Rattle.lsm_logged.specs.Opening.{CanBeSettled}

-- a content that a name can't have
abbrev Excluded : World → List ℕ → Type 0
Excluded w n = (impossible : Option (List ℕ)) × ¬ w.may n impossible

-- a record is never absent
never_absent : (b : Batch) → IsRecordFile b None → ⊥
never_absent b is = let e : None ≡ Some is.0 = is.1 in absurd (cc e)

abbrev head_of : List ℕ → Option ℕ
head_of [] = None
head_of (b ∷ bs) = Some b

-- and no record is a byte alone
not_a_byte : (b : Batch) → IsRecordFile b (Some (0 ∷ [])) → ⊥
unfolding front
not_a_byte b is =
    let e : Some (0 ∷ []) ≡ Some is.0 = is.1 in
    let bytes : 0 ∷ [] ≡ is.0 = cc e in
    let spelled : 0 ∷ [] ≡ spelling b.number b.ops = bytes ∙ is.2.written in
    let first : Some 0 ≡ Some 76 = ap head_of spelled in
    absurd (cc first)

always_there : (w : World) (b : Batch) → ((c : Option (List ℕ)) → w.may (record_name b.number) c → IsRecordFile b c) → Excluded w (record_name b.number)
always_there w b is = (None, λ may. never_absent b (is None may))

absent_or_record : (w : World) (b : Batch) → ((c : Option (List ℕ)) → w.may (record_name b.number) c → (c ≡ None) ⊎ IsRecordFile b c) → Excluded w (record_name b.number)
absent_or_record w b is = (Some (0 ∷ []), λ may. ⊎_elim (λ (e : Some (0 ∷ []) ≡ None). absurd (cc e)) (not_a_byte b) (is (Some (0 ∷ [])) may))

always_absent : (w : World) (n : List ℕ) → ((c : Option (List ℕ)) → w.may n c → c ≡ None) → Excluded w n
always_absent w n none = (Some [], λ may. let e : Some [] ≡ None = none (Some []) may in absurd (cc e))

-- the number is that of a batch, whose record excludes a content, or of none
search : (w : World) (k : ℕ) (bs : List Batch) (P : Batch → Type 0) → ((b : Batch) → P b → Excluded w (record_name b.number)) → AllByRecursion P bs → Excluded w (record_name k) ⊎ IsNoNumber k bs
search w k [] P gives all = inr tt
search w k (b ∷ bs) P gives all =
    elim (eqb b.number k) as (λ q. eqb b.number k ≡ q → Excluded w (record_name k) ⊎ IsNoNumber k (b ∷ bs)) [
      | true ↦ λ h. inl (subst (λ n. Excluded w (record_name n)) (eqb-true b.number k h) (gives b all.0))
      | false ↦ λ h. ⊎_elim inl (λ none. inr (eqb-false b.number k h, none)) (search w k bs P gives all.1)
    ] refl

pub kept_log : (w : World) (t : Log) (from : ℕ) → KeepsLog w t → t.log_from ≤ from → CanBeSettled w from
kept_log w t from keeps le = record {
  records = λ k small at. ⊎_elim (λ x. x)
      (λ none. ⊎_elim (λ x. x)
      (λ lost. always_absent w (record_name k) (keeps.absent k small (omega (arith, le, at)) (each_append (λ b. b.number ≡ k → ⊥) t.records (lost_of t.lost) none lost)))
      (search w k (lost_of t.lost) (λ b. (c : Option (List ℕ)) → w.may (record_name b.number) c → (c ≡ None) ⊎ IsRecordFile b c) (absent_or_record w) keeps.doubted))
      (search w k t.records (λ b. (c : Option (List ℕ)) → w.may (record_name b.number) c → IsRecordFile b c) (always_there w) keeps.counted);
  refused = λ n refused. always_absent w n (keeps.named n refused);
}

-- after a crash each name has one content
pub left_log : (w : World) (image : Image) (from : ℕ) → Begins image w → CanBeSettled w from
left_log w image from begins = record {
  records = λ k small at. one (record_name k);
  refused = λ n refused. one n;
}
  where
    by_content : (n : List ℕ) (o : Option (List ℕ)) → image n ≡ o → Excluded w n
    by_content n None is = (Some [], λ may. let e : Some [] ≡ None = (begins.may n (Some [])).0 may ∙ is in absurd (cc e))
    by_content n (Some bytes) is = (None, λ may. let e : None ≡ Some bytes = (begins.may n None).0 may ∙ is in absurd (cc e))

    one : (n : List ℕ) → Excluded w n
    one n = by_content n (image n) refl
