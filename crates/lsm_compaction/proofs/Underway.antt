-- Tables that are written while their entries come.
use Rattle.std.proofs.Common.{◌≡◌, ℕ, zero, suc, ◌+◌, ◌-◌, ◌^◌, ◌<◌, ◌≤◌, Bool, true, false, not, ◌&&◌, nat_lt, nat_le, List, [], ◌∷◌, ◌++◌, length, get_or, take, drop, map, refl, sym, ap, subst, ◌∙◌, append_assoc, arith, inl, inr}
use Rattle.std.proofs.Math.Seq.{drop-append_seam, take-append_seam, take-length, get_or-append_seam}
use Rattle.std.proofs.lemmas.Bool.{cases_lt, and_parts, and_from, ltb-true, lt-ltb, leb-true, le-leb}
use Rattle.std.proofs.lemmas.List.{append-nil, get_or_append_left, get_or-append-add, take-append-le, map-append, length-append}
use Rattle.lsm_below.specs.Each.{each_append, each_right}
use Rattle.lsm_below.specs.Entries.{Entry}
use Rattle.lsm_below.specs.Keys.{Bytes}
use Rattle.lsm_below.specs.Slots.{same_key}
use Rattle.lsm_below.specs.Sums.{capped}
use Rattle.lsm_tables.specs.Cutting.{IsWritable, IsCutting, IsFirstEnd, IsCutOff, FirstEndsCut, AreImagesOf}
use Rattle.lsm_tables.specs.Image.{Fits, IsTable, image, entry_bytes}
use Rattle.lsm_compaction.specs.Merges.{with_last}
use Rattle.lsm_compaction.specs.OpenTables.{EndedNowhere, IsUnderway, is_end, IsOpenWith, IsWriting}
use Rattle.lsm_compaction.specs.declared.open_table.OpenTable.{OpenTable}

-- the table ends here: with the last entry, or before one of another key, once it has the target
abbrev pub EndsHere : ℕ → List Entry → List Entry → Type 0
EndsHere target pending rest = (d : Entry) → 0 < length rest → (target ≤ entry_bytes pending) × (same_key (get_or pending (length pending - 1) d) (get_or rest 0 d) ≡ false)

pub begins : (target made_at : ℕ) (all : List Entry) → IsWritable all → IsUnderway target made_at all [] [] 0 all
begins target made_at all writable = record {
  tables = [];
  spelled = refl;
  each = tt;
  goes_on = λ later cut. cut;
  writable = writable;
  counted = omega arith;
  ended_nowhere = λ j d some lt other. absurd (omega arith);
}

any_default : (xs : List Entry) (i : ℕ) (d e : Entry) → i < length xs → get_or xs i d ≡ get_or xs i e
any_default [] i d e lt = absurd (omega arith)
any_default (x ∷ xs) zero d e lt = refl
any_default (x ∷ xs) (suc i) d e lt = any_default xs i d e (omega arith)

-- ---- a table ends

-- an entry of a list that has one
some_of : (es : List Entry) → 0 < length es → Entry
some_of [] some = absurd (omega arith)
some_of (e ∷ es) some = e

first_end : (target : ℕ) (pending rest : List Entry) → 0 < length pending → EndedNowhere target pending → EndsHere target pending rest → IsFirstEnd target (pending ++ rest) (length pending)
first_end target pending rest some nowhere ends =
    let n : ℕ = length pending in
    let es = pending ++ rest in
    let whole = length-append pending rest in
    let front : take n es ≡ pending = take-append_seam pending rest in
    let ahead : (j : ℕ) (d : Entry) → 0 < j → j < n + 1 → get_or es (j - 1) d ≡ get_or pending (j - 1) d = λ j d up lt. get_or_append_left pending rest d (j - 1) (omega arith) in
    record {
      some = some;
      within = omega arith;
      filled = λ lt. subst (λ (l : List Entry). target ≤ entry_bytes l) (sym front) (ends (some_of pending some) (omega arith)).0;
      apart = λ d lt. let here : get_or es n d ≡ get_or rest 0 d = ap (λ k. get_or es k d) (omega arith) ∙ get_or-append-add pending rest 0 d in
          let other = (ends d (omega arith)).1 in
          ap (λ e. same_key e (get_or es n d)) (ahead n d some (omega arith)) ∙ ap (same_key (get_or pending (n - 1) d)) here ∙ other;
      none_earlier = λ j d up lt other.
          let at : get_or es j d ≡ get_or pending j d = get_or_append_left pending rest d j lt in
          let same = sym (ap (λ e. same_key e (get_or es j d)) (ahead j d up (omega arith)) ∙ ap (same_key (get_or pending (j - 1) d)) at) ∙ other in
          subst (λ (l : List Entry). entry_bytes l < target) (sym (take-append-le j pending rest (omega arith))) (nowhere j d up lt same);
    }

pub cut_off : FirstEndsCut → (target made_at : ℕ) (all : List Entry) (files : List Bytes) (pending : List Entry) (held : ℕ) (rest : List Entry) → IsUnderway target made_at all files pending held rest → 0 < length pending → length pending < 2 ^ 64 → EndsHere target pending rest → IsCutOff target (pending ++ rest) pending rest
cut_off law target made_at all files pending held rest h some lt ends =
    let parts = law target (pending ++ rest) (length pending) h.writable (first_end target pending rest some h.ended_nowhere ends) lt in
    subst (λ (l : List Entry). IsCutOff target (pending ++ rest) pending l) (drop-append_seam pending rest)
    (subst (λ (l : List Entry). IsCutOff target (pending ++ rest) l (drop (length pending) (pending ++ rest))) (take-append_seam pending rest) parts)

-- its file is made
pub closes : (target made_at : ℕ) (all : List Entry) (files : List Bytes) (pending : List Entry) (held : ℕ) (rest : List Entry) (file : Bytes) → IsUnderway target made_at all files pending held rest → IsCutOff target (pending ++ rest) pending rest → file ≡ image made_at pending → IsUnderway target made_at all (files ++ file ∷ []) [] 0 rest
closes target made_at all files pending held rest file h off is = record {
  tables = h.tables ++ pending ∷ [];
  spelled = ap (λ (l : List Bytes). l ++ file ∷ []) h.spelled ∙ ap (λ (b : Bytes). map (image made_at) h.tables ++ b ∷ []) is ∙ sym (map-append (image made_at) h.tables (pending ∷ []));
  each = each_append IsTable h.tables (pending ∷ []) h.each (off.table, tt);
  goes_on = λ later cut. subst (λ (l : List (List Entry)). IsCutting target all l) (sym (append_assoc h.tables (pending ∷ []) later)) (h.goes_on (pending ∷ later) (off.cut later cut));
  writable = off.writable;
  counted = omega arith;
  ended_nowhere = λ j d some lt other. absurd (omega arith);
}

not_true : (b : Bool) → not b ≡ true → b ≡ false
not_true true h = absurd (cc h)
not_true false h = refl

pub ends_by : (target held : ℕ) (pending : List Entry) (e : Entry) (rest : List Entry) → true ≡ is_end target held pending e → held ≡ capped (entry_bytes pending) → (0 < length pending) × EndsHere target pending (e ∷ rest)
ends_by target held pending e rest h counted =
    let n : ℕ = length pending in
    let other : Bool = not (same_key (get_or pending (n - 1) e) e) in
    let parts = and_parts (nat_lt 0 n) (nat_le target held && other) (sym h) in
    let more = and_parts (nat_le target held) other parts.1 in
    let some : 0 < n = ltb-true 0 n parts.0 in
    let full : target ≤ held = leb-true target held more.0 in
    (some, λ d _. (omega arith, ap (λ x. same_key x e) (any_default pending (n - 1) d e (omega arith)) ∙ not_true (same_key (get_or pending (n - 1) e) e) more.1))

pub goes_by : (target held : ℕ) (pending : List Entry) (e : Entry) → false ≡ is_end target held pending e → held ≡ capped (entry_bytes pending) → target < 2 ^ 64 → 0 < length pending → same_key (get_or pending (length pending - 1) e) e ≡ false → entry_bytes pending < target
goes_by target held pending e h counted fits some apart =
    let n : ℕ = length pending in
    let other : Bool = not (same_key (get_or pending (n - 1) e) e) in
    elim (cases_lt held target) [
      | inl less ↦ omega arith
      | inr ge ↦
          let all = and_from (nat_lt 0 n) (nat_le target held && other) (lt-ltb 0 n some) (and_from (nat_le target held) other (le-leb target held ge) (ap not apart)) in
          let wrong : false ≡ true = h ∙ all in
          absurd (cc wrong)
    ]

-- ---- an entry comes to the table that is open

module _ (target made_at : ℕ) (all : List Entry) (files : List Bytes) (pending : List Entry) (held : ℕ) (e : Entry) (rest : List Entry) (h : IsUnderway target made_at all files pending held (e ∷ rest)) (goes_on : 0 < length pending → same_key (get_or pending (length pending - 1) e) e ≡ false → entry_bytes pending < target) where
  nowhere : EndedNowhere target (pending ++ e ∷ [])
  nowhere j d up lt other =
      let n : ℕ = length pending in
      let more = pending ++ e ∷ [] in
      let whole = length-append pending (e ∷ []) in
      let ahead : get_or more (j - 1) d ≡ get_or pending (j - 1) d = get_or_append_left pending (e ∷ []) d (j - 1) (omega arith) in
      let front : take j more ≡ take j pending = take-append-le j pending (e ∷ []) (omega arith) in
      subst (λ (l : List Entry). entry_bytes l < target) (sym front) (elim (cases_lt j n) [
        | inl less ↦
            let at : get_or more j d ≡ get_or pending j d = get_or_append_left pending (e ∷ []) d j less in
            h.ended_nowhere j d up less (sym (ap (λ x. same_key x (get_or more j d)) ahead ∙ ap (same_key (get_or pending (j - 1) d)) at) ∙ other)
        | inr ge ↦
            let same : j ≡ n = omega arith in
            let at : get_or more j d ≡ e = ap (λ k. get_or more k d) same ∙ get_or-append_seam pending e [] d in
            let last : get_or pending (j - 1) d ≡ get_or pending (n - 1) e = ap (λ k. get_or pending (k - 1) d) same ∙ any_default pending (n - 1) d e (omega arith) in
            let apart : same_key (get_or pending (n - 1) e) e ≡ false = sym (ap (λ x. same_key x (get_or more j d)) (ahead ∙ last) ∙ ap (same_key (get_or pending (n - 1) e)) at) ∙ other in
            subst (λ (l : List Entry). entry_bytes l < target) (sym (ap (λ k. take k pending) same ∙ take-length pending)) (goes_on (omega arith) apart)
      ])

  pub takes : (next : ℕ) → next ≡ capped (entry_bytes (pending ++ e ∷ [])) → IsUnderway target made_at all files (pending ++ e ∷ []) next rest
  takes next is_next =
      let regrouped : (pending ++ e ∷ []) ++ rest ≡ pending ++ e ∷ rest = append_assoc pending (e ∷ []) rest in
      record {
        tables = h.tables;
        spelled = h.spelled;
        each = h.each;
        goes_on = λ later cut. h.goes_on later (subst (λ (l : List Entry). IsCutting target l later) regrouped cut);
        writable = subst IsWritable (sym regrouped) h.writable;
        counted = is_next;
        ended_nowhere = nowhere;
      }

-- it is in the table that is open then
pub takes_in : {I : Type 0} (shows : I → Entry) (target made_at : ℕ) (all : List Entry) (files : List Bytes) (pending : List Entry) (held : ℕ) (e : Entry) (rest : List Entry) (new : OpenTable I) → IsUnderway target made_at all files pending held (e ∷ rest) → (0 < length pending → same_key (get_or pending (length pending - 1) e) e ≡ false → entry_bytes pending < target) → IsOpenWith shows made_at (pending ++ e ∷ []) new → IsWriting shows target made_at all files new rest
takes_in shows target made_at all files pending held e rest new h goes_on has = record {
  pending = pending ++ e ∷ [];
  has = has;
  underway = takes target made_at all files pending held e rest h goes_on new.held has.held;
}

-- an entry that is to come fits
pub next_fits : {I : Type 0} (shows : I → Entry) (target made_at : ℕ) (all : List Entry) (files : List Bytes) (table : OpenTable I) (e : Entry) (rest : List Entry) → IsWriting shows target made_at all files table (e ∷ rest) → Fits e
next_fits shows target made_at all files table e rest w = (each_right Fits w.pending (e ∷ rest) w.underway.writable.each).0

-- nothing was written yet
pub first_writing : {I : Type 0} (shows : I → Entry) (target made_at : ℕ) (all : List Entry) (table : OpenTable I) → IsWritable all → IsOpenWith shows made_at [] table → IsWriting shows target made_at all [] table all
first_writing shows target made_at all table writable has = record {
  pending = [];
  has = has;
  underway = subst (λ n. IsUnderway target made_at all [] [] n all) (sym has.held) (begins target made_at all writable);
}

-- ---- the end

pub ends : (target made_at : ℕ) (all : List Entry) (files : List Bytes) (held : ℕ) → IsUnderway target made_at all files [] held [] → AreImagesOf target made_at all files
ends target made_at all files held h = record {
  tables = h.tables;
  cut = subst (λ (l : List (List Entry)). IsCutting target all l) (append-nil h.tables) (h.goes_on [] (record { whole = refl; some = tt; apart = tt; filled = tt; no_later = tt }));
  each = h.each;
  spelled = h.spelled;
}

-- the table that is open is the last one
pub ends_with : FirstEndsCut → (target made_at : ℕ) (all : List Entry) (files : List Bytes) (pending : List Entry) (held : ℕ) → IsUnderway target made_at all files pending held [] → length pending < 2 ^ 64 → AreImagesOf target made_at all (with_last made_at files pending)
ends_with law target made_at all files [] held h lt = ends target made_at all files held h
ends_with law target made_at all files (e ∷ es) held h lt =
    let off = cut_off law target made_at all files (e ∷ es) held [] h (omega arith) lt (λ d more. absurd (omega arith)) in
    ends target made_at all (files ++ image made_at (e ∷ es) ∷ []) 0 (closes target made_at all files (e ∷ es) held [] (image made_at (e ∷ es)) h off refl)
