-- Answers from maps that agree on some keys, and journals whose reads agree.
use Rattle.std.proofs.Common.{◌≡◌, ℕ, Bool, true, false, cond, ◌&&◌, List, [], ◌∷◌, ◌++◌, Some, None, filter, refl, sym, ap, ◌∙◌, subst, ltb, append_assoc, Equal, append-nil}
use Rattle.std.specs.FinMap.{get, entries, get-empty, entries_sorted, get-entries, from_sorted, entries-from_sorted, get-from_sorted, same_map, find, slice_cmp-IsAntisymmetric, nat_cmp-IsAntisymmetric}
use Rattle.std.specs.FinMap.Entries.{is_sorted-where_key, find-where_key}
use Rattle.std.specs.Cmp.Lexicographic.{nat_list_cmp_total}
use Rattle.lsm_below.specs.Keys.{Bytes, bytes_cmp, is_same}
use Rattle.lsm_below.specs.Entries.{Entry, stack, value_of}
use Rattle.lsm_model.specs.Journal.{Event, Map, answer, cut, is_from, is_to, changed, ReadAgrees, AgreesFrom, Agrees}
use Rattle.lsm_model.specs.Views.{map_of, seen, shown}
use Rattle.lsm_model.specs.declared.question.Question.TheVariants.{Get, Between, Prefix}
use Rattle.lsm_model.specs.declared.question.Answer.TheVariants.{Found, Pairs}
use Rattle.lsm_model.specs.declared.question.Question.{Question}
use Rattle.lsm_model.proofs.Journals.{get-changed}

-- the pairs of the keys that pass a test
where_key : (Bytes → Bool) → List (Bytes × Bytes) → List (Bytes × Bytes)
where_key p es = filter (λ e. p e.0) es

same_where : (m n : Map) (p : Bytes → Bool) → ((k : Bytes) → p k ≡ true → get m k ≡ get n k) → where_key p (entries m) ≡ where_key p (entries n)
unfolding where_key
same_where m n p same =
    let part = λ (m : Map). from_sorted {R = bytes_cmp} (filter (λ e. p e.0) (entries m)) in
    let sorted = λ (m : Map). is_sorted-where_key bytes_cmp p (entries m) (entries_sorted m) in
    let alike = λ (q x : Bytes) (e : bytes_cmp q x ≡ Equal). ap p (sym (slice_cmp-IsAntisymmetric nat_cmp-IsAntisymmetric q x e)) in
    let at : (m : Map) (q : Bytes) → get (part m) q ≡ cond (p q) (get m q) None = λ m q.
    get-from_sorted bytes_cmp (filter (λ e. p e.0) (entries m)) q (sorted m) ∙ find-where_key bytes_cmp p q (alike q) (entries m) ∙ ap (λ o. cond (p q) o None) (sym (get-entries m q)) in
    let maps : part m ≡ part n = same_map nat_list_cmp_total (slice_cmp-IsAntisymmetric nat_cmp-IsAntisymmetric) (part m) (part n) (λ q.
    at m q ∙ (elim (p q) as (λ b. p q ≡ b → cond b (get m q) None ≡ cond b (get n q) None) [ true ↦ λ h. same q h | false ↦ λ h. refl ] refl) ∙ sym (at n q)) in
    sym (entries-from_sorted bytes_cmp (filter (λ e. p e.0) (entries m)) (sorted m)) ∙ ap entries maps ∙ entries-from_sorted bytes_cmp (filter (λ e. p e.0) (entries n)) (sorted n)

filter_swap : {A : Type 0} (p q : A → Bool) (xs : List A) → filter p (filter q xs) ≡ filter q (filter p xs)
filter_swap p q [] = refl
filter_swap p q (x ∷ xs) =
    elim (p x) as (λ b. p x ≡ b → filter p (cond (q x) (x ∷ filter q xs) (filter q xs)) ≡ filter q (cond b (x ∷ filter p xs) (filter p xs))) [
      | true ↦ λ h. elim (q x) as (λ c. filter p (cond c (x ∷ filter q xs) (filter q xs)) ≡ cond c (x ∷ filter q (filter p xs)) (filter q (filter p xs))) [
        | true ↦ ap (λ b. cond b (x ∷ filter p (filter q xs)) (filter p (filter q xs))) h ∙ ap (λ ys. x ∷ ys) (filter_swap p q xs)
        | false ↦ filter_swap p q xs
      ]
      | false ↦ λ h. elim (q x) as (λ c. filter p (cond c (x ∷ filter q xs) (filter q xs)) ≡ filter q (filter p xs)) [
        | true ↦ ap (λ b. cond b (x ∷ filter p (filter q xs)) (filter p (filter q xs))) h ∙ filter_swap p q xs
        | false ↦ filter_swap p q xs
      ]
    ] refl

pairs_agree : (m n : Map) (out : Bytes → Bool) (t : Bytes × Bytes → Bool) → ((k : Bytes) → out k ≡ true → get m k ≡ get n k) → filter (λ e. out e.0) (filter t (entries m)) ≡ filter (λ e. out e.0) (filter t (entries n))
unfolding where_key
pairs_agree m n out t same = filter_swap (λ e. out e.0) t (entries m) ∙ ap (filter t) (same_where m n out same) ∙ filter_swap t (λ e. out e.0) (entries n)

-- maps that agree on some keys answer alike on them
pub answers_agree : (m n : Map) (out : Bytes → Bool) → ((k : Bytes) → out k ≡ true → get m k ≡ get n k) → (question : Question) → cut out question (answer m question) ≡ cut out question (answer n question)
answers_agree m n out same (Get k) = elim (out k) as (λ b. out k ≡ b → cond b (Found (get m k)) (Found None) ≡ cond b (Found (get n k)) (Found None)) [ true ↦ λ h. ap Found (same k h) | false ↦ λ h. refl ] refl
answers_agree m n out same (Between low high) = ap Pairs (pairs_agree m n out (λ e. is_from low e.0 && is_to high e.0) same)
answers_agree m n out same (Prefix p) = ap Pairs (pairs_agree m n out _ same)

-- the map of a list of entries, at a key
pub get-map_of : (k : Bytes) (s : ℕ) (es : List Entry) → get (map_of s es) k ≡ seen s (stack k es)
get-map_of k s [] = get-empty bytes_cmp k
get-map_of k s (e ∷ es) =
    elim (ltb e.key.seqno s) as (λ b. ltb e.key.seqno s ≡ b → get (cond b (changed (map_of s es) e) (map_of s es)) k ≡ seen s (cond (is_same k e.key.user_key) (e ∷ stack k es) (stack k es))) [
      | true ↦ λ h. get-changed (map_of s es) e k ∙
          (elim (is_same k e.key.user_key) as (λ c. cond c (value_of e) (get (map_of s es) k) ≡ seen s (cond c (e ∷ stack k es) (stack k es))) [
            | true ↦ sym (ap (λ b. shown (cond b (Some e) (Rattle.std.specs.List.find (λ f. ltb f.key.seqno s) (stack k es)))) h)
            | false ↦ get-map_of k s es
          ])
      | false ↦ λ h. elim (is_same k e.key.user_key) as (λ c. get (map_of s es) k ≡ seen s (cond c (e ∷ stack k es) (stack k es))) [
        | true ↦ get-map_of k s es ∙ sym (ap (λ b. shown (cond b (Some e) (Rattle.std.specs.List.find (λ f. ltb f.key.seqno s) (stack k es)))) h)
        | false ↦ get-map_of k s es
      ]
    ] refl

-- one more event that agrees
agrees_more : (start : Map) (before journal : List Event) (x : Event) → AgreesFrom start before journal → ReadAgrees start (before ++ journal) x → AgreesFrom start before (journal ++ x ∷ [])
agrees_more start before [] x h r = (subst (λ js. ReadAgrees start js x) (append-nil before) r, tt)
agrees_more start before (y ∷ journal) x h r = (h.0, agrees_more start (before ++ y ∷ []) journal x h.1 (subst (λ js. ReadAgrees start js x) (sym (append_assoc before (y ∷ []) journal)) r))

pub agrees_push : (start : Map) (journal : List Event) (x : Event) → Agrees start journal → ReadAgrees start journal x → Agrees start (journal ++ x ∷ [])
agrees_push start journal x h r = agrees_more start [] journal x h r
