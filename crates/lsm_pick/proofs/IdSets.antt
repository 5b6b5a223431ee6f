-- Ids of tables that are added to others, one table after the other.
use Rattle.std.proofs.Common.{◌≡◌, ℕ, ◌+◌, ◌<◌, Bool, true, false, cond, ◌||◌, eqb, List, [], ◌∷◌, ◌++◌, length, get_or, take, map, filter, refl, sym, ap, ◌∙◌, subst}
use Rattle.std.specs.List.{list_any}
use Rattle.std.proofs.lemmas.List.{take_more}
use Rattle.std.proofs.lemmas.List.Elements.{filter-append, filter_more}
use Rattle.lsm_tables.specs.Tables.{SeenTable}
use Rattle.lsm_model.specs.Steps.{among}
use Rattle.lsm_versions.specs.TableLaws.{or_none, among_append, put_more}
use Rattle.lsm_checks.specs.Choices.{AreIdsOf}
use Rattle.lsm_checks.proofs.Choosing.{from_eqb}
use Rattle.lsm_pick.specs.Tables.{AddsIds}
use Rattle.lsm_pick.proofs.Members.{any_has, has_any, has_map, map_has, same_by, to_eqb}

or_assoc : (a b c : Bool) → (a || (b || c)) ≡ ((a || b) || c)
or_assoc true b c = refl
or_assoc false b c = refl

pub adds_none : (x : List ℕ) → AddsIds [] x x
adds_none x i = sym (or_none (among x i))

pub adds_both : (ts us : List SeenTable) (x y z : List ℕ) → AddsIds ts x y → AddsIds us y z → AddsIds (ts ++ us) x z
adds_both ts us x y z f g i =
    let ids = λ (t : SeenTable). t.id in
    g i ∙ ap (λ b. b || among (map ids us) i) (f i) ∙ sym (or_assoc (among x i) (among (map ids ts) i) (among (map ids us) i))
    ∙ ap (λ b. among x i || b) (sym (among_append ids ts us i))

pub adds_one : (t : SeenTable) (x y : List ℕ) → ((i : ℕ) → among y i ≡ cond (eqb t.id i) true (among x i)) → AddsIds (t ∷ []) x y
adds_one t x y step i = put_more (λ (t : SeenTable). t.id) [] t i (among y i) (among x i) (among x i) (step i) (sym (or_none (among x i)))

-- ids of these tables are all there are
pub adds_all : (ts us : List SeenTable) (x y : List ℕ) → AreIdsOf x ts → AddsIds us x y → AreIdsOf y (ts ++ us)
adds_all ts us x y f g i =
    let ids = λ (t : SeenTable). t.id in
    g i ∙ ap (λ b. b || among (map ids us) i) (f i) ∙ sym (among_append ids ts us i)

-- those of one more table, where it passes a test
pub adds_passing : (p : SeenTable → Bool) (ts : List SeenTable) (t : SeenTable) (b : Bool) (x y : List ℕ) → b ≡ p t → AreIdsOf x (filter p ts) → AddsIds (cond b (t ∷ []) []) x y → AreIdsOf y (filter p (ts ++ t ∷ []))
adds_passing p ts t b x y is f g =
    let e : filter p ts ++ cond b (t ∷ []) [] ≡ filter p (ts ++ t ∷ []) = ap (λ c. filter p ts ++ cond c (t ∷ []) []) is ∙ sym (filter-append p ts (t ∷ [])) in
    subst (AreIdsOf y) e (adds_all (filter p ts) (cond b (t ∷ []) []) x y f g)

-- ---- walks

kept_or_not : (p : SeenTable → Bool) (ts : List SeenTable) (n : ℕ) (t : SeenTable) → n < length ts → t ≡ get_or ts n t → filter p (take (n + 1) ts) ≡ filter p (take n ts) ++ cond (p t) (t ∷ []) []
kept_or_not p ts n t lt read = subst (λ u. filter p (take (n + 1) ts) ≡ filter p (take n ts) ++ cond (p u) (u ∷ []) []) (sym read) (filter_more p ts n t lt)

-- one table more
pub adds_next :
    (ts : List SeenTable) (n : ℕ) (t : SeenTable) (x y z : List ℕ) → n < length ts → t ≡ get_or ts n t →
    AddsIds (take n ts) x y → ((i : ℕ) → among z i ≡ cond (eqb t.id i) true (among y i)) → AddsIds (take (n + 1) ts) x z
adds_next ts n t x y z lt read f step =
    let e : take n ts ++ t ∷ [] ≡ take (n + 1) ts = ap (λ u. take n ts ++ u ∷ []) read ∙ sym (take_more ts n t lt) in
    subst (λ us. AddsIds us x z) e (adds_both (take n ts) (t ∷ []) x y z f (adds_one t y z step))

-- one that is taken or not
pub adds_if :
    (p : SeenTable → Bool) (ts : List SeenTable) (n : ℕ) (t : SeenTable) (b : Bool) (x y z : List ℕ) → n < length ts → t ≡ get_or ts n t → b ≡ p t →
    AddsIds (filter p (take n ts)) x y → AddsIds (cond b (t ∷ []) []) y z → AddsIds (filter p (take (n + 1) ts)) x z
adds_if p ts n t b x y z lt read is f g =
    let e : filter p (take n ts) ++ cond b (t ∷ []) [] ≡ filter p (take (n + 1) ts) = ap (λ c. filter p (take n ts) ++ cond c (t ∷ []) []) is ∙ sym (kept_or_not p ts n t lt read) in
    subst (λ us. AddsIds us x z) e (adds_both (filter p (take n ts)) (cond b (t ∷ []) []) x y z f g)

-- ---- sets

-- hidden ids are those of hidden tables
pub blocked_same : (hidden ids : List ℕ) (ts : List SeenTable) → AreIdsOf ids ts → list_any (among hidden) ids ≡ list_any (λ t. among hidden t.id) ts
blocked_same hidden ids ts names =
    same_by (list_any (among hidden) ids) (list_any (λ t. among hidden t.id) ts)
    (λ h. let found = any_has (among hidden) ids h in
    let there = any_has (eqb found.0) (map (λ t. t.id) ts) (sym (names found.0) ∙ has_any (eqb found.0) ids found.0 found.1 (to_eqb found.0)) in
    let table = has_map (λ t. t.id) ts there.0 there.1 in
    has_any (λ t. among hidden t.id) ts table.0 table.1 (ap (among hidden) (table.2 ∙ sym (from_eqb found.0 there.0 there.2)) ∙ found.2))
    (λ h. let found = any_has (λ t. among hidden t.id) ts h in
    let i : ℕ = found.0.id in
    let there = any_has (eqb i) ids (names i ∙ has_any (eqb i) (map (λ t. t.id) ts) i (map_has (λ t. t.id) ts found.0 found.1) (to_eqb i)) in
    has_any (among hidden) ids there.0 there.1 (ap (among hidden) (sym (from_eqb i there.0 there.2)) ∙ found.2))
