-- What a call of a store in memory makes of what its name may have.
use Rattle.std.proofs.lemmas.Bool.{false≢true}
use Rattle.std.proofs.Common.{◌≡◌, ◌⊎◌, ◌↔◌, inl, inr, ⊎_elim, ℕ, Bool, true, false, List, [], ◌∷◌, ◌++◌, Option, Some, None, MatchOption, refl, sym, ◌∙◌, subst}
use Rattle.lsm_store.specs.World.{OldOr}
use Rattle.lsm_store.specs.declared.mem_store.file.Absence.{Absence}
use Rattle.lsm_store.specs.declared.mem_store.file.Absence.TheVariants.{Never, Possible, Usual}
use Rattle.lsm_store.specs.Held.{Held, MayHold, MayLack, IsOneOf, IsWhole, fresh, removed, offered, softened}

pub row_fresh : (c x : Option (List ℕ)) → MayHold (fresh c) x ↔ (x ≡ c)
row_fresh None x = ((λ may. elim may [ inl (inl is) ↦ is | inl (inr one) ↦ absurd one | inr (inl lack) ↦ lack.1 | inr (inr torn) ↦ absurd (false≢true torn) ]), λ is. inl (inl is))
row_fresh (Some b) x = ((λ may. elim may [ inl (inl is) ↦ is | inl (inr (inl is)) ↦ is | inl (inr (inr none)) ↦ absurd none | inr (inl lack) ↦ absurd lack.0 | inr (inr torn) ↦ absurd (false≢true torn) ]), λ is. inl (inl is))

given_by : (o : Option (List ℕ)) (cs : List (List ℕ)) (a : Absence) (x : Option (List ℕ)) → MatchOption o (MayLack a) (λ b. IsOneOf cs (Some b)) → x ≡ o → IsOneOf cs x ⊎ (MayLack a × (x ≡ None))
given_by None cs a x whole is = inr (whole, is)
given_by (Some b) cs a x whole is = inl (subst (λ y. IsOneOf cs y) (sym is) whole)

-- what reads give stands among the rest
given : (h : Held) (x : Option (List ℕ)) → IsWhole h → x ≡ h.gives → IsOneOf h.contents x ⊎ (MayLack h.absence × (x ≡ None))
given h x whole is = given_by h.gives h.contents h.absence x whole is

pub row_removed : (gone : Bool) (h : Held) (x : Option (List ℕ)) → IsWhole h → MayHold (removed gone h) x ↔ OldOr (MayHold h) None x
row_removed gone h x whole = (to gone, back)
  where
    to : (g : Bool) → MayHold (removed g h) x → OldOr (MayHold h) None x
    to true may = elim may [ inl (inl is) ↦ inr is | inl (inr one) ↦ inl (inl (inr one)) | inr (inl lack) ↦ inr lack.1 | inr (inr torn) ↦ inl (inr (inr torn)) ]
    to false may = elim may [ inl (inl is) ↦ inl (inl (inl is)) | inl (inr one) ↦ inl (inl (inr one)) | inr (inl lack) ↦ inr lack.1 | inr (inr torn) ↦ inl (inr (inr torn)) ]

    back : OldOr (MayHold h) None x → MayHold (removed gone h) x
    back old = elim old [
      | inl (inl (inl is)) ↦ ⊎_elim (λ one. inl (inr one)) (λ lack. inr (inl (tt, lack.1))) (given h x whole is)
      | inl (inl (inr one)) ↦ inl (inr one)
      | inl (inr (inl lack)) ↦ inr (inl (tt, lack.1))
      | inl (inr (inr torn)) ↦ inr (inr torn)
      | inr is ↦ inr (inl (tt, is))
    ]

soft : (a : Absence) → MayLack (softened a) ↔ MayLack a
soft Never = (λ l. l, λ l. l)
soft Possible = (λ l. l, λ l. l)
soft Usual = (λ l. l, λ l. l)

one_more : (cs : List (List ℕ)) (b : List ℕ) (x : Option (List ℕ)) → IsOneOf (cs ++ b ∷ []) x ↔ (IsOneOf cs x ⊎ (x ≡ Some b))
one_more [] b x = ((λ one. ⊎_elim (λ is. inr is) (λ none. absurd none) one), (λ old. ⊎_elim (λ none. absurd none) (λ is. inl is) old))
one_more (c ∷ cs) b x = (
  (λ one. ⊎_elim (λ is. inl (inl is)) (λ rest. ⊎_elim (λ old. inl (inr old)) (λ is. inr is) ((one_more cs b x).0 rest)) one),
  (λ old. ⊎_elim (λ one. ⊎_elim (λ is. inl is) (λ rest. inr ((one_more cs b x).1 (inl rest))) one) (λ is. inr ((one_more cs b x).1 (inr is))) old),
)

pub row_offered : (shown : Bool) (b : List ℕ) (h : Held) (x : Option (List ℕ)) → IsWhole h → MayHold (offered shown b h) x ↔ OldOr (MayHold h) (Some b) x
row_offered shown b h x whole = (to shown, back)
  where
    more : IsOneOf (h.contents ++ b ∷ []) x → OldOr (MayHold h) (Some b) x
    more one = ⊎_elim (λ old. inl (inl (inr old))) (λ is. inr is) ((one_more h.contents b x).0 one)

    to : (s : Bool) → MayHold (offered s b h) x → OldOr (MayHold h) (Some b) x
    to true may = elim may [ inl (inl is) ↦ inr is | inl (inr one) ↦ more one | inr (inl lack) ↦ inl (inr (inl ((soft h.absence).0 lack.0, lack.1))) | inr (inr torn) ↦ inl (inr (inr torn)) ]
    to false may = elim may [ inl (inl is) ↦ inl (inl (inl is)) | inl (inr one) ↦ more one | inr (inl lack) ↦ inl (inr (inl ((soft h.absence).0 lack.0, lack.1))) | inr (inr torn) ↦ inl (inr (inr torn)) ]

    lacks : MayLack h.absence × (x ≡ None) → MayHold (offered shown b h) x
    lacks lack = inr (inl ((soft h.absence).1 lack.0, lack.1))

    back : OldOr (MayHold h) (Some b) x → MayHold (offered shown b h) x
    back old = elim old [
      | inl (inl (inl is)) ↦ ⊎_elim (λ one. inl (inr ((one_more h.contents b x).1 (inl one)))) lacks (given h x whole is)
      | inl (inl (inr one)) ↦ inl (inr ((one_more h.contents b x).1 (inl one)))
      | inl (inr (inl lack)) ↦ lacks lack
      | inl (inr (inr torn)) ↦ inr (inr torn)
      | inr is ↦ inl (inr ((one_more h.contents b x).1 (inr is)))
    ]

-- ---- what may be left, as it is tested

one_some : (cs : List (List ℕ)) → IsOneOf cs None → ⊥
one_some [] one = one
one_some (c ∷ cs) one = ⊎_elim (λ is. clash2 c is) (one_some cs) one
  where
    clash2 : (c : List ℕ) → None ≡ Some c → ⊥
    clash2 c e = cc

pub none_left : (h : Held) → IsWhole h → h.torn ≡ false → MayLack h.absence ↔ MayHold h None
none_left h whole torn = ((λ lack. inr (inl (lack, refl))), back)
  where
    back : MayHold h None → MayLack h.absence
    back may = elim may [
      | inl (inl is) ↦ ⊎_elim (λ one. absurd (one_some h.contents one)) (λ lack. lack.0) (given h None whole is)
      | inl (inr one) ↦ absurd (one_some h.contents one)
      | inr (inl lack) ↦ lack.0
      | inr (inr is) ↦ absurd (false≢true (sym torn ∙ is))
    ]

pub some_left : (h : Held) (b : List ℕ) → IsWhole h → h.torn ≡ false → IsOneOf h.contents (Some b) ↔ MayHold h (Some b)
some_left h b whole torn = ((λ one. inl (inr one)), back)
  where
    not_none : Some b ≡ None → ⊥
    not_none e = cc

    back : MayHold h (Some b) → IsOneOf h.contents (Some b)
    back may = elim may [
      | inl (inl is) ↦ ⊎_elim (λ one. one) (λ lack. absurd (not_none lack.1)) (given h (Some b) whole is)
      | inl (inr one) ↦ one
      | inr (inl lack) ↦ absurd (not_none lack.1)
      | inr (inr is) ↦ absurd (false≢true (sym torn ∙ is))
    ]
