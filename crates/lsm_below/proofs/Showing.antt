-- Items that show entries, where there may be none.
use Rattle.std.proofs.Common.{◌≡◌, Option, Some, None, MatchOption, IfNone, is_some, option_map, refl}
use Rattle.lsm_below.specs.declared.value.InternalValue.{InternalValue}

module _ {I : Type 0} (shows : I → InternalValue) where
  pub some_shown : (item : Option I) → is_some (option_map shows item) ≡ is_some item
  some_shown None = refl
  some_shown (Some x) = refl

  pub none_shown : (P : Type 0) (item : Option I) → IfNone item P → IfNone (option_map shows item) P
  none_shown P None h = h
  none_shown P (Some x) h = h

  pub to_shown : (P : Type 0) (Q : InternalValue → Type 0) (item : Option I) → MatchOption item P (λ x. Q (shows x)) → MatchOption (option_map shows item) P Q
  to_shown P Q None h = h
  to_shown P Q (Some x) h = h
