-- What a walk has still to do, kept on a stack whose last entry comes first: the events of its entries.
use Rattle.std.specs.Prelude.{◌≡◌, refl, List, [], ◌∷◌, ◌++◌}
use Rattle.std.proofs.Common.{sym, ap, ◌∙◌, append_assoc, append-nil}
use Rattle.paper.specs.Walk.{Event}

unfoldable pub pending : {A : Type 0} → (A → List Event) → List A → List Event
pending f [] = []
pending f (x ∷ xs) = pending f xs ++ f x

module _ {A : Type 0} (f : A → List Event) where
  pub pending_none : pending f [] ≡ []
  unfolding pending
  pending_none = refl

  pub pending_more : (xs : List A) (y : A) → pending f (xs ++ (y ∷ [])) ≡ f y ++ pending f xs
  unfolding pending
  pending_more [] y = sym (append-nil (f y))
  pending_more (x ∷ xs) y = ap (λ (es : List Event). es ++ f x) (pending_more xs y) ∙ append_assoc (f y) (pending f xs) (f x)
