-- What loops gave, in their order.
use Rattle.std.proofs.Common.{List, [], ◌∷◌, ◌++◌, map}
use Rattle.std.specs.List.{AllZip}

pub one_more : {A B C : Type 0} (R : B → C → Type 0) (xs : List A) (f : A → B) (ys : List C) (x : A) (y : C) → AllZip R (map f xs) ys → R (f x) y → AllZip R (map f (xs ++ x ∷ [])) (ys ++ y ∷ [])
one_more R [] f [] a b are is = (is, tt)
one_more R [] f (y ∷ ys) a b are is = absurd are
one_more R (x ∷ xs) f [] a b are is = absurd are
one_more R (x ∷ xs) f (y ∷ ys) a b are is = (are.0, one_more R xs f ys a b are.1 is)
