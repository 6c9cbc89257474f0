-- Two lists whose items stand in a relation, place by place.
use Rattle.std.proofs.Common.{ℕ, ◌+◌, ◌<◌, List, [], ◌∷◌, ◌++◌, length, take, get_or, sym, subst}
use Rattle.std.proofs.lemmas.List.{take_more}
use Rattle.std.specs.List.{AllZip}

module _ {X Y : Type 0} (R : X → Y → Type 0) where
  -- one more pair
  all_zip_push : (xs : List X) (ys : List Y) (x : X) (y : Y) → AllZip R xs ys → R x y → AllZip R (xs ++ x ∷ []) (ys ++ y ∷ [])
  all_zip_push [] [] x y all more = (more, tt)
  all_zip_push [] (b ∷ ys) x y all more = absurd all
  all_zip_push (a ∷ xs) [] x y all more = absurd all
  all_zip_push (a ∷ xs) (b ∷ ys) x y all more = (all.0, all_zip_push xs ys x y all.1 more)

  -- the item at the next place
  pub all_zip_next : (xs : List X) (ys : List Y) (n : ℕ) (d : X) (y : Y) → n < length xs → AllZip R (take n xs) ys → R (get_or xs n d) y → AllZip R (take (n + 1) xs) (ys ++ y ∷ [])
  all_zip_next xs ys n d y within all more =
      subst (λ l. AllZip R l (ys ++ y ∷ [])) (sym (take_more xs n d within)) (all_zip_push (take n xs) ys (get_or xs n d) y all more)
