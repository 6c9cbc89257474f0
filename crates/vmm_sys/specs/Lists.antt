-- Lists of any elements.
use Rattle.std.specs.Prelude.{ℕ, zero, suc, Bool, if◌then◌else◌, List, [], ◌∷◌, Option, Some, None}

-- the list without the first c elements that pass
abbrev pub without_first : {A : Type 0} → (A → Bool) → List A → ℕ → List A
without_first p xs zero = xs
without_first p [] (suc c) = []
without_first p (x ∷ xs) (suc c) = if p x then without_first p xs c else x ∷ without_first p xs (suc c)

-- what a row of slots holds, in its order
abbrev pub held : {A : Type 0} → List (Option A) → List A
held [] = []
held (None ∷ slots) = held slots
held (Some x ∷ slots) = x ∷ held slots
