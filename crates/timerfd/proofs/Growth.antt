-- A tree that grows: its times are put one after another into places that are never.
use Rattle.std.proofs.Common.{ℕ, suc, ◌+◌, ◌-◌, ◌≡◌, ◌<◌, List, [], ◌∷◌, ◌++◌, length, get_or, set, take, drop, ◌*◌, Option, None, arith, sym, ◌∙◌}
use Rattle.std.specs.Prelude.{replicate}
use Rattle.std.proofs.lemmas.List.{set_at, drop-replicate, take_more, append_assoc, length-take-le}

-- where all nodes are never, the leaves are
pub second_half_never : (tree : List (Option ℕ)) (half : ℕ) → tree ≡ replicate (2 * half) None → drop half tree ≡ replicate (half - 0) None
second_half_never tree half never =
    let rest : 2 * half - half ≡ half - 0 = omega arith in
    rw (never, drop-replicate {X = Option ℕ} half (2 * half) None, rest)

-- one time more is put in, and one place fewer behind it is never
pub put_next : (times : List (Option ℕ)) (i room : ℕ) → i < length times → i < room
    → set (take i times ++ replicate (room - i) None) i (get_or times i None) ≡ take (i + 1) times ++ replicate (room - (i + 1)) None
put_next times i room within short =
    let rest : List (Option ℕ) = replicate (room - (i + 1)) None in
    let time : Option ℕ = get_or times i None in
    let more : room - i ≡ suc (room - (i + 1)) = omega arith in
    let put : set (take i times ++ None ∷ rest) i time ≡ take i times ++ time ∷ rest = set_at (take i times) None rest time i (length-take-le i times (omega arith)) in
    rw (more, take_more times i None within) (put ∙ sym (append_assoc (take i times) (time ∷ []) rest))
