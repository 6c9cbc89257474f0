-- Times in a tree: each inner node has the earlier of the two below it.
use Rattle.std.specs.Prelude.{ℕ, ◌+◌, ◌*◌, ◌≡◌, ◌≢◌, ◌<◌, min, List, length, slice_index_or, Option, Some, None}

-- the earlier of two times; `None` is never
abbrev pub earlier : Option ℕ → Option ℕ → Option ℕ
earlier None other = other
earlier (Some time) None = Some time
earlier (Some time) (Some other) = Some (min time other)

-- what a node has: node 1 is the root, and below node n are nodes 2 n and 2 n + 1
abbrev pub node : List (Option ℕ) → ℕ → Option ℕ
node tree n = slice_index_or tree n None

-- each inner node, but this one, has the earlier of the two below it
abbrev pub IsSettledBut : ℕ → List (Option ℕ) → Type 0
IsSettledBut but tree = (n : ℕ) → 0 < n → 2 * n + 1 < length tree → n ≢ but → node tree n ≡ earlier (node tree (2 * n)) (node tree (2 * n + 1))
