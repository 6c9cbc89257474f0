-- Marked positions of a row of marks, 64 positions to a word.
use Rattle.std.specs.Prelude.{ℕ, ◌≡◌, ◌<◌, ◌≤◌, ◌/◌, ◌*◌, Bool, true, List, length, Some, slice_get}

-- position n of a row of marks is marked
abbrev pub IsMarked : List Bool → ℕ → Type 0
IsMarked marks n = slice_get marks n ≡ Some true

-- n is the first marked position from k on
pub record IsFirstFrom (marks : List Bool) (k n : ℕ) : Type 0 where
  pub from : k ≤ n
  pub marked : IsMarked marks n
  pub first : (m : ℕ) → k ≤ m → m < n → ¬ IsMarked marks m

-- no position from k on is marked
abbrev pub NoneFrom : List Bool → ℕ → Type 0
NoneFrom marks k = (m : ℕ) → k ≤ m → ¬ IsMarked marks m

-- no position below k is marked
abbrev pub NoneBelow : List Bool → ℕ → Type 0
NoneBelow marks k = (m : ℕ) → m < k → ¬ IsMarked marks m

-- no position from k on is marked in the word of k
abbrev pub NoneInWordFrom : List Bool → ℕ → Type 0
NoneInWordFrom marks k = (m : ℕ) → k ≤ m → m / 64 ≡ k / 64 → ¬ IsMarked marks m

-- no position of word w is marked
abbrev pub IsEmptyWord : List Bool → ℕ → Type 0
IsEmptyWord marks w = (m : ℕ) → m / 64 ≡ w → ¬ IsMarked marks m

-- the upper row marks the words of the lower one that have a mark, and no others
pub record MarksWords (upper lower : List Bool) : Type 0 where
  pub room : length lower ≤ 64 * length upper
  pub marked : (n : ℕ) → IsMarked lower n → IsMarked upper (n / 64)
  pub others : (w : ℕ) → IsMarked upper w → ¬ IsEmptyWord lower w

-- each row marks the words of the one below it that have a mark
pub record AreTiers (numbers words groups blocks : List Bool) : Type 0 where
  pub of_numbers : MarksWords words numbers
  pub of_words : MarksWords groups words
  pub of_groups : MarksWords blocks groups
