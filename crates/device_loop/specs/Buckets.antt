-- A bucket of tokens, and what happens to it.
use Rattle.std.specs.Prelude.{◌≡◌, ℕ, ◌+◌, ◌≤◌, min, Bool, Option, Some, None, if◌then◌else◌}

-- how many tokens it has, how many were ever taken, and how often it was filled again; and how many had been taken when it was
-- paused, while it is
pub record Bucket : Type 0 where
  pub tokens : ℕ
  pub taken : ℕ
  pub refills : ℕ
  pub paused_at : Option ℕ

-- some tokens were taken, each of which was there
abbrev pub Pays : Bucket → Bucket → Type 0
Pays v w = (w.tokens + w.taken ≡ v.tokens + v.taken) × (v.taken ≤ w.taken) × (w.refills ≡ v.refills) × (w.paused_at ≡ v.paused_at)

-- full again
abbrev pub refilled : Bucket → Bucket
refilled bucket = record bucket { tokens = 4; refills = min (bucket.refills + 1) 18446744073709551615 }

-- paused, or no more
abbrev pub paused : Bool → Bucket → Bucket
paused flag bucket = record bucket { paused_at = if flag then Some bucket.taken else None }
