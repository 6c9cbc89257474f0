-- What meters keep.
use Rattle.std.specs.Prelude.{◌≤◌}
use Rattle.drive_tests.specs.declared.going_on.Meter.{Meter}

-- the count hasn't gone down
abbrev pub no_less : Meter → Meter → Type 0
no_less v w = v.count ≤ w.count

-- the count is no less than when it joined
abbrev pub has_gone_on : Meter → Type 0
has_gone_on v = v.began ≤ v.count
