-- What devices want.
use Rattle.std.specs.Prelude.{◌≡◌, ◌==◌, ℕ, Bool}
use Rattle.drive_tests.specs.declared.apart.Device.{Device}

-- its own descriptor alone
abbrev pub wants : Device → ℕ → Type 0
wants device fd = fd ≡ device.own.fd

-- the same as a test
abbrev pub is_own : Device → ℕ → Bool
is_own device fd = fd == device.own.fd
