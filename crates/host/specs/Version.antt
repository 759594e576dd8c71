-- The version of the interface.
use Rattle.std.specs.Prelude.{ℕ, ◌+◌, ◌*◌}

-- 2.3.0: major, minor and patch, a byte each
abbrev pub version : ℕ
version = 2 * 65536 + 3 * 256 + 0
