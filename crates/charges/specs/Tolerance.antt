-- What is tolerated, in whole MJ.
use Rattle.std.specs.Prelude.{ℕ, ◌*◌, ◌/◌}

-- So many per cent of the basis, rounded down.
abbrev pub tolerance : ℕ → ℕ → ℕ
tolerance basis percent = basis * percent / 100
