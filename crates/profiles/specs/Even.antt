-- The even profile.
use Rattle.std.specs.Prelude.{ℕ}
use Rattle.profiles.specs.Laws.{factors_of, Tells, factors_where_asked}

abbrev pub even_segments : ℕ
even_segments = 8

-- one factor for every segment and weather
abbrev pub even_tells : ℕ → Tells
even_tells factor segment w = factors_where_asked even_segments segment w (factors_of factor factor)
