-- When a quantity can be shared by weights, and how near a share comes to its exact proportion.
--
-- The limits are the rules' own numbers (docs/RULES.md). The code has constants of the same names,
-- in capitals: the contracts say nothing of those, and the proofs show that they are these.
use Rattle.std.specs.Prelude.{ℕ, ◌+◌, ◌*◌, ◌<◌, Bool, ◌&&◌, List, length, replicate, sum, ◌==◌, nat_le, nat_lt, if◌then◌else◌}
use Rattle.std.specs.List.{list_all}

-- the most litres that are shared at once
abbrev pub max_quantity : ℕ
max_quantity = 1_000_000_000

-- the most weights
abbrev pub max_weights : ℕ
max_weights = 4096

-- the largest weight
abbrev pub max_weight : ℕ
max_weight = 2_000_000

-- the most that the weights can sum to
abbrev pub max_total : ℕ
max_total = max_weight * max_weights

-- the quantity, the number of weights and each weight are within their limits, and the weights are
-- not all 0
unfoldable pub fair : ℕ → List ℕ → Bool
fair a ws =
    nat_le a max_quantity
    && nat_le (length ws) max_weights
    && list_all (λ w. nat_le w max_weight) ws
    && nat_lt 0 (sum ws)

-- n zeros
abbrev pub zeros : ℕ → List ℕ
zeros n = replicate n 0

-- a sheet of n places after a sharing: the shares if there are as many weights, and else zeros
abbrev pub sheet_after : List ℕ → List ℕ → ℕ → List ℕ
sheet_after shares ws n = if length ws == n then shares else zeros n

-- a share x of a litres, at weight w of s in all: x times s differs from a times w by less than s
abbrev pub Near : ℕ → ℕ → ℕ → ℕ → Type 0
Near a s w x = (x * s < a * w + s) × (a * w < x * s + s)
