-- The two rules by which a quantity of a litres is shared by the weights ws.
use Rattle.std.specs.Prelude.{ℕ, ◌+◌, ◌-◌, ◌*◌, ◌/◌, ◌%◌, List, map, length, take, sum, count_by, nat_eq, nat_lt, slice_index, if◌then◌else◌}
use Rattle.std.specs.List.{range_with_len}

-- one share for each weight, by its place
abbrev pub shares_by_place : (ℕ → ℕ) → List ℕ → List ℕ
shares_by_place share ws = map share (range_with_len 0 (length ws))

-- what the first i weights get together
unfoldable pub share_up_to : ℕ → List ℕ → ℕ → ℕ
share_up_to a ws i = a * sum (take i ws) / sum ws

-- running: what the weights up to place i get together, less what those before it get
unfoldable pub running_share : ℕ → List ℕ → ℕ → ℕ
running_share a ws i = share_up_to a ws (i + 1) - share_up_to a ws i

unfoldable pub running_shares : ℕ → List ℕ → List ℕ
running_shares a ws = shares_by_place (running_share a ws) ws

-- each weight's exact proportion, rounded down
unfoldable pub floors : ℕ → List ℕ → List ℕ
floors a ws = map (λ w. a * w / sum ws) ws

-- what the rounding cuts off, in parts of the sum of the weights
unfoldable pub remainders : ℕ → List ℕ → List ℕ
remainders a ws = map (λ w. a * w % sum ws) ws

-- the litres that the floors leave
unfoldable pub litres_left : ℕ → List ℕ → ℕ
litres_left a ws = a - sum (floors a ws)

-- how many places come before place i: those with a larger remainder, and the lower places with an
-- equal one
unfoldable pub places_ahead : List ℕ → ℕ → ℕ
places_ahead rs i =
    count_by (λ r. nat_lt (slice_index rs i) r) rs
    + count_by (λ r. nat_eq r (slice_index rs i)) (take i rs)

-- largest remainder: the floor, and one litre more while there are litres left for the places
-- before
unfoldable pub largest_remainder_share : ℕ → List ℕ → ℕ → ℕ
largest_remainder_share a ws i =
    slice_index (floors a ws) i
    + (if nat_lt (places_ahead (remainders a ws) i) (litres_left a ws) then 1 else 0)

unfoldable pub largest_remainder_shares : ℕ → List ℕ → List ℕ
largest_remainder_shares a ws = shares_by_place (largest_remainder_share a ws) ws
