-- Which slips a ledger makes, and where they stand among the open ones.
use Rattle.std.specs.Prelude.{◌≡◌, ◌<◌, ℕ, List, Some, slice_get}
use Rattle.ledger.specs.declared.slip.Slip.{Slip}

-- a slip of a reading: readings are numbered from 1, and a ledger has at most 4,096 points
abbrev pub IsLedgerSlip : Slip → Type 0
IsLedgerSlip s = (0 < s.number) × (s.point < 4096)

-- the table has the place for the point, and there stands the slip, which is the point's
abbrev pub IsPlaced : List Slip → List ℕ → ℕ → ℕ → Slip → Type 0
IsPlaced slips places point place slip =
    (slice_get places point ≡ Some place)
    × (slice_get slips place ≡ Some slip)
    × (slip.point ≡ point)

-- the table leads from the point to the slip
abbrev pub IsFound : List Slip → List ℕ → ℕ → Slip → Type 0
IsFound slips places point slip = (place : ℕ) × IsPlaced slips places point place slip

-- the table leads from the point to a slip of the point
abbrev pub HasSlip : List Slip → List ℕ → ℕ → Type 0
HasSlip slips places point = (slip : Slip) × IsFound slips places point slip
