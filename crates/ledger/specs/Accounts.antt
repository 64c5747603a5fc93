-- The traders' records, and what always holds of a ledger.
use Rattle.std.specs.Prelude.{◌≡◌, ℕ, zero, suc, ◌+◌, ◌*◌, ◌≤◌, Bool, true, ◌&&◌, List, [], ◌∷◌, length, replicate, ℤ, pos, ◌+ℤ◌, ◌≤ℤ◌, sum_by, ◌==◌, nat_le, slice_index, slice_index_or, slice_set}
use Rattle.rows.specs.declared.point.Point.{Point}
use Rattle.rows.specs.Limits.{max_traders, max_points, max_correction}
use Rattle.rows.specs.Rows.{row_at}
use Rattle.rows.specs.Within.{IsWithin}
use Rattle.ledger.specs.declared.book.Book.{Book}
use Rattle.ledger.specs.declared.book.Counts.{Counts}
use Rattle.ledger.specs.declared.book.Trader.{Trader}
use Rattle.ledger.specs.declared.day.Phase.{Phase}
use Rattle.ledger.specs.declared.day.Phase.TheVariants.{Idle, Open, Measured}
use Rattle.ledger.specs.Limits.{max_litres, max_shared, max_opened, max_readings, last_day}

abbrev pub no_trader : Trader
no_trader = record { account = pos 0; metered = 0 }

abbrev pub trader_at : List Trader → ℕ → Trader
trader_at ts t = slice_index_or ts t no_trader

abbrev pub account_at : List Trader → ℕ → ℤ
account_at ts t = (trader_at ts t).account

abbrev pub metered_at : List Trader → ℕ → ℕ
metered_at ts t = (trader_at ts t).metered

-- the metered litres of all traders today
abbrev pub metered_sum : List Trader → ℕ
metered_sum ts = sum_by (λ (t : Trader). t.metered) ts

-- the sum of a signed number of each element
unfoldable pub signed_sum_by : {X : Type 0} → (X → ℤ) → List X → ℤ
signed_sum_by f [] = pos 0
signed_sum_by f (x ∷ xs) = f x +ℤ signed_sum_by f xs

-- all accounts together
abbrev pub all_accounts : List Trader → ℤ
all_accounts ts = signed_sum_by (λ (t : Trader). t.account) ts

-- the traders once some litres, or fewer than none, joined the account of one
abbrev pub with_credit : List Trader → ℕ → ℤ → List Trader
with_credit ts t z = slice_set ts t (record (trader_at ts t) { account = account_at ts t +ℤ z })

-- the traders once some litres joined the metered sum of one
abbrev pub with_metered : List Trader → ℕ → ℕ → List Trader
with_metered ts t q = slice_set ts t (record (trader_at ts t) { metered = metered_at ts t + q })

-- the traders once the first k rows' shares were credited to theirs
unfoldable pub with_shares : List Trader → List Point → List ℕ → ℕ → List Trader
with_shares ts s shares zero = ts
with_shares ts s shares (suc k) =
    with_credit (with_shares ts s shares k) (row_at s k).trader (pos (slice_index shares k))

-- a trader whose metered sum went to his account
abbrev pub settled_trader : Trader → Trader
settled_trader t = record t { account = t.account +ℤ pos t.metered; metered = 0 }

-- a trader whose metered sum was given up
abbrev pub unmetered_trader : Trader → Trader
unmetered_trader t = record t { metered = 0 }

-- nothing counted yet
abbrev pub no_counts : Counts
no_counts =
    record { traders = 0; points = 0; opened = 0; shared = 0; readings = 0; bookings = 0 }

abbrev pub new_book : ℕ → Book
new_book first =
    record {
      traders = replicate max_traders no_trader;
      counts = no_counts;
      loss = 0;
      correction = pos 0;
      next_day = first;
      phase = Idle;
    }

-- how far an account can have come: a day moves it by max_litres at the most, a booking by
-- max_correction
abbrev pub account_limit : Counts → ℕ
account_limit c = c.shared * max_litres + c.bookings * max_correction

-- the day's figures: between days nothing is metered; a running day lies in the calendar; a
-- measured day's quantity, loss and metered litres are its inflow
abbrev pub day_figures_fit : Phase → ℕ → ℕ → Bool
day_figures_fit Idle metered next = metered == 0
day_figures_fit (Open n w) metered next = nat_le next last_day
day_figures_fit (Measured n w g x q) metered next =
    q + x + metered == g && (nat_le g max_litres && nat_le next last_day)

-- days opened and not yet ended
abbrev pub running_days : Phase → ℕ
running_days Idle = 0
running_days ph = 1

-- what holds of every ledger, before and after each call
pub record IsSound (l : Book) : Type 0 where
  pub places : length l.traders ≡ max_traders
  pub traders : l.counts.traders ≤ max_traders
  pub points : l.counts.points ≤ max_points
  pub metered : metered_sum l.traders ≤ max_litres
  pub day : day_figures_fit l.phase (metered_sum l.traders) l.next_day ≡ true
  pub opened : l.counts.opened ≤ max_opened
  pub shared : l.counts.shared + running_days l.phase ≤ max_shared
  pub readings : l.counts.readings ≤ max_readings
  pub bookings : l.counts.bookings ≤ l.counts.readings
  pub losses : l.loss ≤ l.counts.shared * max_litres
  pub accounts : (t : ℕ) → IsWithin (account_at l.traders t) (account_limit l.counts)
  pub corrections : IsWithin l.correction (l.counts.bookings * max_correction)

-- what settling the metered sums asks of the traders
pub record CanSettle (ts : List Trader) : Type 0 where
  pub places : length ts ≡ max_traders
  pub small : (t : ℕ) → metered_at ts t ≤ max_litres
  pub within : (t : ℕ) → account_at ts t ≤ℤ pos 6_000_000_000_000_000_000
