-- The law of the year: what holds after every list of calls on a new ledger and its own sheet,
-- refused calls included. Every quantity on its right-hand sides comes from the history, none from
-- the ledger's own fields.
use Rattle.std.specs.Prelude.{◌≡◌, ℕ, ◌<◌, ◌≤◌, true, false, List, [], ◌∷◌, length, take, pos, ◌+ℤ◌, ◌-ℤ◌, slice_index}
use Rattle.std.specs.List.{list_all}
use Rattle.shares.specs.Fair.{Near}
use Rattle.rows.specs.declared.point.Point.{Point}
use Rattle.rows.specs.Bookings.{may_book}
use Rattle.rows.specs.Rows.{row_at, may_share}
use Rattle.ledger.specs.declared.book.Book.{Book}
use Rattle.ledger.specs.Accounts.{account_at, all_accounts}
use Rattle.ledger.specs.Tokens.{is_idle}
use Rattle.year.specs.Settlements.{SharedDay, Settlement, DayShared, points_in, trader_of}
use Rattle.year.specs.Quantities.{quantity_on, given_for, reading_of, scale_factor_of, shares_of, shares_since, period_of, consumption_of, corrections_of, weight_of, weight_sum, account_of, corrections_in, inflow_of, losses_of}

-- a share x of a litres at weight w of s in all is less than a litre from its exact proportion, and
-- zero where nobody has weight
pub record IsProportional (a s w x : ℕ) : Type 0 where
  pub near : 0 < s → Near a s w x
  pub none : s ≡ 0 → x ≡ 0

-- the shares of one day, by what the settlements before it give
abbrev pub IsFairDay : List Settlement → SharedDay → Type 0
IsFairDay c d =
    (k : ℕ) → k < points_in c →
    IsProportional (quantity_on d.day) (weight_sum c d) (weight_of c d k) (slice_index d.shares k)

-- the shares of every day
abbrev pub AreFairDays : List Settlement → Type 0
AreFairDays [] = Unit {0}
AreFairDays (DayShared d ∷ c) = IsFairDay c d × AreFairDays c
AreFairDays (e ∷ c) = AreFairDays c

-- the row of point k is what the settlements give
pub record RowAgrees (c : List Settlement) (k : ℕ) (p : Point) : Type 0 where
  pub trader : p.trader ≡ trader_of c k
  pub segment : p.segment ≡ (given_for c k).segment
  pub digits : p.digits ≡ (given_for c k).digits
  pub litres : p.litres_per_unit ≡ (given_for c k).litres_per_unit
  pub reading : p.reading ≡ reading_of c k
  pub scale : p.scale_factor ≡ scale_factor_of c k
  pub shares : p.open_sum ≡ shares_since c k
  pub period : p.period_sum ≡ period_of c k

pub record YearLaw (c : List Settlement) (l : Book) (s : List Point) : Type 0 where
  -- the inflow of the days shared out is loss, all traders' accounts and the correction account
  pub balance : pos (inflow_of c) ≡ pos l.loss +ℤ all_accounts l.traders +ℤ l.correction
  -- the loss account is the network loss of those days
  pub losses : l.loss ≡ losses_of c
  -- each trader's account is his entries of those days and the shares and corrections of points,
  -- each while the point was his
  pub accounts : (t : ℕ) → account_at l.traders t ≡ account_of c t
  -- the correction account has given what the bookings returned
  pub corrections : l.correction ≡ pos 0 -ℤ corrections_in c
  -- each point's shares and corrections are the consumption of its booked readings and its shares
  -- since the last of them
  pub readings : (k : ℕ) → k < points_in c →
      pos (shares_of c k) +ℤ corrections_of c k ≡ pos (consumption_of c k) +ℤ pos (shares_since c k)
  -- each share of each day is less than a litre from its exact proportion
  pub fair : AreFairDays c
  -- the ledger's points and their rows are those of the history
  pub points : l.counts.points ≡ points_in c
  pub rows : (k : ℕ) → k < points_in c → RowAgrees c k (row_at s k)
  -- its own sheet is never refused as too short or as another's: it has a row for each point, each
  -- in its ranges and of an admitted trader, and a running day can be shared out to all
  pub room : l.counts.points ≤ length s
  pub own : list_all (may_book l.counts.traders) (take l.counts.points s) ≡ true
  pub ready : is_idle l.phase ≡ false →
      list_all (may_share l.counts.traders) (take l.counts.points s) ≡ true
