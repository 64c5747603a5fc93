-- The share-out of a measured day: when it is refused, and its outcome.
use Rattle.std.specs.Prelude.{◌≡◌, ℕ, ◌+◌, ◌<◌, ◌≤◌, Bool, true, cond, not, ◌&&◌, ◌||◌, List, [], ◌∷◌, ◌++◌, map, length, take, drop, replicate, Some, None, sum, Option, Result, ◌==◌, nat_lt}
use Rattle.std.specs.List.{list_all}
use Rattle.refusals.specs.declared.Refusal.{Refusal}
use Rattle.refusals.specs.declared.Refusal.TheVariants.{PointSheetLength, WorkSheetLength, ForeignSheet, NotRunning, SlipOpenAtShareOut, SegmentNotServed, NoWeight}
use Rattle.refusals.specs.declared.Refused.{Refused}
use Rattle.profiles.specs.declared.factors.Factors.{Factors}
use Rattle.profiles.specs.Laws.{Tells}
use Rattle.shares.specs.Laws.{Rule}
use Rattle.rows.specs.declared.point.Point.{Point}
use Rattle.rows.specs.Limits.{max_traders, max_points}
use Rattle.rows.specs.Rows.{IsShareable, row_at, sheet_fits, may_share, is_free, is_served, profile_consumptions, shared_rows}
use Rattle.rows.specs.Within.{IsWithin}
use Rattle.ledger.specs.declared.book.Book.{Book}
use Rattle.ledger.specs.declared.book.Trader.{Trader}
use Rattle.ledger.specs.declared.measured.MeasuredDay.{MeasuredDay}
use Rattle.ledger.specs.declared.day.Phase.{Phase}
use Rattle.ledger.specs.declared.day.Phase.TheVariants.{Idle, Measured}
use Rattle.ledger.specs.declared.day.SharedOut.{SharedOut}
use Rattle.ledger.specs.Accounts.{account_at, with_shares, settled_trader}
use Rattle.ledger.specs.Grounds.{first_ground, unless}
use Rattle.ledger.specs.Limits.{max_litres}
use Rattle.ledger.specs.Outcomes.{Outcome, Became, token_outcome}
use Rattle.ledger.specs.Tokens.{is_measured, weather_of}

-- the two work sheets of a share-out: for the profile consumptions, and for the shares
pub record WorkSheets : Type 0 where
  pub uses : List ℕ
  pub shares : List ℕ

-- what a share-out is handed besides the ledger, its day and its sheet: what the profile gives, the
-- segments that it serves, the rule, and the work sheets
pub record ShareOutInputs : Type 0 where
  pub tells : Tells
  pub segments : ℕ
  pub rule : Rule
  pub sheets : WorkSheets

abbrev pub work_sheets_of : List ℕ → List ℕ → WorkSheets
work_sheets_of uses shares = record { uses = uses; shares = shares }

abbrev pub inputs_of : Tells → ℕ → Rule → List ℕ → List ℕ → ShareOutInputs
inputs_of tells segments rule uses shares =
    record { tells = tells; segments = segments; rule = rule; sheets = work_sheets_of uses shares }

-- The day's figures.

-- the factors of each segment on the running day
abbrev pub factors_on : Phase → Tells → ℕ → Factors
factors_on ph tells segment = tells segment (weather_of ph)

abbrev pub day_quantity : Phase → ℕ
day_quantity (Measured n w g x q) = q
day_quantity ph = 0

abbrev pub day_loss : Phase → ℕ
day_loss (Measured n w g x q) = x
day_loss ph = 0

-- the profile consumptions of the points admitted
abbrev pub day_consumptions : Book → List Point → Tells → List ℕ
day_consumptions l s tells =
    profile_consumptions (factors_on l.phase tells) (take l.counts.points s)

-- the shares of the points admitted
abbrev pub day_shares : Book → List Point → Tells → Rule → List ℕ
day_shares l s tells rule = rule (day_quantity l.phase) (day_consumptions l s tells)

-- When it is refused.

-- the grounds that lie in what was handed in or in how things stand, but for the last
abbrev pub early_fault_of : Book → List Point → MeasuredDay → ℕ → ℕ → ℕ → Option Refusal
early_fault_of l s day segments uses shares =
    first_ground
    ((not (sheet_fits l.counts.points s), PointSheetLength)
    ∷ (nat_lt uses l.counts.points || nat_lt shares l.counts.points, WorkSheetLength)
    ∷ (not (list_all (may_share l.counts.traders) (take l.counts.points s)), ForeignSheet)
    ∷ (not (is_measured l.phase day.number), NotRunning)
    ∷ (not (list_all is_free (take l.counts.points s)), SlipOpenAtShareOut)
    ∷ (not (list_all (is_served segments) (take l.counts.points s)), SegmentNotServed)
    ∷ [])

abbrev pub early_fault : Book → List Point → MeasuredDay → ShareOutInputs → Option Refusal
early_fault l s day m =
    early_fault_of l s day m.segments (length m.sheets.uses) (length m.sheets.shares)

-- there is something to share and no point to share it by
abbrev pub has_no_weight : Book → List Point → Tells → Bool
has_no_weight l s tells =
    nat_lt 0 (day_quantity l.phase) && sum (day_consumptions l s tells) == 0

abbrev pub share_out_fault : Book → List Point → MeasuredDay → ShareOutInputs → Option Refusal
share_out_fault l s day m =
    let first = early_fault l s day m in
    unless first (cond (has_no_weight l s m.tells) (Some NoWeight) None) first

-- Its outcome.

abbrev pub share_out_figures : Book → List Point → Tells → SharedOut
share_out_figures l s tells =
    record {
      quantity = day_quantity l.phase;
      total = sum (day_consumptions l s tells);
      loss = day_loss l.phase;
    }

-- the ledger after its points had these shares: shares and metered sums are in the traders'
-- accounts, the loss in its account
abbrev pub shared_book : Book → List Point → List ℕ → Book
shared_book l s shares =
    record l {
      traders = map settled_trader (with_shares l.traders s shares l.counts.points);
      counts = record l.counts { shared = l.counts.shared + 1 };
      loss = l.loss + day_loss l.phase;
      next_day = l.next_day + 1;
      phase = Idle;
    }

abbrev pub accepted_share_out : Book → List Point → ShareOutInputs → Outcome SharedOut
accepted_share_out l s m =
    let shares = day_shares l s m.tells m.rule in
    record {
      answer = share_out_figures l s m.tells;
      book = shared_book l s shares;
      rows = shared_rows (factors_on l.phase m.tells) s shares l.counts.points;
    }

-- the answer, the ledger and the sheet
abbrev pub share_out : Book → List Point → MeasuredDay → ShareOutInputs →
    Outcome (Result SharedOut (Refused MeasuredDay))
share_out l s day m =
    token_outcome day (share_out_fault l s day m) l s (accepted_share_out l s m)

-- the work sheets: the first gets the profile consumptions, zeros in their place where there is no
-- weight; the second the shares; then follows what stood there
abbrev pub work_sheets_after : Book → List Point → MeasuredDay → ShareOutInputs → WorkSheets
work_sheets_after l s day m =
    let n = l.counts.points in
    let consumptions = day_consumptions l s m.tells in
    let uses = cond (has_no_weight l s m.tells) (replicate n 0) consumptions in
    record {
      uses = unless (early_fault l s day m) (uses ++ drop n m.sheets.uses) m.sheets.uses;
      shares =
          unless (share_out_fault l s day m)
          (day_shares l s m.tells m.rule ++ drop n m.sheets.shares)
          m.sheets.shares;
    }

-- a share-out with these inputs returned r, and left the ledger at l', the sheet at s' and the work
-- sheets at w
pub record SharesOut (l : Book) (s : List Point) (day : MeasuredDay) (m : ShareOutInputs)
    (r : Result SharedOut (Refused MeasuredDay)) (l' : Book) (s' : List Point) (w : WorkSheets)
    : Type 0 where
  pub became : Became (share_out l s day m) r l' s'
  pub uses : w.uses ≡ (work_sheets_after l s day m).uses
  pub shares : w.shares ≡ (work_sheets_after l s day m).shares

-- Facts that its steps ask for.

-- a sheet whose points can be weighed into a work sheet of some places, and shared out to
pub record IsWeighable (l : Book) (s : List Point) (places : ℕ) : Type 0 where
  pub room : l.counts.points ≤ length s
  pub short : length s ≤ max_points
  pub uses : l.counts.points ≤ places
  pub rows : list_all (may_share l.counts.traders) (take l.counts.points s) ≡ true

-- rows whose shares can be booked: one share each, together no more than a day can bring, and no
-- account near its limit
pub record CanCredit (ts : List Trader) (s : List Point) (shares : List ℕ) : Type 0 where
  pub places : length ts ≡ max_traders
  pub each : length shares ≡ length s
  pub rows : (k : ℕ) → k < length s → IsShareable max_traders (row_at s k)
  pub small : sum shares ≤ max_litres
  pub accounts : (t : ℕ) → IsWithin (account_at ts t) 5_900_000_000_000_000_000
