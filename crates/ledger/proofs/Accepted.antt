-- What is known of each call that is not refused.
use Rattle.std.proofs.Common.{◌≡◌, ℕ, ◌+◌, ◌<◌, ◌≤◌, Bool, true, false, cond, ◌||◌, ltb, leb, List, length, take, Some, None, Option, refl}
use Rattle.std.proofs.lemmas.Bool.{not-false, ltb-false, leb-true, leb-false, and_parts, or_parts}
use Rattle.refusals.specs.declared.Refusal.{Refusal}
use Rattle.refusals.specs.declared.Refusal.TheVariants.{NoWeight}
use Rattle.profiles.specs.Asked.{is_in_range}
use Rattle.profiles.specs.declared.weather.Weather.{Weather}
use Rattle.ledger.specs.declared.book.Book.{Book}
use Rattle.ledger.specs.declared.day.OpenDay.{OpenDay}
use Rattle.ledger.specs.declared.measured.MeasuredDay.{MeasuredDay}
use Rattle.rows.specs.declared.point.Particulars.{Particulars}
use Rattle.rows.specs.declared.point.Point.{Point}
use Rattle.rows.specs.Limits.{max_traders, max_points}
use Rattle.ledger.specs.Limits.{max_litres, max_rate, max_shared, max_opened, last_day}
use Rattle.ledger.specs.Grounds.{unless}
use Rattle.rows.specs.Rows.{sheet_fits, particulars_fit, may_share, is_free, is_served}
use Rattle.ledger.specs.Accounts.{metered_sum}
use Rattle.ledger.specs.Days.{trader_admission_fault, point_admission_fault, opening_fault, entry_fault, loss_of, measurement_fault}
use Rattle.ledger.specs.Sharing.{ShareOutInputs, early_fault_of, early_fault, has_no_weight, share_out_fault}
use Rattle.ledger.proofs.Grounds.{some_none, no_ground}
use Rattle.std.specs.List.{list_all}
use Rattle.ledger.specs.Tokens.{is_idle, is_open, is_measured}

pub record Admits (l : Book) : Type 0 where
  pub room : l.counts.traders < max_traders

pub admits : (l : Book) → trader_admission_fault l ≡ None → Admits l
admits l e = record { room = leb-false _ _ (no_ground _ _ _ e).0 }

pub record PointFits (l : Book) (s : List Point) (g : Particulars) : Type 0 where
  pub short : length s ≤ max_points
  pub trader : g.trader < l.counts.traders
  pub particulars : particulars_fit g ≡ true
  pub room : l.counts.points < length s

pub point_fits : (l : Book) (s : List Point) (g : Particulars) →
    point_admission_fault l s g ≡ None → PointFits l s g
point_fits l s g e =
    let a = no_ground _ _ _ e in
    let b = no_ground _ _ _ a.1 in
    let c = no_ground _ _ _ b.1 in
    let d = no_ground _ _ _ c.1 in
    let f = and_parts (leb l.counts.points (length s)) (leb (length s) max_points)
    (not-false _ a.0) in
    record {
      short = leb-true _ _ f.1;
      trader = leb-false _ _ b.0;
      particulars = not-false _ c.0;
      room = leb-false _ _ d.0;
    }

pub record Opens (l : Book) (weather : Weather) : Type 0 where
  pub in_range : is_in_range weather ≡ true
  pub idle : is_idle l.phase ≡ true
  pub shared : l.counts.shared < max_shared
  pub opened : l.counts.opened < max_opened
  pub calendar : l.next_day ≤ last_day

pub day_opens : (l : Book) (weather : Weather) → opening_fault l weather ≡ None → Opens l weather
day_opens l weather e =
    let a = no_ground _ _ _ e in
    let b = no_ground _ _ _ a.1 in
    let c = no_ground _ _ _ b.1 in
    let d = or_parts (leb max_shared l.counts.shared || leb max_opened l.counts.opened) _ c.0 in
    let f = or_parts (leb max_shared l.counts.shared) _ d.0 in
    record {
      in_range = not-false _ a.0;
      idle = not-false _ b.0;
      shared = leb-false _ _ f.0;
      opened = leb-false _ _ f.1;
      calendar = ltb-false _ _ d.1;
    }

pub record Enters (l : Book) (day : OpenDay) (t litres : ℕ) : Type 0 where
  pub trader : t < l.counts.traders
  pub running : is_open l.phase day.number ≡ true
  pub room : metered_sum l.traders + litres ≤ max_litres

pub enters : (l : Book) (day : OpenDay) (t litres : ℕ) → entry_fault l day t litres ≡ None →
    Enters l day t litres
enters l day t litres e =
    let a = no_ground _ _ _ e in
    let b = no_ground _ _ _ a.1 in
    let c = no_ground _ _ _ b.1 in
    let d = no_ground _ _ _ c.1 in
    record { trader = leb-false _ _ a.0; running = not-false _ c.0; room = ltb-false _ _ d.0 }

pub record TakesInflow (l : Book) (day : OpenDay) (inflow rate : ℕ) : Type 0 where
  pub small : inflow ≤ max_litres
  pub share : rate ≤ max_rate
  pub running : is_open l.phase day.number ≡ true
  pub enough : loss_of inflow rate + metered_sum l.traders ≤ inflow

pub takes_inflow : (l : Book) (day : OpenDay) (inflow rate : ℕ) →
    measurement_fault l day inflow rate ≡ None → TakesInflow l day inflow rate
takes_inflow l day inflow rate e =
    let a = no_ground _ _ _ e in
    let b = no_ground _ _ _ a.1 in
    let c = no_ground _ _ _ b.1 in
    let d = or_parts (ltb max_litres inflow) _ a.0 in
    record {
      small = ltb-false _ _ d.0;
      share = ltb-false _ _ d.1;
      running = not-false _ b.0;
      enough = ltb-false _ _ c.0;
    }

-- what is known where none of its first grounds refuses a share-out
pub record Sharable (l : Book) (day : MeasuredDay) (s : List Point) (segments : ℕ) : Type 0 where
  pub fits : sheet_fits l.counts.points s ≡ true
  pub rows : list_all (may_share l.counts.traders) (take l.counts.points s) ≡ true
  pub running : is_measured l.phase day.number ≡ true
  pub free : list_all is_free (take l.counts.points s) ≡ true
  pub served : list_all (is_served segments) (take l.counts.points s) ≡ true

pub sharable : (l : Book) (day : MeasuredDay) (s : List Point) (segments uses shares : ℕ) →
    early_fault_of l s day segments uses shares ≡ None → Sharable l day s segments
sharable l day s segments uses shares e =
    let a = no_ground _ _ _ e in
    let b = no_ground _ _ _ a.1 in
    let c = no_ground _ _ _ b.1 in
    let d = no_ground _ _ _ c.1 in
    let f = no_ground _ _ _ d.1 in
    let g = no_ground _ _ _ f.1 in
    record {
      fits = not-false _ a.0;
      rows = not-false _ c.0;
      running = not-false _ d.0;
      free = not-false _ f.0;
      served = not-false _ g.0;
    }

-- a share-out is refused by one of its first grounds, or for want of weight
neither : (o : Option Refusal) (b : Bool) (w : Refusal) → unless o (cond b (Some w) None) o ≡ None →
    (o ≡ None) × (b ≡ false)
neither None true w e = some_none w e
neither None false w e = (refl, refl)
neither (Some v) b w e = some_none v e

pub shares_out : (l : Book) (s : List Point) (day : MeasuredDay) (m : ShareOutInputs) →
    share_out_fault l s day m ≡ None →
    Sharable l day s m.segments × (has_no_weight l s m.tells ≡ false)
shares_out l s day m e =
    let both = neither (early_fault l s day m) (has_no_weight l s m.tells) NoWeight e in
    (sharable l day s m.segments (length m.sheets.uses) (length m.sheets.shares) both.0, both.1)
