-- A day shared out keeps the ledger and its sheet in agreement with their history.
use Rattle.std.proofs.Common.{◌≡◌, ℕ, ◌<◌, ◌≤◌, min, false, List, [], ◌∷◌, ◌++◌, length, take, drop, sum, sym, ap, ◌∙◌, subst, arith}
use Rattle.std.specs.List.{AllByRecursion as All}
use Rattle.std.proofs.lemmas.List.{length-map, length-take, take_at}
use Rattle.profiles.specs.declared.weather.Weather.{Weather}
use Rattle.profiles.specs.Laws.{Tells, TellsFactors}
use Rattle.shares.specs.Fair.{max_weight}
use Rattle.shares.specs.Laws.{Rule, IsShareRule}
use Rattle.rows.specs.declared.point.Point.{Point}
use Rattle.rows.specs.Rows.{row_at, shared_rows}
use Rattle.ledger.specs.declared.book.Book.{Book}
use Rattle.ledger.specs.declared.measured.MeasuredDay.{MeasuredDay}
use Rattle.ledger.specs.Accounts.{IsSound}
use Rattle.ledger.specs.Grounds.{unless}
use Rattle.ledger.specs.Outcomes.{token_outcome}
use Rattle.ledger.specs.Sharing.{ShareOutInputs, WorkSheets, factors_on, day_quantity, day_loss, day_consumptions, day_shares, has_no_weight, share_out_fault, shared_book, accepted_share_out, share_out, work_sheets_after}
use Rattle.ledger.specs.Tokens.{weather_of}
use Rattle.ledger.proofs.Accepted.{shares_out}
use Rattle.ledger.proofs.Grounds.{by_option}
use Rattle.ledger.proofs.Traders.{get_or_le_sum}
use Rattle.year.specs.Settlements.{Day, SharedDay, Settlement, DayShared, points_in, unless_refused}
use Rattle.year.specs.Quantities.{weight_of, quantity_on}
use Rattle.year.proofs.Today.{Running, running}
use Rattle.year.proofs.Sheets.{sheet_shared}
use Rattle.year.proofs.Consumption.{consumed_shared}
use Rattle.year.proofs.Money.{money_shared}
use Rattle.year.proofs.Fairness.{weights, consumptions_are, weight_small, weights_small, fair_day, whole_shared}
use Rattle.year.proofs.Agreement.{Agrees}

module _ (c : List Settlement) (d : Day) (taken : ℕ → ℕ) (l : Book) (s : List Point) (tells : Tells)
    (rule : Rule) (profile : TellsFactors tells) (law : IsShareRule rule) (h : IsSound l)
    (a : Agrees c d taken l s) where
  -- the day, with the shares that the points got
  abbrev shared : List ℕ → SharedDay
  shared qs = record { day = d; tells = tells; shares = qs }

  -- one share for each point
  shares_count : length (day_shares l s tells rule) ≡ l.counts.points
  shares_count =
      let n = l.counts.points in
      let room = a.sheet.room in
      law.places (day_quantity l.phase) (day_consumptions l s tells)
      ∙ length-map (take n s) _
      ∙ length-take n s
      ∙ (let m : min n (length s) ≡ n = omega arith in m)

  weight_limit : (qs : List ℕ) (k : ℕ) → k < l.counts.points →
      weight_of c (shared qs) k ≤ max_weight
  weight_limit qs k q = let r = a.sheet.rows k q in
      weight_small c (shared qs) k (row_at s k) profile r.agrees r.fits.particulars

  -- the profile is asked for the day's own weather
  factors_are : Running l.phase l.traders d → (k : ℕ) →
      factors_on l.phase tells k ≡ tells k d.weather
  factors_are run k = ap (λ (w : Weather). tells k w) run.weather

  -- the rows' profile consumptions are the points' weights
  weights_are : (qs : List ℕ) → Running l.phase l.traders d →
      day_consumptions l s tells ≡ weights c (shared qs) l.counts.points
  weights_are qs run =
      consumptions_are c (shared qs) (factors_on l.phase tells) l.counts.points s a.sheet.room
      (factors_are run) (λ k q. (a.sheet.rows k q).agrees)

  shares_whole : Running l.phase l.traders d → has_no_weight l s tells ≡ false →
      sum (day_shares l s tells rule) ≡ day_quantity l.phase
  shares_whole run weight =
      let n = l.counts.points in
      let ws = day_consumptions l s tells in
      let len : length ws ≡ n = sym (law.places (day_quantity l.phase) ws) ∙ shares_count in
      let few = h.points in
      let small : All (λ w. w ≤ max_weight) ws =
      subst (All (λ w. w ≤ max_weight)) (sym (weights_are [] run))
      (weights_small c (shared []) n (weight_limit []))
      in
      whole_shared rule (day_quantity l.phase) ws law run.small (omega arith) small weight

  shared_agrees : Running l.phase l.traders d → has_no_weight l s tells ≡ false →
      let qs = day_shares l s tells rule in Agrees (DayShared (shared qs) ∷ c) d taken
      (shared_book l s qs) (shared_rows (factors_on l.phase tells) s qs l.counts.points)
  shared_agrees run weight =
      let qs = day_shares l s tells rule in
      let e = shared qs in
      let n = l.counts.points in
      let ts = l.traders in
      let count = a.sheet.count in
      let places = h.places in
      let known = h.traders in
      let len = shares_count in
      let few = h.points in
      let small = run.small in
      let quantity = run.quantity in
      let whole = shares_whole run weight in
      let inflow = run.whole in
      let is : qs ≡ rule (quantity_on d) (weights c e (points_in c)) =
      ap (λ (x : ℕ). rule x (day_consumptions l s tells)) quantity
      ∙ ap (rule (quantity_on d)) (weights_are qs run ∙ ap (weights c e) count)
      in
      record {
        today = tt;
        sheet =
            sheet_shared c taken n l.counts.traders l.counts.shared s a.sheet e
            (factors_on l.phase tells) len
            (λ k. let most = get_or_le_sum qs k in omega arith)
            (λ k. (profile k (weather_of l.phase)).0)
            (factors_are run);
        money =
            money_shared c e ts s n count (λ i q. let own = (a.sheet.rows i q).owned in omega arith)
            l.loss
            (day_loss l.phase) l.correction (λ i q. (a.sheet.rows i q).agrees.trader)
            (omega arith) run.each run.loss
            (omega arith) a.money;
        fair = (
          fair_day c e rule law (omega arith) (omega arith)
              (λ k q. weight_limit qs k (omega arith)) is,
          a.fair,
        );
        consumed = consumed_shared c e a.consumed;
      }

-- w: the work sheets as the call left them
pub share_agrees : (c : List Settlement) (d : Day) (taken : ℕ → ℕ) (l : Book) (s : List Point)
    (day : MeasuredDay) (m : ShareOutInputs) (w : WorkSheets) → TellsFactors m.tells →
    IsShareRule m.rule → IsSound l → Agrees c d taken l s →
    w.shares ≡ (work_sheets_after l s day m).shares →
    let r = share_out l s day m in Agrees (unless_refused r.answer
    (DayShared (record { day = d; tells = m.tells; shares = take (points_in c) w.shares }) ∷ c)
    c) d taken r.book r.rows
share_agrees c d taken l s day m w profile law h a =
    let qs = day_shares l s m.tells m.rule in
    let n = l.counts.points in
    let ss = m.sheets.shares in
    let count = shares_count c d taken l s m.tells m.rule profile law h a in
    by_option
    (λ o. w.shares ≡ unless o (qs ++ drop n ss) ss →
    let r = token_outcome day o l s (accepted_share_out l s m) in
    Agrees (unless_refused r.answer (DayShared
    (record { day = d; tells = m.tells; shares = take (points_in c) w.shares }) ∷ c) c) d taken
    r.book r.rows)
    (share_out_fault l s day m)
    (λ e given.
    let o = shares_out l s day m e in
    let run = running l.phase day.number l.next_day l.traders d o.0.running h.day a.today in
    let written : take (points_in c) w.shares ≡ qs =
    ap (take (points_in c)) given ∙ take_at qs (drop n ss) (points_in c) (count ∙ a.sheet.count)
    in
    subst (λ (xs : List ℕ). Agrees (DayShared (record { day = d; tells = m.tells; shares = xs }) ∷
    c) d taken (shared_book l s qs) (shared_rows (factors_on l.phase m.tells) s qs n))
    (sym written)
    (shared_agrees c d taken l s m.tells m.rule profile law h a run o.1))
    (λ why given. a)
