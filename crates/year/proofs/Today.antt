-- The running day of a ledger is the day that its history opened last.
use Rattle.std.proofs.Common.{◌≡◌, ℕ, ◌+◌, ◌-◌, ◌<◌, ◌≤◌, true, cond, eqb, leb, List, length, sym, refl, ap, ◌∙◌, add_comm, arith}
use Rattle.std.proofs.lemmas.List.Sums.{sum_by-cons}
use Rattle.std.proofs.lemmas.Bool.{eqb-true, leb-true, and_parts, false≢true}
use Rattle.ledger.specs.declared.book.Trader.{Trader}
use Rattle.ledger.specs.declared.day.Phase.{Phase}
use Rattle.ledger.specs.declared.day.Phase.TheVariants.{Idle, Open, Measured}
use Rattle.profiles.specs.declared.weather.Weather.{Weather}
use Rattle.ledger.specs.Limits.{max_litres}
use Rattle.ledger.specs.Accounts.{metered_at, metered_sum, with_metered, day_figures_fit}
use Rattle.ledger.specs.Days.{loss_of, quantity_of}
use Rattle.ledger.specs.Sharing.{day_quantity, day_loss}
use Rattle.ledger.proofs.Traders.{metered_le, metered_entered, metered_sum-entered}
use Rattle.year.specs.Settlements.{Day, MeteredEntry, new_day, with_entry, with_inflow}
use Rattle.year.specs.Quantities.{entered_by, entered_in, loss_on, quantity_on}
use Rattle.ledger.specs.Tokens.{is_idle, is_open, is_measured, weather_of}

-- what the opening took and what was entered since
pub record Begun (w : Weather) (ts : List Trader) (d : Day) : Type 0 where
  pub weather : w ≡ d.weather
  pub each : (t : ℕ) → metered_at ts t ≡ entered_by t d.entries
  pub all : metered_sum ts ≡ entered_in d.entries

begun_still : (w : Weather) (ts us : List Trader) (d : Day) →
    ((t : ℕ) → metered_at us t ≡ metered_at ts t) → metered_sum us ≡ metered_sum ts → Begun w ts d →
    Begun w us d
begun_still w ts us d each all o =
    record {
      weather = o.weather;
      each = λ t. each t ∙ o.each t;
      all = all ∙ o.all;
    }

-- what the inflow gave
pub record Figures (g x q : ℕ) (d : Day) : Type 0 where
  pub inflow : g ≡ d.inflow
  pub loss : x ≡ loss_on d
  pub quantity : q ≡ quantity_on d

abbrev pub Today : Phase → List Trader → Day → Type 0
Today Idle ts d = Unit {0}
Today (Open n w) ts d = Begun w ts d
Today (Measured n w g x q) ts d = Begun w ts d × Figures g x q d

idle_none : (ph : Phase) (m next : ℕ) → is_idle ph ≡ true → day_figures_fit ph m next ≡ true → m ≡ 0
idle_none Idle m next e h = eqb-true m 0 h
idle_none (Open n w) m next e h = absurd (false≢true e)
idle_none (Measured n w g x q) m next e h = absurd (false≢true e)

pub today_opened : (ph : Phase) (ts : List Trader) (next n : ℕ) (w : Weather) → is_idle ph ≡ true →
    day_figures_fit ph (metered_sum ts) next ≡ true → Today (Open n w) ts (new_day w)
today_opened ph ts next n w i h =
    let none = idle_none ph (metered_sum ts) next i h in
    record {
      weather = refl;
      each = λ u. let a = metered_le ts u in let r : metered_at ts u ≡ 0 = omega arith in r;
      all = none;
    }

pub today_entered : (ph : Phase) (k : ℕ) (ts : List Trader) (d : Day) (t q : ℕ) →
    is_open ph k ≡ true → t < length ts → Today ph ts d →
    Today ph (with_metered ts t q) (with_entry d t q)
today_entered Idle k ts d t q e h o = absurd (false≢true e)
today_entered (Open n w) k ts d t q e h o =
    record {
      weather = o.weather;
      each =
          λ u. metered_entered ts t q u h ∙ ap (λ (m : ℕ). cond (eqb t u) q 0 + m) (o.each u)
          ∙ sym (sum_by-cons (λ (e : MeteredEntry). cond (eqb e.trader u) e.litres 0)
          (record { trader = t; litres = q }) d.entries);
      all =
          metered_sum-entered ts t q h ∙ add_comm (metered_sum ts) q ∙ ap (λ (m : ℕ). q + m) o.all
          ∙ sym (sum_by-cons (λ (e : MeteredEntry). e.litres)
          (record { trader = t; litres = q }) d.entries);
    }
today_entered (Measured n w g x r) k ts d t q e h o = absurd (false≢true e)

pub today_measured : (ph : Phase) (k : ℕ) (ts : List Trader) (d : Day) (n g r : ℕ) →
    is_open ph k ≡ true → Today ph ts d → Today (Measured n (weather_of ph) g (loss_of g r)
    (quantity_of g r (metered_sum ts))) ts (with_inflow d g r)
today_measured Idle k ts d n g r e o = absurd (false≢true e)
today_measured (Open m w) k ts d n g r e o = (
  record { weather = o.weather; each = o.each; all = o.all },
  record { inflow = refl; loss = refl; quantity = ap (λ (m : ℕ). g - loss_of g r - m) o.all },
)
today_measured (Measured m w i x q) k ts d n g r e o = absurd (false≢true e)

-- traders whose metered litres are as they were
pub today_still : (ph : Phase) (ts us : List Trader) (d : Day) →
    ((t : ℕ) → metered_at us t ≡ metered_at ts t) → metered_sum us ≡ metered_sum ts →
    Today ph ts d → Today ph us d
today_still Idle ts us d each all o = tt
today_still (Open n w) ts us d each all o = begun_still w ts us d each all o
today_still (Measured n w g x q) ts us d each all o = (begun_still w ts us d each all o.0, o.1)

-- what a share-out takes from the running day
pub record Running (ph : Phase) (ts : List Trader) (d : Day) : Type 0 where
  pub weather : weather_of ph ≡ d.weather
  pub each : (t : ℕ) → metered_at ts t ≡ entered_by t d.entries
  pub loss : day_loss ph ≡ loss_on d
  pub quantity : day_quantity ph ≡ quantity_on d
  pub whole : day_quantity ph + day_loss ph + metered_sum ts ≡ d.inflow
  pub small : day_quantity ph ≤ max_litres

pub running : (ph : Phase) (k next : ℕ) (ts : List Trader) (d : Day) → is_measured ph k ≡ true →
    day_figures_fit ph (metered_sum ts) next ≡ true → Today ph ts d → Running ph ts d
running Idle k next ts d e h o = absurd (false≢true e)
running (Open n w) k next ts d e h o = absurd (false≢true e)
running (Measured n w g x q) k next ts d e h o =
    let a = and_parts (eqb (q + x + metered_sum ts) g) _ h in
    let b = and_parts (leb g max_litres) _ a.1 in
    let whole = eqb-true _ _ a.0 in
    let small = leb-true _ _ b.0 in
    record {
      weather = o.0.weather;
      each = o.0.each;
      loss = o.1.loss;
      quantity = o.1.quantity;
      whole = whole ∙ o.1.inflow;
      small = omega arith;
    }
