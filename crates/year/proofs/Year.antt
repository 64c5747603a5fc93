-- The law of the year, by recursion on the list of calls.
use Rattle.std.proofs.Common.{◌≡◌, false, List, ◌∷◌, sym, refl, subst, arith}
use Rattle.std.proofs.lemmas.Bool.{true≢false}
use Rattle.ledger.specs.declared.book.Book.{Book}
use Rattle.ledger.specs.declared.day.Phase.{Phase}
use Rattle.ledger.specs.declared.day.Phase.TheVariants.{Idle, Open, Measured}
use Rattle.rows.specs.declared.point.Point.{Point}
use Rattle.ledger.specs.Accounts.{IsSound, running_days}
use Rattle.ledger.specs.History.{History, Event, TraderAdmitted, PointAdmitted, Opened, Entered, InflowTaken, Shared, Abandoned, PointRead, Booked, HandedOver, Withdrawn, Step, IsHistoryOf, start, next}
use Rattle.ledger.specs.Outcomes.{Outcome, Became}
use Rattle.ledger.proofs.Keep.{new_sound, admit_sound, point_sound, open_sound, enter_sound, inflow_sound, share_sound, abandon_sound}
use Rattle.ledger.proofs.KeepReadings.{read_sound, book_sound, hand_sound, withdraw_sound}
use Rattle.year.specs.Settlements.{settlements, latest_day, latest_reading}
use Rattle.year.specs.Law.{YearLaw}
use Rattle.year.proofs.Sheets.{sheet_own, sheet_ready}
use Rattle.year.proofs.Agreement.{Agrees, new_agrees, admit_agrees, point_agrees, open_agrees, enter_agrees, inflow_agrees, abandon_agrees}
use Rattle.year.proofs.Reading.{read_agrees, book_agrees, hand_agrees, withdraw_agrees}
use Rattle.year.proofs.Sharing.{share_agrees}
use Rattle.ledger.specs.Tokens.{is_idle}

-- Soundness.

sound_step : (e : Event) (l l' : Book) (s s' : List Point) → IsSound l → Step e l s l' s' →
    IsSound l'
sound_step (TraderAdmitted r) l l' s s' h m = subst IsSound (sym m.book) (admit_sound l s h)
sound_step (PointAdmitted g r) l l' s s' h m = subst IsSound (sym m.book) (point_sound l s g h)
sound_step (Opened w r) l l' s s' h m = subst IsSound (sym m.book) (open_sound l s w h)
sound_step (Entered d t q r) l l' s s' h m = subst IsSound (sym m.book) (enter_sound l s d t q h)
sound_step (InflowTaken d g x r) l l' s s' h m = subst IsSound (sym m.book)
    (inflow_sound l s d g x h)
sound_step (Shared d m r w) l l' s s' h p = subst IsSound (sym p.shares_out.became.book)
    (share_sound l s d m p.rule h)
sound_step (Abandoned d r) l l' s s' h m = subst IsSound (sym m.book) (abandon_sound l s d h)
sound_step (PointRead k v r) l l' s s' h m = subst IsSound (sym m.book) (read_sound l s k v h)
sound_step (Booked w r) l l' s s' h m = subst IsSound (sym m.book) (book_sound l s w h)
sound_step (HandedOver w t r) l l' s s' h m = subst IsSound (sym m.book) (hand_sound l s w t h)
sound_step (Withdrawn w r) l l' s s' h m = subst IsSound (sym m.book) (withdraw_sound l s w h)

pub sound_run : (h : History) (l : Book) (s : List Point) → IsHistoryOf h l s → IsSound l
sound_run h l s (start first u) = new_sound first
sound_run h l s (next {h = h₀} {e = e} {l = l₀} {s = s₀} p m) = sound_step e l₀ l s₀ s
    (sound_run h₀ l₀ s₀ p) m

-- Agreement.

-- what a ledger and its sheet have in common with the history that led to them
abbrev Agree : History → Book → List Point → Type 0
Agree h l s = Agrees (settlements h) (latest_day h) (latest_reading h) l s

-- a step's answer, ledger and sheet put in the place of what its definition gives
by_outcome : {R : Type 0} (P : R → Book → List Point → Type 0) {o : Outcome R} {r : R} {l : Book}
    {s : List Point} → Became o r l s → P o.answer o.book o.rows → P r l s
by_outcome P {o} {r} {l} {s} m a =
    subst (λ v. P v l s) (sym m.answer) (subst (λ b. P o.answer b s) (sym m.book)
    (subst (P o.answer o.book) (sym m.rows) a))

agrees_step : (e : Event) (h : History) (l l' : Book) (s s' : List Point) → IsSound l →
    Agree h l s → Step e l s l' s' → Agree (e ∷ h) l' s'
agrees_step (TraderAdmitted r) h l l' s s' so a m = by_outcome
    (λ v. Agree (TraderAdmitted v ∷ h)) m (admit_agrees _ _ _ l s so a)
agrees_step (PointAdmitted g r) h l l' s s' so a m = by_outcome
    (λ v. Agree (PointAdmitted g v ∷ h)) m (point_agrees _ _ _ l s so a g)
agrees_step (Opened w r) h l l' s s' so a m = by_outcome
    (λ v. Agree (Opened w v ∷ h)) m (open_agrees _ _ _ l s so a w)
agrees_step (Entered d t q r) h l l' s s' so a m = by_outcome
    (λ v. Agree (Entered d t q v ∷ h)) m (enter_agrees _ _ _ l s so a d t q)
agrees_step (InflowTaken d g x r) h l l' s s' so a m = by_outcome
    (λ v. Agree (InflowTaken d g x v ∷ h)) m (inflow_agrees _ _ _ l s so a d g x)
agrees_step (Shared d m r w) h l l' s s' so a p =
    by_outcome (λ v. Agree (Shared d m v w ∷ h)) p.shares_out.became
    (share_agrees _ _ _ l s d m w p.profile p.rule so a p.shares_out.shares)
agrees_step (Abandoned d r) h l l' s s' so a m = by_outcome
    (λ v. Agree (Abandoned d v ∷ h)) m (abandon_agrees _ _ _ l s so a d)
agrees_step (PointRead k v r) h l l' s s' so a m = by_outcome
    (λ u. Agree (PointRead k v u ∷ h)) m (read_agrees _ _ _ l s so a k v)
agrees_step (Booked w r) h l l' s s' so a m = by_outcome
    (λ v. Agree (Booked w v ∷ h)) m (book_agrees _ _ _ l s so a w)
agrees_step (HandedOver w t r) h l l' s s' so a m = by_outcome
    (λ v. Agree (HandedOver w t v ∷ h)) m (hand_agrees _ _ _ l s so a w t)
agrees_step (Withdrawn w r) h l l' s s' so a m = by_outcome
    (λ v. Agree (Withdrawn w v ∷ h)) m (withdraw_agrees _ _ _ l s so a w)

pub agrees_run : (h : History) (l : Book) (s : List Point) → IsHistoryOf h l s → Agree h l s
agrees_run h l s (start first u) = new_agrees first u
agrees_run h l s (next {h = h₀} {e = e} {l = l₀} {s = s₀} p m) =
    agrees_step e h₀ l₀ l s₀ s (sound_run h₀ l₀ s₀ p) (agrees_run h₀ l₀ s₀ p) m

-- The law.

busy : (ph : Phase) → is_idle ph ≡ false → running_days ph ≡ 1
busy Idle e = absurd (true≢false e)
busy (Open n w) e = refl
busy (Measured n w g x q) e = refl

pub year_law : (h : History) (l : Book) (s : List Point) → IsHistoryOf h l s →
    YearLaw (settlements h) l s
year_law h l s p =
    let so = sound_run h l s p in
    let a = agrees_run h l s p in
    let count = a.sheet.count in
    let days = so.shared in
    record {
      balance = a.money.balance;
      losses = a.money.losses;
      accounts = a.money.accounts;
      corrections = a.money.corrections;
      readings = λ k q. a.consumed k;
      fair = a.fair;
      points = count;
      rows = λ k q. (a.sheet.rows k (omega arith)).agrees;
      room = a.sheet.room;
      own = sheet_own _ _ _ _ _ s a.sheet so.traders (omega arith);
      ready = λ i. let one = busy l.phase i in sheet_ready _ _ _ _ _ s a.sheet so.traders
          (omega arith);
    }
