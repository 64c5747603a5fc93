-- What a day's calls leave of a ledger.
use Rattle.std.specs.Prelude.{◌≡◌, ℕ, ◌+◌, ◌≤◌, true, IfErr, Result}
use Rattle.refusals.specs.declared.Refused.{Refused}
use Rattle.ledger.specs.declared.book.Book.{Book}
use Rattle.ledger.specs.Tokens.{DayToken, is_running}

-- the ledger's running day is this one
abbrev pub IsRunning : Book → DayToken → Type 0
IsRunning l day = is_running l.phase day ≡ true

-- a call that returned a refusal handed this day back, and left the running day as it was
abbrev pub HandsBack : {A T : Type 0} → T → Book → Book → Result A (Refused T) → Type 0
HandsBack day old new result = IfErr result (λ e. (e.given ≡ day) × (new.phase ≡ old.phase))

-- at most n days more are shared out, and no reading more is booked
pub record SharesAtMost (n : ℕ) (old new : Book) : Type 0 where
  pub shared : new.counts.shared ≤ old.counts.shared + n
  pub bookings : new.counts.bookings ≡ old.counts.bookings
