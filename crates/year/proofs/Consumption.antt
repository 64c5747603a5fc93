-- Each point's shares and corrections are the consumption of its booked readings and its shares
-- since
-- the last of them.
use Rattle.std.proofs.Common.{◌≡◌, ℕ, ◌+◌, Bool, cond, List, [], ◌∷◌, get_or, pos, ◌+ℤ◌, refl, ap, arith}
use Rattle.std.proofs.lemmas.Int.{ints}
use Rattle.std.proofs.lemmas.List.Sums.{sum_by-cons}
use Rattle.rows.specs.declared.point.Particulars.{Particulars}
use Rattle.rows.specs.Bookings.{correction_of}
use Rattle.ledger.specs.Accounts.{signed_sum_by}
use Rattle.ledger.proofs.Places.{by_eqb}
use Rattle.year.specs.Settlements.{SharedDay, Booking, Settlement, Joined, DayShared, ReadingBooked, days_in}
use Rattle.year.specs.Quantities.{shares_of, shares_since, consumption_at, consumption_of, corrections_of}

abbrev pub Consumed : List Settlement → Type 0
Consumed c =
    (j : ℕ) → pos (shares_of c j) +ℤ corrections_of c j
    ≡ pos (consumption_of c j) +ℤ pos (shares_since c j)

pub consumed_none : Consumed []
unfolding shares_since consumption_of signed_sum_by
consumed_none j = refl

pub consumed_joined : (g : Particulars) (c : List Settlement) → Consumed c → Consumed (Joined g ∷ c)
unfolding shares_since consumption_of
consumed_joined g c h j = h j

pub consumed_shared : (c : List Settlement) (d : SharedDay) → Consumed c →
    Consumed (DayShared d ∷ c)
unfolding shares_since consumption_of
consumed_shared c d h j =
    let old = h j in
    let x = get_or d.shares j 0 in
    let more = sum_by-cons (λ (e : SharedDay). get_or e.shares j 0) d (days_in c) in
    let r : pos (shares_of (DayShared d ∷ c) j) +ℤ corrections_of c j
    ≡ pos (consumption_of c j) +ℤ pos (shares_since c j + x) = omega (arith, ints) in
    r

pub consumed_booked : (c : List Settlement) (b : Booking) →
    b.correction ≡ correction_of (consumption_at c b.point b.reading) (shares_since c b.point) →
    Consumed c → Consumed (ReadingBooked b ∷ c)
unfolding shares_since consumption_of signed_sum_by
consumed_booked c b is h j =
    let old = h j in
    let k = b.point in
    let z = b.correction in
    let given = shares_of c j in
    let before = corrections_of c j in
    let had = consumption_of c j in
    let read = consumption_at c k b.reading in
    by_eqb j k
    (λ (e : Bool). pos given +ℤ (cond e z (pos 0) +ℤ before)
    ≡ pos (cond e (had + read) had) +ℤ pos (cond e 0 (shares_since c j)))
    (λ e.
    let since : shares_since c j ≡ shares_since c k = ap (shares_since c) e in
    let r : pos given +ℤ (z +ℤ before) ≡ pos (had + read) +ℤ pos 0 = omega (arith, ints) in
    r)
    (λ ne. let r : pos given +ℤ (pos 0 +ℤ before) ≡ pos had +ℤ pos (shares_since c j) = omega
    (arith, ints) in r)
