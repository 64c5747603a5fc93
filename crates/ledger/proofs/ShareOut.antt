-- A share-out from the facts of its steps: what was asked, weighed, divided, credited and settled.
use Rattle.std.proofs.Common.{◌≡◌, ℕ, zero, suc, ◌+◌, ◌<◌, ◌≤◌, Bool, true, false, cond, not, ◌&&◌, eqb, leb, ltb, List, [], ◌∷◌, ◌++◌, map, length, get_or, take, drop, set, replicate, pos, Some, None, Ok, Err, sum, Option, sym, refl, ap, ◌∙◌, subst, arith}
use Rattle.std.specs.List.{range_with_len, list_all}
use Rattle.std.proofs.lemmas.List.FromFn.{get_or-map-range_with_len}
use Rattle.std.proofs.lemmas.List.{ext_get_or, length-map, length-take-le, get_or-map, get_or-take, get_or_append_left, take_at}
use Rattle.std.proofs.lemmas.List.Sums.{sum_by-cons}
use Rattle.std.proofs.lemmas.Bool.{leb-true, and_parts, false≢true}
use Rattle.std.proofs.lemmas.Bool.Decides.{nat_tests}
use Rattle.refusals.specs.declared.Refusal.{Refusal}
use Rattle.refusals.specs.declared.Refusal.TheVariants.{ForeignSheet, NotRunning, SlipOpenAtShareOut, SegmentNotServed, NoWeight}
use Rattle.profiles.specs.declared.factors.Factors.{Factors}
use Rattle.profiles.specs.Laws.{factors_of, Tells}
use Rattle.ledger.specs.declared.book.Book.{Book}
use Rattle.ledger.specs.declared.book.Trader.{Trader}
use Rattle.ledger.specs.declared.measured.MeasuredDay.{MeasuredDay}
use Rattle.ledger.specs.declared.day.Phase.{Phase}
use Rattle.ledger.specs.declared.day.Phase.TheVariants.{Idle, Open, Measured}
use Rattle.rows.specs.declared.point.Point.{Point}
use Rattle.ledger.specs.Accounts.{IsSound, CanSettle, with_shares, with_credit, settled_trader, day_figures_fit, running_days, account_limit}
use Rattle.ledger.specs.Grounds.{first_ground, unless}
use Rattle.rows.specs.Limits.{max_traders}
use Rattle.ledger.specs.Limits.{max_litres}
use Rattle.rows.specs.Rows.{IsShareable, row_at, no_row, sheet_fits, may_share, is_free, is_served, factors_at, profile_consumption, profile_consumptions, shared_row, shared_rows}
use Rattle.ledger.specs.Sharing.{ShareOutInputs, SharesOut, IsWeighable, CanCredit, factors_on, day_quantity, day_loss, day_consumptions, day_shares, early_fault_of, early_fault, has_no_weight, share_out_fault, shared_book, accepted_share_out, work_sheets_after}
use Rattle.ledger.proofs.Accepted.{sharable}
use Rattle.ledger.proofs.Becoming.{accepted, turned_down}
use Rattle.ledger.proofs.Crediting.{settling}
use Rattle.ledger.proofs.Keep.{shares_within, shared_sound}
use Rattle.rows.proofs.Ranges.{shareable}
use Rattle.rows.proofs.Rows.{row_of_all, shared_rows_part}
use Rattle.ledger.proofs.Traders.{near_more, credited_to_part}
use Rattle.ledger.specs.Tokens.{is_measured}
use Rattle.shares.specs.Laws.{IsShareRule, Rule}

-- lists by their first places

credited_to_front : (ts : List Trader) (s : List Point) (xs ys : List ℕ) (k : ℕ) → k ≤ length xs →
    with_shares ts s (xs ++ ys) k ≡ with_shares ts s xs k
unfolding with_shares
credited_to_front ts s xs ys zero h = refl
credited_to_front ts s xs ys (suc k) h =
    ap (λ (us : List Trader). with_credit us (row_at s k).trader (pos (get_or (xs ++ ys) k 0)))
    (credited_to_front ts s xs ys k (omega arith))
    ∙ ap (λ (x : ℕ). with_credit (with_shares ts s xs k) (row_at s k).trader (pos x))
    (get_or_append_left xs ys 0 k (omega arith))

shared_rows_front : (factors : ℕ → Factors) (s : List Point) (xs ys : List ℕ) (k : ℕ) →
    k ≤ length xs → shared_rows factors s (xs ++ ys) k ≡ shared_rows factors s xs k
unfolding shared_rows
shared_rows_front factors s xs ys zero h = refl
shared_rows_front factors s xs ys (suc k) h =
    ap (λ (us : List Point). set us k (shared_row (row_at s k) (get_or (xs ++ ys) k 0)
    (factors (row_at s k).segment).multiplier))
    (shared_rows_front factors s xs ys k (omega arith))
    ∙ ap (λ (x : ℕ). set (shared_rows factors s xs k) k
    (shared_row (row_at s k) x (factors (row_at s k).segment).multiplier))
    (get_or_append_left xs ys 0 k (omega arith))

-- two profiles that give the same for the rows' segments
shared_rows_same : (f g : ℕ → Factors) (s : List Point) (xs : List ℕ) (n : ℕ) →
    ((k : ℕ) → k < n → f (row_at s k).segment ≡ g (row_at s k).segment) →
    shared_rows f s xs n ≡ shared_rows g s xs n
unfolding shared_rows
shared_rows_same f g s xs zero h = refl
shared_rows_same f g s xs (suc n) h =
    ap (λ (us : List Point). set us n (shared_row (row_at s n) (get_or xs n 0)
    (f (row_at s n).segment).multiplier)) (shared_rows_same f g s xs n
    (λ k q. h k (omega arith)))
    ∙ ap (λ (x : Factors). set (shared_rows g s xs n) n
    (shared_row (row_at s n) (get_or xs n 0) x.multiplier)) (h n (omega arith))

consumptions_same : (f g : ℕ → Factors) (s : List Point) (n : ℕ) → n ≤ length s →
    ((k : ℕ) → k < n → f (row_at s k).segment ≡ g (row_at s k).segment) →
    profile_consumptions f (take n s) ≡ profile_consumptions g (take n s)
consumptions_same f g s n r h =
    let F : (ℕ → Factors) → Point → ℕ = λ u p. profile_consumption p.scale_factor
    (u p.segment).day in
    let len : length (take n s) ≡ n = length-take-le n s r in
    ext_get_or 0 (profile_consumptions f (take n s)) (profile_consumptions g (take n s))
    (length-map (take n s) (F f) ∙ sym (length-map (take n s) (F g)))
    (λ k q.
    let lm = length-map (take n s) (F f) in
    let kn : k < n = omega arith in
    let kt : k < length (take n s) = omega arith in
    get_or-map (F f) (take n s) k no_row 0 kt
    ∙ ap (F f) (get_or-take n s k no_row kn)
    ∙ ap (λ (x : Factors). profile_consumption (row_at s k).scale_factor x.day) (h k kn)
    ∙ ap (F g) (sym (get_or-take n s k no_row kn))
    ∙ sym (get_or-map (F g) (take n s) k no_row 0 kt))

none_left : (xs : List ℕ) → sum xs ≡ 0 → xs ≡ replicate (length xs) 0
none_left [] e = refl
none_left (x ∷ xs) e =
    let c = sum_by-cons (λ (n : ℕ). n) x xs in
    let a : x ≡ 0 = omega arith in
    let b : sum xs ≡ 0 = omega arith in
    ap (λ (y : ℕ). y ∷ xs) a ∙ ap (λ u. 0 ∷ u) (none_left xs b)

pub quantity_small : (ph : Phase) (m today : ℕ) → day_figures_fit ph m today ≡ true →
    day_quantity ph ≤ max_litres
quantity_small Idle m today e = omega arith
quantity_small (Open n w) m today e = omega arith
quantity_small (Measured n w g x q) m today e = grind (arith, nat_tests)

-- a measured day is running
measured_pending : (ph : Phase) (k : ℕ) → is_measured ph k ≡ true → running_days ph ≡ 1
measured_pending Idle k e = absurd (false≢true e)
measured_pending (Open n w) k e = absurd (false≢true e)
measured_pending (Measured n w g x q) k e = refl

-- what is known once the first grounds are passed
pub passed : (l : Book) (s : List Point) (day : MeasuredDay) (segments uses shares : ℕ) →
    early_fault_of l s day segments uses shares ≡ None → IsWeighable l s uses
passed l s day segments uses shares e =
    record {
      room = grind (arith, nat_tests);
      short = grind (arith, nat_tests);
      uses = grind (arith, nat_tests);
      rows = grind (arith, nat_tests);
    }

pub passed_room : (l : Book) (s : List Point) (day : MeasuredDay) (segments uses shares : ℕ) →
    early_fault_of l s day segments uses shares ≡ None → l.counts.points ≤ shares
passed_room l s day segments uses shares e = grind (arith, nat_tests)

pub passed_running : (l : Book) (s : List Point) (day : MeasuredDay) (segments uses shares : ℕ) →
    early_fault_of l s day segments uses shares ≡ None → running_days l.phase ≡ 1
passed_running l s day segments uses shares e = measured_pending l.phase day.number
    (sharable l day s segments uses shares e).running

-- Weighing.

pub segment_small : (l : Book) (s : List Point) (places : ℕ) → IsWeighable l s places → (k : ℕ) →
    k < l.counts.points → (row_at s k).segment < 8
segment_small l s places ok k h = (shareable l.counts.traders (row_at s k)
    (row_of_all (may_share l.counts.traders) s l.counts.points k ok.rows ok.room h)).segment

module _ (l : Book) (s : List Point) (tells : Tells) (places : ℕ) (ok : IsWeighable l s places)
    (factors : List Factors) (asked : factors ≡ map (factors_on l.phase tells)
    (range_with_len 0 8)) where
  factors_same : (k : ℕ) → k < l.counts.points → factors_at factors (row_at s k).segment
      ≡ factors_on l.phase tells (row_at s k).segment
  factors_same k h =
      let j = (row_at s k).segment in
      ap (λ u. factors_at u j) asked ∙ get_or-map-range_with_len
      (factors_on l.phase tells) 0 8 j j (factors_of 0 0) (segment_small l s places ok k h)
      (omega arith)

  pub weighed_is : profile_consumptions (factors_at factors) (take l.counts.points s)
      ≡ day_consumptions l s tells
  weighed_is = consumptions_same (factors_at factors)
      (factors_on l.phase tells) s l.counts.points ok.room factors_same

  pub booked_is : (shares : List ℕ) → shared_rows (factors_at factors) s shares l.counts.points
      ≡ shared_rows (factors_on l.phase tells) s shares l.counts.points
  booked_is shares = shared_rows_same (factors_at factors)
      (factors_on l.phase tells) s shares l.counts.points factors_same

length-consumptions : (l : Book) (s : List Point) (tells : Tells) → l.counts.points ≤ length s →
    length (day_consumptions l s tells) ≡ l.counts.points
length-consumptions l s tells h = length-map (take l.counts.points s) _
    ∙ length-take-le l.counts.points s h

-- Testing the rows: which ground of a share-out is met, by the tests of all rows.

module _ (l : Book) (s : List Point) (day : MeasuredDay) (rows : List Point)
    (segments uses shares : ℕ) (fits : sheet_fits l.counts.points s ≡ true)
    (e : rows ≡ take l.counts.points s)
    (may free served : Bool) (m : may ≡ list_all (may_share l.counts.traders) rows)
    (f : free ≡ list_all is_free rows) (v : served ≡ list_all (is_served segments) rows)
    (u : length rows ≤ uses) (h : length rows ≤ shares) where
  -- the first that is met, of those that the tests are about
  pub grounds_tested : early_fault_of l s day segments uses shares
      ≡ first_ground ((not may, ForeignSheet) ∷ (not (is_measured l.phase day.number), NotRunning) ∷
      (not free, SlipOpenAtShareOut) ∷ (not served, SegmentNotServed) ∷ [])
  grounds_tested =
      let n = l.counts.points in
      let room : n ≤ length s = leb-true _ _ (and_parts (leb n (length s)) _ fits).0 in
      let len : length rows ≡ n = ap length e ∙ length-take-le n s room in
      let a = m ∙ ap (list_all (may_share l.counts.traders)) e in
      let b = f ∙ ap (list_all is_free) e in
      let c = v ∙ ap (list_all (is_served segments)) e in
      let x : n ≤ uses = omega arith in
      let y : n ≤ shares = omega arith in
      grind (arith, nat_tests)

-- Closing the day, by a rule and the weights in the first places of a work sheet.

-- a running day's figures, with what was metered, are no more than a day can bring
day_small : (ph : Phase) (m today : ℕ) → day_figures_fit ph m today ≡ true → m ≤ max_litres →
    running_days ph ≡ 1 → day_quantity ph + day_loss ph + m ≤ max_litres
day_small Idle m today e h p = omega arith
day_small (Open n w) m today e h p = omega arith
day_small (Measured n w g x q) m today e h p = grind (arith, nat_tests)

module _ (l : Book) (s : List Point) (rule : Rule) (law : IsShareRule rule) (so : IsSound l)
    (us ss ss' : List ℕ) (ok : IsWeighable l s (length us)) (room : l.counts.points ≤ length ss)
    (quantity : ℕ) (q : quantity ≡ day_quantity l.phase)
    (d : ss' ≡ rule quantity (take l.counts.points us) ++ drop l.counts.points ss) where
  shares_of : List ℕ
  shares_of = rule (day_quantity l.phase) (take l.counts.points us)

  length_shares : length shares_of ≡ l.counts.points
  unfolding shares_of
  length_shares = law.places _ (take l.counts.points us) ∙ length-take-le l.counts.points us ok.uses

  given_is : ss' ≡ rule (day_quantity l.phase) (take l.counts.points us) ++ drop l.counts.points ss
  given_is = d ∙ ap (λ (x : ℕ). rule x (take l.counts.points us) ++ drop l.counts.points ss) q

  front_is_shares : take l.counts.points ss' ≡ shares_of
  unfolding shares_of
  front_is_shares = ap (take l.counts.points) given_is
      ∙ take_at shares_of (drop l.counts.points ss) l.counts.points length_shares

  -- the shares come to no more than the quantity
  sum_small : sum shares_of ≤ day_quantity l.phase
  unfolding shares_of
  sum_small = shares_within law (day_quantity l.phase) (take l.counts.points us)

  pub creditable : CanCredit l.traders (take l.counts.points s) (take l.counts.points ss')
  creditable =
      let n = l.counts.points in
      let few = so.traders in
      record {
        places = so.places;
        each = ap length front_is_shares ∙ length_shares ∙ sym (length-take-le n s ok.room);
        rows =
            λ k h.
            let len = length-take-le n s ok.room in
            let below : k < n = omega arith in
            let r = shareable l.counts.traders (row_at s k)
            (row_of_all (may_share l.counts.traders) s n k ok.rows ok.room below) in
            let own = r.owned in
            subst (IsShareable max_traders) (sym (get_or-take n s k no_row below))
            (record {
              owned = omega arith;
              segment = r.segment;
              open_sum = r.open_sum;
              period_sum = r.period_sum;
            });
        small =
            let e = ap sum front_is_shares in
            let a = sum_small in
            let b = quantity_small l.phase _ _ so.day in
            omega arith;
        accounts =
            λ t.
            let a = so.shared in
            let b = so.bookings in
            let r = so.readings in
            near_more _ (account_limit l.counts) 5_900_000_000_000_000_000 (so.accounts t)
            (omega arith);
      }

  pub ready : (ts : List Trader) → ts ≡ with_shares l.traders (take l.counts.points s)
      (take l.counts.points ss') (length (take l.counts.points s)) → CanSettle ts
  ready ts e = subst CanSettle (sym e) (settling l.traders (take l.counts.points s)
      (take l.counts.points ss') (length (take l.counts.points s)) so.places so.metered creditable)

  abbrev day_closed : List Trader → ℕ → Book
  day_closed ts x =
      record l {
        traders = ts;
        counts = record l.counts { shared = l.counts.shared + 1 };
        loss = l.loss + x;
        next_day = l.next_day + 1;
        phase = Idle;
      }

  pub closed_book : (loss : ℕ) (ts₁ ts₂ : List Trader) → loss ≡ day_loss l.phase →
      ts₁ ≡ with_shares l.traders (take l.counts.points s) (take l.counts.points ss')
      (length (take l.counts.points s)) → ts₂ ≡ map settled_trader ts₁ →
      day_closed ts₂ loss ≡ shared_book l s (rule (day_quantity l.phase) (take l.counts.points us))
  unfolding shares_of
  closed_book loss ts₁ ts₂ x e₁ e₂ =
      let n = l.counts.points in
      let len = length-take-le n s ok.room in
      let traders : with_shares l.traders (take n s) (take n ss') (length (take n s))
      ≡ with_shares l.traders s shares_of n =
      ap (with_shares l.traders (take n s) (take n ss')) len
      ∙ credited_to_part l.traders s ss' n n (omega arith)
      ∙ ap (λ (u : List ℕ). with_shares l.traders s u n) given_is
      ∙ credited_to_front l.traders s shares_of (drop n ss) n
      (let p = length_shares in omega arith) in
      ap (λ (y : ℕ). day_closed ts₂ y) x
      ∙ ap (λ (ts : List Trader). day_closed ts (day_loss l.phase))
      (e₂ ∙ ap (map settled_trader) (e₁ ∙ traders))

  pub closed_rows : (factors : ℕ → Factors) (rows : List Point) →
      rows ≡ shared_rows factors (take l.counts.points s) (take l.counts.points ss')
      (length (take l.counts.points s)) → rows ++ drop l.counts.points s
      ≡ shared_rows factors s (rule (day_quantity l.phase) (take l.counts.points us))
      l.counts.points
  unfolding shares_of
  closed_rows factors rows r =
      let n = l.counts.points in
      let len = length-take-le n s ok.room in
      ap (λ (u : List Point). u ++ drop n s) (r ∙ ap
      (shared_rows factors (take n s) (take n ss')) len)
      ∙ shared_rows_part factors s ss' n n ok.room (omega arith)
      ∙ ap (λ (u : List ℕ). shared_rows factors s u n) given_is
      ∙ shared_rows_front factors s shares_of (drop n ss) n
      (let p = length_shares in omega arith)

  pub closed_sound : running_days l.phase ≡ 1 → IsSound
      (shared_book l s (rule (day_quantity l.phase) (take l.counts.points us)))
  unfolding shares_of
  closed_sound due =
      let a = sum_small in
      let b = day_small l.phase _ _ so.day so.metered due in
      shared_sound l s shares_of so due (omega arith)

-- The call as a whole.

-- the last ground is met or not, once the first are passed
fault_by : (l : Book) (s : List Point) (day : MeasuredDay) (m : ShareOutInputs) (b : Bool) →
    early_fault l s day m ≡ None → has_no_weight l s m.tells ≡ b →
    share_out_fault l s day m ≡ cond b (Some NoWeight) None
fault_by l s day m b none weight =
    ap (λ (o : Option Refusal). unless o (cond (has_no_weight l s m.tells) (Some NoWeight) None) o)
    none
    ∙ ap (λ (c : Bool). cond c (Some NoWeight) None) weight

module _ (l : Book) (s : List Point) (day : MeasuredDay) (m : ShareOutInputs) where
  -- one of the first grounds is met
  pub turned_away : (why : Refusal) → early_fault l s day m ≡ Some why →
      SharesOut l s day m (Err (record { why = why; given = day })) l s m.sheets
  turned_away why some =
      let fault : share_out_fault l s day m ≡ Some why =
      ap (λ (o : Option Refusal). unless o (cond (has_no_weight l s m.tells) (Some NoWeight) None)
      o) some in
      let n = l.counts.points in
      let zeros = cond (has_no_weight l s m.tells) (replicate n 0) (day_consumptions l s m.tells) in
      record {
        became = turned_down day (share_out_fault l s day m) l s
            (accepted_share_out l s m) why fault;
        uses = sym (ap (λ (o : Option Refusal). unless o
            (zeros ++ drop n m.sheets.uses) m.sheets.uses) some);
        shares = sym (ap (λ (o : Option Refusal). unless o
            (day_shares l s m.tells m.rule ++ drop n m.sheets.shares) m.sheets.shares) fault);
      }

  module _ (us' : List ℕ) (total quantity : ℕ) (none : early_fault l s day m ≡ None)
      (e : us' ≡ day_consumptions l s m.tells ++ drop l.counts.points m.sheets.uses)
      (t : total ≡ sum (day_consumptions l s m.tells)) (q : quantity ≡ day_quantity l.phase) where
    weighable : IsWeighable l s (length m.sheets.uses)
    weighable = passed l s day m.segments (length m.sheets.uses) (length m.sheets.shares) none

    -- what the first work sheet then holds
    uses_are : (b : Bool) (first : List ℕ) → has_no_weight l s m.tells ≡ b →
        cond b (replicate l.counts.points 0) (day_consumptions l s m.tells) ≡ first →
        (work_sheets_after l s day m).uses ≡ first ++ drop l.counts.points m.sheets.uses
    uses_are b first weight is =
        let n = l.counts.points in
        let rest = drop n m.sheets.uses in
        ap (λ (o : Option Refusal). unless o (cond (has_no_weight l s m.tells) (replicate n 0)
        (day_consumptions l s m.tells) ++ rest) m.sheets.uses) none
        ∙ ap (λ (c : Bool). cond c (replicate n 0) (day_consumptions l s m.tells) ++ rest) weight
        ∙ ap (λ u. u ++ rest) is

    -- there is a quantity above zero, and nobody has any weight
    pub weightless : 0 < quantity → total ≡ 0 → SharesOut l s day m
        (Err (record { why = NoWeight; given = day })) l s
        (record { uses = us'; shares = m.sheets.shares })
    weightless some z =
        let n = l.counts.points in
        let zero-sum : sum (day_consumptions l s m.tells) ≡ 0 = sym t ∙ z in
        let weight : has_no_weight l s m.tells ≡ true = grind (arith, nat_tests) in
        let fault : share_out_fault l s day m ≡ Some NoWeight = fault_by l s day m true none weight
        in
        let zeros : day_consumptions l s m.tells ≡ replicate n 0 =
        none_left (day_consumptions l s m.tells) zero-sum
        ∙ ap (λ (k : ℕ). replicate k 0) (length-consumptions l s m.tells weighable.room) in
        record {
          became = turned_down day (share_out_fault l s day m) l s
              (accepted_share_out l s m) NoWeight fault;
          uses = e ∙ ap (λ u. u ++ drop n m.sheets.uses) zeros
              ∙ sym (uses_are true (replicate n 0) weight refl);
          shares = sym (ap (λ (o : Option Refusal). unless o
              (day_shares l s m.tells m.rule ++ drop n m.sheets.shares) m.sheets.shares) fault);
        }

    -- what the rule is handed are the day's consumptions
    front_is : take l.counts.points us' ≡ day_consumptions l s m.tells
    front_is =
        let n = l.counts.points in
        ap (take n) e ∙ take_at (day_consumptions l s m.tells) (drop n m.sheets.uses) n
        (length-consumptions l s m.tells weighable.room)

    -- the day was shared out
    pub shared_out : (loss : ℕ) (factors : List Factors) (l' : Book) (s' : List Point)
        (ss' : List ℕ) → loss ≡ day_loss l.phase →
        factors ≡ map (factors_on l.phase m.tells) (range_with_len 0 8) →
        (ltb 0 quantity && eqb total 0) ≡ false →
        ss' ≡ m.rule (day_quantity l.phase) (take l.counts.points us')
        ++ drop l.counts.points m.sheets.shares →
        l' ≡ shared_book l s (m.rule (day_quantity l.phase) (take l.counts.points us')) →
        s' ≡ shared_rows (factors_at factors) s (m.rule (day_quantity l.phase)
        (take l.counts.points us')) l.counts.points →
        SharesOut l s day m (Ok (record { quantity = quantity; total = total; loss = loss })) l' s'
        (record { uses = us'; shares = ss' })
    shared_out loss factors l' s' ss' x asked some d b r =
        let n = l.counts.points in
        let given = day_shares l s m.tells m.rule in
        let same : m.rule (day_quantity l.phase) (take n us')
        ≡ given = ap (m.rule (day_quantity l.phase)) front_is in
        let weight : has_no_weight l s m.tells ≡ false =
        ap (λ (y : ℕ). ltb 0 y && eqb (sum (day_consumptions l s m.tells)) 0) (sym q)
        ∙ ap (λ (y : ℕ). ltb 0 quantity && eqb y 0) (sym t) ∙ some in
        let fault : share_out_fault l s day m ≡ None = fault_by l s day m false none weight in
        record {
          became =
              accepted day (share_out_fault l s day m) l s (accepted_share_out l s m) _ l' s' fault
              (ap (λ (y : ℕ). Ok (record { quantity = y; total = total; loss = loss })) q
              ∙ ap (λ (y : ℕ). Ok (record {
                quantity = day_quantity l.phase;
                total = y;
                loss = loss;
              })) t
              ∙ ap (λ (y : ℕ). Ok (record {
                quantity = day_quantity l.phase;
                total = sum (day_consumptions l s m.tells);
                loss = y;
              })) x)
              (b ∙ ap (shared_book l s) same)
              (r ∙ ap (λ u. shared_rows (factors_at factors) s u n) same
              ∙ booked_is l s m.tells (length m.sheets.uses) weighable factors asked given);
          uses = e ∙ sym (uses_are false (day_consumptions l s m.tells) weight refl);
          shares =
              d ∙ ap (λ u. u ++ drop n m.sheets.shares) same
              ∙ sym (ap (λ (o : Option Refusal). unless o
              (given ++ drop n m.sheets.shares) m.sheets.shares) fault);
        }
